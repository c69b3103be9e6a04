-- What the words of the command line ask for.
use Rattle.std.specs.Prelude.{ℕ, ◌+◌, ◌*◌, ◌^◌, List, [], ◌∷◌, length, Bool, false, ◌&&◌, ◌==◌, nat_le, nat_lt, codes, Option, Some, None, option_map, option_and_then, if◌then◌else◌}
use Rattle.std.specs.Option.{option_map_or}
use Rattle.std.specs.Str.{bytes_eq}
use Rattle.std.specs.Str.Parse.{digits_value}
use Rattle.clap.specs.Kinds.{Kinds}
use Rattle.clap.specs.Words.{Row, Text, first_of}
use Rattle.value_text.specs.Values.{digits}
use Rattle.outside.specs.Sizes.{most_body_bytes, most_text_bytes}
use Rattle.synth.specs.Scripts.{plan, most_targets, most_scrapes, most_scrapes_of_all}
use Rattle.synth.specs.declared.scripts.Plan.{Plan}
use Rattle.command_words.specs.Arguments.{kept_id, cut_id, file_id, ms_id, selector_id, seed_id, targets_id, scrapes_id, turns_id, script_id, fault_in, rows_in}
use Rattle.command_words.specs.Askings.{Asking, asking, running, serving}
use Rattle.command_words.specs.Instants.{instant}
use Rattle.command_words.specs.declared.words.Verb.{Verb}
use Rattle.command_words.specs.declared.words.Verb.TheVariants as verb
use Rattle.command_words.specs.declared.words.Command.{Command}
use Rattle.command_words.specs.declared.words.Command.TheVariants.{Replay, Check, Convert, At}
use Rattle.command_words.specs.declared.words.Asked.{Asked}
use Rattle.command_words.specs.declared.words.Asked.TheVariants.{File, Synth}
use Rattle.command_words.specs.declared.words.Order.{Order}
use Rattle.command_words.specs.declared.words.Order.TheVariants.{Still, Run, Serve}

-- the command of a word
abbrev pub verb_named : List ℕ → Option Verb
verb_named word =
    if bytes_eq word (codes "replay") then Some verb.Replay
    else if bytes_eq word (codes "check") then Some verb.Check
    else if bytes_eq word (codes "convert") then Some verb.Convert
    else if bytes_eq word (codes "at") then Some verb.At
    else if bytes_eq word (codes "synth") then Some verb.Synth
    else if bytes_eq word (codes "run") then Some verb.Run
    else if bytes_eq word (codes "serve") then Some verb.Serve
    else None

-- a flag was given: its value is then `true`
abbrev pub is_given : Text → List Row → Bool
is_given id rows = option_map_or (λ value. bytes_eq value (codes "true")) (first_of id rows) false

-- a command over the file that was named
abbrev pub asked_by_file : Command → List Row → Option Asked
asked_by_file command rows = option_map (λ file. File (asking (is_given kept_id rows) file command)) (first_of file_id rows)

-- a replay of the file that was named, as of a script that may have been cut where `--cut` was given
abbrev pub replay_asked : List Row → Option Asked
replay_asked rows = asked_by_file (Replay (is_given cut_id rows)) rows

-- 1 to so many digits
abbrev pub is_number : ℕ → List ℕ → Bool
is_number most text = (digits text == length text) && (nat_le 1 (length text) && nat_le (length text) most)

-- the number that they spell, where it is below a limit
unfoldable pub number_below : ℕ → ℕ → List ℕ → Option ℕ
number_below most limit text = if is_number most text && nat_lt (digits_value 10 text) limit then Some (digits_value 10 text) else None

-- the number that was given for an argument
abbrev pub number_in : Text → ℕ → ℕ → List Row → Option ℕ
number_in id most limit rows = option_and_then (number_below most limit) (first_of id rows)

-- what a selector sees at a moment, by the script in the file that was named
abbrev pub asked_by_moment : List Row → Option ℕ → Option (List ℕ) → Option Asked
asked_by_moment rows (Some moment) (Some selector) = asked_by_file (At (instant moment selector)) rows
asked_by_moment rows _ _ = None

abbrev pub at_asked : List Row → Option Asked
at_asked rows = asked_by_moment rows (number_in ms_id 16 (2 ^ 52) rows) (first_of selector_id rows)

-- whether a script of these numbers may be made: of one target at least, and of no more scrapes in all than it may have
unfoldable pub is_plan : Plan → Bool
is_plan p = nat_le 1 p.targets && nat_le (p.targets * p.scrapes) most_scrapes_of_all

abbrev pub unless_large : Plan → Option Asked
unless_large p = if is_plan p then Some (Synth p) else None

-- the script of a seed, a number of targets and a number of scrapes
abbrev pub asked_by_numbers : Option ℕ → Option ℕ → Option ℕ → Option Asked
asked_by_numbers (Some seed) (Some targets) (Some scrapes) = unless_large (plan seed targets scrapes)
asked_by_numbers _ _ _ = None

-- a live run of so many sweeps over the file that was named
abbrev pub order_by_turns : Bool → Option ℕ → Option (List ℕ) → Option Order
order_by_turns kept (Some turns) (Some file) = Some (Run (running turns kept file))
order_by_turns kept _ _ = None

-- serving of the script that was named, with the file that a reload loads
abbrev pub order_by_script : Option (List ℕ) → Option (List ℕ) → Option Order
order_by_script (Some script) (Some file) = Some (Serve (serving script file))
order_by_script _ _ = None

-- the workload of the numbers that were given
abbrev pub workload_by : List Row → Option Asked
workload_by rows =
    asked_by_numbers (number_in seed_id 10 (2 ^ 32) rows) (number_in targets_id 10 (most_targets + 1) rows) (number_in scrapes_id 10 (most_scrapes + 1) rows)

-- a command with the values that its arguments have
abbrev pub order_by : Verb → List Row → Option Order
order_by verb.Replay rows = option_map Still (replay_asked rows)
order_by verb.Check rows = option_map Still (asked_by_file Check rows)
order_by verb.Convert rows = option_map Still (asked_by_file Convert rows)
order_by verb.At rows = option_map Still (at_asked rows)
order_by verb.Synth rows = option_map Still (workload_by rows)
order_by verb.Run rows = order_by_turns (is_given kept_id rows) (number_in turns_id 10 1000001 rows) (first_of file_id rows)
order_by verb.Serve rows = order_by_script (first_of script_id rows) (first_of file_id rows)

-- nothing is asked for by words that are refused
abbrev pub unless_refused : Kinds → Option Order → Option Order
unless_refused [] order = order
unless_refused (k ∷ kinds) order = None

-- what the words ask a command for, of which the first is its own: nothing where its grammar doesn't take them
unfoldable pub order_of : Verb → List (List ℕ) → Option Order
order_of v words = unless_refused (fault_in v words) (order_by v (rows_in v words))

-- what the words ask for: the first is the command, and those behind it are what the command's grammar takes
abbrev pub order_in : List (List ℕ) → Option Order
order_in [] = None
order_in (word ∷ words) = option_and_then (λ v. order_of v (word ∷ words)) (verb_named word)

-- what the program does by itself
abbrev pub still_of : Order → Option Asked
still_of (Still a) = Some a
still_of (Run r) = None
still_of (Serve s) = None

-- what the words ask for that it does by itself
abbrev pub asked_in : List (List ℕ) → Option Asked
asked_in words = option_and_then still_of (order_in words)

-- the name of the file that is asked for; none where there is no file
abbrev pub file_asked : Asked → List ℕ
file_asked (File a) = a.file
file_asked (Synth p) = []

-- the name of the file in these words
abbrev pub file_in : List (List ℕ) → List ℕ
file_in words = option_map_or file_asked (asked_in words) []

-- a command over a file is asked for, and something holds of that
abbrev pub OfFile : (Asking → Type 0) → Asked → Type 0
OfFile P (File a) = P a
OfFile P (Synth p) = ⊥

-- a script is at most 256 MiB long, a configuration as long as one may be, and so is a body
abbrev pub limit_of : Command → ℕ
limit_of (Replay cut) = 268435456
limit_of Check = most_text_bytes
limit_of Convert = most_body_bytes
limit_of (At i) = 268435456
