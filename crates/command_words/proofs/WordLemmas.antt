-- What `clap` makes of the words, in the words of the definitions.
use Rattle.std.proofs.Common.{◌≡◌, ◌≢◌, ◌∙◌, refl, sym, ap, true, subst, ⊎_elim, List, ℕ, [], ◌∷◌}
use Rattle.std.specs.Prelude.{Bool, false, Option, Some, None, codes}
use Rattle.std.specs.Option.{option_map_or}
use Rattle.std.specs.Str.{bytes_eq}
use Rattle.clap.specs.Words.{App, Text, Row, HasMatchesOf, found_of, rows_of, kind_of, first_of, first_value, is_simple}
use Rattle.clap.specs.Kinds.{Kinds, IsAmong, HasKind}
use Rattle.clap.specs.Faults.{is_simple_and_free, fault_of}
use Rattle.clap.specs.declared.error.Error.{Error}
use Rattle.clap.specs.declared.error.kind.ErrorKind.TheVariants.{OutOfMemory}
use Rattle.clap.specs.declared.parser.matches.ArgMatches.{ArgMatches}
use Rattle.clap.proofs.OnLiterals.{clap_on_literals}
use Rattle.clap.proofs.WalkLemmas.{first_value-rows}
use Rattle.command_words.specs.Arguments.{replay_app, file_app, at_app, synth_app, run_app, serve_app, app_for, fault_in, rows_in}
use Rattle.command_words.specs.Words.{order_of, asked_in, order_by, file_in, file_asked, unless_refused, is_given}
use Rattle.command_words.specs.declared.words.Verb.{Verb}
use Rattle.command_words.specs.declared.words.Verb.TheVariants.{Replay, Check, Convert, At, Synth, Run, Serve}
use Rattle.command_words.specs.declared.words.Asked.{Asked}
use Rattle.command_words.specs.declared.words.Order.{Order}

free_replay : is_simple_and_free replay_app ≡ true
unfolding replay_app clap_on_literals
free_replay = refl

free_check : is_simple_and_free (file_app (codes "check")) ≡ true
unfolding file_app clap_on_literals
free_check = refl

free_convert : is_simple_and_free (file_app (codes "convert")) ≡ true
unfolding file_app clap_on_literals
free_convert = refl

free_at : is_simple_and_free at_app ≡ true
unfolding at_app clap_on_literals
free_at = refl

free_synth : is_simple_and_free synth_app ≡ true
unfolding synth_app clap_on_literals
free_synth = refl

free_run : is_simple_and_free run_app ≡ true
unfolding run_app clap_on_literals
free_run = refl

free_serve : is_simple_and_free serve_app ≡ true
unfolding serve_app clap_on_literals
free_serve = refl

simple_replay : is_simple replay_app ≡ true
unfolding replay_app clap_on_literals
simple_replay = refl

simple_check : is_simple (file_app (codes "check")) ≡ true
unfolding file_app clap_on_literals
simple_check = refl

simple_convert : is_simple (file_app (codes "convert")) ≡ true
unfolding file_app clap_on_literals
simple_convert = refl

simple_at : is_simple at_app ≡ true
unfolding at_app clap_on_literals
simple_at = refl

simple_synth : is_simple synth_app ≡ true
unfolding synth_app clap_on_literals
simple_synth = refl

simple_run : is_simple run_app ≡ true
unfolding run_app clap_on_literals
simple_run = refl

simple_serve : is_simple serve_app ≡ true
unfolding serve_app clap_on_literals
simple_serve = refl

is_free : (command : Verb) → is_simple_and_free (app_for command) ≡ true
is_free Replay = free_replay
is_free Check = free_check
is_free Convert = free_convert
is_free At = free_at
is_free Synth = free_synth
is_free Run = free_run
is_free Serve = free_serve

has_simple : (command : Verb) → is_simple (app_for command) ≡ true
has_simple Replay = simple_replay
has_simple Check = simple_check
has_simple Convert = simple_convert
has_simple At = simple_at
has_simple Synth = simple_synth
has_simple Run = simple_run
has_simple Serve = simple_serve

module _ (command : Verb) (words : List Text) (app : App) (is : app ≡ app_for command) where
  -- words that are taken have no fault
  pub sound_by : (is_simple_and_free app ≡ true → fault_of app words ≡ []) → fault_in command words ≡ []
  unfolding fault_in
  sound_by h = subst (λ (a : App). is_simple_and_free a ≡ true → fault_of a words ≡ []) is h (is_free command)

  -- and the values of the grammar
  pub rows_by : (m : ArgMatches) → HasMatchesOf app words m → rows_of (found_of m) ≡ rows_in command words
  unfolding rows_in
  rows_by m h = (subst (λ (a : App). HasMatchesOf a words m) is h (has_simple command)).0

  -- words that are refused have a fault, unless memory ran out
  pub refused_by : (e : Error) → (is_simple_and_free app ≡ true → HasKind (fault_of app words) e) → kind_of e ≢ OutOfMemory → fault_in command words ≢ []
  unfolding fault_in
  refused_by e h other none =
      ⊎_elim (λ memory. other memory) (λ among. subst (λ (ks : Kinds). IsAmong (kind_of e) ks) none among)
      (subst (λ (a : App). is_simple_and_free a ≡ true → HasKind (fault_of a words) e) is h (is_free command))

-- a flag and the file, as the matches have them
abbrev is_true : Option (List ℕ) → Bool
is_true value = option_map_or (λ (v : List ℕ). bytes_eq v (codes "true")) value false

pub given_by : (id : Text) (m : ArgMatches) (value : Option (List ℕ)) → value ≡ first_value (found_of m) id → is_true value ≡ is_given id (rows_of (found_of m))
given_by id m value is = ap is_true (is ∙ first_value-rows (found_of m) id)

pub word_by : (id : Text) (m : ArgMatches) (value : Option (List ℕ)) → value ≡ first_value (found_of m) id → value ≡ first_of id (rows_of (found_of m))
word_by id m value is = is ∙ first_value-rows (found_of m) id

-- what is asked for by values
unless_none : (kinds : Kinds) (order : Option Order) → kinds ≢ [] → unless_refused kinds order ≡ None
unless_none [] order some = absurd (some refl)
unless_none (k ∷ kinds) order some = refl

module _ (command : Verb) (words : List Text) where
  pub order_none : fault_in command words ≢ [] → order_of command words ≡ None
  unfolding order_of
  order_none h = unless_none (fault_in command words) (order_by command (rows_in command words)) h

  pub order_is : (rows : List Row) → fault_in command words ≡ [] → rows ≡ rows_in command words → order_of command words ≡ order_by command rows
  unfolding order_of
  order_is rows sound are =
      ap (λ (ks : Kinds). unless_refused ks (order_by command (rows_in command words))) sound ∙ ap (order_by command) (sym are)

-- the name of the file that is asked for
pub file_of_words : (words : List Text) (a : Asked) → asked_in words ≡ Some a → file_asked a ≡ file_in words
file_of_words words a is = sym (ap (λ (o : Option Asked). option_map_or file_asked o []) is)
