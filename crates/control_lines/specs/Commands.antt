-- What a line of the control input asks for, which is a format of this project's own: `load FILE` or `targets JOB FILE`, in UTF-8, with one
-- blank between words. A job's name has no blank there; the file's is the rest of the line.
use Rattle.std.specs.Prelude.{ℕ, ◌==◌, ◌&&◌, Bool, List, length, drop, nat_lt, nat_le, nat_eq, codes, Option, Some, None, if◌then◌else◌}
use Rattle.std.specs.List.{starts_with, position_or_len, before_first, after_first}
use Rattle.std.specs.Option.{option_map_or}
use Rattle.std.specs.Str.{is_utf8}
use Rattle.journal_text.specs.Lines.{IsNameLength}
use Rattle.outside.specs.Sizes.{most_name_bytes}
use Rattle.control_lines.specs.declared.commands.Command.{Command}
use Rattle.control_lines.specs.declared.commands.Command.TheVariants.{Load, Targets}

-- the name of a job or of a file has from 1 to 4,096 bytes
abbrev pub is_name : List ℕ → Bool
is_name text = nat_lt 0 (length text) && nat_le (length text) most_name_bytes

-- what follows a word, where the text begins with it
unfoldable pub after : List ℕ → List ℕ → Option (List ℕ)
after word text = if starts_with nat_eq text word then Some (drop (length word) text) else None

-- a load of a file
unfoldable pub load_in : List ℕ → Option Command
load_in file = if is_utf8 file && is_name file then Some (Load file) else None

-- the targets of a job in a file: the job's name ends at the first blank
abbrev pub is_blank : ℕ → Bool
is_blank b = b == 32

abbrev pub has_blank : List ℕ → Bool
has_blank text = nat_lt (position_or_len is_blank text) (length text)

abbrev pub named_targets : List ℕ → List ℕ → Option Command
named_targets job file = if is_name job && is_name file then Some (Targets job file) else None

unfoldable pub targets_in : List ℕ → Option Command
targets_in text = if is_utf8 text && has_blank text then named_targets (before_first is_blank text) (after_first is_blank text) else None

-- the command of a line; none where it is no command
unfoldable pub command_in : List ℕ → Option Command
command_in line = option_map_or load_in (after (codes "load ") line) (option_map_or targets_in (after (codes "targets ") line) None)

-- the names of a command keep their lengths
abbrev pub IsNamed : Command → Type 0
IsNamed (Load file) = IsNameLength (length file)
IsNamed (Targets job file) = IsNameLength (length job) × IsNameLength (length file)
