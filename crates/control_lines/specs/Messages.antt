-- What is said of a control line that doesn't succeed.
use Rattle.std.specs.Prelude.{ℕ, List, [], ◌++◌, codes, Option, Some, None}
use Rattle.std.specs.Fmt.{decimal}
use Rattle.control_lines.specs.Faults.{fault_text}
use Rattle.control_lines.specs.declared.messages.Refusal.{Refusal}
use Rattle.control_lines.specs.declared.messages.Refusal.TheVariants.{NotACommand, Absent, TooLong, Refused, NoJob, NoFile}

-- the words of a refusal
abbrev pub refusal_text : Refusal → List ℕ
refusal_text NotACommand = codes "not a command"
refusal_text Absent = codes "absent"
refusal_text TooLong = codes "too long"
refusal_text (Refused fault) = codes "refused " ++ fault_text fault
refusal_text NoJob = codes "no job"
refusal_text NoFile = codes "no file"

-- the message of line n, counted from 1
abbrev pub message : ℕ → Refusal → List ℕ
message n why = codes "control " ++ (decimal n ++ (codes ": " ++ (refusal_text why ++ codes "\n")))

-- what is said of line n: nothing where it succeeds
abbrev pub said_of : ℕ → Option Refusal → List ℕ
said_of n None = []
said_of n (Some why) = message n why
