-- A command over a file, a live run, and serving.
use Rattle.std.specs.Prelude.{ℕ, List, Bool}
use Rattle.command_words.specs.declared.words.Command.{Command}

-- a command over a file, whether with `--kept`, and the name of its file
pub record Asking : Type 0 where
  pub command : Command
  pub kept : Bool
  pub file : List ℕ

abbrev pub asking : Bool → List ℕ → Command → Asking
asking kept file command = record { command = command; kept = kept; file = file }

-- a live run: how many sweeps it makes, whether with `--kept`, and the name of the file of its first configuration
pub record Running : Type 0 where
  pub turns : ℕ
  pub kept : Bool
  pub file : List ℕ

abbrev pub running : ℕ → Bool → List ℕ → Running
running turns kept file = record { turns = turns; kept = kept; file = file }

-- serving: the file of the script whose core answers, and the file that a reload loads
pub record Serving : Type 0 where
  pub script : List ℕ
  pub file : List ℕ

abbrev pub serving : List ℕ → List ℕ → Serving
serving script file = record { script = script; file = file }
