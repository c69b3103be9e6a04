-- How a line is read: a word, and then its numbers.
use Rattle.std.specs.Prelude.{ℕ, List, length, drop, nat_eq, if◌then◌else◌, codes, ℤ, Option, Some, None, option_map, option_and_then}
use Rattle.std.specs.List.{starts_with}
use Rattle.std.specs.Option.{option_map_or}
use Rattle.journal_text.specs.declared.lines.Line.{Line}
use Rattle.journal_text.specs.declared.lines.Line.TheVariants.{Load, Targets, Tick, Sweep, Body, Quoted, Lost, Garbled, Unsent, Oversize, Halt}
use Rattle.journal_text.specs.declared.versions.Version.{Version}
use Rattle.journal_text.specs.declared.versions.Version.TheVariants.{One, Two}
use Rattle.outside.specs.Sizes.{most_name_bytes, most_text_bytes, most_body_bytes}
use Rattle.journal_text.specs.NumberReadings.{field, moment_field, word_field}

-- a moment and a number, and the end of the line
unfoldable pub pair_fields : List ℕ → Option (ℤ × ℕ × List ℕ)
pair_fields bytes = option_and_then (λ p. option_map (λ q. (p.0, q.0, q.1)) (word_field 10 p.1)) (moment_field 32 bytes)

-- the numbers of each line
unfoldable pub load_line : List ℕ → Option (Line × List ℕ)
load_line bytes = option_and_then (λ p. option_map (λ q. (Load p.0 q.0, q.1)) (field 0 most_text_bytes 10 p.1)) (moment_field 32 bytes)

unfoldable pub targets_line : List ℕ → Option (Line × List ℕ)
targets_line bytes =
    option_and_then
    (λ m. option_and_then (λ j. option_and_then
    (λ f. option_map (λ t. (Targets m.0 j.0 f.0 t.0, t.1)) (field 0 most_text_bytes 10 f.1))
    (field 1 most_name_bytes 32 j.1)) (field 1 most_name_bytes 32 m.1))
    (moment_field 32 bytes)

unfoldable pub tick_line : List ℕ → Option (Line × List ℕ)
tick_line bytes = option_map (λ p. (Tick p.0 p.1, p.2)) (pair_fields bytes)

unfoldable pub sweep_line : List ℕ → Option (Line × List ℕ)
sweep_line bytes = option_map (λ p. (Sweep p.0, p.1)) (moment_field 10 bytes)

unfoldable pub body_line : List ℕ → Option (Line × List ℕ)
body_line bytes =
    option_and_then
    (λ m. option_and_then (λ t. option_and_then
    (λ s. option_map (λ n. (Body m.0 t.0 s.0 n.0, n.1)) (field 0 most_body_bytes 10 s.1)) (field 100 999 32 t.1))
    (word_field 32 m.1))
    (moment_field 32 bytes)

unfoldable pub quoted_line : List ℕ → Option (Line × List ℕ)
quoted_line bytes =
    option_and_then
    (λ m. option_and_then
    (λ t. option_and_then
    (λ s. option_map (λ n. (Quoted m.0 t.0 s.0 n.0, n.1)) (field 0 most_body_bytes 10 s.1))
    (field 100 999 32 t.1))
    (word_field 32 m.1))
    (moment_field 32 bytes)

unfoldable pub lost_line : List ℕ → Option (Line × List ℕ)
lost_line bytes = option_map (λ p. (Lost p.0 p.1, p.2)) (pair_fields bytes)

unfoldable pub garbled_line : List ℕ → Option (Line × List ℕ)
garbled_line bytes = option_map (λ p. (Garbled p.0 p.1, p.2)) (pair_fields bytes)

unfoldable pub unsent_line : List ℕ → Option (Line × List ℕ)
unsent_line bytes = option_map (λ p. (Unsent p.0 p.1, p.2)) (pair_fields bytes)

unfoldable pub oversize_line : List ℕ → Option (Line × List ℕ)
oversize_line bytes = option_map (λ p. (Oversize p.0 p.1, p.2)) (pair_fields bytes)

unfoldable pub halt_line : List ℕ → Option (Line × List ℕ)
halt_line bytes = option_map (λ p. (Halt p.0, p.1)) (moment_field 10 bytes)

-- what follows a word, where the bytes begin with it
unfoldable pub after : List ℕ → List ℕ → Option (List ℕ)
after word bytes = if starts_with nat_eq bytes word then Some (drop (length word) bytes) else None

-- what is read behind a word, or else something other
abbrev pub behind : List ℕ → (List ℕ → Option (Line × List ℕ)) → List ℕ → Option (Line × List ℕ) → Option (Line × List ℕ)
behind word read bytes other = option_map_or read (after word bytes) other

-- the line that bytes of version 1 begin with, and what follows it: first of the lines with a moment, then of those of a finish
unfoldable pub finish_line_in : List ℕ → Option (Line × List ℕ)
finish_line_in bytes =
    behind (codes "body ") body_line bytes (behind (codes "lost ") lost_line bytes (behind (codes "garbled ") garbled_line bytes
    (behind (codes "unsent ") unsent_line bytes (behind (codes "oversize ") oversize_line bytes None))))

unfoldable pub first_line_in : List ℕ → Option (Line × List ℕ)
first_line_in bytes =
    behind (codes "load ") load_line bytes (behind (codes "targets ") targets_line bytes (behind (codes "tick ") tick_line bytes
    (behind (codes "sweep ") sweep_line bytes (behind (codes "halt ") halt_line bytes (finish_line_in bytes)))))

-- so of a version, the second of which has one line more
unfoldable pub line_in : Version → List ℕ → Option (Line × List ℕ)
line_in One bytes = first_line_in bytes
line_in Two bytes = behind (codes "quoted ") quoted_line bytes (first_line_in bytes)
