-- Lines: what is read is spelled so, and what is spelled is read.
use Rattle.std.proofs.Common.{◌≡◌, ℕ, ◌-◌, ◌<◌, ◌^◌, false, List, [], ◌∷◌, ◌++◌, length, drop, Option, Some, None, option_map, option_and_then, refl, sym, ap, ◌∙◌, subst, arith, nat_eq, append_assoc, ℤ, pos, negsuc, codes, Bor}
use Rattle.std.specs.Char.{is_ascii_digit}
use Rattle.std.specs.Fmt.{decimal}
use Rattle.std.specs.List.{starts_with}
use Rattle.std.specs.Option.{option_map_or, IfSome}
use Rattle.std.proofs.lemmas.Option.{cond_some, none-some, option_and_then_some}
use Rattle.std.proofs.lemmas.Slice.Eq.{starts_is}
use Rattle.std.proofs.lemmas.Bool.Decides.{Decides-eqb}
use Rattle.outside.specs.Sizes.{most_name_bytes, most_text_bytes, most_body_bytes}
use Rattle.journal_text.specs.declared.lines.Line.{Line}
use Rattle.journal_text.specs.declared.lines.Line.TheVariants.{Load, Targets, Tick, Sweep, Body, Quoted, Lost, Garbled, Unsent, Oversize, Halt}
use Rattle.journal_text.specs.Lines.{number, line_text, IsMoment, IsWord, InRange}
use Rattle.journal_text.specs.Versions.{HasLine}
use Rattle.journal_text.specs.declared.versions.Version.{Version}
use Rattle.journal_text.specs.declared.versions.Version.TheVariants.{One, Two}
use Rattle.journal_text.specs.NumberReadings.{field, moment_field, word_field}
use Rattle.journal_text.specs.LineReadings.{pair_fields, load_line, targets_line, tick_line, sweep_line, body_line, quoted_line, lost_line, garbled_line, unsent_line, oversize_line, halt_line, after, behind, finish_line_in, first_line_in, line_in}
use Rattle.journal_text.proofs.NumberLemmas.{field-decimal, field-some, option_map_some}

-- a moment and a byte behind it
record Moment (stop : ℕ) (bytes : List ℕ) (p : ℤ × List ℕ) : Type 0 where
  range : IsMoment p.0
  text : bytes ≡ decimal (number p.0) ++ stop ∷ p.1

moment_field-some : (stop : ℕ) (bytes : List ℕ) (p : ℤ × List ℕ) → 0 < stop → moment_field stop bytes ≡ Some p → Moment stop bytes p
unfolding moment_field
moment_field-some stop bytes p some e =
    option_map_some (λ q. (pos q.0, q.1)) (field 0 (2 ^ 52 - 1) stop bytes) p e
    (λ q read same.
    let known = field-some 0 (2 ^ 52 - 1) stop q.0 bytes q.1 (omega arith) some read in
    subst (Moment stop bytes) same (record { range = omega (arith, known.1); text = known.2 }))

moment_field-decimal : (stop : ℕ) (m : ℤ) (rest : List ℕ) → IsMoment m → is_ascii_digit stop ≡ false → moment_field stop (decimal (number m) ++ stop ∷ rest) ≡ Some (m, rest)
unfolding moment_field
moment_field-decimal stop (pos n) rest range other = rw (field-decimal 0 (2 ^ 52 - 1) stop n rest (omega arith) (omega (arith, range)) (omega arith) other) refl
moment_field-decimal stop (negsuc n) rest range other = absurd range

-- a moment, a number and the end of the line
record Pair (bytes : List ℕ) (p : ℤ × ℕ × List ℕ) : Type 0 where
  moment : IsMoment p.0
  word : IsWord p.1
  text : bytes ≡ decimal (number p.0) ++ 32 ∷ (decimal p.1 ++ 10 ∷ p.2)

pair_fields-some : (bytes : List ℕ) (p : ℤ × ℕ × List ℕ) → pair_fields bytes ≡ Some p → Pair bytes p
unfolding pair_fields
pair_fields-some bytes p e =
    option_and_then_some (λ m. option_map (λ q. (m.0, q.0, q.1)) (word_field 10 m.1)) (moment_field 32 bytes) p e
    (λ m read then.
    let first = moment_field-some 32 bytes m (omega arith) read in
    option_map_some (λ q. (m.0, q.0, q.1)) (word_field 10 m.1) p then
    (λ q read_number same.
    let second = field-some 0 (2 ^ 64 - 1) 10 q.0 m.1 q.1 (omega arith) (omega arith) read_number in
    subst (Pair bytes) same (record {
      moment = first.range;
      word = omega (arith, second.1);
      text = first.text ∙ ap (λ r. decimal (number m.0) ++ 32 ∷ r) second.2;
    })))

pair_fields-text : (m : ℤ) (n : ℕ) (rest : List ℕ) → IsMoment m → IsWord n → pair_fields (decimal (number m) ++ 32 ∷ (decimal n ++ 10 ∷ rest)) ≡ Some (m, n, rest)
unfolding pair_fields
pair_fields-text m n rest moment word =
    rw (moment_field-decimal 32 m (decimal n ++ 10 ∷ rest) moment refl, field-decimal 0 (2 ^ 64 - 1) 10 n rest (omega arith) (omega (arith, word)) (omega arith) refl) refl

-- bytes behind a word are a line in range and what follows it
pub record Reads (version : Version) (word bytes : List ℕ) (p : Line × List ℕ) : Type 0 where
  pub has : HasLine version p.0
  pub range : InRange p.0
  pub text : word ++ bytes ≡ line_text p.0 ++ p.1

tick_line-some : (version : Version) (bytes : List ℕ) (p : Line × List ℕ) → tick_line bytes ≡ Some p → Reads version (codes "tick ") bytes p
unfolding tick_line
tick_line-some version bytes p e =
    option_map_some (λ q. (Tick q.0 q.1, q.2)) (pair_fields bytes) p e
    (λ q read same.
    let known = pair_fields-some bytes q read in
    subst (Reads version (codes "tick ") bytes) same (record { has = tt; range = (known.moment, known.word); text = ap (λ r. codes "tick " ++ r) known.text ∙ sym (simp append_assoc) }))

lost_line-some : (version : Version) (bytes : List ℕ) (p : Line × List ℕ) → lost_line bytes ≡ Some p → Reads version (codes "lost ") bytes p
unfolding lost_line
lost_line-some version bytes p e =
    option_map_some (λ q. (Lost q.0 q.1, q.2)) (pair_fields bytes) p e
    (λ q read same.
    let known = pair_fields-some bytes q read in
    subst (Reads version (codes "lost ") bytes) same (record { has = tt; range = (known.moment, known.word); text = ap (λ r. codes "lost " ++ r) known.text ∙ sym (simp append_assoc) }))

garbled_line-some : (version : Version) (bytes : List ℕ) (p : Line × List ℕ) → garbled_line bytes ≡ Some p → Reads version (codes "garbled ") bytes p
unfolding garbled_line
garbled_line-some version bytes p e =
    option_map_some (λ q. (Garbled q.0 q.1, q.2)) (pair_fields bytes) p e
    (λ q read same.
    let known = pair_fields-some bytes q read in
    subst (Reads version (codes "garbled ") bytes) same (record { has = tt; range = (known.moment, known.word); text = ap (λ r. codes "garbled " ++ r) known.text ∙ sym (simp append_assoc) }))

unsent_line-some : (version : Version) (bytes : List ℕ) (p : Line × List ℕ) → unsent_line bytes ≡ Some p → Reads version (codes "unsent ") bytes p
unfolding unsent_line
unsent_line-some version bytes p e =
    option_map_some (λ q. (Unsent q.0 q.1, q.2)) (pair_fields bytes) p e
    (λ q read same.
    let known = pair_fields-some bytes q read in
    subst (Reads version (codes "unsent ") bytes) same (record { has = tt; range = (known.moment, known.word); text = ap (λ r. codes "unsent " ++ r) known.text ∙ sym (simp append_assoc) }))

oversize_line-some : (version : Version) (bytes : List ℕ) (p : Line × List ℕ) → oversize_line bytes ≡ Some p → Reads version (codes "oversize ") bytes p
unfolding oversize_line
oversize_line-some version bytes p e =
    option_map_some (λ q. (Oversize q.0 q.1, q.2)) (pair_fields bytes) p e
    (λ q read same.
    let known = pair_fields-some bytes q read in
    subst (Reads version (codes "oversize ") bytes) same (record { has = tt; range = (known.moment, known.word); text = ap (λ r. codes "oversize " ++ r) known.text ∙ sym (simp append_assoc) }))

sweep_line-some : (version : Version) (bytes : List ℕ) (p : Line × List ℕ) → sweep_line bytes ≡ Some p → Reads version (codes "sweep ") bytes p
unfolding sweep_line
sweep_line-some version bytes p e =
    option_map_some (λ q. (Sweep q.0, q.1)) (moment_field 10 bytes) p e
    (λ q read same.
    let known = moment_field-some 10 bytes q (omega arith) read in
    subst (Reads version (codes "sweep ") bytes) same (record { has = tt; range = known.range; text = ap (λ r. codes "sweep " ++ r) known.text ∙ sym (simp append_assoc) }))

halt_line-some : (version : Version) (bytes : List ℕ) (p : Line × List ℕ) → halt_line bytes ≡ Some p → Reads version (codes "halt ") bytes p
unfolding halt_line
halt_line-some version bytes p e =
    option_map_some (λ q. (Halt q.0, q.1)) (moment_field 10 bytes) p e
    (λ q read same.
    let known = moment_field-some 10 bytes q (omega arith) read in
    subst (Reads version (codes "halt ") bytes) same (record { has = tt; range = known.range; text = ap (λ r. codes "halt " ++ r) known.text ∙ sym (simp append_assoc) }))

load_line-some : (version : Version) (bytes : List ℕ) (p : Line × List ℕ) → load_line bytes ≡ Some p → Reads version (codes "load ") bytes p
unfolding load_line
load_line-some version bytes p e =
    option_and_then_some (λ m. option_map (λ q. (Load m.0 q.0, q.1)) (field 0 most_text_bytes 10 m.1)) (moment_field 32 bytes) p e
    (λ m read then.
    let first = moment_field-some 32 bytes m (omega arith) read in
    option_map_some (λ q. (Load m.0 q.0, q.1)) (field 0 most_text_bytes 10 m.1) p then
    (λ q read_len same.
    let second = field-some 0 most_text_bytes 10 q.0 m.1 q.1 (omega arith) (omega arith) read_len in
    subst (Reads version (codes "load ") bytes) same (record {
      has = tt;
      range = (first.range, second.1);
      text = ap (λ r. codes "load " ++ r) (first.text ∙ ap (λ r. decimal (number m.0) ++ 32 ∷ r) second.2) ∙ sym (simp append_assoc);
    })))

targets_line-some : (version : Version) (bytes : List ℕ) (p : Line × List ℕ) → targets_line bytes ≡ Some p → Reads version (codes "targets ") bytes p
unfolding targets_line
targets_line-some version bytes p e =
    option_and_then_some
    (λ m. option_and_then (λ j. option_and_then (λ f. option_map (λ t. (Targets m.0 j.0 f.0 t.0, t.1)) (field 0 most_text_bytes 10 f.1)) (field 1 most_name_bytes 32 j.1)) (field 1 most_name_bytes 32 m.1))
    (moment_field 32 bytes) p e
    (λ m read then.
    let first = moment_field-some 32 bytes m (omega arith) read in
    option_and_then_some
    (λ j. option_and_then (λ f. option_map (λ t. (Targets m.0 j.0 f.0 t.0, t.1)) (field 0 most_text_bytes 10 f.1)) (field 1 most_name_bytes 32 j.1))
    (field 1 most_name_bytes 32 m.1) p then
    (λ j read_job then_file.
    let second = field-some 1 most_name_bytes 32 j.0 m.1 j.1 (omega arith) (omega arith) read_job in
    option_and_then_some (λ f. option_map (λ t. (Targets m.0 j.0 f.0 t.0, t.1)) (field 0 most_text_bytes 10 f.1)) (field 1 most_name_bytes 32 j.1) p then_file
    (λ f read_file then_len.
    let third = field-some 1 most_name_bytes 32 f.0 j.1 f.1 (omega arith) (omega arith) read_file in
    option_map_some (λ t. (Targets m.0 j.0 f.0 t.0, t.1)) (field 0 most_text_bytes 10 f.1) p then_len
    (λ t read_len same.
    let fourth = field-some 0 most_text_bytes 10 t.0 f.1 t.1 (omega arith) (omega arith) read_len in
    subst (Reads version (codes "targets ") bytes) same (record {
      has = tt;
      range = (first.range, (second.0, second.1), (third.0, third.1), fourth.1);
      text = ap (λ r. codes "targets " ++ r)
          (first.text ∙ ap (λ r. decimal (number m.0) ++ 32 ∷ r) (second.2 ∙ ap (λ r. decimal j.0 ++ 32 ∷ r) (third.2 ∙ ap (λ r. decimal f.0 ++ 32 ∷ r) fourth.2)))
          ∙ sym (simp append_assoc);
    })))))

body_line-some : (version : Version) (bytes : List ℕ) (p : Line × List ℕ) → body_line bytes ≡ Some p → Reads version (codes "body ") bytes p
unfolding body_line
body_line-some version bytes p e =
    option_and_then_some
    (λ m. option_and_then (λ t. option_and_then (λ s. option_map (λ n. (Body m.0 t.0 s.0 n.0, n.1)) (field 0 most_body_bytes 10 s.1)) (field 100 999 32 t.1)) (word_field 32 m.1))
    (moment_field 32 bytes) p e
    (λ m read then.
    let first = moment_field-some 32 bytes m (omega arith) read in
    option_and_then_some
    (λ t. option_and_then (λ s. option_map (λ n. (Body m.0 t.0 s.0 n.0, n.1)) (field 0 most_body_bytes 10 s.1)) (field 100 999 32 t.1))
    (word_field 32 m.1) p then
    (λ t read_ticket then_status.
    let second = field-some 0 (2 ^ 64 - 1) 32 t.0 m.1 t.1 (omega arith) (omega arith) read_ticket in
    option_and_then_some (λ s. option_map (λ n. (Body m.0 t.0 s.0 n.0, n.1)) (field 0 most_body_bytes 10 s.1)) (field 100 999 32 t.1) p then_status
    (λ s read_status then_len.
    let third = field-some 100 999 32 s.0 t.1 s.1 (omega arith) (omega arith) read_status in
    option_map_some (λ n. (Body m.0 t.0 s.0 n.0, n.1)) (field 0 most_body_bytes 10 s.1) p then_len
    (λ n read_len same.
    let fourth = field-some 0 most_body_bytes 10 n.0 s.1 n.1 (omega arith) (omega arith) read_len in
    subst (Reads version (codes "body ") bytes) same (record {
      has = tt;
      range = (first.range, omega (arith, second.1), (third.0, third.1), fourth.1);
      text = ap (λ r. codes "body " ++ r)
          (first.text ∙ ap (λ r. decimal (number m.0) ++ 32 ∷ r) (second.2 ∙ ap (λ r. decimal t.0 ++ 32 ∷ r) (third.2 ∙ ap (λ r. decimal s.0 ++ 32 ∷ r) fourth.2)))
          ∙ sym (simp append_assoc);
    })))))

quoted_line-some : (bytes : List ℕ) (p : Line × List ℕ) → quoted_line bytes ≡ Some p → Reads Two (codes "quoted ") bytes p
unfolding quoted_line
quoted_line-some bytes p e =
    option_and_then_some
    (λ m. option_and_then (λ t. option_and_then (λ s. option_map (λ n. (Quoted m.0 t.0 s.0 n.0, n.1)) (field 0 most_body_bytes 10 s.1)) (field 100 999 32 t.1)) (word_field 32 m.1))
    (moment_field 32 bytes) p e
    (λ m read then.
    let first = moment_field-some 32 bytes m (omega arith) read in
    option_and_then_some
    (λ t. option_and_then (λ s. option_map (λ n. (Quoted m.0 t.0 s.0 n.0, n.1)) (field 0 most_body_bytes 10 s.1)) (field 100 999 32 t.1))
    (word_field 32 m.1) p then
    (λ t read_ticket then_status.
    let second = field-some 0 (2 ^ 64 - 1) 32 t.0 m.1 t.1 (omega arith) (omega arith) read_ticket in
    option_and_then_some (λ s. option_map (λ n. (Quoted m.0 t.0 s.0 n.0, n.1)) (field 0 most_body_bytes 10 s.1)) (field 100 999 32 t.1) p then_status
    (λ s read_status then_len.
    let third = field-some 100 999 32 s.0 t.1 s.1 (omega arith) (omega arith) read_status in
    option_map_some (λ n. (Quoted m.0 t.0 s.0 n.0, n.1)) (field 0 most_body_bytes 10 s.1) p then_len
    (λ n read_len same.
    let fourth = field-some 0 most_body_bytes 10 n.0 s.1 n.1 (omega arith) (omega arith) read_len in
    subst (Reads Two (codes "quoted ") bytes) same (record {
      has = refl;
      range = (first.range, omega (arith, second.1), (third.0, third.1), fourth.1);
      text = ap (λ r. codes "quoted " ++ r)
          (first.text ∙ ap (λ r. decimal (number m.0) ++ 32 ∷ r) (second.2 ∙ ap (λ r. decimal t.0 ++ 32 ∷ r) (third.2 ∙ ap (λ r. decimal s.0 ++ 32 ∷ r) fourth.2)))
          ∙ sym (simp append_assoc);
    })))))

after-some : (word bytes rest : List ℕ) → after word bytes ≡ Some rest → bytes ≡ word ++ rest
unfolding after
after-some word bytes rest e =
    let known = cond_some (starts_with nat_eq bytes word) (drop (length word) bytes) rest e in
    (starts_is (λ a b. Decides-eqb a b) bytes word _ refl).0 known.0 ∙ ap (λ r. word ++ r) known.1

behind-some : {P : Type 0} (word : List ℕ) (read : List ℕ → Option (Line × List ℕ)) (bytes : List ℕ) (other : Option (Line × List ℕ)) (p : Line × List ℕ) →
    behind word read bytes other ≡ Some p → ((rest : List ℕ) → bytes ≡ word ++ rest → read rest ≡ Some p → P) → (other ≡ Some p → P) → P
behind-some {P} word read bytes other p e here there =
    elim (after word bytes) as (λ o. after word bytes ≡ o → option_map_or read o other ≡ Some p → P)
    [ None ↦ λ _ got. there got | Some rest ↦ λ is got. here rest (after-some word bytes rest is) got ] refl e

finish_line_in-some : (version : Version) (bytes : List ℕ) (p : Line × List ℕ) → finish_line_in bytes ≡ Some p → Reads version [] bytes p
unfolding finish_line_in
finish_line_in-some version bytes p e5 =
    behind-some (codes "body ") body_line bytes (behind (codes "lost ") lost_line bytes (behind (codes "garbled ") garbled_line bytes (behind (codes "unsent ") unsent_line bytes (behind (codes "oversize ") oversize_line bytes None)))) p e5
    (λ rest is got. let known = body_line-some version rest p got in record { has = known.has; range = known.range; text = is ∙ known.text })
    (λ e4.
    behind-some (codes "lost ") lost_line bytes (behind (codes "garbled ") garbled_line bytes (behind (codes "unsent ") unsent_line bytes (behind (codes "oversize ") oversize_line bytes None))) p e4
    (λ rest is got. let known = lost_line-some version rest p got in record { has = known.has; range = known.range; text = is ∙ known.text })
    (λ e3.
    behind-some (codes "garbled ") garbled_line bytes (behind (codes "unsent ") unsent_line bytes (behind (codes "oversize ") oversize_line bytes None)) p e3
    (λ rest is got. let known = garbled_line-some version rest p got in record { has = known.has; range = known.range; text = is ∙ known.text })
    (λ e2.
    behind-some (codes "unsent ") unsent_line bytes (behind (codes "oversize ") oversize_line bytes None) p e2
    (λ rest is got. let known = unsent_line-some version rest p got in record { has = known.has; range = known.range; text = is ∙ known.text })
    (λ e1.
    behind-some (codes "oversize ") oversize_line bytes None p e1
    (λ rest is got. let known = oversize_line-some version rest p got in record { has = known.has; range = known.range; text = is ∙ known.text })
    (λ e0. absurd (none-some p e0))))))

first_line_in-some : (version : Version) (bytes : List ℕ) (p : Line × List ℕ) → first_line_in bytes ≡ Some p → Reads version [] bytes p
unfolding first_line_in
first_line_in-some version bytes p e5 =
    behind-some (codes "load ") load_line bytes (behind (codes "targets ") targets_line bytes (behind (codes "tick ") tick_line bytes (behind (codes "sweep ") sweep_line bytes (behind (codes "halt ") halt_line bytes (finish_line_in bytes))))) p e5
    (λ rest is got. let known = load_line-some version rest p got in record { has = known.has; range = known.range; text = is ∙ known.text })
    (λ e4.
    behind-some (codes "targets ") targets_line bytes (behind (codes "tick ") tick_line bytes (behind (codes "sweep ") sweep_line bytes (behind (codes "halt ") halt_line bytes (finish_line_in bytes)))) p e4
    (λ rest is got. let known = targets_line-some version rest p got in record { has = known.has; range = known.range; text = is ∙ known.text })
    (λ e3.
    behind-some (codes "tick ") tick_line bytes (behind (codes "sweep ") sweep_line bytes (behind (codes "halt ") halt_line bytes (finish_line_in bytes))) p e3
    (λ rest is got. let known = tick_line-some version rest p got in record { has = known.has; range = known.range; text = is ∙ known.text })
    (λ e2.
    behind-some (codes "sweep ") sweep_line bytes (behind (codes "halt ") halt_line bytes (finish_line_in bytes)) p e2
    (λ rest is got. let known = sweep_line-some version rest p got in record { has = known.has; range = known.range; text = is ∙ known.text })
    (λ e1.
    behind-some (codes "halt ") halt_line bytes (finish_line_in bytes) p e1
    (λ rest is got. let known = halt_line-some version rest p got in record { has = known.has; range = known.range; text = is ∙ known.text })
    (λ e0. finish_line_in-some version bytes p e0)))))

-- a line that is read is one of the version, in range and spelled so
pub line_in-some : (version : Version) (bytes : List ℕ) (p : Line × List ℕ) → line_in version bytes ≡ Some p → Reads version [] bytes p
unfolding line_in
line_in-some One bytes p e = first_line_in-some One bytes p e
line_in-some Two bytes p e =
    behind-some (codes "quoted ") quoted_line bytes (first_line_in bytes) p e
    (λ rest is got. let known = quoted_line-some rest p got in record { has = known.has; range = known.range; text = is ∙ known.text })
    (λ other. first_line_in-some Two bytes p other)

at_load : (version : Version) (bytes : List ℕ) → line_in version (codes "load " ++ bytes) ≡ load_line bytes
unfolding line_in first_line_in after
at_load One bytes = refl
at_load Two bytes = refl

at_targets : (version : Version) (bytes : List ℕ) → line_in version (codes "targets " ++ bytes) ≡ targets_line bytes
unfolding line_in first_line_in after
at_targets One bytes = refl
at_targets Two bytes = refl

at_tick : (version : Version) (bytes : List ℕ) → line_in version (codes "tick " ++ bytes) ≡ tick_line bytes
unfolding line_in first_line_in after
at_tick One bytes = refl
at_tick Two bytes = refl

at_sweep : (version : Version) (bytes : List ℕ) → line_in version (codes "sweep " ++ bytes) ≡ sweep_line bytes
unfolding line_in first_line_in after
at_sweep One bytes = refl
at_sweep Two bytes = refl

at_halt : (version : Version) (bytes : List ℕ) → line_in version (codes "halt " ++ bytes) ≡ halt_line bytes
unfolding line_in first_line_in after
at_halt One bytes = refl
at_halt Two bytes = refl

at_body : (version : Version) (bytes : List ℕ) → line_in version (codes "body " ++ bytes) ≡ body_line bytes
unfolding line_in first_line_in finish_line_in after
at_body One bytes = refl
at_body Two bytes = refl

at_lost : (version : Version) (bytes : List ℕ) → line_in version (codes "lost " ++ bytes) ≡ lost_line bytes
unfolding line_in first_line_in finish_line_in after
at_lost One bytes = refl
at_lost Two bytes = refl

at_garbled : (version : Version) (bytes : List ℕ) → line_in version (codes "garbled " ++ bytes) ≡ garbled_line bytes
unfolding line_in first_line_in finish_line_in after
at_garbled One bytes = refl
at_garbled Two bytes = refl

at_unsent : (version : Version) (bytes : List ℕ) → line_in version (codes "unsent " ++ bytes) ≡ unsent_line bytes
unfolding line_in first_line_in finish_line_in after
at_unsent One bytes = refl
at_unsent Two bytes = refl

at_oversize : (version : Version) (bytes : List ℕ) → line_in version (codes "oversize " ++ bytes) ≡ oversize_line bytes
unfolding line_in first_line_in finish_line_in after
at_oversize One bytes = refl
at_oversize Two bytes = refl

at_quoted : (bytes : List ℕ) → line_in Two (codes "quoted " ++ bytes) ≡ quoted_line bytes
unfolding line_in after
at_quoted bytes = refl

tick_line-text : (m : ℤ) (n : ℕ) (rest : List ℕ) → IsMoment m → IsWord n → tick_line (decimal (number m) ++ 32 ∷ (decimal n ++ 10 ∷ rest)) ≡ Some (Tick m n, rest)
unfolding tick_line
tick_line-text m n rest moment word = rw (pair_fields-text m n rest moment word) refl

lost_line-text : (m : ℤ) (n : ℕ) (rest : List ℕ) → IsMoment m → IsWord n → lost_line (decimal (number m) ++ 32 ∷ (decimal n ++ 10 ∷ rest)) ≡ Some (Lost m n, rest)
unfolding lost_line
lost_line-text m n rest moment word = rw (pair_fields-text m n rest moment word) refl

garbled_line-text : (m : ℤ) (n : ℕ) (rest : List ℕ) → IsMoment m → IsWord n → garbled_line (decimal (number m) ++ 32 ∷ (decimal n ++ 10 ∷ rest)) ≡ Some (Garbled m n, rest)
unfolding garbled_line
garbled_line-text m n rest moment word = rw (pair_fields-text m n rest moment word) refl

unsent_line-text : (m : ℤ) (n : ℕ) (rest : List ℕ) → IsMoment m → IsWord n → unsent_line (decimal (number m) ++ 32 ∷ (decimal n ++ 10 ∷ rest)) ≡ Some (Unsent m n, rest)
unfolding unsent_line
unsent_line-text m n rest moment word = rw (pair_fields-text m n rest moment word) refl

oversize_line-text : (m : ℤ) (n : ℕ) (rest : List ℕ) → IsMoment m → IsWord n → oversize_line (decimal (number m) ++ 32 ∷ (decimal n ++ 10 ∷ rest)) ≡ Some (Oversize m n, rest)
unfolding oversize_line
oversize_line-text m n rest moment word = rw (pair_fields-text m n rest moment word) refl

sweep_line-text : (m : ℤ) (rest : List ℕ) → IsMoment m → sweep_line (decimal (number m) ++ 10 ∷ rest) ≡ Some (Sweep m, rest)
unfolding sweep_line
sweep_line-text m rest moment = rw (moment_field-decimal 10 m rest moment refl) refl

halt_line-text : (m : ℤ) (rest : List ℕ) → IsMoment m → halt_line (decimal (number m) ++ 10 ∷ rest) ≡ Some (Halt m, rest)
unfolding halt_line
halt_line-text m rest moment = rw (moment_field-decimal 10 m rest moment refl) refl

load_line-text : (m : ℤ) (len : ℕ) (rest : List ℕ) → InRange (Load m len) → load_line (decimal (number m) ++ 32 ∷ (decimal len ++ 10 ∷ rest)) ≡ Some (Load m len, rest)
unfolding load_line
load_line-text m len rest range =
    rw (moment_field-decimal 32 m (decimal len ++ 10 ∷ rest) range.0 refl, field-decimal 0 most_text_bytes 10 len rest (omega arith) range.1 (omega arith) refl) refl

targets_line-text : (m : ℤ) (job file len : ℕ) (rest : List ℕ) → InRange (Targets m job file len) →
    targets_line (decimal (number m) ++ 32 ∷ (decimal job ++ 32 ∷ (decimal file ++ 32 ∷ (decimal len ++ 10 ∷ rest)))) ≡ Some (Targets m job file len, rest)
unfolding targets_line
targets_line-text m job file len rest range =
    let len_text : List ℕ = decimal len ++ 10 ∷ rest in
    let file_text : List ℕ = decimal file ++ 32 ∷ len_text in
    let job_text : List ℕ = decimal job ++ 32 ∷ file_text in
    rw (
      moment_field-decimal 32 m job_text range.0 refl,
      field-decimal 1 most_name_bytes 32 job file_text range.1.0 range.1.1 (omega arith) refl,
      field-decimal 1 most_name_bytes 32 file len_text range.2.0 range.2.1 (omega arith) refl,
      field-decimal 0 most_text_bytes 10 len rest (omega arith) range.3 (omega arith) refl,
    ) refl

body_line-text : (m : ℤ) (ticket status len : ℕ) (rest : List ℕ) → InRange (Body m ticket status len) →
    body_line (decimal (number m) ++ 32 ∷ (decimal ticket ++ 32 ∷ (decimal status ++ 32 ∷ (decimal len ++ 10 ∷ rest)))) ≡ Some (Body m ticket status len, rest)
unfolding body_line
body_line-text m ticket status len rest range =
    let len_text : List ℕ = decimal len ++ 10 ∷ rest in
    let status_text : List ℕ = decimal status ++ 32 ∷ len_text in
    let ticket_text : List ℕ = decimal ticket ++ 32 ∷ status_text in
    rw (
      moment_field-decimal 32 m ticket_text range.0 refl,
      field-decimal 0 (2 ^ 64 - 1) 32 ticket status_text (omega arith) (omega (arith, range.1)) (omega arith) refl,
      field-decimal 100 999 32 status len_text range.2.0 range.2.1 (omega arith) refl,
      field-decimal 0 most_body_bytes 10 len rest (omega arith) range.3 (omega arith) refl,
    ) refl

quoted_line-text : (m : ℤ) (ticket status len : ℕ) (rest : List ℕ) → InRange (Quoted m ticket status len) →
    quoted_line (decimal (number m) ++ 32 ∷ (decimal ticket ++ 32 ∷ (decimal status ++ 32 ∷ (decimal len ++ 10 ∷ rest)))) ≡ Some (Quoted m ticket status len, rest)
unfolding quoted_line
quoted_line-text m ticket status len rest range =
    let len_text : List ℕ = decimal len ++ 10 ∷ rest in
    let status_text : List ℕ = decimal status ++ 32 ∷ len_text in
    let ticket_text : List ℕ = decimal ticket ++ 32 ∷ status_text in
    rw (
      moment_field-decimal 32 m ticket_text range.0 refl,
      field-decimal 0 (2 ^ 64 - 1) 32 ticket status_text (omega arith) (omega (arith, range.1)) (omega arith) refl,
      field-decimal 100 999 32 status len_text range.2.0 range.2.1 (omega arith) refl,
      field-decimal 0 most_body_bytes 10 len rest (omega arith) range.3 (omega arith) refl,
    ) refl

-- a line of the version, in range, is read
pub line_in-text : (version : Version) (l : Line) (rest : List ℕ) → HasLine version l → InRange l → line_in version (line_text l ++ rest) ≡ Some (l, rest)
line_in-text version (Load m len) rest has range = simp append_assoc (at_load version (decimal (number m) ++ 32 ∷ (decimal len ++ 10 ∷ rest)) ∙ load_line-text m len rest range)
line_in-text version (Targets m job file len) rest has range =
    simp append_assoc (at_targets version (decimal (number m) ++ 32 ∷ (decimal job ++ 32 ∷ (decimal file ++ 32 ∷ (decimal len ++ 10 ∷ rest)))) ∙ targets_line-text m job file len rest range)
line_in-text version (Body m ticket status len) rest has range =
    simp append_assoc (at_body version (decimal (number m) ++ 32 ∷ (decimal ticket ++ 32 ∷ (decimal status ++ 32 ∷ (decimal len ++ 10 ∷ rest)))) ∙ body_line-text m ticket status len rest range)
line_in-text version (Quoted m ticket status len) rest has range =
    ap (λ v. line_in v (line_text (Quoted m ticket status len) ++ rest)) has
    ∙ simp append_assoc (at_quoted (decimal (number m) ++ 32 ∷ (decimal ticket ++ 32 ∷ (decimal status ++ 32 ∷ (decimal len ++ 10 ∷ rest)))) ∙ quoted_line-text m ticket status len rest range)
line_in-text version (Tick m n) rest has range = simp append_assoc (at_tick version (decimal (number m) ++ 32 ∷ (decimal n ++ 10 ∷ rest)) ∙ tick_line-text m n rest range.0 range.1)
line_in-text version (Lost m n) rest has range = simp append_assoc (at_lost version (decimal (number m) ++ 32 ∷ (decimal n ++ 10 ∷ rest)) ∙ lost_line-text m n rest range.0 range.1)
line_in-text version (Garbled m n) rest has range = simp append_assoc (at_garbled version (decimal (number m) ++ 32 ∷ (decimal n ++ 10 ∷ rest)) ∙ garbled_line-text m n rest range.0 range.1)
line_in-text version (Unsent m n) rest has range = simp append_assoc (at_unsent version (decimal (number m) ++ 32 ∷ (decimal n ++ 10 ∷ rest)) ∙ unsent_line-text m n rest range.0 range.1)
line_in-text version (Oversize m n) rest has range = simp append_assoc (at_oversize version (decimal (number m) ++ 32 ∷ (decimal n ++ 10 ∷ rest)) ∙ oversize_line-text m n rest range.0 range.1)
line_in-text version (Sweep m) rest has range = simp append_assoc (at_sweep version (decimal (number m) ++ 10 ∷ rest) ∙ sweep_line-text m rest range)
line_in-text version (Halt m) rest has range = simp append_assoc (at_halt version (decimal (number m) ++ 10 ∷ rest) ∙ halt_line-text m rest range)

-- a line that was read is in range
pub range_read : (version : Version) (r : Option (Line × Bor (List ℕ))) (bytes : List ℕ) → option_map {U = Line × List ℕ} (λ p. (p.0, p.1.now)) r ≡ line_in version bytes → IfSome r (λ p. InRange p.0)
range_read version None bytes is = tt
range_read version (Some p) bytes is = let known = line_in-some version bytes (p.0, p.1.now) (sym is) in known.range
