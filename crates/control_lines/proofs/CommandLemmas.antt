-- The names of a line: which bytes are UTF-8, and where the job's name ends.
use Rattle.std.proofs.Common.{◌≡◌, ℕ, ◌+◌, ◌<◌, ◌&&◌, Bool, true, false, cond, nat_lt, List, length, refl, sym, ap, ap₂, ◌∙◌, arith, codes}
use Rattle.std.specs.Prelude.{Option, Some, None}
use Rattle.std.specs.List.{position_or_len, before_first, after_first}
use Rattle.std.specs.Str.{IsUtf8, is_utf8}
use Rattle.std.proofs.lemmas.Bool.Decides.{nat_tests}
use Rattle.std.proofs.lemmas.Str.{IsUtf8-from_is_utf8, is_utf8-from_IsUtf8}
use Rattle.control_lines.specs.Commands.{is_name, is_blank, has_blank, load_in, named_targets, targets_in}
use Rattle.control_lines.specs.declared.commands.Command.{Command}
use Rattle.control_lines.specs.declared.commands.Command.TheVariants.{Load, Targets}

utf8_no : (bs : List ℕ) → ¬ (IsUtf8 bs) → is_utf8 bs ≡ false
utf8_no bs h = of (is_utf8 bs) refl
  where
    of : (b : Bool) → is_utf8 bs ≡ b → b ≡ false
    of true e = absurd (h (IsUtf8-from_is_utf8 bs e))
    of false e = refl

pub load_garbled : (bs : List ℕ) → ¬ (IsUtf8 bs) → None ≡ load_in bs
unfolding load_in
load_garbled bs h = ap (λ (b : Bool). cond (b && is_name bs) (Some (Load bs)) None) (sym (utf8_no bs h))

pub load_of : (bs fs : List ℕ) (b : Bool) → fs ≡ bs → IsUtf8 bs → is_name fs ≡ b → cond b (Some (Load fs)) None ≡ load_in bs
unfolding load_in
load_of bs fs b same utf8 name = ap₂ (λ (c : Bool) (xs : List ℕ). cond c (Some (Load xs)) None) (sym (ap is_name (sym same) ∙ name)) same ∙ ap (λ (c : Bool). cond (c && is_name bs) (Some (Load bs)) None) (sym (is_utf8-from_IsUtf8 bs utf8))

pub targets_garbled : (bs : List ℕ) → ¬ (IsUtf8 bs) → None ≡ targets_in bs
unfolding targets_in
targets_garbled bs h = ap (λ (b : Bool). cond (b && has_blank bs) (named_targets (before_first is_blank bs) (after_first is_blank bs)) None) (sym (utf8_no bs h))

blank_none : (n m : ℕ) → n ≡ m → nat_lt n m ≡ false
blank_none n m h = grind (arith, nat_tests)

blank_some : (n m : ℕ) → n < m → nat_lt n m ≡ true
blank_some n m h = grind (arith, nat_tests)

pub targets_unbroken : (bs fs : List ℕ) → fs ≡ bs → position_or_len is_blank fs ≡ length fs → IsUtf8 bs → None ≡ targets_in bs
unfolding targets_in
targets_unbroken bs fs same none utf8 =
    let at : has_blank bs ≡ false = ap has_blank (sym same) ∙ blank_none _ _ none in
    sym (ap₂ (λ (b c : Bool). cond (b && c) (named_targets (before_first is_blank bs) (after_first is_blank bs)) None) (is_utf8-from_IsUtf8 bs utf8) at)

pub targets_of : (bs fs job file : List ℕ) → fs ≡ bs → (position_or_len is_blank fs < length fs) × (job ≡ before_first is_blank fs) × (file ≡ after_first is_blank fs) → IsUtf8 bs → named_targets job file ≡ targets_in bs
unfolding targets_in
targets_of bs fs job file same is utf8 =
    let at : has_blank bs ≡ true = ap has_blank (sym same) ∙ blank_some _ _ is.0 in
    ap₂ named_targets (is.1 ∙ ap (before_first is_blank) same) (is.2 ∙ ap (after_first is_blank) same)
    ∙ sym (ap₂ (λ (b c : Bool). cond (b && c) (named_targets (before_first is_blank bs) (after_first is_blank bs)) None) (is_utf8-from_IsUtf8 bs utf8) at)
