-- A text in quotes of ASCII with no escape, seen in one pass.
use Rattle.std.proofs.Common.{◌≡◌, ℕ, suc, ◌+◌, ◌<◌, true, false, not, ◌==◌, List, [], ◌∷◌, ◌++◌, length, take, drop, Some, refl, sym, ap, ◌∙◌, arith, get_or, drop-cons, add-one}
use Rattle.std.specs.List.{list_all, prefix_len}
use Rattle.std.proofs.lemmas.Bool.{and_from}
use Rattle.std.proofs.lemmas.Bool.Decides.{nat_tests}
use Rattle.std.proofs.lemmas.Grind.{common_steps}
use Rattle.std.proofs.lemmas.List.{take-append-drop}
use Rattle.expo_reader.specs.Texts.{bare, is_open_byte, is_plain_byte, text_in}
use Rattle.expo_reader.proofs.FrontLemmas.{both, passes, text-front}
use Rattle.expo_reader.proofs.QuoteLemmas.{is_text}
use Rattle.expo_reader.proofs.SoundLemmas.{apart, blanks, blanks-are}

open-plain : (b : ℕ) → is_open_byte b ≡ true → is_plain_byte b ≡ true
unfolding is_open_byte is_plain_byte
open-plain b e = grind (arith, nat_tests, common_steps)

open-quote : (b : ℕ) → is_open_byte b ≡ true → not (b == 34) ≡ true
unfolding is_open_byte
open-quote b e = grind (arith, nat_tests, common_steps)

open-slash : (b : ℕ) → is_open_byte b ≡ true → (b == 92) ≡ false
unfolding is_open_byte
open-slash b e = grind (arith, nat_tests, common_steps)

opens-plain : (bs : List ℕ) → list_all is_open_byte bs ≡ true → list_all is_plain_byte bs ≡ true
opens-plain [] e = refl
opens-plain (b ∷ bs) e = let k = both (is_open_byte b) (list_all is_open_byte bs) e in and_from _ _ (open-plain b k.0) (opens-plain bs k.1)

opens-text : (bs : List ℕ) → list_all is_open_byte bs ≡ true → is_text false bs ≡ true
unfolding is_text
opens-text [] e = refl
opens-text (b ∷ bs) e =
    let k = both (is_open_byte b) (list_all is_open_byte bs) e in
    and_from _ _ (open-quote b k.0) (ap (λ x. is_text x bs) (open-slash b k.0) ∙ opens-text bs k.1)

at-place : (bs : List ℕ) (i b : ℕ) → i < length bs → get_or bs i 0 ≡ b → drop i bs ≡ b ∷ drop (i + 1) bs
at-place bs i b h e = rw (add-one, drop-cons bs i 0) (ap (λ x. x ∷ drop (suc i) bs) e)

module _ (text t inside : List ℕ) (n : ℕ) (t_is : t ≡ bare text) (some : 0 < length t) (quote : get_or t 0 0 ≡ 34) (inside_is : inside ≡ drop 1 t)
    (n_is : n ≡ prefix_len is_open_byte inside) (lt : n < length inside) (end : get_or inside n 0 ≡ 34) where
  open-all : list_all is_open_byte (take n inside) ≡ true
  open-all = ap (λ k. list_all is_open_byte (take k inside)) n_is ∙ passes is_open_byte inside

  pub open-part : text_in text ≡ Some (take n inside, drop (n + 1) inside)
  open-part =
      let first : t ≡ 34 ∷ inside = at-place t 0 34 some quote ∙ ap (λ l. 34 ∷ l) (sym inside_is) in
      let within : inside ≡ take n inside ++ 34 ∷ drop (n + 1) inside = sym (take-append-drop n inside) ∙ ap (λ l. take n inside ++ l) (at-place inside n 34 lt end) in
      let whole : text ≡ blanks text ++ 34 ∷ (take n inside ++ 34 ∷ drop (n + 1) inside) =
      apart text ∙ ap (λ l. blanks text ++ l) (sym t_is ∙ first ∙ ap (λ l. 34 ∷ l) within) in
      ap text_in whole ∙ text-front (blanks text) (take n inside) (drop (n + 1) inside) (blanks-are text) (opens-text (take n inside) open-all)

  pub open-plain-part : list_all is_plain_byte (take n inside) ≡ true
  open-plain-part = opens-plain (take n inside) open-all
