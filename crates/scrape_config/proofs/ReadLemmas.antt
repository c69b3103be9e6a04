-- The two sides of the test for UTF-8, and what holds of the one value that a call may give.
use Rattle.std.proofs.Common.{◌≡◌, ℕ, List, true, false, None, IsUtf8, ⊎_elim, refl, sym, subst}
use Rattle.std.specs.Prelude.{Result, Ok, Err, IfOk}
use Rattle.std.proofs.lemmas.Bool.{cases_Bool}
use Rattle.std.proofs.lemmas.Str.{IsUtf8-from_is_utf8, is_utf8-from_IsUtf8}
use Rattle.std.specs.Str.{is_utf8}
use Rattle.serde_json.specs.Read.{read}
use Rattle.scrape_config.specs.Reading.{json_of}

pub json_of-text : (bs : List ℕ) → IsUtf8 bs → json_of bs ≡ read bs
unfolding json_of
json_of-text bs h = rw (is_utf8-from_IsUtf8 bs h) refl

pub json_of-no_text : (bs : List ℕ) → ¬ (IsUtf8 bs) → json_of bs ≡ None
unfolding json_of
json_of-no_text bs h =
    ⊎_elim (λ (e : is_utf8 bs ≡ true). absurd (h (IsUtf8-from_is_utf8 bs e))) (λ (e : is_utf8 bs ≡ false). rw e refl) (cases_Bool (is_utf8 bs))

-- what holds of the one value that a call may give holds of what it gives
pub kept_by : {A E : Type 0} (P : A → Type 0) (a : A) → P a → (r : Result A E) → IfOk r (λ b. b ≡ a) → IfOk r P
kept_by P a p (Ok b) e = subst P (sym e) p
kept_by P a p (Err error) e = tt
