-- Texts in quotes that write a value.
use Rattle.std.proofs.Common.{◌≡◌, ℕ, Bool, true, false, List, ap, sym, ◌∙◌, refl, Some, None, is_some, if◌then◌else◌}
use Rattle.std.specs.Str.{is_utf8}
use Rattle.expo_reader.specs.Texts.{resolved, text_value}

some-if : {A : Type 0} (b : Bool) (x : A) → is_some (if b then Some x else None) ≡ b
some-if true x = refl
some-if false x = refl

pub value-some : (text out : List ℕ) → out ≡ resolved text → is_utf8 out ≡ is_some (text_value text)
unfolding text_value
value-some text out e = ap is_utf8 e ∙ sym (some-if (is_utf8 (resolved text)) (resolved text))
