-- Selectors one after another.
use Rattle.std.proofs.Common.{◌≡◌, ℕ, ◌+◌, ◌<◌, List, [], ◌∷◌, ◌++◌, length, get_or, map, take, sym, ap, ◌∙◌}
use Rattle.std.proofs.lemmas.List.{map_more, take-map}
use Rattle.status_server.specs.Federates.{AreSelectors, IsTaken}
use Rattle.instant_view.specs.declared.matchers.SelectorParts.{SelectorParts}

-- a selector more
pub selectors-more : (texts : List (List ℕ)) (text : List ℕ) (parts : List SelectorParts) (one : SelectorParts) → AreSelectors texts parts → IsTaken text one → AreSelectors (texts ++ text ∷ []) (parts ++ one ∷ [])
selectors-more [] text [] one a s = (s, tt)
selectors-more (t ∷ texts) text (p ∷ parts) one a s = (a.0, selectors-more texts text parts one a.1 s)
selectors-more [] text (p ∷ parts) one a s = absurd a
selectors-more (t ∷ texts) text [] one a s = absurd a

pub text-more : {A : Type 0} (f : A → List ℕ) (xs : List A) (i : ℕ) (x : A) → i < length xs → get_or xs i x ≡ x → take (i + 1) (map f xs) ≡ take i (map f xs) ++ f x ∷ []
text-more f xs i x lt is = take-map f (i + 1) xs ∙ (map_more f xs i x lt ∙ (ap (λ y. map f (take i xs) ++ f y ∷ []) is ∙ ap (λ t. t ++ f x ∷ []) (sym (take-map f i xs))))
