-- The page of the targets, line by line.
use Rattle.std.proofs.Common.{◌≡◌, ℕ, zero, suc, ◌+◌, ◌<◌, ◌≤◌, List, [], ◌∷◌, ◌++◌, length, drop, map, Option, Some, None, refl, sym, ap, ◌∙◌, arith, append_assoc, append-nil}
use Rattle.std.specs.Prelude.{option_map, slice_get}
use Rattle.std.specs.List.{flat_map}
use Rattle.std.proofs.lemmas.List.{drop_more}
use Rattle.std.proofs.lemmas.Option.{get_or_from_slice_get, slice_get_within}
use Rattle.journal_text.specs.declared.events.Event.{Event}
use Rattle.scrape_core.specs.OpenLives.{Shown, open_count, open_life, open_of, shown}
use Rattle.status_server.specs.Targets.{line, line_of}

module _ {A : Type 0} (f : A → Shown) where
  get-mapped : (ls : List A) (i : ℕ) → option_map f (slice_get ls i) ≡ slice_get (map f ls) i
  get-mapped [] i = refl
  get-mapped (l ∷ ls) zero = refl
  get-mapped (l ∷ ls) (suc i) = get-mapped ls i

  past : (xs : List A) (i : ℕ) → option_map f (slice_get xs i) ≡ None → length xs ≤ i
  past [] i e = omega arith
  past (x ∷ xs) zero e = absurd cc
  past (x ∷ xs) (suc i) e = (let k : length xs ≤ i = past xs i e in omega (arith, k))

  none : (ls : List A) (j : ℕ) → length ls ≤ j → drop j (map f ls) ≡ []
  none [] zero h = refl
  none [] (suc j) h = refl
  none (l ∷ ls) zero h = absurd (omega arith)
  none (l ∷ ls) (suc j) h = none ls j (omega arith)

-- one target on
pub target-more : (es : List Event) (i n : ℕ) (front whole : List ℕ) → n ≡ open_count es → i < n → front ++ flat_map line (drop i (map shown (open_of es))) ≡ whole →
    (front ++ line_of (open_life es i)) ++ flat_map line (drop (i + 1) (map shown (open_of es))) ≡ whole
unfolding open_count open_life
target-more es i n front whole is lt w = by (option_map shown (slice_get (open_of es) i)) refl
  where
    by : (o : Option Shown) → option_map shown (slice_get (open_of es) i) ≡ o → (front ++ line_of o) ++ flat_map line (drop (i + 1) (map shown (open_of es))) ≡ whole
    by None e = (let k : length (open_of es) ≤ i = past shown (open_of es) i e in absurd (omega (arith, k, is, lt)))
    by (Some x) e =
        let xs = map shown (open_of es) in
        let there : slice_get xs i ≡ Some x = sym (get-mapped shown (open_of es) i) ∙ e in
        append_assoc front (line x) (flat_map line (drop (i + 1) xs))
        ∙ ap (λ ts. front ++ flat_map line ts) (sym (drop_more xs i x (slice_get_within xs i x there) ∙ ap (λ y. y ∷ drop (i + 1) xs) (get_or_from_slice_get xs i x x there)))
        ∙ w

-- behind the last one
pub target-last : (es : List Event) (i : ℕ) (front whole : List ℕ) → open_count es ≤ i → front ++ flat_map line (drop i (map shown (open_of es))) ≡ whole → front ≡ whole
unfolding open_count
target-last es i front whole past w = sym (append-nil front) ∙ ap (λ ts. front ++ flat_map line ts) (sym (none shown (open_of es) i past)) ∙ w
