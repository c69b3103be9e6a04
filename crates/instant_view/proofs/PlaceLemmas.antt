-- Places for the ends of series.
use Rattle.std.proofs.Common.{◌≡◌, ℕ, Bool, true, false, List, length, Some, None, Option, refl, sym, ap, ◌∙◌, subst, cond, unwrap_or}
use Rattle.std.specs.Prelude.{is_some, IsSome, codes}
use Rattle.std.specs.BTreeSet.{BTreeSet}
use Rattle.instant_view.specs.Selectors.{value_in}
use Rattle.std.specs.BTreeMap.{BTreeMap, get, is_at}
use Rattle.std.specs.Ordering.{is_eq}
use Rattle.label_set.specs.Same.{sets_decide}
use Rattle.label_set.specs.Sets.{set_cmp}
use Rattle.label_set.specs.declared.texts.Pair.{Pair}
use Rattle.instant_view.specs.declared.threads.Threads.{Threads}
use Rattle.instant_view.specs.Threads.{AreEnds, AreLinked, AreNamed, IsLastOf, IsThreaded, Rise, end_of, is_named}

none_there : (o : Option ℕ) → is_some o ≡ false → o ≡ None
none_there None e = refl
none_there (Some n) e = absurd cc

-- a new place has the end 0
module _ (old new : BTreeMap (List Pair) ℕ) (series key : List Pair) (same : key ≡ series) (absent : is_some (get set_cmp old series) ≡ false)
    (updated : (q : List Pair) → get set_cmp new q ≡ cond (is_at (set_cmp key) q) (Some 0) (get set_cmp old q)) where
  pub place_same : (s : List Pair) → end_of new s ≡ end_of old s
  place_same s = by (is_eq (set_cmp key s)) refl
    where
      by : (b : Bool) → is_eq (set_cmp key s) ≡ b → end_of new s ≡ end_of old s
      by true e =
          let here : series ≡ s = sym same ∙ (sets_decide key s).0 e in
          let none : get set_cmp old s ≡ None = subst (λ q. get set_cmp old q ≡ None) here (none_there (get set_cmp old series) absent) in
          ap (λ (o : Option ℕ). unwrap_or o 0) (updated s ∙ ap (λ b. cond b (Some 0) (get set_cmp old s)) e) ∙ sym (ap (λ (o : Option ℕ). unwrap_or o 0) none)
      by false e = ap (λ (o : Option ℕ). unwrap_or o 0) (updated s ∙ ap (λ b. cond b (Some 0) (get set_cmp old s)) e)

-- the index with other room, and places, is one still
pub threaded_same : (old new : Threads) → IsThreaded old → new.kept.items ≡ old.kept.items → new.links.items ≡ old.links.items →
    ((s : List Pair) → end_of new.ends s ≡ end_of old.ends s) → AreNamed new.ends new.named → IsThreaded new
threaded_same old new is kept links ends named =
    record {
      rise = subst Rise (sym kept) is.rise;
      linked = subst (λ ks. AreLinked ks new.links.items) (sym kept) (subst (AreLinked old.kept.items) (sym links) is.linked);
      ends =
          subst (λ ks. AreEnds ks new.ends) (sym kept)
          (λ s. subst (IsLastOf old.kept.items s (length old.kept.items)) (sym (ends s)) (is.ends s));
      named = named;
    }

-- each series is noted, also with a place more
pub named_more : (old new : BTreeMap (List Pair) ℕ) (was named : BTreeMap (List ℕ) (BTreeSet (List Pair))) (series key : List Pair) → key ≡ series →
    ((q : List Pair) → get set_cmp new q ≡ cond (is_at (set_cmp key) q) (Some 0) (get set_cmp old q)) → AreNamed old was →
    ((n : List ℕ) (s : List Pair) → is_named was n s ≡ true → is_named named n s ≡ true) → is_named named (value_in series (codes "__name__")) series ≡ true → AreNamed new named
named_more old new was named series key same updated are others noted s = by (is_eq (set_cmp key s)) refl
  where
    by : (b : Bool) → is_eq (set_cmp key s) ≡ b → IsSome (get set_cmp new s) → is_named named (value_in s (codes "__name__")) s ≡ true
    by true e place = subst (λ q. is_named named (value_in q (codes "__name__")) q ≡ true) (sym same ∙ (sets_decide key s).0 e) noted
    by false e place =
        others (value_in s (codes "__name__")) s (are s (subst IsSome (updated s ∙ ap (λ b. cond b (Some 0) (get set_cmp old s)) e) place))

-- more may be noted
pub named_still : (ends : BTreeMap (List Pair) ℕ) (was named : BTreeMap (List ℕ) (BTreeSet (List Pair))) → AreNamed ends was →
    ((n : List ℕ) (s : List Pair) → is_named was n s ≡ true → is_named named n s ≡ true) → AreNamed ends named
named_still ends was named are others s place = others (value_in s (codes "__name__")) s (are s place)
