-- The entries of a table of texts, and the place of a text among distinct ones.
use Rattle.std.proofs.Common.{◌≡◌, ℕ, zero, suc, Bool, true, false, cond, filter, List, [], ◌∷◌, ◌++◌, map, take, slice_get, Option, None, Some, option_map, is_some, IfNone, unwrap_or, position, refl, sym, ap, subst, ◌∙◌, rules}
use Rattle.std.proofs.lemmas.List.{map-append, take-map}
use Rattle.std.proofs.lemmas.Option.{slice_get-map}
use Rattle.std.proofs.lemmas.List.Quantifiers.{position-Some}
use Rattle.std.proofs.lemmas.Option.{slice_get-get_or}
use Rattle.std.specs.Cmp.Lexicographic.{nat_list_eq_equiv, bytes_decides}
use Rattle.std.specs.List.{AllByRecursion, IsDistinct}
use Rattle.std.specs.Map.{keys_of, values_of, lookup}
use Rattle.std.specs.Map.Calls.{RetainsPairs}
use Rattle.std.specs.Str.{bytes_eq}
use Rattle.std.specs.declared.vec.Vec.{Vec}
use Rattle.indexmap.specs.Layout.{set_value_at}
use Rattle.series_cache.specs.declared.known.Known.{Known}
use Rattle.series_cache.specs.Caches.{find, stamped}
use Rattle.series_cache.specs.Places.{texts_of, HasAt, AreDistinct}
use Rattle.series_cache.specs.Remembered.{marked}

module _ {Z : Type 0} where
  -- two texts in a table are the same
  abbrev pub same_texts : Vec ℕ Z → Vec ℕ Z → Bool
  same_texts x y = bytes_eq x.items y.items

  -- a text in a table as its bytes
  abbrev pub seen : Vec ℕ Z × Known → List ℕ × Known
  seen e = (e.0.items, e.1)

  apart : (k : Vec ℕ Z) (es : List (Vec ℕ Z × Known)) → AllByRecursion (λ y. same_texts k y ≡ false) (keys_of es) → AllByRecursion (λ y. bytes_eq k.items y ≡ false) (keys_of (texts_of es))
  apart k [] h = tt
  apart k (e ∷ es) h = (h.0, apart k es h.1)

  pub distinct_texts : (es : List (Vec ℕ Z × Known)) → IsDistinct same_texts (keys_of es) → AreDistinct (texts_of es)
  unfolding IsDistinct
  distinct_texts [] h = tt
  distinct_texts (e ∷ es) h = (apart e.0 es h.0, distinct_texts es h.1)

  pub lookup_text : (raw : List ℕ) (es : List (Vec ℕ Z × Known)) → lookup (λ (k : Vec ℕ Z). bytes_eq raw k.items) es ≡ find raw (texts_of es)
  lookup_text raw [] = refl
  lookup_text raw (e ∷ es) = ap (cond (bytes_eq raw e.0.items) (Some e.1)) (lookup_text raw es)

  -- an entry of the table is a text at the same place
  pub text_at : (es : List (Vec ℕ Z × Known)) (i : ℕ) (e : Vec ℕ Z × Known) → slice_get es i ≡ Some e → slice_get (texts_of es) i ≡ Some (seen e)
  text_at es i e h = slice_get-map seen es i ∙ ap (option_map seen) h

  -- an entry whose text is this one
  pub has_at : (raw : List ℕ) (es : List (Vec ℕ Z × Known)) (i : ℕ) (e : Vec ℕ Z × Known) → slice_get es i ≡ Some e → bytes_eq raw e.0.items ≡ true → HasAt raw (texts_of es) i
  has_at raw es i e h b = ap (option_map (λ (t : List ℕ × Known). bytes_eq raw t.0)) (text_at es i e h) ∙ ap Some b

  -- what is known of the text at a place is known of it
  pub known_by : (raw : List ℕ) (es : List (Vec ℕ Z × Known)) (i : ℕ) (e : Vec ℕ Z × Known) → slice_get es i ≡ Some e → lookup (λ (y : Vec ℕ Z). same_texts e.0 y) es ≡ Some e.1 →
      HasAt raw (texts_of es) i → find raw (texts_of es) ≡ Some e.1
  known_by raw es i e h k at =
      let b : bytes_eq raw e.0.items ≡ true =
      ap (λ (o : Option Bool). unwrap_or o false) (sym (ap (option_map (λ (t : List ℕ × Known). bytes_eq raw t.0)) (text_at es i e h)) ∙ at) in
      let s : raw ≡ e.0.items = (bytes_decides raw e.0.items).0 b in
      ap (λ (r : List ℕ). find r (texts_of es)) s ∙ sym (lookup_text e.0.items es) ∙ k

  alike : (raw : List ℕ) (o : Option (Vec ℕ Z × Known)) →
      option_map (λ (t : List ℕ × Known). bytes_eq raw t.0) (option_map seen o) ≡ option_map (λ (k : Vec ℕ Z). bytes_eq raw k.items) (option_map (λ (e : Vec ℕ Z × Known). e.0) o)
  alike raw None = refl
  alike raw (Some e) = refl

  -- the place that a hash leads to
  pub place_by_hash : (raw : List ℕ) (es : List (Vec ℕ Z × Known)) (i : ℕ) → position (λ (k : Vec ℕ Z). bytes_eq raw k.items) (keys_of es) ≡ Some i → HasAt raw (texts_of es) i
  place_by_hash raw [] i h = absurd cc
  place_by_hash raw (e ∷ es) i h =
      let p = position-Some (λ (k : Vec ℕ Z). bytes_eq raw k.items) (keys_of (e ∷ es)) i e.0 h in
      ap (option_map (λ (t : List ℕ × Known). bytes_eq raw t.0)) (slice_get-map seen (e ∷ es) i) ∙ alike raw (slice_get (e ∷ es) i)
      ∙ ap (option_map (λ (k : Vec ℕ Z). bytes_eq raw k.items)) (sym (slice_get-map (λ (f : Vec ℕ Z × Known). f.0) (e ∷ es) i) ∙ slice_get-get_or (keys_of (e ∷ es)) i e.0 p.0) ∙ ap Some p.1

  pub values_seen : (es : List (Vec ℕ Z × Known)) → values_of (texts_of es) ≡ values_of es
  values_seen [] = refl
  values_seen (e ∷ es) = ap (λ (vs : List Known). e.1 ∷ vs) (values_seen es)

  pub texts_set : (es : List (Vec ℕ Z × Known)) (i : ℕ) (w : Known) → texts_of (set_value_at es i w) ≡ set_value_at (texts_of es) i w
  texts_set [] i w = refl
  texts_set (e ∷ es) zero w = refl
  texts_set (e ∷ es) (suc i) w = ap (λ (ts : List (List ℕ × Known)). seen e ∷ ts) (texts_set es i w)

  pub texts_push : (es : List (Vec ℕ Z × Known)) (e : Vec ℕ Z × Known) → texts_of (es ++ e ∷ []) ≡ texts_of es ++ seen e ∷ []
  texts_push es e = map-append seen es (e ∷ [])

  pub texts_take : (n : ℕ) (es : List (Vec ℕ Z × Known)) → texts_of (take n es) ≡ take n (texts_of es)
  texts_take n es = sym (take-map seen n es)

  -- what a table's `retain` leaves, where the closure keeps no state
  module _ {F : Type 0} (T : F → Vec ℕ Z → Known → Bool → Known → F → Type 0) (test : Known → Bool) (change : Known → Known) (f : F)
      (says : (k : Vec ℕ Z) (v : Known) (b : Bool) (w : Known) (g : F) → T f k v b w g → (b ≡ test v) × (w ≡ change v) × (g ≡ f)) where
    pub retained : (es kept : List (Vec ℕ Z × Known)) → RetainsPairs T f es kept →
        texts_of kept ≡ map (λ (t : List ℕ × Known). (t.0, change t.1)) (filter (λ (t : List ℕ × Known). test t.1) (texts_of es))
    retained [] kept h = ap texts_of h
    retained (e ∷ es) kept h =
        let s = says e.0 e.1 h.0 h.1 h.2 h.4 in
        let rest = retained es h.3 (subst (λ g. RetainsPairs T g es h.3) s.2 h.5) in
        ap texts_of h.6 ∙ by h.0 h.1 h.3 (test e.1) (sym s.0) s.1 rest
      where
        by : (b : Bool) (w : Known) (ks : List (Vec ℕ Z × Known)) (c : Bool) → test e.1 ≡ b → w ≡ change e.1 →
            texts_of ks ≡ map (λ (t : List ℕ × Known). (t.0, change t.1)) (filter (λ (t : List ℕ × Known). test t.1) (texts_of es)) →
            texts_of (cond b ((e.0, w) ∷ ks) ks) ≡ map (λ (t : List ℕ × Known). (t.0, change t.1)) (filter (λ (t : List ℕ × Known). test t.1) (texts_of (e ∷ es)))
        by true w ks c t u r = rw (t, u, r) refl
        by false w ks c t u r = rw t r

-- nothing goes
pub all_stay : (ts : List (List ℕ × Known)) → filter (λ (t : List ℕ × Known). true) ts ≡ ts
all_stay [] = refl
all_stay (t ∷ ts) = ap (λ (l : List (List ℕ × Known)). t ∷ l) (all_stay ts)

-- a text at a later place isn't this one
other : (raw k : List ℕ) (ts : List (List ℕ × Known)) (i : ℕ) → AllByRecursion (λ y. bytes_eq k y ≡ false) (keys_of ts) → HasAt raw ts i → bytes_eq raw k ≡ false
other raw k [] i d h = absurd cc
other raw k (t ∷ ts) zero d h =
    let same : bytes_eq raw t.0 ≡ true = search rules in
    nat_list_eq_equiv.congr raw t.0 k same ∙ nat_list_eq_equiv.symm t.0 k ∙ d.0
other raw k (t ∷ ts) (suc i) d h = other raw k ts i d.1 h

-- behind a text there is no other that is the same
pub untouched : (raw k : List ℕ) (tracked : Bool) (ts : List (List ℕ × Known)) → bytes_eq raw k ≡ true → AllByRecursion (λ y. bytes_eq k y ≡ false) (keys_of ts) → map (stamped raw tracked) ts ≡ ts
untouched raw k tracked [] e d = refl
untouched raw k tracked (t ∷ ts) e d =
    let b : bytes_eq raw t.0 ≡ false = nat_list_eq_equiv.congr raw k t.0 e ∙ d.0 in
    rw b (ap (λ (l : List (List ℕ × Known)). t ∷ l) (untouched raw k tracked ts e d.1))

-- a text is stamped where it stands
pub stamped_at : (raw : List ℕ) (tracked : Bool) (ts : List (List ℕ × Known)) (i : ℕ) (v : Known) → AreDistinct ts → HasAt raw ts i → slice_get (values_of ts) i ≡ Some v →
    set_value_at ts i (marked tracked v) ≡ map (stamped raw tracked) ts
unfolding IsDistinct
stamped_at raw tracked [] i v d h s = refl
stamped_at raw tracked (t ∷ ts) zero v d h s =
    let b : bytes_eq raw t.0 ≡ true = ap (λ (o : Option Bool). unwrap_or o false) h in
    let w : v ≡ t.1 = sym (ap (λ (o : Option Known). unwrap_or o v) s) in
    rw (b, w) (ap (λ (l : List (List ℕ × Known)). (t.0, marked tracked t.1) ∷ l) (sym (untouched raw t.0 tracked ts b d.0)))
stamped_at raw tracked (t ∷ ts) (suc i) v d h s =
    let b : bytes_eq raw t.0 ≡ false = other raw t.0 ts i d.0 h in
    rw b (ap (λ (l : List (List ℕ × Known)). t ∷ l) (stamped_at raw tracked ts i v d.1 h s))

-- no text stands at a place that isn't there
pub none_at : (raw : List ℕ) (ts : List (List ℕ × Known)) (i : ℕ) → slice_get (values_of ts) i ≡ None → HasAt raw ts i → ⊥
none_at raw [] i s h = cc
none_at raw (t ∷ ts) zero s h = cc
none_at raw (t ∷ ts) (suc i) s h = none_at raw ts i s h

-- where there is no place, nothing is known
pub none_known : (r : Option ℕ) (o : Option Known) → is_some r ≡ is_some o → IfNone r (o ≡ None)
none_known None None e = refl
none_known None (Some k) e = absurd cc
none_known (Some i) o e = tt

-- a new text is known as it was put
pub known_last : (raw : List ℕ) (ts : List (List ℕ × Known)) (k : Known) → find raw ts ≡ None → find raw (ts ++ (raw, k) ∷ []) ≡ Some k
known_last raw [] k h = rw (nat_list_eq_equiv.refl raw) refl
known_last raw (t ∷ ts) k h = by (bytes_eq raw t.0) refl (known_last raw ts k)
  where
    by : (b : Bool) → bytes_eq raw t.0 ≡ b → (find raw ts ≡ None → find raw (ts ++ (raw, k) ∷ []) ≡ Some k) → find raw ((t ∷ ts) ++ (raw, k) ∷ []) ≡ Some k
    by true e rest = absurd (subst (λ (c : Bool). cond c (Some t.1) (find raw ts) ≡ None → ⊥) (sym e) (λ q. cc) h)
    by false e rest = rw e (rest (subst (λ (c : Bool). cond c (Some t.1) (find raw ts) ≡ None) e h))

-- where no set is known, nothing is known
pub unknown : (o : Option Known) → option_map (λ (k : Known). k.set) o ≡ None → o ≡ None
unknown None h = refl
unknown (Some k) h = absurd cc
