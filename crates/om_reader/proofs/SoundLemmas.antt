-- What is read is written in the format: the parts of a line that are found make it up.
use Rattle.std.proofs.Common.{◌≡◌, ◌≢◌, ℕ, ℤ, suc, zero, ◌+◌, ◌-◌, true, false, not, ◌&&◌, List, [], ◌∷◌, ◌++◌, length, take, drop, refl, sym, ap, ap₂, ◌∙◌, arith, ◌==◌, Option, Some, None, subst, slice_index, ⊎_elim, inl, inr, ◌⊎◌, append_assoc, append-nil, length-append, option_map, option_and_then, codes}
use Rattle.std.specs.Str.{bytes_eq}
use Rattle.std.proofs.Math.Seq.{take-append_seam}
use Rattle.std.proofs.lemmas.List.{take-append-drop, nil_from_length}
use Rattle.std.proofs.lemmas.Bool.{cases_Bool, eqb-true}
use Rattle.std.proofs.lemmas.Slice.Eq.{bytes_eq-Decides}
use Rattle.label_set.specs.Bytes.{is_label_name, is_metric_name}
use Rattle.label_set.specs.declared.texts.Pair.{Pair}
use Rattle.value_text.specs.Values.{is_value}
use Rattle.value_text.proofs.GrammarLemmas.{value-sound as value-written}
use Rattle.expo_reader.specs.Bodies.{has_metric_label}
use Rattle.expo_reader.specs.Forms.{closed_or, names_differ}
use Rattle.expo_reader.specs.Texts.{mark_at, text_at, text_value, word_at}
use Rattle.expo_reader.proofs.FrontLemmas.{both}
use Rattle.expo_reader.proofs.QuoteLemmas.{text-sound as text-pieces}
use Rattle.expo_reader.proofs.RowLemmas.{chosen, first-label, mapped, pair}
use Rattle.om_reader.specs.Bodies.{row_of}
use Rattle.om_reader.specs.Forms.{Sample, after_label, after_name, all_labels_at, braced, cut, differing, field_at, is_end, is_last, is_measured, label_and_more, label_at, label_of, labelled, labels_at, made, measure_at, named, named_label, sample_at, stamp_at, stamped, valued, valued_label}
use Rattle.om_reader.specs.Grammar.{IsBraces, IsExemplar, IsLabel, IsLabelled, IsLabels, IsMeasure, IsSample}
use Rattle.om_reader.specs.Timestamps.{stamp_millis}
use Rattle.om_reader.proofs.WordLemmas.{field-split, mark-split, text-split, word-split}

-- a label
label-made : (name text : List ℕ) (label : Pair) → label_of name text ≡ Some label → (is_label_name name ≡ true) × (label.name ≡ name) × (text_value text ≡ Some label.value)
label-made name text label e =
    let k = chosen (is_label_name name) (option_map {U = Pair} (λ (value : List ℕ). record { name = name; value = value }) (text_value text)) label e in
    let m = mapped {B = Pair} (λ (value : List ℕ). record { name = name; value = value }) (text_value text) label k.1 in
    (k.0, ap (λ (p : Pair). p.name) (sym m.2), m.1 ∙ ap (λ (p : Pair). Some p.value) m.2)

module _ (bs name rest : List ℕ) (label : Pair) (r : List ℕ) (whole : bs ≡ name ++ rest) where
  by_text : (quoted : List ℕ) → mark_at 61 rest ≡ Some quoted → (o : Option (List ℕ × List ℕ)) → text_at quoted ≡ o → valued_label name o ≡ Some (label, r) →
      (one : List ℕ) × IsLabel one label × (bs ≡ one ++ r)
  by_text quoted m None t v = absurd cc
  by_text quoted m (Some (text, after)) t v =
      let p = mapped {B = Pair × List ℕ} (λ (l : Pair). (l, after)) (label_of name text) (label, r) v in
      let is : p.0 ≡ label = ap (λ (q : Pair × List ℕ). q.0) p.2 in
      let end : after ≡ r = ap (λ (q : Pair × List ℕ). q.1) p.2 in
      let made = label-made name text label (p.1 ∙ ap Some is) in
      let quotes = text-split quoted text after t in
      let pieces = text-pieces text label.value quotes.1 made.2 in
      let one = label.name ++ 61 ∷ 34 ∷ (text ++ 34 ∷ []) in
      let spelled : bs ≡ label.name ++ 61 ∷ 34 ∷ (text ++ 34 ∷ r) =
      whole ∙ ap₂ (λ n s. n ++ s) (sym made.1) (mark-split 61 rest quoted (omega arith) m ∙ ap (λ q. 61 ∷ q) (quotes.0 ∙ ap (λ a. 34 ∷ (text ++ 34 ∷ a)) end)) in
      let joined : one ++ r ≡ label.name ++ 61 ∷ 34 ∷ (text ++ 34 ∷ r) = simp append_assoc in
      (one, (text, ap is_label_name made.1 ∙ made.0, pieces.0, pieces.1, refl), spelled ∙ sym joined)

  by_mark : (o : Option (List ℕ)) → mark_at 61 rest ≡ o → option_and_then (λ (quoted : List ℕ). valued_label name (text_at quoted)) o ≡ Some (label, r) →
      (one : List ℕ) × IsLabel one label × (bs ≡ one ++ r)
  by_mark None m e = absurd cc
  by_mark (Some quoted) m e = by_text quoted m (text_at quoted) refl e

by_word : (bs : List ℕ) (o : Option (List ℕ × List ℕ)) (label : Pair) (r : List ℕ) → word_at bs ≡ o → named_label o ≡ Some (label, r) → (one : List ℕ) × IsLabel one label × (bs ≡ one ++ r)
by_word bs None label r w e = absurd cc
by_word bs (Some (name, rest)) label r w e = by_mark bs name rest label r (word-split bs name rest w) (mark_at 61 rest) refl e

label-sound : (bs : List ℕ) (label : Pair) (r : List ℕ) → label_at bs ≡ Some (label, r) → (one : List ℕ) × IsLabel one label × (bs ≡ one ++ r)
unfolding label_at
label-sound bs label r e = by_word bs (word_at bs) label r refl e

-- labels and the brace behind them
unfoldable pub HasLabels : List ℕ → List Pair → List ℕ → Type 0
HasLabels bs labels r = (inside : List ℕ) × IsLabels inside labels × (bs ≡ inside ++ 125 ∷ r)

some-labels : (label : Pair) (labels : List Pair) → (label ∷ labels) ≢ []
some-labels label labels e = (let n : length (label ∷ labels) ≡ 0 = ap length e in omega (arith, n))

labels-sound : (k : ℕ) (bs : List ℕ) (labels : List Pair) (r : List ℕ) → labels_at k bs ≡ Some (labels, r) → (labels ≢ []) × HasLabels bs labels r
unfolding labels_at HasLabels
labels-sound zero bs labels r e = absurd cc
labels-sound (suc n) bs labels r e = by_label (λ next ls q h. labels-sound n next ls q h) (label_at bs) refl e
  where
    by_label : ((next : List ℕ) (ls : List Pair) (q : List ℕ) → labels_at n next ≡ Some (ls, q) → (ls ≢ []) × HasLabels next ls q) →
        (f : Option (Pair × List ℕ)) → label_at bs ≡ f → label_and_more (λ next. labels_at n next) f ≡ Some (labels, r) → (labels ≢ []) × HasLabels bs labels r
    by_label sound None l e = absurd cc
    by_label sound (Some (label, rest)) l e =
        let one = label-sound bs label rest l in
        let g = first-label label (after_label (λ next. labels_at n next) rest (mark_at 44 rest)) labels r e in
        subst (λ (ls : List Pair). (ls ≢ []) × HasLabels bs ls r) (sym g.2) (some-labels label g.0, by_comma one.0 one.1 one.2 g.0 (mark_at 44 rest) refl g.1)
      where
        by_comma : (one : List ℕ) → IsLabel one label → bs ≡ one ++ rest → (more : List Pair) → (o : Option (List ℕ)) → mark_at 44 rest ≡ o →
            after_label (λ next. labels_at n next) rest o ≡ Some (more, r) → HasLabels bs (label ∷ more) r
        by_comma one is whole more (Some next) c e =
            let h = sound next more r e in
            let spelled : bs ≡ (one ++ 44 ∷ h.1.0) ++ 125 ∷ r =
            whole ∙ ap (λ l. one ++ l) (mark-split 44 rest next (omega arith) c ∙ ap (λ n. 44 ∷ n) h.1.2) ∙ simp append_assoc in
            (one ++ 44 ∷ h.1.0, (one, is, inr (h.1.0, h.0, refl, h.1.1)), spelled)
        by_comma one is whole more None c e =
            let m = mapped {B = List Pair × List ℕ} (λ (q : List ℕ). ([], q)) (mark_at 125 rest) (more, r) e in
            let none : [] ≡ more = ap (λ (q : List Pair × List ℕ). q.0) m.2 in
            let end : m.0 ≡ r = ap (λ (q : List Pair × List ℕ). q.1) m.2 in
            let spelled : bs ≡ one ++ 125 ∷ r = whole ∙ ap (λ l. one ++ l) (mark-split 125 rest m.0 (omega arith) m.1 ∙ ap (λ q. 125 ∷ q) end) in
            (one, (one, is, inl (sym none, refl)), spelled)

all-sound : (bs : List ℕ) (labels : List Pair) (r : List ℕ) (o : Option (List ℕ)) → mark_at 125 bs ≡ o → closed_or o (labels_at (length bs + 1) bs) ≡ Some (labels, r) → HasLabels bs labels r
unfolding HasLabels
all-sound bs labels r None m e = (labels-sound (length bs + 1) bs labels r e).1
all-sound bs labels r (Some rest) m e =
    let p = pair [] labels rest r e in
    ([], subst (IsLabels []) p.0 refl, mark-split 125 bs rest (omega arith) m ∙ ap (λ q. 125 ∷ q) p.1)

differing-parts : (o : Option (List Pair × List ℕ)) (labels : List Pair) (r : List ℕ) → differing o ≡ Some (labels, r) → (o ≡ Some (labels, r)) × (names_differ labels ≡ true)
differing-parts None labels r e = absurd cc
differing-parts (Some (found, rest)) labels r e =
    let k = chosen (names_differ found) (Some (found, rest)) (labels, r) e in
    let p = pair found labels rest r k.1 in
    (k.1, ap names_differ (sym p.0) ∙ k.0)

-- labels in braces
pub braced-sound : (bs : List ℕ) (labels : List Pair) (r : List ℕ) → braced bs ≡ Some (labels, r) → (braces : List ℕ) × IsBraces braces labels × (123 ∷ bs ≡ braces ++ r)
unfolding braced HasLabels
braced-sound bs labels r e =
    let d = differing-parts (all_labels_at bs) labels r e in
    let h = all-sound bs labels r (mark_at 125 bs) refl d.0 in
    (123 ∷ (h.0 ++ 125 ∷ []), (h.0, h.1, d.1, refl), ap (λ s. 123 ∷ s) h.2 ∙ simp append_assoc)

-- a value and a timestamp
unfoldable HasMeasure : List ℕ → List ℕ → Option ℤ → List ℕ → Type 0
HasMeasure bs value stamp r = (m : List ℕ) × IsMeasure m value stamp × (bs ≡ m ++ r)

stamp-sound : (bs rest value : List ℕ) (stamp : Option ℤ) (r : List ℕ) → is_value value ≡ true → bs ≡ 32 ∷ (value ++ rest) → stamp_at rest ≡ Some (stamp, r) → HasMeasure bs value stamp r
unfolding stamp_at HasMeasure
stamp-sound bs rest value stamp r good whole e =
    ⊎_elim
    (λ (t : ((slice_index rest 0 == 32) && not (slice_index rest 1 == 35)) ≡ true).
    (let more : stamped (field_at rest) ≡ Some (stamp, r) = rw t at e in by_field (field_at rest) refl more))
    (λ (t : ((slice_index rest 0 == 32) && not (slice_index rest 1 == 35)) ≡ false).
    (let here : ◌≡◌ {A = Option (Option ℤ × List ℕ)} (Some (None, rest)) (Some (stamp, r)) = rw t at e in
    let p = pair None stamp rest r here in
    (32 ∷ value, subst (λ (s : Option ℤ). IsMeasure (32 ∷ value) value s) p.0 (value-written value good, refl), whole ∙ ap (λ s. 32 ∷ (value ++ s)) p.1)))
    (cases_Bool ((slice_index rest 0 == 32) && not (slice_index rest 1 == 35)))
  where
    by_field : (o : Option (List ℕ × List ℕ)) → field_at rest ≡ o → stamped o ≡ Some (stamp, r) → HasMeasure bs value stamp r
    by_field None f e = absurd cc
    by_field (Some (word, after)) f e =
        let m = mapped {B = Option ℤ × List ℕ} (λ (ms : ℤ). (Some ms, after)) (stamp_millis word) (stamp, r) e in
        let is : Some m.0 ≡ stamp = ap (λ (p : Option ℤ × List ℕ). p.0) m.2 in
        let end : after ≡ r = ap (λ (p : Option ℤ × List ℕ). p.1) m.2 in
        let text = 32 ∷ (value ++ 32 ∷ word) in
        let spelled : bs ≡ 32 ∷ (value ++ 32 ∷ (word ++ r)) = whole ∙ ap (λ s. 32 ∷ (value ++ s)) (field-split rest word after f ∙ ap (λ a. 32 ∷ (word ++ a)) end) in
        let joined : text ++ r ≡ 32 ∷ (value ++ 32 ∷ (word ++ r)) = simp append_assoc in
        (text, subst (λ (s : Option ℤ). IsMeasure text value s) is (value-written value good, word, m.1, refl), spelled ∙ sym joined)

valued-sound : (bs : List ℕ) (o : Option (List ℕ × List ℕ)) (value : List ℕ) (stamp : Option ℤ) (r : List ℕ) → field_at bs ≡ o → valued o ≡ Some (value, stamp, r) → HasMeasure bs value stamp r
valued-sound bs None value stamp r f e = absurd cc
valued-sound bs (Some (word, rest)) value stamp r f e =
    let k = chosen (is_value word) (option_map {U = List ℕ × Option ℤ × List ℕ} (λ (s : Option ℤ × List ℕ). (word, s.0, s.1)) (stamp_at rest)) (value, stamp, r) e in
    let m = mapped {B = List ℕ × Option ℤ × List ℕ} (λ (s : Option ℤ × List ℕ). (word, s.0, s.1)) (stamp_at rest) (value, stamp, r) k.1 in
    let same : word ≡ value = ap (λ (p : List ℕ × Option ℤ × List ℕ). p.0) m.2 in
    let is : m.0 ≡ (stamp, r) = ap (λ (p : List ℕ × Option ℤ × List ℕ). (p.1, p.2)) m.2 in
    stamp-sound bs rest value stamp r (ap is_value (sym same) ∙ k.0) (field-split bs word rest f ∙ ap (λ v. 32 ∷ (v ++ rest)) same) (m.1 ∙ ap Some is)

pub measure-sound : (bs value : List ℕ) (stamp : Option ℤ) (r : List ℕ) → measure_at bs ≡ Some (value, stamp, r) → (m : List ℕ) × IsMeasure m value stamp × (bs ≡ m ++ r)
unfolding measure_at HasMeasure
measure-sound bs value stamp r e = valued-sound bs (field_at bs) value stamp r refl e

-- the end of a line
last-sound : (bs : List ℕ) (o : Option (List ℕ × Option ℤ × List ℕ)) → measure_at bs ≡ o → is_last o ≡ true → (value : List ℕ) × (stamp : Option ℤ) × IsMeasure bs value stamp
last-sound bs None m e = absurd cc
last-sound bs (Some (value, stamp, rest)) m e =
    let none : rest ≡ [] = nil_from_length rest (eqb-true (length rest) 0 e) in
    let k = measure-sound bs value stamp rest m in
    (value, stamp, subst (λ (s : List ℕ). IsMeasure s value stamp) (sym (k.2 ∙ ap (λ r. k.0 ++ r) none ∙ append-nil k.0)) k.1)

exemplar-sound : (bs : List ℕ) (o : Option (List Pair × List ℕ)) → braced (drop 4 bs) ≡ o → is_measured o ≡ true → take 4 bs ≡ codes " # {" → IsExemplar bs
exemplar-sound bs None b e front = absurd cc
exemplar-sound bs (Some (labels, rest)) b e front =
    let k = braced-sound (drop 4 bs) labels rest b in
    let m = last-sound rest (measure_at rest) refl e in
    let whole : bs ≡ 32 ∷ 35 ∷ 32 ∷ (k.0 ++ rest) = sym (take-append-drop 4 bs) ∙ ap (λ f. f ++ drop 4 bs) front ∙ ap (λ s. 32 ∷ 35 ∷ 32 ∷ s) k.2 in
    (k.0, labels, rest, m.0, m.1, k.1, m.2, whole)

pub end-sound : (bs : List ℕ) → is_end bs ≡ true → (bs ≡ []) ⊎ IsExemplar bs
unfolding is_end
end-sound bs e =
    ⊎_elim
    (λ (n : (length bs == 0) ≡ true). inl (nil_from_length bs (eqb-true (length bs) 0 n)))
    (λ (n : (length bs == 0) ≡ false).
    (let more : (bytes_eq (take 4 bs) (codes " # {") && is_measured (braced (drop 4 bs))) ≡ true = rw n at e in
    let k = both (bytes_eq (take 4 bs) (codes " # {")) (is_measured (braced (drop 4 bs))) more in
    inr (exemplar-sound bs (braced (drop 4 bs)) refl k.1 ((bytes_eq-Decides (take 4 bs) (codes " # {")).0 k.0))))
    (cases_Bool (length bs == 0))

-- a sample line
made-sound : (raw name : List ℕ) (labels : List Pair) (bs : List ℕ) (o : Option (List ℕ × Option ℤ × List ℕ)) (s : Sample) → measure_at bs ≡ o → made raw name labels o ≡ Some s →
    (s.raw ≡ raw) × (s.name ≡ name) × (s.labels ≡ labels) × ((measure : List ℕ) × (exemplar : List ℕ) × IsMeasure measure s.value s.stamp × ((exemplar ≡ []) ⊎ IsExemplar exemplar) × (bs ≡ measure ++ exemplar))
made-sound raw name labels bs None s m e = absurd cc
made-sound raw name labels bs (Some (value, stamp, rest)) s m e =
    let said : Sample = record { raw = raw; name = name; labels = labels; value = value; stamp = stamp } in
    let k = chosen (is_end rest) (Some said) s e in
    let same : said ≡ s = cc k.1 in
    let h = measure-sound bs value stamp rest m in (
      ap (λ (x : Sample). x.raw) (sym same),
      ap (λ (x : Sample). x.name) (sym same),
      ap (λ (x : Sample). x.labels) (sym same),
      (h.0, rest, subst (λ (x : Sample). IsMeasure h.0 x.value x.stamp) same h.1, end-sound rest k.0, h.2),
    )

module _ (number : ℕ) (line name rest : List ℕ) (s : Sample) (whole : line ≡ name ++ rest) (good : is_metric_name name ≡ true) where
  cut-sound : (braces : List ℕ) (labels : List Pair) (tail : List ℕ) → IsLabelled braces labels → rest ≡ braces ++ tail → cut line name labels tail ≡ Some s → IsSample number line (row_of number s)
  cut-sound braces labels tail is split e =
      let k = made-sound (take (length line - length tail) line) name labels tail (measure_at tail) s refl e in
      let all : line ≡ (name ++ braces) ++ tail = whole ∙ ap (λ r. name ++ r) split ∙ sym (append_assoc name braces tail) in
      let len : length line - length tail ≡ length (name ++ braces) = omega (arith, ap length all, length-append (name ++ braces) tail) in
      let raw : s.raw ≡ name ++ braces = k.0 ∙ ap₂ take len all ∙ take-append_seam (name ++ braces) tail in
      let m = k.3 in (
        braces,
        m.0,
        m.1,
        refl,
        ap is_metric_name k.1 ∙ good,
        subst (IsLabelled braces) (sym k.2) is,
        raw ∙ ap (λ n. n ++ braces) (sym k.1),
        m.2,
        m.3,
        all ∙ ap₂ (λ r t. r ++ t) (sym raw) m.4,
      )

  by_labels : (inside : List ℕ) → rest ≡ 123 ∷ inside → (o : Option (List Pair × List ℕ)) → braced inside ≡ o → labelled line name o ≡ Some s → IsSample number line (row_of number s)
  by_labels inside opened None b e = absurd cc
  by_labels inside opened (Some (labels, tail)) b e =
      let k = braced-sound inside labels tail b in
      ⊎_elim
      (λ (t : has_metric_label labels ≡ true). absurd (let no : ◌≡◌ {A = Option Sample} None (Some s) = rw t at e in cc))
      (λ (t : has_metric_label labels ≡ false). cut-sound k.0 labels tail (inr (k.1, t)) (opened ∙ k.2) (rw t at e))
      (cases_Bool (has_metric_label labels))

  by_brace : (o : Option (List ℕ)) → mark_at 123 rest ≡ o → after_name line name rest o ≡ Some s → IsSample number line (row_of number s)
  by_brace None m e = cut-sound [] [] rest (inl (refl, refl)) refl e
  by_brace (Some inside) m e = by_labels inside (mark-split 123 rest inside (omega arith) m) (braced inside) refl e

by_name : (number : ℕ) (line : List ℕ) (s : Sample) (o : Option (List ℕ × List ℕ)) → word_at line ≡ o → named line o ≡ Some s → IsSample number line (row_of number s)
by_name number line s None w e = absurd cc
by_name number line s (Some (name, rest)) w e =
    let k = chosen (is_metric_name name) (after_name line name rest (mark_at 123 rest)) s e in
    by_brace number line name rest s (word-split line name rest w) k.0 (mark_at 123 rest) refl k.1

pub sample-sound : (number : ℕ) (line : List ℕ) (s : Sample) → sample_at line ≡ Some s → IsSample number line (row_of number s)
unfolding sample_at
sample-sound number line s e = by_name number line s (word_at line) refl e
