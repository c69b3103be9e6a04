-- What is written in the format is read: the parts of a line that are put together are found again.
use Rattle.std.proofs.Common.{◌≡◌, ◌≢◌, ℕ, ℤ, suc, zero, ◌+◌, ◌-◌, ◌<◌, ◌≤◌, true, false, not, ◌&&◌, ◌||◌, List, [], ◌∷◌, ◌++◌, length, take, drop, refl, sym, ap, ap₂, ◌∙◌, arith, ◌==◌, Option, Some, None, subst, slice_index, ⊎_elim, inl, inr, ◌⊎◌, append_assoc, append-nil, length-append, codes}
use Rattle.std.specs.Str.{bytes_eq}
use Rattle.std.proofs.Math.Seq.{take-append_seam}
use Rattle.std.proofs.lemmas.Bool.{or_right}
use Rattle.std.proofs.lemmas.Bool.Decides.{nat_tests}
use Rattle.std.proofs.lemmas.Grind.{common_steps}
use Rattle.label_set.specs.Bytes.{is_label_name, is_metric_name, is_metric_start, is_name_start}
use Rattle.label_set.specs.declared.texts.Pair.{Pair}
use Rattle.value_text.proofs.GrammarLemmas.{value-found as value-test}
use Rattle.expo_lexer.specs.Tokens.{is_blank, is_mark, is_word_byte}
use Rattle.expo_reader.specs.Forms.{closed_or, names_differ, names_differ_from, with_first}
use Rattle.expo_reader.specs.Texts.{mark_at, text_at, word_at}
use Rattle.expo_reader.specs.declared.rows.BodyRow.{BodyRow}
use Rattle.expo_reader.proofs.FrontLemmas.{both, Stops}
use Rattle.expo_reader.proofs.QuoteLemmas.{written, text-found as value-found}
use Rattle.expo_reader.proofs.WordLemmas.{metric_name-word, value-word}
use Rattle.om_reader.specs.Forms.{Sample, after_label, after_name, all_labels_at, braced, cut, differing, field_at, is_end, is_last, is_measured, label_and_more, label_at, labelled, labels_at, made, measure_at, named, named_label, sample_at, stamp_at, stamped, valued, valued_label}
use Rattle.om_reader.specs.Grammar.{IsExemplar, IsLabel, IsLabelled, IsLabels, IsMeasure, IsSample}
use Rattle.om_reader.specs.Timestamps.{stamp_millis}
use Rattle.om_reader.proofs.WordLemmas.{EndsField, field-found, label_name-word, stamp-no_hash, stamp-word, text-found, word-found}

-- the label that is written there, with what follows its quote
label-found : (bs : List ℕ) (label : Pair) (l : IsLabel bs label) (t : List ℕ) → label_at (bs ++ t) ≡ Some (label, t)
unfolding label_at is_word_byte is_blank is_mark
label-found bs label l t =
    let text = l.0 in
    let quoted = 34 ∷ (text ++ 34 ∷ t) in
    let whole : bs ++ t ≡ label.name ++ 61 ∷ quoted = ap (λ s. s ++ t) l.4 ∙ simp append_assoc in
    let word : word_at (bs ++ t) ≡ Some (label.name, 61 ∷ quoted) = ap word_at whole ∙ word-found label.name (61 ∷ quoted) (label_name-word label.name l.1) refl in
    let found : text_at quoted ≡ Some (text, t) = text-found text t (written l.2).0 in
    ap named_label word ∙ ap (valued_label label.name) found
    ∙ rw (l.1, value-found text label.value l.2 l.3) refl

label-long : (bs : List ℕ) (label : Pair) → IsLabel bs label → 0 < length bs
label-long bs label l = omega (arith, ap length l.4, simp length-append at (ap length l.4))

labels-few : (labels : List Pair) (bs : List ℕ) → IsLabels bs labels → length labels ≤ length bs
labels-few [] bs l = omega arith
labels-few (label ∷ labels) bs l =
    let one = label-long l.0 label l.1 in
    ⊎_elim
    (λ (last : (labels ≡ []) × (bs ≡ l.0)). (let none : length labels ≡ 0 = ap length last.0 in omega (arith, one, none, ap length last.1)))
    (λ (more : (rest : List ℕ) × (labels ≢ []) × (bs ≡ l.0 ++ 44 ∷ rest) × IsLabels rest labels).
    omega (arith, one, labels-few labels more.0 more.3, simp length-append at (ap length more.2)))
    l.2

one-step : (n : ℕ) (label : Pair) (one : List ℕ) (l : IsLabel one label) (u : List ℕ) →
    labels_at (suc n) (one ++ u) ≡ with_first label (after_label (λ next. labels_at n next) u (mark_at 44 u))
unfolding labels_at
one-step n label one l u = ap (label_and_more (λ next. labels_at n next)) (label-found one label l u)

labels-found : (labels : List Pair) (bs : List ℕ) → IsLabels bs labels → labels ≢ [] → (t : List ℕ) (k : ℕ) → length labels ≤ k →
    labels_at k (bs ++ 125 ∷ t) ≡ Some (labels, t)
labels-found [] bs l some t k h = absurd (some refl)
labels-found (label ∷ labels) bs l some t zero h = absurd (omega arith)
labels-found (label ∷ labels) bs l some t (suc n) h =
    let one = l.0 in
    ⊎_elim
    (λ (last : (labels ≡ []) × (bs ≡ one)).
    (ap (λ s. labels_at (suc n) (s ++ 125 ∷ t)) last.1 ∙ one-step n label one l.1 (125 ∷ t) ∙ ap (λ ls. Some (label ∷ ls, t)) (sym last.0)))
    (λ (more : (rest : List ℕ) × (labels ≢ []) × (bs ≡ one ++ 44 ∷ rest) × IsLabels rest labels).
    (let u = 44 ∷ (more.0 ++ 125 ∷ t) in
    let whole : bs ++ 125 ∷ t ≡ one ++ u = ap (λ s. s ++ 125 ∷ t) more.2 ∙ simp append_assoc in
    ap (labels_at (suc n)) whole ∙ one-step n label one l.1 u
    ∙ ap (with_first label) (labels-found labels more.0 more.3 more.1 t n (omega arith))))
    l.2

-- a label begins with no brace
name-no_brace : (name t : List ℕ) → is_label_name name ≡ true → (mark_at 125 (name ++ t) ≡ None)
unfolding is_name_start
name-no_brace [] t e = absurd cc
name-no_brace (x ∷ name) t e =
    let full : not (length (x ∷ name) == 0) ≡ true = grind (arith, nat_tests) in
    let start = (both (is_name_start x) _ (both (not (length (x ∷ name) == 0)) _ e).1).0 in
    let other : (x == 125) ≡ false = grind (arith, nat_tests, common_steps, start) in
    rw other refl

labels-open : (labels : List Pair) (bs : List ℕ) → IsLabels bs labels → labels ≢ [] → (t : List ℕ) → mark_at 125 (bs ++ t) ≡ None
labels-open [] bs l some t = absurd (some refl)
labels-open (label ∷ labels) bs l some t =
    let one = l.1 in
    let tail = 61 ∷ 34 ∷ (one.0 ++ 34 ∷ []) in
    ⊎_elim
    (λ (last : (labels ≡ []) × (bs ≡ l.0)).
    ap (λ s. mark_at 125 (s ++ t)) (last.1 ∙ one.4) ∙ ap (mark_at 125) (append_assoc label.name tail t) ∙ name-no_brace label.name (tail ++ t) one.1)
    (λ (more : (rest : List ℕ) × (labels ≢ []) × (bs ≡ l.0 ++ 44 ∷ rest) × IsLabels rest labels).
    (let whole : bs ++ t ≡ label.name ++ (tail ++ (44 ∷ (more.0 ++ t))) = ap (λ s. s ++ t) (more.2 ∙ ap (λ s. s ++ 44 ∷ more.0) one.4) ∙ simp append_assoc in
    ap (mark_at 125) whole ∙ name-no_brace label.name (tail ++ (44 ∷ (more.0 ++ t))) one.1))
    l.2

-- labels in braces
pub inside-found : (labels : List Pair) (inside : List ℕ) → IsLabels inside labels → names_differ labels ≡ true → (t : List ℕ) → braced (inside ++ 125 ∷ t) ≡ Some (labels, t)
unfolding braced names_differ_from
inside-found [] inside l differ t = ap (λ s. differing (all_labels_at (s ++ 125 ∷ t))) l
inside-found (label ∷ labels) inside l differ t =
    let some : (label ∷ labels) ≢ [] = λ e. (let n : length (label ∷ labels) ≡ 0 = ap length e in omega (arith, n)) in
    let bs = inside ++ 125 ∷ t in
    let few : length (label ∷ labels) ≤ length bs + 1 = omega (arith, labels-few (label ∷ labels) inside l, length-append inside (125 ∷ t)) in
    ap (λ o. differing (closed_or o (labels_at (length bs + 1) bs))) (labels-open (label ∷ labels) inside l some (125 ∷ t))
    ∙ ap differing (labels-found (label ∷ labels) inside l some t (length bs + 1) few)
    ∙ rw differ refl

-- a value and a timestamp
-- what may follow them: nothing, or an exemplar
abbrev pub EndsMeasure : List ℕ → Type 0
EndsMeasure t = (t ≡ []) ⊎ ((r : List ℕ) × (t ≡ 32 ∷ 35 ∷ r))

ends-field : (t : List ℕ) → EndsMeasure t → EndsField t
ends-field t (inl e) = subst EndsField (sym e) tt
ends-field t (inr r) = subst EndsField (sym r.1) refl

no-stamp : (t : List ℕ) → EndsMeasure t → stamp_at t ≡ Some (None, t)
unfolding stamp_at
no-stamp t (inl e) = subst (λ (s : List ℕ). stamp_at s ≡ Some (None, s)) (sym e) refl
no-stamp t (inr r) = subst (λ (s : List ℕ). stamp_at s ≡ Some (None, s)) (sym r.1) refl

stamp-found : (word t : List ℕ) (ms : ℤ) → stamp_millis word ≡ Some ms → EndsMeasure t → stamp_at (32 ∷ (word ++ t)) ≡ Some (Some ms, t)
unfolding stamp_at
stamp-found word t ms e ends =
    let no_hash = stamp-no_hash word t ms e in
    rw no_hash (ap stamped (field-found word t (stamp-word word ms e) (ends-field t ends)) ∙ rw e refl)

pub measure-found : (bs value : List ℕ) (stamp : Option ℤ) → IsMeasure bs value stamp → (t : List ℕ) → EndsMeasure t → measure_at (bs ++ t) ≡ Some (value, stamp, t)
unfolding measure_at
measure-found bs value None m t ends =
    let good = value-test value m.0 in
    ap (λ s. valued (field_at (s ++ t))) m.1 ∙ ap valued (field-found value t (value-word value good) (ends-field t ends))
    ∙ rw (good, no-stamp t ends) refl
measure-found bs value (Some ms) m t ends =
    let good = value-test value m.0 in
    let rest = 32 ∷ (m.1 ++ t) in
    let whole : bs ++ t ≡ 32 ∷ (value ++ rest) = ap (λ s. s ++ t) m.3 ∙ simp append_assoc in
    ap (λ s. valued (field_at s)) whole ∙ ap valued (field-found value rest (value-word value good) refl)
    ∙ rw (good, stamp-found m.1 t ms m.2 ends) refl

-- the end of a line
pub end-found : (bs : List ℕ) → (bs ≡ []) ⊎ IsExemplar bs → is_end bs ≡ true
unfolding is_end
end-found bs (inl e) = subst (λ (s : List ℕ). ((length s == 0) || (bytes_eq (take 4 s) (codes " # {") && is_measured (braced (drop 4 s)))) ≡ true) (sym e) refl
end-found bs (inr x) =
    let braces = x.0 in
    let measure = x.2 in
    let b = x.5 in
    let whole : bs ≡ 32 ∷ 35 ∷ 32 ∷ 123 ∷ (b.0 ++ 125 ∷ measure) = x.7 ∙ ap (λ s. 32 ∷ 35 ∷ 32 ∷ (s ++ measure)) b.3 ∙ simp append_assoc in
    let found : braced (b.0 ++ 125 ∷ measure) ≡ Some (x.1, measure) = inside-found x.1 b.0 b.1 b.2 measure in
    let last : measure_at measure ≡ Some (x.3, x.4, []) = ap measure_at (sym (append-nil measure)) ∙ measure-found measure x.3 x.4 x.6 [] (inl refl) in
    or_right (length bs == 0) _ (ap (λ s. bytes_eq (take 4 s) (codes " # {") && is_measured (braced (drop 4 s))) whole ∙ ap is_measured found ∙ ap is_last last)

exemplar-ends : (bs : List ℕ) → (bs ≡ []) ⊎ IsExemplar bs → EndsMeasure bs
exemplar-ends bs (inl e) = inl e
exemplar-ends bs (inr x) = inr (32 ∷ (x.0 ++ x.2), x.7)

-- a sample line
abbrev pub sample_of : BodyRow → Sample
sample_of row = record { raw = row.raw; name = row.name; labels = row.labels; value = row.value; stamp = row.stamp }

-- what stands behind the name
labels-behind : (braces : List ℕ) (labels : List Pair) → IsLabelled braces labels → (line name measure : List ℕ) (rest : List ℕ) → measure ≡ 32 ∷ rest →
    (Stops is_word_byte (braces ++ measure)) × (after_name line name (braces ++ measure) (mark_at 123 (braces ++ measure)) ≡ cut line name labels measure)
unfolding is_word_byte is_blank is_mark
labels-behind braces labels (inl e) line name measure rest m =
    let whole : braces ++ measure ≡ 32 ∷ rest = ap (λ b. b ++ measure) e.0 ∙ m in
    let same : braces ++ measure ≡ measure = ap (λ b. b ++ measure) e.0 in (
      subst (Stops is_word_byte) (sym whole) refl,
      ap (λ s. after_name line name s (mark_at 123 s)) whole ∙ ap (λ s. cut line name [] s) (sym m) ∙ ap (λ ls. cut line name ls measure) (sym e.1),
    )
labels-behind braces labels (inr b) line name measure rest m =
    let inside = b.0.0 in
    let whole : braces ++ measure ≡ 123 ∷ (inside ++ 125 ∷ measure) = ap (λ s. s ++ measure) b.0.3 ∙ simp append_assoc in
    let found = inside-found labels inside b.0.1 b.0.2 measure in (
      subst (Stops is_word_byte) (sym whole) refl,
      ap (λ s. after_name line name s (mark_at 123 s)) whole ∙ ap (labelled line name) found ∙ rw b.1 refl,
    )

measure-starts : (bs value : List ℕ) (stamp : Option ℤ) → IsMeasure bs value stamp → (rest : List ℕ) × (bs ≡ 32 ∷ rest)
measure-starts bs value None m = (value, m.1)
measure-starts bs value (Some ms) m = (value ++ 32 ∷ m.1, m.3)

pub sample-found : (number : ℕ) (line : List ℕ) (row : BodyRow) → IsSample number line row → sample_at line ≡ Some (sample_of row)
unfolding sample_at
sample-found number line row s =
    let braces = s.0 in
    let measure = s.1 in
    let exemplar = s.2 in
    let tail = measure ++ exemplar in
    let first = measure-starts measure row.value row.stamp s.7 in
    let starts : tail ≡ 32 ∷ (first.0 ++ exemplar) = ap (λ m. m ++ exemplar) first.1 in
    let whole : line ≡ row.name ++ (braces ++ tail) = s.9 ∙ ap (λ r. r ++ tail) s.6 ∙ append_assoc row.name braces tail in
    let behind = labels-behind braces row.labels s.5 line row.name tail (first.0 ++ exemplar) starts in
    let word : word_at line ≡ Some (row.name, braces ++ tail) = ap word_at whole ∙ word-found row.name (braces ++ tail) (metric_name-word row.name s.4) behind.0 in
    let len : length line - length tail ≡ length row.raw = omega (arith, ap length s.9, length-append row.raw tail) in
    let raw : take (length line - length tail) line ≡ row.raw = ap₂ take len s.9 ∙ take-append_seam row.raw tail in
    let found : measure_at tail ≡ Some (row.value, row.stamp, exemplar) = measure-found measure row.value row.stamp s.7 exemplar (exemplar-ends exemplar s.8) in
    ap (named line) word ∙ rw s.4 (behind.1 ∙ ap₂ (λ r m. made r row.name row.labels m) raw found ∙ rw (end-found exemplar s.8) refl)

-- it is no comment and no `# EOF`
name-first : (name t : List ℕ) → is_metric_name name ≡ true → (slice_index (name ++ t) 0 == 35) ≡ false
unfolding is_metric_start is_name_start
name-first [] t e = absurd cc
name-first (x ∷ name) t e =
    let full : not (length (x ∷ name) == 0) ≡ true = grind (arith, nat_tests) in
    let start = (both (is_metric_start x) _ (both (not (length (x ∷ name) == 0)) _ e).1).0 in
    grind (arith, nat_tests, common_steps, start)

pub sample-first : (number : ℕ) (line : List ℕ) (row : BodyRow) → IsSample number line row → (slice_index line 0 == 35) ≡ false
sample-first number line row s =
    let tail = s.1 ++ s.2 in
    ap (λ l. slice_index l 0 == 35) (s.9 ∙ ap (λ r. r ++ tail) s.6 ∙ append_assoc row.name s.0 tail) ∙ name-first row.name (s.0 ++ tail) s.4
