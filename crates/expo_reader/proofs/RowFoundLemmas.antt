-- A row that is written in the format is read.
use Rattle.std.proofs.Common.{◌≡◌, ◌≢◌, ℕ, ℤ, ◌+◌, ◌-◌, ◌<◌, true, false, not, ◌&&◌, List, [], ◌∷◌, ◌++◌, length, take, refl, sym, ap, ap₂, ◌∙◌, arith, ◌==◌, Option, Some, None, subst, slice_index, ⊎_elim, inl, inr, ◌⊎◌, append_assoc, append-nil, length-append, option_map, option_and_then}
use Rattle.std.specs.List.{list_all}
use Rattle.std.proofs.Math.Seq.{take-append_seam}
use Rattle.std.proofs.lemmas.Bool.{or_from, or_left, or_right}
use Rattle.std.proofs.lemmas.Bool.Decides.{nat_tests}
use Rattle.std.proofs.lemmas.Grind.{common_steps}
use Rattle.label_set.specs.Bytes.{is_metric_name, is_metric_start, is_metric_byte, is_name_start}
use Rattle.label_set.specs.declared.texts.Pair.{Pair}
use Rattle.value_text.specs.Values.{is_value}
use Rattle.expo_lexer.specs.Tokens.{is_blank, is_mark, is_word_byte}
use Rattle.expo_reader.specs.declared.rows.BodyRow.{BodyRow}
use Rattle.label_set.specs.declared.forms.Form.{Form}
use Rattle.label_set.specs.declared.forms.Form.TheVariants.{Quoted}
use Rattle.expo_reader.specs.Texts.{bare, is_end, word_in, mark_in}
use Rattle.expo_reader.specs.Names.{or_else, passing, quote_in, is_quoted_metric, braced_name}
use Rattle.expo_reader.specs.Forms.{labels_after, labels_in, names_differ, stamp_in, value_in, valued, last_word, sample_in, named_row, braced_row, after_name, row_of, labelled_row, differing_row, after_label}
use Rattle.expo_reader.specs.Grammar.{IsBlanks, IsBraced, IsLabels, IsLineEnd, IsMiddle, IsNameAndLabels, IsNamed, IsSample, IsSkipped}
use Rattle.expo_reader.specs.Bodies.{is_skipped}
use Rattle.expo_reader.proofs.FormLemmas.{named-sample}
use Rattle.expo_reader.proofs.FrontLemmas.{both, Stops, bare-front, end-front, word-front, mark-front, mark-front_not, blank_no_word, word_no_blank}
use Rattle.value_text.proofs.GrammarLemmas.{value-found as value-test}
use Rattle.expo_reader.proofs.WordLemmas.{IsWord, metric_name-word, value-word, stamp-word}
use Rattle.expo_reader.proofs.CompleteLemmas.{labels-few, labels-found, mark-word, passed, quote-front, stops-blanks, word-mark}

-- the end of a line
blanks-stop : (b : List ℕ) → IsBlanks b → Stops is_word_byte b
blanks-stop [] e = tt
blanks-stop (x ∷ b) e = blank_no_word x (both (is_blank x) (list_all is_blank b) e).0

some-stop : (b t : List ℕ) → b ≢ [] → IsBlanks b → Stops is_word_byte (b ++ t)
some-stop [] t some e = absurd (some refl)
some-stop (x ∷ b) t some e = blank_no_word x (both (is_blank x) (list_all is_blank b) e).0

end-stops : (bs : List ℕ) (stamp : Option ℤ) → IsLineEnd bs stamp → Stops is_word_byte bs
end-stops bs None e = blanks-stop bs e
end-stops bs (Some ms) e = subst (Stops is_word_byte) (sym e.7) (some-stop e.0 (e.1 ++ e.2) e.4 e.3)

word-start : (w t : List ℕ) → IsWord w → Stops is_blank (w ++ t)
word-start [] t w = absurd (omega (arith, w.0))
word-start (x ∷ w) t word = word_no_blank x (both (is_word_byte x) (list_all is_word_byte w) word.1).0

not-end : (b w t : List ℕ) → IsBlanks b → IsWord w → is_end (b ++ (w ++ t)) ≡ false
not-end b [] t e word = absurd (omega (arith, word.0))
not-end b (x ∷ w) t e word =
    let more : (length (x ∷ (w ++ t)) == 0) ≡ false = grind (arith, nat_tests) in
    ap (λ (l : List ℕ). length l == 0) (bare-front b (x ∷ (w ++ t)) e (word-start (x ∷ w) t word)) ∙ more

stamp-found : (bs : List ℕ) (stamp : Option ℤ) → IsLineEnd bs stamp → stamp_in bs ≡ Some stamp
unfolding stamp_in
stamp-found bs None e = rw (end-front bs e) refl
stamp-found bs (Some ms) e =
    let word = stamp-word e.1 ms e.6 in
    let more : is_end bs ≡ false = ap is_end e.7 ∙ not-end e.0 e.1 e.2 e.3 word in
    let found : word_in bs ≡ Some (e.1, e.2) = ap word_in e.7 ∙ word-front e.0 e.1 e.2 e.3 word.0 word.1 (blanks-stop e.2 e.5) in
    rw more (ap last_word found ∙ rw (end-front e.2 e.5) (ap (option_map Some) e.6))

-- the value with what stands behind it
value-found : (b value after : List ℕ) (stamp : Option ℤ) → IsBlanks b → is_value value ≡ true → IsLineEnd after stamp → value_in (b ++ (value ++ after)) ≡ Some (value, stamp)
unfolding value_in
value-found b value after stamp e v end =
    let word = value-word value v in
    ap valued (word-front b value after e word.0 word.1 (end-stops after stamp end))
    ∙ rw v (ap (option_map (λ (s : Option ℤ). (value, s))) (stamp-found after stamp end))

-- the row of what is written behind the first blanks
row-same : (number : ℕ) (raw : List ℕ) (row : BodyRow) → row.line ≡ number → row.raw ≡ raw → row_of number raw row.name row.labels (Some (row.value, row.stamp)) ≡ Some row
row-same number raw row n r =
    ap₂ (λ (m : ℕ) (s : List ℕ). Some (record { line = m; raw = s; name = row.name; labels = row.labels; value = row.value; stamp = row.stamp })) (sym n) (sym r)

module _ (number : ℕ) (row : BodyRow) (after : List ℕ) (is_number : row.line ≡ number) (valued : is_value row.value ≡ true) (end : IsLineEnd after row.stamp) where
  -- labels that differ behind a raw text
  differing-found : (front b : List ℕ) → IsBlanks b → names_differ row.labels ≡ true → row.raw ≡ front →
      differing_row number (front ++ (b ++ (row.value ++ after))) row.name row.labels (b ++ (row.value ++ after)) ≡ Some row
  differing-found front b e differ raw =
      let tail = b ++ (row.value ++ after) in
      let line = front ++ tail in
      let len : length line - length tail ≡ length front = omega (arith, length-append front tail) in
      let text : take (length line - length tail) line ≡ front = ap (λ n. take n line) len ∙ take-append_seam front tail in
      rw differ (ap (λ (s : List ℕ). row_of number s row.name row.labels (value_in tail)) text
      ∙ ap (row_of number front row.name row.labels) (value-found b row.value after row.stamp e valued end)
      ∙ row-same number front row is_number raw)

  module _ (form : Form) (named : is_metric_name row.name ≡ true) where
    -- no labels
    bare-found : (middle : List ℕ) → IsBlanks middle → middle ≢ [] → row.raw ≡ row.name → row.labels ≡ [] →
        let line = row.name ++ (middle ++ (row.value ++ after)) in named_row form number line (word_in line) ≡ Some row
    unfolding is_mark
    bare-found middle e some raw none =
        let rest = middle ++ (row.value ++ after) in
        let line = row.name ++ rest in
        let name = metric_name-word row.name named in
        let word : word_in line ≡ Some (row.name, rest) = word-front [] row.name rest refl name.0 name.1 (some-stop middle (row.value ++ after) some e) in
        let brace : mark_in 123 rest ≡ None = mark-word 123 middle row.value after refl e (value-word row.value valued) in
        ap (named_row form number line) word
        ∙ rw named (ap (after_name form number line (row.name, rest)) brace
        ∙ ap (row_of number row.name row.name []) (value-found middle row.value after row.stamp e valued end)
        ∙ ap (λ (ls : List Pair). row_of number row.name row.name ls (Some (row.value, row.stamp))) (sym none)
        ∙ row-same number row.name row is_number raw)

    -- labels in braces
    labelled-found : (b1 inside b2 : List ℕ) → IsBlanks b1 → IsBlanks b2 → IsLabels form inside row.labels → names_differ row.labels ≡ true →
        row.raw ≡ row.name ++ (b1 ++ 123 ∷ (inside ++ 125 ∷ [])) →
        let line = row.name ++ (b1 ++ 123 ∷ (inside ++ 125 ∷ (b2 ++ (row.value ++ after)))) in named_row form number line (word_in line) ≡ Some row
    unfolding is_blank is_word_byte is_mark
    labelled-found b1 inside b2 e1 e2 labels differ raw =
        let tail = b2 ++ (row.value ++ after) in
        let opened = inside ++ 125 ∷ tail in
        let rest = b1 ++ 123 ∷ opened in
        let line = row.name ++ rest in
        let front = row.name ++ (b1 ++ 123 ∷ (inside ++ 125 ∷ [])) in
        let name = metric_name-word row.name named in
        let word : word_in line ≡ Some (row.name, rest) = word-front [] row.name rest refl name.0 name.1 (stops-blanks b1 (123 ∷ opened) e1 refl) in
        let brace : mark_in 123 rest ≡ Some opened = mark-front 123 b1 opened e1 refl in
        let few : length row.labels < length opened + 1 = omega (arith, labels-few form row.labels inside labels, length-append inside (125 ∷ tail)) in
        let found : labels_in form (length opened + 1) opened ≡ Some (row.labels, tail) = labels-found form row.labels inside labels tail (length opened + 1) few in
        let whole : line ≡ front ++ tail = simp append_assoc in
        ap (named_row form number line) word
        ∙ rw named (ap (after_name form number line (row.name, rest)) brace
        ∙ ap (labelled_row number line row.name) found
        ∙ ap (λ (l : List ℕ). differing_row number l row.name row.labels tail) whole
        ∙ differing-found front b2 e2 differ raw)

    named-found : (middle braces : List ℕ) → IsMiddle form middle braces row.labels → row.raw ≡ row.name ++ braces →
        let line = row.name ++ (middle ++ (row.value ++ after)) in named_row form number line (word_in line) ≡ Some row
    named-found middle braces m raw =
        ⊎_elim
        (λ (m : IsBlanks middle × (middle ≢ []) × (braces ≡ []) × (row.labels ≡ [])).
        bare-found middle m.0 m.1 (raw ∙ ap (λ b. row.name ++ b) m.2 ∙ append-nil row.name) m.3)
        (λ (m : (c1 : List ℕ) × (inside : List ℕ) × (c2 : List ℕ) × IsBlanks c1 × IsBlanks c2 × IsLabels form inside row.labels × (names_differ row.labels ≡ true)
        × (braces ≡ c1 ++ 123 ∷ (inside ++ 125 ∷ [])) × (middle ≡ braces ++ c2)).
        (let whole : row.name ++ (middle ++ (row.value ++ after)) ≡ row.name ++ (m.0 ++ 123 ∷ (m.1 ++ 125 ∷ (m.2 ++ (row.value ++ after)))) =
        ap (λ d. row.name ++ (d ++ (row.value ++ after))) (m.8 ∙ ap (λ b. b ++ m.2) m.7) ∙ simp append_assoc in
        ap (λ l. named_row form number l (word_in l)) whole
        ∙ labelled-found m.0 m.1 m.2 m.3 m.4 m.5 m.6 (raw ∙ ap (λ b. row.name ++ b) m.7)))
        m

  -- the name and the labels in braces
  module _ (inside b2 : List ℕ) (e2 : IsBlanks b2) (n : IsNameAndLabels inside row.name row.labels) (differ : names_differ row.labels ≡ true) (raw : row.raw ≡ 123 ∷ (inside ++ 125 ∷ [])) where
    -- what is found behind the name
    behind-name : (rest : List ℕ) → ((row.labels ≡ []) × (inside ≡ n.0 ++ (n.1 ++ n.2)) × (rest ≡ n.2 ++ 125 ∷ (b2 ++ (row.value ++ after))))
        ⊎ ((more : List ℕ) × (inside ≡ n.0 ++ (n.1 ++ (n.2 ++ 44 ∷ more))) × IsLabels Quoted more row.labels × (rest ≡ n.2 ++ 44 ∷ (more ++ 125 ∷ (b2 ++ (row.value ++ after))))) →
        labels_after rest ≡ Some (row.labels, b2 ++ (row.value ++ after))
    unfolding is_blank
    behind-name rest h =
        let tail = b2 ++ (row.value ++ after) in
        ⊎_elim
        (λ (last : (row.labels ≡ []) × (inside ≡ n.0 ++ (n.1 ++ n.2)) × (rest ≡ n.2 ++ 125 ∷ tail)).
        (let comma : mark_in 44 rest ≡ None = ap (mark_in 44) last.2 ∙ mark-front_not 44 125 n.2 tail n.4 refl refl in
        let brace : mark_in 125 rest ≡ Some tail = ap (mark_in 125) last.2 ∙ mark-front 125 n.2 tail n.4 refl in
        ap (after_label (λ next. labels_in Quoted (length next + 1) next) rest) comma
        ∙ ap (option_map (λ (r : List ℕ). ([], r))) brace ∙ ap (λ (ls : List Pair). Some (ls, tail)) (sym last.0)))
        (λ (more : (more : List ℕ) × (inside ≡ n.0 ++ (n.1 ++ (n.2 ++ 44 ∷ more))) × IsLabels Quoted more row.labels × (rest ≡ n.2 ++ 44 ∷ (more ++ 125 ∷ tail))).
        (let opened = more.0 ++ 125 ∷ tail in
        let comma : mark_in 44 rest ≡ Some opened = ap (mark_in 44) more.3 ∙ mark-front 44 n.2 opened n.4 refl in
        let few : length row.labels < length opened + 1 = omega (arith, labels-few Quoted row.labels more.0 more.2, length-append more.0 (125 ∷ tail)) in
        ap (after_label (λ next. labels_in Quoted (length next + 1) next) rest) comma
        ∙ labels-found Quoted row.labels more.0 more.2 tail (length opened + 1) few))
        h

    module _ (rest : List ℕ) (whole : inside ++ 125 ∷ (b2 ++ (row.value ++ after)) ≡ n.0 ++ (n.1 ++ rest)) (found : labels_after rest ≡ Some (row.labels, b2 ++ (row.value ++ after))) where
      line-found : sample_in Quoted number (row.raw ++ (b2 ++ (row.value ++ after))) ≡ Some row
      unfolding sample_in braced_name is_blank is_word_byte is_mark
      line-found =
          let tail = b2 ++ (row.value ++ after) in
          let line = row.raw ++ tail in
          let opened = inside ++ 125 ∷ tail in
          let front = 123 ∷ (inside ++ 125 ∷ []) in
          let spelled : front ++ tail ≡ 123 ∷ opened = simp append_assoc in
          let text : line ≡ 123 ∷ opened = ap (λ r. r ++ tail) raw ∙ spelled in
          let none : word_in line ≡ None = ap word_in text ∙ word-mark 123 [] opened refl refl refl in
          let brace : mark_in 123 line ≡ Some opened = ap (mark_in 123) text ∙ mark-front 123 [] opened refl refl in
          let quote : quote_in opened ≡ Some (row.name, rest) = ap quote_in whole ∙ quote-front n.0 n.1 row.name rest n.3 n.6 in
          let named : braced_name line ≡ Some (row.name, rest) =
          ap (option_and_then (λ (inside : List ℕ). passing is_quoted_metric (quote_in inside))) brace ∙ passed is_quoted_metric (quote_in opened) row.name rest quote n.5 in
          ap (λ o. or_else (named_row Quoted number line o) (braced_row number line (braced_name line))) none
          ∙ ap (braced_row number line) named
          ∙ ap (labelled_row number line row.name) found
          ∙ ap (λ (r : List ℕ). differing_row number (r ++ tail) row.name row.labels tail) raw
          ∙ differing-found front b2 e2 differ raw

    braced-found : sample_in Quoted number (row.raw ++ (b2 ++ (row.value ++ after))) ≡ Some row
    braced-found =
        let tail = b2 ++ (row.value ++ after) in
        ⊎_elim
        (λ (last : (row.labels ≡ []) × (inside ≡ n.0 ++ (n.1 ++ n.2))).
        (let rest = n.2 ++ 125 ∷ tail in
        let whole : inside ++ 125 ∷ tail ≡ n.0 ++ (n.1 ++ rest) = ap (λ i. i ++ 125 ∷ tail) last.1 ∙ simp append_assoc in
        line-found rest whole (behind-name rest (inl (last.0, last.1, refl)))))
        (λ (more : (rest : List ℕ) × (inside ≡ n.0 ++ (n.1 ++ (n.2 ++ 44 ∷ rest))) × IsLabels Quoted rest row.labels).
        (let rest = n.2 ++ 44 ∷ (more.0 ++ 125 ∷ tail) in
        let whole : inside ++ 125 ∷ tail ≡ n.0 ++ (n.1 ++ rest) = ap (λ i. i ++ 125 ∷ tail) more.1 ∙ simp append_assoc in
        line-found rest whole (behind-name rest (inr (more.0, more.1, more.2, refl)))))
        n.7

-- a sample line
name-first : (name t : List ℕ) → is_metric_name name ≡ true → ((length (name ++ t) == 0) ≡ false) × ((slice_index (name ++ t) 0 == 35) ≡ false)
unfolding is_metric_start is_name_start
name-first [] t e = absurd cc
name-first (x ∷ name) t e =
    let some : (length (x ∷ (name ++ t)) == 0) ≡ false = grind (arith, nat_tests) in
    let full : not (length (x ∷ name) == 0) ≡ true = grind (arith, nat_tests) in
    let start = (both (is_metric_start x) (list_all is_metric_byte (x ∷ name)) (both (not (length (x ∷ name) == 0)) (is_metric_start x && list_all is_metric_byte (x ∷ name)) e).1).0 in
    (some, grind (arith, nat_tests, common_steps, start))

-- a line whose first byte that is no blank is no `#` is kept
kept-line : (line text : List ℕ) → bare line ≡ text → (length text == 0) ≡ false → (slice_index text 0 == 35) ≡ false → is_skipped line ≡ false
unfolding is_skipped
kept-line line text front some other =
    or_from (is_end line) (slice_index (bare line) 0 == 35) (ap (λ (l : List ℕ). length l == 0) front ∙ some) (ap (λ (l : List ℕ). slice_index l 0 == 35) front ∙ other)

named-kept : (form : Form) (number : ℕ) (line : List ℕ) (row : BodyRow) → IsNamed form number line row → (is_skipped line ≡ false) × (sample_in form number (bare line) ≡ Some row)
named-kept form number line row s =
    let text = row.name ++ (s.1 ++ (row.value ++ s.3)) in
    let name = metric_name-word row.name s.6 in
    let front : bare line ≡ text = ap bare s.11 ∙ bare-front s.0 text s.5 (word-start row.name (s.1 ++ (row.value ++ s.3)) name) in
    let first = name-first row.name (s.1 ++ (row.value ++ s.3)) s.6 in
    let found = named-found number row s.3 s.4 (value-test row.value s.9) s.10 form s.6 s.1 s.2 s.7 s.8 in (
      kept-line line text front first.0 first.1,
      ap (sample_in form number) front ∙ named-sample form number text row found,
    )

braced-kept : (number : ℕ) (line : List ℕ) (row : BodyRow) → IsBraced number line row → (is_skipped line ≡ false) × (sample_in Quoted number (bare line) ≡ Some row)
unfolding is_blank
braced-kept number line row s =
    let tail = s.2 ++ (row.value ++ s.3) in
    let text = row.raw ++ tail in
    let opened = (s.1 ++ 125 ∷ []) ++ tail in
    let begins : text ≡ 123 ∷ opened = ap (λ r. r ++ tail) s.9 in
    let front : bare line ≡ text = ap bare (s.12 ∙ ap (λ t. s.0 ++ t) begins) ∙ bare-front s.0 (123 ∷ opened) s.5 refl ∙ sym begins in
    let long : (length (123 ∷ opened) == 0) ≡ false = grind (arith, nat_tests) in
    let some : (length text == 0) ≡ false = ap (λ (l : List ℕ). length l == 0) begins ∙ long in
    let other : (slice_index text 0 == 35) ≡ false = ap (λ (l : List ℕ). slice_index l 0 == 35) begins in (
      kept-line line text front some other,
      ap (sample_in Quoted number) front ∙ braced-found number row s.3 s.4 (value-test row.value s.10) s.11 s.1 s.2 s.6 s.7 s.8 s.9,
    )

pub sample-found : (form : Form) (number : ℕ) (line : List ℕ) (row : BodyRow) → IsSample form number line row → (is_skipped line ≡ false) × (sample_in form number (bare line) ≡ Some row)
sample-found form number line row s =
    ⊎_elim
    (λ (n : IsNamed form number line row). named-kept form number line row n)
    (λ (b : (form ≡ Quoted) × IsBraced number line row). (let k = braced-kept number line row b.1 in (k.0, ap (λ f. sample_in f number (bare line)) b.0 ∙ k.1)))
    s

-- a line that is skipped
pub skipped-found : (line : List ℕ) → IsSkipped line → is_skipped line ≡ true
unfolding is_skipped is_blank
skipped-found line s =
    ⊎_elim
    (λ (e : IsBlanks line). or_left (is_end line) (slice_index (bare line) 0 == 35) (end-front line e))
    (λ (c : (b1 : List ℕ) × (rest : List ℕ) × IsBlanks b1 × (line ≡ b1 ++ 35 ∷ rest)).
    or_right (is_end line) (slice_index (bare line) 0 == 35) (ap (λ (l : List ℕ). slice_index l 0 == 35) (ap bare c.3 ∙ bare-front c.0 (35 ∷ c.1) c.2 refl)))
    s
