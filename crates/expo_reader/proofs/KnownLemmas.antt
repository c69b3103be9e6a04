-- A line that begins with the raw text of a row has its name and its labels.
use Rattle.std.proofs.Common.{◌≡◌, ◌≢◌, ℕ, zero, suc, ℤ, ◌+◌, ◌<◌, true, List, [], ◌∷◌, ◌++◌, length, take, drop, Option, Some, Ok, refl, sym, ap, ap₂, ◌∙◌, subst, arith, ⊎_elim, inl, inr, append_assoc, append-nil, get_or, slice_index}
use Rattle.std.specs.Prelude.{slice_get}
use Rattle.std.proofs.Math.Seq.{take-append_seam}
use Rattle.std.proofs.lemmas.List.Elements.{All-get_or}
use Rattle.value_text.proofs.GrammarLemmas.{value-sound as value-written}
use Rattle.expo_lexer.specs.Tokens.{blank_len, is_blank}
use Rattle.expo_reader.specs.Bodies.{lines_of, reading}
use Rattle.label_set.specs.declared.forms.Form.{Form}
use Rattle.label_set.specs.declared.forms.Form.TheVariants.{Plain, Quoted}
use Rattle.value_text.specs.Values.{is_value}
use Rattle.expo_reader.specs.Forms.{names_differ, sample_in}
use Rattle.expo_reader.specs.Grammar.{IsBlanks, IsBraced, IsLabels, IsLineEnd, IsMiddle, IsNamed, IsSample}
use Rattle.expo_reader.specs.Like.{GoesIn, IsRawText, raws}
use Rattle.expo_reader.proofs.LikeLemmas.{raw-at}
use Rattle.expo_reader.specs.Spans.{made_row, row_at, HasParts}
use Rattle.expo_reader.specs.Texts.{bare}
use Rattle.expo_reader.specs.declared.rows.BodyRow.{BodyRow}
use Rattle.expo_reader.specs.declared.spans.LineSpan.{LineSpan}
use Rattle.expo_reader.proofs.RowFoundLemmas.{sample-found}
use Rattle.expo_reader.proofs.FormLemmas.{plain_reads_quoted}
use Rattle.expo_reader.proofs.LawLemmas.{rows-lines}
use Rattle.expo_reader.proofs.RawLemmas.{IsSampled, sampled}
use Rattle.expo_reader.proofs.SeenLemmas.{spanned-said}
use Rattle.expo_reader.proofs.SoundLemmas.{blanks, blanks-are}
use Rattle.expo_reader.proofs.RowSoundLemmas.{EndsWith, value-sound}

-- it is the raw text of a row that some line is written as
abbrev IsWritten : Form → List ℕ → Type 0
IsWritten form raw = (number : ℕ) × (line : List ℕ) × (row : BodyRow) × IsSample form number line row × (raw ≡ row.raw)

-- the raw text and what follows it are a sample line, where that begins with a blank and is a value
module _ (form : Form) (r : BodyRow) (braces rest : List ℕ) (raw : r.raw ≡ r.name ++ braces) (some : blanks rest ≢ []) (all : IsBlanks (blanks rest)) (end : List ℕ) (whole : rest ≡ blanks rest ++ end) where
  known-middle : (middle : List ℕ) → IsMiddle form middle braces r.labels → (next : List ℕ) × IsMiddle form next braces r.labels × (r.raw ++ rest ≡ r.name ++ (next ++ end))
  known-middle middle m =
      ⊎_elim
      (λ (bare : IsBlanks middle × (middle ≢ []) × (braces ≡ []) × (r.labels ≡ [])).
      (let same : r.raw ≡ r.name = raw ∙ ap (λ b. r.name ++ b) bare.2 ∙ append-nil r.name in
      (blanks rest, inl (all, some, bare.2, bare.3), ap₂ (λ a b. a ++ b) same whole)))
      (λ (more : (b1 : List ℕ) × (inside : List ℕ) × (b2 : List ℕ) × IsBlanks b1 × IsBlanks b2 × IsLabels form inside r.labels × (names_differ r.labels ≡ true)
      × (braces ≡ b1 ++ 123 ∷ (inside ++ 125 ∷ [])) × (middle ≡ braces ++ b2)).
      (let spelled : (r.name ++ braces) ++ (blanks rest ++ end) ≡ r.name ++ ((braces ++ blanks rest) ++ end) = simp append_assoc in
      (braces ++ blanks rest, inr (more.0, more.1, blanks rest, more.3, all, more.5, more.6, more.7, refl), ap₂ (λ a b. a ++ b) raw whole ∙ spelled)))
      m

starts-blank : (rest : List ℕ) → slice_index rest 0 ≡ 32 → blanks rest ≢ []
unfolding is_blank
starts-blank [] e = absurd cc
starts-blank (x ∷ rest) e = λ n.
    (let more : 1 + blank_len rest ≡ suc (blank_len rest) = omega arith in
    let first : blanks (32 ∷ rest) ≡ 32 ∷ blanks rest = ap (λ j. take j (32 ∷ rest)) more in
    let none : 32 ∷ blanks rest ≡ [] = sym first ∙ ap (λ y. blanks (y ∷ rest)) (sym e) ∙ n in
    absurd cc)

-- a row of a body with this raw text
row-of : (rows : List BodyRow) (place : ℕ) (raw : List ℕ) → slice_get (raws rows) place ≡ Some raw → (r : BodyRow) × (place < length rows) × (r ≡ get_or rows place r) × (raw ≡ r.raw)
row-of [] place raw e = absurd cc
row-of (r ∷ rows) zero raw e = (r, omega arith, refl, cc)
row-of (x ∷ rows) (suc k) raw e = let found = row-of rows k raw e in (found.0, omega (arith, found.1), found.2, found.3)

-- each row of a body is written so
row-written : (form : Form) (bytes : List ℕ) (rows : List BodyRow) (i : ℕ) (r : BodyRow) → reading form bytes ≡ Ok rows → i < length rows → r ≡ get_or rows i r → IsWritten form r.raw
row-written form bytes rows i r e h at =
    let k = All-get_or (IsSampled form) rows i r h (sampled form (lines_of bytes) 1 rows (rows-lines form bytes rows e)) in
    let s : IsSampled form r = subst (IsSampled form) (sym at) k in
    (s.0, s.1, r, s.2, refl)

raw-written : (form : Form) (raw : List ℕ) → IsRawText form raw → IsWritten form raw
raw-written form raw (bytes, rows, place, e, at) =
    let found = row-of rows place raw at in
    subst (IsWritten form) (sym found.3) (row-written form bytes rows place found.0 e found.1 found.2)

-- a raw text of the one form, where that goes in the other
pub raw-goes : (from into : Form) (raw : List ℕ) → GoesIn from into → IsRawText from raw → IsRawText into raw
raw-goes from into raw goes is =
    ⊎_elim
    (λ (same : from ≡ into). subst (λ f. IsRawText f raw) same is)
    (λ (quoted : into ≡ Quoted). subst (λ f. IsRawText f raw) (sym quoted) (raw-quoted from raw is))
    goes
  where
    raw-quoted : (from : Form) (raw : List ℕ) → IsRawText from raw → IsRawText Quoted raw
    raw-quoted Plain raw is = (is.0, is.1, is.2, plain_reads_quoted is.0 is.1 is.3, is.4)
    raw-quoted Quoted raw is = is

-- the line that begins with it
module _ (form : Form) (number : ℕ) (rest value after : List ℕ) (stamp : Option ℤ) (blank : slice_index rest 0 ≡ 32) (written : is_value value ≡ true) (end : IsLineEnd after stamp)
    (whole : rest ≡ blanks rest ++ (value ++ after)) (r : BodyRow) where
  named-again : (n : ℕ) (line : List ℕ) → IsNamed form n line r → IsNamed form number (r.raw ++ rest) (made_row number r.raw r.name r.labels (value, stamp))
  named-again n line p =
      let next = known-middle form r p.2 rest p.8 (starts-blank rest blank) (blanks-are rest) (value ++ after) whole p.1 p.7 in
      ([], next.0, p.2, after, refl, refl, p.6, next.1, p.8, value-written value written, end, next.2)

  braced-again : (n : ℕ) (line : List ℕ) → IsBraced n line r → IsBraced number (r.raw ++ rest) (made_row number r.raw r.name r.labels (value, stamp))
  braced-again n line p = ([], p.1, blanks rest, after, refl, refl, blanks-are rest, p.7, p.8, p.9, value-written value written, end, ap (λ t. r.raw ++ t) whole)

  sample-again : (n : ℕ) (line : List ℕ) → IsSample form n line r → IsSample form number (r.raw ++ rest) (made_row number r.raw r.name r.labels (value, stamp))
  sample-again n line p =
      ⊎_elim
      (λ (m : IsNamed form n line r). inl (named-again n line m))
      (λ (b : (form ≡ Quoted) × IsBraced n line r). inr (b.0, braced-again n line b.1))
      p

module _ (form : Form) (number : ℕ) (text raw rest : List ℕ) (is_raw : IsRawText form raw) (bare_is : blank_len text ≡ 0) (whole : text ≡ raw ++ rest) (blank : slice_index rest 0 ≡ 32) where
  pub known-said : (s : LineSpan) → HasParts text (length raw) rest s → sample_in form number text ≡ Some (row_at number text s)
  unfolding EndsWith
  known-said s h =
      let v = take s.value_len (drop s.value_at text) in
      let w = raw-written form raw is_raw in
      let r = w.2 in
      let end = value-sound rest v s.stamp h.1 in
      let row : BodyRow = made_row number r.raw r.name r.labels (v, s.stamp) in
      let is : text ≡ r.raw ++ rest = whole ∙ ap (λ a. a ++ rest) w.4 in
      let sample : IsSample form number text row =
      subst (λ t. IsSample form number t row) (sym is) (sample-again form number rest v end.0 s.stamp blank end.1 end.2 end.3 r w.0 w.1 w.3) in
      let found = (sample-found form number text row sample).1 in
      let here : bare text ≡ text = ap (λ k. drop k text) bare_is in
      let said : sample_in form number text ≡ Some row = ap (sample_in form number) (sym here) ∙ found in
      let front : r.raw ≡ take s.raw_len text = sym w.4 ∙ sym (take-append_seam raw rest) ∙ ap (take (length raw)) (sym whole) ∙ ap (λ k. take k text) (sym h.0) in
      spanned-said form number text r.name r.labels s (said ∙ ap (λ (w : List ℕ). Some (made_row number w r.name r.labels (v, s.stamp))) front)

-- each row of a body has a raw text
pub row-raw : (form : Form) (bytes : List ℕ) (rows : List BodyRow) (i : ℕ) (r : BodyRow) → reading form bytes ≡ Ok rows → i < length rows → r ≡ get_or rows i r → IsRawText form r.raw
row-raw form bytes rows i r e h at = (bytes, rows, i, e, raw-at rows i r h at)
