-- Reading and writing agree: line by line, and over whole bodies.
use Rattle.std.proofs.Common.{◌≡◌, ◌≢◌, ℕ, ◌+◌, true, false, List, [], ◌∷◌, ◌++◌, refl, sym, ap, ◌∙◌, Option, Some, None, Result, Ok, Err, subst, slice_index, ⊎_elim, inl, inr, ◌⊎◌, ◌==◌, true≢false, length, arith}
use Rattle.std.specs.Str.{bytes_eq}
use Rattle.std.proofs.lemmas.Bool.{cases_Bool, eqb-true}
use Rattle.std.proofs.lemmas.Slice.Eq.{bytes_eq-Decides}
use Rattle.expo_reader.specs.Bodies.{joined, line_then, lines_of}
use Rattle.expo_reader.specs.declared.rows.BodyRow.{BodyRow}
use Rattle.om_reader.specs.declared.bodies.OmError.{OmError}
use Rattle.om_reader.specs.declared.bodies.OmError.TheVariants.{Line, NoMemory}
use Rattle.om_reader.specs.Bodies.{ended, eof, line_reading, reading, row_of, rows_from}
use Rattle.om_reader.specs.Forms.{Sample, sample_at}
use Rattle.om_reader.specs.Grammar.{AreLines, IsFirstFaulty, IsSample, IsSkipped}
use Rattle.om_reader.specs.Laws.{CauseIs, HasOneReading, IsCauseOf, ReadsTheFormat}
use Rattle.om_reader.proofs.CompleteLemmas.{sample-first, sample-found, sample_of}
use Rattle.om_reader.proofs.LineLemmas.{line-faulty, line-sample, line-skipped}
use Rattle.om_reader.proofs.SoundLemmas.{sample-sound}

-- whether a line is `# EOF`
ends : (line : List ℕ) → (line ≡ eof) ⊎ (line ≢ eof)
ends line =
    ⊎_elim
    (λ (t : bytes_eq line eof ≡ true). inl ((bytes_eq-Decides line eof).0 t))
    (λ (t : bytes_eq line eof ≡ false). inr (λ e. true≢false (sym ((bytes_eq-Decides line eof).1 e) ∙ t)))
    (cases_Bool (bytes_eq line eof))

at-end : (number : ℕ) (line : List ℕ) (lines : List (List ℕ)) → line ≡ eof → rows_from number (line ∷ lines) ≡ ended number lines
unfolding rows_from
at-end number line lines e = rw ((bytes_eq-Decides line eof).1 e) refl

other-line : (line : List ℕ) → line ≢ eof → bytes_eq line eof ≡ false
other-line line n = ⊎_elim (λ (t : bytes_eq line eof ≡ true). absurd (n ((bytes_eq-Decides line eof).0 t))) (λ (t : bytes_eq line eof ≡ false). t) (cases_Bool (bytes_eq line eof))

at-line : (number : ℕ) (line : List ℕ) (lines : List (List ℕ)) (said : Result (Option BodyRow) ℕ) → line ≢ eof → line_reading number line ≡ said →
    rows_from number (line ∷ lines) ≡ line_then said (rows_from (number + 1) lines)
unfolding rows_from
at-line number line lines said n e = rw (other-line line n) (ap (λ r. line_then r (rows_from (number + 1) lines)) e)

-- what one line says
module _ (number : ℕ) (line : List ℕ) where
  skipped-reads : IsSkipped line → line_reading number line ≡ Ok None
  skipped-reads s = line-skipped number line (ap (λ l. slice_index l 0 == 35) s.1.1)

  same-row : (row : BodyRow) → row.line ≡ number → row_of number (sample_of row) ≡ row
  same-row row e = ap (λ (n : ℕ). record { line = n; raw = row.raw; name = row.name; labels = row.labels; value = row.value; stamp = row.stamp }) (sym e)

  sample-reads : (row : BodyRow) → IsSample number line row → line_reading number line ≡ Ok (Some row)
  sample-reads row s =
      line-sample number line (sample-first number line row s) (sample_of row) (sample-found number line row s) ∙ ap (λ r. Ok (Some r)) (same-row row s.3)

  sample-no_end : (row : BodyRow) → IsSample number line row → line ≢ eof
  sample-no_end row s e = true≢false (sym (ap (λ l. slice_index l 0 == 35) e) ∙ sample-first number line row s)

  none-kept : line_reading number line ≡ Err number → (r : Option BodyRow) → line_reading number line ≡ Ok r → ⊥
  none-kept e r f = (let h : ◌≡◌ {A = Result (Option BodyRow) ℕ} (Err number) (Ok r) = sym e ∙ f in absurd cc)

  abbrev Kinds : Type 0
  Kinds =
      ((line_reading number line ≡ Ok None) × IsSkipped line)
      ⊎ (((row : BodyRow) × (line_reading number line ≡ Ok (Some row)) × IsSample number line row) ⊎ (line_reading number line ≡ Err number))

  hash-first : (l : List ℕ) → (slice_index l 0 == 35) ≡ true → (rest : List ℕ) × (l ≡ 35 ∷ rest)
  hash-first [] h = absurd cc
  hash-first (x ∷ l) h = (l, ap (λ y. y ∷ l) (eqb-true x 35 h))

  by_sample : (slice_index line 0 == 35) ≡ false → (o : Option Sample) → sample_at line ≡ o → Kinds
  by_sample other None s = inr (inr (line-faulty number line other s))
  by_sample other (Some sample) s = inr (inl (row_of number sample, line-sample number line other sample s, sample-sound number line sample s))

  kinds : line ≢ eof → Kinds
  kinds n =
      ⊎_elim
      (λ (q : (slice_index line 0 == 35) ≡ true). (let s : IsSkipped line = (n, hash-first line q) in inl (skipped-reads s, s)))
      (λ (q : (slice_index line 0 == 35) ≡ false). by_sample q (sample_at line) refl)
      (cases_Bool (slice_index line 0 == 35))

-- rows in front
joined-ok : (xs : List BodyRow) (r : Result (List BodyRow) ℕ) (rows : List BodyRow) → joined xs r ≡ Ok rows → (more : List BodyRow) × (r ≡ Ok more) × (rows ≡ xs ++ more)
joined-ok xs (Ok more) rows e = (let h : xs ++ more ≡ rows = cc in (more, refl, sym h))
joined-ok xs (Err c) rows e = absurd cc

joined-err : (xs : List BodyRow) (r : Result (List BodyRow) ℕ) (c : ℕ) → joined xs r ≡ Err c → r ≡ Err c
joined-err xs (Ok more) c e = absurd cc
joined-err xs (Err d) c e = e

-- the end
end-read : (number : ℕ) (line : List ℕ) (lines : List (List ℕ)) (rows : List BodyRow) → line ≡ eof → ended number lines ≡ Ok rows → AreLines number (line ∷ lines) rows
end-read number line [] rows e h = inl (e, refl, (let same : [] ≡ rows = cc in sym same))
end-read number line (l ∷ lines) rows e h = absurd (let no : ◌≡◌ {A = Result (List BodyRow) ℕ} (Err (number + 1)) (Ok rows) = h in cc)

end-fault : (number n : ℕ) (line : List ℕ) (lines : List (List ℕ)) → line ≡ eof → ended number lines ≡ Err n → IsFirstFaulty number (line ∷ lines) n
end-fault number n line [] e h = absurd (let no : ◌≡◌ {A = Result (List BodyRow) ℕ} (Ok []) (Err n) = h in cc)
end-fault number n line (l ∷ lines) e h =
    inl (e, (λ none. (let len : length (l ∷ lines) ≡ 0 = ap length none in omega (arith, len))), (let same : number + 1 ≡ n = cc in same))

-- the rows
read-lines : (lines : List (List ℕ)) (number : ℕ) (rows : List BodyRow) → rows_from number lines ≡ Ok rows → AreLines number lines rows
unfolding rows_from
read-lines [] number rows e = absurd (let no : ◌≡◌ {A = Result (List BodyRow) ℕ} (Err number) (Ok rows) = e in cc)
read-lines (line ∷ lines) number rows e =
    ⊎_elim
    (λ (t : line ≡ eof). end-read number line lines rows t (sym (at-end number line lines t) ∙ e))
    (λ (t : line ≢ eof).
    ⊎_elim
    (λ (a : (line_reading number line ≡ Ok None) × IsSkipped line).
    (let j = joined-ok [] (rows_from (number + 1) lines) rows (sym (at-line number line lines (Ok None) t a.0) ∙ e) in
    inr (inl (a.1, subst (AreLines (number + 1) lines) (sym j.2) (read-lines lines (number + 1) j.0 j.1)))))
    (λ (b : ((row : BodyRow) × (line_reading number line ≡ Ok (Some row)) × IsSample number line row) ⊎ (line_reading number line ≡ Err number)).
    ⊎_elim
    (λ (s : (row : BodyRow) × (line_reading number line ≡ Ok (Some row)) × IsSample number line row).
    (let j = joined-ok (s.0 ∷ []) (rows_from (number + 1) lines) rows (sym (at-line number line lines (Ok (Some s.0)) t s.1) ∙ e) in
    inr (inr (s.0, j.0, s.2, j.2, read-lines lines (number + 1) j.0 j.1))))
    (λ (f : line_reading number line ≡ Err number).
    (let h : ◌≡◌ {A = Result (List BodyRow) ℕ} (Err number) (Ok rows) = sym (at-line number line lines (Err number) t f) ∙ e in absurd cc))
    b)
    (kinds number line t))
    (ends line)

lines-read : (lines : List (List ℕ)) (number : ℕ) (rows : List BodyRow) → AreLines number lines rows → rows_from number lines ≡ Ok rows
lines-read [] number rows e = absurd e
lines-read (line ∷ lines) number rows (inl e) = at-end number line lines e.0 ∙ ap (ended number) e.1 ∙ ap Ok (sym e.2)
lines-read (line ∷ lines) number rows (inr (inl a)) =
    at-line number line lines (Ok None) a.0.0 (skipped-reads number line a.0) ∙ ap (joined []) (lines-read lines (number + 1) rows a.1)
lines-read (line ∷ lines) number rows (inr (inr s)) =
    at-line number line lines (Ok (Some s.0)) (sample-no_end number line s.0 s.2) (sample-reads number line s.0 s.2)
    ∙ ap (joined (s.0 ∷ [])) (lines-read lines (number + 1) s.1 s.4) ∙ ap Ok (sym s.3)

-- the first faulty line
read-fault : (lines : List (List ℕ)) (number n : ℕ) → rows_from number lines ≡ Err n → IsFirstFaulty number lines n
unfolding rows_from
read-fault [] number n e = (let same : number ≡ n = cc in same)
read-fault (line ∷ lines) number n e =
    ⊎_elim
    (λ (t : line ≡ eof). end-fault number n line lines t (sym (at-end number line lines t) ∙ e))
    (λ (t : line ≢ eof).
    ⊎_elim
    (λ (a : (line_reading number line ≡ Ok None) × IsSkipped line).
    inr (inr (inl a.1, read-fault lines (number + 1) n (joined-err [] (rows_from (number + 1) lines) n (sym (at-line number line lines (Ok None) t a.0) ∙ e)))))
    (λ (b : ((row : BodyRow) × (line_reading number line ≡ Ok (Some row)) × IsSample number line row) ⊎ (line_reading number line ≡ Err number)).
    ⊎_elim
    (λ (s : (row : BodyRow) × (line_reading number line ≡ Ok (Some row)) × IsSample number line row).
    inr (inr (inr (s.0, s.2), read-fault lines (number + 1) n (joined-err (s.0 ∷ []) (rows_from (number + 1) lines) n (sym (at-line number line lines (Ok (Some s.0)) t s.1) ∙ e)))))
    (λ (f : line_reading number line ≡ Err number).
    (let h : ◌≡◌ {A = Result (List BodyRow) ℕ} (Err number) (Err n) = sym (at-line number line lines (Err number) t f) ∙ e in
    let same : number ≡ n = cc in
    inr (inl (same, t, λ s. none-kept number line f None (skipped-reads number line s), λ row s. none-kept number line f (Some row) (sample-reads number line row s)))))
    b)
    (kinds number line t))
    (ends line)

fault-end : (number n : ℕ) (lines : List (List ℕ)) → lines ≢ [] → number + 1 ≡ n → ended number lines ≡ Err n
fault-end number n [] some e = absurd (some refl)
fault-end number n (l ∷ lines) some e = ap Err e

fault-read : (lines : List (List ℕ)) (number n : ℕ) → IsFirstFaulty number lines n → rows_from number lines ≡ Err n
unfolding rows_from
fault-read [] number n e = ap Err e
fault-read (line ∷ lines) number n (inl e) = at-end number line lines e.0 ∙ fault-end number n lines e.1 e.2
fault-read (line ∷ lines) number n (inr (inl here)) =
    ⊎_elim
    (λ (a : (line_reading number line ≡ Ok None) × IsSkipped line). absurd (here.2 a.1))
    (λ (b : ((row : BodyRow) × (line_reading number line ≡ Ok (Some row)) × IsSample number line row) ⊎ (line_reading number line ≡ Err number)).
    ⊎_elim
    (λ (s : (row : BodyRow) × (line_reading number line ≡ Ok (Some row)) × IsSample number line row). absurd (here.3 s.0 s.2))
    (λ (f : line_reading number line ≡ Err number). at-line number line lines (Err number) here.1 f ∙ ap Err here.0)
    b)
    (kinds number line here.1)
fault-read (line ∷ lines) number n (inr (inr later)) =
    let rest = fault-read lines (number + 1) n later.1 in
    ⊎_elim
    (λ (s : IsSkipped line). at-line number line lines (Ok None) s.0 (skipped-reads number line s) ∙ ap (joined []) rest)
    (λ (s : (row : BodyRow) × IsSample number line row).
    at-line number line lines (Ok (Some s.0)) (sample-no_end number line s.0 s.1) (sample-reads number line s.0 s.1) ∙ ap (joined (s.0 ∷ [])) rest)
    later.0

pub reads_the_format : ReadsTheFormat
unfolding reading
reads_the_format bytes (Ok rows) = (read-lines (lines_of bytes) 1 rows, lines-read (lines_of bytes) 1 rows)
reads_the_format bytes (Err n) = (read-fault (lines_of bytes) 1 n, fault-read (lines_of bytes) 1 n)

pub has_one_reading : HasOneReading
has_one_reading = λ bytes. (reading bytes, (reads_the_format bytes (reading bytes)).0 refl, λ other is. sym ((reads_the_format bytes other).1 is))

-- the same of what `convert` names
pub cause-fault : (bytes : List ℕ) (cause : OmError) → CauseIs cause (reading bytes) → IsCauseOf cause bytes
unfolding reading
cause-fault bytes NoMemory e = tt
cause-fault bytes (Line n) e = read-fault (lines_of bytes) 1 n e
