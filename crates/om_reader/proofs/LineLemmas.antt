-- Lines of a body, one at a time, and what they become.
use Rattle.std.proofs.Common.{◌≡◌, ℕ, ℤ, ◌+◌, ◌<◌, ◌≤◌, true, false, List, [], ◌∷◌, ◌++◌, length, take, drop, Option, Some, None, Result, Ok, Err, refl, sym, ap, ap₂, ◌∙◌, arith, append_assoc, append-nil, length-drop, drop-drop, subst, slice_index, ◌==◌, MatchResult, if◌then◌else◌}
use Rattle.std.specs.Str.{bytes_eq}
use Rattle.std.proofs.Math.ListN.{drop_of_length-le}
use Rattle.std.proofs.lemmas.Grind.{flat_map-append}
use Rattle.expo_reader.specs.Bodies.{joined, line_len, line_then, lines_of, row_list}
use Rattle.expo_reader.specs.declared.rows.BodyRow.{BodyRow}
use Rattle.expo_reader.proofs.LineLemmas.{joined-twice, lines_of-first}
use Rattle.om_reader.specs.declared.bodies.OmError.{OmError}
use Rattle.om_reader.specs.declared.bodies.OmError.TheVariants.{Line, NoMemory}
use Rattle.om_reader.specs.Bodies.{converted, ended, eof, line_reading, line_text, plain_text, reading, row_of, row_text, rows_from, text_of}
use Rattle.om_reader.specs.Forms.{Sample, sample_at}
use Rattle.om_reader.specs.Laws.{CauseIs}

-- what a line says that doesn't end a body
pub line-skipped : (number : ℕ) (line : List ℕ) → (slice_index line 0 == 35) ≡ true → line_reading number line ≡ Ok None
unfolding line_reading
line-skipped number line e = rw e refl

module _ (number : ℕ) (line : List ℕ) (other : (slice_index line 0 == 35) ≡ false) where
  pub line-sample : (s : Sample) → sample_at line ≡ Some s → line_reading number line ≡ Ok (Some (row_of number s))
  unfolding line_reading
  line-sample s e = rw (other, e) refl

  pub line-faulty : sample_at line ≡ None → line_reading number line ≡ Err number
  unfolding line_reading
  line-faulty e = rw (other, e) refl

-- rows so far, and what the rest gives
pub record HasConverted (old new : List ℕ) (number : ℕ) (rest : List ℕ) (total : Result (List BodyRow) ℕ) : Type 0 where
  pub rows : List BodyRow
  pub items : new ≡ old ++ plain_text rows
  pub known : joined rows (rows_from number (lines_of rest)) ≡ total

pub converted-start : (text body : List ℕ) → HasConverted text text 1 body (reading body)
unfolding reading
converted-start text body = record { rows = []; items = sym (append-nil text); known = nothing (rows_from 1 (lines_of body)) }
  where
    nothing : (r : Result (List BodyRow) ℕ) → joined [] r ≡ r
    nothing (Ok rows) = refl
    nothing (Err n) = refl

module _ (number : ℕ) (b : ℕ) (bs : List ℕ) where
  first : rows_from number (lines_of (b ∷ bs)) ≡
      (if bytes_eq (take (line_len (b ∷ bs)) (b ∷ bs)) eof then ended number (lines_of (drop (line_len (b ∷ bs) + 1) (b ∷ bs)))
      else line_then (line_reading number (take (line_len (b ∷ bs)) (b ∷ bs))) (rows_from (number + 1) (lines_of (drop (line_len (b ∷ bs) + 1) (b ∷ bs)))))
  unfolding rows_from
  first = ap (rows_from number) (lines_of-first b bs)

-- the first line of what isn't empty
module _ (old new : List ℕ) (number : ℕ) (bs : List ℕ) (total : Result (List BodyRow) ℕ) (some : 0 < length bs) (h : HasConverted old new number bs total) where
  rest : List ℕ
  rest = drop (line_len bs + 1) bs

  at-end : (l : List ℕ) → 0 < length l → bytes_eq (take (line_len l) l) eof ≡ true → rows_from number (lines_of l) ≡ ended number (lines_of (drop (line_len l + 1) l))
  at-end [] s e = absurd (omega arith)
  at-end (b ∷ l) s e = first number b l ∙ rw e refl

  at-line : (l : List ℕ) (said : Result (Option BodyRow) ℕ) → 0 < length l → bytes_eq (take (line_len l) l) eof ≡ false → line_reading number (take (line_len l) l) ≡ said →
      rows_from number (lines_of l) ≡ line_then said (rows_from (number + 1) (lines_of (drop (line_len l + 1) l)))
  at-line [] said s e r = absurd (omega arith)
  at-line (b ∷ l) said s e r = first number b l ∙ rw e (ap (λ x. line_then x (rows_from (number + 1) (lines_of (drop (line_len (b ∷ l) + 1) (b ∷ l))))) r)

  pub converted-end : bytes_eq (take (line_len bs) bs) eof ≡ true → joined h.rows (ended number (lines_of (drop (line_len bs + 1) bs))) ≡ total
  converted-end e = sym (ap (joined h.rows) (at-end bs some e)) ∙ h.known

  pub converted-fault : (n : ℕ) → bytes_eq (take (line_len bs) bs) eof ≡ false → line_reading number (take (line_len bs) bs) ≡ Err n → total ≡ Err n
  converted-fault n e r = sym h.known ∙ ap (joined h.rows) (at-line bs (Err n) some e r)

  pub converted-more : (row : Option BodyRow) (longer : List ℕ) → bytes_eq (take (line_len bs) bs) eof ≡ false → line_reading number (take (line_len bs) bs) ≡ Ok row →
      longer ≡ new ++ plain_text (row_list row) → HasConverted old longer (number + 1) (drop (line_len bs + 1) bs) total
  converted-more row longer e r added = record {
    rows = h.rows ++ row_list row;
    items = added ∙ ap (λ t. t ++ plain_text (row_list row)) h.items ∙ append_assoc old (plain_text h.rows) (plain_text (row_list row))
        ∙ ap (λ t. old ++ t) (sym (flat_map-append row_text h.rows (row_list row)));
    known = sym (joined-twice h.rows (row_list row) (rows_from (number + 1) (lines_of (drop (line_len bs + 1) bs)))) ∙ sym (ap (joined h.rows) (at-line bs (Ok row) some e r)) ∙ h.known;
  }

-- the cause
pub cause-same : (e : OmError) (a b : Result (List BodyRow) ℕ) → CauseIs e a → ((n : ℕ) → a ≡ Err n → b ≡ Err n) → CauseIs e b
cause-same (Line n) a b c f = f n c
cause-same NoMemory a b c f = tt

-- what follows `# EOF`
pub ended-more : (number : ℕ) (bs : List ℕ) → 0 < length bs → ended number (lines_of bs) ≡ Err (number + 1)
ended-more number [] h = absurd (omega arith)
ended-more number (b ∷ bs) h = ap (ended number) (lines_of-first b bs)

pub ended-here : (number place : ℕ) (bs : List ℕ) → length bs ≤ place → ended number (lines_of (drop place bs)) ≡ Ok []
unfolding lines_of
ended-here number place bs h = ap (λ l. ended number (lines_of l)) (drop_of_length-le bs h)

-- a sample that is added
pub row-added : (old new raw value : List ℕ) (stamp : Option ℤ) (number : ℕ) (s : Sample) → new ≡ old ++ line_text raw value stamp → s.raw ≡ raw → s.value ≡ value → s.stamp ≡ stamp →
    new ≡ old ++ plain_text (row_list (Some (row_of number s)))
row-added old new raw value stamp number s e r v m =
    e
    ∙ ap (λ t. old ++ t)
    (ap (λ x. line_text x value stamp) (sym r) ∙ ap (λ x. line_text s.raw x stamp) (sym v) ∙ ap (λ (x : Option ℤ). line_text s.raw s.value x) (sym m) ∙ sym (append-nil (line_text s.raw s.value s.stamp)))

pub none-added : (old : List ℕ) → old ≡ old ++ plain_text (row_list None)
none-added old = sym (append-nil old)

-- a body that ends here
pub body-end : (rows : List BodyRow) (said total : Result (List BodyRow) ℕ) → joined rows said ≡ total → said ≡ Ok [] → total ≡ Ok rows
body-end rows said total known e = sym known ∙ ap (joined rows) e ∙ ap Ok (append-nil rows)

pub end-said : {A : Type 0} (r : Result A OmError) (old new : List ℕ) (rows : List BodyRow) (said total : Result (List BodyRow) ℕ) → new ≡ old ++ plain_text rows → joined rows said ≡ total →
    MatchResult r (λ _. said ≡ Ok []) (λ e. CauseIs e said) →
    MatchResult r (λ _. (rows : List BodyRow) × (total ≡ Ok rows) × (new ≡ old ++ plain_text rows)) (λ e. CauseIs e total)
end-said (Ok x) old new rows said total items known h = (rows, body-end rows said total known h, items)
end-said (Err e) old new rows said total items known h = cause-same e said total h (λ n s. sym known ∙ ap (joined rows) s)

pub no-end : (rows : List BodyRow) (number place : ℕ) (bs : List ℕ) (total : Result (List BodyRow) ℕ) → joined rows (rows_from number (lines_of (drop place bs))) ≡ total → length bs ≤ place → total ≡ Err number
unfolding lines_of rows_from
no-end rows number place bs total known h = sym known ∙ ap (λ l. joined rows (rows_from number (lines_of l))) (drop_of_length-le bs h)

-- the text that a body becomes
pub text-converted : (bytes text : List ℕ) (rows : List BodyRow) → reading bytes ≡ Ok rows → text ≡ plain_text rows → converted bytes ≡ Ok text
unfolding converted
text-converted bytes text rows e t = ap text_of e ∙ ap Ok (sym t)

pub cause-converted : (bytes : List ℕ) (e : OmError) → CauseIs e (reading bytes) → CauseIs e (converted bytes)
unfolding converted
cause-converted bytes (Line n) h = ap text_of h
cause-converted bytes NoMemory h = tt

-- one turn over the lines, at a place in the body
module _ (old new body rest : List ℕ) (number place end : ℕ) (total : Result (List BodyRow) ℕ) (rest_is : rest ≡ drop place body) (lt : place < length body) (end_is : end ≡ line_len rest)
    (h : HasConverted old new number (drop place body) total) where
  here : HasConverted old new number rest total
  here = record { rows = h.rows; items = h.items; known = ap (λ b. joined h.rows (rows_from number (lines_of b))) rest_is ∙ h.known }

  long : 0 < length rest
  long = omega (arith, lt, ap length rest_is, length-drop place body)

  next : drop (place + (end + 1)) body ≡ drop (line_len rest + 1) rest
  next = sym (drop-drop (end + 1) place body) ∙ ap₂ (λ k b. drop (k + 1) b) end_is (sym rest_is)

  first-line : take end rest ≡ take (line_len rest) rest
  first-line = ap (λ k. take k rest) end_is

  pub loop-end : bytes_eq (take end rest) eof ≡ true → joined h.rows (ended number (lines_of (drop (place + (end + 1)) body))) ≡ total
  unfolding here
  loop-end e =
      ap (λ b. joined h.rows (ended number (lines_of b))) next
      ∙ converted-end old new number rest total long here (ap (λ l. bytes_eq l eof) (sym first-line) ∙ e)

  pub loop-fault : (e : OmError) → bytes_eq (take end rest) eof ≡ false → CauseIs e (line_reading number (take end rest)) → CauseIs e total
  loop-fault (Line n) other r =
      converted-fault old new number rest total long here n (ap (λ l. bytes_eq l eof) (sym first-line) ∙ other) (ap (line_reading number) (sym first-line) ∙ r)
  loop-fault NoMemory other r = tt

  pub loop-more : (row : Option BodyRow) (longer : List ℕ) → bytes_eq (take end rest) eof ≡ false → line_reading number (take end rest) ≡ Ok row → longer ≡ new ++ plain_text (row_list row) →
      HasConverted old longer (number + 1) (drop (place + (end + 1)) body) total
  loop-more row longer other r added =
      subst (λ (b : List ℕ). HasConverted old longer (number + 1) b total) (sym next)
      (converted-more old new number rest total long here row longer (ap (λ l. bytes_eq l eof) (sym first-line) ∙ other) (ap (line_reading number) (sym first-line) ∙ r) added)

  pub loop-near : end ≤ length rest → place + (end + 1) ≤ length body + 1
  loop-near within = omega (arith, within, lt, ap length rest_is, length-drop place body)
