-- Rows that are offsets: where the parts of a line stand, and the rows line by line.
use Rattle.std.proofs.Common.{◌≡◌, ◌≢◌, ℕ, ◌+◌, ◌-◌, ◌≤◌, ◌<◌, List, [], ◌∷◌, ◌++◌, length, take, drop, Option, Some, None, Result, Ok, Err, MatchResult, IfSome, true, refl, sym, ap, ap₂, ◌∙◌, arith, subst, ⊎_elim, length-append, length-drop, length-take, get_or, append-nil, append_assoc, drop-drop}
use Rattle.std.specs.List.{All}
use Rattle.std.proofs.Math.Seq.{take-append_seam}
use Rattle.std.proofs.lemmas.List.{map-append, drop-take, get_or-map, length-map}
use Rattle.std.proofs.lemmas.List.Elements.{All-push, All-get_or}
use Rattle.label_set.specs.Bytes.{is_metric_name}
use Rattle.label_set.specs.declared.texts.Pair.{Pair}
use Rattle.expo_lexer.specs.Tokens.{blank_len, is_blank}
use Rattle.value_text.proofs.GrammarLemmas.{value-found}
use Rattle.expo_reader.specs.Bodies.{Body, reading, joined, row_list, rows_from, lines_of, line_len, line_reading}
use Rattle.expo_reader.specs.Faults.{FaultIs}
use Rattle.label_set.specs.declared.forms.Form.{Form}
use Rattle.label_set.specs.declared.forms.Form.TheVariants.{Plain, Quoted}
use Rattle.expo_reader.specs.Forms.{after_label, after_name, braced_row, differing_row, labelled_row, labels_after, labels_in, named_row, row_of, sample_in, value_in}
use Rattle.expo_reader.specs.Grammar.{IsBraced, IsNamed}
use Rattle.expo_reader.specs.Names.{or_else, braced_name}
use Rattle.expo_reader.specs.Spans.{braced_labels, found_labels, word_of, made_row, spanned_row, row_at, IsInside, IsTail, HasParts, row_seen, rows_seen, IsWithin, IsWritten, span_row, span_list}
use Rattle.expo_reader.specs.Texts.{bare, mark_in, word_in}
use Rattle.expo_reader.specs.declared.faults.Fault.{Fault}
use Rattle.expo_reader.specs.declared.faults.Fault.TheVariants.{Faulty, NoMemory}
use Rattle.expo_reader.specs.declared.rows.BodyRow.{BodyRow}
use Rattle.expo_reader.specs.declared.spans.LineSpan.{LineSpan}
use Rattle.expo_reader.specs.declared.spans.RowSpan.{RowSpan}
use Rattle.expo_reader.proofs.LineLemmas.{rows-line}
use Rattle.expo_reader.proofs.FrontLemmas.{Stops, stops-drop}
use Rattle.expo_reader.proofs.LawLemmas.{rows-lines}
use Rattle.expo_reader.proofs.RawLemmas.{IsSampled, sampled}
use Rattle.expo_reader.proofs.SoundLemmas.{blanks, word-sound, mark-sound, quote-sound, labels-sound, HasLabels}
use Rattle.expo_reader.proofs.RowSoundLemmas.{braced-sound}
use Rattle.expo_reader.proofs.CompleteLemmas.{word-no_brace}
use Rattle.expo_reader.proofs.SeenLemmas.{spanned-said}
use Rattle.expo_reader.proofs.NameLemmas.{metric_name-utf8}
use Rattle.expo_reader.proofs.RowLemmas.{mapped}
use Rattle.std.proofs.lemmas.Str.{IsUtf8-from_is_utf8}

-- ends of a line
pub tail-tail : (line middle rest : List ℕ) → IsTail middle line → IsTail rest middle → IsTail rest line
tail-tail line middle rest m r = (m.0 ++ r.0, m.1 ∙ ap (λ t. m.0 ++ t) r.1 ∙ sym (append_assoc m.0 r.0 rest))

pub word-tail : (line name rest : List ℕ) → word_in line ≡ Some (name, rest) → IsTail (name ++ rest) line
word-tail line name rest e = (blanks line, (word-sound line name rest e).0)

pub rest-tail : (line name rest : List ℕ) → word_in line ≡ Some (name, rest) → IsTail rest line
rest-tail line name rest e = tail-tail line (name ++ rest) rest (word-tail line name rest e) (name, refl)

pub mark-tail : (mark : ℕ) (bs r : List ℕ) → 0 < mark → mark_in mark bs ≡ Some r → IsTail r bs
mark-tail mark bs r some e = (blanks bs ++ mark ∷ [], mark-sound mark bs r some e ∙ sym (append_assoc (blanks bs) (mark ∷ []) r))

pub labels-tail : (form : Form) (k : ℕ) (bs : List ℕ) (labels : List Pair) (r : List ℕ) → labels_in form k bs ≡ Some (labels, r) → IsTail r bs
unfolding HasLabels
labels-tail form k bs labels r e = let h = labels-sound form k bs labels r e in (h.0 ++ 125 ∷ [], h.2 ∙ sym (append_assoc h.0 (125 ∷ []) r))

pub name-tail : (line name rest : List ℕ) → braced_name line ≡ Some (name, rest) → IsTail rest line
name-tail line name rest e =
    let found = braced-sound line name rest e in
    let quote = quote-sound found.0 name rest found.3 in
    let tail : IsTail rest found.0 = (blanks found.0 ++ quote.0, quote.2 ∙ sym (append_assoc (blanks found.0) quote.0 rest)) in
    tail-tail line found.0 rest (mark-tail 123 line found.0 (omega arith) found.1) tail

pub after-tail : (bs : List ℕ) (labels : List Pair) (r : List ℕ) → labels_after bs ≡ Some (labels, r) → IsTail r bs
after-tail bs labels r e = by_comma (mark_in 44 bs) refl e
  where
    by_comma : (o : Option (List ℕ)) → mark_in 44 bs ≡ o → after_label (λ next. labels_in Quoted (length next + 1) next) bs o ≡ Some (labels, r) → IsTail r bs
    by_comma (Some next) m e = tail-tail bs next r (mark-tail 44 bs next (omega arith) m) (labels-tail Quoted (length next + 1) next labels r e)
    by_comma None m e =
        let h = mapped {B = List Pair × List ℕ} (λ (q : List ℕ). ([], q)) (mark_in 125 bs) (labels, r) e in
        let end : h.0 ≡ r = ap (λ (q : List Pair × List ℕ). q.1) h.2 in
        mark-tail 125 bs r (omega arith) (h.1 ∙ ap (λ (q : List ℕ). Some q) end)

pub tail-length : (line rest : List ℕ) → IsTail rest line → length rest ≤ length line
tail-length line rest t = omega (arith, ap length t.1, length-append t.0 rest)

-- no blanks in front
pub bare-first : (t : List ℕ) → Stops is_blank t → blank_len t ≡ 0
bare-first [] s = refl
bare-first (x ∷ t) s = rw s refl

pub bare-bare : (line text : List ℕ) (i : ℕ) → i ≡ blank_len line → text ≡ drop i line → blank_len text ≡ 0
bare-bare line text i at is = ap blank_len (is ∙ ap (λ k. drop k line) at) ∙ bare-first (bare line) (stops-drop is_blank line)

pub name-front : (line name rest : List ℕ) → word_in line ≡ Some (name, rest) → blank_len line ≡ 0 → name ≡ take (length name) line
name-front line name rest e none =
    let whole : line ≡ name ++ rest = (word-sound line name rest e).0 ∙ ap (λ k. take k line ++ (name ++ rest)) none in
    sym (ap (take (length name)) whole ∙ take-append_seam name rest)

-- the row of a line without labels
pub bare-is : (form : Form) (number : ℕ) (line name rest : List ℕ) → word_in line ≡ Some (name, rest) → is_metric_name name ≡ true → mark_in 123 rest ≡ None →
    named_row form number line (word_in line) ≡ row_of number name name [] (value_in rest)
bare-is form number line name rest word metric none = ap (named_row form number line) word ∙ rw metric (ap (after_name form number line (name, rest)) none)

else-none : {A : Type 0} (o : Option A) → or_else o None ≡ o
else-none None = refl
else-none (Some x) = refl

-- a line that begins with a word is read as one that begins with its name
pub front-only : (form : Form) (number : ℕ) (line name rest : List ℕ) → word_in line ≡ Some (name, rest) → sample_in form number line ≡ named_row form number line (word_in line)
unfolding sample_in
front-only Plain number line name rest word = refl
front-only Quoted number line name rest word = ap (λ b. or_else (named_row Quoted number line (word_in line)) (braced_row number line b)) (word-no_brace line name rest word) ∙ else-none (named_row Quoted number line (word_in line))

-- and else as one that begins with braces, where the form has such
pub no-front : (number : ℕ) (line : List ℕ) → ((form : Form) (number : ℕ) → named_row form number line (word_in line) ≡ None) →
    (sample_in Plain number line ≡ None) × (sample_in Quoted number line ≡ braced_row number line (braced_name line))
unfolding sample_in
no-front number line none = (none Plain number, ap (λ o. or_else o (braced_row number line (braced_name line))) (none Quoted number))

-- the row of a line, made of its parts
module _ (number : ℕ) (line name raw rest : List ℕ) (labels : List Pair) (raw_len : ℕ) (raw_is : raw ≡ take raw_len line)
    (said : Option BodyRow) (is : said ≡ row_of number raw name labels (value_in rest)) where
  pub parts-said : (r : Result LineSpan Fault) → MatchResult r (λ s. HasParts line raw_len rest s) (λ f. (f ≡ Faulty) × (value_in rest ≡ None)) →
      MatchResult r (λ s. said ≡ Some (spanned_row number line name labels s)) (λ f. FaultIs f said)
  parts-said (Ok s) h =
      let v = take s.value_len (drop s.value_at line) in
      is ∙ ap (row_of number raw name labels) h.1
      ∙ ap (λ (w : List ℕ). Some (made_row number w name labels (v, s.stamp))) (raw_is ∙ ap (λ k. take k line) (sym h.0))
  parts-said (Err f) h = subst (λ g. FaultIs g said) (sym h.0) (is ∙ ap (row_of number raw name labels) h.1)

-- a line that is read as something else is
pub said-spanned : (form : Form) (number : ℕ) (line name : List ℕ) (labels : List Pair) (o : Option BodyRow) → sample_in form number line ≡ o →
    (r : Result LineSpan Fault) → MatchResult r (λ s. o ≡ Some (spanned_row number line name labels s)) (λ f. FaultIs f o) →
    MatchResult r (λ s. sample_in form number line ≡ Some (row_at number line s)) (λ f. FaultIs f (sample_in form number line))
said-spanned form number line name labels o e (Ok s) h = spanned-said form number line name labels s (e ∙ h)
said-spanned form number line name labels o e (Err f) h = subst (λ x. FaultIs f x) (sym e) h

-- labels in braces
pub fault-again : {A B : Type 0} (f : Fault) (x : Option A) (g : Option A → Option B) → g None ≡ None → FaultIs f x → FaultIs f (g x)
fault-again Faulty x g none e = ap g e ∙ none
fault-again NoMemory x g none e = tt

module _ (form : Form) (number : ℕ) (line name rest inside : List ℕ) (word : word_in line ≡ Some (name, rest)) (mark : mark_in 123 rest ≡ Some inside) (metric : is_metric_name name ≡ true) where
  pub inside-row : sample_in form number line ≡ labelled_row number line name (labels_in form (length inside + 1) inside)
  inside-row =
      front-only form number line name rest word ∙ ap (named_row form number line) word ∙ rw metric (ap (after_name form number line (name, rest)) mark)

  pub inside-fault : (f : Fault) → FaultIs f (labels_in form (length inside + 1) inside) → FaultIs f (sample_in form number line)
  inside-fault f e =
      subst (λ o. FaultIs f o) (sym inside-row) (fault-again f (labels_in form (length inside + 1) inside) (λ o. labelled_row number line name o) refl e)

  pub inside-said : (labels now : List Pair) (tail : List ℕ) → labels_in form (length inside + 1) inside ≡ Some (labels, tail) → now ≡ labels → (r : Result LineSpan Fault) →
      MatchResult r (λ s. differing_row number line name now tail ≡ Some (spanned_row number line name now s)) (λ f. FaultIs f (differing_row number line name now tail)) →
      MatchResult r (λ s. sample_in form number line ≡ Some (row_at number line s)) (λ f. FaultIs f (sample_in form number line))
  inside-said labels now tail found items r h =
      said-spanned form number line name now (differing_row number line name now tail)
      (inside-row ∙ ap (labelled_row number line name) found ∙ ap (λ ls. differing_row number line name ls tail) (sym items)) r h

-- the row of a line that begins with braces
module _ (number : ℕ) (line name rest tail : List ℕ) (labels now : List Pair) (named : braced_name line ≡ Some (name, rest)) (found : labels_after rest ≡ Some (labels, tail)) (items : now ≡ labels) where
  braced-is : braced_row number line (braced_name line) ≡ differing_row number line name now tail
  braced-is = ap (braced_row number line) named ∙ ap (labelled_row number line name) found ∙ ap (λ ls. differing_row number line name ls tail) (sym items)

  pub braced-said : (r : Result LineSpan Fault) →
      MatchResult r (λ s. differing_row number line name now tail ≡ Some (spanned_row number line name now s)) (λ f. FaultIs f (differing_row number line name now tail)) →
      MatchResult r (λ s. braced_row number line (braced_name line) ≡ Some (spanned_row number line (word_of (braced_name line)) (braced_labels (braced_name line)) s))
      (λ f. FaultIs f (braced_row number line (braced_name line)))
  braced-said (Ok s) h =
      let labels_are : now ≡ braced_labels (braced_name line) = items ∙ sym (ap braced_labels named ∙ ap found_labels found) in
      braced-is ∙ h ∙ ap₂ (λ n ls. Some (spanned_row number line n ls s)) (sym (ap word_of named)) labels_are
  braced-said (Err f) h = subst (λ o. FaultIs f o) (sym braced-is) h

-- the row of a line in its body
text-at : (body : List ℕ) (place end start : ℕ) → start ≤ end → take (end - start) (drop (place + start) body) ≡ drop start (take end (drop place body))
text-at body place end start le =
    let whole : start + (end - start) ≡ end = omega (arith, le) in
    ap (take (end - start)) (sym (drop-drop start place body)) ∙ sym (drop-take start (end - start) (drop place body)) ∙ ap (λ k. drop start (take k (drop place body))) whole

pub seen-nil : (body : List ℕ) → rows_seen body [] ≡ []
unfolding rows_seen
seen-nil body = refl

pub seen-push : (body : List ℕ) (rows : List RowSpan) (number place end : ℕ) (o : Option (ℕ × LineSpan)) → IfSome o (λ p. p.0 ≤ end) →
    rows_seen body (rows ++ span_list number place end o) ≡ rows_seen body rows ++ row_list (span_row number (take end (drop place body)) o)
unfolding rows_seen
seen-push body rows number place end None h = ap (rows_seen body) (append-nil rows) ∙ sym (append-nil (rows_seen body rows))
seen-push body rows number place end (Some (start, s)) h =
    map-append (row_seen body) rows (span_list number place end (Some (start, s)))
    ∙ ap (λ (t : List ℕ). rows_seen body rows ++ row_at number t s ∷ []) (text-at body place end start h)

pub within-push : (body : List ℕ) (rows : List RowSpan) (number place end : ℕ) (o : Option (ℕ × LineSpan)) → place + end ≤ length body →
    IfSome o (λ p. (p.0 ≤ end) × IsInside (end - p.0) p.1) → All (IsWithin (length body)) rows → All (IsWithin (length body)) (rows ++ span_list number place end o)
within-push body rows number place end None le h all = subst (All (IsWithin (length body))) (sym (append-nil rows)) all
within-push body rows number place end (Some (start, s)) le h all =
    let r : RowSpan = record { line = number; start = place + start; len = end - start; parts = s } in
    All-push (IsWithin (length body)) rows r all (omega (arith, le, h.0), h.1)

pub seen-start : (body : List ℕ) (rows : List RowSpan) (r : Result (List BodyRow) ℕ) → rows ≡ [] → joined (rows_seen body rows) r ≡ r
seen-start body rows (Ok more) e = ap (λ xs. joined xs (Ok more)) (ap (rows_seen body) e ∙ seen-nil body)
seen-start body rows (Err line) e = refl

pub some-rest : (body : List ℕ) (place : ℕ) → place < length body → drop place body ≢ []
some-rest body place lt e = omega (arith, ap length e, length-drop place body, lt)

pub inside-end : (n end : ℕ) (o : Option (ℕ × LineSpan)) → n ≡ end → IfSome o (λ p. (p.0 ≤ n) × IsInside (n - p.0) p.1) → IfSome o (λ p. (p.0 ≤ end) × IsInside (end - p.0) p.1)
inside-end n end o e h = subst (λ m. IfSome o (λ p. (p.0 ≤ m) × IsInside (m - p.0) p.1)) e h

pub start-end : (end : ℕ) (o : Option (ℕ × LineSpan)) → IfSome o (λ p. (p.0 ≤ end) × IsInside (end - p.0) p.1) → IfSome o (λ p. p.0 ≤ end)
start-end end None h = tt
start-end end (Some (start, s)) h = h.0

-- a line more
pub line-seen : (form : Form) (body rest : List ℕ) (rows new : List RowSpan) (number place end : ℕ) (o : Option (ℕ × LineSpan)) → rest ≡ drop place body → place < length body → end ≡ line_len rest →
    IfSome o (λ p. p.0 ≤ end) → new ≡ rows ++ span_list number place end o → line_reading form number (take end rest) ≡ Ok (span_row number (take end rest) o) →
    (said : Result (List BodyRow) ℕ) → joined (rows_seen body rows) (rows_from form number (lines_of (drop place body))) ≡ said →
    joined (rows_seen body new) (rows_from form (number + 1) (lines_of (drop (place + (end + 1)) body))) ≡ said
line-seen form body rest rows new number place end o rest_is lt end_is h new_is reading said known =
    let bs = drop place body in
    let row = span_row number (take end bs) o in
    let e : end ≡ line_len bs = end_is ∙ ap line_len rest_is in
    let rd : line_reading form number (take (line_len bs) bs) ≡ Ok row =
    ap (λ k. line_reading form number (take k bs)) (sym e) ∙ subst (λ (r : List ℕ). line_reading form number (take end r) ≡ Ok (span_row number (take end r) o)) rest_is reading in
    let t = rows-line form (rows_seen body rows) number row bs said (some-rest body place lt) rd known in
    let next : drop (place + (end + 1)) body ≡ drop (line_len bs + 1) bs = sym (drop-drop (end + 1) place body) ∙ ap (λ k. drop (k + 1) bs) e in
    ap₂ (λ xs d. joined xs (rows_from form (number + 1) (lines_of d))) (ap (rows_seen body) new_is ∙ seen-push body rows number place end o h) next ∙ t

-- the row at a place
pub row-count : (form : Form) (bytes : List ℕ) (rows : List RowSpan) (b : Body) → ◌≡◌ {A = Body} (record { form = form; bytes = bytes; rows = rows_seen bytes rows }) b → length rows ≡ length b.rows
unfolding rows_seen
row-count form bytes rows b e = sym (length-map rows (row_seen bytes)) ∙ ap (λ (x : Body). length x.rows) e

pub row-seen-at : (bytes : List ℕ) (rows : List RowSpan) (i : ℕ) (r : RowSpan) (d : BodyRow) → i < length rows → r ≡ get_or rows i r → get_or (rows_seen bytes rows) i d ≡ row_seen bytes r
unfolding rows_seen
row-seen-at bytes rows i r d h at = get_or-map (row_seen bytes) rows i r d h ∙ ap (row_seen bytes) (sym at)

pub within-at : (n : ℕ) (rows part : List RowSpan) (i : ℕ) (r : RowSpan) → part ≡ rows → r ≡ get_or part i r → i < length rows → All (IsWithin n) rows → IsWithin n r
within-at n rows part i r same is h all = subst (IsWithin n) (sym (is ∙ ap (λ l. get_or l i r) same)) (All-get_or (IsWithin n) rows i r h all)

pub text-inside : (bytes part text : List ℕ) (r : RowSpan) → part ≡ bytes → text ≡ take r.len (drop r.start part) → IsWithin (length bytes) r → IsInside (length text) r.parts
text-inside bytes part text r same is w =
    let len : length text ≡ r.len = omega (arith, w.0, ap length is, ap length same, length-drop r.start part, length-take r.len (drop r.start part)) in
    subst (λ n. IsInside n r.parts) (sym len) w.1

-- the row at a place has a value, and its name is UTF-8
pub written-at : (form : Form) (bytes : List ℕ) (rows : List BodyRow) (i : ℕ) (r : BodyRow) → reading form bytes ≡ Ok rows → i < length rows → r ≡ get_or rows i r → IsWritten r
written-at form bytes rows i r e h at =
    let k = All-get_or (IsSampled form) rows i r h (sampled form (lines_of bytes) 1 rows (rows-lines form bytes rows e)) in
    let s : IsSampled form r = subst (IsSampled form) (sym at) k in
    ⊎_elim
    (λ (n : IsNamed form s.0 s.1 r). (value-found r.value n.9, metric_name-utf8 r.name n.6))
    (λ (b : (form ≡ Quoted) × IsBraced s.0 s.1 r). (value-found r.value b.1.10, IsUtf8-from_is_utf8 r.name b.1.7.6.2))
    s.2

pub seen-length : (bytes : List ℕ) (rows : List RowSpan) → length (rows_seen bytes rows) ≡ length rows
unfolding rows_seen
seen-length bytes rows = length-map rows (row_seen bytes)
