-- The text that is made of rows reads as just these rows.
use Rattle.std.proofs.Common.{◌≡◌, ◌≢◌, ℕ, ℤ, pos, negsuc, suc, ◌+◌, ◌<◌, ◌^◌, Bool, true, false, not, ◌||◌, List, [], ◌∷◌, ◌++◌, length, refl, sym, ap, ◌∙◌, arith, ◌==◌, Option, Some, None, Ok, subst, nat_lt, ⊎_elim, inl, inr, append_assoc, append-nil}
use Rattle.std.specs.Fmt.{decimal, signed_decimal}
use Rattle.std.specs.List.{list_all}
use Rattle.std.specs.Char.{is_ascii_digit}
use Rattle.std.specs.Str.{bytes_eq}
use Rattle.std.specs.Str.Parse.{digits_value, signed_digits_value}
use Rattle.std.proofs.lemmas.Bool.{and_from, cases_Bool, not-true}
use Rattle.std.proofs.lemmas.Bool.Decides.{nat_tests}
use Rattle.std.proofs.lemmas.Fmt.{decimal_is_IsNumeral}
use Rattle.std.proofs.lemmas.Grind.{common_steps}
use Rattle.std.proofs.lemmas.List.Folds.{list_all-append}
use Rattle.label_set.specs.Bytes.{is_label_name}
use Rattle.label_set.specs.declared.forms.Form.TheVariants.{Plain}
use Rattle.label_set.specs.SetText.{metric_label}
use Rattle.label_set.specs.declared.texts.Pair.{Pair}
use Rattle.value_text.specs.Grammar.{IsValue}
use Rattle.value_text.specs.Numbers.{is_in_range, millis}
use Rattle.value_text.specs.Values.{is_digits, is_sign, unsigned}
use Rattle.value_text.proofs.DigitLemmas.{both, decimal-digits, digit-no_sign}
use Rattle.expo_lexer.specs.Tokens.{is_blank}
use Rattle.expo_reader.specs.Bodies.{has_metric_label, lines_of, onto_first}
use Rattle.expo_reader.specs.Names.{is_exposed_name}
use Rattle.expo_reader.specs.Grammar.{AreLines as ArePlainLines, IsLabel as IsPlainLabel, IsLabels as ArePlainLabels, IsLineEnd, IsMiddle, IsSample as IsPlainSample}
use Rattle.expo_reader.specs.declared.rows.BodyRow.{BodyRow}
use Rattle.expo_reader.proofs.LawLemmas.{reads_the_format as plain-reads}
use Rattle.om_reader.specs.Bodies.{on_line, on_lines, plain_text, stamp_text}
use Rattle.om_reader.specs.Grammar.{AreLines, IsLabel, IsLabelled, IsLabels, IsMeasure, IsSample, OmLines}
use Rattle.om_reader.specs.Laws.{IsPlain, KeepsRows}
use Rattle.om_reader.proofs.WordLemmas.{stamp-range}

-- labels without blanks are labels
exposed : (name : List ℕ) → is_label_name name ≡ true → bytes_eq name metric_label ≡ false → is_exposed_name name ≡ true
unfolding is_exposed_name
exposed name l m = and_from _ _ l (ap not m)

plain-label : (bs : List ℕ) (label : Pair) → IsLabel bs label → bytes_eq label.name metric_label ≡ false → IsPlainLabel Plain bs label
plain-label bs label l m =
    let quote = 34 ∷ (l.0 ++ 34 ∷ []) in
    ([], label.name, [], [], quote, [], refl, refl, refl, refl, inl (exposed label.name l.1 m, refl), (l.0, l.2, l.3, refl), l.4 ∙ ap (λ q. label.name ++ 61 ∷ q) (sym (append-nil quote)))

or-parts : (x y : Bool) → (x || y) ≡ false → (x ≡ false) × (y ≡ false)
or-parts true y e = absurd cc
or-parts false y e = (refl, e)

plain-labels : (labels : List Pair) (bs : List ℕ) → IsLabels bs labels → has_metric_label labels ≡ false → ArePlainLabels Plain bs labels
plain-labels [] bs l m = subst (λ (s : List ℕ). ArePlainLabels Plain s []) (sym l) refl
plain-labels (label ∷ labels) bs l m =
    let k = or-parts (bytes_eq label.name metric_label) (has_metric_label labels) m in (
      l.0,
      plain-label l.0 label l.1 k.0,
      ⊎_elim
          (λ (last : (labels ≡ []) × (bs ≡ l.0)). inl last)
          (λ (more : (rest : List ℕ) × (labels ≢ []) × (bs ≡ l.0 ++ 44 ∷ rest) × IsLabels rest labels). inr (more.0, more.2, plain-labels labels more.0 more.3 k.1))
          l.2,
    )

-- milliseconds are a timestamp
first-digit : (ds : List ℕ) → is_digits ds ≡ true → unsigned ds ≡ ds
unfolding is_sign
first-digit [] e = refl
first-digit (d ∷ ds) e = let k = both (is_ascii_digit d) (list_all is_ascii_digit ds) (both (not (length (d ∷ ds) == 0)) _ e).1 in rw (digit-no_sign d k.0) refl

below : (n : ℕ) → nat_lt n (2 ^ 63) ≡ true → n < 2 ^ 63
below n e = grind (arith, nat_tests)

no-signs : (d : ℕ) → is_ascii_digit d ≡ true → ((d == 45) ≡ false) × ((d == 43) ≡ false)
no-signs d e = (grind (arith, nat_tests, common_steps), grind (arith, nat_tests, common_steps))

plain-value : (ds : List ℕ) → is_digits ds ≡ true → signed_digits_value 10 ds ≡ pos (digits_value 10 ds)
plain-value [] e = refl
plain-value (d ∷ ds) e =
    let k = both (is_ascii_digit d) (list_all is_ascii_digit ds) (both (not (length (d ∷ ds) == 0)) _ e).1 in
    let s = no-signs d k.0 in
    rw (s.0, s.1) refl

pub millis-text : (ms : ℤ) → is_in_range ms ≡ true → millis (signed_decimal ms) ≡ Some ms
unfolding millis is_sign
millis-text (pos n) r =
    let small = below n r in
    let digits = decimal-digits n (omega (arith, small)) in
    let value : signed_digits_value 10 (decimal n) ≡ pos n = plain-value (decimal n) digits ∙ ap pos (decimal_is_IsNumeral n (omega (arith, small))).1 in
    let good : is_digits (unsigned (decimal n)) ≡ true = ap is_digits (first-digit (decimal n) digits) ∙ digits in
    rw (good, value, r) refl
millis-text (negsuc n) r =
    let small = below n r in
    let digits = decimal-digits (suc n) (omega (arith, small)) in
    let value : digits_value 10 (decimal (suc n)) ≡ suc n = (decimal_is_IsNumeral (suc n) (omega (arith, small))).1 in
    rw (digits, value, r) refl

-- a sample line as the other format has it
some : (b : ℕ) (bs : List ℕ) → (b ∷ bs) ≢ []
some b bs e = (let n : length (b ∷ bs) ≡ 0 = ap length e in omega (arith, n))

plain-end : (value : List ℕ) (measure : List ℕ) (stamp : Option ℤ) → IsMeasure measure value stamp → IsLineEnd (stamp_text stamp) stamp
unfolding is_blank
plain-end value measure None m = refl
plain-end value measure (Some ms) m =
    (32 ∷ [], signed_decimal ms, [], refl, some 32 [], refl, millis-text ms (stamp-range m.1 ms m.2), ap (λ s. 32 ∷ s) (sym (append-nil (signed_decimal ms))))

plain-middle : (braces : List ℕ) (labels : List Pair) → IsLabelled braces labels → IsMiddle Plain (braces ++ 32 ∷ []) braces labels
unfolding is_blank
plain-middle braces labels (inl e) =
    let same : 32 ∷ [] ≡ braces ++ 32 ∷ [] = sym (ap (λ b. b ++ 32 ∷ []) e.0) in
    inl (subst (λ (s : List ℕ). list_all is_blank s ≡ true) same refl, (λ none. some 32 [] (same ∙ none)), e.0, e.1)
plain-middle braces labels (inr b) =
    inr ([], b.0.0, 32 ∷ [], refl, refl, plain-labels labels b.0.0 b.0.1 b.1, b.0.2, b.0.3, refl)

value-of : (measure value : List ℕ) (stamp : Option ℤ) → IsMeasure measure value stamp → IsValue value
value-of measure value None m = m.0
value-of measure value (Some ms) m = m.0

pub plain-sample : (number n : ℕ) (line : List ℕ) (row : BodyRow) → IsSample number line row →
    IsPlainSample Plain n (row.raw ++ 32 ∷ (row.value ++ stamp_text row.stamp)) (on_line n row)
plain-sample number n line row s =
    let braces = s.0 in
    let after = stamp_text row.stamp in
    let whole : row.raw ++ 32 ∷ (row.value ++ after) ≡ row.name ++ ((braces ++ 32 ∷ []) ++ (row.value ++ after)) =
    ap (λ r. r ++ 32 ∷ (row.value ++ after)) s.6 ∙ simp append_assoc in
    inl ([], braces ++ 32 ∷ [], braces, after, refl, refl, s.4, plain-middle braces row.labels s.5, s.6, value-of s.1 row.value row.stamp s.7, plain-end row.value s.1 row.stamp s.7, whole)

-- no line feed stands in a line
abbrev NoFeed : List ℕ → Type 0
NoFeed bs = list_all (λ b. not (b == 10)) bs ≡ true

abbrev NoFeeds : List (List ℕ) → Type 0
NoFeeds [] = Unit {0}
NoFeeds (l ∷ ls) = NoFeed l × NoFeeds ls

onto-none : (b : ℕ) (ls : List (List ℕ)) → not (b == 10) ≡ true → NoFeeds ls → NoFeeds (onto_first b ls)
onto-none b [] e h = (and_from _ _ e refl, tt)
onto-none b (l ∷ ls) e h = (and_from _ _ e h.0, h.1)

lines-none : (bs : List ℕ) → NoFeeds (lines_of bs)
unfolding lines_of
lines-none [] = tt
lines-none (b ∷ bs) =
    ⊎_elim
    (λ (q : (b == 10) ≡ true). rw q (refl, lines-none bs))
    (λ (q : (b == 10) ≡ false). rw q (onto-none b (lines_of bs) (ap not q) (lines-none bs)))
    (cases_Bool (b == 10))

cut-line : (l rest : List ℕ) → NoFeed l → lines_of (l ++ 10 ∷ rest) ≡ l ∷ lines_of rest
unfolding lines_of
cut-line [] rest e = refl
cut-line (b ∷ l) rest e =
    let k = both (not (b == 10)) (list_all (λ b. not (b == 10)) l) e in
    let other : (b == 10) ≡ false = not-true (b == 10) k.0 in
    rw other (ap (onto_first b) (cut-line l rest k.1))

join-none : (a b : List ℕ) → NoFeed a → NoFeed b → NoFeed (a ++ b)
join-none a b x y = list_all-append (λ b. not (b == 10)) a b ∙ and_from _ _ x y

parts-none : (a b : List ℕ) → NoFeed (a ++ b) → NoFeed a × NoFeed b
parts-none a b e = both (list_all (λ b. not (b == 10)) a) (list_all (λ b. not (b == 10)) b) (sym (list_all-append (λ b. not (b == 10)) a b) ∙ e)

digit-none : (d : ℕ) → is_ascii_digit d ≡ true → not (d == 10) ≡ true
digit-none d e = grind (arith, nat_tests, common_steps)

digits-none : (ds : List ℕ) → list_all is_ascii_digit ds ≡ true → NoFeed ds
digits-none [] e = refl
digits-none (d ∷ ds) e = let k = both (is_ascii_digit d) (list_all is_ascii_digit ds) e in and_from _ _ (digit-none d k.0) (digits-none ds k.1)

decimal-none : (n : ℕ) → n < 2 ^ 64 → NoFeed (decimal n)
decimal-none n small = digits-none (decimal n) (both (not (length (decimal n) == 0)) (list_all is_ascii_digit (decimal n)) (decimal-digits n small)).1

signed-none : (ms : ℤ) → is_in_range ms ≡ true → NoFeed (signed_decimal ms)
signed-none (pos n) r = decimal-none n (omega (arith, below n r))
signed-none (negsuc n) r = decimal-none (suc n) (omega (arith, below n r))

end-none : (value measure : List ℕ) (stamp : Option ℤ) → IsMeasure measure value stamp → NoFeed measure → NoFeed (32 ∷ (value ++ stamp_text stamp))
end-none value measure None m h = join-none value [] (subst NoFeed m.1 h) refl
end-none value measure (Some ms) m h =
    let k = parts-none value (32 ∷ m.1) (subst NoFeed m.3 h) in
    join-none value (32 ∷ signed_decimal ms) k.0 (signed-none ms (stamp-range m.1 ms m.2))

-- a row as a line, with no line feed
abbrev line_of : BodyRow → List ℕ
line_of row = row.raw ++ 32 ∷ (row.value ++ stamp_text row.stamp)

text-none : (number : ℕ) (line : List ℕ) (row : BodyRow) → IsSample number line row → NoFeed line → NoFeed (line_of row)
text-none number line row s h =
    let k = parts-none row.raw (s.1 ++ s.2) (subst NoFeed s.9 h) in
    let m = parts-none s.1 s.2 k.1 in
    join-none row.raw (32 ∷ (row.value ++ stamp_text row.stamp)) k.0 (end-none row.value s.1 row.stamp s.7 m.0)

plain-lines : (lines : List (List ℕ)) (number n : ℕ) (rows : List BodyRow) → AreLines number lines rows → NoFeeds lines → ArePlainLines Plain n (lines_of (plain_text rows)) (on_lines n rows)
unfolding lines_of
plain-lines [] number n rows e h = absurd e
plain-lines (line ∷ lines) number n rows (inl e) h = subst (λ (rs : List BodyRow). ArePlainLines Plain n (lines_of (plain_text rs)) (on_lines n rs)) (sym e.2) refl
plain-lines (line ∷ lines) number n rows (inr (inl a)) h = plain-lines lines (number + 1) n rows a.1 h.1
plain-lines (line ∷ lines) number n rows (inr (inr s)) h =
    let row = s.0 in
    let more = s.1 in
    let whole : plain_text (row ∷ more) ≡ line_of row ++ 10 ∷ plain_text more = simp append_assoc in
    let lines_are : lines_of (plain_text (row ∷ more)) ≡ line_of row ∷ lines_of (plain_text more) =
    ap lines_of whole ∙ cut-line (line_of row) (plain_text more) (text-none number line row s.2 h.0) in
    let rest = plain-lines lines (number + 1) (n + 1) more s.4 h.1 in
    subst (λ (rs : List BodyRow). ArePlainLines Plain n (lines_of (plain_text rs)) (on_lines n rs)) (sym s.3)
    (subst (λ (ls : List (List ℕ)). ArePlainLines Plain n ls (on_lines n (row ∷ more))) (sym lines_are)
    (inr (on_line n row, on_lines (n + 1) more, plain-sample number n line row s.2, refl, rest)))

pub plain-body : (bytes : List ℕ) (rows : List BodyRow) → OmLines bytes rows → IsPlain (plain_text rows) rows
plain-body bytes rows om =
    let lines = plain-lines (lines_of bytes) 1 1 rows om (lines-none bytes) in
    (refl, lines, (plain-reads Plain (plain_text rows) (Ok (on_lines 1 rows))).1 lines)

pub keeps_rows : KeepsRows
keeps_rows = λ bytes rows om. plain-body bytes rows om
