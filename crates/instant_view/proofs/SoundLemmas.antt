-- What is read is written as a selector: the parts that are found make up the text.
use Rattle.std.proofs.Common.{◌≡◌, ℕ, suc, zero, ◌+◌, true, false, List, [], ◌∷◌, ◌++◌, length, take, drop, refl, sym, ap, ap₂, ◌∙◌, arith, ◌==◌, Option, Some, None, subst, ⊎_elim, inl, inr, append_assoc, append-nil, option_map, nat_lt}
use Rattle.std.specs.List.{list_all, prefix_len}
use Rattle.std.proofs.lemmas.List.{take-append-drop}
use Rattle.std.proofs.lemmas.List.Folds.{list_all-append}
use Rattle.std.proofs.lemmas.Bool.{and_from, eqb-true, cases_Bool}
use Rattle.std.proofs.lemmas.Bool.Decides.{nat_tests}
use Rattle.label_set.specs.Bytes.{is_label_name, is_metric_name, is_name_byte, is_metric_byte}
use Rattle.expo_lexer.specs.Tokens.{is_blank}
use Rattle.expo_reader.specs.Texts.{bare, mark_at, mark_in, text_in, text_value}
use Rattle.expo_reader.specs.Grammar.{IsBlanks}
use Rattle.expo_reader.proofs.QuoteLemmas.{text-sound as text-pieces}
use Rattle.expo_reader.proofs.RowLemmas.{chosen, mapped, pair}
use Rattle.expo_reader.proofs.SoundLemmas.{blanks, apart, blanks-are, mark-sound, text-sound}
use Rattle.instant_view.specs.declared.matchers.Matcher.{Matcher}
use Rattle.instant_view.specs.declared.matchers.Operator.{Operator}
use Rattle.instant_view.specs.declared.matchers.Operator.TheVariants.{Equal, Unequal, Match, Mismatch}
use Rattle.instant_view.specs.declared.matchers.SelectorParts.{SelectorParts}
use Rattle.instant_view.specs.Grammar.{IsMatcher, IsMatchers, IsBraced, IsNamed, IsSelector, is_apart, is_one_line, operator_text}
use Rattle.instant_view.specs.Forms.{after_matcher, all_matchers_in, apart as all_apart, behind_name, braced, closed_or, compared, ending, label_in, labelled, matcher_and_more, matcher_in, matcher_of, matchers_in, operator_at, operator_cut, operator_in, operator_of, parts_of, selector_in, valued, with_first, with_name}

-- a label
pub label-sound : (bs label rest : List ℕ) → label_in bs ≡ Some (label, rest) → (bs ≡ blanks bs ++ (label ++ rest)) × (is_label_name label ≡ true)
unfolding label_in
label-sound bs label rest e =
    let t = bare bs in
    let n = prefix_len is_name_byte t in
    let k = chosen (is_label_name (take n t)) (Some (take n t, drop n t)) (label, rest) e in
    let p = pair (take n t) label (drop n t) rest k.1 in
    (apart bs ∙ ap (λ l. blanks bs ++ l) (sym (take-append-drop n t) ∙ ap₂ (λ a b. a ++ b) p.0 p.1), ap is_label_name (sym p.0) ∙ k.0)

-- an operator
cut-split : (x y : ℕ) (u : List ℕ) (o : Option (Operator × ℕ)) (operator : Operator) (n : ℕ) (rest : List ℕ) → o ≡ Some (operator, n) →
    x ∷ y ∷ u ≡ operator_text operator ++ drop n (x ∷ y ∷ u) → operator_cut (x ∷ y ∷ u) o ≡ Some (operator, rest) → x ∷ y ∷ u ≡ operator_text operator ++ rest
cut-split x y u None operator n rest o whole e = absurd cc
cut-split x y u (Some (p, m)) operator n rest o whole e =
    let q : ◌≡◌ {A = Option (Operator × List ℕ)} (Some (p, drop m (x ∷ y ∷ u))) (Some (operator, rest)) = e in
    let is = pair p operator m n o in
    let r = pair p operator (drop m (x ∷ y ∷ u)) rest q in
    whole ∙ ap (λ l. operator_text operator ++ l) (ap (λ k. drop k (x ∷ y ∷ u)) (sym is.1) ∙ r.1)

-- the operator of two bytes, and how it is written
of-split : (x y : ℕ) (u : List ℕ) (operator : Operator) (rest : List ℕ) → operator_cut (x ∷ y ∷ u) (operator_of x y) ≡ Some (operator, rest) →
    x ∷ y ∷ u ≡ operator_text operator ++ rest
of-split x y u operator rest e =
    ⊎_elim
    (λ (a : (x == 61) ≡ true).
    ⊎_elim
    (λ (b : (y == 126) ≡ true).
    (let q : ◌≡◌ {A = Option (Operator × List ℕ)} (Some (Match, u)) (Some (operator, rest)) = rw (a, b) at e in
    let p = pair Match operator u rest q in
    ap₂ (λ v w. v ∷ w ∷ u) (eqb-true x 61 a) (eqb-true y 126 b) ∙ ap₂ (λ o r. operator_text o ++ r) p.0 p.1))
    (λ (b : (y == 126) ≡ false).
    (let q : ◌≡◌ {A = Option (Operator × List ℕ)} (Some (Equal, y ∷ u)) (Some (operator, rest)) = rw (a, b) at e in
    let p = pair Equal operator (y ∷ u) rest q in
    ap (λ v. v ∷ y ∷ u) (eqb-true x 61 a) ∙ ap₂ (λ o r. operator_text o ++ r) p.0 p.1))
    (cases_Bool (y == 126)))
    (λ (a : (x == 61) ≡ false).
    ⊎_elim
    (λ (c : (x == 33) ≡ true).
    ⊎_elim
    (λ (b : (y == 61) ≡ true).
    (let q : ◌≡◌ {A = Option (Operator × List ℕ)} (Some (Unequal, u)) (Some (operator, rest)) = rw (a, c, b) at e in
    let p = pair Unequal operator u rest q in
    ap₂ (λ v w. v ∷ w ∷ u) (eqb-true x 33 c) (eqb-true y 61 b) ∙ ap₂ (λ o r. operator_text o ++ r) p.0 p.1))
    (λ (b : (y == 61) ≡ false).
    ⊎_elim
    (λ (d : (y == 126) ≡ true).
    (let q : ◌≡◌ {A = Option (Operator × List ℕ)} (Some (Mismatch, u)) (Some (operator, rest)) = rw (a, c, b, d) at e in
    let p = pair Mismatch operator u rest q in
    ap₂ (λ v w. v ∷ w ∷ u) (eqb-true x 33 c) (eqb-true y 126 d) ∙ ap₂ (λ o r. operator_text o ++ r) p.0 p.1))
    (λ (d : (y == 126) ≡ false). (let q : ◌≡◌ {A = Option (Operator × List ℕ)} None (Some (operator, rest)) = rw (a, c, b, d) at e in absurd cc))
    (cases_Bool (y == 126)))
    (cases_Bool (y == 61)))
    (λ (c : (x == 33) ≡ false). (let q : ◌≡◌ {A = Option (Operator × List ℕ)} None (Some (operator, rest)) = rw (a, c) at e in absurd cc))
    (cases_Bool (x == 33)))
    (cases_Bool (x == 61))

operator-split : (t : List ℕ) (operator : Operator) (rest : List ℕ) → operator_at t ≡ Some (operator, rest) → t ≡ operator_text operator ++ rest
operator-split [] operator rest e = absurd cc
operator-split (x ∷ []) operator rest e = absurd cc
operator-split (x ∷ y ∷ u) operator rest e =
    let long : nat_lt (length (x ∷ y ∷ u)) 2 ≡ false = grind (arith, nat_tests) in
    of-split x y u operator rest (rw long at e)

pub operator-sound : (bs : List ℕ) (operator : Operator) (rest : List ℕ) → operator_in bs ≡ Some (operator, rest) → bs ≡ blanks bs ++ (operator_text operator ++ rest)
unfolding operator_in
operator-sound bs operator rest e = apart bs ∙ ap (λ t. blanks bs ++ t) (operator-split (bare bs) operator rest e)

-- a matcher of its parts
pub record IsMade (label : List ℕ) (operator : Operator) (text : List ℕ) (m : Matcher) : Type 0 where
  pub label_is : m.label ≡ label
  pub operator_is : m.operator ≡ operator
  pub one_line : is_one_line text ≡ true
  pub value : text_value text ≡ Some m.value

matcher-made : (label : List ℕ) (operator : Operator) (text : List ℕ) (m : Matcher) → matcher_of label operator text ≡ Some m → IsMade label operator text m
matcher-made label operator text m e =
    let make : List ℕ → Matcher = λ value. record { label = label; operator = operator; value = value } in
    let k = chosen (is_one_line text) (option_map {U = Matcher} make (text_value text)) m e in
    let v = mapped {B = Matcher} make (text_value text) m k.1 in
    record {
      label_is = ap (λ (q : Matcher). q.label) (sym v.2);
      operator_is = ap (λ (q : Matcher). q.operator) (sym v.2);
      one_line = k.0;
      value = v.1 ∙ ap (λ (q : Matcher). Some q.value) v.2;
    }

-- a matcher, with no blanks behind it
module _ (bs : List ℕ) (m : Matcher) (r : List ℕ) where
  by_text : (label rest : List ℕ) (operator : Operator) (quoted : List ℕ) → bs ≡ blanks bs ++ (label ++ rest) → is_label_name label ≡ true →
      rest ≡ blanks rest ++ (operator_text operator ++ quoted) → (o : Option (List ℕ × List ℕ)) → text_in quoted ≡ o → valued label operator o ≡ Some (m, r) →
      (one : List ℕ) × IsMatcher one m × (bs ≡ one ++ r)
  by_text label rest operator quoted whole named behind None t v = absurd cc
  by_text label rest operator quoted whole named behind (Some (text, after)) t v =
      let p = mapped {B = Matcher × List ℕ} (λ (q : Matcher). (q, after)) (matcher_of label operator text) (m, r) v in
      let is : p.0 ≡ m = ap (λ (q : Matcher × List ℕ). q.0) p.2 in
      let end : after ≡ r = ap (λ (q : Matcher × List ℕ). q.1) p.2 in
      let made = matcher-made label operator text m (p.1 ∙ ap Some is) in
      let quotes = text-sound quoted text after t in
      let written = text-pieces text m.value quotes.1 made.value in
      let tail : List ℕ → List ℕ = λ a. blanks quoted ++ 34 ∷ (text ++ 34 ∷ a) in
      let one = blanks bs ++ (label ++ (blanks rest ++ (operator_text operator ++ tail []))) in
      let spelled : one ≡ blanks bs ++ (m.label ++ (blanks rest ++ (operator_text m.operator ++ tail []))) =
      ap₂ (λ n o. blanks bs ++ (n ++ (blanks rest ++ (operator_text o ++ tail [])))) (sym made.label_is) (sym made.operator_is) in
      let all : bs ≡ blanks bs ++ (label ++ (blanks rest ++ (operator_text operator ++ tail r))) =
      whole ∙ ap (λ l. blanks bs ++ (label ++ l)) (behind ∙ ap (λ q. blanks rest ++ (operator_text operator ++ q)) (quotes.0 ∙ ap tail end)) in
      let joined : one ++ r ≡ blanks bs ++ (label ++ (blanks rest ++ (operator_text operator ++ tail r))) = simp append_assoc in (
        one,
        (blanks bs, blanks rest, blanks quoted, text, [], blanks-are bs, blanks-are rest, blanks-are quoted, refl, ap is_label_name made.label_is ∙ named, written.0, made.one_line, written.1, spelled),
        all ∙ sym joined,
      )

  by_operator : (label rest : List ℕ) → bs ≡ blanks bs ++ (label ++ rest) → is_label_name label ≡ true → (o : Option (Operator × List ℕ)) → operator_in rest ≡ o →
      compared label o ≡ Some (m, r) → (one : List ℕ) × IsMatcher one m × (bs ≡ one ++ r)
  by_operator label rest whole named None o e = absurd cc
  by_operator label rest whole named (Some (operator, quoted)) o e =
      by_text label rest operator quoted whole named (operator-sound rest operator quoted o) (text_in quoted) refl e

  by_label : (o : Option (List ℕ × List ℕ)) → label_in bs ≡ o → labelled o ≡ Some (m, r) → (one : List ℕ) × IsMatcher one m × (bs ≡ one ++ r)
  by_label None l e = absurd cc
  by_label (Some (label, rest)) l e = let s = label-sound bs label rest l in by_operator label rest s.0 s.1 (operator_in rest) refl e

  pub matcher-sound : matcher_in bs ≡ Some (m, r) → (one : List ℕ) × IsMatcher one m × (bs ≡ one ++ r)
  unfolding matcher_in
  matcher-sound e = by_label (label_in bs) refl e

-- blanks behind a matcher belong to it
matcher-blanks : (one b : List ℕ) (m : Matcher) → IsMatcher one m → IsBlanks b → IsMatcher (one ++ b) m
matcher-blanks one b m l e =
    (l.0, l.1, l.2, l.3, l.4 ++ b, l.5, l.6, l.7, list_all-append is_blank l.4 b ∙ and_from _ _ l.8 e, l.9, l.10, l.11, l.12, ap (λ s. s ++ b) l.13 ∙ simp append_assoc)

-- matchers and the brace behind them
unfoldable pub HasMatchers : List ℕ → List Matcher → List ℕ → Type 0
HasMatchers bs ms r = (inside : List ℕ) × IsMatchers inside ms × (bs ≡ inside ++ 125 ∷ r)

first-matcher : (m : Matcher) (o : Option (List Matcher × List ℕ)) (ms : List Matcher) (r : List ℕ) → with_first m o ≡ Some (ms, r) →
    (more : List Matcher) × (o ≡ Some (more, r)) × (ms ≡ m ∷ more)
first-matcher m None ms r e = absurd cc
first-matcher m (Some (more, rest)) ms r e = let p = pair (m ∷ more) ms rest r e in (more, ap (λ q. Some (more, q)) p.1, sym p.0)

module _ (next_matchers : List ℕ → Option (List Matcher × List ℕ))
    (sound : (next : List ℕ) (ms : List Matcher) (r : List ℕ) → next_matchers next ≡ Some (ms, r) → HasMatchers next ms r)
    (bs one rest : List ℕ) (m : Matcher) (is : IsMatcher one m) (whole : bs ≡ one ++ rest) (ms : List Matcher) (r : List ℕ) where
  by_comma : (o : Option (List ℕ)) → mark_in 44 rest ≡ o → after_matcher next_matchers rest o ≡ Some (ms, r) → HasMatchers bs (m ∷ ms) r
  unfolding HasMatchers
  by_comma (Some next) c e =
      let h = sound next ms r e in
      let comma = mark-sound 44 rest next (omega arith) c in
      let left = one ++ blanks rest in
      let spelled : bs ≡ (left ++ 44 ∷ h.0) ++ 125 ∷ r = whole ∙ ap (λ l. one ++ l) (comma ∙ ap (λ n. blanks rest ++ 44 ∷ n) h.2) ∙ simp append_assoc in
      (left ++ 44 ∷ h.0, (left, matcher-blanks one (blanks rest) m is (blanks-are rest), inr (h.0, refl, h.1)), spelled)
  by_comma None c e =
      let k = mapped {B = List Matcher × List ℕ} (λ (q : List ℕ). ([], q)) (mark_in 125 rest) (ms, r) e in
      let none : [] ≡ ms = ap (λ (q : List Matcher × List ℕ). q.0) k.2 in
      let end : k.0 ≡ r = ap (λ (q : List Matcher × List ℕ). q.1) k.2 in
      let brace = mark-sound 125 rest k.0 (omega arith) k.1 in
      let left = one ++ blanks rest in
      let spelled : bs ≡ left ++ 125 ∷ r = whole ∙ ap (λ l. one ++ l) (brace ∙ ap (λ q. blanks rest ++ 125 ∷ q) end) ∙ simp append_assoc in
      (left, (left, matcher-blanks one (blanks rest) m is (blanks-are rest), inl (sym none, refl)), spelled)

pub matchers-sound : (k : ℕ) (bs : List ℕ) (ms : List Matcher) (r : List ℕ) → matchers_in k bs ≡ Some (ms, r) → HasMatchers bs ms r
unfolding matchers_in HasMatchers
matchers-sound zero bs ms r e = absurd cc
matchers-sound (suc n) bs ms r e = by_brace (λ next qs q h. matchers-sound n next qs q h) (mark_in 125 bs) refl (matcher_in bs) refl e
  where
    by_brace : ((next : List ℕ) (qs : List Matcher) (q : List ℕ) → matchers_in n next ≡ Some (qs, q) → HasMatchers next qs q) →
        (o : Option (List ℕ)) → mark_in 125 bs ≡ o → (f : Option (Matcher × List ℕ)) → matcher_in bs ≡ f →
        closed_or o (matcher_and_more (λ next. matchers_in n next) f) ≡ Some (ms, r) → HasMatchers bs ms r
    by_brace sound (Some rest) b f l e =
        let p = pair [] ms rest r e in
        (blanks bs, subst (IsMatchers (blanks bs)) p.0 (blanks-are bs), mark-sound 125 bs rest (omega arith) b ∙ ap (λ q. blanks bs ++ 125 ∷ q) p.1)
    by_brace sound None b None l e = absurd cc
    by_brace sound None b (Some (m, rest)) l e =
        let one = matcher-sound bs m rest l in
        let g = first-matcher m (after_matcher (λ next. matchers_in n next) rest (mark_in 44 rest)) ms r e in
        subst (λ (qs : List Matcher). HasMatchers bs qs r) (sym g.2)
        (by_comma (λ next. matchers_in n next) sound bs one.0 rest m one.1 one.2 g.0 r (mark_in 44 rest) refl g.1)

-- the end of the text
ending-sound : (inside : List ℕ) (o : Option (List Matcher × List ℕ)) (ms : List Matcher) → all_matchers_in inside ≡ o → ending o ≡ Some ms → HasMatchers inside ms []
ending-sound inside None ms a e = absurd cc
ending-sound inside (Some (qs, [])) ms a e =
    let same : qs ≡ ms = cc in
    matchers-sound (length inside + 1) inside ms [] (a ∙ ap (λ q. Some (q, [])) same)
ending-sound inside (Some (qs, b ∷ bs)) ms a e = absurd cc

module _ (inside : List ℕ) (ms : List Matcher) (e : ending (all_matchers_in inside) ≡ Some ms) where
  brace-sound : IsBraced (123 ∷ inside) ms
  unfolding HasMatchers
  brace-sound = let h = ending-sound inside (all_matchers_in inside) ms refl e in (h.0, h.1, ap (λ l. 123 ∷ l) h.2)

mark-first : (t r : List ℕ) → mark_at 123 t ≡ Some r → t ≡ 123 ∷ r
mark-first [] r e = let k = chosen (0 == 123) (Some []) r e in absurd cc
mark-first (x ∷ t) r e =
    let k = chosen (x == 123) (Some t) r e in
    let rest : t ≡ r = cc k.1 in
    ap₂ (λ y s. y ∷ s) (eqb-true x 123 k.0) rest

unnamed-sound : (text : List ℕ) (o : Option (List ℕ)) (ms : List Matcher) → mark_at 123 text ≡ o → braced o ≡ Some ms → IsBraced text ms
unnamed-sound text None ms m e = absurd cc
unnamed-sound text (Some inside) ms m e = subst (λ t. IsBraced t ms) (sym (mark-first text inside m)) (brace-sound inside ms e)

-- behind a name
abbrev pub IsBehind : List ℕ → List Matcher → Type 0
IsBehind text ms = (b : List ℕ) × (braces : List ℕ) × IsBlanks b × IsBraced braces ms × (list_all is_apart ms ≡ true) × (text ≡ b ++ braces)

apart-sound : (o : Option (List Matcher)) (ms : List Matcher) → all_apart o ≡ Some ms → (o ≡ Some ms) × (list_all is_apart ms ≡ true)
apart-sound None ms e = absurd cc
apart-sound (Some qs) ms e =
    let k = chosen (list_all is_apart qs) (Some qs) ms e in
    let same : qs ≡ ms = cc k.1 in
    (k.1, ap (list_all is_apart) (sym same) ∙ k.0)

braced-sound : (text : List ℕ) (o : Option (List ℕ)) (ms : List Matcher) → mark_in 123 text ≡ o → braced o ≡ Some ms → list_all is_apart ms ≡ true → IsBehind text ms
braced-sound text None ms m e a = absurd cc
braced-sound text (Some inside) ms m e a = (blanks text, 123 ∷ inside, blanks-are text, brace-sound inside ms e, a, mark-sound 123 text inside (omega arith) m)

module _ (name : List ℕ) (ms : List Matcher) (is_name : is_metric_name name ≡ true) where
  behind-sound : (rest : List ℕ) → behind_name rest ≡ Some ms → IsNamed (name ++ rest) (Some name) ms
  behind-sound [] e = let none : [] ≡ ms = cc in (is_name, inl (sym none, append-nil name))
  behind-sound (b ∷ bs) e =
      let k = apart-sound (braced (mark_in 123 (b ∷ bs))) ms e in
      let h = braced-sound (b ∷ bs) (mark_in 123 (b ∷ bs)) ms refl k.0 k.1 in
      (is_name, inr (h.0, h.1, h.2, h.3, h.4, ap (λ l. name ++ l) h.5))

-- a selector
parts-same : (name : Option (List ℕ)) (ms : List Matcher) (parts : SelectorParts) → parts_of name ms ≡ parts → (parts.name ≡ name) × (parts.matchers ≡ ms)
parts-same name ms parts e = (ap (λ (p : SelectorParts). p.name) (sym e), ap (λ (p : SelectorParts). p.matchers) (sym e))

named-again : (text : List ℕ) (name : Option (List ℕ)) (ms : List Matcher) (parts : SelectorParts) → parts_of name ms ≡ parts → IsNamed text name ms → IsSelector text parts
unfolding IsSelector
named-again text name ms parts e h = let p = parts-same name ms parts e in subst (λ (n : Option (List ℕ)). IsNamed text n parts.matchers) (sym p.0) (subst (IsNamed text name) (sym p.1) h)

pub selector-sound : (text : List ℕ) (parts : SelectorParts) → selector_in text ≡ Some parts → IsSelector text parts
unfolding selector_in
selector-sound text parts e =
    let n = prefix_len is_metric_byte text in
    ⊎_elim
    (λ (none : (n == 0) ≡ true).
    (let q : option_map (parts_of None) (braced (mark_at 123 text)) ≡ Some parts = rw none at e in
    let k = mapped {B = SelectorParts} (parts_of None) (braced (mark_at 123 text)) parts q in
    named-again text None k.0 parts k.2 (unnamed-sound text (mark_at 123 text) k.0 refl k.1)))
    (λ (some : (n == 0) ≡ false).
    (let q : with_name (take n text) (behind_name (drop n text)) ≡ Some parts = rw some at e in
    let c = chosen (is_metric_name (take n text)) (option_map (parts_of (Some (take n text))) (behind_name (drop n text))) parts q in
    let k = mapped {B = SelectorParts} (parts_of (Some (take n text))) (behind_name (drop n text)) parts c.1 in
    named-again text (Some (take n text)) k.0 parts k.2
    (subst (λ t. IsNamed t (Some (take n text)) k.0) (take-append-drop n text) (behind-sound (take n text) k.0 c.0 (drop n text) k.1))))
    (cases_Bool (n == 0))
