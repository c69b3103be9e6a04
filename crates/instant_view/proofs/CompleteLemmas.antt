-- What is written as a selector is read: the parts that are put together are found again.
use Rattle.std.proofs.Common.{◌≡◌, ℕ, suc, zero, ◌+◌, ◌<◌, ◌≤◌, true, false, List, [], ◌∷◌, ◌++◌, length, take, drop, refl, sym, ap, ap₂, ◌∙◌, arith, ◌==◌, Option, Some, None, subst, ⊎_elim, append_assoc, append-nil, length-append, option_map, if◌then◌else◌, nat_lt}
use Rattle.std.specs.List.{list_all, prefix_len}
use Rattle.std.proofs.Math.Seq.{take-append_seam, drop-append_seam}
use Rattle.std.proofs.lemmas.Bool.Decides.{nat_tests}
use Rattle.label_set.specs.Bytes.{is_label_name, is_metric_name, is_name_byte, is_name_start, is_metric_byte, is_metric_start}
use Rattle.expo_lexer.specs.Tokens.{is_blank}
use Rattle.expo_reader.specs.Texts.{bare, mark_at, mark_in, text_in}
use Rattle.expo_reader.specs.Grammar.{IsBlanks}
use Rattle.expo_reader.proofs.FrontLemmas.{both, Stops, bare-front, front-len, mark-front, mark-front_not, text-front}
use Rattle.expo_reader.proofs.QuoteLemmas.{written, text-found}
use Rattle.instant_view.specs.declared.matchers.Matcher.{Matcher}
use Rattle.instant_view.specs.declared.matchers.Operator.{Operator}
use Rattle.instant_view.specs.declared.matchers.Operator.TheVariants.{Equal, Unequal, Match, Mismatch}
use Rattle.instant_view.specs.declared.matchers.SelectorParts.{SelectorParts}
use Rattle.instant_view.specs.Grammar.{IsMatcher, IsMatchers, IsBraced, IsNamed, IsSelector, HasOneReading, is_apart, operator_text}
use Rattle.instant_view.specs.Forms.{after_matcher, all_matchers_in, apart as all_apart, behind_name, braced, closed_or, compared, ending, label_in, labelled, matcher_and_more, matcher_in, matcher_of, matchers_in, operator_at, operator_in, parts_of, selector_in, valued, with_first, with_name}
use Rattle.instant_view.proofs.NameLemmas.{HasFirst, blank-no_metric, blank-no_name, label-bytes, label-first, metric-bytes, metric-some}

-- a label behind blanks
stops-name : (label t : List ℕ) → HasFirst label → Stops is_blank (label ++ t)
stops-name label t h = subst (λ l. Stops is_blank (l ++ t)) (sym h.is) h.no_blank

pub label-front : (b label t : List ℕ) → IsBlanks b → is_label_name label ≡ true → Stops is_name_byte t → label_in (b ++ (label ++ t)) ≡ Some (label, t)
unfolding label_in
label-front b label t e named s =
    let front : bare (b ++ (label ++ t)) ≡ label ++ t = bare-front b (label ++ t) e (stops-name label t (label-first label named)) in
    let len : prefix_len is_name_byte (label ++ t) ≡ length label = front-len is_name_byte label t (label-bytes label named) s in
    let cut_front : take (prefix_len is_name_byte (label ++ t)) (label ++ t) ≡ label = ap (λ n. take n (label ++ t)) len ∙ take-append_seam label t in
    let cut_back : drop (prefix_len is_name_byte (label ++ t)) (label ++ t) ≡ t = ap (λ n. drop n (label ++ t)) len ∙ drop-append_seam label t in
    ap (λ u. if is_label_name (take (prefix_len is_name_byte u) u) then Some (take (prefix_len is_name_byte u) u, drop (prefix_len is_name_byte u) u) else None) front
    ∙ ap₂ (λ x y. if is_label_name x then Some (x, y) else None) cut_front cut_back
    ∙ rw named refl

-- an operator behind blanks, with a byte behind it that is no part of one
operator-front : (operator : Operator) (x : ℕ) (t : List ℕ) → (x == 126) ≡ false → operator_at (operator_text operator ++ x ∷ t) ≡ Some (operator, x ∷ t)
operator-front Equal x t other =
    let long : nat_lt (length (61 ∷ x ∷ t)) 2 ≡ false = grind (arith, nat_tests) in rw (long, other) refl
operator-front Unequal x t other =
    let long : nat_lt (length (33 ∷ 61 ∷ x ∷ t)) 2 ≡ false = grind (arith, nat_tests) in rw long refl
operator-front Match x t other =
    let long : nat_lt (length (61 ∷ 126 ∷ x ∷ t)) 2 ≡ false = grind (arith, nat_tests) in rw long refl
operator-front Mismatch x t other =
    let long : nat_lt (length (33 ∷ 126 ∷ x ∷ t)) 2 ≡ false = grind (arith, nat_tests) in rw long refl

stops-operator : (operator : Operator) (t : List ℕ) → Stops is_blank (operator_text operator ++ t)
unfolding is_blank
stops-operator Equal t = refl
stops-operator Unequal t = refl
stops-operator Match t = refl
stops-operator Mismatch t = refl

operator-ends : (operator : Operator) (t : List ℕ) → Stops is_name_byte (operator_text operator ++ t)
unfolding is_name_byte is_name_start
operator-ends Equal t = refl
operator-ends Unequal t = refl
operator-ends Match t = refl
operator-ends Mismatch t = refl

blank-other : (x : ℕ) → is_blank x ≡ true → (x == 126) ≡ false
unfolding is_blank
blank-other x e = grind (arith, nat_tests)

operator-found : (b : List ℕ) (operator : Operator) (c t : List ℕ) → IsBlanks b → IsBlanks c → operator_in (b ++ (operator_text operator ++ (c ++ 34 ∷ t))) ≡ Some (operator, c ++ 34 ∷ t)
unfolding operator_in
operator-found b operator [] t e f = ap operator_at (bare-front b (operator_text operator ++ 34 ∷ t) e (stops-operator operator (34 ∷ t))) ∙ operator-front operator 34 t refl
operator-found b operator (x ∷ c) t e f =
    ap operator_at (bare-front b (operator_text operator ++ (x ∷ c ++ 34 ∷ t)) e (stops-operator operator (x ∷ c ++ 34 ∷ t)))
    ∙ operator-front operator x (c ++ 34 ∷ t) (blank-other x (both (is_blank x) (list_all is_blank c) f).0)

-- blanks and what may stand behind them end a name
stops-blanks : (b t : List ℕ) → IsBlanks b → Stops is_name_byte t → Stops is_name_byte (b ++ t)
stops-blanks [] t e s = s
stops-blanks (x ∷ b) t e s = blank-no_name x (both (is_blank x) (list_all is_blank b) e).0

stops-metric : (b t : List ℕ) → IsBlanks b → Stops is_metric_byte t → Stops is_metric_byte (b ++ t)
stops-metric [] t e s = s
stops-metric (x ∷ b) t e s = blank-no_metric x (both (is_blank x) (list_all is_blank b) e).0

-- the matcher that is written there, with what follows its quote
matcher-same : (m : Matcher) → ◌≡◌ {A = Matcher} (record { label = m.label; operator = m.operator; value = m.value }) m
matcher-same m = refl

matcher-found : (bs : List ℕ) (m : Matcher) (l : IsMatcher bs m) (t : List ℕ) → matcher_in (bs ++ t) ≡ Some (m, l.4 ++ t)
unfolding matcher_in
matcher-found bs m l t =
    let b1 = l.0 in
    let b2 = l.1 in
    let b3 = l.2 in
    let text = l.3 in
    let b4 = l.4 in
    let quoted = b3 ++ 34 ∷ (text ++ 34 ∷ (b4 ++ t)) in
    let rest = b2 ++ (operator_text m.operator ++ quoted) in
    let whole : bs ++ t ≡ b1 ++ (m.label ++ rest) = ap (λ s. s ++ t) l.13 ∙ simp append_assoc in
    let label : label_in (bs ++ t) ≡ Some (m.label, rest) = ap label_in whole ∙ label-front b1 m.label rest l.5 l.9 (stops-blanks b2 (operator_text m.operator ++ quoted) l.6 (operator-ends m.operator quoted)) in
    let operator : operator_in rest ≡ Some (m.operator, quoted) = operator-found b2 m.operator b3 (text ++ 34 ∷ (b4 ++ t)) l.6 l.7 in
    let found : text_in quoted ≡ Some (text, b4 ++ t) = text-front b3 text (b4 ++ t) l.7 (written l.10).0 in
    let made : matcher_of m.label m.operator text ≡ Some m = rw (l.11, text-found text m.value l.10 l.12) refl in
    ap labelled label ∙ ap (compared m.label) operator ∙ ap (valued m.label m.operator) found ∙ ap (option_map (λ (q : Matcher). (q, b4 ++ t))) made

-- matchers between braces
matcher-long : (bs : List ℕ) (m : Matcher) → IsMatcher bs m → 0 < length bs
matcher-long bs m l = omega (arith, ap length l.13, simp length-append at (ap length l.13))

matchers-few : (ms : List Matcher) (bs : List ℕ) → IsMatchers bs ms → length ms ≤ length bs
matchers-few [] bs l = omega arith
matchers-few (m ∷ ms) bs l =
    let one = matcher-long l.0 m l.1 in
    ⊎_elim
    (λ (last : (ms ≡ []) × (bs ≡ l.0)). (let none : length ms ≡ 0 = ap length last.0 in omega (arith, one, none, ap length last.1)))
    (λ (more : (rest : List ℕ) × (bs ≡ l.0 ++ 44 ∷ rest) × IsMatchers rest ms).
    omega (arith, one, matchers-few ms more.0 more.2, simp length-append at (ap length more.1)))
    l.2

no_brace : (b label t : List ℕ) → IsBlanks b → HasFirst label → mark_in 125 (b ++ (label ++ t)) ≡ None
no_brace b label t e h = subst (λ l. mark_in 125 (b ++ (l ++ t)) ≡ None) (sym h.is) (mark-front_not 125 h.first b (h.more ++ t) e h.no_blank h.no_brace)

one-step : (n : ℕ) (m : Matcher) (one : List ℕ) (l : IsMatcher one m) (u : List ℕ) →
    matchers_in (suc n) (one ++ u) ≡ with_first m (after_matcher (λ next. matchers_in n next) (l.4 ++ u) (mark_in 44 (l.4 ++ u)))
unfolding matchers_in
one-step n m one l u =
    let tail = l.1 ++ (operator_text m.operator ++ (l.2 ++ 34 ∷ (l.3 ++ 34 ∷ (l.4 ++ u)))) in
    let whole : one ++ u ≡ l.0 ++ (m.label ++ tail) = ap (λ s. s ++ u) l.13 ∙ simp append_assoc in
    let open_brace : mark_in 125 (one ++ u) ≡ None = ap (mark_in 125) whole ∙ no_brace l.0 m.label tail l.5 (label-first m.label l.9) in
    ap (λ o. closed_or o (matcher_and_more (λ next. matchers_in n next) (matcher_in (one ++ u)))) open_brace
    ∙ ap (matcher_and_more (λ next. matchers_in n next)) (matcher-found one m l u)

matchers-found : (ms : List Matcher) (bs : List ℕ) → IsMatchers bs ms → (t : List ℕ) (k : ℕ) → length ms < k → matchers_in k (bs ++ 125 ∷ t) ≡ Some (ms, t)
unfolding matchers_in is_blank
matchers-found ms bs l t zero h = absurd (omega arith)
matchers-found [] bs l t (suc n) h =
    ap (λ o. closed_or o (matcher_and_more (λ next. matchers_in n next) (matcher_in (bs ++ 125 ∷ t)))) (mark-front 125 bs t l refl)
matchers-found (m ∷ ms) bs l t (suc n) h =
    let one = l.0 in
    let is = l.1 in
    let b4 = is.4 in
    ⊎_elim
    (λ (last : (ms ≡ []) × (bs ≡ one)).
    (let u = 125 ∷ t in
    let comma : mark_in 44 (b4 ++ u) ≡ None = mark-front_not 44 125 b4 t is.8 refl refl in
    let brace : mark_in 125 (b4 ++ u) ≡ Some t = mark-front 125 b4 t is.8 refl in
    ap (λ s. matchers_in (suc n) (s ++ u)) last.1 ∙ one-step n m one is u
    ∙ ap (λ o. with_first m (after_matcher (λ next. matchers_in n next) (b4 ++ u) o)) comma
    ∙ ap (λ o. with_first m (option_map (λ (rest : List ℕ). ([], rest)) o)) brace ∙ ap (λ qs. Some (m ∷ qs, t)) (sym last.0)))
    (λ (more : (rest : List ℕ) × (bs ≡ one ++ 44 ∷ rest) × IsMatchers rest ms).
    (let u = 44 ∷ (more.0 ++ 125 ∷ t) in
    let whole : bs ++ 125 ∷ t ≡ one ++ u = ap (λ s. s ++ 125 ∷ t) more.1 ∙ simp append_assoc in
    let comma : mark_in 44 (b4 ++ u) ≡ Some (more.0 ++ 125 ∷ t) = mark-front 44 b4 (more.0 ++ 125 ∷ t) is.8 refl in
    ap (matchers_in (suc n)) whole ∙ one-step n m one is u
    ∙ ap (λ o. with_first m (after_matcher (λ next. matchers_in n next) (b4 ++ u) o)) comma
    ∙ ap (with_first m) (matchers-found ms more.0 more.2 t n (omega arith))))
    l.2

-- matchers in braces to the end
braces-found : (inside : List ℕ) (ms : List Matcher) → IsMatchers inside ms → ending (all_matchers_in (inside ++ 125 ∷ [])) ≡ Some ms
braces-found inside ms l =
    let few : length ms < length (inside ++ 125 ∷ []) + 1 = omega (arith, matchers-few ms inside l, length-append inside (125 ∷ [])) in
    ap ending (matchers-found ms inside l [] (length (inside ++ 125 ∷ []) + 1) few)

unnamed-found : (text : List ℕ) (ms : List Matcher) → IsBraced text ms → (prefix_len is_metric_byte text ≡ 0) × (braced (mark_at 123 text) ≡ Some ms)
unfolding is_metric_byte is_metric_start is_name_start
unnamed-found text ms l = (ap (prefix_len is_metric_byte) l.2, ap (λ t. braced (mark_at 123 t)) l.2 ∙ braces-found l.0 ms l.1)

behind-some : (b : List ℕ) (x : ℕ) (t : List ℕ) → behind_name (b ++ x ∷ t) ≡ all_apart (braced (mark_in 123 (b ++ x ∷ t)))
behind-some [] x t = refl
behind-some (y ∷ b) x t = refl

behind-found : (b braces : List ℕ) (ms : List Matcher) → IsBlanks b → IsBraced braces ms → list_all is_apart ms ≡ true → behind_name (b ++ braces) ≡ Some ms
unfolding is_blank
behind-found b braces ms e l a =
    ap (λ s. behind_name (b ++ s)) l.2 ∙ behind-some b 123 (l.0 ++ 125 ∷ [])
    ∙ ap (λ o. all_apart (braced o)) (mark-front 123 b (l.0 ++ 125 ∷ []) e refl) ∙ ap all_apart (braces-found l.0 ms l.1)
    ∙ rw a refl

module _ (name rest : List ℕ) (ms : List Matcher) (named : is_metric_name name ≡ true) (stops : Stops is_metric_byte rest) (behind : behind_name rest ≡ Some ms) where
  named-found : selector_in (name ++ rest) ≡ Some (parts_of (Some name) ms)
  unfolding selector_in
  named-found =
      let text = name ++ rest in
      let len : prefix_len is_metric_byte text ≡ length name = front-len is_metric_byte name rest (metric-bytes name named) stops in
      let some : (prefix_len is_metric_byte text == 0) ≡ false = (let long = metric-some name named in grind (arith, nat_tests)) in
      let cut_front : take (prefix_len is_metric_byte text) text ≡ name = ap (λ n. take n text) len ∙ take-append_seam name rest in
      let cut_back : drop (prefix_len is_metric_byte text) text ≡ rest = ap (λ n. drop n text) len ∙ drop-append_seam name rest in
      rw some (ap₂ (λ x y. with_name x (behind_name y)) cut_front cut_back ∙ rw named (ap (option_map (parts_of (Some name))) behind))

none-stops : (b braces : List ℕ) (ms : List Matcher) → IsBlanks b → IsBraced braces ms → Stops is_metric_byte (b ++ braces)
unfolding is_metric_byte is_metric_start is_name_start
none-stops b braces ms e l = stops-metric b braces e (subst (Stops is_metric_byte) (sym l.2) refl)

by_name : (text : List ℕ) (name : Option (List ℕ)) (ms : List Matcher) → IsNamed text name ms → selector_in text ≡ Some (parts_of name ms)
unfolding selector_in
by_name text None ms l =
    let k = unnamed-found text ms l in
    let none : (prefix_len is_metric_byte text == 0) ≡ true = ap (λ n. n == 0) k.0 in
    rw none (ap (option_map (parts_of None)) k.1)
by_name text (Some name) ms l =
    ⊎_elim
    (λ (alone : (ms ≡ []) × (text ≡ name)).
    ap selector_in (alone.1 ∙ sym (append-nil name)) ∙ named-found name [] [] l.0 tt refl ∙ ap (λ qs. Some (parts_of (Some name) qs)) (sym alone.0))
    (λ (more : (b : List ℕ) × (braces : List ℕ) × IsBlanks b × IsBraced braces ms × (list_all is_apart ms ≡ true) × (text ≡ name ++ (b ++ braces))).
    ap selector_in more.5 ∙ named-found name (more.0 ++ more.1) ms l.0 (none-stops more.0 more.1 ms more.2 more.3) (behind-found more.0 more.1 ms more.2 more.3 more.4))
    l.1

pub selector-found : (text : List ℕ) (parts : SelectorParts) → IsSelector text parts → selector_in text ≡ Some parts
unfolding IsSelector
selector-found text parts l = by_name text parts.name parts.matchers l

pub one-reading : HasOneReading
one-reading text one other l m = let e : ◌≡◌ {A = Option SelectorParts} (Some one) (Some other) = sym (selector-found text one l) ∙ selector-found text other m in cc
