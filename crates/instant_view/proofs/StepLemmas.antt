-- Matchers, one at a time.
use Rattle.std.proofs.Common.{◌≡◌, ℕ, suc, zero, ◌+◌, ◌<◌, List, [], ◌∷◌, ◌++◌, length, refl, sym, ap, ◌∙◌, arith, Option, Some, None, option_map, append_assoc, append-nil}
use Rattle.expo_reader.specs.Texts.{mark_in, text_in}
use Rattle.instant_view.specs.declared.matchers.Matcher.{Matcher}
use Rattle.instant_view.specs.declared.matchers.Operator.{Operator}
use Rattle.instant_view.specs.declared.matchers.SelectorError.{SelectorError}
use Rattle.instant_view.specs.declared.matchers.SelectorError.TheVariants.{Syntax, Pattern, Bare, NoMemory}
use Rattle.instant_view.specs.Faults.{FaultIs}
use Rattle.instant_view.specs.Forms.{after_matcher, closed_or, compared, label_in, labelled, matcher_and_more, matcher_in, matchers_in, operator_in, valued, with_first}

-- a matcher by its parts
pub no_label : (bs : List ℕ) → label_in bs ≡ None → matcher_in bs ≡ None
unfolding matcher_in
no_label bs e = ap labelled e

module _ (bs label rest : List ℕ) (word : label_in bs ≡ Some (label, rest)) where
  pub no_operator : operator_in rest ≡ None → matcher_in bs ≡ None
  unfolding matcher_in
  no_operator e = ap labelled word ∙ ap (compared label) e

  pub by_text : (operator : Operator) (quoted : List ℕ) → operator_in rest ≡ Some (operator, quoted) → matcher_in bs ≡ valued label operator (text_in quoted)
  unfolding matcher_in
  by_text operator quoted e = ap labelled word ∙ ap (compared label) e

-- a fault of a part is one of the whole
pub fault_of_same : {A : Type 0} (f : SelectorError) (a b : Option A) → a ≡ b → FaultIs f b → FaultIs f a
fault_of_same Syntax a b e h = e ∙ h
fault_of_same Pattern a b e h = h
fault_of_same Bare a b e h = h
fault_of_same NoMemory a b e h = tt

pub fault_of_map : {A B : Type 0} (f : SelectorError) (g : A → B) (o : Option A) → FaultIs f o → FaultIs f (option_map g o)
fault_of_map Syntax g o h = ap (option_map g) h
fault_of_map Pattern g o h = h
fault_of_map Bare g o h = h
fault_of_map NoMemory g o h = tt

-- a fault of what a function that says nothing of nothing is given
pub fault_through : {A B : Type 0} (f : SelectorError) (g : Option A → Option B) (o : Option A) → g None ≡ None → FaultIs f o → FaultIs f (g o)
fault_through Syntax g o none h = ap g h ∙ none
fault_through Pattern g o none h = h
fault_through Bare g o none h = h
fault_through NoMemory g o none h = tt

-- matchers in front of those that are found
abbrev pub put : List Matcher → Option (List Matcher × List ℕ) → Option (List Matcher × List ℕ)
put xs None = None
put xs (Some (ms, rest)) = Some (xs ++ ms, rest)

-- with the matchers so far, the rest gives what is wanted
abbrev pub Reaches : List Matcher → List ℕ → Option (List Matcher × List ℕ) → Type 0
Reaches xs bs total = (k : ℕ) × (length bs < k) × (put xs (matchers_in k bs) ≡ total)

put-twice : (xs : List Matcher) (x : Matcher) (o : Option (List Matcher × List ℕ)) → put xs (with_first x o) ≡ put (xs ++ x ∷ []) o
put-twice xs x None = refl
put-twice xs x (Some (ms, rest)) = ap (λ l. Some (l, rest)) (sym (append_assoc xs (x ∷ []) ms))

put-nil : (o : Option (List Matcher × List ℕ)) → put [] o ≡ o
put-nil None = refl
put-nil (Some (ms, rest)) = refl

pub reaches-start : (bs : List ℕ) → Reaches [] bs (matchers_in (length bs + 1) bs)
reaches-start bs = (length bs + 1, omega arith, put-nil _)

module _ (xs : List Matcher) (bs : List ℕ) (total : Option (List Matcher × List ℕ)) where
  module _ (rest : List ℕ) (brace : mark_in 125 bs ≡ Some rest) where
    closed : (k : ℕ) → length bs < k → put xs (matchers_in k bs) ≡ total → total ≡ Some (xs, rest)
    unfolding matchers_in
    closed zero h e = absurd (omega arith)
    closed (suc n) h e =
        sym e ∙ ap (λ o. put xs (closed_or o (matcher_and_more (λ next. matchers_in n next) (matcher_in bs)))) brace ∙ ap (λ l. Some (l, rest)) (append-nil xs)

    pub matchers-closed : Reaches xs bs total → total ≡ Some (xs, rest)
    matchers-closed r = closed r.0 r.1 r.2

  module _ (brace : mark_in 125 bs ≡ None) where
    open_step : (n : ℕ) → put xs (matchers_in (suc n) bs) ≡ put xs (matcher_and_more (λ next. matchers_in n next) (matcher_in bs))
    unfolding matchers_in
    open_step n = ap (λ o. put xs (closed_or o (matcher_and_more (λ next. matchers_in n next) (matcher_in bs)))) brace

    fault : (f : SelectorError) → FaultIs f (matcher_in bs) → (k : ℕ) → length bs < k → put xs (matchers_in k bs) ≡ total → FaultIs f total
    fault NoMemory e k h t = tt
    fault Pattern e k h t = e
    fault Bare e k h t = e
    fault Syntax e zero h t = absurd (omega arith)
    fault Syntax e (suc n) h t = sym t ∙ open_step n ∙ ap (λ o. put xs (matcher_and_more (λ next. matchers_in n next) o)) e

    pub matchers-fault : (f : SelectorError) → FaultIs f (matcher_in bs) → Reaches xs bs total → FaultIs f total
    matchers-fault f e r = fault f e r.0 r.1 r.2

    module _ (m : Matcher) (rest : List ℕ) (found : matcher_in bs ≡ Some (m, rest)) (less : length rest < length bs) where
      matcher_step : (n : ℕ) → put xs (matchers_in (suc n) bs) ≡ put (xs ++ m ∷ []) (after_matcher (λ next. matchers_in n next) rest (mark_in 44 rest))
      matcher_step n = open_step n ∙ ap (λ o. put xs (matcher_and_more (λ next. matchers_in n next) o)) found ∙ put-twice xs m _

      module _ (comma : mark_in 44 rest ≡ None) where
        last : (o : Option (List ℕ)) → mark_in 125 rest ≡ o → (k : ℕ) → length bs < k → put xs (matchers_in k bs) ≡ total →
            put (xs ++ m ∷ []) (option_map (λ (r : List ℕ). ([], r)) o) ≡ total
        last o e zero h t = absurd (omega arith)
        last o e (suc n) h t =
            sym (matcher_step n ∙ ap (λ q. put (xs ++ m ∷ []) (after_matcher (λ next. matchers_in n next) rest q)) comma
            ∙ ap (λ q. put (xs ++ m ∷ []) (option_map (λ (r : List ℕ). ([], r)) q)) e) ∙ t

        pub matchers-last : (after : List ℕ) → mark_in 125 rest ≡ Some after → Reaches xs bs total → total ≡ Some (xs ++ m ∷ [], after)
        matchers-last after e r = sym (last (Some after) e r.0 r.1 r.2) ∙ ap (λ l. Some (l, after)) (append-nil (xs ++ m ∷ []))

        pub matchers-open : mark_in 125 rest ≡ None → Reaches xs bs total → total ≡ None
        matchers-open e r = sym (last None e r.0 r.1 r.2)

      module _ (next : List ℕ) (comma : mark_in 44 rest ≡ Some next) (fewer : length next < length rest) where
        on : (k : ℕ) → length bs < k → put xs (matchers_in k bs) ≡ total → Reaches (xs ++ m ∷ []) next total
        on zero h t = absurd (omega arith)
        on (suc n) h t =
            (n, omega (arith, less, fewer, h), sym (matcher_step n ∙ ap (λ q. put (xs ++ m ∷ []) (after_matcher (λ next. matchers_in n next) rest q)) comma) ∙ t)

        pub matchers-more : Reaches xs bs total → Reaches (xs ++ m ∷ []) next total
        matchers-more r = on r.0 r.1 r.2

-- matchers that were added so far, and what the rest gives
pub record HasAdded (old new : List Matcher) (bs : List ℕ) (total : Option (List Matcher × List ℕ)) : Type 0 where
  pub more : List Matcher
  pub items : new ≡ old ++ more
  pub reaches : Reaches more bs total
