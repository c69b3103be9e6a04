-- Labels, one at a time.
use Rattle.std.proofs.Common.{◌≡◌, ℕ, suc, zero, ◌+◌, ◌<◌, ◌≤◌, Bool, true, false, not, ◌||◌, List, [], ◌∷◌, ◌++◌, length, take, drop, refl, sym, ap, ◌∙◌, arith, get_or, Option, Some, None, option_map, option_and_then, append_assoc, append-nil, add-one, drop-cons, if◌then◌else◌}
use Rattle.std.specs.List.{list_any}
use Rattle.std.specs.Str.{bytes_eq}
use Rattle.std.proofs.lemmas.List.{take_more, map-append}
use Rattle.std.proofs.lemmas.Bool.{not-false, not-true}
use Rattle.std.proofs.Math.ListN.{drop_of_length-le}
use Rattle.label_set.specs.declared.texts.Pair.{Pair}
use Rattle.expo_reader.specs.declared.faults.Fault.{Fault}
use Rattle.expo_reader.specs.declared.faults.Fault.TheVariants.{Faulty, NoMemory}
use Rattle.expo_reader.specs.Faults.{FaultIs}
use Rattle.expo_reader.specs.Texts.{word_in, mark_in}
use Rattle.label_set.specs.declared.forms.Form.{Form}
use Rattle.label_set.specs.declared.forms.Form.TheVariants.{Plain, Quoted}
use Rattle.expo_reader.specs.Names.{or_else, passing, bare_name, quoted_name, quote_in, name_in, is_exposed_name}
use Rattle.expo_reader.specs.Forms.{label_behind, label_in, labels_in, named_label, valued_label, closed_or, label_and_more, after_label, with_first, names_differ_from, label_names}

-- what stands behind a name
module _ (name rest : List ℕ) where
  pub behind-no_mark : mark_in 61 rest ≡ None → label_behind name rest ≡ None
  behind-no_mark e = ap (option_and_then (λ (quoted : List ℕ). valued_label name (quote_in quoted))) e

  module _ (quoted : List ℕ) (mark : mark_in 61 rest ≡ Some quoted) where
    by_mark : label_behind name rest ≡ valued_label name (quote_in quoted)
    by_mark = ap (option_and_then (λ (q : List ℕ). valued_label name (quote_in q))) mark

    pub behind-some : (value after : List ℕ) → quote_in quoted ≡ Some (value, after) → label_behind name rest ≡ Some (record { name = name; value = value }, after)
    behind-some value after e = by_mark ∙ ap (valued_label name) e

    pub behind-fault : (f : Fault) → FaultIs f (quote_in quoted) → FaultIs f (label_behind name rest)
    behind-fault Faulty e = by_mark ∙ ap (valued_label name) e
    behind-fault NoMemory e = tt

pub named-fault : (f : Fault) (o : Option (List ℕ × List ℕ)) → FaultIs f o → FaultIs f (named_label o)
named-fault Faulty o e = ap named_label e
named-fault NoMemory o e = tt

-- a label by its name
bare-found : (bs name rest : List ℕ) → word_in bs ≡ Some (name, rest) → is_exposed_name name ≡ true → bare_name bs ≡ Some (name, rest)
bare-found bs name rest word e = ap (passing is_exposed_name) word ∙ rw e refl

pub bare-label : (form : Form) (bs name rest : List ℕ) → word_in bs ≡ Some (name, rest) → is_exposed_name name ≡ true → label_in form bs ≡ label_behind name rest
unfolding label_in name_in
bare-label Plain bs name rest word e = ap named_label (bare-found bs name rest word e)
bare-label Quoted bs name rest word e = ap (λ o. named_label (or_else o (quoted_name bs))) (bare-found bs name rest word e)

pub plain-no_label : (bs : List ℕ) → bare_name bs ≡ None → label_in Plain bs ≡ None
unfolding label_in name_in
plain-no_label bs e = ap named_label e

pub quoted-label : (bs : List ℕ) → bare_name bs ≡ None → label_in Quoted bs ≡ named_label (quoted_name bs)
unfolding label_in name_in
quoted-label bs e = ap (λ o. named_label (or_else o (quoted_name bs))) e

-- labels in front of those that are found
abbrev pub put : List Pair → Option (List Pair × List ℕ) → Option (List Pair × List ℕ)
put xs None = None
put xs (Some (labels, rest)) = Some (xs ++ labels, rest)

-- with the labels so far, the rest gives what is wanted
abbrev pub Reaches : Form → List Pair → List ℕ → Option (List Pair × List ℕ) → Type 0
Reaches form xs bs total = (k : ℕ) × (length bs < k) × (put xs (labels_in form k bs) ≡ total)

put-twice : (xs : List Pair) (x : Pair) (o : Option (List Pair × List ℕ)) → put xs (with_first x o) ≡ put (xs ++ x ∷ []) o
put-twice xs x None = refl
put-twice xs x (Some (labels, rest)) = ap (λ l. Some (l, rest)) (sym (append_assoc xs (x ∷ []) labels))

put-nil : (o : Option (List Pair × List ℕ)) → put [] o ≡ o
put-nil None = refl
put-nil (Some (labels, rest)) = refl

pub reaches-start : (form : Form) (bs : List ℕ) → Reaches form [] bs (labels_in form (length bs + 1) bs)
reaches-start form bs = (length bs + 1, omega arith, put-nil _)

module _ (form : Form) (xs : List Pair) (bs : List ℕ) (total : Option (List Pair × List ℕ)) where
  module _ (rest : List ℕ) (brace : mark_in 125 bs ≡ Some rest) where
    closed : (k : ℕ) → length bs < k → put xs (labels_in form k bs) ≡ total → total ≡ Some (xs, rest)
    unfolding labels_in
    closed zero h e = absurd (omega arith)
    closed (suc n) h e =
        sym e ∙ ap (λ o. put xs (closed_or o (label_and_more (λ next. labels_in form n next) (label_in form bs)))) brace ∙ ap (λ l. Some (l, rest)) (append-nil xs)

    pub labels-closed : Reaches form xs bs total → total ≡ Some (xs, rest)
    labels-closed r = closed r.0 r.1 r.2

  module _ (brace : mark_in 125 bs ≡ None) where
    open_step : (n : ℕ) → put xs (labels_in form (suc n) bs) ≡ put xs (label_and_more (λ next. labels_in form n next) (label_in form bs))
    unfolding labels_in
    open_step n = ap (λ o. put xs (closed_or o (label_and_more (λ next. labels_in form n next) (label_in form bs)))) brace

    fault : (f : Fault) → FaultIs f (label_in form bs) → (k : ℕ) → length bs < k → put xs (labels_in form k bs) ≡ total → FaultIs f total
    fault NoMemory e k h t = tt
    fault Faulty e zero h t = absurd (omega arith)
    fault Faulty e (suc n) h t = sym t ∙ open_step n ∙ ap (λ o. put xs (label_and_more (λ next. labels_in form n next) o)) e

    pub labels-fault : (f : Fault) → FaultIs f (label_in form bs) → Reaches form xs bs total → FaultIs f total
    labels-fault f e r = fault f e r.0 r.1 r.2

    module _ (label : Pair) (rest : List ℕ) (found : label_in form bs ≡ Some (label, rest)) (less : length rest < length bs) where
      label_step : (n : ℕ) → put xs (labels_in form (suc n) bs) ≡ put (xs ++ label ∷ []) (after_label (λ next. labels_in form n next) rest (mark_in 44 rest))
      label_step n = open_step n ∙ ap (λ o. put xs (label_and_more (λ next. labels_in form n next) o)) found ∙ put-twice xs label _

      module _ (comma : mark_in 44 rest ≡ None) where
        last : (o : Option (List ℕ)) → mark_in 125 rest ≡ o → (k : ℕ) → length bs < k → put xs (labels_in form k bs) ≡ total →
            put (xs ++ label ∷ []) (option_map (λ (r : List ℕ). ([], r)) o) ≡ total
        last o e zero h t = absurd (omega arith)
        last o e (suc n) h t =
            sym (label_step n ∙ ap (λ m. put (xs ++ label ∷ []) (after_label (λ next. labels_in form n next) rest m)) comma
            ∙ ap (λ m. put (xs ++ label ∷ []) (option_map (λ (r : List ℕ). ([], r)) m)) e) ∙ t

        pub labels-last : (after : List ℕ) → mark_in 125 rest ≡ Some after → Reaches form xs bs total → total ≡ Some (xs ++ label ∷ [], after)
        labels-last after e r = sym (last (Some after) e r.0 r.1 r.2) ∙ ap (λ l. Some (l, after)) (append-nil (xs ++ label ∷ []))

        pub labels-open : mark_in 125 rest ≡ None → Reaches form xs bs total → total ≡ None
        labels-open e r = sym (last None e r.0 r.1 r.2)

      module _ (next : List ℕ) (comma : mark_in 44 rest ≡ Some next) (fewer : length next < length rest) where
        on : (k : ℕ) → length bs < k → put xs (labels_in form k bs) ≡ total → Reaches form (xs ++ label ∷ []) next total
        on zero h t = absurd (omega arith)
        on (suc n) h t =
            (n, omega (arith, less, fewer, h), sym (label_step n ∙ ap (λ m. put (xs ++ label ∷ []) (after_label (λ next. labels_in form n next) rest m)) comma) ∙ t)

        pub labels-more : Reaches form xs bs total → Reaches form (xs ++ label ∷ []) next total
        labels-more r = on r.0 r.1 r.2

-- names that differ, one label at a time
module _ (seen : List (List ℕ)) (xs : List Pair) (i : ℕ) where
  module _ (x : Pair) (at : x ≡ get_or xs i x) (h : i < length xs) where
    there : label_names (drop i xs) ≡ x.name ∷ label_names (drop (i + 1) xs)
    there =
        let step : drop i xs ≡ x ∷ drop (i + 1) xs = rw (add-one, drop-cons xs i x) (ap (λ (y : Pair). y ∷ drop (suc i) xs) (sym at)) in
        ap label_names step

    pub differ-again : list_any (bytes_eq x.name) seen ≡ true → names_differ_from seen (label_names (drop i xs)) ≡ false
    unfolding names_differ_from
    differ-again e = ap (names_differ_from seen) there ∙ rw e refl

    pub differ-more : list_any (bytes_eq x.name) seen ≡ false →
        names_differ_from (seen ++ x.name ∷ []) (label_names (drop (i + 1) xs)) ≡ names_differ_from seen (label_names (drop i xs))
    unfolding names_differ_from
    differ-more e = sym (ap (names_differ_from seen) there ∙ rw e refl)

  pub differ-end : length xs ≤ i → names_differ_from seen (label_names (drop i xs)) ≡ true
  unfolding names_differ_from
  differ-end h = ap (λ (l : List Pair). names_differ_from seen (label_names l)) (drop_of_length-le xs h)

-- the names of one label more
pub names-more : (xs : List Pair) (i : ℕ) (x : Pair) → x ≡ get_or xs i x → i < length xs → label_names (take (i + 1) xs) ≡ label_names (take i xs) ++ x.name ∷ []
names-more xs i x at h = ap label_names (take_more xs i x h) ∙ map-append (λ (p : Pair). p.name) (take i xs) (get_or xs i x ∷ []) ∙ ap (λ (y : Pair). label_names (take i xs) ++ y.name ∷ []) (sym at)

-- a test of the names
any-name : (p : List ℕ → Bool) (xs : List Pair) → list_any (λ (x : Pair). p x.name) xs ≡ list_any p (label_names xs)
any-name p [] = refl
any-name p (x ∷ xs) = ap (λ b. p x.name || b) (any-name p xs)

pub any-name-label : (name : List ℕ) (xs : List Pair) (b : Bool) → b ≡ list_any (λ (x : Pair). bytes_eq name x.name) xs → b ≡ list_any (bytes_eq name) (label_names xs)
any-name-label name xs b e = e ∙ any-name (bytes_eq name) xs

-- a name that goes into the set of those seen
module _ (b : Bool) (v x : List ℕ) (seen : List (List ℕ)) (same : v ≡ x) (added : b ≡ not (list_any (bytes_eq v) seen)) where
  is_new : b ≡ not (list_any (bytes_eq x) seen)
  is_new = added ∙ ap (λ n. not (list_any (bytes_eq n) seen)) same

  pub seen-again : b ≡ false → list_any (bytes_eq x) seen ≡ true
  seen-again e = not-false (list_any (bytes_eq x) seen) (sym is_new ∙ e)

  pub seen-first : b ≡ true → list_any (bytes_eq x) seen ≡ false
  seen-first e = not-true (list_any (bytes_eq x) seen) (sym is_new ∙ e)

  pub seen-keys : (keys : List (List ℕ)) → keys ≡ (if list_any (bytes_eq v) seen then seen else (seen ++ v ∷ [])) → b ≡ true → keys ≡ seen ++ x ∷ []
  seen-keys keys k e =
      let first : list_any (bytes_eq v) seen ≡ false = not-true (list_any (bytes_eq v) seen) (sym added ∙ e) in
      k ∙ rw first (ap (λ n. seen ++ n ∷ []) same)

-- labels that were added so far, and what the rest gives
pub record HasAdded (form : Form) (old new : List Pair) (bs : List ℕ) (total : Option (List Pair × List ℕ)) : Type 0 where
  pub more : List Pair
  pub items : new ≡ old ++ more
  pub reaches : Reaches form more bs total
