-- Labels as they are printed are labels of the grammar.
use Rattle.std.proofs.Common.{◌≡◌, ◌≢◌, inl, inr, ℕ, Bool, true, false, not, List, [], ◌∷◌, ◌++◌, length, drop, refl, sym, ap, ◌∙◌, arith, subst, ◌==◌, ⊎_elim, codes, if◌then◌else◌, cond, append-nil, Some, option_map}
use Rattle.std.specs.List.{AllByRecursion, find, list_any}
use Rattle.std.specs.Cmp.{tied_itself}
use Rattle.std.specs.Cmp.Lexicographic.{bytes_decides, nat_list_cmp_total}
use Rattle.std.specs.Str.{IsUtf8, bytes_eq}
use Rattle.std.specs.declared.cmp.Ordering.TheVariants.{Less, Equal}
use Rattle.std.proofs.lemmas.Bool.{and_from, cases_Bool, eqb-false, eqb-true}
use Rattle.std.proofs.lemmas.Bool.Decides.{nat_tests}
use Rattle.std.proofs.lemmas.List.Elements.{recursion_from_All}
use Rattle.std.proofs.lemmas.Str.{is_utf8-from_IsUtf8}
use Rattle.label_set.specs.Bytes.{bytes_cmp, is_label_name}
use Rattle.label_set.specs.SetText.{escaped, escaped_byte, label_text, labels_after, metric_label, name_text, other_labels}
use Rattle.label_set.specs.Sets.{IsSet, value_of}
use Rattle.label_set.specs.declared.forms.Form.TheVariants.{Quoted}
use Rattle.label_set.specs.declared.texts.Pair.{Pair}
use Rattle.expo_reader.specs.Forms.{label_names, names_differ, names_differ_from}
use Rattle.expo_reader.specs.Grammar.{IsLabel, IsLabelName, IsLabels, IsPiece, IsQuote, IsText, backslash, feed, more, none, plain, quote}
use Rattle.expo_reader.specs.Names.{is_exposed_name, is_quoted_metric, is_quoted_name}
use Rattle.federation.specs.Readings.{IsNamedText}

-- a text with its escapes
piece : (b : ℕ) → IsPiece (escaped_byte b) (b ∷ [])
unfolding escaped_byte
piece b =
    ⊎_elim (λ (s : (b == 92) ≡ true). rw s (subst (λ (x : ℕ). IsPiece (92 ∷ 92 ∷ []) (x ∷ [])) (sym (eqb-true b 92 s)) backslash))
    (λ (s : (b == 92) ≡ false).
    ⊎_elim (λ (q : (b == 34) ≡ true). rw (s, q) (subst (λ (x : ℕ). IsPiece (92 ∷ 34 ∷ []) (x ∷ [])) (sym (eqb-true b 34 q)) quote))
    (λ (q : (b == 34) ≡ false).
    ⊎_elim (λ (n : (b == 10) ≡ true). rw (s, q, n) (subst (λ (x : ℕ). IsPiece (92 ∷ 110 ∷ []) (x ∷ [])) (sym (eqb-true b 10 n)) feed))
    (λ (n : (b == 10) ≡ false). rw (s, q, n) (plain b (eqb-false b 92 s) (eqb-false b 34 q)))
    (cases_Bool (b == 10)))
    (cases_Bool (b == 34)))
    (cases_Bool (b == 92))

text_is : (bs : List ℕ) → IsText (escaped bs) bs
text_is [] = none
text_is (b ∷ bs) = more (piece b) (text_is bs)

pub quote_is : (bs : List ℕ) → IsUtf8 bs → IsQuote (34 ∷ (escaped bs ++ 34 ∷ [])) bs
quote_is bs u = (escaped bs, text_is bs, is_utf8-from_IsUtf8 bs u, refl)

-- names
pub quoted_metric : (name : List ℕ) → name ≢ [] → is_quoted_metric name ≡ true
unfolding is_quoted_metric
quoted_metric [] some = absurd (some refl)
quoted_metric (b ∷ bs) some = let long : (length (b ∷ bs) == 0) ≡ false = grind (arith, nat_tests) in ap not long

module _ (name : List ℕ) (some : name ≢ []) (utf8 : IsUtf8 name) (other : bytes_eq name metric_label ≡ false) where
  quoted_name : is_quoted_name name ≡ true
  unfolding is_quoted_name
  quoted_name = and_from _ _ (quoted_metric name some) (ap not other)

  exposed_name : is_label_name name ≡ true → is_exposed_name name ≡ true
  unfolding is_exposed_name
  exposed_name e = and_from _ _ e (ap not other)

  name_is : IsLabelName Quoted (name_text name) name
  name_is =
      ⊎_elim
      (λ (q : is_label_name name ≡ true).
      (let is : name_text name ≡ name = ap (λ (b : Bool). if b then name else codes "\"" ++ (escaped name ++ codes "\"")) q in
      inl (exposed_name q, is)))
      (λ (q : is_label_name name ≡ false).
      (let is : codes "\"" ++ (escaped name ++ codes "\"") ≡ name_text name =
      sym (ap (λ (b : Bool). if b then name else codes "\"" ++ (escaped name ++ codes "\"")) q) in
      inr (refl, quoted_name, subst (λ (s : List ℕ). IsQuote s name) is (quote_is name utf8))))
      (cases_Bool (is_label_name name))

-- labels but the metric name
abbrev pub IsOther : Pair → Type 0
IsOther p = IsNamedText p × (bytes_eq p.name metric_label ≡ false)

label_is : (p : Pair) → IsOther p → IsLabel Quoted (label_text p) p
label_is p o =
    let value = 34 ∷ (escaped p.value ++ 34 ∷ []) in (
      [],
      name_text p.name,
      [],
      [],
      value,
      [],
      refl,
      refl,
      refl,
      refl,
      name_is p.name o.0.some o.0.name o.1,
      quote_is p.value o.0.value,
      ap (λ (q : List ℕ). name_text p.name ++ 61 ∷ q) (sym (append-nil value)),
    )

-- what stands between the braces: labels with commas between them
abbrev pub between : List Pair → List ℕ
between ps = drop 1 (labels_after ps)

pub labels_are : (ps : List Pair) → AllByRecursion IsOther ps → IsLabels Quoted (between ps) ps
labels_are [] h = refl
labels_are (p ∷ []) h = (label_text p, label_is p h.0, inl (refl, append-nil (label_text p)))
labels_are (p ∷ (q ∷ ps)) h = (label_text p, label_is p h.0, inr (between (q ∷ ps), refl, labels_are (q ∷ ps) h.1))

pub others_are : (ps : List Pair) → AllByRecursion IsNamedText ps → AllByRecursion IsOther (other_labels ps)
others_are [] h = tt
others_are (p ∷ ps) h = by (others_are ps h.1) (bytes_eq p.name metric_label) refl
  where
    by : AllByRecursion IsOther (other_labels ps) → (b : Bool) → bytes_eq p.name metric_label ≡ b →
        AllByRecursion IsOther (cond (not b) (p ∷ other_labels ps) (other_labels ps))
    by rest true e = rest
    by rest false e = ((h.0, e), rest)

-- the value of a name is a text
pub value_utf8 : (ps : List Pair) (name value : List ℕ) → AllByRecursion IsNamedText ps → value_of ps name ≡ Some value → IsUtf8 value
value_utf8 [] name value h e = absurd cc
value_utf8 (p ∷ ps) name value h e = by (λ later. value_utf8 ps name value h.1 later) (bytes_eq p.name name) e
  where
    by : (value_of ps name ≡ Some value → IsUtf8 value) → (b : Bool) →
        option_map (λ (q : Pair). q.value) (cond b (Some p) (find (λ (q : Pair). bytes_eq q.name name) ps)) ≡ Some value →
        IsUtf8 value
    by rest true e = let same : p.value ≡ value = cc e in subst IsUtf8 same h.0.value
    by rest false e = rest e

-- the labels of a set differ in name
above_all : (name : List ℕ) (seen : List (List ℕ)) → AllByRecursion (λ (s : List ℕ). bytes_cmp s name ≡ Less) seen → list_any (bytes_eq name) seen ≡ false
above_all name [] h = refl
above_all name (s ∷ seen) h = by (above_all name seen h.1) (bytes_eq name s) refl
  where
    by : list_any (bytes_eq name) seen ≡ false → (b : Bool) → bytes_eq name s ≡ b → list_any (bytes_eq name) (s ∷ seen) ≡ false
    by rest true e =
        let same : name ≡ s = (bytes_decides name s).0 e in
        let tied : bytes_cmp s name ≡ Equal = ap (bytes_cmp s) same ∙ tied_itself nat_list_cmp_total s in
        let never : Less ≡ Equal = sym h.0 ∙ tied in
        absurd cc
    by rest false e = rw e rest

seen_more : (name last : List ℕ) (seen : List (List ℕ)) → AllByRecursion (λ (s : List ℕ). bytes_cmp s name ≡ Less) seen → bytes_cmp last name ≡ Less →
    AllByRecursion (λ (s : List ℕ). bytes_cmp s name ≡ Less) (seen ++ last ∷ [])
seen_more name last [] h e = (e, tt)
seen_more name last (s ∷ seen) h e = (h.0, seen_more name last seen h.1 e)

abbrev AreAbove : List (List ℕ) → List Pair → Type 0
AreAbove seen ps = AllByRecursion (λ (p : Pair). AllByRecursion (λ (s : List ℕ). bytes_cmp s p.name ≡ Less) seen) ps

above_more : (last : List ℕ) (seen : List (List ℕ)) (ps : List Pair) → AreAbove seen ps →
    AllByRecursion (λ (p : Pair). bytes_cmp last p.name ≡ Less) ps → AreAbove (seen ++ last ∷ []) ps
above_more last seen [] h e = tt
above_more last seen (p ∷ ps) h e = (seen_more p.name last seen h.0 e.0, above_more last seen ps h.1 e.1)

differ_from : (seen : List (List ℕ)) (ps : List Pair) → IsSet ps → AreAbove seen ps → names_differ_from seen (label_names ps) ≡ true
unfolding names_differ_from
differ_from seen [] s h = refl
differ_from seen (p ∷ ps) s h =
    let below : AllByRecursion (λ (q : Pair). bytes_cmp p.name q.name ≡ Less) ps = recursion_from_All (λ (q : Pair). bytes_cmp p.name q.name ≡ Less) ps s.1 in
    and_from _ _ (ap not (above_all p.name seen h.0)) (differ_from (seen ++ p.name ∷ []) ps s.2 (above_more p.name seen ps h.1 below))

none_above : (ps : List Pair) → AreAbove [] ps
none_above [] = tt
none_above (p ∷ ps) = (tt, none_above ps)

pub differ : (ps : List Pair) → IsSet ps → names_differ ps ≡ true
differ ps s = differ_from [] ps s (none_above ps)
