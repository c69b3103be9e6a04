-- What the rows of a body show of raw texts, one row after another.
use Rattle.std.proofs.Common.{◌≡◌, ℕ, zero, suc, ◌+◌, ◌-◌, ◌<◌, ◌≤◌, Bool, true, false, cond, List, [], ◌∷◌, ◌++◌, length, map, take, get_or, Option, Some, None, refl, sym, ap, ap₂, subst, ◌∙◌, is_some}
use Rattle.std.specs.Prelude.{Ok, IfSome, option_map}
use Rattle.std.specs.Option.{IsSome}
use Rattle.std.specs.Str.{bytes_eq}
use Rattle.std.proofs.lemmas.List.{length-map, length-take-le, take-append-le, take_more}
use Rattle.std.proofs.lemmas.List.Elements.{All-head, All-tail, All-get_or}
use Rattle.std.proofs.lemmas.Slice.Eq.{bytes_eq-Decides}
use Rattle.label_set.specs.declared.texts.Pair.{Pair}
use Rattle.rule_conf.specs.declared.conf.RuleConf.{RuleConf}
use Rattle.label_set.specs.declared.forms.Form.{Form}
use Rattle.expo_reader.specs.Bodies.{reading}
use Rattle.expo_reader.specs.declared.rows.BodyRow.{BodyRow}
use Rattle.sample_rows.specs.Rows.{row_series}
use Rattle.sample_rows.specs.declared.scrape.RowRules.{RowRules}
use Rattle.series_cache.specs.Caches.{CacheView, failed, find, look_up, renewed, shown_of, stamped, turned, undone, unshown}
use Rattle.series_cache.specs.Remembered.{fresh, marked}
use Rattle.series_cache.specs.declared.known.Known.{Known}
use Rattle.scrape_loop.specs.Texts.{Text, knows, with_put, with_stamp, noted, shown_row, shown_all, IsAtRest, IsRightFor, IsRight, AreRight}

-- a text that was put is known
pub put_known : (raw : List ℕ) (k : Known) (ts : List Text) → IsSome (look_up raw (ts ++ (raw, k) ∷ []))
put_known raw k [] = rw ((bytes_eq-Decides raw raw).1 refl) refl
put_known raw k (t ∷ ts) = by (bytes_eq raw t.0) (put_known raw k ts)
  where
    by : (b : Bool) → IsSome (look_up raw (ts ++ (raw, k) ∷ [])) → IsSome (option_map (λ (j : Known). j.set) (cond b (Some t.1) (find raw (ts ++ (raw, k) ∷ []))))
    by true rest = refl
    by false rest = rest

known_looks : (raw : List ℕ) (ts : List Text) → is_some (find raw ts) ≡ true → IsSome (look_up raw ts)
known_looks raw ts e = by (find raw ts) e
  where
    by : (o : Option Known) → is_some o ≡ true → IsSome (option_map (λ (j : Known). j.set) o)
    by (Some j) e = refl
    by None e = absurd cc

some_known : (o : Option Known) → IsSome (option_map (λ (j : Known). j.set) o) → is_some o ≡ true
some_known (Some j) e = refl
some_known None e = absurd cc

module _ (rules : RowRules) (metric : List RuleConf) (target : List Pair) where
  -- the text of a row is known once it was noted
  pub noted_looks : (c : CacheView) (r : BodyRow) → IsSome (look_up r.raw (noted rules metric target c r).texts)
  noted_looks c r = by (knows r.raw c) refl
    where
      by : (b : Bool) → knows r.raw c ≡ b → IsSome (look_up r.raw (cond b c (with_put r.raw (row_series rules.honor_labels metric target r) c)).texts)
      by true e = known_looks r.raw c.texts e
      by false e = put_known r.raw (fresh (row_series rules.honor_labels metric target r)) c.texts

  -- a text that isn't known is put
  pub noted_new : (c : CacheView) (r : BodyRow) → look_up r.raw c.texts ≡ None → with_put r.raw (row_series rules.honor_labels metric target r) c ≡ noted rules metric target c r
  noted_new c r none = by (find r.raw c.texts) none
    where
      by : (o : Option Known) → option_map (λ (j : Known). j.set) o ≡ None →
          with_put r.raw (row_series rules.honor_labels metric target r) c ≡ cond (is_some o) c (with_put r.raw (row_series rules.honor_labels metric target r) c)
      by None e = refl
      by (Some j) e = absurd cc

  -- and one that is known stays as it is
  pub noted_old : (c : CacheView) (r : BodyRow) (set : Option (List Pair)) → Some set ≡ look_up r.raw c.texts → c ≡ noted rules metric target c r
  noted_old c r set known = by (find r.raw c.texts) known
    where
      by : (o : Option Known) → Some set ≡ option_map (λ (j : Known). j.set) o → c ≡ cond (is_some o) c (with_put r.raw (row_series rules.honor_labels metric target r) c)
      by (Some j) e = refl
      by None e = absurd cc

  pub noted_known : (c : CacheView) (r : BodyRow) → is_some (find r.raw (noted rules metric target c r).texts) ≡ true
  noted_known c r = some_known (find r.raw (noted rules metric target c r).texts) (noted_looks c r)

  -- rows and one more
  shown_snoc : (c : CacheView) (rs : List BodyRow) (r : BodyRow) →
      shown_all rules metric target c (rs ++ r ∷ []) ≡ shown_row rules metric target (shown_all rules metric target c rs) r
  shown_snoc c [] r = refl
  shown_snoc c (s ∷ rs) r = shown_snoc (shown_row rules metric target c s) rs r

  pub shown_more : (c : CacheView) (rows : List BodyRow) (i : ℕ) (r : BodyRow) → i < length rows → r ≡ get_or rows i r →
      shown_all rules metric target c (take (i + 1) rows) ≡ shown_row rules metric target (shown_all rules metric target c (take i rows)) r
  shown_more c rows i r h is =
      ap (shown_all rules metric target c) (take_more rows i r h ∙ ap (λ (x : BodyRow). take i rows ++ x ∷ []) (sym is)) ∙ shown_snoc c (take i rows) r

-- what a stamp showed is taken back
unstamped : (raw : List ℕ) (tracked : Bool) (t : Text) → unshown (stamped raw tracked t) ≡ unshown t
unstamped raw tracked t = by (bytes_eq raw t.0)
  where
    by : (b : Bool) → unshown (cond b (t.0, marked tracked t.1) t) ≡ unshown t
    by true = refl
    by false = refl

take_unstamped : (raw : List ℕ) (tracked : Bool) (k : ℕ) (ts : List Text) → map unshown (take k (map (stamped raw tracked) ts)) ≡ map unshown (take k ts)
take_unstamped raw tracked zero ts = refl
take_unstamped raw tracked (suc k) [] = refl
take_unstamped raw tracked (suc k) (t ∷ ts) = ap₂ (λ (x : Text) (xs : List Text). x ∷ xs) (unstamped raw tracked t) (take_unstamped raw tracked k ts)

pub stamp_undone : (raw : List ℕ) (tracked : Bool) (c : CacheView) → undone (with_stamp raw tracked c) ≡ undone c
stamp_undone raw tracked c = ap (λ (ts : List Text). let v : CacheView = record { texts = ts; kept = c.kept } in v) (take_unstamped raw tracked c.kept c.texts)

pub stamp_same : (raw : List ℕ) (tracked : Bool) (old new : CacheView) → new.texts ≡ map (stamped raw tracked) old.texts → new.kept ≡ old.kept → undone new ≡ undone old
stamp_same raw tracked old new texts kept =
    ap₂ (λ (ts : List Text) (k : ℕ). let v : CacheView = record { texts = ts; kept = k } in undone v) texts kept ∙ stamp_undone raw tracked old

-- and a text that was put, which stands behind those that are kept
abbrev pub KeepsFew : CacheView → Type 0
KeepsFew c = c.kept ≤ length c.texts

pub put_undone : (raw : List ℕ) (set : Option (List Pair)) (c : CacheView) → KeepsFew c → undone (with_put raw set c) ≡ undone c
put_undone raw set c few =
    ap (λ (ts : List Text). let v : CacheView = record { texts = map unshown ts; kept = c.kept } in v) (take-append-le c.kept c.texts ((raw, fresh set) ∷ []) few)

-- after a turn nothing is shown
rest_take : (f : Text → Text) → ((t : Text) → unshown (f t) ≡ f t) → (k : ℕ) (ts : List Text) → map unshown (take k (map f (take k ts))) ≡ map f (take k ts)
rest_take f same zero ts = refl
rest_take f same (suc k) [] = refl
rest_take f same (suc k) (t ∷ ts) = ap₂ (λ (x : Text) (xs : List Text). x ∷ xs) (same t) (rest_take f same k ts)

rest_all : (f : Text → Text) → ((t : Text) → unshown (f t) ≡ f t) → (ts : List Text) → map unshown (take (length ts) (map f ts)) ≡ map f ts
rest_all f same [] = refl
rest_all f same (t ∷ ts) = ap₂ (λ (x : Text) (xs : List Text). x ∷ xs) (same t) (rest_all f same ts)

-- then no text was put
rest_kept : (c : CacheView) → IsAtRest c → KeepsFew c → c.kept ≡ length c.texts
rest_kept c rest few =
    sym (length-take-le c.kept c.texts few) ∙ sym (length-map (take c.kept c.texts) unshown) ∙ ap (λ (v : CacheView). length v.texts) rest

-- how many were put since, by what is taken back
pub put_since : (old c texts : CacheView) → IsAtRest old → KeepsFew old → undone c ≡ undone old → c ≡ texts →
    length c.texts - c.kept ≡ length texts.texts - length old.texts
put_since old c texts rest few back is =
    ap₂ (λ (n k : ℕ). n - k) (ap (λ (v : CacheView). length v.texts) is) (ap (λ (v : CacheView). v.kept) back ∙ rest_kept old rest few)

-- nor after it was taken back
pub undone_rests : (c : CacheView) → IsAtRest (undone c)
undone_rests c = ap (λ (ts : List Text). let v : CacheView = record { texts = ts; kept = c.kept } in v) (rest_take unshown (λ t. refl) c.kept c.texts)

pub turned_rests : (good : Bool) (c : CacheView) → IsAtRest (turned good c)
turned_rests true c = ap (λ (ts : List Text). let v : CacheView = record { texts = ts; kept = length (shown_of c.texts) } in v) (rest_all renewed (λ t. refl) (shown_of c.texts))
turned_rests false c = ap (λ (ts : List Text). let v : CacheView = record { texts = ts; kept = c.kept } in v) (rest_take failed (λ t. refl) c.kept c.texts)

-- where what is known is right, the set of a row's text is the row's series
module _ (honor : Bool) (metric : List RuleConf) (target : List Pair) (form : Form) (bytes : List ℕ) (rows : List BodyRow) (e : reading form bytes ≡ Ok rows)
    (i : ℕ) (r : BodyRow) (h : i < length rows) (is : r ≡ get_or rows i r) where
  one_right : (t : Text) → IsRight honor metric target t → bytes_eq r.raw t.0 ≡ true → t.1.set ≡ row_series honor metric target r
  one_right t right found =
      subst (λ (x : BodyRow). t.0 ≡ x.raw → t.1.set ≡ row_series honor metric target x) (sym is)
      (All-get_or (IsRightFor honor metric target t) rows i r h (right form bytes rows e)) (sym ((bytes_eq-Decides r.raw t.0).0 found))

  pub right_at : (ts : List Text) → AreRight honor metric target ts → IfSome (find r.raw ts) (λ (k : Known). k.set ≡ row_series honor metric target r)
  right_at [] all = tt
  right_at (t ∷ ts) all = by (bytes_eq r.raw t.0) refl (right_at ts (All-tail (IsRight honor metric target) t ts all))
    where
      by : (b : Bool) → bytes_eq r.raw t.0 ≡ b → IfSome (find r.raw ts) (λ (k : Known). k.set ≡ row_series honor metric target r) →
          IfSome (cond b (Some t.1) (find r.raw ts)) (λ (k : Known). k.set ≡ row_series honor metric target r)
      by true found rest = one_right t (All-head (IsRight honor metric target) t ts all) found
      by false found rest = rest
