-- What the calls of a cache do to its look-ups, to the sets that were tracked and to those that are.
use Rattle.std.proofs.Common.{◌≡◌, ℕ, zero, suc, ◌≤◌, Bool, true, false, cond, not, ◌||◌, if◌then◌else◌, flat_map, map, List, [], ◌∷◌, ◌++◌, take, drop, length, Option, None, Some, option_map, refl, sym, ap, subst, ◌∙◌, unwrap_or}
use Rattle.std.proofs.Common.{arith, length-append, Result, Ok, Err, OnOk, OnErr}
use Rattle.std.proofs.lemmas.List.{length-map, length-take-le}
use Rattle.std.proofs.lemmas.Grind.{flat_map-append}
use Rattle.std.proofs.lemmas.List.Folds.{list_any-append}
use Rattle.std.specs.Ordering.{is_eq}
use Rattle.label_set.specs.Sets.{set_cmp}
use Rattle.series_cache.specs.Sets.{has}
use Rattle.series_cache.proofs.TextLemmas.{untouched}
use Rattle.std.specs.Cmp.Lexicographic.{nat_list_eq_equiv}
use Rattle.std.specs.List.{AllByRecursion, IsDistinct}
use Rattle.std.specs.Map.{keys_of}
use Rattle.std.specs.Str.{bytes_eq}
use Rattle.label_set.specs.declared.texts.Pair.{Pair}
use Rattle.series_cache.specs.declared.known.Known.{Known}
use Rattle.series_cache.specs.Caches.{failed, find, look_up, now_sets, renewed, set_if, shown_of, stamped, unshown, was_sets}
use Rattle.series_cache.specs.Kept.{AreNew, AreShown}
use Rattle.series_cache.specs.Places.{AreDistinct}
use Rattle.series_cache.specs.Remembered.{fresh, marked}

-- a text as its pair
abbrev Text : Type 0
Text = List ℕ × Known

nothing_more : {X : Type 0} (xs : List X) → xs ++ [] ≡ xs
nothing_more [] = refl
nothing_more {X} (x ∷ xs) = ap (λ (l : List X). x ∷ l) (nothing_more xs)

-- of two lists whose look-ups agree behind their first text, which have one name and one set
pick : (c : Bool) (k l : Known) (o p : Option Known) → k.set ≡ l.set → option_map (λ (k : Known). k.set) o ≡ option_map (λ (k : Known). k.set) p →
    option_map (λ (k : Known). k.set) (cond c (Some k) o) ≡ option_map (λ (k : Known). k.set) (cond c (Some l) p)
pick true k l o p e rest = ap Some e
pick false k l o p e rest = rest

-- a new text changes no other look-up
pub look_put : (raw r : List ℕ) (k : Known) (ts : List Text) → bytes_eq r raw ≡ false → look_up r (ts ++ (raw, k) ∷ []) ≡ look_up r ts
look_put raw r k [] e = rw e refl
look_put raw r k (t ∷ ts) e = pick (bytes_eq r t.0) t.1 t.1 (find r (ts ++ (raw, k) ∷ [])) (find r ts) refl (look_put raw r k ts e)

-- a stamp changes none
pub look_stamped : (raw r : List ℕ) (tracked : Bool) (ts : List Text) → look_up r (map (stamped raw tracked) ts) ≡ look_up r ts
look_stamped raw r tracked [] = refl
look_stamped raw r tracked (t ∷ ts) = by (bytes_eq raw t.0) (look_stamped raw r tracked ts)
  where
    by : (b : Bool) → look_up r (map (stamped raw tracked) ts) ≡ look_up r ts →
        look_up r ((if b then (t.0, marked tracked t.1) else t) ∷ map (stamped raw tracked) ts) ≡ look_up r (t ∷ ts)
    by true rest = pick (bytes_eq r t.0) (marked tracked t.1) t.1 (find r (map (stamped raw tracked) ts)) (find r ts) refl rest
    by false rest = pick (bytes_eq r t.0) t.1 t.1 (find r (map (stamped raw tracked) ts)) (find r ts) refl rest

-- a change of texts that keeps what they are and their sets
record Keeps (g : Text → Text) : Type 0 where
  pub name : (t : Text) → (g t).0 ≡ t.0
  pub set : (t : Text) → (g t).1.set ≡ t.1.set

look_kept : (g : Text → Text) → Keeps g → (r : List ℕ) (t : Text) (us ts : List Text) → look_up r us ≡ look_up r ts → look_up r (g t ∷ us) ≡ look_up r (t ∷ ts)
look_kept g k r t us ts rest =
    ap (λ (n : List ℕ). option_map (λ (k : Known). k.set) (cond (bytes_eq r n) (Some (g t).1) (find r us))) (k.name t)
    ∙ pick (bytes_eq r t.0) (g t).1 t.1 (find r us) (find r ts) (k.set t) rest

keeps_unshown : Keeps unshown
keeps_unshown = record { name = λ t. refl; set = λ t. refl }

keeps_failed : Keeps failed
keeps_failed = record { name = λ t. refl; set = λ t. refl }

-- what a front knows is known
front_known : (g : Text → Text) → Keeps g → (r : List ℕ) (s : Option (List Pair)) (n : ℕ) (ts : List Text) → look_up r (map g (take n ts)) ≡ Some s → look_up r ts ≡ Some s
front_known g k r s zero [] h = absurd cc
front_known g k r s zero (t ∷ ts) h = absurd cc
front_known g k r s (suc n) [] h = absurd cc
front_known g k r s (suc n) (t ∷ ts) h = by (bytes_eq r t.0) (subst (λ (m : List ℕ). look_of (bytes_eq r m) (g t).1 (map g (take n ts)) ≡ Some s) (k.name t) h) (front_known g k r s n ts)
  where
    look_of : Bool → Known → List Text → Option (Option (List Pair))
    look_of c v us = option_map (λ (k : Known). k.set) (cond c (Some v) (find r us))

    by : (c : Bool) → look_of c (g t).1 (map g (take n ts)) ≡ Some s → (look_up r (map g (take n ts)) ≡ Some s → look_up r ts ≡ Some s) → look_of c t.1 ts ≡ Some s
    by true h f = ap Some (sym (k.set t)) ∙ h
    by false h f = f h

pub undone_known : (r : List ℕ) (s : Option (List Pair)) (n : ℕ) (ts : List Text) → look_up r (map unshown (take n ts)) ≡ Some s → look_up r ts ≡ Some s
undone_known = front_known unshown keeps_unshown

pub failed_known : (r : List ℕ) (s : Option (List Pair)) (n : ℕ) (ts : List Text) → look_up r (map failed (take n ts)) ≡ Some s → look_up r ts ≡ Some s
failed_known = front_known failed keeps_failed

-- a text that stands in front doesn't stand behind
unknown_behind : (r n : List ℕ) (ts : List Text) → bytes_eq r n ≡ true → AllByRecursion (λ y. bytes_eq n y ≡ false) (keys_of ts) → look_up r ts ≡ None
unknown_behind r n [] e d = refl
unknown_behind r n (t ∷ ts) e d =
    let b : bytes_eq r t.0 ≡ false = nat_list_eq_equiv.congr r n t.0 e ∙ d.0 in
    ap (λ c. option_map (λ (k : Known). k.set) (cond c (Some t.1) (find r ts))) b ∙ unknown_behind r n ts e d.1

some_none : {A : Type 0} {x : A} → Some x ≡ None → ⊥
some_none p = cc

-- what is known after a good scrape was known
pub turned_known : (r : List ℕ) (s : Option (List Pair)) (ts : List Text) → AreDistinct ts → look_up r (map renewed (shown_of ts)) ≡ Some s → look_up r ts ≡ Some s
unfolding IsDistinct
turned_known r s [] d h = absurd cc
turned_known r s (t ∷ ts) d h = by t.1.shown (bytes_eq r t.0) refl (unknown_behind r t.0 ts) h (turned_known r s ts d.1)
  where
    by : (b c : Bool) → bytes_eq r t.0 ≡ c → (bytes_eq r t.0 ≡ true → AllByRecursion (λ y. bytes_eq t.0 y ≡ false) (keys_of ts) → look_up r ts ≡ None) →
        look_up r (map renewed (cond b (t ∷ shown_of ts) (shown_of ts))) ≡ Some s → (look_up r (map renewed (shown_of ts)) ≡ Some s → look_up r ts ≡ Some s) → look_up r (t ∷ ts) ≡ Some s
    by true true e u h f = ap (λ c. option_map (λ (k : Known). k.set) (cond c (Some t.1) (find r ts))) e ∙ sym (ap (λ c. option_map (λ (k : Known). k.set) (cond c (Some (renewed t).1) (find r (map renewed (shown_of ts))))) e) ∙ h
    by true false e u h f =
        ap (λ c. option_map (λ (k : Known). k.set) (cond c (Some t.1) (find r ts))) e
        ∙ f (sym (ap (λ c. option_map (λ (k : Known). k.set) (cond c (Some (renewed t).1) (find r (map renewed (shown_of ts))))) e) ∙ h)
    by false true e u h f = absurd (some_none (sym (f h) ∙ u e d.0))
    by false false e u h f = ap (λ c. option_map (λ (k : Known). k.set) (cond c (Some t.1) (find r ts))) e ∙ f h

-- the sets of texts that count
abbrev pub sets_by : (Known → Bool) → List Text → List (List Pair)
sets_by counts ts = flat_map (λ (t : Text). set_if (counts t.1) t.1.set) ts

-- a change of texts after which none counts
pub none_counts : (counts : Known → Bool) (g : Text → Text) → ((t : Text) → counts (g t).1 ≡ false) → (ts : List Text) → sets_by counts (map g ts) ≡ []
none_counts counts g f [] = refl
none_counts counts g f (t ∷ ts) = ap (λ b. set_if b (g t).1.set ++ sets_by counts (map g ts)) (f t) ∙ none_counts counts g f ts

-- a text that doesn't count yet
pub last_counts_not : (counts : Known → Bool) (ts : List Text) (t : Text) → counts t.1 ≡ false → sets_by counts (ts ++ t ∷ []) ≡ sets_by counts ts
last_counts_not counts ts t e =
    flat_map-append (λ (t : Text). set_if (counts t.1) t.1.set) ts (t ∷ []) ∙ ap (λ b. sets_by counts ts ++ (set_if b t.1.set ++ [])) e ∙ nothing_more (sets_by counts ts)

pub was_put : (ts : List Text) (raw : List ℕ) (set : Option (List Pair)) → was_sets (ts ++ (raw, fresh set) ∷ []) ≡ was_sets ts
was_put ts raw set = last_counts_not (λ (k : Known). k.was_tracked) ts (raw, fresh set) refl

pub now_put : (ts : List Text) (raw : List ℕ) (set : Option (List Pair)) → now_sets (ts ++ (raw, fresh set) ∷ []) ≡ now_sets ts
now_put ts raw set = last_counts_not (λ (k : Known). k.tracked) ts (raw, fresh set) refl

pub was_stamped : (raw : List ℕ) (tracked : Bool) (ts : List Text) → was_sets (map (stamped raw tracked) ts) ≡ was_sets ts
was_stamped raw tracked [] = refl
was_stamped raw tracked (t ∷ ts) = by (bytes_eq raw t.0) (was_stamped raw tracked ts)
  where
    by : (b : Bool) → was_sets (map (stamped raw tracked) ts) ≡ was_sets ts → was_sets ((if b then (t.0, marked tracked t.1) else t) ∷ map (stamped raw tracked) ts) ≡ was_sets (t ∷ ts)
    by true rest = ap (λ l. set_if t.1.was_tracked t.1.set ++ l) rest
    by false rest = ap (λ l. set_if t.1.was_tracked t.1.set ++ l) rest

pub now_turned : (ts : List Text) → now_sets (map renewed ts) ≡ []
now_turned = none_counts (λ (k : Known). k.tracked) renewed (λ t. refl)

pub now_failed : (ts : List Text) → now_sets (map failed ts) ≡ []
now_failed = none_counts (λ (k : Known). k.tracked) failed (λ t. refl)

pub was_failed : (ts : List Text) → was_sets (map failed ts) ≡ []
was_failed = none_counts (λ (k : Known). k.was_tracked) failed (λ t. refl)

pub now_undone : (ts : List Text) → now_sets (map unshown ts) ≡ []
now_undone = none_counts (λ (k : Known). k.tracked) unshown (λ t. refl)

-- after a good scrape those were tracked that it tracked
pub was_turned : (ts : List Text) → AreShown ts → was_sets (map renewed (shown_of ts)) ≡ now_sets ts
unfolding AreShown
was_turned [] h = refl
was_turned (t ∷ ts) h = by t.1.shown t.1.tracked h.0 (was_turned ts h.1)
  where
    by : (b c : Bool) → (not c || b) ≡ true → was_sets (map renewed (shown_of ts)) ≡ now_sets ts →
        was_sets (map renewed (cond b ((t.0, record { set = t.1.set; shown = b; tracked = c; was_tracked = t.1.was_tracked }) ∷ shown_of ts) (shown_of ts))) ≡ set_if c t.1.set ++ now_sets ts
    by true c e rest = ap (λ l. set_if c t.1.set ++ l) rest
    by false true e rest = absurd cc
    by false false e rest = rest

-- after an undo those were tracked that were before
pub was_undone : (n : ℕ) (ts : List Text) → AreNew n ts → was_sets (map unshown (take n ts)) ≡ was_sets ts
unfolding AreNew
was_undone zero ts h = sym (none_were ts h)
  where
    none_were : (ts : List Text) → AllByRecursion (λ (t : Text). t.1.was_tracked ≡ false) ts → was_sets ts ≡ []
    none_were [] h = refl
    none_were (t ∷ ts) h = ap (λ b. set_if b t.1.set ++ was_sets ts) h.0 ∙ none_were ts h.1
was_undone (suc n) [] h = refl
was_undone (suc n) (t ∷ ts) h = ap (λ l. set_if t.1.was_tracked t.1.set ++ l) (was_undone n ts h)

-- what holds of the texts stays
pub shown_put : (ts : List Text) (raw : List ℕ) (set : Option (List Pair)) → AreShown ts → AreShown (ts ++ (raw, fresh set) ∷ [])
unfolding AreShown
shown_put [] raw set h = (refl, tt)
shown_put (t ∷ ts) raw set h = (h.0, shown_put ts raw set h.1)

pub shown_stamped : (raw : List ℕ) (tracked : Bool) (ts : List Text) → AreShown ts → AreShown (map (stamped raw tracked) ts)
unfolding AreShown
shown_stamped raw tracked [] h = tt
shown_stamped raw tracked (t ∷ ts) h = (by (bytes_eq raw t.0), shown_stamped raw tracked ts h.1)
  where
    or_true : (b : Bool) → (b || true) ≡ true
    or_true true = refl
    or_true false = refl

    by : (b : Bool) → (not (if b then (t.0, marked tracked t.1) else t).1.tracked || (if b then (t.0, marked tracked t.1) else t).1.shown) ≡ true
    by true = or_true (not (t.1.tracked || tracked))
    by false = h.0

shown_by : (g : Text → Text) → ((t : Text) → (g t).1.tracked ≡ false) → (ts : List Text) → AreShown (map g ts)
unfolding AreShown
shown_by g f [] = tt
shown_by g f (t ∷ ts) = (ap (λ b. not b || (g t).1.shown) (f t), shown_by g f ts)

pub shown_turned : (ts : List Text) → AreShown (map renewed ts)
shown_turned = shown_by renewed (λ t. refl)

pub shown_failed : (ts : List Text) → AreShown (map failed ts)
shown_failed = shown_by failed (λ t. refl)

pub shown_undone : (ts : List Text) → AreShown (map unshown ts)
shown_undone = shown_by unshown (λ t. refl)

pub new_put : (n : ℕ) (ts : List Text) (raw : List ℕ) (set : Option (List Pair)) → AreNew n ts → AreNew n (ts ++ (raw, fresh set) ∷ [])
unfolding AreNew
new_put zero [] raw set h = (refl, tt)
new_put zero (t ∷ ts) raw set h = (h.0, new_put zero ts raw set h.1)
new_put (suc n) [] raw set h = by n
  where
    by : (n : ℕ) → AllByRecursion (λ (t : Text). t.1.was_tracked ≡ false) (drop (suc n) ((raw, fresh set) ∷ []))
    by zero = tt
    by (suc n) = tt
new_put (suc n) (t ∷ ts) raw set h = new_put n ts raw set h

pub new_stamped : (n : ℕ) (raw : List ℕ) (tracked : Bool) (ts : List Text) → AreNew n ts → AreNew n (map (stamped raw tracked) ts)
unfolding AreNew
new_stamped zero raw tracked [] h = tt
new_stamped zero raw tracked (t ∷ ts) h = (by (bytes_eq raw t.0), new_stamped zero raw tracked ts h.1)
  where
    by : (b : Bool) → (if b then (t.0, marked tracked t.1) else t).1.was_tracked ≡ false
    by true = h.0
    by false = h.0
new_stamped (suc n) raw tracked [] h = tt
new_stamped (suc n) raw tracked (t ∷ ts) h = new_stamped n raw tracked ts h

-- where all texts are kept, none is new
none_new : (g : Text → Text) (n : ℕ) (ts : List Text) → AreNew n (map g (take n ts))
unfolding AreNew
none_new g zero ts = tt
none_new g (suc n) [] = tt
none_new g (suc n) (t ∷ ts) = none_new g n ts

pub new_failed : (n : ℕ) (ts : List Text) → AreNew n (map failed (take n ts))
new_failed = none_new failed

pub new_undone : (n : ℕ) (ts : List Text) → AreNew n (map unshown (take n ts))
new_undone = none_new unshown

pub new_turned : (n : ℕ) (ts : List Text) → n ≡ length ts → AreNew n ts
unfolding AreNew
new_turned zero [] e = tt
new_turned zero (t ∷ ts) e = absurd cc
new_turned (suc n) [] e = tt
new_turned (suc n) (t ∷ ts) e = new_turned n ts cc

or_behind : (a b c : Bool) → (a || (b || c)) ≡ ((a || b) || c)
or_behind true b c = refl
or_behind false b c = refl

has_both : (x : List Pair) (xs ys : List (List Pair)) → has x (xs ++ ys) ≡ (has x xs || has x ys)
has_both x xs ys = list_any-append (λ (y : List Pair). is_eq (set_cmp x y)) xs ys

-- a set that is tracked twice
twice : (x : List Pair) (before tracked : Bool) (set : Option (List Pair)) (n : Bool) →
    (has x (set_if (before || tracked) set) || n) ≡ ((has x (set_if before set) || n) || has x (set_if tracked set))
twice x true true set n = by (has x (set_if true set)) n
  where
    by : (a n : Bool) → (a || n) ≡ ((a || n) || a)
    by true n = refl
    by false true = refl
    by false false = refl
twice x true false set n = by (has x (set_if true set) || n)
  where
    by : (a : Bool) → a ≡ (a || false)
    by true = refl
    by false = refl
twice x false true set n = by (has x (set_if true set)) n
  where
    by : (a n : Bool) → (a || n) ≡ (n || a)
    by true true = refl
    by true false = refl
    by false true = refl
    by false false = refl
twice x false false set n = by n
  where
    by : (a : Bool) → a ≡ (a || false)
    by true = refl
    by false = refl

-- after a stamp the sets that are tracked are those before, and the one of the text where it is shown as tracked
pub now_stamped : (raw : List ℕ) (tracked : Bool) (set : Option (List Pair)) (ts : List Text) → AreDistinct ts → look_up raw ts ≡ Some set → (x : List Pair) →
    has x (now_sets (map (stamped raw tracked) ts)) ≡ has x (now_sets ts ++ set_if tracked set)
unfolding IsDistinct
now_stamped raw tracked set [] d h x = absurd cc
now_stamped raw tracked set (t ∷ ts) d h x = by (bytes_eq raw t.0) refl (now_stamped raw tracked set ts d.1) h
  where
    by : (b : Bool) → bytes_eq raw t.0 ≡ b → (look_up raw ts ≡ Some set → (x : List Pair) → has x (now_sets (map (stamped raw tracked) ts)) ≡ has x (now_sets ts ++ set_if tracked set)) →
        option_map (λ (k : Known). k.set) (cond b (Some t.1) (find raw ts)) ≡ Some set →
        has x (now_sets ((if b then (t.0, marked tracked t.1) else t) ∷ map (stamped raw tracked) ts)) ≡ has x (now_sets (t ∷ ts) ++ set_if tracked set)
    by true e rest h =
        ap (λ (us : List Text). has x (now_sets ((t.0, marked tracked t.1) ∷ us))) (untouched raw t.0 tracked ts e d.0)
        ∙ has_both x (set_if (t.1.tracked || tracked) t.1.set) (now_sets ts)
        ∙ twice x t.1.tracked tracked t.1.set (has x (now_sets ts))
        ∙ ap (λ a. a || has x (set_if tracked t.1.set)) (sym (has_both x (set_if t.1.tracked t.1.set) (now_sets ts)))
        ∙ sym (has_both x (now_sets (t ∷ ts)) (set_if tracked t.1.set))
        ∙ ap (λ (s : Option (List Pair)). has x (now_sets (t ∷ ts) ++ set_if tracked s)) (ap (λ (o : Option (Option (List Pair))). unwrap_or o t.1.set) h)
    by false e rest h =
        has_both x (set_if t.1.tracked t.1.set) (now_sets (map (stamped raw tracked) ts))
        ∙ ap (λ a. has x (set_if t.1.tracked t.1.set) || a) (rest h x ∙ has_both x (now_sets ts) (set_if tracked set))
        ∙ or_behind (has x (set_if t.1.tracked t.1.set)) (has x (now_sets ts)) (has x (set_if tracked set))
        ∙ ap (λ a. a || has x (set_if tracked set)) (sym (has_both x (set_if t.1.tracked t.1.set) (now_sets ts)))
        ∙ sym (has_both x (now_sets (t ∷ ts)) (set_if tracked set))

-- what a cache keeps
abbrev pub Held : ℕ → List Text → Type 0
Held n ts = (n ≤ length ts) × AreShown ts × AreNew n ts

pub held_none : (ts : List Text) → ts ≡ [] → Held 0 ts
unfolding AreShown AreNew
held_none ts e = subst (λ (us : List Text). Held 0 us) (sym e) (omega arith, tt, tt)

pub held_put : (n : ℕ) (ts : List Text) (raw : List ℕ) (set : Option (List Pair)) → Held n ts → Held n (ts ++ (raw, fresh set) ∷ [])
held_put n ts raw set h = (omega (arith, h.0, length-append ts ((raw, fresh set) ∷ [])), shown_put ts raw set h.1, new_put n ts raw set h.2)

pub held_stamped : (n : ℕ) (raw : List ℕ) (tracked : Bool) (ts : List Text) → Held n ts → Held n (map (stamped raw tracked) ts)
held_stamped n raw tracked ts h = (omega (arith, h.0, length-map ts (stamped raw tracked)), shown_stamped raw tracked ts h.1, new_stamped n raw tracked ts h.2)

pub held_turned : (n : ℕ) (ts : List Text) → n ≡ length (map renewed ts) → Held n (map renewed ts)
held_turned n ts e = (omega (arith, e), shown_turned ts, new_turned n (map renewed ts) e)

pub held_failed : (n : ℕ) (ts : List Text) → n ≤ length ts → Held n (map failed (take n ts))
held_failed n ts h = (omega (arith, length-map (take n ts) failed, length-take-le n ts h), shown_failed (take n ts), new_failed n ts)

pub held_undone : (n : ℕ) (ts : List Text) → n ≤ length ts → Held n (map unshown (take n ts))
held_undone n ts h = (omega (arith, length-map (take n ts) unshown, length-take-le n ts h), shown_undone (take n ts), new_undone n ts)

-- a fact of both ends of a call
pub either : {T E P Q R : Type 0} (r : Result T E) → OnOk r P → OnErr r Q → (P → R) → (Q → R) → R
either (Ok x) p q f g = f p
either (Err e) p q f g = g q
