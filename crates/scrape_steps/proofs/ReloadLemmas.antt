-- What becomes of the lives when the configuration in force changes: the code's places of names against the definitions.
use Rattle.std.proofs.Common.{◌≡◌, ℕ, ℤ, zero, suc, ◌+◌, ◌<◌, Bool, true, false, not, ◌&&◌, ◌||◌, get_or, take, append-nil, append_assoc, length-append, List, [], ◌∷◌, ◌++◌, map, length, refl, sym, ap, ap₂, ◌∙◌, arith}
use Rattle.std.specs.Prelude.{All, Option, Some, None, option_map, slice_get, filter, nat_eq, if◌then◌else◌}
use Rattle.std.specs.List.{find, list_any}
use Rattle.std.specs.Ordering.{is_eq}
use Rattle.std.specs.Str.{bytes_eq}
use Rattle.std.proofs.lemmas.Bool.{false≢true, eqb-true, eq-eqb}
use Rattle.std.proofs.lemmas.List.Elements.{All-head, All-tail}
use Rattle.std.proofs.lemmas.Option.{slice_get-map}
use Rattle.std.proofs.lemmas.Slice.Eq.{bytes_eq-Decides}
use Rattle.std.proofs.lemmas.List.{take_more}
use Rattle.scrape_steps.proofs.BirthLemmas.{length-born}
use Rattle.label_set.specs.Sets.{set_cmp}
use Rattle.life_roll.specs.Names.{place_in}
use Rattle.life_roll.specs.declared.seats.Seats.{Seats}
use Rattle.target_set.specs.declared.targets.Target.{Target}
use Rattle.scrape_steps.specs.declared.acts.Transition.{Transition}
use Rattle.scrape_steps.specs.declared.acts.Transition.TheVariants.{Stays, Closes}
use Rattle.jobs_in_force.specs.declared.jobs.InForce.{InForce}
use Rattle.scrape_machine.specs.declared.lives.Life.{Life}
use Rattle.scrape_machine.specs.declared.lives.Local.{Local}
use Rattle.scrape_machine.specs.declared.lives.Local.TheVariants.{Nothing, Close}
use Rattle.scrape_machine.specs.declared.lives.Difference.{Difference}
use Rattle.scrape_machine.specs.declared.lives.Difference.TheVariants as difference
use Rattle.jobs_in_force.specs.Jobs.{job_named, is_named, has_target}
use Rattle.scrape_machine.specs.Lives.{is_open, life_after}
use Rattle.scrape_machine.specs.Machine as spec
use Rattle.scrape_machine.specs.Machine.{births, born_all, unheld, holds, job_name, reload_local, job_local, difference_local}
use Rattle.scrape_steps.specs.Plans.{local_of, after_each, look, transition_by, transition_at, transition_of, is_place, sits, IsHeld, is_seated, unseated, births_by}
use Rattle.scrape_machine.specs.Machine.{name_of}

-- the job of a name stands at the place of the name
one_more : (p : ℕ) → p + 1 ≡ suc p
one_more p = omega arith

next_get : {A : Type 0} (x : A) (xs : List A) (p : ℕ) → slice_get (x ∷ xs) (suc p) ≡ slice_get xs p
next_get x xs p = refl

look_next : {A : Type 0} (x : A) (xs : List A) (o : Option ℕ) → look (x ∷ xs) (option_map (λ p. p + 1) o) ≡ look xs o
look_next x xs None = refl
look_next x xs (Some p) = ap (slice_get (x ∷ xs)) (one_more p) ∙ next_get x xs p

find_cons : {A : Type 0} (p : A → Bool) (x : A) (xs : List A) → find p (x ∷ xs) ≡ (if p x then Some x else find p xs)
find_cons p x xs = refl

pub named_at : (name : List ℕ) (jobs : List InForce) → job_named name jobs ≡ look jobs (place_in name (map name_of jobs))
named_at name [] = refl
named_at name (j ∷ js) = find_cons (is_named name) j js ∙ by (named_at name js) (is_named name j)
  where
    by : job_named name js ≡ look js (place_in name (map name_of js)) → (b : Bool) →
        (if b then Some j else job_named name js) ≡ look (j ∷ js) (if b then Some 0 else option_map (λ p. p + 1) (place_in name (map name_of js)))
    by e true = refl
    by e false = e ∙ sym (look_next j js (place_in name (map name_of js)))

pub look_map : {A B : Type 0} (f : A → B) (xs : List A) (o : Option ℕ) → look (map f xs) o ≡ option_map f (look xs o)
look_map f xs None = refl
look_map f xs (Some p) = slice_get-map f xs p

-- what becomes of a life
transition_difference : (m : ℤ) (v : Difference) → local_of m (transition_by v) ≡ difference_local m v
transition_difference m difference.Incompatible = refl
transition_difference m difference.Same = refl
transition_difference m (difference.Changed s) = refl

transition_job : (m : ℤ) (olds : List InForce) (l : Life) (after : Option InForce) →
    local_of m (transition_at l after (option_map (spec.difference olds) after)) ≡ job_local m olds l after
transition_job m olds l None = refl
transition_job m olds l (Some j) = by (has_target l.identity j)
  where
    by : (b : Bool) → local_of m (if b then transition_by (spec.difference olds j) else Closes) ≡ (if b then difference_local m (spec.difference olds j) else Close m)
    by true = transition_difference m (spec.difference olds j)
    by false = refl

pub transition_local : (m : ℤ) (olds news : List InForce) (names : List (List ℕ)) (vs : List Difference) (l : Life) →
    names ≡ map name_of news → vs ≡ map (spec.difference olds) news → local_of m (transition_of names news vs l) ≡ reload_local m olds (Some news) l
transition_local m olds news names vs l n v = by (is_open l)
  where
    at : Option InForce
    at = look news (place_in (job_name l) names)

    named : at ≡ job_named (job_name l) news
    named = ap (λ ns. look news (place_in (job_name l) ns)) n ∙ sym (named_at (job_name l) news)

    judged : look vs (place_in (job_name l) names) ≡ option_map (spec.difference olds) at
    judged = ap (λ xs. look xs (place_in (job_name l) names)) v ∙ look_map (spec.difference olds) news (place_in (job_name l) names)

    by : (b : Bool) → local_of m (if b then transition_at l at (look vs (place_in (job_name l) names)) else Stays)
        ≡ (if b then job_local m olds l (job_named (job_name l) news) else Nothing)
    by true = ap (λ w. local_of m (transition_at l at w)) judged ∙ transition_job m olds l at ∙ ap (job_local m olds l) named
    by false = refl

-- the lives after what becomes of each
pub each_after : (m : ℤ) (f : Life → Transition) (g : Life → Local) (ls : List Life) → ((l : Life) → local_of m (f l) ≡ g l) →
    after_each m (map f ls) ls ≡ map (λ l. life_after (g l) l) ls
each_after m f g [] h = refl
each_after m f g (l ∷ ls) h = ap₂ (λ p zs. life_after p l ∷ zs) (h l) (each_after m f g ls h)

-- names with one place are the same
some_next : (o : Option ℕ) (p : ℕ) → option_map (λ q. q + 1) o ≡ Some p → (q : ℕ) × (o ≡ Some q) × (p ≡ q + 1)
some_next None p h = absurd (cc)
some_next (Some q) p h = (q, refl, cc)

place_same : (a b : List ℕ) (names : List (List ℕ)) (p : ℕ) → place_in a names ≡ Some p → place_in b names ≡ Some p → a ≡ b
place_same a b [] p h k = absurd (cc)
place_same a b (x ∷ xs) p h k = by (place_same a b xs) (bytes_eq a x) refl (bytes_eq b x) refl h k
  where
    by : ((q : ℕ) → place_in a xs ≡ Some q → place_in b xs ≡ Some q → a ≡ b) → (s : Bool) → bytes_eq a x ≡ s → (t : Bool) → bytes_eq b x ≡ t →
        (if s then Some 0 else option_map (λ q. q + 1) (place_in a xs)) ≡ Some p → (if t then Some 0 else option_map (λ q. q + 1) (place_in b xs)) ≡ Some p → a ≡ b
    by rest true s true t h k = (bytes_eq-Decides a x).0 s ∙ sym ((bytes_eq-Decides b x).0 t)
    by rest true s false t h k = let n = some_next (place_in b xs) p k in let z : p ≡ 0 = cc in absurd (omega arith)
    by rest false s true t h k = let n = some_next (place_in a xs) p h in let z : p ≡ 0 = cc in absurd (omega arith)
    by rest false s false t h k =
        let n = some_next (place_in a xs) p h in
        let o = some_next (place_in b xs) p k in
        let e : n.0 ≡ o.0 = omega arith in
        rest n.0 n.1 (o.1 ∙ ap (λ q. Some q) (sym e))

-- a name that is there has a place
pub has_place : (names : List (List ℕ)) (i : ℕ) (x : List ℕ) → slice_get names i ≡ Some x → (p : ℕ) × (place_in x names ≡ Some p)
has_place [] i x h = absurd (cc)
has_place (y ∷ ys) i x h = by (λ k. has_place ys k x) (bytes_eq x y) refl i h
  where
    by : ((k : ℕ) → slice_get ys k ≡ Some x → (p : ℕ) × (place_in x ys ≡ Some p)) → (b : Bool) → bytes_eq x y ≡ b → (i : ℕ) → slice_get (y ∷ ys) i ≡ Some x →
        (p : ℕ) × ((if b then Some 0 else option_map (λ q. q + 1) (place_in x ys)) ≡ Some p)
    by rest true e i h = (0, refl)
    by rest false e zero h = absurd (false≢true (sym e ∙ (bytes_eq-Decides x y).1 (cc)))
    by rest false e (suc i) h = let q = rest i h in (q.0 + 1, ap (option_map (λ r. r + 1)) q.1)

-- a life is of the job whose name has a place where it bears that name
module _ (names : List (List ℕ)) (name : List ℕ) (p : ℕ) (at : place_in name names ≡ Some p) where
  same_place : (other : List ℕ) (o : Option ℕ) → place_in other names ≡ o → is_place p o ≡ bytes_eq name other
  same_place other o h = by (bytes_eq name other) refl
    where
      none : (b : Bool) → (b ≡ true → ⊥) → b ≡ false
      none true f = absurd (f refl)
      none false f = refl

      same_number : (q : ℕ) → nat_eq p q ≡ true → p ≡ q
      same_number q e = eqb-true p q e

      here : (o : Option ℕ) → place_in other names ≡ o → is_place p o ≡ true → name ≡ other
      here None h e = absurd (false≢true e)
      here (Some q) h e = place_same name other names p at (h ∙ ap (λ r. Some r) (sym (same_number q e)))

      by : (b : Bool) → bytes_eq name other ≡ b → is_place p o ≡ b
      by true e =
          let q : o ≡ Some p = sym h ∙ ap (λ n. place_in n names) (sym ((bytes_eq-Decides name other).0 e)) ∙ at in
          ap (is_place p) q ∙ eq-eqb p p refl
      by false e = none (is_place p o) (λ t. absurd (false≢true (sym e ∙ (bytes_eq-Decides name other).1 (here o h t))))

  sits_holds : (t : Target) (l : Life) → sits names p t.identity l ≡ holds name t l
  sits_holds t l = ap (λ b. is_open l && (b && is_eq (set_cmp t.identity l.identity))) (same_place (job_name l) (place_in (job_name l) names) refl)

  any_sits : (t : Target) (ls : List Life) → list_any (sits names p t.identity) ls ≡ list_any (holds name t) ls
  any_sits t [] = refl
  any_sits t (l ∷ ls) = ap₂ (λ a b. a || b) (sits_holds t l) (any_sits t ls)

-- the targets without a life, by the held ones
filter_alike : (f g : Target → Bool) → ((t : Target) → f t ≡ g t) → (ts : List Target) → filter f ts ≡ filter g ts
filter_alike f g h [] = refl
filter_alike f g h (t ∷ ts) = ap₂ (λ (b : Bool) zs. if b then t ∷ zs else zs) (h t) (filter_alike f g h ts)

unseated_unheld : (held : Seats) (names : List (List ℕ)) (ls : List Life) (j : InForce) (p : ℕ) → IsHeld held names ls → place_in (name_of j) names ≡ Some p →
    unseated held names j ≡ unheld ls j
unseated_unheld held names ls j p h at =
    filter_alike _ _ (λ (t : Target). ap not (ap (is_seated held t.identity) at ∙ h p t.identity ∙ any_sits names (name_of j) p at t ls)) j.kept

abbrev pub HasPlace : List (List ℕ) → InForce → Type 0
HasPlace names j = (p : ℕ) × (place_in (name_of j) names ≡ Some p)

pub births_alike : (m n : ℕ) (held : Seats) (names : List (List ℕ)) (ls : List Life) (js : List InForce) → IsHeld held names ls →
    All (HasPlace names) js → births_by m n held names js ≡ births m n ls js
births_alike m n held names ls [] h a = refl
births_alike m n held names ls (j ∷ js) h a =
    let here = All-head (HasPlace names) j js a in
    let u = unseated_unheld held names ls j here.0 h here.1 in
    ap₂ (λ (ts : List Target) zs. born_all m n j ts ++ zs) u
    (ap (λ (ts : List Target). births_by m (n + length ts) held names js) u ∙ births_alike m (n + length (unheld ls j)) held names ls js h (All-tail (HasPlace names) j js a))

-- births of one job more
pub births_push : (m n : ℕ) (held : Seats) (names : List (List ℕ)) (js : List InForce) (j : InForce) →
    births_by m n held names (js ++ j ∷ []) ≡ births_by m n held names js ++ born_all m (n + length (births_by m n held names js)) j (unseated held names j)
births_push m n held names [] j = append-nil _ ∙ ap (λ k. born_all m k j (unseated held names j)) (let e : n ≡ n + 0 = omega arith in e)
births_push m n held names (i ∷ is) j =
    let us = unseated held names i in
    let rest = births_by m (n + length us) held names is in
    let count : (n + length us) + length rest ≡ n + length (born_all m n i us ++ rest) =
    (let a = length-append (born_all m n i us) rest in let b = length-born m n i us in omega arith) in
    ap (λ zs. born_all m n i us ++ zs) (births_push m (n + length us) held names is j)
    ∙ sym (append_assoc (born_all m n i us) rest (born_all m ((n + length us) + length rest) j (unseated held names j)))
    ∙ ap (λ k. (born_all m n i us ++ rest) ++ born_all m k j (unseated held names j)) count

pub births_more : (m n : ℕ) (held : Seats) (names : List (List ℕ)) (js : List InForce) (i : ℕ) (j : InForce) (now more : List Life) → i < length js → j ≡ get_or js i j →
    now ≡ births_by m n held names (take i js) → more ≡ now ++ born_all m (n + length now) j (unseated held names j) → more ≡ births_by m n held names (take (i + 1) js)
births_more m n held names js i j now more lt at was e =
    e ∙ ap (λ zs. zs ++ born_all m (n + length zs) j (unseated held names j)) was
    ∙ sym (ap (births_by m n held names) (take_more js i j lt ∙ ap (λ y. take i js ++ y ∷ []) (sym at)) ∙ births_push m n held names (take i js) j)
