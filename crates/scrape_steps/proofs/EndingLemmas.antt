-- The endings that wait, after an event.
use Rattle.std.proofs.Common.{◌≡◌, ℕ, ℤ, zero, suc, ◌+◌, ◌<◌, Bool, true, false, not, ◌&&◌, ◌||◌, cond, List, [], ◌∷◌, ◌++◌, map, length, get_or, set, refl, sym, ap, ap₂, ◌∙◌, arith, append_assoc, sum_by, subst}
use Rattle.std.specs.Prelude.{All, Option, Some, None, is_some, nat_lt, filter, slice_get}
use Rattle.std.specs.List.Sorted.{IsNonDecreasing}
use Rattle.std.proofs.lemmas.Bool.{false≢true}
use Rattle.std.proofs.lemmas.List.Elements.{All-head, All-tail, filter-append}
use Rattle.std.proofs.lemmas.List.Sums.{sum_by-append}
use Rattle.journal_text.specs.declared.events.Event.TheVariants.{Sweep}
use Rattle.journal_text.specs.Lines.{number}
use Rattle.end_of_run.specs.Endings.{due_at}
use Rattle.jobs_in_force.specs.declared.jobs.InForce.{InForce}
use Rattle.scrape_machine.specs.declared.lives.Life.{Life}
use Rattle.scrape_machine.specs.declared.lives.StartedScrape.{StartedScrape}
use Rattle.outside.specs.declared.replies.Reply.{Reply}
use Rattle.scrape_machine.specs.Lives.{is_open, closed_ends, counted, scanned_life, with_ending}
use Rattle.scrape_machine.specs.Machine.{World, world, is_over, lives_from, ticket_in_sweep}
use Rattle.scrape_steps.specs.Reloads.{reload_lives, reload_births, reloaded}
use Rattle.scrape_steps.specs.Concerned.{concerns, places_where}
use Rattle.scrape_steps.specs.Endings.{due_by, due_of, ending_by, ending_of, endings_from, ending_there, endings_at, is_due, is_early, life_of, HoldSame}
use Rattle.scrape_steps.proofs.ListedLemmas.{StayShut, IsBegun, births_begun, reload_stays, scanned_closed}
use Rattle.scrape_steps.proofs.OrderLemmas.{IsUp, up_weaker, up_from, up_rises, rising_same, same_passing, same_mapped, same_parted}
use Rattle.scrape_steps.proofs.SweptLemmas.{get_after, one_longer}

-- of an open life none waits
pub open_due : (l : Life) → is_open l ≡ true → due_of l ≡ None
open_due l h = of l.schedule.closed h
  where
    of : (o : Option ℤ) → not (is_some o) ≡ true → due_by l o ≡ None
    of None k = refl
    of (Some c) k = absurd (false≢true k)

-- nor is that of a closed one put off by a scrape of it that ended
pub counted_due : (l : Life) (took : ℤ) (r : Reply) → due_of (counted l took r) ≡ due_of l
counted_due l took r = of l.schedule.closed
  where
    of : (o : Option ℤ) → due_by (counted l took r) o ≡ due_by l o
    of None = refl
    of (Some c) = refl

open_waits : (n : ℕ) (l : Life) → is_open l ≡ true → ending_of n l ≡ []
open_waits n l h = ap (ending_by n) (open_due l h)

-- a change of one life whose ending waits after it as before
pub endings_set : (n : ℕ) (ls : List Life) (k : ℕ) (x y : Life) → k < length ls → x ≡ get_or ls k x → due_of y ≡ due_of x → endings_from n (set ls k y) ≡ endings_from n ls
endings_set n [] k x y lt at h = absurd (omega arith)
endings_set n (l ∷ ls) zero x y lt at h = ap (λ o. ending_by n o ++ endings_from (n + 1) ls) (h ∙ ap due_of at)
endings_set n (l ∷ ls) (suc k) x y lt at h = ap (λ zs. ending_of n l ++ zs) (endings_set (n + 1) ls k x y (omega arith) at h)

-- a load or an update: the endings of those that it closes join
joined_after : (f : ℕ × ℕ → ℕ) (n : ℕ) (front ls ks : List Life) → n ≡ length front → StayShut ls ks →
    sum_by f (endings_at (front ++ ks) (places_where is_open n ls)) + sum_by f (endings_from n ls) ≡ sum_by f (endings_from n ks)
joined_after f n front [] [] e s = refl
joined_after f n front [] (k ∷ ks) e s = absurd s
joined_after f n front (l ∷ ls) [] e s = absurd s
joined_after f n front (l ∷ ls) (k ∷ ks) e s =
    of (is_open l) refl
    (ap (λ zs. sum_by f (endings_at zs (places_where is_open (n + 1) ls)) + sum_by f (endings_from (n + 1) ls)) (sym (append_assoc front (k ∷ []) ks))
    ∙ joined_after f (n + 1) (front ++ k ∷ []) ls ks (one_longer n front k e) s.1)
  where
    zs : List Life
    zs = front ++ k ∷ ks

    later : List ℕ
    later = places_where is_open (n + 1) ls

    here : ending_there n (slice_get zs n) ≡ ending_of n k
    here = ap (ending_there n) (ap (slice_get zs) e ∙ get_after front k ks)

    of : (b : Bool) → is_open l ≡ b → sum_by f (endings_at zs later) + sum_by f (endings_from (n + 1) ls) ≡ sum_by f (endings_from (n + 1) ks) →
        sum_by f (endings_at zs (cond b (n ∷ later) later)) + sum_by f (ending_of n l ++ endings_from (n + 1) ls) ≡ sum_by f (ending_of n k ++ endings_from (n + 1) ks)
    of true h rest =
        let a : sum_by f (ending_there n (slice_get zs n) ++ endings_at zs later) ≡ sum_by f (ending_of n k) + sum_by f (endings_at zs later) =
        sum_by-append f (ending_there n (slice_get zs n)) (endings_at zs later) ∙ ap (λ ys. sum_by f ys + sum_by f (endings_at zs later)) here in
        let b : sum_by f (ending_of n l ++ endings_from (n + 1) ls) ≡ sum_by f (endings_from (n + 1) ls) = ap (λ ys. sum_by f (ys ++ endings_from (n + 1) ls)) (open_waits n l h) in
        let d : sum_by f (ending_of n k ++ endings_from (n + 1) ks) ≡ sum_by f (ending_of n k) + sum_by f (endings_from (n + 1) ks) = sum_by-append f (ending_of n k) (endings_from (n + 1) ks) in
        omega (arith, a, b, d, rest)
    of false h rest =
        let b : sum_by f (ending_of n l ++ endings_from (n + 1) ls) ≡ sum_by f (ending_of n l) + sum_by f (endings_from (n + 1) ls) = sum_by-append f (ending_of n l) (endings_from (n + 1) ls) in
        let d : sum_by f (ending_of n k ++ endings_from (n + 1) ks) ≡ sum_by f (ending_of n k) + sum_by f (endings_from (n + 1) ks) = sum_by-append f (ending_of n k) (endings_from (n + 1) ks) in
        let same : sum_by f (ending_of n k) ≡ sum_by f (ending_of n l) = ap (λ y. sum_by f (ending_of n y)) (s.0 h) in
        omega (arith, b, d, same, rest)

endings_append : (n : ℕ) (ls ks : List Life) → endings_from n (ls ++ ks) ≡ endings_from n ls ++ endings_from (n + length ls) ks
endings_append n [] ks = let e : n ≡ n + 0 = omega arith in ap (λ i. endings_from i ks) e
endings_append n (l ∷ ls) ks =
    let e : (n + 1) + length ls ≡ n + suc (length ls) = omega arith in
    ap (λ zs. ending_of n l ++ zs) (endings_append (n + 1) ls ks ∙ ap (λ i. endings_from (n + 1) ls ++ endings_from i ks) e)
    ∙ sym (append_assoc (ending_of n l) (endings_from (n + 1) ls) (endings_from (n + suc (length ls)) ks))

begun_waits : (n : ℕ) (ls : List Life) → All IsBegun ls → endings_from n ls ≡ []
begun_waits n [] a = refl
begun_waits n (l ∷ ls) a =
    ap (λ (o : Option ℤ). ending_by n (due_by l o) ++ endings_from (n + 1) ls) (All-head IsBegun l ls a) ∙ begun_waits (n + 1) ls (All-tail IsBegun l ls a)

pub reload_endings : (m : ℤ) (news : List InForce) (w : World) (had more now : List (ℕ × ℕ)) → HoldSame (endings_from 0 w.lives) had →
    HoldSame (more ++ had) now → more ≡ endings_at (reload_lives m news w) (places_where is_open 0 w.lives) → HoldSame (endings_from 0 (reloaded m news w).lives) now
reload_endings m news w had more now was is all f =
    let ls = reload_lives m news w in
    let ks = reload_births m news w in
    let none : endings_from (0 + length ls) ks ≡ [] = begun_waits (0 + length ls) ks (births_begun (number m) (length w.lives) ls news) in
    let a : sum_by f (endings_from 0 (ls ++ ks)) ≡ sum_by f (endings_from 0 ls) + sum_by f (endings_from (0 + length ls) ks) =
    ap (sum_by f) (endings_append 0 ls ks) ∙ sum_by-append f (endings_from 0 ls) (endings_from (0 + length ls) ks) in
    let b : sum_by f (endings_from (0 + length ls) ks) ≡ 0 = ap (sum_by f) none in
    let d = joined_after f 0 [] w.lives ls refl (reload_stays m w.jobs news w.lives) in
    let e : sum_by f more ≡ sum_by f (endings_at ls (places_where is_open 0 w.lives)) = ap (sum_by f) all in
    omega (arith, a, b, d, e, was f, is f, sum_by-append f more had)

-- a sweep: the endings that are due leave
scanned_waits : (m : ℤ) (k : ℕ) (over : Bool) (n : ℕ) (l : Life) → ending_of n (scanned_life m k over l l.schedule.closed) ≡ filter (is_early (number m)) (ending_of n l)
scanned_waits m k over n l =
    ap (λ (o : Option ℤ). ending_by n (due_by (scanned_life m k over l l.schedule.closed) o)) (scanned_closed m k over l l.schedule.closed) ∙ of l.schedule.closed
  where
    by : (c : ℤ) (e b : Bool) → nat_lt (number m) (due_at l.schedule.planned (number c) l.schedule.interval) ≡ b → l.ended ≡ e →
        ending_by n (due_by (cond (not e && not b) (with_ending l) l) (Some c)) ≡ filter (is_early (number m)) (ending_by n (cond e None (Some (due_at l.schedule.planned (number c) l.schedule.interval))))
    by c true b h g = ap (λ z. ending_by n (cond z None (Some (due_at l.schedule.planned (number c) l.schedule.interval)))) g
    by c false true h g =
        ap (λ z. ending_by n (cond z None (Some (due_at l.schedule.planned (number c) l.schedule.interval)))) g
        ∙ ap (λ z. cond z ((due_at l.schedule.planned (number c) l.schedule.interval, n) ∷ []) []) (sym h)
    by c false false h g = ap (λ z. cond z ((due_at l.schedule.planned (number c) l.schedule.interval, n) ∷ []) []) (sym h)

    of : (o : Option ℤ) → ending_by n (due_by (scanned_life m k over l o) o) ≡ filter (is_early (number m)) (ending_by n (due_by l o))
    of None = refl
    of (Some c) = by c l.ended (nat_lt (number m) (due_at l.schedule.planned (number c) l.schedule.interval)) refl refl

swept_from : (jobs : List InForce) (all : List Life) (ss : List StartedScrape) (m : ℤ) (n : ℕ) (ls : List Life) →
    endings_from n (lives_from (world jobs all ss) (Sweep m) n ls) ≡ filter (is_early (number m)) (endings_from n ls)
swept_from jobs all ss m n [] = refl
swept_from jobs all ss m n (l ∷ ls) =
    ap₂ (λ (xs ys : List (ℕ × ℕ)). xs ++ ys) (scanned_waits m (ticket_in_sweep (world jobs all ss) (number m) n) (is_over jobs l) n l) (swept_from jobs all ss m (n + 1) ls)
    ∙ sym (filter-append (is_early (number m)) (ending_of n l) (endings_from (n + 1) ls))

pub sweep_endings : (jobs : List InForce) (ls : List Life) (ss : List StartedScrape) (m : ℤ) (had left : List (ℕ × ℕ)) → HoldSame (endings_from 0 ls) had →
    HoldSame (filter (is_early (number m)) had) left → HoldSame (endings_from 0 (lives_from (world jobs ls ss) (Sweep m) 0 ls)) left
sweep_endings jobs ls ss m had left was is f =
    ap (sum_by f) (swept_from jobs ls ss m 0 ls) ∙ same_passing (is_early (number m)) (endings_from 0 ls) had was f ∙ is f

-- the places of the lives that a sweep concerns
abbrev pub due_lives : ℕ → ℕ → List Life → List ℕ
due_lives m n ls = map life_of (filter (is_due m) (endings_from n ls))

due_first : (m n : ℕ) (l : Life) (ls : List Life) → due_lives m n (l ∷ ls) ≡ map life_of (filter (is_due m) (ending_of n l)) ++ due_lives m (n + 1) ls
due_first m n l ls = ap (map life_of) (filter-append (is_due m) (ending_of n l) (endings_from (n + 1) ls)) ∙ joined (filter (is_due m) (ending_of n l)) (filter (is_due m) (endings_from (n + 1) ls))
  where
    joined : (xs ys : List (ℕ × ℕ)) → map life_of (xs ++ ys) ≡ map life_of xs ++ map life_of ys
    joined [] ys = refl
    joined (x ∷ xs) ys = ap (λ zs. life_of x ∷ zs) (joined xs ys)

-- of a life its own place, where the sweep concerns it
own_place : (m : ℤ) (n : ℕ) (l : Life) → cond (is_open l) (n ∷ []) [] ++ map life_of (filter (is_due (number m)) (ending_of n l)) ≡ cond (concerns (Some m) l) (n ∷ []) []
own_place m n l = of l.schedule.closed
  where
    by : (due : ℕ) (e b : Bool) → nat_lt (number m) due ≡ b → map life_of (filter (is_due (number m)) (ending_by n (cond e None (Some due)))) ≡ cond (not e && not b) (n ∷ []) []
    by due true b h = refl
    by due false true h = ap (λ z. map life_of (cond (not z) ((due, n) ∷ []) [])) h
    by due false false h = ap (λ z. map life_of (cond (not z) ((due, n) ∷ []) [])) h

    of : (o : Option ℤ) → cond (not (is_some o)) (n ∷ []) [] ++ map life_of (filter (is_due (number m)) (ending_by n (due_by l o))) ≡ cond (not (is_some o) || closed_ends (number m) l o) (n ∷ []) []
    of None = refl
    of (Some c) =
        by (due_at l.schedule.planned (number c) l.schedule.interval) l.ended (nat_lt (number m) (due_at l.schedule.planned (number c) l.schedule.interval)) refl

one_more : (p : Life → Bool) (f : ℕ → ℕ) (n : ℕ) (l : Life) (ls : List Life) →
    sum_by f (places_where p n (l ∷ ls)) ≡ sum_by f (cond (p l) (n ∷ []) []) + sum_by f (places_where p (n + 1) ls)
one_more p f n l ls = of (p l)
  where
    of : (b : Bool) → sum_by f (cond b (n ∷ places_where p (n + 1) ls) (places_where p (n + 1) ls)) ≡ sum_by f (cond b (n ∷ []) []) + sum_by f (places_where p (n + 1) ls)
    of true = sum_by-append f (n ∷ []) (places_where p (n + 1) ls)
    of false = sum_by-append f [] (places_where p (n + 1) ls)

concerned_sum : (m : ℤ) (f : ℕ → ℕ) (n : ℕ) (ls : List Life) →
    sum_by f (places_where is_open n ls) + sum_by f (due_lives (number m) n ls) ≡ sum_by f (places_where (concerns (Some m)) n ls)
concerned_sum m f n [] = refl
concerned_sum m f n (l ∷ ls) =
    let own : sum_by f (cond (is_open l) (n ∷ []) []) + sum_by f (map life_of (filter (is_due (number m)) (ending_of n l))) ≡ sum_by f (cond (concerns (Some m) l) (n ∷ []) []) =
    sym (sum_by-append f (cond (is_open l) (n ∷ []) []) (map life_of (filter (is_due (number m)) (ending_of n l)))) ∙ ap (sum_by f) (own_place m n l) in
    let due : sum_by f (due_lives (number m) n (l ∷ ls)) ≡ sum_by f (map life_of (filter (is_due (number m)) (ending_of n l))) + sum_by f (due_lives (number m) (n + 1) ls) =
    ap (sum_by f) (due_first (number m) n l ls) ∙ sum_by-append f (map life_of (filter (is_due (number m)) (ending_of n l))) (due_lives (number m) (n + 1) ls) in
    omega (arith, own, due, one_more is_open f n l ls, one_more (concerns (Some m)) f n l ls, concerned_sum m f (n + 1) ls)

-- places rise
places_up : (p : Life → Bool) (n : ℕ) (ls : List Life) → IsUp n (places_where p n ls)
places_up p n [] = tt
places_up p n (l ∷ ls) = of (p l) (places_up p (n + 1) ls)
  where
    of : (b : Bool) → IsUp (n + 1) (places_where p (n + 1) ls) → IsUp n (cond b (n ∷ places_where p (n + 1) ls) (places_where p (n + 1) ls))
    of true u = (omega arith, up_weaker n (n + 1) (places_where p (n + 1) ls) (omega arith) u)
    of false u = up_weaker n (n + 1) (places_where p (n + 1) ls) (omega arith) u

pub places_rise : (p : Life → Bool) (ls : List Life) (ps : List ℕ) → ps ≡ places_where p 0 ls → IsNonDecreasing ps
places_rise p ls ps h = up_rises 0 ps (subst (IsUp 0) (sym h) (places_up p 0 ls))

-- the places of the open lives and of those whose endings are due, in order
pub swept_are : (m : ℤ) (ls : List Life) (due : List (ℕ × ℕ)) (opens ps : List ℕ) → opens ≡ places_where is_open 0 ls → HoldSame (filter (is_due (number m)) (endings_from 0 ls)) due →
    HoldSame (opens ++ map life_of due) ps → IsNonDecreasing ps → ps ≡ places_where (concerns (Some m)) 0 ls
swept_are m ls due opens ps is took all up =
    rising_same 0 0 ps (places_where (concerns (Some m)) 0 ls) (up_from 0 ps (λ d lt. omega arith) up) (places_up (concerns (Some m)) 0 ls)
    (λ f.
    let a : sum_by f opens ≡ sum_by f (places_where is_open 0 ls) = ap (sum_by f) is in
    let b : sum_by f (due_lives (number m) 0 ls) ≡ sum_by f (map life_of due) = same_mapped life_of (filter (is_due (number m)) (endings_from 0 ls)) due took f in
    omega (arith, a, b, all f, sum_by-append f opens (map life_of due), concerned_sum m f 0 ls))

-- the endings that a sweep takes out, and those that wait again where it is refused
pub due_are : (n m : ℕ) (all waits due : List (ℕ × ℕ)) → n ≡ m → HoldSame all waits → HoldSame (filter (is_due n) waits) due → HoldSame (filter (is_due m) all) due
due_are n m all waits due e was took f = same_passing (is_due m) all waits was f ∙ sym (ap (λ k. sum_by f (filter (is_due k) waits)) e) ∙ took f

pub back_again : (m : ℕ) (all waits due left now : List (ℕ × ℕ)) → HoldSame all waits → HoldSame (filter (is_due m) waits) due → HoldSame (filter (is_early m) waits) left →
    HoldSame (due ++ left) now → HoldSame all now
back_again m all waits due left now was took rest is f =
    let late : sum_by f (filter (λ e. not (is_early m e)) waits) ≡ sum_by f (filter (is_due m) waits) = refl in
    omega (arith, was f, same_parted (is_early m) waits f, late, took f, rest f, is f, sum_by-append f due left)
