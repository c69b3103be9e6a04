-- The places of the open lives, after an event.
use Rattle.std.proofs.Common.{◌≡◌, ℕ, ℤ, zero, suc, ◌+◌, ◌<◌, Bool, true, false, not, cond, List, [], ◌∷◌, ◌++◌, map, length, get_or, set, refl, sym, ap, ap₂, ◌∙◌, arith, append_assoc}
use Rattle.std.specs.Prelude.{All, Option, Some, None, is_some, filter, slice_get}
use Rattle.std.specs.List.{range_with_len}
use Rattle.std.proofs.lemmas.List.Elements.{All-nil, All-cons, All-append, All-head, All-tail}
use Rattle.journal_text.specs.declared.events.Event.TheVariants.{Sweep}
use Rattle.journal_text.specs.Lines.{number}
use Rattle.life_roll.specs.Schedules as schedule
use Rattle.life_roll.specs.declared.schedule.Schedule.{Schedule}
use Rattle.scrape_loop.specs.Tracked.{after_forced}
use Rattle.target_set.specs.declared.targets.Target.{Target}
use Rattle.jobs_in_force.specs.declared.jobs.InForce.{InForce}
use Rattle.jobs_in_force.specs.Settings.{settings_of}
use Rattle.jobs_in_force.specs.Jobs.{job_named}
use Rattle.scrape_machine.specs.declared.lives.Life.{Life}
use Rattle.scrape_machine.specs.declared.lives.StartedScrape.{StartedScrape}
use Rattle.scrape_machine.specs.declared.lives.Local.TheVariants.{Nothing}
use Rattle.scrape_machine.specs.Lives.{is_open, born, ends_at, forces, life_after, scanned_life, with_ending}
use Rattle.scrape_machine.specs.Machine.{World, world, is_over, job_name, job_local, lives_from, ticket_in_sweep, born_all, births, unheld}
use Rattle.scrape_steps.specs.Reloads.{reload_life, reload_lives, reload_births, reloaded}
use Rattle.scrape_steps.specs.Scans.{is_open_life}
use Rattle.scrape_steps.specs.Concerned.{places_where, is_open_place}
use Rattle.scrape_steps.proofs.SweptLemmas.{get_after, one_longer}

-- lives after a change of each that leaves a closed one as it is
abbrev pub StayShut : List Life → List Life → Type 0
StayShut [] [] = Unit {0}
StayShut [] (k ∷ ks) = ⊥
StayShut (l ∷ ls) [] = ⊥
StayShut (l ∷ ls) (k ∷ ks) = (is_open l ≡ false → k ≡ l) × StayShut ls ks

left_after : (n : ℕ) (front ls ks : List Life) → n ≡ length front → StayShut ls ks → filter (is_open_place (front ++ ks)) (places_where is_open n ls) ≡ places_where is_open n ks
left_after n front [] [] e s = refl
left_after n front [] (k ∷ ks) e s = absurd s
left_after n front (l ∷ ls) [] e s = absurd s
left_after n front (l ∷ ls) (k ∷ ks) e s =
    of (is_open l) refl
    (ap (λ zs. filter (is_open_place zs) (places_where is_open (n + 1) ls)) (sym (append_assoc front (k ∷ []) ks)) ∙ left_after (n + 1) (front ++ k ∷ []) ls ks (one_longer n front k e) s.1)
  where
    here : is_open_place (front ++ k ∷ ks) n ≡ is_open k
    here = ap is_open_life (ap (slice_get (front ++ k ∷ ks)) e ∙ get_after front k ks)

    of : (b : Bool) → is_open l ≡ b → filter (is_open_place (front ++ k ∷ ks)) (places_where is_open (n + 1) ls) ≡ places_where is_open (n + 1) ks →
        filter (is_open_place (front ++ k ∷ ks)) (cond b (n ∷ places_where is_open (n + 1) ls) (places_where is_open (n + 1) ls)) ≡ cond (is_open k) (n ∷ places_where is_open (n + 1) ks) (places_where is_open (n + 1) ks)
    of true h rest =
        ap (λ b. cond b (n ∷ filter (is_open_place (front ++ k ∷ ks)) (places_where is_open (n + 1) ls)) (filter (is_open_place (front ++ k ∷ ks)) (places_where is_open (n + 1) ls))) here
        ∙ ap (λ zs. cond (is_open k) (n ∷ zs) zs) rest
    of false h rest = rest ∙ ap (λ b. cond b (n ∷ places_where is_open (n + 1) ks) (places_where is_open (n + 1) ks)) (sym (ap is_open (s.0 h) ∙ h))

pub left_open : (ls ks : List Life) → StayShut ls ks → filter (is_open_place ks) (places_where is_open 0 ls) ≡ places_where is_open 0 ks
left_open ls ks s = left_after 0 [] ls ks refl s

-- a load or an update
shut_reloaded : (m : ℤ) (jobs news : List InForce) (l : Life) → is_open l ≡ false → reload_life m jobs news l ≡ l
shut_reloaded m jobs news l h = ap (λ b. life_after (cond b (job_local m jobs l (job_named (job_name l) news)) Nothing) l) h

pub reload_stays : (m : ℤ) (jobs news : List InForce) (ls : List Life) → StayShut ls (map (reload_life m jobs news) ls)
reload_stays m jobs news [] = tt
reload_stays m jobs news (l ∷ ls) = (λ h. shut_reloaded m jobs news l h, reload_stays m jobs news ls)

-- lives that begin are open
abbrev pub IsBegun : Life → Type 0
IsBegun l = l.schedule.closed ≡ None

born_begun : (m n : ℕ) (j : InForce) (t : Target) → IsBegun (born m n (settings_of j.job) t)
unfolding born
born_begun m n j t = refl

born_all_begun : (m n : ℕ) (j : InForce) (ts : List Target) → All IsBegun (born_all m n j ts)
born_all_begun m n j [] = All-nil IsBegun
born_all_begun m n j (t ∷ ts) = All-cons IsBegun (born m n (settings_of j.job) t) (born_all m (n + 1) j ts) (born_begun m n j t) (born_all_begun m (n + 1) j ts)

pub births_begun : (m n : ℕ) (ls : List Life) (js : List InForce) → All IsBegun (births m n ls js)
births_begun m n ls [] = All-nil IsBegun
births_begun m n ls (j ∷ js) =
    All-append IsBegun (born_all m n j (unheld ls j)) (births m (n + length (unheld ls j)) ls js) (born_all_begun m n j (unheld ls j)) (births_begun m (n + length (unheld ls j)) ls js)

begun_from : (n : ℕ) (ls : List Life) → All IsBegun ls → places_where is_open n ls ≡ range_with_len n (length ls)
begun_from n [] a = refl
begun_from n (l ∷ ls) a =
    ap (λ (o : Option ℤ). cond (not (is_some o)) (n ∷ places_where is_open (n + 1) ls) (places_where is_open (n + 1) ls)) (All-head IsBegun l ls a)
    ∙ ap (λ zs. n ∷ zs) (begun_from (n + 1) ls (All-tail IsBegun l ls a))

places_append : (p : Life → Bool) (n : ℕ) (ls ks : List Life) → places_where p n (ls ++ ks) ≡ places_where p n ls ++ places_where p (n + length ls) ks
places_append p n [] ks = let e : n ≡ n + 0 = omega arith in ap (λ i. places_where p i ks) e
places_append p n (l ∷ ls) ks = of (p l) (places_append p (n + 1) ls ks ∙ ap (λ i. places_where p (n + 1) ls ++ places_where p i ks) (let e : (n + 1) + length ls ≡ n + suc (length ls) = omega arith in e))
  where
    of : (b : Bool) → places_where p (n + 1) (ls ++ ks) ≡ places_where p (n + 1) ls ++ places_where p (n + suc (length ls)) ks →
        cond b (n ∷ places_where p (n + 1) (ls ++ ks)) (places_where p (n + 1) (ls ++ ks)) ≡ cond b (n ∷ places_where p (n + 1) ls) (places_where p (n + 1) ls) ++ places_where p (n + suc (length ls)) ks
    of true e = ap (λ zs. n ∷ zs) e
    of false e = e

-- the places after a load or an update: those that are left, and those of the lives that begin
pub reload_places : (m : ℤ) (news : List InForce) (w : World) (ps : List ℕ) → ps ≡ places_where is_open 0 (reload_lives m news w) →
    ps ++ range_with_len (length (reload_lives m news w)) (length (reload_births m news w)) ≡ places_where is_open 0 (reloaded m news w).lives
reload_places m news w ps h =
    let ls = reload_lives m news w in
    let ks = reload_births m news w in
    ap₂ (λ (xs ys : List ℕ). xs ++ ys) h (sym (begun_from (length ls) ks (births_begun (number m) (length w.lives) ls news)))
    ∙ ap (λ i. places_where is_open 0 ls ++ places_where is_open i ks) (let e : length ls ≡ 0 + length ls = omega arith in e) ∙ sym (places_append is_open 0 ls ks)

-- a sweep closes and opens none
scanned_schedule : (m : ℤ) (k : ℕ) (over : Bool) (s : Schedule) → (schedule.scanned m k over s).closed ≡ s.closed
scanned_schedule m k over s = by (schedule.is_due (number m) s) over
  where
    by : (b q : Bool) → (cond b (cond q (schedule.moved m s) (schedule.started m k s)) s).closed ≡ s.closed
    by true true = refl
    by true false = refl
    by false q = refl

scan_of_open : (m : ℤ) (k : ℕ) (over : Bool) (l : Life) (b : Bool) →
    (cond b (record l { state = after_forced l.state; schedule = schedule.scanned m k over l.schedule }) (record l { schedule = schedule.scanned m k over l.schedule })).schedule.closed ≡ l.schedule.closed
scan_of_open m k over l true = scanned_schedule m k over l.schedule
scan_of_open m k over l false = scanned_schedule m k over l.schedule

scan_of_shut : (l : Life) (b : Bool) → (cond b (with_ending l) l).schedule.closed ≡ l.schedule.closed
scan_of_shut l true = refl
scan_of_shut l false = refl

pub scanned_closed : (m : ℤ) (k : ℕ) (over : Bool) (l : Life) (o : Option ℤ) → (scanned_life m k over l o).schedule.closed ≡ l.schedule.closed
scanned_closed m k over l None = scan_of_open m k over l (forces (number m) over l)
scanned_closed m k over l (Some c) = scan_of_shut l (ends_at (number m) c l)

pub scanned_open : (m : ℤ) (k : ℕ) (over : Bool) (l : Life) (o : Option ℤ) → is_open (scanned_life m k over l o) ≡ is_open l
scanned_open m k over l o = ap (λ (c : Option ℤ). not (is_some c)) (scanned_closed m k over l o)

pub sweep_places : (jobs : List InForce) (all : List Life) (ss : List StartedScrape) (m : ℤ) (n : ℕ) (ls : List Life) →
    places_where is_open n (lives_from (world jobs all ss) (Sweep m) n ls) ≡ places_where is_open n ls
sweep_places jobs all ss m n [] = refl
sweep_places jobs all ss m n (l ∷ ls) =
    ap₂ (λ b zs. cond b (n ∷ zs) zs) (scanned_open m (ticket_in_sweep (world jobs all ss) (number m) n) (is_over jobs l) l l.schedule.closed) (sweep_places jobs all ss m (n + 1) ls)

-- a change of one life that is open after it where it was before
pub places_set : (p : Life → Bool) (n : ℕ) (ls : List Life) (k : ℕ) (x y : Life) → k < length ls → x ≡ get_or ls k x → p y ≡ p x → places_where p n (set ls k y) ≡ places_where p n ls
places_set p n [] k x y lt at h = absurd (omega arith)
places_set p n (l ∷ ls) zero x y lt at h = ap (λ b. cond b (n ∷ places_where p (n + 1) ls) (places_where p (n + 1) ls)) (h ∙ ap p at)
places_set p n (l ∷ ls) (suc k) x y lt at h = ap (λ zs. cond (p l) (n ∷ zs) zs) (places_set p (n + 1) ls k x y (omega arith) at h)
