-- When a sweep acts: on one life, on one of some lives, and by its answer.
use Rattle.std.proofs.Common.{◌≡◌, ℕ, ℤ, ◌+◌, ◌<◌, ◌≤◌, List, [], ◌∷◌, ◌++◌, length, take, drop, get_or, Bool, true, false, cond, refl, sym, ap, ap₂, ◌∙◌, arith, not, ◌&&◌, ◌||◌, pos, ◌^◌, max}
use Rattle.std.specs.Prelude.{Option, Some, None, nat_lt, is_some, filter}
use Rattle.std.specs.List.{list_any}
use Rattle.std.proofs.lemmas.Bool.{false≢true, true≢false}
use Rattle.std.proofs.lemmas.Bool.Decides.{nat_tests}
use Rattle.std.proofs.lemmas.List.{take_more, drop_more}
use Rattle.std.proofs.lemmas.List.Folds.{list_any-append}
use Rattle.journal_text.specs.declared.events.Event.{Event}
use Rattle.journal_text.specs.declared.events.Event.TheVariants.{Sweep}
use Rattle.journal_text.specs.Events.{now_of}
use Rattle.journal_text.specs.Lines.{number}
use Rattle.label_set.specs.declared.texts.Pair.{Pair}
use Rattle.scrape_config.specs.declared.conf.Job.{Job}
use Rattle.jobs_in_force.specs.Settings.{settings_of}
use Rattle.target_set.specs.Requests.{request_of, request_at}
use Rattle.end_of_run.specs.Endings.{due_at}
use Rattle.life_roll.specs.Schedules as schedule
use Rattle.jobs_in_force.specs.declared.jobs.InForce.{InForce}
use Rattle.scrape_machine.specs.declared.answers.Answer.TheVariants.{Halted}
use Rattle.scrape_machine.specs.declared.lives.Life.{Life}
use Rattle.scrape_machine.specs.Lives.{is_open, ends, closed_ends}
use Rattle.scrape_machine.specs.Machine.{World, world_of, answer, live_answer, starts_in, forces_in, is_over}
use Rattle.scrape_steps.specs.Endings.{due_by, ending_by, ending_of, endings_from, waiting, HoldSame}
use Rattle.scrape_steps.specs.Endings.{is_due as is_late}
use Rattle.scrape_steps.proofs.EndingLemmas.{open_due}
use Rattle.scrape_steps.proofs.OrderLemmas.{any_same}
use Rattle.scrape_core.specs.Readers.{did, is_due, acts, due_in, IsWake}
use Rattle.scrape_core.specs.declared.state.State.{State}
use Rattle.scrape_core.specs.Kept.{seen, IsListed}
use Rattle.scrape_core.specs.Wakes.{wake_by, wake_of, sooner, reached, IsFirstBy, IsWakeBy}

-- one of some counts is not 0
some_count : (a b c : ℕ) → Bool
some_count a b c = nat_lt 0 (a + b + c)

count_true : {X : Type 0} (p : X → Bool) (x : X) (xs : List X) → length (filter p (x ∷ xs)) ≡ cond {A = ℕ} (p x) 1 0 + length (filter p xs)
count_true p x xs = of (p x)
  where
    of : (b : Bool) → length (cond b (x ∷ filter p xs) (filter p xs)) ≡ cond {A = ℕ} b 1 0 + length (filter p xs)
    of true = omega arith
    of false = omega arith

-- a life is acted on where a scrape of it starts or is forced, or its ending is taken
one_acts : (due over last rest : Bool) (a b c : ℕ) → rest ≡ nat_lt 0 (a + b + c) →
    ((due || last) || rest) ≡ nat_lt 0 ((cond {A = ℕ} (due && not over) 1 0 + a) + (cond {A = ℕ} (due && over) 1 0 + b) + (cond {A = ℕ} last 1 0 + c))
one_acts true true last rest a b c h = grind (arith, nat_tests)
one_acts true false last rest a b c h = grind (arith, nat_tests)
one_acts false over true rest a b c h = grind (arith, nat_tests)
one_acts false over false rest a b c h = let e : a + b + c ≡ (0 + a) + (0 + b) + (0 + c) = omega arith in h ∙ ap (nat_lt 0) e

pub any_acts : (jobs : List InForce) (m : ℕ) (ls : List Life) →
    list_any (acts m) ls ≡ nat_lt 0 (length (filter (starts_in jobs m) ls) + length (filter (forces_in jobs m) ls) + length (filter (ends m) ls))
any_acts jobs m [] = refl
any_acts jobs m (l ∷ ls) =
    one_acts (schedule.is_due m l.schedule) (is_over jobs l) (ends m l) (list_any (acts m) ls) (length (filter (starts_in jobs m) ls)) (length (filter (forces_in jobs m) ls)) (length (filter (ends m) ls)) (any_acts jobs m ls)
    ∙ sym (λ i. nat_lt 0 (count_true (starts_in jobs m) l ls i + count_true (forces_in jobs m) l ls i + count_true (ends m) l ls i))

-- by the world of a journal
due_live : (w : World) (m : ℕ) → did (live_answer w (Sweep (pos m))) ≡ list_any (acts m) w.lives
due_live w m = sym (any_acts w.jobs m w.lives)

pub due_is : (es : List Event) (m : ℕ) → is_due es m ≡ (not (world_of es).halted && list_any (acts m) (world_of es).lives)
unfolding is_due answer
due_is es m = of (world_of es).halted
  where
    of : (b : Bool) → did (cond b Halted (live_answer (world_of es) (Sweep (pos m)))) ≡ (not b && list_any (acts m) (world_of es).lives)
    of true = refl
    of false = due_live (world_of es) m

-- from when on a life is acted on
open_wake : (l : Life) (n : ℕ) (flight : Bool) → (not flight && not (nat_lt n l.schedule.planned)) ≡ reached n (cond flight None (Some l.schedule.planned))
open_wake l n true = refl
open_wake l n false = refl

closed_wake : (l : Life) (n : ℕ) (c : ℤ) (ended : Bool) → (not ended && not (nat_lt n (due_at l.schedule.planned (number c) l.schedule.interval))) ≡ reached n (cond ended None (Some (due_at l.schedule.planned (number c) l.schedule.interval)))
closed_wake l n c true = refl
closed_wake l n c false = refl

or_false : (b : Bool) → (b || false) ≡ b
or_false true = refl
or_false false = refl

pub acts_by : (l : Life) (n : ℕ) → acts n l ≡ reached n (wake_of l)
acts_by l n = of l.schedule.closed
  where
    of : (o : Option ℤ) → ((not (is_some o) && (not (is_some l.schedule.flight) && not (nat_lt n l.schedule.planned))) || closed_ends n l o) ≡ reached n (wake_by l o)
    of None = or_false (not (is_some l.schedule.flight) && not (nat_lt n l.schedule.planned)) ∙ open_wake l n (is_some l.schedule.flight)
    of (Some c) = closed_wake l n c l.ended

pub sooner_reached : (n : ℕ) (o p : Option ℕ) → (reached n o || reached n p) ≡ reached n (sooner o p)
sooner_reached n None p = refl
sooner_reached n (Some a) None = or_false (not (nat_lt n a))
sooner_reached n (Some a) (Some b) = grind (arith, nat_tests)

-- one more life of a loop
pub more_reached : (lives : List Life) (i n : ℕ) (l : Life) (first next : Option ℕ) → i < length lives → l ≡ get_or lives i l → list_any (acts n) (take i lives) ≡ reached n first → next ≡ sooner first (wake_of l) →
    list_any (acts n) (take (i + 1) lives) ≡ reached n next
more_reached lives i n l first next lt at was now =
    ap (list_any (acts n)) (take_more lives i l lt ∙ ap (λ y. take i lives ++ y ∷ []) (sym at))
    ∙ (list_any-append (acts n) (take i lives) (l ∷ [])
    ∙ (ap₂ (λ a b. a || b) was (or_false (acts n l) ∙ acts_by l n)
    ∙ (sooner_reached n first (wake_of l) ∙ ap (reached n) (sym now))))

-- a sweep acts on a life where it makes a scrape of one that is open, or where an ending that waits is due
or_front : (a b c : Bool) → (a || (b || c)) ≡ ((a || b) || c)
or_front true b c = refl
or_front false b c = refl

or_middle : (a b c : Bool) → (a || (b || c)) ≡ (b || (a || c))
or_middle true true c = refl
or_middle true false c = refl
or_middle false b c = refl

closed_acts : (n k : ℕ) (l : Life) → is_open l ≡ false → acts n l ≡ list_any (is_late n) (ending_of k l)
closed_acts n k l h = of l.schedule.closed h
  where
    by : (due : ℕ) (ended : Bool) → (not ended && not (nat_lt n due)) ≡ list_any (is_late n) (ending_by k (cond ended None (Some due)))
    by due true = refl
    by due false = sym (or_false (not (nat_lt n due)))

    of : (o : Option ℤ) → not (is_some o) ≡ false →
        ((not (is_some o) && (not (is_some l.schedule.flight) && not (nat_lt n l.schedule.planned))) || closed_ends n l o) ≡ list_any (is_late n) (ending_by k (due_by l o))
    of None e = absurd (true≢false e)
    of (Some c) e = by (due_at l.schedule.planned (number c) l.schedule.interval) l.ended

pub acts_parted : (n k : ℕ) (ls : List Life) → list_any (acts n) ls ≡ (list_any (acts n) (filter is_open ls) || list_any (is_late n) (endings_from k ls))
acts_parted n k [] = refl
acts_parted n k (l ∷ ls) = of (acts_parted n (k + 1) ls) (is_open l) refl
  where
    opens : Bool
    opens = list_any (acts n) (filter is_open ls)

    waits : Bool
    waits = list_any (is_late n) (endings_from (k + 1) ls)

    of : list_any (acts n) ls ≡ (opens || waits) → (b : Bool) → is_open l ≡ b → (acts n l || list_any (acts n) ls) ≡ (list_any (acts n) (cond b (l ∷ filter is_open ls) (filter is_open ls)) || list_any (is_late n) (ending_of k l ++ endings_from (k + 1) ls))
    of rest true h =
        ap (λ z. acts n l || z) rest ∙ or_front (acts n l) opens waits
        ∙ ap (λ o. (acts n l || opens) || list_any (is_late n) (ending_by k o ++ endings_from (k + 1) ls)) (sym (open_due l h))
    of rest false h =
        ap₂ (λ y z. y || z) (closed_acts n k l h) rest ∙ or_middle (list_any (is_late n) (ending_of k l)) opens waits
        ∙ ap (λ z. opens || z) (sym (list_any-append (is_late n) (ending_of k l) (endings_from (k + 1) ls)))

pub state_acts : (n : ℕ) (ls : List Life) (waits : List (ℕ × ℕ)) → HoldSame (endings_from 0 ls) waits →
    list_any (acts n) ls ≡ (list_any (acts n) (filter is_open ls) || list_any (is_late n) waits)
state_acts n ls waits h = acts_parted n 0 ls ∙ ap (λ z. list_any (acts n) (filter is_open ls) || z) (any_same (is_late n) (endings_from 0 ls) waits h)

-- of a state before any halt
pub due_parts : (s : State) (n : ℕ) → s.halted ≡ false → IsListed s → due_in s n ≡ (list_any (acts n) (filter is_open s.lives.items) || list_any (is_late n) (waiting s.endings))
due_parts s n live listed = ap (λ b. not b && list_any (acts n) s.lives.items) live ∙ state_acts n s.lives.items (waiting s.endings) listed.1

pub or_first : (a b : Bool) → a ≡ true → a ≡ (a || b)
or_first true b h = refl
or_first false b h = absurd (false≢true h)

pub or_second : (a b : Bool) → a ≡ false → b ≡ (a || b)
or_second true b h = absurd (true≢false h)
or_second false b h = refl

-- one life of those that are left of a loop
pub any_left : (n : ℕ) (ls : List Life) (i : ℕ) (l : Life) → i < length ls → l ≡ get_or ls i l → list_any (acts n) (drop i ls) ≡ (acts n l || list_any (acts n) (drop (i + 1) ls))
any_left n ls i l lt at = ap (list_any (acts n)) (drop_more ls i l lt ∙ ap (λ z. z ∷ drop (i + 1) ls) (sym at))

-- the least moment that has reached the first one
before_first : (n a now m : ℕ) → m ≡ max a now → now ≤ n → n < m → reached n (Some a) ≡ false
before_first n a now m is le lt = grind (arith, nat_tests)

pub wake_some : (a now m : ℕ) → m ≡ max a now → m < 2 ^ 52 → IsFirstBy (λ n. reached n (Some a)) now m
wake_some a now m is small = record {
  later = omega (arith, is);
  small = small;
  due_then = grind (arith, nat_tests);
  least = λ n le lt. before_first n a now m is le lt;
}

pub wake_none : (a now m : ℕ) → m ≡ max a now → 2 ^ 52 ≤ m → IsWakeBy (λ n. reached n (Some a)) now None
wake_none a now m is big n le small = before_first n a now m is le (omega (arith, big, small))

-- by another test that says the same
pub wake_same : (f g : ℕ → Bool) (now : ℕ) (o : Option ℤ) → ((n : ℕ) → g n ≡ f n) → IsWakeBy f now o → IsWakeBy g now o
wake_same f g now None same w = λ n le small. same n ∙ w n le small
wake_same f g now (Some t) same w =
    (w.0, w.1, record { later = (w.2).later; small = (w.2).small; due_then = same w.0 ∙ (w.2).due_then; least = λ n le lt. same n ∙ (w.2).least n le lt })

-- a state and the journal that it is of
pub due_state : (es : List Event) (s : State) (m : ℕ) → seen s ≡ world_of es → due_in s m ≡ is_due es m
due_state es s m is = sym (due_is es m ∙ ap (λ (w : World). not w.halted && list_any (acts m) w.lives) (sym is))

pub wake_state : (es : List Event) (s : State) (o : Option ℤ) → seen s ≡ world_of es → IsWakeBy (due_in s) (now_of es) o → IsWake es o
wake_state es s o is w = wake_same (due_in s) (is_due es) (now_of es) o (λ n. sym (due_state es s n is)) w

-- a request is by settings alone
pub request_settings : (j : Job) (identity : List Pair) → request_of (settings_of j).conf identity ≡ request_of j.conf identity
unfolding request_of request_at
request_settings j identity = refl
