-- Which events are nothing to a life.
use Rattle.std.proofs.Common.{◌≡◌, ℕ, ℤ, Bool, true, false, not, ◌&&◌, ◌||◌, cond, List, [], ◌∷◌, Option, Some, None, is_some, slice_get, refl, sym, ap, ap₂, ◌∙◌, eqb, eqb-true, length}
use Rattle.std.proofs.lemmas.Bool.{false≢true, and_left}
use Rattle.std.proofs.lemmas.Slice.Eq.{bytes_eq-Decides}
use Rattle.outside.specs.declared.replies.Reply.{Reply}
use Rattle.scrape_config.specs.declared.conf.JobConf.{JobConf}
use Rattle.scrape_config.specs.Settings.{is_compatible, is_same}
use Rattle.journal_text.specs.declared.events.Event.{Event}
use Rattle.journal_text.specs.declared.events.Event.TheVariants.{Load, Targets, Tick, Sweep, Finish, Halt}
use Rattle.life_roll.specs.Flights.{is_flight}
use Rattle.life_roll.specs.declared.schedule.InFlight.{InFlight}
use Rattle.jobs_in_force.specs.declared.jobs.InForce.{InForce}
use Rattle.jobs_in_force.specs.Jobs.{is_named, job_named, has_target}
use Rattle.jobs_in_force.specs.Settings.{settings_of}
use Rattle.scrape_machine.specs.declared.lives.Life.{Life}
use Rattle.scrape_machine.specs.declared.lives.StartedScrape.{StartedScrape}
use Rattle.scrape_machine.specs.declared.lives.TicketState.TheVariants.{NotStarted, Cancelled, Counts}
use Rattle.scrape_machine.specs.declared.lives.Local.{Local}
use Rattle.scrape_machine.specs.declared.lives.Local.TheVariants.{Nothing, Scan, Answered, Change, Close}
use Rattle.scrape_machine.specs.declared.lives.Difference.TheVariants.{Incompatible, Same, Changed}
use Rattle.scrape_machine.specs.Lives.{is_open}
use Rattle.scrape_machine.specs.Machine.{World, new_jobs, job_name, difference, difference_on, compared, difference_local, job_local, reload_local, is_over, found_flight, found_life, found_start, finish_local, live_local, local}
use Rattle.scrape_laws.specs.Undisturbed.{has_same_settings, keeps_target, leaves_open, spares, is_awaited_of, live_is_nothing, is_nothing, NothingLaw}
use Rattle.scrape_laws.proofs.WorldLemmas.{same_some}

-- it is nothing
abbrev pub is_none : Local → Bool
is_none Nothing = true
is_none (Scan m t over) = false
is_none (Answered took r) = false
is_none (Change m s) = false
is_none (Close m) = false

none_nothing : (loc : Local) → is_none loc ≡ true → loc ≡ Nothing
none_nothing Nothing h = refl
none_nothing (Scan m t over) h = absurd (false≢true h)
none_nothing (Answered took r) h = absurd (false≢true h)
none_nothing (Change m s) h = absurd (false≢true h)
none_nothing (Close m) h = absurd (false≢true h)

-- a job that was found has the name
named : (name : List ℕ) (jobs : List InForce) (j : InForce) → job_named name jobs ≡ Some j → name ≡ j.job.conf.job_name
named name [] j e = absurd (false≢true (ap is_some e))
named name (i ∷ js) j e = by (named name js j) (is_named name i) refl e
  where
    by : (job_named name js ≡ Some j → name ≡ j.job.conf.job_name) → (b : Bool) → is_named name i ≡ b → cond b (Some i) (job_named name js) ≡ Some j → name ≡ j.job.conf.job_name
    by rest true h e = (bytes_eq-Decides name i.job.conf.job_name).0 h ∙ ap (λ (z : InForce). z.job.conf.job_name) (same_some i j e)
    by rest false h e = rest e

-- the settings
same_reaches : (a b : JobConf) → is_compatible a b ≡ false → is_same a b ≡ false
unfolding is_same
same_reaches a b h = and_left (is_compatible a b) _ h

compared_none : (m : ℤ) (before after : InForce) (b q : Bool) → is_compatible before.job.conf after.job.conf ≡ b → is_same before.job.conf after.job.conf ≡ q →
    is_none (difference_local m (compared before after)) ≡ q
compared_none m before after true true c s = ap₂ (λ y z. is_none (difference_local m (cond y (cond z Same (Changed (settings_of after.job))) Incompatible))) c s
compared_none m before after true false c s = ap₂ (λ y z. is_none (difference_local m (cond y (cond z Same (Changed (settings_of after.job))) Incompatible))) c s
compared_none m before after false true c s = absurd (false≢true (sym (same_reaches before.job.conf after.job.conf c) ∙ s))
compared_none m before after false false c s = ap (λ y. is_none (difference_local m (cond y (cond (is_same before.job.conf after.job.conf) Same (Changed (settings_of after.job))) Incompatible))) c

difference_none : (m : ℤ) (o : Option InForce) (after : InForce) → is_none (difference_local m (difference_on after o)) ≡ has_same_settings o (Some after)
difference_none m None after = refl
difference_none m (Some before) after = compared_none m before after (is_compatible before.job.conf after.job.conf) (is_same before.job.conf after.job.conf) refl refl

job_none : (m : ℤ) (jobs : List InForce) (l : Life) (o : Option InForce) → ((after : InForce) → o ≡ Some after → job_name l ≡ after.job.conf.job_name) →
    is_none (job_local m jobs l o) ≡ (keeps_target l o && has_same_settings (job_named (job_name l) jobs) o)
job_none m jobs l None h = refl
job_none m jobs l (Some after) h = by (has_target l.identity after)
  where
    by : (b : Bool) → is_none (cond b (difference_local m (difference jobs after)) (Close m)) ≡ (b && has_same_settings (job_named (job_name l) jobs) (Some after))
    by true =
        ap (λ name. is_none (difference_local m (difference_on after (job_named name jobs)))) (sym (h after refl)) ∙ difference_none m (job_named (job_name l) jobs) after
    by false = refl

reload_none : (m : ℤ) (jobs : List InForce) (o : Option (List InForce)) (l : Life) → is_none (reload_local m jobs o l) ≡ spares jobs o l
reload_none m jobs None l = refl
reload_none m jobs (Some news) l = by (is_open l)
  where
    by : (b : Bool) → is_none (cond b (job_local m jobs l (job_named (job_name l) news)) Nothing) ≡ (not b || leaves_open jobs news l)
    by true = job_none m jobs l (job_named (job_name l) news) (λ after e. named (job_name l) news after e)
    by false = refl

-- a tick
tick_none : (m : ℤ) (t : ℕ) (over b q : Bool) → is_none (cond (b && q) (Scan m t over) Nothing) ≡ (not b || not q)
tick_none m t over true true = refl
tick_none m t over true false = refl
tick_none m t over false q = refl

-- a finish
module _ (n k : ℕ) (took : ℤ) (r : Reply) (ls : List Life) (l : Life) (at : slice_get ls n ≡ Some l) where
  counts_none : (i : ℕ) (m : ℤ) (b : Bool) → eqb i n ≡ b → is_none (finish_local n took r (Counts i m)) ≡ not b
  counts_none i m true e = ap (λ z. is_none (cond z (Answered took r) Nothing)) e
  counts_none i m false e = ap (λ z. is_none (cond z (Answered took r) Nothing)) e

  flight_none : (i : ℕ) (o : Option InFlight) → eqb i n ≡ true → is_none (finish_local n took r (found_flight k i o)) ≡ not (is_flight k o)
  flight_none i None e = refl
  flight_none i (Some f) e = by (eqb f.ticket k)
    where
      by : (b : Bool) → is_none (finish_local n took r (cond b (Counts i f.moment) Cancelled)) ≡ not b
      by true = counts_none i f.moment true e
      by false = refl

  other_flight : (i : ℕ) (o : Option InFlight) → eqb i n ≡ false → is_none (finish_local n took r (found_flight k i o)) ≡ true
  other_flight i None e = refl
  other_flight i (Some f) e = by (eqb f.ticket k)
    where
      by : (b : Bool) → is_none (finish_local n took r (cond b (Counts i f.moment) Cancelled)) ≡ true
      by true = counts_none i f.moment false e
      by false = refl

  other_found : (i : ℕ) (o : Option Life) → eqb i n ≡ false → is_none (finish_local n took r (found_life k i o)) ≡ true
  other_found i None e = refl
  other_found i (Some p) e = other_flight i p.schedule.flight e

  life_none : (i : ℕ) (b : Bool) → eqb i n ≡ b → is_none (finish_local n took r (found_life k i (slice_get ls i))) ≡ not (b && is_flight k l.schedule.flight)
  life_none i true e =
      ap (λ o. is_none (finish_local n took r (found_life k i o))) (ap (slice_get ls) (eqb-true i n e) ∙ at) ∙ flight_none i l.schedule.flight e
  life_none i false e = other_found i (slice_get ls i) e

  start_none : (o : Option StartedScrape) → is_none (finish_local n took r (found_start ls k o)) ≡ not (is_awaited_of n o && is_flight k l.schedule.flight)
  start_none None = refl
  start_none (Some s) = by s.finished (eqb s.life n) refl
    where
      by : (f b : Bool) → eqb s.life n ≡ b → is_none (finish_local n took r (cond f NotStarted (found_life k s.life (slice_get ls s.life)))) ≡ not ((b && not f) && is_flight k l.schedule.flight)
      by true true e = refl
      by true false e = refl
      by false true e = life_none s.life true e
      by false false e = life_none s.life false e

live_none : (w : World) (e : Event) (n : ℕ) (l : Life) → slice_get w.lives n ≡ Some l → is_none (live_local w e n l) ≡ live_is_nothing w e n l
live_none w (Load m text) n l at = reload_none m w.jobs (new_jobs w.jobs (Load m text)) l
live_none w (Targets m name file text) n l at = reload_none m w.jobs (new_jobs w.jobs (Targets m name file text)) l
live_none w (Tick m k) n l at = tick_none m (length w.started) (is_over w.jobs l) (eqb k n) (is_open l)
live_none w (Sweep m) n l at = refl
live_none w (Finish k took r) n l at = start_none n k took r w.lives l at (slice_get w.started k)
live_none w (Halt m) n l at = refl

pub none_law : (w : World) (e : Event) (n : ℕ) (l : Life) → slice_get w.lives n ≡ Some l → is_none (local w e n l) ≡ is_nothing w e n l
none_law w e n l at = by w.halted
  where
    by : (b : Bool) → is_none (cond b Nothing (live_local w e n l)) ≡ (b || live_is_nothing w e n l)
    by true = refl
    by false = live_none w e n l at

pub nothing_law : (w : World) (e : Event) → NothingLaw w e
unfolding NothingLaw
nothing_law w e n l at = record {
  listed = λ h. none_nothing (local w e n l) (none_law w e n l at ∙ h);
  complete = λ h. sym (none_law w e n l at) ∙ ap is_none h;
}
