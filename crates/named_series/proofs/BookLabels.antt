-- The book of a journal.
use Rattle.std.proofs.Common.{ℕ, ◌+◌, ℤ, Bool, true, false, ◌&&◌, List, [], ◌∷◌, length, All, IfSome, Option, Some, None, ◌==◌}
use Rattle.std.specs.Prelude.{if◌then◌else◌}
use Rattle.std.proofs.lemmas.List.Elements.{All-append, All-cons, All-filter, All-head, All-nil, All-tail}
use Rattle.journal_text.specs.Lines.{number}
use Rattle.journal_text.specs.declared.events.Event.{Event}
use Rattle.journal_text.specs.declared.events.Event.TheVariants.{Load, Targets, Tick, Sweep, Finish, Halt}
use Rattle.outside.specs.declared.replies.Reply.{Reply}
use Rattle.scrape_config.specs.Settings.{is_compatible, is_same}
use Rattle.target_set.specs.declared.targets.Target.{Target}
use Rattle.jobs_in_force.specs.Jobs.{has_target, is_named, job_named}
use Rattle.jobs_in_force.specs.Settings.{settings_of}
use Rattle.jobs_in_force.specs.declared.jobs.InForce.{InForce}
use Rattle.scrape_machine.specs.Lives.{born, is_open, life_gives}
use Rattle.scrape_machine.specs.Machine.{World, beginning, begun, begun_with, births, book_from, book_of, born_all, compared, difference, difference_local, difference_on, finish_local, found, gives, gives_from, is_over, job_local, job_name, lives_from, live_local, live_step, local, new_jobs, or_else, reload_local, step, unheld}
use Rattle.scrape_machine.specs.declared.lives.Difference.TheVariants.{Incompatible, Same, Changed}
use Rattle.scrape_machine.specs.declared.lives.Life.{Life}
use Rattle.scrape_machine.specs.declared.lives.Local.TheVariants.{Nothing, Scan, Answered, Close}
use Rattle.scrape_machine.specs.declared.lives.TicketState.{TicketState}
use Rattle.scrape_machine.specs.declared.lives.TicketState.TheVariants.{NotStarted, Cancelled, Counts}
use Rattle.named_series.specs.Named.{AreLabelled, HasLabels}
use Rattle.named_series.proofs.LabelLemmas.{found-all}
use Rattle.named_series.proofs.ConfLabels.{HasGoodRules}
use Rattle.named_series.proofs.TargetLabels.{TargetLabelled}
use Rattle.named_series.proofs.JobLabels.{InForceLabelled, good-rules, jobs-labels}
use Rattle.named_series.proofs.LifeLabels.{LifeLabelled, LocalGood, after-labels, entries-both, gives-labels}

-- what a load or an update is to a life: its new settings are those of a job in force
module _ (m : ℤ) (jobs : List InForce) (l : Life) where
  compared-good : (old new : InForce) → InForceLabelled new → LocalGood (difference_local m (compared old new))
  compared-good old new h = by (is_compatible old.job.conf new.job.conf) (is_same old.job.conf new.job.conf)
    where
      by : (b c : Bool) →
          LocalGood (difference_local m (if b then (if c then Same else Changed (settings_of new.job)) else Incompatible))
      by true true = tt
      by true false = (good-rules new h).1
      by false c = tt

  difference-good : (new : InForce) → InForceLabelled new → (o : Option InForce) →
      LocalGood (difference_local m (difference_on new o))
  difference-good new h None = tt
  difference-good new h (Some old) = compared-good old new h

  job-good : (o : Option InForce) → IfSome o InForceLabelled → LocalGood (job_local m jobs l o)
  job-good None h = tt
  job-good (Some new) h = by (has_target l.identity new)
    where
      by : (b : Bool) → LocalGood (if b then difference_local m (difference jobs new) else Close m)
      by true = difference-good new h (job_named new.job.conf.job_name jobs)
      by false = tt

  reload-good : (o : Option (List InForce)) → IfSome o (All InForceLabelled) → LocalGood (reload_local m jobs o l)
  reload-good None h = tt
  reload-good (Some news) h = by (is_open l)
    where
      by : (b : Bool) → LocalGood (if b then job_local m jobs l (job_named (job_name l) news) else Nothing)
      by true = job-good (job_named (job_name l) news) (found-all InForceLabelled (is_named (job_name l)) news h)
      by false = tt

scan-good : (m : ℤ) (k : ℕ) (over b : Bool) → LocalGood (if b then Scan m k over else Nothing)
scan-good m k over true = tt
scan-good m k over false = tt

finish-good : (n : ℕ) (took : ℤ) (r : Reply) (s : TicketState) → LocalGood (finish_local n took r s)
finish-good n took r NotStarted = tt
finish-good n took r Cancelled = tt
finish-good n took r (Counts k m) = by (k == n)
  where
    by : (b : Bool) → LocalGood (if b then Answered took r else Nothing)
    by true = tt
    by false = tt

live-good : (w : World) (e : Event) (n : ℕ) (l : Life) → All InForceLabelled w.jobs → LocalGood (live_local w e n l)
live-good w (Load m text) n l h =
    reload-good m w.jobs l (new_jobs w.jobs (Load m text)) (jobs-labels w.jobs (Load m text) h)
live-good w (Targets m name file text) n l h =
    reload-good m w.jobs l (new_jobs w.jobs (Targets m name file text))
    (jobs-labels w.jobs (Targets m name file text) h)
live-good w (Tick m k) n l h = scan-good m (length w.started) (is_over w.jobs l) ((k == n) && is_open l)
live-good w (Sweep m) n l h = tt
live-good w (Finish k took r) n l h = finish-good n took r (found w k)
live-good w (Halt m) n l h = tt

local-good : (w : World) (e : Event) (n : ℕ) (l : Life) → All InForceLabelled w.jobs → LocalGood (local w e n l)
local-good w e n l h = by w.halted
  where
    by : (b : Bool) → LocalGood (if b then Nothing else live_local w e n l)
    by true = tt
    by false = live-good w e n l h

-- the lives that begin
born-labels : (m n : ℕ) (j : InForce) (t : Target) → HasGoodRules j.job → TargetLabelled t →
    LifeLabelled (born m n (settings_of j.job) t)
unfolding born
born-labels m n j t good h = (h, All-nil HasLabels, good.1)

all-born : (m n : ℕ) (j : InForce) (ts : List Target) → HasGoodRules j.job → All TargetLabelled ts →
    All LifeLabelled (born_all m n j ts)
all-born m n j [] good h = All-nil LifeLabelled
all-born m n j (t ∷ ts) good h =
    All-cons LifeLabelled (born m n (settings_of j.job) t) (born_all m (n + 1) j ts)
    (born-labels m n j t good (All-head TargetLabelled t ts h))
    (all-born m (n + 1) j ts good (All-tail TargetLabelled t ts h))

births-labels : (m n : ℕ) (ls : List Life) (js : List InForce) → All InForceLabelled js →
    All LifeLabelled (births m n ls js)
births-labels m n ls [] h = All-nil LifeLabelled
births-labels m n ls (j ∷ js) h =
    let here = All-head InForceLabelled j js h in
    All-append LifeLabelled (born_all m n j (unheld ls j)) (births m (n + length (unheld ls j)) ls js)
    (all-born m n j (unheld ls j) (good-rules j here) (All-filter _ TargetLabelled j.kept here.2))
    (births-labels m (n + length (unheld ls j)) ls js (All-tail InForceLabelled j js h))

with-labels : (m : ℕ) (ls : List Life) (o : Option (List InForce)) → IfSome o (All InForceLabelled) →
    All LifeLabelled (begun_with m ls o)
with-labels m ls None h = All-nil LifeLabelled
with-labels m ls (Some js) h = births-labels m (length ls) ls js h

begun-labels : (jobs : List InForce) (e : Event) (ls : List Life) → IfSome (new_jobs jobs e) (All InForceLabelled) →
    All LifeLabelled (begun jobs e ls)
begun-labels jobs (Load m text) ls h = with-labels (number m) ls (new_jobs jobs (Load m text)) h
begun-labels jobs (Targets m name file text) ls h =
    with-labels (number m) ls (new_jobs jobs (Targets m name file text)) h
begun-labels jobs (Tick m k) ls h = All-nil LifeLabelled
begun-labels jobs (Sweep m) ls h = All-nil LifeLabelled
begun-labels jobs (Finish k took r) ls h = All-nil LifeLabelled
begun-labels jobs (Halt m) ls h = All-nil LifeLabelled

-- a world, whose jobs in force and lives bring in no label without a name
abbrev WorldLabelled : World → Type 0
WorldLabelled w = All InForceLabelled w.jobs × All LifeLabelled w.lives

from-labels : (w : World) (e : Event) → All InForceLabelled w.jobs → (n : ℕ) (ls : List Life) → All LifeLabelled ls →
    All LifeLabelled (lives_from w e n ls)
from-labels w e h n [] a = All-nil LifeLabelled
from-labels w e h n (l ∷ ls) a =
    All-cons LifeLabelled _ (lives_from w e (n + 1) ls)
    (after-labels (local w e n l) l (local-good w e n l h) (All-head LifeLabelled l ls a))
    (from-labels w e h (n + 1) ls (All-tail LifeLabelled l ls a))

jobs-after : (jobs : List InForce) (o : Option (List InForce)) → All InForceLabelled jobs →
    IfSome o (All InForceLabelled) → All InForceLabelled (or_else o jobs)
jobs-after jobs None h k = h
jobs-after jobs (Some news) h k = k

live-labels : (w : World) (e : Event) → WorldLabelled w → WorldLabelled (live_step w e)
live-labels w e h =
    let news = jobs-labels w.jobs e h.0 in
    let old = from-labels w e h.0 0 w.lives h.1 in
    let more = begun-labels w.jobs e (lives_from w e 0 w.lives) news in
    (jobs-after w.jobs (new_jobs w.jobs e) h.0 news, All-append LifeLabelled (lives_from w e 0 w.lives) _ old more)

step-labels : (w : World) (e : Event) → WorldLabelled w → WorldLabelled (step w e)
unfolding step
step-labels w e h = by w.halted
  where
    by : (b : Bool) → WorldLabelled (if b then w else live_step w e)
    by true = h
    by false = live-labels w e h

-- its entries
given-labels : (w : World) (e : Event) (n : ℕ) (ls : List Life) → All LifeLabelled ls →
    AreLabelled (gives_from w e n ls)
given-labels w e n [] a = tt
given-labels w e n (l ∷ ls) a =
    entries-both (life_gives (local w e n l) l) _ (gives-labels (local w e n l) l (All-head LifeLabelled l ls a))
    (given-labels w e (n + 1) ls (All-tail LifeLabelled l ls a))

event-labels : (w : World) (e : Event) → All LifeLabelled w.lives → AreLabelled (gives w e)
unfolding gives
event-labels w e a = given-labels w e 0 w.lives a

from : (w : World) (es : List Event) → WorldLabelled w → AreLabelled (book_from w es)
from w [] h = tt
from w (e ∷ es) h = entries-both (gives w e) _ (event-labels w e h.1) (from (step w e) es (step-labels w e h))

pub book-labels : (es : List Event) → AreLabelled (book_of es)
book-labels es = from beginning es (All-nil InForceLabelled, All-nil LifeLabelled)
