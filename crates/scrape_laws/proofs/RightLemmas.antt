-- What is known of raw texts is right in each life of a journal.
use Rattle.std.proofs.Common.{◌≡◌, ℕ, ℤ, ◌+◌, Bool, true, false, not, ◌&&◌, cond, List, [], ◌∷◌, Option, Some, None, is_some, length, refl, sym, ap, ◌∙◌, subst, eqb}
use Rattle.std.specs.Prelude.{All}
use Rattle.std.proofs.lemmas.Bool.{false≢true}
use Rattle.std.proofs.lemmas.List.Elements.{All-nil, All-cons, All-head, All-tail, All-append, All-weaker}
use Rattle.journal_text.specs.declared.events.Event.{Event}
use Rattle.journal_text.specs.declared.events.Event.TheVariants.{Load, Targets, Tick, Sweep, Finish, Halt}
use Rattle.journal_text.specs.Lines.{number}
use Rattle.outside.specs.declared.replies.Reply.{Reply}
use Rattle.scrape_config.specs.Settings.{is_compatible, is_same}
use Rattle.scrape_config.specs.declared.conf.Job.{Job}
use Rattle.target_set.specs.declared.targets.Target.{Target}
use Rattle.jobs_in_force.specs.declared.jobs.InForce.{InForce}
use Rattle.jobs_in_force.specs.Jobs.{has_target, job_named}
use Rattle.jobs_in_force.specs.Settings.{settings_of}
use Rattle.life_roll.specs.Schedules as schedule
use Rattle.scrape_loop.specs.Texts.{AreRight, IsRight}
use Rattle.scrape_loop.specs.Tracked.{after_forced}
use Rattle.scrape_loop.proofs.RightLemmas.{forced_right, reply_right}
use Rattle.scrape_machine.specs.declared.lives.Life.{Life}
use Rattle.scrape_machine.specs.declared.lives.TicketState.{TicketState}
use Rattle.scrape_machine.specs.declared.lives.TicketState.TheVariants.{NotStarted, Cancelled, Counts}
use Rattle.scrape_machine.specs.declared.lives.Local.TheVariants.{Nothing, Scan, Answered, Close}
use Rattle.scrape_machine.specs.declared.lives.Difference.TheVariants.{Incompatible, Same, Changed}
use Rattle.scrape_machine.specs.Lives.{is_open, born, forces, ends_at, rules_of, scanned_life, with_ending, counted, changed, closed, life_after, IsRightLife}
use Rattle.scrape_machine.specs.Machine.{World, beginning, new_jobs, job_name, difference_on, difference_local, difference, job_local, reload_local, is_over, ticket_in_sweep, found, finish_local, live_local, local, lives_from, unheld, born_all, births, begun_with, begun, or_else, live_step, step, run, world_of}
use Rattle.scrape_machine.specs.Machine.{name_of}
use Rattle.scrape_laws.proofs.ConfLemmas.{AreSettled}
use Rattle.scrape_laws.proofs.JobLemmas.{jobs_in, jobs_settled, none_settled, found_job, IsOfName, each_of_name, JudgeAlike, compatible_alike, alike_then}
use Rattle.scrape_laws.proofs.LifeLemmas.{scanned_closed}

-- settings judge rows as the job in force, if there is one
abbrev AlikeJob : Job → Option InForce → Type 0
AlikeJob s None = Unit {0}
AlikeJob s (Some j) = JudgeAlike s j.job

-- the life has the extra reports where its job has them
abbrev pub HasExtra : Life → Type 0
HasExtra l = l.state.extra ≡ l.settings.conf.extra_scrape_metrics

-- what is known is right, the life has the reports of its job, and the settings of an open life judge rows as its job in force
record IsSound (jobs : List InForce) (l : Life) : Type 0 where
  pub right : IsRightLife l
  pub extra : HasExtra l
  pub alike : is_open l ≡ true → AlikeJob l.settings (job_named (job_name l) jobs)

closed_sound : (m : ℤ) (jobs : List InForce) (l : Life) → IsRightLife l → HasExtra l → IsSound jobs (closed m l)
closed_sound m jobs l h has = record { right = h; extra = has; alike = λ o. absurd (false≢true o) }

-- a life whose settings stay, and which is open where it was
stays_sound : (jobs : List InForce) (l k : Life) → IsRightLife k → k.state.extra ≡ l.state.extra → k.settings ≡ l.settings → k.schedule.closed ≡ l.schedule.closed →
    IsSound jobs l → IsSound jobs k
stays_sound jobs l k right has same still s = record {
  right = right;
  extra = has ∙ s.extra ∙ ap (λ (z : Job). z.conf.extra_scrape_metrics) (sym same);
  alike = λ o. subst (λ (z : Job). AlikeJob z (job_named z.conf.job_name jobs)) (sym same) (s.alike (sym (ap (λ z. not (is_some z)) still) ∙ o));
}

-- a life whose settings become those of its job
changed_sound : (m : ℤ) (news : List InForce) (l : Life) (j : InForce) → IsRightLife l → HasExtra l → JudgeAlike l.settings j.job → job_named (name_of j) news ≡ Some j →
    IsSound news (changed m (settings_of j.job) l)
changed_sound m news l j right has same is = record {
  right = subst (λ honor. AreRight honor j.job.metric_rules l.state.target l.state.cache.texts) same.0
      (subst (λ metric. AreRight l.settings.conf.honor_labels metric l.state.target l.state.cache.texts) same.1 right);
  extra = has ∙ same.2;
  alike = λ o. subst (AlikeJob (settings_of j.job)) (sym is) (refl, refl, refl);
}

-- a load or an update at m
module _ (m : ℤ) (jobs news : List InForce) (before : AreSettled (jobs_in jobs)) (now : AreSettled (jobs_in news)) (l : Life) (s : IsSound jobs l) (o : is_open l ≡ true) where
  compared_sound : (old new : InForce) → job_named (job_name l) jobs ≡ Some old → job_named (job_name l) news ≡ Some new →
      IsSound news (life_after (difference_local m (difference_on new (Some old))) l)
  compared_sound old new was is = by (is_compatible old.job.conf new.job.conf) (is_same old.job.conf new.job.conf) refl
    where
      p : (job_name l ≡ name_of old) × (old.job.metric_rules ≡ old.job.conf.metric_relabel)
      p = found_job (job_name l) jobs old was before.built

      q : (job_name l ≡ name_of new) × (new.job.metric_rules ≡ new.job.conf.metric_relabel)
      q = found_job (job_name l) news new is now.built

      as_new : is_compatible old.job.conf new.job.conf ≡ true → JudgeAlike l.settings new.job
      as_new e = alike_then l.settings old.job new.job (subst (AlikeJob l.settings) was (s.alike o)) (compatible_alike old.job new.job p.1 q.1 e)

      by : (b c : Bool) → is_compatible old.job.conf new.job.conf ≡ b →
          IsSound news (life_after (difference_local m (cond b (cond c Same (Changed (settings_of new.job))) Incompatible)) l)
      by true true e = record { right = s.right; extra = s.extra; alike = λ h. subst (AlikeJob l.settings) (sym is) (as_new e) }
      by true false e = changed_sound m news l new s.right s.extra (as_new e) (ap (λ (n : List ℕ). job_named n news) (sym q.0) ∙ is)
      by false c e = closed_sound m news l s.right s.extra

  difference_sound : (new : InForce) → job_named (job_name l) news ≡ Some new → IsSound news (life_after (difference_local m (difference jobs new)) l)
  difference_sound new is =
      subst (λ (n : List ℕ). IsSound news (life_after (difference_local m (difference_on new (job_named n jobs))) l)) (found_job (job_name l) news new is now.built).0
      (by (job_named (job_name l) jobs) refl)
    where
      by : (p : Option InForce) → job_named (job_name l) jobs ≡ p → IsSound news (life_after (difference_local m (difference_on new p)) l)
      by None was = closed_sound m news l s.right s.extra
      by (Some old) was = compared_sound old new was is

  job_sound : (p : Option InForce) → job_named (job_name l) news ≡ p → IsSound news (life_after (job_local m jobs l p) l)
  job_sound None is = closed_sound m news l s.right s.extra
  job_sound (Some new) is = by (has_target l.identity new)
    where
      by : (b : Bool) → IsSound news (life_after (cond b (difference_local m (difference jobs new)) (Close m)) l)
      by true = difference_sound new is
      by false = closed_sound m news l s.right s.extra

reload_sound : (m : ℤ) (jobs : List InForce) (p : Option (List InForce)) (l : Life) → AreSettled (jobs_in jobs) → AreSettled (jobs_in (or_else p jobs)) → IsSound jobs l →
    IsSound (or_else p jobs) (life_after (reload_local m jobs p l) l)
reload_sound m jobs None l before now s = s
reload_sound m jobs (Some news) l before now s = by (is_open l) refl
  where
    by : (b : Bool) → is_open l ≡ b → IsSound news (life_after (cond b (job_local m jobs l (job_named (job_name l) news)) Nothing) l)
    by true o = job_sound m jobs news before now l s o (job_named (job_name l) news) refl
    by false o = record { right = s.right; extra = s.extra; alike = λ h. absurd (false≢true (sym o ∙ h)) }

-- a scan
scan_sound : (jobs : List InForce) (m : ℤ) (k : ℕ) (over : Bool) (l : Life) (p : Option ℤ) → IsSound jobs l → IsSound jobs (scanned_life m k over l p)
scan_sound jobs m k over l None s = by (forces (number m) over l)
  where
    by : (b : Bool) → IsSound jobs (cond b (record l { state = after_forced l.state; schedule = schedule.scanned m k over l.schedule }) (record l { schedule = schedule.scanned m k over l.schedule }))
    by true =
        stays_sound jobs l (record l { state = after_forced l.state; schedule = schedule.scanned m k over l.schedule })
        (forced_right l.settings.conf.honor_labels l.settings.metric_rules l.state.target l.state s.right) refl refl (scanned_closed m k over l.schedule) s
    by false = stays_sound jobs l (record l { schedule = schedule.scanned m k over l.schedule }) s.right refl refl (scanned_closed m k over l.schedule) s
scan_sound jobs m k over l (Some c) s = by (ends_at (number m) c l)
  where
    by : (b : Bool) → IsSound jobs (cond b (with_ending l) l)
    by true = stays_sound jobs l (with_ending l) (All-nil (IsRight l.settings.conf.honor_labels l.settings.metric_rules l.state.target)) refl refl refl s
    by false = s

-- a finish
finish_sound : (jobs : List InForce) (n : ℕ) (took : ℤ) (r : Reply) (f : TicketState) (l : Life) → IsSound jobs l → IsSound jobs (life_after (finish_local n took r f) l)
finish_sound jobs n took r NotStarted l s = s
finish_sound jobs n took r Cancelled l s = s
finish_sound jobs n took r (Counts k m) l s = by (eqb k n)
  where
    by : (b : Bool) → IsSound jobs (life_after (cond b (Answered took r) Nothing) l)
    by true = stays_sound jobs l (counted l took r) (reply_right l.state (rules_of l.settings) l.settings.metric_rules r took s.right) refl refl refl s
    by false = s

tick_sound : (jobs : List InForce) (m : ℤ) (k : ℕ) (over : Bool) (l : Life) (b : Bool) → IsSound jobs l → IsSound jobs (life_after (cond b (Scan m k over) Nothing) l)
tick_sound jobs m k over l true s = scan_sound jobs m k over l l.schedule.closed s
tick_sound jobs m k over l false s = s

-- a live event
live_sound : (w : World) (e : Event) (n : ℕ) (l : Life) → AreSettled (jobs_in w.jobs) → IsSound w.jobs l →
    IsSound (or_else (new_jobs w.jobs e) w.jobs) (life_after (live_local w e n l) l)
live_sound w (Load m text) n l h s = reload_sound m w.jobs (new_jobs w.jobs (Load m text)) l h (jobs_settled w.jobs (Load m text) h) s
live_sound w (Targets m name file text) n l h s =
    reload_sound m w.jobs (new_jobs w.jobs (Targets m name file text)) l h (jobs_settled w.jobs (Targets m name file text) h) s
live_sound w (Tick m k) n l h s = tick_sound w.jobs m (length w.started) (is_over w.jobs l) l (eqb k n && is_open l) s
live_sound w (Sweep m) n l h s = scan_sound w.jobs m (ticket_in_sweep w (number m) n) (is_over w.jobs l) l l.schedule.closed s
live_sound w (Finish k took r) n l h s = finish_sound w.jobs n took r (found w k) l s
live_sound w (Halt m) n l h s = s

-- the lives that begin
born_sound : (news : List InForce) (m n : ℕ) (j : InForce) (t : Target) → IsOfName news j → IsSound news (born m n (settings_of j.job) t)
unfolding born
born_sound news m n j t is = record {
  right = All-nil (IsRight j.job.conf.honor_labels j.job.metric_rules t.labels);
  extra = refl;
  alike = λ o. subst (AlikeJob (settings_of j.job)) (sym is) (refl, refl, refl);
}

born_all_sound : (news : List InForce) (m n : ℕ) (j : InForce) (ts : List Target) → IsOfName news j → All (IsSound news) (born_all m n j ts)
born_all_sound news m n j [] is = All-nil (IsSound news)
born_all_sound news m n j (t ∷ ts) is =
    All-cons (IsSound news) (born m n (settings_of j.job) t) (born_all m (n + 1) j ts) (born_sound news m n j t is) (born_all_sound news m (n + 1) j ts is)

births_sound : (news : List InForce) (m n : ℕ) (ls : List Life) (js : List InForce) → All (IsOfName news) js → All (IsSound news) (births m n ls js)
births_sound news m n ls [] h = All-nil (IsSound news)
births_sound news m n ls (j ∷ js) h =
    All-append (IsSound news) (born_all m n j (unheld ls j)) (births m (n + length (unheld ls j)) ls js)
    (born_all_sound news m n j (unheld ls j) (All-head (IsOfName news) j js h))
    (births_sound news m (n + length (unheld ls j)) ls js (All-tail (IsOfName news) j js h))

begun_with_sound : (jobs : List InForce) (m : ℕ) (ls : List Life) (p : Option (List InForce)) → AreSettled (jobs_in (or_else p jobs)) → All (IsSound (or_else p jobs)) (begun_with m ls p)
begun_with_sound jobs m ls None h = All-nil (IsSound jobs)
begun_with_sound jobs m ls (Some news) h = births_sound news m (length ls) ls news (each_of_name news h)

begun_sound : (jobs : List InForce) (e : Event) (ls : List Life) → AreSettled (jobs_in (or_else (new_jobs jobs e) jobs)) → All (IsSound (or_else (new_jobs jobs e) jobs)) (begun jobs e ls)
begun_sound jobs (Load m text) ls h = begun_with_sound jobs (number m) ls (new_jobs jobs (Load m text)) h
begun_sound jobs (Targets m name file text) ls h = begun_with_sound jobs (number m) ls (new_jobs jobs (Targets m name file text)) h
begun_sound jobs (Tick m k) ls h = All-nil (IsSound jobs)
begun_sound jobs (Sweep m) ls h = All-nil (IsSound jobs)
begun_sound jobs (Finish k took r) ls h = All-nil (IsSound jobs)
begun_sound jobs (Halt m) ls h = All-nil (IsSound jobs)

-- a world of settled jobs and sound lives
record IsSoundWorld (w : World) : Type 0 where
  pub jobs : AreSettled (jobs_in w.jobs)
  pub lives : All (IsSound w.jobs) w.lives

lives_sound : (w : World) (e : Event) → w.halted ≡ false → AreSettled (jobs_in w.jobs) → (n : ℕ) (ls : List Life) → All (IsSound w.jobs) ls →
    All (IsSound (or_else (new_jobs w.jobs e) w.jobs)) (lives_from w e n ls)
lives_sound w e live h n [] s = All-nil (IsSound (or_else (new_jobs w.jobs e) w.jobs))
lives_sound w e live h n (l ∷ ls) s =
    All-cons (IsSound (or_else (new_jobs w.jobs e) w.jobs)) (life_after (local w e n l) l) (lives_from w e (n + 1) ls)
    (subst (λ (b : Bool). IsSound (or_else (new_jobs w.jobs e) w.jobs) (life_after (cond b Nothing (live_local w e n l)) l)) (sym live)
    (live_sound w e n l h (All-head (IsSound w.jobs) l ls s)))
    (lives_sound w e live h (n + 1) ls (All-tail (IsSound w.jobs) l ls s))

step_sound : (w : World) (e : Event) → IsSoundWorld w → IsSoundWorld (step w e)
unfolding step
step_sound w e s = by w.halted refl
  where
    by : (b : Bool) → w.halted ≡ b → IsSoundWorld (cond b w (live_step w e))
    by true halt = s
    by false live =
        let now = jobs_settled w.jobs e s.jobs in
        record {
          jobs = now;
          lives = All-append (IsSound (or_else (new_jobs w.jobs e) w.jobs)) (lives_from w e 0 w.lives) (begun w.jobs e (lives_from w e 0 w.lives))
              (lives_sound w e live s.jobs 0 w.lives s.lives) (begun_sound w.jobs e (lives_from w e 0 w.lives) now);
        }

run_sound : (es : List Event) (w : World) → IsSoundWorld w → IsSoundWorld (run w es)
run_sound [] w s = s
run_sound (e ∷ es) w s = run_sound es (step w e) (step_sound w e s)

pub lives_right : (es : List Event) → All IsRightLife (world_of es).lives
lives_right es =
    All-weaker (IsSound (world_of es).jobs) IsRightLife (λ (l : Life) (s : IsSound (world_of es).jobs l). s.right) (world_of es).lives
    (run_sound es beginning (record { jobs = none_settled; lives = All-nil (IsSound []) })).lives

-- each life has the reports of its job
pub lives_extra : (es : List Event) → All HasExtra (world_of es).lives
lives_extra es =
    All-weaker (IsSound (world_of es).jobs) HasExtra (λ (l : Life) (s : IsSound (world_of es).jobs l). s.extra) (world_of es).lives
    (run_sound es beginning (record { jobs = none_settled; lives = All-nil (IsSound []) })).lives
