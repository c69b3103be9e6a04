-- An event that is refused leaves each life as it is.
use Rattle.std.proofs.Common.{◌≡◌, ℕ, ℤ, Bool, true, false, not, ◌&&◌, cond, List, length, Some, is_some, Result, Ok, Err, nat_lt, slice_get, refl, sym, ap, ◌∙◌, eqb, eqb-true}
use Rattle.std.proofs.lemmas.Bool.{false≢true}
use Rattle.scrape_config.specs.declared.conf.Group.{Group}
use Rattle.outside.specs.declared.replies.Reply.{Reply}
use Rattle.journal_text.specs.declared.events.Event.{Event}
use Rattle.journal_text.specs.declared.events.Event.TheVariants.{Load, Targets, Tick, Sweep, Finish, Halt}
use Rattle.journal_text.specs.Lines.{number}
use Rattle.jobs_in_force.specs.declared.jobs.Filed.{Filed}
use Rattle.jobs_in_force.specs.declared.jobs.InForce.{InForce}
use Rattle.jobs_in_force.specs.Jobs.{loaded, updated, Unlisted}
use Rattle.scrape_machine.specs.declared.answers.Answer.TheVariants.{NoLife, Busy, NotDue, Halted}
use Rattle.scrape_machine.specs.declared.lives.Life.{Life}
use Rattle.scrape_machine.specs.declared.lives.TicketState.{TicketState}
use Rattle.scrape_machine.specs.declared.lives.TicketState.TheVariants.{NotStarted, Cancelled, Counts}
use Rattle.scrape_machine.specs.declared.lives.Local.TheVariants.{Nothing, Scan}
use Rattle.scrape_machine.specs.Lives.{is_open}
use Rattle.scrape_machine.specs.Machine.{World, after_load, after_update, reload_local, is_over, found, finish_local, live_local, local, due_answer, tick_answer, load_answer, update_answer, finish_answer, live_answer, answer, world_of}
use Rattle.scrape_laws.specs.Undisturbed.{is_refusal, RefusedLaw}
use Rattle.scrape_laws.proofs.UndisturbedLemmas.{world_numbered, Still, still_undisturbed, nothing_still, tick_still}

load_refused : (m : ℤ) (jobs : List InForce) (l : Life) (a b : ℕ) (o : Result (List Filed) _) → is_refusal (load_answer a b o) ≡ true → Still (reload_local m jobs (after_load o) l) l
load_refused m jobs l a b (Err fault) h = nothing_still l
load_refused m jobs l a b (Ok fs) h = absurd (false≢true h)

update_refused : (m : ℤ) (jobs : List InForce) (name file : List ℕ) (l : Life) (a b : ℕ) (o : Result (List Group) Unlisted) → is_refusal (update_answer a b o) ≡ true →
    Still (reload_local m jobs (after_update jobs name file o) l) l
update_refused m jobs name file l a b (Err why) h = nothing_still l
update_refused m jobs name file l a b (Ok groups) h = absurd (false≢true h)

-- a tick of the life
due_taken : (t : ℕ) (over : Bool) → is_refusal (due_answer t over) ≡ true → ⊥
due_taken t true h = false≢true h
due_taken t false h = false≢true h

not_due : (t : ℕ) (over o f p : Bool) → is_refusal (cond (not o) NoLife (cond f Busy (cond p NotDue (due_answer t over)))) ≡ true → (o && (not f && not p)) ≡ false
not_due t over false f p h = refl
not_due t over true true p h = refl
not_due t over true false true h = refl
not_due t over true false false h = absurd (due_taken t over h)

tick_refused : (w : World) (m : ℤ) (k n : ℕ) (l : Life) (b : Bool) → eqb k n ≡ b → slice_get w.lives n ≡ Some l →
    is_refusal (tick_answer w.jobs (number m) (length w.started) (slice_get w.lives k)) ≡ true →
    Still (cond (b && is_open l) (Scan m (length w.started) (is_over w.jobs l)) Nothing) l
tick_refused w m k n l false e at h = nothing_still l
tick_refused w m k n l true e at h =
    let here : slice_get w.lives k ≡ Some l = ap (slice_get w.lives) (eqb-true k n e) ∙ at in
    tick_still m (length w.started) (is_over w.jobs l) l true (is_open l) refl
    (not_due (length w.started) (is_over w.jobs l) (is_open l) (is_some l.schedule.flight) (nat_lt (number m) l.schedule.planned)
    (sym (ap (λ o. is_refusal (tick_answer w.jobs (number m) (length w.started) o)) here) ∙ h))

finish_refused : (w : World) (n : ℕ) (took : ℤ) (r : Reply) (l : Life) (f : TicketState) → is_refusal (finish_answer w took r f) ≡ true → Still (finish_local n took r f) l
finish_refused w n took r l NotStarted h = nothing_still l
finish_refused w n took r l Cancelled h = nothing_still l
finish_refused w n took r l (Counts i m) h = absurd (false≢true h)

live_refused : (w : World) (e : Event) (n : ℕ) (l : Life) → slice_get w.lives n ≡ Some l → is_refusal (live_answer w e) ≡ true → Still (live_local w e n l) l
live_refused w (Load m text) n l at h = load_refused m w.jobs l _ _ (loaded w.jobs text) h
live_refused w (Targets m name file text) n l at h = update_refused m w.jobs name file l _ _ (updated w.jobs name file text) h
live_refused w (Tick m k) n l at h = tick_refused w m k n l (eqb k n) refl at h
live_refused w (Sweep m) n l at h = absurd (false≢true h)
live_refused w (Finish k took r) n l at h = finish_refused w n took r l (found w k) h
live_refused w (Halt m) n l at h = nothing_still l

refused : (w : World) (e : Event) (n : ℕ) (l : Life) → slice_get w.lives n ≡ Some l → is_refusal (answer w e) ≡ true → Still (local w e n l) l
unfolding answer
refused w e n l at h = by w.halted h
  where
    by : (b : Bool) → is_refusal (cond b Halted (live_answer w e)) ≡ true → Still (cond b Nothing (live_local w e n l)) l
    by true h = nothing_still l
    by false h = live_refused w e n l at h

pub refused_law : (journal : List Event) (e : Event) → RefusedLaw journal e
unfolding RefusedLaw
refused_law journal e n l at h = still_undisturbed (world_of journal) e n l (world_numbered journal) at (refused (world_of journal) e n l at h)
