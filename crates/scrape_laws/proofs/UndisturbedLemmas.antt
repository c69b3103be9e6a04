-- An event that is nothing to a life, and a scan that has no effect on it.
use Rattle.std.proofs.Common.{◌≡◌, ℕ, ℤ, Bool, true, false, not, ◌&&◌, cond, List, [], ◌∷◌, Option, Some, None, is_some, slice_get, refl, sym, ap, subst, ◌∙◌, eqb, ne_eqb, length, pos}
use Rattle.std.specs.List.{filter}
use Rattle.std.proofs.lemmas.Bool.{true≢false, false≢true, and_parts, not-true}
use Rattle.journal_text.specs.declared.events.Event.{Event}
use Rattle.journal_text.specs.declared.events.Event.TheVariants.{Load, Targets, Tick, Sweep, Finish, Halt}
use Rattle.journal_text.specs.Lines.{number}
use Rattle.sample_rows.specs.Outcomes.{forced}
use Rattle.end_of_run.specs.Endings.{ending_entries}
use Rattle.scrape_loop.specs.Tracked.{after_forced}
use Rattle.scrape_loop.specs.Entries.{entries_of, extra_of}
use Rattle.life_roll.specs.Schedules as schedule
use Rattle.scrape_machine.specs.declared.lives.Life.{Life}
use Rattle.scrape_machine.specs.declared.lives.Local.{Local}
use Rattle.scrape_machine.specs.declared.lives.Local.TheVariants.{Nothing, Scan}
use Rattle.scrape_machine.specs.Lives.{is_open, closing_at, closed_ends, ends, rules_of, scanned_life, with_ending, scan_entries, life_after, life_gives}
use Rattle.scrape_machine.specs.Machine.{World, beginning, is_over, ticket_in_sweep, live_local, local, step, run, world_of}
use Rattle.scrape_laws.specs.Undisturbed.{NothingLaw, is_entry_of, IsUndisturbed, UndisturbedLaw, is_idle_scan, IdleLaw}
use Rattle.scrape_laws.proofs.WorldLemmas.{AreNumbered, step_numbered, at_gives, Only, gives_at, after_local, Stays, follows}
use Rattle.scrape_laws.proofs.NothingLemmas.{nothing_law}

-- in a journal's world the lives have the numbers of their places
run_numbered : (es : List Event) (w : World) → AreNumbered 0 w.lives → AreNumbered 0 (run w es).lives
run_numbered [] w h = h
run_numbered (e ∷ es) w h = run_numbered es (step w e) (step_numbered w e h)

pub world_numbered : (journal : List Event) → AreNumbered 0 (world_of journal).lives
world_numbered journal = run_numbered journal beginning tt

pub entry_only : (n : ℕ) → Only (is_entry_of n) n
entry_only n e ne = ne_eqb e.life n ne

-- nothing is done to a life, and nothing given
pub record Still (loc : Local) (l : Life) : Type 0 where
  pub same : life_after loc l ≡ l
  pub none : life_gives loc l ≡ []

pub still_undisturbed : (w : World) (e : Event) (n : ℕ) (l : Life) → AreNumbered 0 w.lives → slice_get w.lives n ≡ Some l → Still (local w e n l) l → IsUndisturbed w e n l
still_undisturbed w e n l numbered at s = record {
  life = subst (λ (o : Option Life). Stays n (after_local w e n o) (slice_get (step w e).lives n)) at (follows w e n) ∙ ap Some s.same;
  entries = gives_at w e n (is_entry_of n) (entry_only n) numbered ∙ (ap (at_gives w e n (is_entry_of n)) at ∙ ap (filter (is_entry_of n)) s.none);
}

pub nothing_still : (l : Life) → Still Nothing l
nothing_still l = record { same = refl; none = refl }

pub undisturbed_law : (journal : List Event) (e : Event) → UndisturbedLaw journal e
unfolding UndisturbedLaw NothingLaw
undisturbed_law journal e n l at h =
    still_undisturbed (world_of journal) e n l (world_numbered journal) at
    (subst (λ (c : Local). Still c l) (sym ((nothing_law (world_of journal) e n l at).listed h)) (nothing_still l))

-- a scan at which it is neither due nor ends
module _ (m : ℤ) (t : ℕ) (over : Bool) (l : Life) where
  idle_open : (b : Bool) → schedule.is_due (number m) l.schedule ≡ b → b ≡ false →
      (scanned_life m t over l None ≡ l) × (scan_entries m over l None ≡ [])
  idle_open true d h = absurd (true≢false h)
  idle_open false d h = (
    ap (λ b. cond (b && over) (record l { state = after_forced l.state; schedule = cond b (cond over (schedule.moved m l.schedule) (schedule.started m t l.schedule)) l.schedule })
        (record l { schedule = cond b (cond over (schedule.moved m l.schedule) (schedule.started m t l.schedule)) l.schedule })) d,
    ap (λ b. cond (b && over) (entries_of l.state (extra_of (rules_of l.settings) (pos 0)) forced m (pos 0)) []) d,
  )

  idle_by : (o : Option ℤ) → schedule.is_due (number m) l.schedule ≡ false → closed_ends (number m) l o ≡ false →
      (scanned_life m t over l o ≡ l) × (scan_entries m over l o ≡ [])
  idle_by None d e = idle_open (schedule.is_due (number m) l.schedule) refl d
  idle_by (Some c) d e = (ap (λ b. cond b (with_ending l) l) e, ap (λ b. cond b (ending_entries (closing_at c l)) []) e)

  scan_still : schedule.is_due (number m) l.schedule ≡ false → ends (number m) l ≡ false → Still (Scan m t over) l
  scan_still d e = let h = idle_by l.schedule.closed d e in record { same = h.0; none = h.1 }

-- of an open life no ending is taken
open_ends : (m : ℕ) (l : Life) (o : Option ℤ) → not (is_some o) ≡ true → closed_ends m l o ≡ false
open_ends m l None e = refl
open_ends m l (Some c) e = absurd (false≢true e)

pub tick_still : (m : ℤ) (t : ℕ) (over : Bool) (l : Life) (b q : Bool) → is_open l ≡ q → schedule.is_due (number m) l.schedule ≡ false → Still (cond (b && q) (Scan m t over) Nothing) l
tick_still m t over l true true o d = scan_still m t over l d (open_ends (number m) l l.schedule.closed o)
tick_still m t over l true false o d = nothing_still l
tick_still m t over l false q o d = nothing_still l

live_idle : (w : World) (e : Event) (n : ℕ) (l : Life) → is_idle_scan e l ≡ true → Still (live_local w e n l) l
live_idle w (Load m text) n l h = absurd (false≢true h)
live_idle w (Targets m name file text) n l h = absurd (false≢true h)
live_idle w (Tick m k) n l h = tick_still m (length w.started) (is_over w.jobs l) l (eqb k n) (is_open l) refl (not-true _ h)
live_idle w (Sweep m) n l h =
    let p = and_parts (not (schedule.is_due (number m) l.schedule)) (not (ends (number m) l)) h in
    scan_still m (ticket_in_sweep w (number m) n) (is_over w.jobs l) l (not-true _ p.0) (not-true _ p.1)
live_idle w (Finish k took r) n l h = absurd (false≢true h)
live_idle w (Halt m) n l h = absurd (false≢true h)

idle : (w : World) (e : Event) (n : ℕ) (l : Life) → is_idle_scan e l ≡ true → Still (local w e n l) l
idle w e n l h = by w.halted
  where
    by : (b : Bool) → Still (cond b Nothing (live_local w e n l)) l
    by true = nothing_still l
    by false = live_idle w e n l h

pub idle_law : (journal : List Event) (e : Event) → IdleLaw journal e
unfolding IdleLaw
idle_law journal e n l at h = still_undisturbed (world_of journal) e n l (world_numbered journal) at (idle (world_of journal) e n l h)
