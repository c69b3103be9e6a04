-- A finish that doesn't count.
use Rattle.std.proofs.Common.{◌≡◌, ℕ, ℤ, zero, suc, Bool, true, false, cond, List, [], ◌∷◌, Option, Some, None, slice_get, slice_set, refl, sym, ap, ◌∙◌, append-nil}
use Rattle.std.proofs.lemmas.Bool.{true≢false}
use Rattle.outside.specs.declared.replies.Reply.{Reply}
use Rattle.journal_text.specs.declared.events.Event.TheVariants.{Finish}
use Rattle.scrape_machine.specs.declared.answers.Answer.TheVariants.{Halted}
use Rattle.scrape_machine.specs.declared.lives.Life.{Life}
use Rattle.scrape_machine.specs.declared.lives.StartedScrape.{StartedScrape}
use Rattle.scrape_machine.specs.declared.lives.TicketState.{TicketState}
use Rattle.scrape_machine.specs.declared.lives.TicketState.TheVariants.{NotStarted, Cancelled, Counts}
use Rattle.scrape_machine.specs.declared.lives.Local.TheVariants.{Nothing}
use Rattle.scrape_machine.specs.Machine.{World, found, finish_local, finish_answer, finished, local, live_step, step, gives, live_answer, answer}
use Rattle.scrape_machine.proofs.OneLemmas.{quiet_lives, quiet_gives}
use Rattle.scrape_laws.specs.Late.{is_counted, IsLate, LateLaw}

-- another place of a list
set_other : {A : Type 0} (xs : List A) (k j : ℕ) (x : A) → (j ≡ k → ⊥) → slice_get (slice_set xs k x) j ≡ slice_get xs j
set_other [] k j x ne = refl
set_other (y ∷ ys) zero zero x ne = absurd (ne refl)
set_other (y ∷ ys) zero (suc j) x ne = refl
set_other (y ∷ ys) (suc k) zero x ne = refl
set_other (y ∷ ys) (suc k) (suc j) x ne = set_other ys k j x (λ e. ne (ap (λ i. suc i) e))

pub finished_other : (o : Option StartedScrape) (ss : List StartedScrape) (k j : ℕ) → (j ≡ k → ⊥) → slice_get (finished o ss k) j ≡ slice_get ss j
finished_other None ss k j ne = refl
finished_other (Some s) ss k j ne = set_other ss k j (record s { finished = true }) ne

module _ (w : World) (k : ℕ) (took : ℤ) (r : Reply) where
  quiet : (f : TicketState) → is_counted (finish_answer w took r f) ≡ false → (n : ℕ) → finish_local n took r f ≡ Nothing
  quiet NotStarted h n = refl
  quiet Cancelled h n = refl
  quiet (Counts j m) h n = absurd (true≢false h)

  late_quiet : (b : Bool) → is_counted (cond b Halted (live_answer w (Finish k took r))) ≡ false → (n : ℕ) → cond b Nothing (finish_local n took r (found w k)) ≡ Nothing
  late_quiet true h n = refl
  late_quiet false h n = quiet (found w k) h n

  late_any : is_counted (answer w (Finish k took r)) ≡ false → (n : ℕ) (l : Life) → local w (Finish k took r) n l ≡ Nothing
  unfolding answer
  late_any h n l = late_quiet w.halted h n

  late_world : ((n : ℕ) (l : Life) → local w (Finish k took r) n l ≡ Nothing) → (b : Bool) → w.halted ≡ b → (let v = cond b w (live_step w (Finish k took r)) in
      (v.lives ≡ w.lives) × (v.jobs ≡ w.jobs) × (v.halted ≡ w.halted) × ((j : ℕ) → (j ≡ k → ⊥) → slice_get v.started j ≡ slice_get w.started j))
  late_world h true e = (refl, refl, refl, λ j ne. refl)
  late_world h false e =
      (append-nil _ ∙ quiet_lives w (Finish k took r) h 0 w.lives, refl, sym e, λ j ne. finished_other (slice_get w.started k) w.started k j ne)

  late : is_counted (answer w (Finish k took r)) ≡ false → IsLate w (Finish k took r) k
  unfolding step gives
  late h =
      let v = late_world (late_any h) w.halted refl in
      record { entries = quiet_gives w (Finish k took r) (late_any h) 0 w.lives; lives = v.0; jobs = v.1; halted = v.2; others = v.3 }

pub late_law : (w : World) → LateLaw w
late_law w k took r h = late w k took r h
