-- What sweeps, ticks and a halt do to a world, before any halt.
use Rattle.std.proofs.Common.{◌≡◌, ℕ, ℤ, zero, suc, ◌<◌, ◌≤◌, Bool, true, false, ◌&&◌, cond, List, [], ◌∷◌, ◌++◌, length, set, get_or, refl, sym, ap, ap₂, ◌∙◌, arith, append-nil}
use Rattle.std.specs.Prelude.{Option, Some, None, slice_get, is_some, nat_lt, not}
use Rattle.std.proofs.lemmas.Option.{get_or_from_slice_get, slice_get_within}
use Rattle.std.proofs.lemmas.Bool.{eq-eqb, ne_eqb, false≢true}
use Rattle.journal_text.specs.declared.events.Event.TheVariants.{Tick, Sweep, Halt}
use Rattle.journal_text.specs.Lines.{number}
use Rattle.jobs_in_force.specs.declared.jobs.InForce.{InForce}
use Rattle.scrape_machine.specs.declared.lives.Life.{Life}
use Rattle.scrape_machine.specs.declared.lives.StartedScrape.{StartedScrape}
use Rattle.scrape_machine.specs.declared.lives.Local.TheVariants.{Nothing, Scan}
use Rattle.scrape_machine.specs.Lives.{is_open, life_after, life_gives, scanned_life, scan_entries}
use Rattle.scrape_machine.specs.Machine.{world, local, lives_from, gives_from, is_over, started_by, start_of, starts_from, ticked, step, gives}
use Rattle.scrape_steps.specs.Scans.{is_open_life}
use Rattle.scrape_machine.proofs.OneLemmas.{quiet_lives, quiet_gives, one_life, one_life_gives, far_lives, far_gives}

slice_get_none : {A : Type 0} (xs : List A) (k : ℕ) → slice_get xs k ≡ None → length xs ≤ k
slice_get_none [] k e = omega arith
slice_get_none (x ∷ xs) zero e = absurd (cc)
slice_get_none (x ∷ xs) (suc k) e = let q = slice_get_none xs k e in omega arith

module _ (jobs : List InForce) (ls : List Life) (ss : List StartedScrape) (m : ℤ) where
  pub halt_step : step (world jobs ls ss) (Halt m) ≡ record { jobs = jobs; lives = ls; started = ss; halted = true }
  unfolding step
  halt_step =
      ap (λ (z : List Life). record { jobs = jobs; lives = z; started = ss; halted = true }) (append-nil _ ∙ quiet_lives (world jobs ls ss) (Halt m) (λ n l. refl) 0 ls)

  pub halt_silent : gives (world jobs ls ss) (Halt m) ≡ []
  unfolding gives
  halt_silent = quiet_gives (world jobs ls ss) (Halt m) (λ n l. refl) 0 ls

  pub sweep_step : step (world jobs ls ss) (Sweep m) ≡ world jobs (lives_from (world jobs ls ss) (Sweep m) 0 ls) (ss ++ starts_from jobs (number m) 0 ls)
  unfolding step
  sweep_step = ap (λ (z : List Life). world jobs z (ss ++ starts_from jobs (number m) 0 ls)) (append-nil _)

  -- a tick
  tick_other : (k n : ℕ) (l : Life) → (k ≡ n → ⊥) → local (world jobs ls ss) (Tick m k) n l ≡ Nothing
  tick_other k n l h = ap (λ b. cond (b && is_open l) (Scan m (length ss) (is_over jobs l)) Nothing) (ne_eqb k n h)

  tick_one : (k : ℕ) (l : Life) → local (world jobs ls ss) (Tick m k) k l ≡ cond (is_open l) (Scan m (length ss) (is_over jobs l)) Nothing
  tick_one k l = ap (λ b. cond (b && is_open l) (Scan m (length ss) (is_over jobs l)) Nothing) (eq-eqb k k refl)

  tick_started : (k : ℕ) (zs : List Life) (o : Option Life) → slice_get ls k ≡ o → lives_from (world jobs ls ss) (Tick m k) 0 ls ≡ zs →
      step (world jobs ls ss) (Tick m k) ≡ world jobs zs (ss ++ ticked jobs (number m) k o)
  unfolding step
  tick_started k zs o h e = ap₂ (λ (z : List Life) p. world jobs z (ss ++ ticked jobs (number m) k p)) (append-nil _ ∙ e) h

  pub tick_open : (k : ℕ) (x : Life) → slice_get ls k ≡ Some x → k < length ls → x ≡ get_or ls k x → is_open x ≡ true →
      step (world jobs ls ss) (Tick m k) ≡ world jobs (set ls k (scanned_life m (length ss) (is_over jobs x) x x.schedule.closed)) (ss ++ start_of jobs (number m) k x)
  tick_open k x h lt at there =
      tick_started k _ (Some x) h
      (one_life (world jobs ls ss) (Tick m k) k (λ n l q. tick_other k n l q) ls x lt at
      ∙ ap (λ p. set ls k (life_after p x)) (tick_one k x ∙ ap (λ b. cond b (Scan m (length ss) (is_over jobs x)) Nothing) there))

  pub tick_open_gives : (k : ℕ) (x : Life) → k < length ls → x ≡ get_or ls k x → is_open x ≡ true →
      gives (world jobs ls ss) (Tick m k) ≡ scan_entries m (is_over jobs x) x x.schedule.closed
  unfolding gives
  tick_open_gives k x lt at there =
      one_life_gives (world jobs ls ss) (Tick m k) k (λ n l q. tick_other k n l q) ls x lt at
      ∙ ap (λ p. life_gives p x) (tick_one k x ∙ ap (λ b. cond b (Scan m (length ss) (is_over jobs x)) Nothing) there)

  -- a tick of a life that isn't open
  set_itself : (xs : List Life) (k : ℕ) (x : Life) → k < length xs → x ≡ get_or xs k x → set xs k x ≡ xs
  set_itself [] k x lt at = absurd (omega arith)
  set_itself (y ∷ ys) zero x lt at = ap (λ z. z ∷ ys) at
  set_itself (y ∷ ys) (suc k) x lt at = ap (λ zs. y ∷ zs) (set_itself ys k x (omega arith) at)

  -- of a life that isn't open no scrape starts
  closed_starts : (b over : Bool) (due : Bool) → b ≡ false → ((b && due) && not over) ≡ false
  closed_starts true over due e = absurd (false≢true (sym e))
  closed_starts false over due e = refl

  none_started : (o : Option Life) (k : ℕ) → is_open_life o ≡ false → ticked jobs (number m) k o ≡ []
  none_started None k h = refl
  none_started (Some x) k h =
      ap (λ b. started_by b k x)
      (closed_starts (is_open x) (is_over jobs x) (not (is_some x.schedule.flight) && not (nat_lt (number m) x.schedule.planned)) h)

  closed_lives : (k : ℕ) (o : Option Life) → slice_get ls k ≡ o → is_open_life o ≡ false → lives_from (world jobs ls ss) (Tick m k) 0 ls ≡ ls
  closed_lives k None e h =
      let far = slice_get_none ls k e in
      far_lives (world jobs ls ss) (Tick m k) k (λ n l q. tick_other k n l q) 0 ls (omega arith)
  closed_lives k (Some x) e h =
      let lt = slice_get_within ls k x e in
      let at = sym (get_or_from_slice_get ls k x x e) in
      one_life (world jobs ls ss) (Tick m k) k (λ n l q. tick_other k n l q) ls x lt at
      ∙ ap (λ p. set ls k (life_after p x)) (tick_one k x ∙ ap (λ b. cond b (Scan m (length ss) (is_over jobs x)) Nothing) h)
      ∙ set_itself ls k x lt at

  closed_gives : (k : ℕ) (o : Option Life) → slice_get ls k ≡ o → is_open_life o ≡ false → gives_from (world jobs ls ss) (Tick m k) 0 ls ≡ []
  closed_gives k None e h =
      let far = slice_get_none ls k e in
      far_gives (world jobs ls ss) (Tick m k) k (λ n l q. tick_other k n l q) 0 ls (omega arith)
  closed_gives k (Some x) e h =
      let lt = slice_get_within ls k x e in
      let at = sym (get_or_from_slice_get ls k x x e) in
      one_life_gives (world jobs ls ss) (Tick m k) k (λ n l q. tick_other k n l q) ls x lt at
      ∙ ap (λ p. life_gives p x) (tick_one k x ∙ ap (λ b. cond b (Scan m (length ss) (is_over jobs x)) Nothing) h)

  pub tick_closed : (k : ℕ) → is_open_life (slice_get ls k) ≡ false → step (world jobs ls ss) (Tick m k) ≡ world jobs ls ss
  tick_closed k h =
      tick_started k ls (slice_get ls k) refl (closed_lives k (slice_get ls k) refl h)
      ∙ ap (λ zs. world jobs ls (ss ++ zs)) (none_started (slice_get ls k) k h) ∙ ap (λ zs. world jobs ls zs) (append-nil ss)

  pub tick_closed_gives : (k : ℕ) → is_open_life (slice_get ls k) ≡ false → gives (world jobs ls ss) (Tick m k) ≡ []
  unfolding gives
  tick_closed_gives k h = closed_gives k (slice_get ls k) refl h
