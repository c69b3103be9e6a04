-- What the events do to a world, before any halt.
use Rattle.std.proofs.Common.{◌≡◌, ℕ, ℤ, ◌+◌, Bool, true, false, cond, List, [], ◌∷◌, ◌++◌, map, length, refl, ap, ap₂, ◌∙◌, append-nil}
use Rattle.std.specs.Prelude.{Option, Some, None, Ok, Err, filter}
use Rattle.std.proofs.lemmas.List.{length-map}
use Rattle.config_fields.specs.declared.fault.ConfFault.{ConfFault}
use Rattle.scrape_config.specs.declared.conf.Group.{Group}
use Rattle.std.proofs.lemmas.Bool.{false≢true}
use Rattle.journal_text.specs.declared.events.Event.{Event}
use Rattle.journal_text.specs.declared.events.Event.TheVariants.{Load, Targets}
use Rattle.journal_text.specs.Lines.{number}
use Rattle.report_samples.specs.declared.entries.Entry.{Entry}
use Rattle.jobs_in_force.specs.declared.jobs.Filed.{Filed}
use Rattle.jobs_in_force.specs.declared.jobs.InForce.{InForce}
use Rattle.scrape_machine.specs.declared.lives.Life.{Life}
use Rattle.scrape_machine.specs.declared.lives.StartedScrape.{StartedScrape}
use Rattle.scrape_machine.specs.declared.lives.Local.TheVariants.{Nothing, Close}
use Rattle.scrape_machine.specs.declared.lives.Difference.{Difference}
use Rattle.scrape_machine.specs.declared.lives.Difference.TheVariants as difference
use Rattle.scrape_machine.specs.declared.answers.Answer.TheVariants.{Halted, Loaded, Refused, Updated}
use Rattle.jobs_in_force.specs.Jobs.{has_target, job_named, in_force, loaded, updated, jobs_updated, Unlisted, UnknownJob, UnknownFile, Faulty}
use Rattle.scrape_machine.specs.Lives.{is_open, life_after, life_gives}
use Rattle.scrape_machine.specs.Machine as spec
use Rattle.scrape_machine.specs.Machine.{World, world, local, lives_from, gives_from, locals_from, reload_local, job_local, difference_local, begun_with, births, closes, step, gives, answer, live_step, new_jobs, after_load, after_update, or_else, closed_count, begun_count, load_answer, update_answer, job_name}
use Rattle.scrape_steps.specs.Reloads.{reload_life, reload_lives, reloaded, closed_by, begun_by}
use Rattle.scrape_machine.proofs.OneLemmas.{quiet_gives}

-- after a halt
pub dead_answer : (w : World) (e : Event) → w.halted ≡ true → answer w e ≡ Halted
unfolding answer
dead_answer w e h = rw h refl

dead_cond : (b : Bool) (x y : World) → b ≡ true → cond b x y ≡ x
dead_cond true x y h = refl
dead_cond false x y h = absurd (false≢true h)

pub dead_step : (w : World) (e : Event) → w.halted ≡ true → step w e ≡ w
unfolding step
dead_step w e h = dead_cond w.halted w (live_step w e) h

dead_local : (w : World) (e : Event) → w.halted ≡ true → (n : ℕ) (l : Life) → local w e n l ≡ Nothing
dead_local w e h n l = of w.halted h
  where
    of : (b : Bool) → b ≡ true → cond b Nothing (spec.live_local w e n l) ≡ Nothing
    of true k = refl
    of false k = absurd (false≢true k)

pub dead_gives : (w : World) (e : Event) → w.halted ≡ true → gives w e ≡ []
unfolding gives
dead_gives w e h = quiet_gives w e (dead_local w e h) 0 w.lives

-- a load or an update gives no entries
difference_gives : (m : ℤ) (v : Difference) (l : Life) → life_gives (difference_local m v) l ≡ []
difference_gives m difference.Incompatible l = refl
difference_gives m difference.Same l = refl
difference_gives m (difference.Changed s) l = refl

job_gives : (m : ℤ) (jobs : List InForce) (l : Life) (o : Option InForce) → life_gives (job_local m jobs l o) l ≡ []
job_gives m jobs l None = refl
job_gives m jobs l (Some j) = of (has_target l.identity j)
  where
    of : (b : Bool) → life_gives (cond b (difference_local m (spec.difference jobs j)) (Close m)) l ≡ []
    of true = difference_gives m (spec.difference jobs j) l
    of false = refl

reload_gives : (m : ℤ) (jobs : List InForce) (o : Option (List InForce)) (l : Life) → life_gives (reload_local m jobs o l) l ≡ []
reload_gives m jobs None l = refl
reload_gives m jobs (Some news) l = of (is_open l)
  where
    of : (b : Bool) → life_gives (cond b (job_local m jobs l (job_named (job_name l) news)) Nothing) l ≡ []
    of true = job_gives m jobs l (job_named (job_name l) news)
    of false = refl

-- an event at m that is a load or an update to each life
module _ (w : World) (e : Event) (m : ℤ) (o : Option (List InForce)) (is : (n : ℕ) (l : Life) → local w e n l ≡ reload_local m w.jobs o l) where
  lives_reloaded : (n : ℕ) (ls : List Life) → lives_from w e n ls ≡ map (λ (l : Life). life_after (reload_local m w.jobs o l) l) ls
  lives_reloaded n [] = refl
  lives_reloaded n (l ∷ ls) = ap₂ (λ p zs. life_after p l ∷ zs) (is n l) (lives_reloaded (n + 1) ls)

  pub nothing_given : (n : ℕ) (ls : List Life) → gives_from w e n ls ≡ []
  nothing_given n [] = refl
  nothing_given n (l ∷ ls) =
      ap (λ p. life_gives p l ++ gives_from w e (n + 1) ls) (is n l) ∙ ap₂ (λ (xs ys : List Entry). xs ++ ys) (reload_gives m w.jobs o l) (nothing_given (n + 1) ls)

  locals_reloaded : (n : ℕ) (ls : List Life) → locals_from w e n ls ≡ map (reload_local m w.jobs o) ls
  locals_reloaded n [] = refl
  locals_reloaded n (l ∷ ls) = ap₂ (λ p ps. p ∷ ps) (is n l) (locals_reloaded (n + 1) ls)

map_same : (m : ℤ) (jobs : List InForce) (ls : List Life) → map (λ (l : Life). life_after (reload_local m jobs None l) l) ls ≡ ls
map_same m jobs [] = refl
map_same m jobs (l ∷ ls) = ap (λ zs. l ∷ zs) (map_same m jobs ls)

-- the world after a load or an update at m that leaves these jobs in force, or is refused
module _ (jobs : List InForce) (ls : List Life) (ss : List StartedScrape) (m : ℤ) where
  kept : Option (List InForce) → List Life
  kept o = map (λ (l : Life). life_after (reload_local m jobs o l) l) ls

  after : Option (List InForce) → World
  after o = world (or_else o jobs) (kept o ++ begun_with (number m) (kept o) o) ss

  after_none : after None ≡ world jobs ls ss
  unfolding after kept
  after_none = ap (λ z. world jobs z ss) (append-nil _ ∙ map_same m jobs ls)

  after_some : (news : List InForce) → after (Some news) ≡ reloaded m news (world jobs ls ss)
  unfolding after kept
  after_some news =
      ap (λ n. world news (reload_lives m news (world jobs ls ss) ++ births (number m) n (reload_lives m news (world jobs ls ss)) news) ss)
      (length-map ls (reload_life m jobs news))

  load_after : (text : List ℕ) → step (world jobs ls ss) (Load m text) ≡ after (new_jobs jobs (Load m text))
  unfolding step after kept
  load_after text =
      ap (λ zs. world (or_else (new_jobs jobs (Load m text)) jobs) (zs ++ begun_with (number m) zs (new_jobs jobs (Load m text))) ss)
      (lives_reloaded (world jobs ls ss) (Load m text) m (new_jobs jobs (Load m text)) (λ n l. refl) 0 ls)

  update_after : (name file text : List ℕ) → step (world jobs ls ss) (Targets m name file text) ≡ after (new_jobs jobs (Targets m name file text))
  unfolding step after kept
  update_after name file text =
      ap (λ zs. world (or_else (new_jobs jobs (Targets m name file text)) jobs) (zs ++ begun_with (number m) zs (new_jobs jobs (Targets m name file text))) ss)
      (lives_reloaded (world jobs ls ss) (Targets m name file text) m (new_jobs jobs (Targets m name file text)) (λ n l. refl) 0 ls)

  pub load_taken : (text : List ℕ) (news : List InForce) → new_jobs jobs (Load m text) ≡ Some news →
      step (world jobs ls ss) (Load m text) ≡ reloaded m news (world jobs ls ss)
  load_taken text news h = load_after text ∙ ap after h ∙ after_some news

  pub load_refused : (text : List ℕ) → new_jobs jobs (Load m text) ≡ None → step (world jobs ls ss) (Load m text) ≡ world jobs ls ss
  load_refused text h = load_after text ∙ ap after h ∙ after_none

  pub update_taken : (name file text : List ℕ) (news : List InForce) → new_jobs jobs (Targets m name file text) ≡ Some news →
      step (world jobs ls ss) (Targets m name file text) ≡ reloaded m news (world jobs ls ss)
  update_taken name file text news h = update_after name file text ∙ ap after h ∙ after_some news

  pub update_refused : (name file text : List ℕ) → new_jobs jobs (Targets m name file text) ≡ None →
      step (world jobs ls ss) (Targets m name file text) ≡ world jobs ls ss
  update_refused name file text h = update_after name file text ∙ ap after h ∙ after_none

  pub load_silent : (text : List ℕ) → gives (world jobs ls ss) (Load m text) ≡ []
  unfolding gives
  load_silent text = nothing_given (world jobs ls ss) (Load m text) m (new_jobs jobs (Load m text)) (λ n l. refl) 0 ls

  pub update_silent : (name file text : List ℕ) → gives (world jobs ls ss) (Targets m name file text) ≡ []
  unfolding gives
  update_silent name file text = nothing_given (world jobs ls ss) (Targets m name file text) m (new_jobs jobs (Targets m name file text)) (λ n l. refl) 0 ls

  -- how many lives close and begin
  load_closed : (text : List ℕ) (news : List InForce) → new_jobs jobs (Load m text) ≡ Some news →
      closed_count (world jobs ls ss) (Load m text) ≡ closed_by m news (world jobs ls ss)
  load_closed text news h =
      ap (λ ps. length (filter closes ps)) (locals_reloaded (world jobs ls ss) (Load m text) m (new_jobs jobs (Load m text)) (λ n l. refl) 0 ls
      ∙ ap (λ o. map (reload_local m jobs o) ls) h)

  update_closed : (name file text : List ℕ) (news : List InForce) → new_jobs jobs (Targets m name file text) ≡ Some news →
      closed_count (world jobs ls ss) (Targets m name file text) ≡ closed_by m news (world jobs ls ss)
  update_closed name file text news h =
      ap (λ ps. length (filter closes ps)) (locals_reloaded (world jobs ls ss) (Targets m name file text) m (new_jobs jobs (Targets m name file text)) (λ n l. refl) 0 ls
      ∙ ap (λ o. map (reload_local m jobs o) ls) h)

  born : Option (List InForce) → ℕ
  born o = length (begun_with (number m) (kept o) o)

  born_some : (news : List InForce) → born (Some news) ≡ begun_by m news (world jobs ls ss)
  unfolding born kept
  born_some news =
      ap (λ n. length (births (number m) n (reload_lives m news (world jobs ls ss)) news)) (length-map ls (reload_life m jobs news))

  load_begun : (text : List ℕ) (news : List InForce) → new_jobs jobs (Load m text) ≡ Some news →
      begun_count (world jobs ls ss) (Load m text) ≡ begun_by m news (world jobs ls ss)
  unfolding born kept
  load_begun text news h =
      ap (λ zs. length (begun_with (number m) zs (new_jobs jobs (Load m text))))
      (lives_reloaded (world jobs ls ss) (Load m text) m (new_jobs jobs (Load m text)) (λ n l. refl) 0 ls)
      ∙ ap born h ∙ born_some news

  update_begun : (name file text : List ℕ) (news : List InForce) → new_jobs jobs (Targets m name file text) ≡ Some news →
      begun_count (world jobs ls ss) (Targets m name file text) ≡ begun_by m news (world jobs ls ss)
  unfolding born kept
  update_begun name file text news h =
      ap (λ zs. length (begun_with (number m) zs (new_jobs jobs (Targets m name file text))))
      (lives_reloaded (world jobs ls ss) (Targets m name file text) m (new_jobs jobs (Targets m name file text)) (λ n l. refl) 0 ls)
      ∙ ap born h ∙ born_some news

  -- the answers
  pub load_answer_taken : (text : List ℕ) (fs : List Filed) → loaded jobs text ≡ Ok fs →
      answer (world jobs ls ss) (Load m text) ≡ Loaded (closed_by m (map in_force fs) (world jobs ls ss)) (begun_by m (map in_force fs) (world jobs ls ss))
  unfolding answer
  load_answer_taken text fs h =
      let o : new_jobs jobs (Load m text) ≡ Some (map in_force fs) = ap after_load h in
      ap (load_answer (closed_count (world jobs ls ss) (Load m text)) (begun_count (world jobs ls ss) (Load m text))) h
      ∙ ap₂ Loaded (load_closed text (map in_force fs) o) (load_begun text (map in_force fs) o)

  pub load_answer_refused : (text : List ℕ) (fault : ConfFault) → loaded jobs text ≡ Err fault → answer (world jobs ls ss) (Load m text) ≡ Refused fault
  unfolding answer
  load_answer_refused text fault h = ap (load_answer (closed_count (world jobs ls ss) (Load m text)) (begun_count (world jobs ls ss) (Load m text))) h

  pub update_answer_taken : (name file text : List ℕ) (groups : List Group) → updated jobs name file text ≡ Ok groups →
      answer (world jobs ls ss) (Targets m name file text)
      ≡ Updated (closed_by m (jobs_updated jobs name file groups) (world jobs ls ss)) (begun_by m (jobs_updated jobs name file groups) (world jobs ls ss))
  unfolding answer
  update_answer_taken name file text groups h =
      let o : new_jobs jobs (Targets m name file text) ≡ Some (jobs_updated jobs name file groups) = ap (after_update jobs name file) h in
      ap (update_answer (closed_count (world jobs ls ss) (Targets m name file text)) (begun_count (world jobs ls ss) (Targets m name file text))) h
      ∙ ap₂ Updated (update_closed name file text (jobs_updated jobs name file groups) o) (update_begun name file text (jobs_updated jobs name file groups) o)

  pub update_answer_refused : (name file text : List ℕ) (why : Unlisted) → updated jobs name file text ≡ Err why →
      answer (world jobs ls ss) (Targets m name file text) ≡ update_answer 0 0 (Err why)
  unfolding answer
  update_answer_refused name file text why h =
      ap (update_answer (closed_count (world jobs ls ss) (Targets m name file text)) (begun_count (world jobs ls ss) (Targets m name file text))) h ∙ of why
    where
      of : (why : Unlisted) → update_answer (closed_count (world jobs ls ss) (Targets m name file text)) (begun_count (world jobs ls ss) (Targets m name file text)) (Err why)
          ≡ update_answer 0 0 (Err why)
      of UnknownJob = refl
      of UnknownFile = refl
      of (Faulty fault) = refl
