-- What a state is seen as.
use Rattle.std.proofs.Common.{◌≡◌, ℕ, ℤ, zero, suc, ◌+◌, ◌<◌, List, [], ◌∷◌, ◌++◌, length, get_or, append-nil, refl, sym, ap, ap₂, ◌∙◌, subst, Bool, true, false, cond, not, ◌&&◌, arith}
use Rattle.std.specs.Prelude.{All, Result, Ok, Err, OnOk, Option, Some, None, is_some, slice_get}
use Rattle.std.specs.List.{range_with_len}
use Rattle.std.proofs.lemmas.Bool.{false≢true}
use Rattle.std.proofs.lemmas.List.{length-set}
use Rattle.std.proofs.lemmas.Option.{slice_get_within}
use Rattle.scrape_config.specs.declared.conf.Group.{Group}
use Rattle.jobs_in_force.specs.declared.jobs.Filed.{Filed}
use Rattle.jobs_in_force.specs.declared.jobs.InForce.{InForce}
use Rattle.jobs_in_force.specs.Jobs.{jobs_updated, updated, filed_by_update, IsFew}
use Rattle.jobs_in_force.proofs.FewLemmas.{updated_few}
use Rattle.journal_text.specs.declared.events.Event.{Event}
use Rattle.journal_text.specs.declared.events.Event.TheVariants.{Load, Targets, Halt}
use Rattle.report_samples.specs.declared.entries.Entry.{Entry}
use Rattle.scrape_machine.specs.declared.answers.Answer.TheVariants.{Halted}
use Rattle.scrape_machine.specs.declared.lives.Life.{Life}
use Rattle.scrape_machine.specs.declared.lives.StartedScrape.{StartedScrape}
use Rattle.scrape_machine.specs.Machine.{World, world, tick_answer, finished, answer, step, gives}
use Rattle.scrape_steps.specs.Scans.{is_open_life}
use Rattle.scrape_steps.proofs.EventLemmas.{load_silent, update_silent}
use Rattle.scrape_steps.proofs.ScanLemmas.{halt_step, halt_silent}
use Rattle.scrape_core.specs.declared.state.State.{State}
use Rattle.scrape_core.specs.Kept.{seen, live, Appends}

-- without a halt it is the same
pub live_seen : (s : State) → s.halted ≡ false → seen s ≡ live s
live_seen s h = ap (λ b. record { jobs = s.jobs.items; lives = s.lives.items; started = s.started.items; halted = b }) h

-- what is worked out of new jobs, of old ones and of lives
pub same_change : {X : Type 0} (f : List InForce → List InForce → List Life → X) (n m o p : List InForce) (l k : List Life) →
    n ≡ m → o ≡ p → l ≡ k → f n o l ≡ f m p k
same_change f n m o p l k e g h = ap (λ x. f x o l) e ∙ ap₂ (λ x y. f m x y) g h

-- the jobs of an update, by what it says
module _ (js ks : List InForce) (name n file f : List ℕ) (groups : List Group) (e : js ≡ ks) (en : n ≡ name) (ef : f ≡ file) where
  pub same_update : jobs_updated js n f groups ≡ jobs_updated ks name file groups
  same_update = ap (λ z. jobs_updated z n f groups) e ∙ ap₂ (λ x y. jobs_updated ks x y groups) en ef

  pub few_update : (text : List ℕ) → updated js name file text ≡ Ok groups → All IsFew (filed_by_update js n f groups)
  few_update text h =
      subst (λ (fs : List Filed). All IsFew fs) (ap₂ (λ x y. filed_by_update js x y groups) (sym en) (sym ef)) (updated_few js name file text groups h)

-- what is worked out of jobs, lives and started scrapes
pub same_world : {X : Type 0} (f : List InForce → List Life → List StartedScrape → X) (js ks : List InForce) (ls zs : List Life) (ss ts : List StartedScrape) →
    js ≡ ks → ls ≡ zs → ss ≡ ts → f js ls ss ≡ f ks zs ts
same_world f js ks ls zs ss ts e g h = ap (λ x. f x ls ss) e ∙ ap₂ (λ x y. f ks x y) g h

-- a life of this number is open
pub open_there : (ls : List Life) (k : ℕ) → is_open_life (slice_get ls k) ≡ true → k < length ls
open_there ls k h = of (slice_get ls k) refl h
  where
    of : (o : Option Life) → slice_get ls k ≡ o → is_open_life o ≡ true → k < length ls
    of None e h = absurd (false≢true h)
    of (Some x) e h = slice_get_within ls k x e

pub found_there : {A : Type 0} (xs : List A) (k : ℕ) (x : A) → k < length xs → x ≡ get_or xs k x → slice_get xs k ≡ Some x
found_there [] k x lt at = absurd (omega arith)
found_there (y ∷ ys) zero x lt at = ap Some (sym at)
found_there (y ∷ ys) (suc k) x lt at = found_there ys k x (omega arith) at

pub get_or_at : {A : Type 0} (xs : List A) (k : ℕ) (d e : A) → k < length xs → get_or xs k d ≡ get_or xs k e
get_or_at [] k d e lt = absurd (omega arith)
get_or_at (y ∷ ys) zero d e lt = refl
get_or_at (y ∷ ys) (suc k) d e lt = get_or_at ys k d e (omega arith)

pub length-finished : (ss : List StartedScrape) (k : ℕ) (o : Option StartedScrape) → length (finished o ss k) ≡ length ss
length-finished ss k None = refl
length-finished ss k (Some s) = length-set ss k (record s { finished = true })

-- one more of the numbers from one on
pub range_push : (a n : ℕ) → range_with_len a (n + 1) ≡ range_with_len a n ++ (a + n) ∷ []
range_push a zero = let e : a ≡ a + 0 = omega arith in ap (λ k. k ∷ []) e
range_push a (suc n) =
    let e : suc n + 1 ≡ suc (n + 1) = omega arith in
    let k : (a + 1) + n ≡ a + suc n = omega arith in
    ap (range_with_len a) e ∙ ap (λ zs. a ∷ zs) (range_push (a + 1) n ∙ ap (λ j. range_with_len (a + 1) n ++ j ∷ []) k)

-- the answer to a tick
pub same_tick : (n : ℕ) (js ks : List InForce) (t u : ℕ) (o p : Option Life) → js ≡ ks → t ≡ u → o ≡ p → tick_answer js n t o ≡ tick_answer ks n u p
same_tick n js ks t u o p e g h = ap (λ x. tick_answer x n t o) e ∙ ap₂ (λ x y. tick_answer ks n x y) g h

-- nothing is appended by an event that gives nothing
pub appends_none : (w : World) (e : Event) (before : List Entry) → gives w e ≡ [] → Appends w e before before
appends_none w e before h = sym (append-nil before) ∙ ap (λ (es : List Entry). before ++ es) (sym h)

pub on_ok : {A E : Type 0} (r : Result A E) (P : Type 0) → P → OnOk r P
on_ok (Ok x) P p = p
on_ok (Err e) P p = tt

-- events that give nothing, and a halt
module _ (jobs : List InForce) (ls : List Life) (ss : List StartedScrape) (e : Event) where
  pub load_gives : (m : ℤ) (text : List ℕ) → e ≡ Load m text → gives (world jobs ls ss) e ≡ []
  load_gives m text is = ap (gives (world jobs ls ss)) is ∙ load_silent jobs ls ss m text

  pub update_gives : (m : ℤ) (name file text : List ℕ) → e ≡ Targets m name file text → gives (world jobs ls ss) e ≡ []
  update_gives m name file text is = ap (gives (world jobs ls ss)) is ∙ update_silent jobs ls ss m name file text

  pub halt_gives : (m : ℤ) → e ≡ Halt m → gives (world jobs ls ss) e ≡ []
  halt_gives m is = ap (gives (world jobs ls ss)) is ∙ halt_silent jobs ls ss m

  pub halt_said : (m : ℤ) → e ≡ Halt m → Halted ≡ answer (world jobs ls ss) e
  unfolding answer
  halt_said m is = sym (ap (answer (world jobs ls ss)) is)

  pub halt_left : (m : ℤ) → e ≡ Halt m → record { jobs = jobs; lives = ls; started = ss; halted = true } ≡ step (world jobs ls ss) e
  halt_left m is = sym (ap (step (world jobs ls ss)) is ∙ halt_step jobs ls ss m)
