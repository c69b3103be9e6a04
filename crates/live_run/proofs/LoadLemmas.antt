-- The first load of a run.
use Rattle.std.proofs.Common.{◌≡◌, ℕ, ℤ, List, [], ◌∷◌, refl, sym, subst, ◌∙◌}
use Rattle.std.specs.Prelude.{Option, Some, None, Result, Ok, Err, IfOk}
use Rattle.config_fields.specs.declared.fault.ConfFault.{ConfFault}
use Rattle.jobs_in_force.specs.declared.jobs.Filed.{Filed}
use Rattle.jobs_in_force.specs.Jobs.{loaded}
use Rattle.journal_text.specs.declared.events.Event.TheVariants.{Load}
use Rattle.live_run.specs.Runs.{IsTaken}
use Rattle.run_lock.specs.Callers.{LoadAnswered, load_fault}
use Rattle.scrape_core.specs.Records.{IsFresh, is_live, started_of}
use Rattle.scrape_core.proofs.RecordLemmas.{live_push, same_started}
use Rattle.scrape_machine.specs.Machine.{answer, load_answer, world_of}
use Rattle.scrape_machine.specs.declared.answers.Answer.{Answer}

answered : (closed begun : ℕ) (r : Result (List Filed) ConfFault) → LoadAnswered r (load_answer closed begun r)
answered closed begun (Ok jobs) = (closed, begun, refl)
answered closed begun (Err fault) = refl

-- the answer to a first load is what its text says
first_answered : (m : ℤ) (text : List ℕ) (a : Answer) → a ≡ answer (world_of []) (Load m text) → LoadAnswered (loaded [] text) a
unfolding answer
first_answered m text a is = subst (LoadAnswered (loaded [] text)) (sym is) (answered _ _ (loaded [] text))

pub load_refused : (m : ℤ) (text : List ℕ) (a : Answer) (o : Option ConfFault) (fault : ConfFault) → a ≡ answer (world_of []) (Load m text) → ((said : Result (List Filed) ConfFault) → LoadAnswered said a → o ≡ load_fault said) → o ≡ Some fault
    → loaded [] text ≡ Err fault
load_refused m text a o fault is known some = of (loaded [] text) (sym some ∙ known (loaded [] text) (first_answered m text a is))
  where
    of : (r : Result (List Filed) ConfFault) → Some fault ≡ load_fault r → r ≡ Err fault
    of (Ok jobs) e = absurd cc
    of (Err f) e = cc

pub load_taken : (m : ℤ) (text : List ℕ) (a : Answer) (o : Option ConfFault) → a ≡ answer (world_of []) (Load m text) → ((said : Result (List Filed) ConfFault) → LoadAnswered said a → o ≡ load_fault said) → o ≡ None → IsTaken text
load_taken m text a o is known none = of (loaded [] text) refl (sym none ∙ known (loaded [] text) (first_answered m text a is))
  where
    of : (r : Result (List Filed) ConfFault) → loaded [] text ≡ r → None ≡ load_fault r → IsTaken text
    of (Ok jobs) at e = (jobs, at)
    of (Err f) at e = absurd cc

-- and a journal of it has started nothing
none_fresh : IsFresh []
unfolding started_of is_live
none_fresh = record { none = refl; unfinished = refl; live = refl }

pub load_is_fresh : (m : ℤ) (text : List ℕ) → IsFresh (Load m text ∷ [])
load_is_fresh m text = record {
  none = sym (same_started [] (Load m text ∷ []) (Load m text) none_fresh.live refl refl) ∙ none_fresh.none;
  unfinished = refl;
  live = live_push [] (Load m text ∷ []) (Load m text) none_fresh.live refl refl;
}

-- what holds of each value holds of a result's
pub if_ok : {T E : Type 0} (P Q : T → Type 0) → ((x : T) → P x → Q x) → (r : Result T E) → IfOk r P → IfOk r Q
if_ok P Q f (Ok x) p = f x p
if_ok P Q f (Err e) p = tt
