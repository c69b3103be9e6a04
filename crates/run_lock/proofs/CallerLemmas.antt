-- What the caller's entries tell, after each order.
use Rattle.std.proofs.Common.{◌≡◌, ℕ, List, [], ◌∷◌, ◌++◌, true, refl, sym, ap, ◌∙◌, subst, append_assoc, append-nil}
use Rattle.std.specs.Prelude.{None, Result, Ok, Err}
use Rattle.config_fields.specs.declared.fault.ConfFault.{ConfFault}
use Rattle.jobs_in_force.specs.Jobs.{Unlisted, UnknownJob, UnknownFile, Faulty, loaded, updated}
use Rattle.jobs_in_force.specs.declared.jobs.Filed.{Filed}
use Rattle.jobs_in_force.specs.declared.jobs.InForce.{InForce}
use Rattle.journal_text.specs.declared.events.Event.{Event}
use Rattle.scrape_config.specs.declared.conf.Group.{Group}
use Rattle.scrape_core.specs.Records.{is_live}
use Rattle.scrape_core.proofs.RecordLemmas.{live_world, world_live, answer_live}
use Rattle.scrape_machine.specs.Machine.{World, world_of, new_jobs, or_else, answer, live_answer, load_answer, update_answer}
use Rattle.scrape_machine.specs.declared.answers.Answer.{Answer}
use Rattle.run_lock.specs.declared.marks.Entry.{Entry}
use Rattle.run_lock.specs.declared.marks.Note.TheVariants.{Brought}
use Rattle.run_lock.specs.Callers.{order_in, orders_in, jobs_by, jobs_after, ordered, jobs_known, LoadAnswered, UpdateAnswered, IsAnswered}
use Rattle.run_lock.specs.Entries.{entry, brought_in}
use Rattle.run_lock.specs.Tasks.{IsCommand, event_at}
use Rattle.run_lock.specs.declared.tasks.ControlOrder.{ControlOrder}
use Rattle.run_lock.specs.declared.tasks.ControlOrder.TheVariants as order
use Rattle.run_lock.proofs.EntryLemmas.{brought_push}

-- one more event's orders, and the configuration after one more order
orders_push : (es : List Event) (e : Event) → orders_in (es ++ e ∷ []) ≡ orders_in es ++ order_in e
orders_push [] e = append-nil _
orders_push (d ∷ es) e = ap (λ os. order_in d ++ os) (orders_push es e) ∙ sym (append_assoc (order_in d) (orders_in es) (order_in e))

pub jobs_push : (jobs : List InForce) (os : List ControlOrder) (o : ControlOrder) → jobs_after jobs (os ++ o ∷ []) ≡ jobs_by (jobs_after jobs os) o
jobs_push jobs [] o = refl
jobs_push jobs (p ∷ os) o = jobs_push (jobs_by jobs p) os o

pub jobs_join : (jobs : List InForce) (os ps : List ControlOrder) → jobs_after jobs (os ++ ps) ≡ jobs_after (jobs_after jobs os) ps
jobs_join jobs [] ps = refl
jobs_join jobs (o ∷ os) ps = jobs_join (jobs_by jobs o) os ps

order_of : (now : ℕ) (o : ControlOrder) → order_in (event_at now o) ≡ o ∷ []
order_of now (order.Load text) = refl
order_of now (order.Update job file text) = refl

jobs_of_event : (now : ℕ) (jobs : List InForce) (o : ControlOrder) → or_else (new_jobs jobs (event_at now o)) jobs ≡ jobs_by jobs o
jobs_of_event now jobs (order.Load text) = refl
jobs_of_event now jobs (order.Update job file text) = refl

pub command_at : (now : ℕ) (o : ControlOrder) → IsCommand (event_at now o)
command_at now (order.Load text) = tt
command_at now (order.Update job file text) = tt

-- one more order of the caller
pub ordered_push : (xs : List Entry) (s now : ℕ) (o : ControlOrder) → ordered (xs ++ entry s (Brought now (event_at now o)) ∷ []) ≡ ordered xs ++ o ∷ []
ordered_push xs s now o =
    ap orders_in (brought_push xs (entry s (Brought now (event_at now o))))
    ∙ (orders_push (brought_in xs) (event_at now o) ∙ ap (λ os. ordered xs ++ os) (order_of now o))

-- the configuration in force is by what the caller brought, and changes by an order alone
pub same_jobs : (start : List Event) (xs ys : List Entry) → brought_in xs ≡ brought_in ys → jobs_known start xs ≡ jobs_known start ys
same_jobs start xs ys e = ap (λ (es : List Event). jobs_after (world_of start).jobs (orders_in es)) e

pub more_jobs : (es : List Event) (e : Event) → is_live es ≡ true → new_jobs (world_of es).jobs e ≡ None → (world_of (es ++ e ∷ [])).jobs ≡ (world_of es).jobs
more_jobs es e live none = ap (λ (w : World). w.jobs) (world_live es e live) ∙ ap (λ o. or_else o (world_of es).jobs) none

pub order_jobs : (es : List Event) (now : ℕ) (o : ControlOrder) → is_live es ≡ true → (world_of (es ++ event_at now o ∷ [])).jobs ≡ jobs_by (world_of es).jobs o
order_jobs es now o live = ap (λ (w : World). w.jobs) (world_live es (event_at now o) live) ∙ jobs_of_event now (world_of es).jobs o

pub known_push : (start : List Event) (xs : List Entry) (s now : ℕ) (o : ControlOrder) → jobs_known start (xs ++ entry s (Brought now (event_at now o)) ∷ []) ≡ jobs_by (jobs_known start xs) o
known_push start xs s now o = ap (jobs_after (world_of start).jobs) (ordered_push xs s now o) ∙ jobs_push (world_of start).jobs (ordered xs) o

-- what the answer to an order says
load_answered : (closed begun : ℕ) (r : Result (List Filed) ConfFault) → LoadAnswered r (load_answer closed begun r)
load_answered closed begun (Ok fs) = (closed, begun, refl)
load_answered closed begun (Err fault) = refl

update_answered : (closed begun : ℕ) (r : Result (List Group) Unlisted) → UpdateAnswered r (update_answer closed begun r)
update_answered closed begun (Ok groups) = (closed, begun, refl)
update_answered closed begun (Err UnknownJob) = refl
update_answered closed begun (Err UnknownFile) = refl
update_answered closed begun (Err (Faulty fault)) = refl

answered_live : (w : World) (now : ℕ) (o : ControlOrder) → IsAnswered w.jobs o (live_answer w (event_at now o))
answered_live w now (order.Load text) = load_answered _ _ (loaded w.jobs text)
answered_live w now (order.Update job file text) = update_answered _ _ (updated w.jobs job file text)

-- an order is answered by the configuration in force
pub answered : (es : List Event) (jobs : List InForce) (now : ℕ) (o : ControlOrder) (a : Answer) → is_live es ≡ true → (world_of es).jobs ≡ jobs → a ≡ answer (world_of es) (event_at now o) → IsAnswered jobs o a
answered es jobs now o a live same is =
    let w = world_of es in
    subst (λ js. IsAnswered js o a) same (subst (IsAnswered w.jobs o) (sym (is ∙ answer_live w (event_at now o) (live_world es live))) (answered_live w now o))
