-- What the caller of a run ordered, and which configuration is in force by that.
use Rattle.std.specs.Prelude.{◌≡◌, ℕ, ℤ, List, [], ◌∷◌, ◌++◌, Option, Some, None, Result, Ok, Err}
use Rattle.config_fields.specs.declared.fault.ConfFault.{ConfFault}
use Rattle.jobs_in_force.specs.Jobs.{Unlisted, UnknownJob, UnknownFile, Faulty, loaded, updated}
use Rattle.jobs_in_force.specs.declared.jobs.Filed.{Filed}
use Rattle.jobs_in_force.specs.declared.jobs.InForce.{InForce}
use Rattle.journal_text.specs.declared.events.Event.{Event}
use Rattle.journal_text.specs.declared.events.Event.TheVariants.{Load, Targets, Tick, Sweep, Finish, Halt}
use Rattle.scrape_config.specs.declared.conf.Group.{Group}
use Rattle.scrape_machine.specs.Machine.{after_load, after_update, or_else, world_of}
use Rattle.scrape_machine.specs.declared.answers.Answer.{Answer}
use Rattle.scrape_machine.specs.declared.answers.Answer.TheVariants.{Loaded, Updated, Refused, NoJob, NoFile}
use Rattle.run_lock.specs.declared.marks.Entry.{Entry}
use Rattle.run_lock.specs.Entries.{brought_in}
use Rattle.run_lock.specs.Held.{events_of}
use Rattle.run_lock.specs.declared.tasks.ControlOrder.{ControlOrder}
use Rattle.run_lock.specs.declared.tasks.ControlOrder.TheVariants as order

-- the order that an event is, and the orders among events
abbrev pub order_in : Event → List ControlOrder
order_in (Load m text) = order.Load text ∷ []
order_in (Targets m job file text) = order.Update job file text ∷ []
order_in (Tick m k) = []
order_in (Sweep m) = []
order_in (Finish k took r) = []
order_in (Halt m) = []

abbrev pub orders_in : List Event → List ControlOrder
orders_in [] = []
orders_in (e ∷ es) = order_in e ++ orders_in es

-- the configuration in force after an order: another one where it is taken
abbrev pub jobs_by : List InForce → ControlOrder → List InForce
jobs_by jobs (order.Load text) = or_else (after_load (loaded jobs text)) jobs
jobs_by jobs (order.Update job file text) = or_else (after_update jobs job file (updated jobs job file text)) jobs

abbrev pub jobs_after : List InForce → List ControlOrder → List InForce
jobs_after jobs [] = jobs
jobs_after jobs (o ∷ os) = jobs_after (jobs_by jobs o) os

-- what the caller's entries say: its orders, and the configuration in force by them
abbrev pub ordered : List Entry → List ControlOrder
ordered xs = orders_in (brought_in xs)

abbrev pub jobs_known : List Event → List Entry → List InForce
jobs_known start xs = jobs_after (world_of start).jobs (ordered xs)

-- the answer to an order, where these jobs are in force
abbrev pub LoadAnswered : Result (List Filed) ConfFault → Answer → Type 0
LoadAnswered (Err fault) a = a ≡ Refused fault
LoadAnswered (Ok fs) a = (closed : ℕ) × (begun : ℕ) × (a ≡ Loaded closed begun)

-- the fault for which a load isn't taken
abbrev pub load_fault : Result (List Filed) ConfFault → Option ConfFault
load_fault (Err fault) = Some fault
load_fault (Ok fs) = None

abbrev pub UpdateAnswered : Result (List Group) Unlisted → Answer → Type 0
UpdateAnswered (Err UnknownJob) a = a ≡ NoJob
UpdateAnswered (Err UnknownFile) a = a ≡ NoFile
UpdateAnswered (Err (Faulty fault)) a = a ≡ Refused fault
UpdateAnswered (Ok groups) a = (closed : ℕ) × (begun : ℕ) × (a ≡ Updated closed begun)

abbrev pub IsAnswered : List InForce → ControlOrder → Answer → Type 0
IsAnswered jobs (order.Load text) a = LoadAnswered (loaded jobs text) a
IsAnswered jobs (order.Update job file text) a = UpdateAnswered (updated jobs job file text) a

-- a journal that begins with these events
abbrev pub BeginsWith : List Event → List Event → Type 0
BeginsWith start es = (rest : List Event) × (es ≡ start ++ rest)

-- the events of the caller's seat at the end: those that came before the run, those of its entries, and the halt
pub record IsOfCaller (start es : List Event) (seats : List ℕ) (mine : List Entry) : Type 0 where
  pub begins : BeginsWith start es
  pub halted : ℤ
  pub events : events_of 0 es seats ≡ start ++ (brought_in mine ++ Halt halted ∷ [])
