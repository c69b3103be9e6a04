-- The machine: one run forward over a plain state.
use Rattle.std.specs.Prelude.{◌≡◌, ℕ, ◌+◌, Bool, true, false, not, ◌&&◌, List, [], ◌∷◌, ◌++◌, length, take, map, filter, nat_lt, slice_get, slice_set, ◌==◌, ◌<◌, ℤ, Option, Some, None, is_some, Result, Ok, Err, if◌then◌else◌}
use Rattle.std.specs.List.{list_any}
use Rattle.std.specs.Ordering.{is_eq}
use Rattle.std.specs.Str.{bytes_eq}
use Rattle.label_set.specs.Sets.{set_cmp}
use Rattle.scrape_config.specs.Settings.{is_compatible, is_same}
use Rattle.scrape_config.specs.declared.conf.Group.{Group}
use Rattle.config_fields.specs.declared.fault.ConfFault.{ConfFault}
use Rattle.outside.specs.declared.replies.Reply.{Reply}
use Rattle.journal_text.specs.declared.events.Event.{Event}
use Rattle.journal_text.specs.declared.events.Event.TheVariants.{Load, Targets, Tick, Sweep, Finish, Halt}
use Rattle.journal_text.specs.Lines.{number}
use Rattle.sample_rows.specs.declared.fault.ScrapeFault.{ScrapeFault}
use Rattle.report_samples.specs.declared.entries.Entry.{Entry}
use Rattle.scrape_loop.specs.Tracked.{fault_of}
use Rattle.target_set.specs.declared.targets.Target.{Target}
use Rattle.life_roll.specs.declared.schedule.InFlight.{InFlight}
use Rattle.jobs_in_force.specs.declared.jobs.Filed.{Filed}
use Rattle.jobs_in_force.specs.declared.jobs.InForce.{InForce}
use Rattle.scrape_machine.specs.declared.lives.Life.{Life}
use Rattle.scrape_machine.specs.declared.lives.StartedScrape.{StartedScrape}
use Rattle.scrape_machine.specs.declared.lives.TicketState.{TicketState}
use Rattle.scrape_machine.specs.declared.lives.TicketState.TheVariants.{NotStarted, Cancelled, Counts}
use Rattle.scrape_machine.specs.declared.lives.Local.{Local}
use Rattle.scrape_machine.specs.declared.lives.Local.TheVariants.{Nothing, Scan, Answered, Change, Close}
use Rattle.scrape_machine.specs.declared.lives.Difference.{Difference}
use Rattle.scrape_machine.specs.declared.lives.Difference.TheVariants.{Incompatible, Same, Changed}
use Rattle.scrape_machine.specs.declared.answers.Answer.{Answer}
use Rattle.scrape_machine.specs.declared.answers.Answer.TheVariants.{Loaded, Updated, Refused, NoJob, NoFile, Started, Forced, NotDue, Busy, NoLife, Swept, Counted, Late, NoTicket, Halted}
use Rattle.jobs_in_force.specs.Jobs.{job_named, is_crowded, has_target, in_force, loaded, updated, jobs_updated, Unlisted, UnknownJob, UnknownFile, Faulty}
use Rattle.jobs_in_force.specs.Settings.{settings_of}
use Rattle.scrape_machine.specs.Lives.{is_open, born, starts, forces, ends, life_after, life_gives, outcome_for}

-- what the past comes to: the configuration in force, the lives by number, the started scrapes by ticket, and whether a halt came
pub record World : Type 0 where
  pub jobs : List InForce
  pub lives : List Life
  pub started : List StartedScrape
  pub halted : Bool

abbrev pub world : List InForce → List Life → List StartedScrape → World
world jobs ls ss = record { jobs = jobs; lives = ls; started = ss; halted = false }

abbrev pub beginning : World
beginning = world [] [] []

-- the configuration in force after a load or an update, where that is taken
abbrev pub after_load : Result (List Filed) ConfFault → Option (List InForce)
after_load (Err fault) = None
after_load (Ok fs) = Some (map in_force fs)

abbrev pub after_update : List InForce → List ℕ → List ℕ → Result (List Group) Unlisted → Option (List InForce)
after_update jobs name file (Err why) = None
after_update jobs name file (Ok groups) = Some (jobs_updated jobs name file groups)

abbrev pub new_jobs : List InForce → Event → Option (List InForce)
new_jobs jobs (Load m text) = after_load (loaded jobs text)
new_jobs jobs (Targets m name file text) = after_update jobs name file (updated jobs name file text)
new_jobs jobs (Tick m k) = None
new_jobs jobs (Sweep m) = None
new_jobs jobs (Finish k took r) = None
new_jobs jobs (Halt m) = None

-- the name of a job, and that of a life's job
abbrev pub name_of : InForce → List ℕ
name_of j = j.job.conf.job_name

abbrev pub job_name : Life → List ℕ
job_name l = l.settings.conf.job_name

-- how the settings of a job compare with those that the job of the same name had before
abbrev pub compared : InForce → InForce → Difference
compared before after =
    if is_compatible before.job.conf after.job.conf
    then (if is_same before.job.conf after.job.conf then Same else Changed (settings_of after.job))
    else Incompatible

abbrev pub difference_on : InForce → Option InForce → Difference
difference_on after None = Incompatible
difference_on after (Some before) = compared before after

abbrev pub difference : List InForce → InForce → Difference
difference jobs after = difference_on after (job_named after.job.conf.job_name jobs)

-- a life stays open where its job is configured, the settings before and after are compatible, and its identity is among the kept targets;
-- its settings change where they aren't the same
abbrev pub difference_local : ℤ → Difference → Local
difference_local m Incompatible = Close m
difference_local m Same = Nothing
difference_local m (Changed s) = Change m s

abbrev pub job_local : ℤ → List InForce → Life → Option InForce → Local
job_local m jobs l None = Close m
job_local m jobs l (Some after) = if has_target l.identity after then difference_local m (difference jobs after) else Close m

-- what a load or an update is to a life
abbrev pub reload_local : ℤ → List InForce → Option (List InForce) → Life → Local
reload_local m jobs None l = Nothing
reload_local m jobs (Some news) l = if is_open l then job_local m jobs l (job_named (job_name l) news) else Nothing

-- a scrape of the life is forced, where one is due: its job has more targets than its limit
abbrev pub is_over : List InForce → Life → Bool
is_over jobs l = is_open l && is_crowded (job_named (job_name l) jobs)

-- a scan at m starts a scrape of the life, or forces one
abbrev pub starts_in : List InForce → ℕ → Life → Bool
starts_in jobs m l = starts m (is_over jobs l) l

abbrev pub forces_in : List InForce → ℕ → Life → Bool
forces_in jobs m l = forces m (is_over jobs l) l

-- the ticket of life n in a sweep: the scrapes started before, those of the sweep's earlier lives too
abbrev pub ticket_in_sweep : World → ℕ → ℕ → ℕ
ticket_in_sweep w m n = length w.started + length (filter (starts_in w.jobs m) (take n w.lives))

-- what a finish of ticket k finds: no ticket, where no scrape with it has started or it had its finish; a scrape that was
-- cancelled; or the number of its life, where that has it in flight
abbrev pub found_flight : ℕ → ℕ → Option InFlight → TicketState
found_flight k n None = Cancelled
found_flight k n (Some f) = if f.ticket == k then Counts n f.moment else Cancelled

abbrev pub found_life : ℕ → ℕ → Option Life → TicketState
found_life k n None = Cancelled
found_life k n (Some l) = found_flight k n l.schedule.flight

abbrev pub found_start : List Life → ℕ → Option StartedScrape → TicketState
found_start ls k None = NotStarted
found_start ls k (Some s) = if s.finished then NotStarted else found_life k s.life (slice_get ls s.life)

abbrev pub found : World → ℕ → TicketState
found w k = found_start w.lives k (slice_get w.started k)

-- what a finish is to life number n, by what it finds
abbrev pub finish_local : ℕ → ℤ → Reply → TicketState → Local
finish_local n took r NotStarted = Nothing
finish_local n took r Cancelled = Nothing
finish_local n took r (Counts k m) = if k == n then Answered took r else Nothing

-- what a live event is to life number n
abbrev pub live_local : World → Event → ℕ → Life → Local
live_local w (Load m text) n l = reload_local m w.jobs (new_jobs w.jobs (Load m text)) l
live_local w (Targets m name file text) n l = reload_local m w.jobs (new_jobs w.jobs (Targets m name file text)) l
live_local w (Tick m k) n l = if (k == n) && is_open l then Scan m (length w.started) (is_over w.jobs l) else Nothing
live_local w (Sweep m) n l = Scan m (ticket_in_sweep w (number m) n) (is_over w.jobs l)
live_local w (Finish k took r) n l = finish_local n took r (found w k)
live_local w (Halt m) n l = Nothing

-- what an event is to life number n; after a halt it is nothing to each
abbrev pub local : World → Event → ℕ → Life → Local
local w e n l = if w.halted then Nothing else live_local w e n l

-- what an event is to each of these lives, the first of which has number n
abbrev pub locals_from : World → Event → ℕ → List Life → List Local
locals_from w e n [] = []
locals_from w e n (l ∷ ls) = local w e n l ∷ locals_from w e (n + 1) ls

-- the lives after an event, those that begin left out; the first has number n
abbrev pub lives_from : World → Event → ℕ → List Life → List Life
lives_from w e n [] = []
lives_from w e n (l ∷ ls) = life_after (local w e n l) l ∷ lives_from w e (n + 1) ls

-- the entries of these lives
abbrev pub gives_from : World → Event → ℕ → List Life → List Entry
gives_from w e n [] = []
gives_from w e n (l ∷ ls) = life_gives (local w e n l) l ++ gives_from w e (n + 1) ls

-- an open life of a job has this target
abbrev pub holds : List ℕ → Target → Life → Bool
holds name t l = is_open l && (bytes_eq name (job_name l) && is_eq (set_cmp t.identity l.identity))

-- the targets of a job without an open life among these
abbrev pub unheld : List Life → InForce → List Target
unheld ls j = filter (λ (t : Target). not (list_any (holds j.job.conf.job_name t) ls)) j.kept

-- the lives of targets of a job that begin at m, numbered from n in their order
abbrev pub born_all : ℕ → ℕ → InForce → List Target → List Life
born_all m n j [] = []
born_all m n j (t ∷ ts) = born m n (settings_of j.job) t ∷ born_all m (n + 1) j ts

-- each target of the jobs without an open life begins one, by job and then by place
abbrev pub births : ℕ → ℕ → List Life → List InForce → List Life
births m n ls [] = []
births m n ls (j ∷ js) = born_all m n j (unheld ls j) ++ births m (n + length (unheld ls j)) ls js

-- the lives that begin with a load or an update at m, where these are the lives after it
abbrev pub begun_with : ℕ → List Life → Option (List InForce) → List Life
begun_with m ls None = []
begun_with m ls (Some jobs) = births m (length ls) ls jobs

abbrev pub begun : List InForce → Event → List Life → List Life
begun jobs (Load m text) ls = begun_with (number m) ls (new_jobs jobs (Load m text))
begun jobs (Targets m name file text) ls = begun_with (number m) ls (new_jobs jobs (Targets m name file text))
begun jobs (Tick m k) ls = []
begun jobs (Sweep m) ls = []
begun jobs (Finish k took r) ls = []
begun jobs (Halt m) ls = []

-- the scrape of life n that a scan at m starts, if any
abbrev pub started_by : Bool → ℕ → Life → List StartedScrape
started_by one n l = if one then record { life = n; settings = l.settings; finished = false } ∷ [] else []

abbrev pub start_of : List InForce → ℕ → ℕ → Life → List StartedScrape
start_of jobs m n l = started_by (starts_in jobs m l) n l

-- the scrapes that a sweep at m starts, the first life having number n
abbrev pub starts_from : List InForce → ℕ → ℕ → List Life → List StartedScrape
starts_from jobs m n [] = []
starts_from jobs m n (l ∷ ls) = start_of jobs m n l ++ starts_from jobs m (n + 1) ls

-- the scrape that a tick of life n at m starts, if any
abbrev pub ticked : List InForce → ℕ → ℕ → Option Life → List StartedScrape
ticked jobs m n None = []
ticked jobs m n (Some l) = start_of jobs m n l

abbrev pub finished : Option StartedScrape → List StartedScrape → ℕ → List StartedScrape
finished None ss k = ss
finished (Some s) ss k = slice_set ss k (record s { finished = true })

-- the started scrapes after an event
abbrev pub started_after : World → Event → List StartedScrape
started_after w (Load m text) = w.started
started_after w (Targets m name file text) = w.started
started_after w (Tick m k) = w.started ++ ticked w.jobs (number m) k (slice_get w.lives k)
started_after w (Sweep m) = w.started ++ starts_from w.jobs (number m) 0 w.lives
started_after w (Finish k took r) = finished (slice_get w.started k) w.started k
started_after w (Halt m) = w.started

abbrev pub is_halt : Event → Bool
is_halt (Load m text) = false
is_halt (Targets m name file text) = false
is_halt (Tick m k) = false
is_halt (Sweep m) = false
is_halt (Finish k took r) = false
is_halt (Halt m) = true

-- these, or those in place of them
abbrev pub or_else : {A : Type 0} → Option A → A → A
or_else None x = x
or_else (Some y) x = y

-- the lives after an event
abbrev pub lives_after : World → Event → List Life
lives_after w e = lives_from w e 0 w.lives ++ begun w.jobs e (lives_from w e 0 w.lives)

-- the state after a live event
abbrev pub live_step : World → Event → World
live_step w e = record { jobs = or_else (new_jobs w.jobs e) w.jobs; lives = lives_after w e; started = started_after w e; halted = is_halt e }

-- the state after an event; a halt is the last that changes anything
unfoldable pub step : World → Event → World
step w e = if w.halted then w else live_step w e

-- the entries that an event gives
unfoldable pub gives : World → Event → List Entry
gives w e = gives_from w e 0 w.lives

-- how many lives an event closes, and how many it begins
abbrev pub closes : Local → Bool
closes Nothing = false
closes (Scan m k over) = false
closes (Answered took r) = false
closes (Change m s) = false
closes (Close m) = true

abbrev pub closed_count : World → Event → ℕ
closed_count w e = length (filter closes (locals_from w e 0 w.lives))

abbrev pub begun_count : World → Event → ℕ
begun_count w e = length (begun w.jobs e (lives_from w e 0 w.lives))

-- the answer to a load, to an update
abbrev pub load_answer : ℕ → ℕ → Result (List Filed) ConfFault → Answer
load_answer closed begun (Err fault) = Refused fault
load_answer closed begun (Ok fs) = Loaded closed begun

abbrev pub update_answer : ℕ → ℕ → Result (List Group) Unlisted → Answer
update_answer closed begun (Err UnknownJob) = NoJob
update_answer closed begun (Err UnknownFile) = NoFile
update_answer closed begun (Err (Faulty fault)) = Refused fault
update_answer closed begun (Ok groups) = Updated closed begun

-- the answer to a tick at m of a life, where k is the next ticket; the first cause that holds
abbrev pub due_answer : ℕ → Bool → Answer
due_answer k over = if over then Forced else Started k

abbrev pub tick_answer : List InForce → ℕ → ℕ → Option Life → Answer
tick_answer jobs m k None = NoLife
tick_answer jobs m k (Some l) =
    if not (is_open l) then NoLife
    else if is_some l.schedule.flight then Busy
    else if nat_lt m l.schedule.planned then NotDue
    else due_answer k (is_over jobs l)

-- the answer to a sweep at m
abbrev pub sweep_answer : World → ℕ → Answer
sweep_answer w m =
    Swept (length w.started) (length (filter (starts_in w.jobs m) w.lives)) (length (filter (forces_in w.jobs m) w.lives))
    (length (filter (ends m) w.lives))

-- the answer to a finish, by what it finds
abbrev pub fault_at : ℤ → Reply → Option Life → Option ScrapeFault
fault_at took r None = None
fault_at took r (Some l) = fault_of (outcome_for l took r)

abbrev pub finish_answer : World → ℤ → Reply → TicketState → Answer
finish_answer w took r NotStarted = NoTicket
finish_answer w took r Cancelled = Late
finish_answer w took r (Counts n m) = Counted (fault_at took r (slice_get w.lives n))

-- the answer to an event
abbrev pub live_answer : World → Event → Answer
live_answer w (Load m text) = load_answer (closed_count w (Load m text)) (begun_count w (Load m text)) (loaded w.jobs text)
live_answer w (Targets m name file text) =
    update_answer (closed_count w (Targets m name file text)) (begun_count w (Targets m name file text)) (updated w.jobs name file text)
live_answer w (Tick m k) = tick_answer w.jobs (number m) (length w.started) (slice_get w.lives k)
live_answer w (Sweep m) = sweep_answer w (number m)
live_answer w (Finish k took r) = finish_answer w took r (found w k)
live_answer w (Halt m) = Halted

unfoldable pub answer : World → Event → Answer
answer w e = if w.halted then Halted else live_answer w e

-- a whole run
abbrev pub run : World → List Event → World
run w [] = w
run w (e ∷ es) = run (step w e) es

abbrev pub book_from : World → List Event → List Entry
book_from w [] = []
book_from w (e ∷ es) = gives w e ++ book_from (step w e) es

-- the state and the book of a journal
abbrev pub world_of : List Event → World
world_of es = run beginning es

abbrev pub book_of : List Event → List Entry
book_of es = book_from beginning es
