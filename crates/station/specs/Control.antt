-- What the caller of a run does, and says on the error output: first it reads the listed files of the configuration in force, and then it does
-- the lines of the control input ("Configuration" of the Prometheus documentation: file_sd_config, and what a reload does).
use Rattle.std.specs.Prelude.{◌≡◌, ◌≢◌, ℕ, ◌+◌, ◌-◌, pos, List, [], ◌∷◌, ◌++◌, length, take, drop, map, nat_lt, Option, Some, None, Result, Ok, Err, IfSome, if◌then◌else◌}
use Rattle.config_fields.specs.declared.fault.ConfFault.{ConfFault}
use Rattle.control_lines.specs.Commands.{command_in}
use Rattle.control_lines.specs.Messages.{said_of}
use Rattle.control_lines.specs.declared.commands.Command.{Command}
use Rattle.control_lines.specs.declared.commands.Command.TheVariants as command
use Rattle.control_lines.specs.declared.messages.Refusal.{Refusal}
use Rattle.control_lines.specs.declared.messages.Refusal.TheVariants.{NotACommand, Absent, TooLong, Refused, NoJob, NoFile}
use Rattle.jobs_in_force.specs.Jobs.{Unlisted, UnknownJob, UnknownFile, Faulty, in_force, loaded, updated}
use Rattle.jobs_in_force.specs.declared.jobs.Filed.{Filed}
use Rattle.jobs_in_force.specs.declared.jobs.InForce.{InForce}
use Rattle.journal_text.specs.declared.events.Event.{Event}
use Rattle.journal_text.specs.declared.events.Event.TheVariants.{Halt}
use Rattle.outside.specs.Objects.{ShelfSeen, SinkSeen, Use, Adds, AddsFront, Rose, file_of}
use Rattle.outside.specs.Sizes.{most_text_bytes}
use Rattle.outside.specs.Sources.{SourceSeen}
use Rattle.outside.specs.declared.objects.StoredFile.{StoredFile}
use Rattle.run_lock.specs.Callers.{jobs_after, jobs_known}
use Rattle.run_lock.specs.Entries.{entry}
use Rattle.run_lock.specs.Held.{events_of}
use Rattle.run_lock.specs.Listed.{listed_in}
use Rattle.run_lock.specs.declared.listed.Listed.{Listed}
use Rattle.run_lock.specs.declared.tasks.ControlOrder.{ControlOrder}
use Rattle.run_lock.specs.declared.tasks.ControlOrder.TheVariants.{Load, Update}
use Rattle.run_lock.specs.Tasks.{event_at, order_brought}
use Rattle.scrape_config.specs.declared.conf.Group.{Group}
use Rattle.scrape_machine.specs.Machine.{world_of}
use Rattle.run_lock.specs.declared.marks.Entry.{Entry}
use Rattle.station.specs.Crews.{Behind, behind_of}
use Rattle.station.specs.InputLines.{all_lines, ended_lines, open_line, unless_empty}
use Rattle.station.specs.declared.reader.Reader.{Reader}
use Rattle.station.specs.declared.ends.RunEnd.{RunEnd}
use Rattle.station.specs.declared.ends.RunEnd.TheVariants.{Done, ReadFault, WriteFault, NoMemory, TooLong as TooMuch}
use Rattle.station.specs.declared.ends.Stop.{Stop}
use Rattle.station.specs.declared.ends.Stop.TheVariants as stop
use Rattle.station.specs.declared.orders.FileAnswer.{FileAnswer}
use Rattle.station.specs.declared.orders.FileAnswer.TheVariants as found

-- what a file of a name gives: its text, or why it gives none
abbrev pub found_of : Option (List ℕ) → FileAnswer
found_of None = found.Refusal Absent
found_of (Some text) = if nat_lt most_text_bytes (length text) then found.Refusal TooLong else found.Text text

abbrev pub found_in : List StoredFile → List ℕ → FileAnswer
found_in files name = found_of (file_of name files)

-- an update for each listed file that is there and not too long
abbrev pub update_of : Listed → FileAnswer → List ControlOrder
update_of l (found.Text text) = Update l.job l.file text ∷ []
update_of l (found.Refusal why) = []

abbrev pub update_in : List StoredFile → Listed → List ControlOrder
update_in files l = update_of l (found_in files l.file)

abbrev pub updates_in : List StoredFile → List Listed → List ControlOrder
updates_in files [] = []
updates_in files (l ∷ ls) = update_in files l ++ updates_in files ls

-- the listed files of the configuration in force are read
abbrev pub rereads : List StoredFile → List InForce → List ControlOrder
rereads files jobs = updates_in files (listed_in jobs)

-- what a line does: its orders, and why it doesn't succeed, if it doesn't
pub record Doing : Type 0 where
  pub orders : List ControlOrder
  pub why : Option Refusal

abbrev pub doing : List ControlOrder → Option Refusal → Doing
doing orders why = record { orders = orders; why = why }

-- a load; where it is taken, the listed files of the new configuration are read
abbrev pub load_taken : List StoredFile → List ℕ → Result (List Filed) ConfFault → Doing
load_taken files text (Err fault) = doing (Load text ∷ []) (Some (Refused fault))
load_taken files text (Ok fs) = doing (Load text ∷ rereads files (map in_force fs)) None

abbrev pub load_does : List StoredFile → List InForce → FileAnswer → Doing
load_does files jobs (found.Refusal why) = doing [] (Some why)
load_does files jobs (found.Text text) = load_taken files text (loaded jobs text)

-- an update of a file of a job
abbrev pub update_refused : Result (List Group) Unlisted → Option Refusal
update_refused (Ok groups) = None
update_refused (Err UnknownJob) = Some NoJob
update_refused (Err UnknownFile) = Some NoFile
update_refused (Err (Faulty fault)) = Some (Refused fault)

abbrev pub update_does : List InForce → List ℕ → List ℕ → FileAnswer → Doing
update_does jobs job file (found.Refusal why) = doing [] (Some why)
update_does jobs job file (found.Text text) = doing (Update job file text ∷ []) (update_refused (updated jobs job file text))

-- a line, where these jobs are in force
abbrev pub command_does : List StoredFile → List InForce → Option Command → Doing
command_does files jobs None = doing [] (Some NotACommand)
command_does files jobs (Some (command.Load file)) = load_does files jobs (found_in files file)
command_does files jobs (Some (command.Targets job file)) = update_does jobs job file (found_in files file)

abbrev pub line_does : List StoredFile → List InForce → List ℕ → Doing
line_does files jobs line = command_does files jobs (command_in line)

-- what some lines did: their orders, and what was said of them
pub record Did : Type 0 where
  pub orders : List ControlOrder
  pub said : List ℕ

abbrev pub did : List ControlOrder → List ℕ → Did
did orders said = record { orders = orders; said = said }

abbrev pub both : Did → Did → Did
both a b = did (a.orders ++ b.orders) (a.said ++ b.said)

abbrev pub line_did : List StoredFile → List InForce → ℕ → List ℕ → Did
line_did files jobs n line = did (line_does files jobs line).orders (said_of n (line_does files jobs line).why)

-- the lines from number n on, one after another
abbrev pub lines_did : List StoredFile → List InForce → ℕ → List (List ℕ) → Did
lines_did files jobs n [] = did [] []
lines_did files jobs n (line ∷ lines) = both (line_did files jobs n line) (lines_did files (jobs_after jobs (line_does files jobs line).orders) (n + 1) lines)

-- how much control may give: 1 MiB
abbrev pub most_control_bytes : ℕ
most_control_bytes = 1048576

-- an order that was carried out, and the last moment before its event
pub record Ordered : Type 0 where
  pub order : ControlOrder
  pub last : ℕ

abbrev pub order_of : Ordered → ControlOrder
order_of o = o.order

abbrev pub entry_for : Ordered → Entry
entry_for o = entry 0 (order_brought o.order o.last)

-- the caller's entries after these further orders, and nothing else
pub record HasOrdered (orders : List ControlOrder) (v w : List Entry) : Type 0 where
  pub carried : List Ordered
  pub these : map order_of carried ≡ orders
  pub added : w ≡ v ++ map entry_for carried

-- the same after a front of them
pub record HasOrderedSome (orders : List ControlOrder) (v w : List Entry) : Type 0 where
  pub front : List ControlOrder
  pub more : List ControlOrder
  pub whole : orders ≡ front ++ more
  pub has : HasOrdered front v w

-- where something stopped it: after a front of them; where memory ran out nothing is said
abbrev pub StoppedIn : Stop → List ControlOrder → List Entry → List Entry → Type 0
StoppedIn stop.NoMemory orders v w = Unit {0}
StoppedIn s orders v w = HasOrderedSome orders v w

abbrev pub Orders : {A : Type 0} → Result A Stop → List ControlOrder → List Entry → List Entry → Type 0
Orders (Ok x) orders v w = HasOrdered orders v w
Orders (Err s) orders v w = StoppedIn s orders v w

abbrev pub Does : Result (Option Refusal) Stop → Doing → List Entry → List Entry → Type 0
Does (Ok why) d v w = HasOrdered d.orders v w × (why ≡ d.why)
Does (Err s) d v w = StoppedIn s d.orders v w

-- what the caller did and said, by its entries and the error output, each before and after
pub record HasDone (d : Did) (own : Use (List Entry)) (err : Use SinkSeen) : Type 0 where
  pub orders : HasOrdered d.orders own.before own.after
  pub said : Adds d.said err

-- a front of something done: of its orders, and of what it says
pub record IsFrontOf (x d : Did) : Type 0 where
  pub rest : Did
  pub orders : d.orders ≡ x.orders ++ rest.orders
  pub said : d.said ≡ x.said ++ rest.said

pub record HasBegun (d : Did) (own : Use (List Entry)) (err : Use SinkSeen) : Type 0 where
  pub part : Did
  pub front : IsFrontOf part d
  pub done : HasDone part own err

abbrev pub StoppedDoing : Stop → Did → Use (List Entry) → Use SinkSeen → Type 0
StoppedDoing stop.NoMemory d own err = Unit {0}
StoppedDoing s d own err = HasBegun d own err

abbrev pub DoesSo : {A : Type 0} → Result A Stop → Did → Use (List Entry) → Use SinkSeen → Type 0
DoesSo (Ok x) d own err = HasDone d own err
DoesSo (Err s) d own err = StoppedDoing s d own err

-- what a message adds: a front of it, where writing it failed
abbrev pub Says : {A : Type 0} → Result A Stop → List ℕ → Use SinkSeen → Type 0
Says (Ok x) text err = Adds text err
Says (Err stop.NoMemory) text err = Unit {0}
Says (Err s) text err = AddsFront text err

-- the reader after these bytes: what follows their last line feed is its line, and each line feed ended one
pub record HasRead (bytes : List ℕ) (before after : Reader) : Type 0 where
  pub line : after.line.items ≡ open_line (before.line.items ++ bytes)
  pub before_is : after.before ≡ before.before + length (ended_lines (before.line.items ++ bytes))

-- what is done with them: each line that ends among them
abbrev pub piece_did : List StoredFile → List InForce → Reader → List ℕ → Did
piece_did files jobs r bytes = lines_did files jobs (r.before + 1) (ended_lines (r.line.items ++ bytes))

abbrev pub last_did : List StoredFile → List InForce → Reader → Did
last_did files jobs r = lines_did files jobs (r.before + 1) (unless_empty r.line.items)

-- how a loop ends with the last line
abbrev pub LastDoes : RunEnd → Did → Use (List Entry) → Use SinkSeen → Type 0
LastDoes Done d own err = HasDone d own err
LastDoes NoMemory d own err = Unit {0}
LastDoes e d own err = HasBegun d own err

-- the lines of the control input: all, or those that end within its first MiB where it has more
abbrev pub control_lines : List ℕ → List (List ℕ)
control_lines bytes = if nat_lt most_control_bytes (length bytes) then ended_lines (take most_control_bytes bytes) else all_lines bytes

-- the lines that ended within what it gave
abbrev pub given_lines : Use SourceSeen → List ℕ → List (List ℕ)
given_lines control bytes = ended_lines (take (control.after.given - control.before.given) bytes)

-- the objects of the caller before and after
pub record CallerUse : Type 0 where
  pub shelf : Use ShelfSeen
  pub control : Use SourceSeen
  pub err : Use SinkSeen

abbrev pub caller_use : Use ShelfSeen → Use SourceSeen → Use SinkSeen → CallerUse
caller_use shelf control err = record { shelf = shelf; control = control; err = err }

-- what was done by the end, where all lines come to `whole`, and those that control gave to `given`: all of it where nothing failed; a front where the
-- shelf or the sink failed; and where control alone failed, what its lines come to
abbrev pub Fits : RunEnd → Use ShelfSeen → Did → Did → Did → Type 0
Fits Done shelf whole given d = d ≡ whole
Fits ReadFault shelf whole given d = IsFrontOf d whole × (¬ Rose shelf.before.faults shelf.after.faults → d ≡ given)
Fits WriteFault shelf whole given d = IsFrontOf d whole
Fits TooMuch shelf whole given d = IsFrontOf d whole × (¬ Rose shelf.before.faults shelf.after.faults → d ≡ whole)
Fits NoMemory shelf whole given d = Unit {0}

-- what the caller does in all: it reads the listed files, and then does the lines
abbrev pub caller_did : List StoredFile → List InForce → List (List ℕ) → Did
caller_did files jobs lines = both (did (rereads files jobs) []) (lines_did files (jobs_after jobs (rereads files jobs)) 1 lines)

-- what it came to by its end
pub record Came (end : RunEnd) (u : CallerUse) (whole given : Did) (own : Use (List Entry)) : Type 0 where
  pub what : Did
  pub fits : Fits end u.shelf whole given what
  pub done : HasDone what own u.err

-- where memory didn't run out, it is known what files the shelf has, and what control has
abbrev pub WhereKnown : RunEnd → CallerUse → (List StoredFile → List ℕ → Type 0) → Type 0
WhereKnown end u P = end ≢ NoMemory → IfSome u.shelf.before.files (λ files. IfSome u.control.before.left (P files))

-- what the reading of control did, and what the caller did in all
abbrev pub ControlDid : List Event → RunEnd → CallerUse → Use (List Entry) → Type 0
ControlDid start end u own = WhereKnown end u (λ files bytes.
    let doing = lines_did files (jobs_known start own.before) 1 in
    Came end u (doing (control_lines bytes)) (doing (given_lines u.control bytes)) own)

abbrev pub CallerDid : List Event → RunEnd → CallerUse → Use (List Entry) → Type 0
CallerDid start end u own = WhereKnown end u (λ files bytes.
    let doing = caller_did files (jobs_known start own.before) in
    Came end u (doing (control_lines bytes)) (doing (given_lines u.control bytes)) own)

-- an event that the caller brought, behind the last moment
abbrev pub event_for : Ordered → Event
event_for o = event_at o.last o.order

abbrev pub behind_for : Ordered → Behind
behind_for o = record { last = o.last; event = event_for o }

-- the events of the caller's seat are those that came before the run, what it ordered, each at the moment of the event before, and the halt at the
-- last moment; nothing else; and it said what it had to say
pub record RecordsControl (start es : List Event) (seats : List ℕ) (d : Did) (err : Use SinkSeen) : Type 0 where
  pub carried : List Ordered
  pub halted : ℕ
  pub orders : map order_of carried ≡ d.orders
  pub events : events_of 0 es seats ≡ start ++ (map event_for carried ++ Halt (pos halted) ∷ [])
  pub moments : drop (length start) (behind_of 0 0 es seats) ≡ map behind_for carried ++ record { last = halted; event = Halt (pos halted) } ∷ []
  pub said : Adds d.said err

abbrev pub RecordsCaller : List Event → RunEnd → CallerUse → List Event → List ℕ → Type 0
RecordsCaller start end u es seats = WhereKnown end u (λ files bytes.
    let doing = caller_did files (world_of start).jobs in
    (what : Did) × Fits end u.shelf (doing (control_lines bytes)) (doing (given_lines u.control bytes)) what
    × RecordsControl start es seats what u.err)
