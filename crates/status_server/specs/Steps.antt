-- What the bytes of a connection that wait come to.
use Rattle.std.specs.Prelude.{◌≡◌, ◌≢◌, ◌<◌, ◌≤◌, ℕ, Bool, if◌then◌else◌, false, List, [], ◌++◌, length, drop, Option, Some, None}
use Rattle.journal_text.specs.declared.events.Event.{Event}
use Rattle.outside.specs.Objects.{ShelfSeen, SinkSeen, Use, Took, Cut, Rose, IsUntouched}
use Rattle.request_heads.specs.Fronts.{HeadAt, IsTorn}
use Rattle.status_server.specs.Connections.{Answered, AreFirst, Exchange, IsAnswered, IsBegun, IsClosed, IsExchange, IsLast, Outcome, ends, outcome}
use Rattle.request_heads.specs.declared.fronts.Request.{Request}
use Rattle.request_heads.specs.declared.pages.Page.{Page}
use Rattle.status_server.specs.Answers as answers
use Rattle.status_server.specs.Reloads.{Basis, CameTo, Site}
use Rattle.status_server.specs.declared.reloads.Reload.{Reload}
use Rattle.status_server.specs.declared.connections.Step.{Step}
use Rattle.status_server.specs.declared.connections.Step.TheVariants.{GoesOn, Ends, Waits}
use Rattle.status_server.specs.declared.connections.Stop.{Stop}
use Rattle.status_server.specs.declared.connections.Stop.TheVariants.{ReadFault, WriteFault, NoMemory}

-- where a server finds its configuration
abbrev pub site : ShelfSeen → List ℕ → Site
site shelf file = record { files = shelf.files; file = file }

-- a reload came to that, with this journal behind it
pub record Reloaded (es : List Event) (site : Site) (r : Reload) (after : List Event) : Type 0 where
  pub loads : List Event
  pub came : CameTo es site r loads
  pub journal : after ≡ es ++ loads

-- a request was answered so, with this journal behind it
pub record AnsweredBy (b : Basis) (r : Request) (reply : List ℕ) (after : List Event) : Type 0 where
  pub loads : List Event
  pub is : IsAnswered b r.page r.query.now r.closes (outcome reply loads)
  pub journal : after ≡ b.journal ++ loads

-- what follows behind its reply
abbrev pub behind : Page → Bool → ℕ → Step
behind page closes len = if answers.ends page closes then Ends else GoesOn len

-- a request at the front was answered, whose head has so many bytes, and the connection goes on
pub record GoesSo (b : Basis) (bytes : List ℕ) (len : ℕ) (o : Outcome) : Type 0 where
  pub exchange : Exchange
  pub head : HeadAt bytes exchange.head (drop len bytes)
  pub goes_on : ends exchange.head ≡ false
  pub is : IsExchange b exchange
  pub reply_is : o.replies ≡ exchange.reply
  pub loads_are : o.loads ≡ exchange.loads
  pub some : 0 < len
  pub within : len ≤ length bytes

-- nothing can be answered yet
pub record WaitsSo (bytes : List ℕ) (o : Outcome) : Type 0 where
  pub torn : IsTorn bytes
  pub reply_is : o.replies ≡ []
  pub loads_are : o.loads ≡ []

abbrev pub IsStep : Basis → List ℕ → Step → Outcome → Type 0
IsStep b bytes (GoesOn len) o = GoesSo b bytes len o
IsStep b bytes Ends o = IsLast b bytes o
IsStep b bytes Waits o = WaitsSo bytes o

-- a step was made, with this journal behind it
pub record Stepped (b : Basis) (bytes : List ℕ) (step : Step) (reply : List ℕ) (after : List Event) : Type 0 where
  pub loads : List Event
  pub is : IsStep b bytes step (outcome reply loads)
  pub journal : after ≡ b.journal ++ loads

-- the shelf is as before, but for the counts of what it lacks
pub record ShelfStays (u : Use ShelfSeen) : Type 0 where
  pub files : u.after.files ≡ u.before.files
  pub faults : u.after.faults ≡ u.before.faults

-- the file of the configuration couldn't be read
pub record ShelfFailed (u : Use ShelfSeen) : Type 0 where
  pub files : u.after.files ≡ u.before.files
  pub faults : Rose u.before.faults u.after.faults

abbrev pub ShelfBy : Stop → Use ShelfSeen → Type 0
ShelfBy ReadFault u = ShelfFailed u
ShelfBy _ u = ShelfStays u

-- the journal behind a stop: out of memory, a load may have joined it whose reply was not put
abbrev pub JournalBy : Stop → List Event → List Event → Type 0
JournalBy NoMemory es after = (more : List Event) × (after ≡ es ++ more)
JournalBy _ es after = after ≡ es

-- no reply was made
pub record StopsAnswer (stop : Stop) (es after : List Event) (shelf : Use ShelfSeen) : Type 0 where
  pub no_put : stop ≢ WriteFault
  pub journal : JournalBy stop es after
  pub shelf_by : ShelfBy stop shelf

-- a step that was put out
pub record PutStep (b : Basis) (bytes : List ℕ) (step : Step) (after : List Event) (sink : Use SinkSeen) : Type 0 where
  pub reply : List ℕ
  pub stepped : Stepped b bytes step reply after
  pub put : Took reply sink

-- one whose reply wasn't put out whole
pub record CutStep (b : Basis) (bytes : List ℕ) (after : List Event) (sink : Use SinkSeen) : Type 0 where
  pub step : Step
  pub reply : List ℕ
  pub stepped : Stepped b bytes step reply after
  pub cut : Cut reply sink

-- none
pub record NoStep (stop : Stop) (es after : List Event) (sink : Use SinkSeen) : Type 0 where
  pub sink_same : IsUntouched sink
  pub journal : JournalBy stop es after

abbrev pub StopsStep : Stop → Basis → List ℕ → List Event → Use SinkSeen → Type 0
StopsStep WriteFault b bytes after sink = CutStep b bytes after sink
StopsStep stop b bytes after sink = NoStep stop b.journal after sink

-- what was answered of some bytes, and the journal behind that: all but the end, from this place on; or all, and the connection ended
pub record Reached (b : Basis) (bytes : List ℕ) (len : ℕ) (after : List Event) (sink : Use SinkSeen) : Type 0 where
  pub replies : List ℕ
  pub loads : List Event
  pub answered : Answered b bytes (drop len bytes) (outcome replies loads)
  pub torn : IsTorn (drop len bytes)
  pub within : len ≤ length bytes
  pub put : Took replies sink
  pub journal : after ≡ b.journal ++ loads

pub record Ended (b : Basis) (bytes : List ℕ) (after : List Event) (sink : Use SinkSeen) : Type 0 where
  pub replies : List ℕ
  pub loads : List Event
  pub closed : IsClosed b bytes (outcome replies loads)
  pub put : Took replies sink
  pub journal : after ≡ b.journal ++ loads

abbrev pub Reaches : Basis → List ℕ → Option ℕ → List Event → Use SinkSeen → Type 0
Reaches b bytes None after sink = Ended b bytes after sink
Reaches b bytes (Some len) after sink = Reached b bytes len after sink

-- what a stop leaves: whole replies to the first requests; or a front of theirs, where the sink failed
pub record StoppedWhole (stop : Stop) (b : Basis) (bytes : List ℕ) (after : List Event) (sink : Use SinkSeen) : Type 0 where
  pub replies : List ℕ
  pub loads : List Event
  pub begun : IsBegun b bytes (outcome replies loads)
  pub put : Took replies sink
  pub journal : JournalBy stop (b.journal ++ loads) after

pub record StoppedCut (b : Basis) (bytes : List ℕ) (after : List Event) (sink : Use SinkSeen) : Type 0 where
  pub replies : List ℕ
  pub loads : List Event
  pub first : AreFirst b bytes (outcome replies loads)
  pub cut : Cut replies sink
  pub journal : after ≡ b.journal ++ loads

abbrev pub StopsIn : Stop → Basis → List ℕ → List Event → Use SinkSeen → Type 0
StopsIn WriteFault b bytes after sink = StoppedCut b bytes after sink
StopsIn stop b bytes after sink = StoppedWhole stop b bytes after sink
