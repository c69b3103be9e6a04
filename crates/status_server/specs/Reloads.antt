-- What a reload is answered ("Management API" of the Prometheus documentation: reload; "Configuration", what a reload does).
use Rattle.std.specs.Prelude.{◌≡◌, ◌<◌, ◌≤◌, ℕ, pos, Bool, List, [], ◌∷◌, ◌++◌, length, codes, Option, Some, None, IfSome, IsSomeAnd}
use Rattle.control_lines.specs.Faults.{fault_text}
use Rattle.journal_text.specs.Events.{now_of}
use Rattle.journal_text.specs.declared.events.Event.{Event}
use Rattle.journal_text.specs.declared.events.Event.TheVariants.{Load}
use Rattle.outside.specs.Objects.{file_of}
use Rattle.outside.specs.Sizes.{most_text_bytes}
use Rattle.outside.specs.declared.objects.StoredFile.{StoredFile}
use Rattle.scrape_machine.specs.Machine.{answer, world_of}
use Rattle.scrape_machine.specs.declared.answers.Answer.{Answer}
use Rattle.scrape_machine.specs.declared.answers.Answer.TheVariants as answers
use Rattle.status_server.specs.Replies.{reply}
use Rattle.status_server.specs.declared.reloads.Reload.{Reload}
use Rattle.status_server.specs.declared.reloads.Reload.TheVariants.{Loaded, Absent, TooLong, Refused, Halted}
use Rattle.status_server.specs.declared.replies.Status.{Status}
use Rattle.status_server.specs.declared.replies.Status.TheVariants.{Done, Failed}

-- where a server finds its configuration: files, where they are known, and the name of one of them
pub record Site : Type 0 where
  pub files : Option (List StoredFile)
  pub file : List ℕ

-- what a server answers from: a journal, and where it finds its configuration
pub record Basis : Type 0 where
  pub journal : List Event
  pub site : Site

abbrev pub basis : List Event → Site → Basis
basis journal site = record { journal = journal; site = site }

-- there is no such file; it is longer than a configuration may be; it has this text
abbrev pub HasNone : Site → Type 0
HasNone site = IfSome site.files (λ files. file_of site.file files ≡ None)

abbrev pub HasLonger : Site → Type 0
HasLonger site = IfSome site.files (λ files. IsSomeAnd (file_of site.file files) (λ text. most_text_bytes < length text))

abbrev pub HasText : Site → List ℕ → Type 0
HasText site text = IfSome site.files (λ files. file_of site.file files ≡ Some text)

-- what a load came to, by its answer; other answers are none of a load
abbrev pub loaded : Answer → Reload
loaded (answers.Refused fault) = Refused fault
loaded answers.Halted = Halted
loaded _ = Loaded

-- the event of a load that follows a journal, at its last moment
abbrev pub load_after : List Event → List ℕ → Event
load_after es text = Load (pos (now_of es)) text

-- what a reload came to after a journal, and the loads that it made
abbrev pub CameTo : List Event → Site → Reload → List Event → Type 0
CameTo es site Absent loads = HasNone site × (loads ≡ [])
CameTo es site TooLong loads = HasLonger site × (loads ≡ [])
CameTo es site r loads =
    (text : List ℕ) × HasText site text × (length text ≤ most_text_bytes) × (loads ≡ load_after es text ∷ [])
    × (r ≡ loaded (answer (world_of es) (load_after es text)))

-- the status and the body of its reply
abbrev pub status_of : Reload → Status
status_of Loaded = Done
status_of _ = Failed

abbrev pub body_of : Reload → List ℕ
body_of Loaded = []
body_of Absent = codes "absent\n"
body_of TooLong = codes "too long\n"
body_of (Refused fault) = codes "refused " ++ (fault_text fault ++ codes "\n")
body_of Halted = codes "halted\n"

abbrev pub reload_reply : Bool → Reload → List ℕ
reload_reply closes r = reply (status_of r) closes (body_of r)

-- a reload after a journal is answered so, and makes these loads
pub record IsReload (es : List Event) (site : Site) (closes : Bool) (text : List ℕ) (loads : List Event) : Type 0 where
  pub came : Reload
  pub so : CameTo es site came loads
  pub text_is : text ≡ reload_reply closes came
