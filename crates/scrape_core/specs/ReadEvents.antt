-- Events whose replies are read.
use Rattle.std.specs.Prelude.{◌≡◌, ℕ, ℤ, List, false}
use Rattle.journal_text.specs.declared.events.Event.{Event}
use Rattle.journal_text.specs.declared.events.Event.TheVariants as event
use Rattle.label_set.specs.declared.forms.Form.{Form}
use Rattle.scrape_loop.specs.Replies.{page_in}
use Rattle.scrape_core.specs.Records.{is_finish}
use Rattle.scrape_core.specs.declared.read_events.EventParts.{EventParts}
use Rattle.scrape_core.specs.declared.read_events.EventParts.TheVariants.{Finish, Other}

-- an event as it came
abbrev pub event_of : EventParts → Event
event_of (Finish ticket took reply) = event.Finish ticket took reply
event_of (Other e) = e

-- an event beside which nothing is kept is no finish
abbrev pub IsUnread : EventParts → Type 0
IsUnread (Finish ticket took reply) = Unit {0}
IsUnread (Other e) = is_finish e ≡ false

-- the finish of a ticket after so many milliseconds, by a body of that form with a status
abbrev pub finish_with : ℕ → ℤ → Form → ℕ → List ℕ → Event
finish_with ticket took form status bytes = event.Finish ticket took (page_in form status bytes)
