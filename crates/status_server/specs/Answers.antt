-- What a request is answered ("HTTP API" of the Prometheus documentation, targets; RFC 9110, sections 15.5.1, 15.5.5 and 15.5.6, for what isn't).
use Rattle.std.specs.Prelude.{ℕ, Bool, true, false, ◌||◌, List, []}
use Rattle.journal_text.specs.declared.events.Event.{Event}
use Rattle.request_heads.specs.declared.pages.Page.{Page}
use Rattle.request_heads.specs.declared.pages.Page.TheVariants as pages
use Rattle.status_server.specs.Replies.{reply}
use Rattle.status_server.specs.Targets.{page}
use Rattle.status_server.specs.declared.replies.Status.{Status}
use Rattle.status_server.specs.declared.replies.Status.TheVariants.{Done, BadRequest, NotFound, OtherMethod}

-- a page is answered by itself: for federation a query is asked, and a reload is answered by what it comes to
abbrev pub is_plain : Page → Bool
is_plain pages.Federate = false
is_plain pages.Reload = false
is_plain _ = true

-- the status of the answer to a request for such a page
abbrev pub status_of : Page → Status
status_of pages.Targets = Done
status_of pages.OtherMethod = OtherMethod
status_of pages.Body = BadRequest
status_of _ = NotFound

-- a request with a body is answered, and then the connection ends
abbrev pub has_body : Page → Bool
has_body pages.Body = true
has_body _ = false

abbrev pub ends : Page → Bool → Bool
ends p closes = closes || has_body p

-- the body after a journal: the page of the targets, or nothing
abbrev pub body_of : List Event → Page → List ℕ
body_of es pages.Targets = page es
body_of es _ = []

-- the answer after a journal to a request for a page, which says whether the connection ends
abbrev pub answer : List Event → Page → Bool → List ℕ
answer es p closes = reply (status_of p) (ends p closes) (body_of es p)
