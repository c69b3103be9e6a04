-- What contracts see of what fetches over HTTP.
use Rattle.std.specs.Prelude.{List, Some}
use Rattle.outside.specs.declared.calls.AnsweredCall.{AnsweredCall}
use Rattle.outside.specs.Calls.{answered_calls}
use Rattle.outside.specs.Fetches.{FetchSeen}
use Rattle.outside.specs.Links.{LinkSeen}

-- the calls that it answered, and the count of its link
abbrev pub fetch_seen : List AnsweredCall → LinkSeen → FetchSeen
fetch_seen answered link = record { calls = Some (answered_calls answered); faults = link.faults }
