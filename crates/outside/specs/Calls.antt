-- The answered calls of an object, as contracts see them.
use Rattle.std.specs.Prelude.{List, map}
use Rattle.outside.specs.declared.calls.Call.{Call}
use Rattle.outside.specs.declared.calls.AnsweredCall.{AnsweredCall}

abbrev pub answered_call : AnsweredCall → Call
answered_call t = record { request = t.request.value; fetched = t.fetched.value }

abbrev pub answered_calls : List AnsweredCall → List Call
answered_calls ts = map answered_call ts
