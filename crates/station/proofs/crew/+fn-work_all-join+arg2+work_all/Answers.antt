use Rattle.std.proofs.Common.{◌≡◌, ◌∙◌, ◌+◌, length, subst, sym, arith}
use mir.Syntax.{named}
use denote.Param.Send.{param_send}
use Rattle.run_lock.specs.Seats.{AreOwn}
use Rattle.station.proofs.CrewLemmas.{own_push, crew_push, and_parts}
use Rattle.station.proofs.SharingLemmas.{crew_back, crew_send}
use Rattle.station.proofs.crew.+fn-work_all-join+arg2+work_all.Goals as goal
use Rattle.station.proofs.crew.+fn-work_all-join+arg2+work_all.Lts-work_all as lts

pub returns-clause-own : goal.returns-clause-own
returns-clause-own g t c =
    let rest = c.join-rest.result.0 in
    let one = c.join-rest.result.1 in
    let many : 2 + c.len-place.result ≡ 2 + length rest.passes.items = omega (arith, rest.passes.ok.0, c.join-rest.ensures.first.1.1.1.0, c.len-place.ensures, c.requires.len, c.in-Some.ensures.len, c.pop_pass-pass.ensures.len) in
    subst (AreOwn c.args.lock.now 2) (sym c.push_reserved-2.ensures.items) (own_push c.args.lock.now 2 (2 + c.len-place.result) rest.passes.items one.pass many c.join-rest.ensures.first.1.0 c.join-rest.ensures.second.0)

pub returns-clause-worked : goal.returns-clause-worked
returns-clause-worked g t c =
    let rest = c.join-rest.result.0 in
    let one = c.join-rest.result.1 in
    λ both.
    let parts = and_parts rest.ended one.ended (sym c.both.ensures ∙ both) in
    crew_push
    g.F.Fetch.seen
    c.args.fetchers.items
    c.pop.new.self.items
    rest.fetchers.items
    c.push_reserved.new.self.items
    c.in-Some.fetcher
    one.fetcher
    rest.passes.items
    c.push_reserved-2.new.self.items
    one.pass
    c.len-place.result
    c.in-Some.ensures.items
    c.push_reserved.ensures.items
    c.push_reserved-2.ensures.items
    (c.len-place.ensures ∙ c.pop.new.self.ok.0)
    (c.join-rest.ensures.first.0 parts.0)
    (c.join-rest.ensures.second.1 parts.1)

pub join-rest-requires-send-F : goal.join-rest-requires-send-F
join-rest-requires-send-F g t c κs within =
    let bounds = c.requires-raw.1.1.1.1.1 in
    let taken = crew_send g.row.L g.row.B g.B.Asked g.L.Ledger g.row.R g.row.F 3 (named 6) (named 7) κs.1.1.1.1.1.1.0 κs.1.1.1.1.1.1.1.0 bounds.0 bounds.1.0 bounds.1.1.1.1.1.0 bounds.1.1.0 in
    param_send 1 (lts.arg-3-1 g.row.L g.row.B g.row.R g.row.F g.L.laws g.B.laws g.R.laws g.F.laws g.L.Ledger g.L.Ledger-dict g.B.Asked g.B.Asked-dict g.R.Threads g.R.Threads-dict g.R.Wait g.R.Wait-dict g.F.Fetch g.F.Fetch-dict g.F.Destruct-dict κs) (record { owned = taken.owned; leaving = taken.leaving })

pub join-rest-requires-send-A : goal.join-rest-requires-send-A
join-rest-requires-send-A g t c κs within =
    let bounds = c.requires-raw.1.1.1.1.1 in
    let back = crew_back g.row.L g.row.B g.B.Asked g.L.Ledger g.row.F 3 bounds.0 bounds.1.0 bounds.1.1.0 in
    param_send 3 (lts.arg-3-3 g.row.L g.row.B g.row.R g.row.F g.L.laws g.B.laws g.R.laws g.F.laws g.L.Ledger g.L.Ledger-dict g.B.Asked g.B.Asked-dict g.R.Threads g.R.Threads-dict g.R.Wait g.R.Wait-dict g.F.Fetch g.F.Fetch-dict g.F.Destruct-dict κs) (record { owned = back.owned; leaving = back.leaving })
