use mir.Syntax.{named}
use denote.Param.Send.{param_send}
use Rattle.station.proofs.SharingLemmas.{crew_back, crew_send}
use Rattle.station.proofs.crew.work_and_tick.Goals as goal
use Rattle.station.proofs.crew.work_and_tick.Lts as lts

pub join-requires-send-F : goal.join-requires-send-F
join-requires-send-F g c κs within =
    let taken = crew_send g.row.L g.row.B g.B.Asked g.L.Ledger g.row.R g.row.F 4 (named 6) (named 7) κs.1.1.1.1.1.1.0 κs.1.1.1.1.1.1.1.0 c.type_bounds.send-L c.type_bounds.send-B c.type_bounds.sync-R c.type_bounds.send-F in
    param_send 1 (lts.arg-0-1 g.row.L g.row.B g.row.R g.row.K g.row.F g.L.laws g.B.laws g.R.laws g.K.laws g.F.laws g.L.Ledger g.L.Ledger-dict g.B.Asked g.B.Asked-dict g.R.Threads g.R.Threads-dict g.R.Wait g.R.Wait-dict g.K.Clock g.K.Clock-dict g.F.Fetch g.F.Fetch-dict g.K.Destruct-dict g.F.Destruct-dict κs) (record { owned = taken.owned; leaving = taken.leaving })

pub join-requires-send-A : goal.join-requires-send-A
join-requires-send-A g c κs within =
    let back = crew_back g.row.L g.row.B g.B.Asked g.L.Ledger g.row.F 4 c.type_bounds.send-L c.type_bounds.send-B c.type_bounds.send-F in
    param_send 3 (lts.arg-0-3 g.row.L g.row.B g.row.R g.row.K g.row.F g.L.laws g.B.laws g.R.laws g.K.laws g.F.laws g.L.Ledger g.L.Ledger-dict g.B.Asked g.B.Asked-dict g.R.Threads g.R.Threads-dict g.R.Wait g.R.Wait-dict g.K.Clock g.K.Clock-dict g.F.Fetch g.F.Fetch-dict g.K.Destruct-dict g.F.Destruct-dict κs) (record { owned = back.owned; leaving = back.leaving })
