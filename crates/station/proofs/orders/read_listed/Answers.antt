use Rattle.std.proofs.Common.{◌≡◌, List, subst}
use Rattle.std.specs.Prelude.{All, IfSome}
use Rattle.std.proofs.lemmas.List.Sorted.{All-permutation}
use Rattle.turn_lock.specs.Passes.{own_of}
use Rattle.outside.specs.declared.objects.StoredFile.{StoredFile}
use Rattle.run_lock.specs.Callers.{jobs_known}
use Rattle.run_lock.specs.Listed.{IsListed, listed_in}
use Rattle.run_lock.specs.declared.marks.Entry.{Entry}
use Rattle.station.specs.Control.{Orders, rereads}
use Rattle.station.proofs.OrderLemmas.{all_reread, if_ok_is}
use Rattle.station.proofs.orders.read_listed.Goals as goal

pub read_backwards-requires-clause-fit : goal.read_backwards-requires-clause-fit
read_backwards-requires-clause-fit g c =
    All-permutation IsListed c.in-Ok.listed.items c.reverse.new.self.items c.reverse.ensures.permutation
    (if_ok_is (λ v. All IsListed v.items) c.listed-listed.result c.in-Ok.listed c.in-Ok.is c.listed-listed.ensures.fit)

pub returns-clause-orders : goal.returns-clause-orders
returns-clause-orders g c =
    let o = (g.S.Shelf.seen c.args.shelf.now).files in
    let jobs = jobs_known g.B.Asked.start (own_of c.args.seat.now.pass) in
    let d = c.read_backwards.result in
    let w = own_of c.read_backwards.new.seat.pass in
    subst (λ (v : List Entry). IfSome o (λ (files : List StoredFile). Orders d (rereads files jobs) v w)) c.listed-listed.ensures.own
    (all_reread d o jobs (own_of c.listed-listed.new.self.pass) w c.in-Ok.listed.items c.reverse.new.self.items
    (if_ok_is (λ v. v.items ≡ listed_in jobs) c.listed-listed.result c.in-Ok.listed c.in-Ok.is c.listed-listed.ensures.listed) c.reverse.ensures.items c.read_backwards.ensures.orders)
