use Rattle.std.proofs.Common.{refl}
use Rattle.instant_view.proofs.PlaceLemmas.{threaded_same}
use Rattle.instant_view.proofs.threads.Threads.make_room.Goals as goal

pub returns-in_err-reserve-clause-threaded : goal.returns-in_err-reserve-clause-threaded
returns-in_err-reserve-clause-threaded c =
    threaded_same c.args.self.now (record { kept = c.reserve.new.self; links = c.args.self.now.links; ends = c.args.self.now.ends; named = c.args.self.now.named }) c.requires c.reserve.ensures.items refl (λ s. refl) c.requires.named

pub returns-in_err-reserve-2-clause-threaded : goal.returns-in_err-reserve-2-clause-threaded
returns-in_err-reserve-2-clause-threaded c =
    threaded_same c.args.self.now (record { kept = c.reserve.new.self; links = c.reserve-2.new.self; ends = c.args.self.now.ends; named = c.args.self.now.named }) c.requires c.reserve.ensures.items
    c.reserve-2.ensures.items (λ s. refl) c.requires.named

pub returns-clause-threaded : goal.returns-clause-threaded
returns-clause-threaded c =
    threaded_same c.args.self.now (record { kept = c.reserve.new.self; links = c.reserve-2.new.self; ends = c.make_places.new.ends; named = c.make_places.new.named }) c.requires c.reserve.ensures.items
    c.reserve-2.ensures.items c.make_places.ensures.same c.make_places.ensures.named
