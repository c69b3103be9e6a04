use Rattle.std.specs.Prelude.{map}
use Rattle.label_set.specs.Borrowed.{pair_of}
use Rattle.label_conflict.specs.Merging.{settled}
use Rattle.label_conflict.proofs.NameLemmas.{one_more, named_next}
use Rattle.label_conflict.proofs.gather.new_names.Goals as goal

pub loop-place-preserved : goal.loop-place-preserved
loop-place-preserved c =
    let ls = c.args.conflicts.now in
    let all = settled (map pair_of ls) c.args.labels.now in
    let keys = c.loop-place.names.keys in
    record {
      count = one_more ls c.loop-place.place _ c.args.labels.now all keys c.insert.new.self.keys c.in_ok-name.name c.loop-place-test.true c.loop-place.invariant.count c.in_ok-name.ensures c.in_ok-insert.ensures.keys;
      names = named_next ls c.loop-place.place _ c.args.labels.now all keys c.insert.new.self.keys c.in_ok-name.name c.loop-place-test.true c.loop-place.invariant.count c.in_ok-name.ensures c.in_ok-insert.ensures.keys
          c.loop-place.invariant.names;
    }
