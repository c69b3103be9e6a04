use Rattle.std.proofs.Common.{arith, ap, ◌≡◌}
use Rattle.target_set.specs.Listed.{listed_count}
use Rattle.target_set.proofs.WalkLemmas.{files_part}
use Rattle.target_set.proofs.walk.push_files.Goals as goal

pub returns-in_err-push_groups-clause-at_most : goal.returns-in_err-push_groups-clause-at_most
returns-in_err-push_groups-clause-at_most g c =
    let part = files_part c.args.files.now c.loop-file.file-index c.file-item.result c.loop-file-test.true c.file-item.is in
    let same : listed_count c.as_slice-groups.result.now ≡ listed_count c.file-item.result.groups = ap listed_count c.as_slice-groups.ensures in
    omega (arith, part, same, c.in_err-push_groups.ensures.at_most, c.loop-file.invariant.steps)
