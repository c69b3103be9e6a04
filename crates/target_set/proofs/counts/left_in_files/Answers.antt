use Rattle.std.proofs.Common.{arith, ap, ◌≡◌, ◌<◌}
use Rattle.target_set.specs.Listed.{listed_count, files_groups}
use Rattle.target_set.proofs.WalkLemmas.{files_part, none_so}
use Rattle.target_set.proofs.counts.left_in_files.Goals as goal

pub returns-in_err-left-clause-too_few : goal.returns-in_err-left-clause-too_few
returns-in_err-left-clause-too_few c =
    let part = files_part c.args.files.now c.loop-file.file-index c.file-item.result c.loop-file-test.true c.file-item.is in
    let same : listed_count c.as_slice.result.now ≡ listed_count c.file-item.result.groups = ap listed_count c.as_slice.ensures in
    let less : c.args.left < listed_count (files_groups c.args.files.now) = omega (arith, part, same, c.in_err-left.ensures.too_few, c.loop-file.invariant) in
    none_so (c.args.left < listed_count (files_groups c.args.files.now)) less c.from_residual.result
