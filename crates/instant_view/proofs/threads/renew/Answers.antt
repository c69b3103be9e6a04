use Rattle.std.proofs.Common.{◌≡◌, rules}
use Rattle.std.specs.BTreeMap.{keys}
use Rattle.instant_view.proofs.NoteLemmas.{place_still}
use Rattle.instant_view.proofs.threads.renew.Goals as goal

pub returns-in-Some-clause-others : goal.returns-in-Some-clause-others
returns-in-Some-clause-others c =
    let new = c.get_mut.follows.lender c.args.end in
    let same : keys new ≡ keys c.args.ends.now = search rules in
    place_still c.args.ends.now new same
