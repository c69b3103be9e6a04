use Rattle.std.proofs.Common.{◌≡◌, Some, rules}
use Rattle.instant_view.specs.Selectors.{IsNameAmong, IsNameOf}
use Rattle.instant_view.proofs.RowLemmas.{if_some, its_name, name_of_matchers}
use Rattle.instant_view.proofs.selector.Selecting.name.Goals as goal

pub returns-in-Some : goal.returns-in-Some
returns-in-Some c = λ set.
    (let is : c.args.self.now.name ≡ Some c.in-Some.name = search rules in
    its_name c.args.self.now c.in-Some.name set is)

pub returns-in-None : goal.returns-in-None
returns-in-None c =
    let same : c.args.self.now.matchers ≡ c.deref.result.now = search rules in
    if_some (λ n. IsNameAmong c.deref.result.now n.now) (λ n. IsNameOf c.args.self.now n.now)
    (λ n. name_of_matchers c.args.self.now c.deref.result.now n.now same) c.name_among.result c.name_among.ensures
