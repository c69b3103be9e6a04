use Rattle.std.proofs.Common.{◌≡◌, [], List, ℕ, ap, map, subst}
use Rattle.std.specs.Prelude.{IfOk, unwrap_or}
use Rattle.target_set.specs.Requests.{texts}
use Rattle.target_set.specs.Values.{found}
use Rattle.target_set.proofs.ValueLemmas.{pairs_alike}
use Rattle.target_set.proofs.requests.pairs_under.Goals as goal

pub returns : goal.returns
returns c =
    let said = pairs_alike c.args.identity.now c.args.params.now (λ (name : List ℕ). found c.in_ok-set.set name) (λ (name : List ℕ). unwrap_or (found c.in_ok-listed.listed name) [])
    c.in_ok-set.ensures (λ (name : List ℕ). ap (λ o. unwrap_or o []) (c.in_ok-listed.ensures name)) c.args.names.now.keys in
    subst (λ (ps : List (List ℕ × List ℕ)). IfOk c.pairs_by.result (λ v. map texts v.items ≡ ps)) said c.pairs_by.ensures
