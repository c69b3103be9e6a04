use Rattle.std.proofs.Common.{sym, subst, IfOk, w64}
use Rattle.std.specs.BTreeMap.{keys}
use Rattle.std.proofs.lemmas.Int.{to_z-of_z}
use Rattle.instant_view.specs.Threads.{IsGathered, IsGatheredOf}
use Rattle.instant_view.proofs.RowLemmas.{gathered_all, gathered_name, gathered_no_name, if_ok}
use Rattle.instant_view.proofs.threads.Threads.rows.Goals as goal

pub returns-in_default : goal.returns-in_default
returns-in_default c =
    let kept = c.args.self.now.kept.items in
    let ends = c.args.self.now.ends in
    let selector = c.args.selecting.now in
    if_ok (λ v. IsGatheredOf kept selector c.args.moment (keys ends) v.items) (λ v. IsGathered kept selector c.args.moment v.items)
    (λ v. gathered_all kept selector c.args.moment ends c.requires.ends v.items) c.all_rows.result
    (subst (λ t. IfOk c.all_rows.result (λ v. IsGatheredOf kept selector t (keys ends) v.items)) (to_z-of_z w64 c.args.moment c.ranges.moment) c.all_rows.ensures)

pub returns-in-None : goal.returns-in-None
returns-in-None c =
    gathered_no_name c.args.self.now.kept.items c.args.selecting.now c.args.moment c.args.self.now.ends c.requires.ends c.args.self.now.named c.requires.named
    c.in-Some.name.now c.in-Some.ensures c.new.result.items c.new.ensures.items (sym c.in-None.ensures.value)

pub returns-in-Some-get : goal.returns-in-Some-get
returns-in-Some-get c =
    let kept = c.args.self.now.kept.items in
    let selector = c.args.selecting.now in
    let sets = c.in-Some-get.sets.now in
    if_ok (λ v. IsGatheredOf kept selector c.args.moment sets.keys v.items) (λ v. IsGathered kept selector c.args.moment v.items)
    (λ v. gathered_name kept selector c.args.moment c.args.self.now.ends c.requires.ends c.args.self.now.named c.requires.named c.in-Some.name.now c.in-Some.ensures sets v.items
    (sym c.in-Some-get.ensures.value)) c.rows_of.result
    (subst (λ t. IfOk c.rows_of.result (λ v. IsGatheredOf kept selector t sets.keys v.items)) (to_z-of_z w64 c.args.moment c.ranges.moment) c.rows_of.ensures)
