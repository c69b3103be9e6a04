use Rattle.std.proofs.Common.{◌≡◌, ap, subst, arith, Ok, length}
use Rattle.expo_reader.specs.Bodies.{Body, reading}
use Rattle.expo_reader.proofs.SpanLemmas.{row-count}
use Rattle.expo_reader.proofs.RowLemmas.{fit_rows}
use Rattle.expo_reader.proofs.bodies.ReadBody.row.Goals as goal

pub sample_row-requires-clause-place : goal.sample_row-requires-clause-place
sample_row-requires-clause-place c =
    omega (arith, c.requires, ap length c.as_slice.ensures.value, row-count c.self.inside.form c.self.inside.bytes c.self.inside.rows.items c.args.self.now c.self.view_is)

pub returns-clause-fit : goal.returns-clause-fit
returns-clause-fit c =
    let P : Body → Type 0 = λ b. reading b.form b.bytes ≡ Ok b.rows in
    fit_rows c.args.self.now.form c.args.self.now.bytes c.args.self.now.rows (subst P c.self.view_is c.self.invariant.0)
