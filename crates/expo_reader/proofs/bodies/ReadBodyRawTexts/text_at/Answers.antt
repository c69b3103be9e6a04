use Rattle.std.proofs.Common.{◌<◌, length, arith, subst, sym}
use Rattle.expo_reader.specs.Like.{IsRawText}
use Rattle.expo_reader.proofs.KnownLemmas.{row-raw}
use Rattle.expo_reader.proofs.bodies.ReadBodyRawTexts.text_at.Goals as goal

pub returns-then-place-len-clause-raw : goal.returns-then-place-len-clause-raw
returns-then-place-len-clause-raw c =
    let rows = c.args.self.now.rows in
    let within : c.args.place < length rows = omega (arith, c.if-place-len.true, c.len.ensures) in
    subst (IsRawText c.args.self.now.form) (sym c.raw.ensures) (row-raw c.args.self.now.form c.args.self.now.bytes rows c.args.place c.row.result c.row.ensures.reading within c.row.ensures.row)
