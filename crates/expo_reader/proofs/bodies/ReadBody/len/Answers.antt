use Rattle.std.proofs.Common.{◌∙◌, ap, length}
use Rattle.expo_reader.proofs.SpanLemmas.{row-count}
use Rattle.expo_reader.proofs.bodies.ReadBody.len.Goals as goal

pub returns : goal.returns
returns c = ap length c.as_slice.ensures.value ∙ row-count c.self.inside.form c.self.inside.bytes c.self.inside.rows.items c.args.self.now c.self.view_is
