use Rattle.std.proofs.Common.{◌∙◌, List, ℕ, Bor}
use Rattle.label_set.specs.SetText.{metric_label}
use Rattle.sample_rows.proofs.NamedLemmas.{borrowed-bears}
use Rattle.sample_rows.proofs.left.is_named.Goals as goal

pub returns : goal.returns
returns c = c.is_some.ensures ∙ borrowed-bears (λ (v : Bor (List ℕ)). v.now) c.get.result c.args.set.now metric_label c.get.ensures
