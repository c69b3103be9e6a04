use Rattle.std.proofs.Common.{◌∙◌, ap}
use Rattle.std.specs.List.{list_any}
use Rattle.std.specs.Str.{bytes_eq}
use Rattle.label_set.specs.SetText.{metric_label}
use Rattle.om_reader.proofs.LabelLemmas.{has-metric}
use Rattle.om_reader.proofs.labels.Room.has_metric_label.Goals as goal

pub returns : goal.returns
returns c = λ labels is.
    has-metric c.args.self.now labels c.has_metric_name.result
    (c.has_metric_name.ensures ∙ ap (list_any (λ n. bytes_eq n metric_label)) (c.as_slice.ensures.value ∙ c.self.view_is)) is
