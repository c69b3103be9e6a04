use Rattle.std.proofs.Common.{◌++◌, sym, ap, ◌∙◌}
use Rattle.synth.specs.Scripts.{page_line}
use Rattle.synth.proofs.PageLemmas.{upto_none, flat_more}
use Rattle.synth.proofs.pages.page.Goals as goal

pub loop-series-init : goal.loop-series-init
loop-series-init c = rw upto_none c.new-bytes.ensures.items

pub loop-series-preserved : goal.loop-series-preserved
loop-series-preserved c =
    c.in_ok-push_if_there.ensures
    ∙ ap (λ z. z ++ page_line c.args.number c.loop-series.series) c.loop-series.invariant
    ∙ sym (flat_more (page_line c.args.number) c.loop-series.series)
