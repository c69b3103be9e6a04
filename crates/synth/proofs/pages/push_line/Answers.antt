use Rattle.std.proofs.Common.{◌+◌, codes}
use Rattle.std.specs.Fmt.{decimal}
use Rattle.synth.proofs.PageLemmas.{pieces}
use Rattle.synth.proofs.pages.push_line.Goals as goal

pub returns : goal.returns
returns c =
    rw (
      c.in_ok-push-4.ensures,
      c.in_ok-push_number-3.ensures,
      c.in_ok-push-3.ensures,
      c.in_ok-push_number-2.ensures,
      c.in_ok-push-2.ensures,
      c.in_ok-push_number.ensures,
      c.in_ok-push.ensures,
    )
    (pieces c.args.text.now.items (codes "synth_total{code=\"") (decimal (200 + c.args.series)) (codes "\",path=\"/p") (decimal c.args.series) (codes "\"} ")
    (decimal (c.args.number + c.args.series)) (codes "\n"))
