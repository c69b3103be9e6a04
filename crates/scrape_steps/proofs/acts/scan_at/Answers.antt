use Rattle.std.proofs.Common.{◌∙◌, ap, sym, arith}
use Rattle.scrape_machine.specs.declared.lives.Life.{Life}
use Rattle.scrape_machine.specs.Lives.{scanned_life}
use Rattle.scrape_steps.proofs.SweptLemmas.{set_changed}
use Rattle.scrape_steps.proofs.acts.scan_at.Goals as goal

pub returns : goal.returns
returns c =
    let g = λ (l : Life). scanned_life c.args.moment c.args.ticket c.args.over l l.schedule.closed in
    set_changed c.args.lives.now c.args.place g c.index-lives-place.result c.scan.new.life (omega (arith, c.requires)) c.index-lives-place.is
    (c.scan.ensures ∙ ap g (sym c.index-lives-place.is))
