use Rattle.std.proofs.Common.{ℕ, List, subst, sym}
use Rattle.command_words.specs.Askings.{Asking, asking}
use Rattle.scrape_commands.specs.Ends.{IsTextOf}
use Rattle.scrape_commands.proofs.PrintLemmas.{done_by, cut_by}
use Rattle.scrape_commands.proofs.commands.at.Goals as goal

pub returns-in-Err-seen_text : goal.returns-in-Err-seen_text
returns-in-Err-seen_text g c = λ kept. c.in-Err-seen_text.ensures.refused kept (g.O.Sink.seen c.args.out.now)

pub returns-in-Ok-put : goal.returns-in-Ok-put
returns-in-Ok-put g c = λ kept.
    let a : Asking = asking kept c.args.script.now c.args.command.now in
    done_by a c.deref.result.now _ _
    (subst (λ (t : List ℕ). IsTextOf t a (g.S.Shelf.seen c.args.shelf.now)) (sym c.deref.ensures.value) (c.in-Ok-seen_text.ensures.text kept))
    c.in-Ok-seen_text.ensures.untouched c.in-Ok-put.ensures.whole

pub returns : goal.returns
returns g c = λ kept.
    let a : Asking = asking kept c.args.script.now c.args.command.now in
    cut_by a c.deref.result.now _ _
    (subst (λ (t : List ℕ). IsTextOf t a (g.S.Shelf.seen c.args.shelf.now)) (sym c.deref.ensures.value) (c.in-Ok-seen_text.ensures.text kept))
    c.in-Ok-seen_text.ensures.untouched c.in-Err-put.ensures.cut
