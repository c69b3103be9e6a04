use Rattle.std.proofs.Common.{◌++◌}
use Rattle.book_text.proofs.FlowLemmas.{on_err_map, cut_more, cut_after}
use Rattle.scrape_commands.proofs.messages.put_three.Goals as goal

pub returns-in-Ok-put-clause-cut : goal.returns-in-Ok-put-clause-cut
returns-in-Ok-put-clause-cut g c =
    on_err_map _ _ _ (λ z. cut_after c.args.first.now (c.args.second.now ++ c.args.third.now) _ _ _ c.in-Ok.ensures.whole
    (cut_after c.args.second.now c.args.third.now _ _ _ c.in-Ok-put.ensures.whole z)) c.put-in-Ok-put.ensures.cut

pub returns-in-Err-put-clause-cut : goal.returns-in-Err-put-clause-cut
returns-in-Err-put-clause-cut g c =
    cut_after c.args.first.now (c.args.second.now ++ c.args.third.now) _ _ _ c.in-Ok.ensures.whole
    (cut_more c.args.second.now c.args.third.now _ c.in-Err-put.ensures.cut)
