use Rattle.std.proofs.Common.{◌∙◌, sym}
use Rattle.scrape_loop.proofs.ReplyLemmas.{looked_at}
use Rattle.scrape_loop.proofs.known_rows.known_rows.Goals as goal

pub of_page-requires-clause-page : goal.of_page-requires-clause-page
of_page-requires-clause-page g c = looked_at c.args.terms.now.rules.now c.args.reply.now _ (sym c.early_fault.ensures ∙ c.in_default.is)
