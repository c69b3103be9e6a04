use Rattle.synth.proofs.PageLemmas.{conf_len}
use Rattle.synth.proofs.scripts.journal_of.Goals as goal

pub push_load-requires-clause-short : goal.push_load-requires-clause-short
push_load-requires-clause-short c = rw c.in_ok-conf_text.ensures (conf_len c.args.plan.now.targets c.requires.targets)
