use Rattle.value_text.proofs.GrammarLemmas.{reads_the_values}
use Rattle.value_text.proofs.texts.reads_the_values.Goals as goal

pub returns : goal.returns
returns c = reads_the_values
