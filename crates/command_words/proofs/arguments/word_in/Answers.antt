use Rattle.command_words.proofs.WordLemmas.{word_by}
use Rattle.command_words.proofs.arguments.word_in.Goals as goal

pub returns : goal.returns
returns c = word_by c.args.id.now c.args.matches.now _ c.get_str.ensures
