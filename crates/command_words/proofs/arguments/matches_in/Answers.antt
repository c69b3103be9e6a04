use Rattle.std.proofs.Common.{◌∙◌}
use Rattle.std.specs.Prelude.{map, string_bytes}
use Rattle.clap.specs.Words.{app_of}
use Rattle.command_words.proofs.WordLemmas.{sound_by, rows_by, refused_by}
use Rattle.command_words.proofs.arguments.matches_in.Goals as goal

pub returns-in-Ok-clause-sound : goal.returns-in-Ok-clause-sound
returns-in-Ok-clause-sound c =
    sound_by c.args.verb (map string_bytes c.args.words.now) (app_of c.in_ok-grammar.grammar) c.in_ok-grammar.ensures c.in-Ok.ensures.kinds

pub returns-in-Ok-clause-rows : goal.returns-in-Ok-clause-rows
returns-in-Ok-clause-rows c =
    rows_by c.args.verb (map string_bytes c.args.words.now) (app_of c.in_ok-grammar.grammar) c.in_ok-grammar.ensures c.in-Ok.matches c.in-Ok.ensures.matches

pub returns : goal.returns
returns c = record {
  sound = tt;
  rows = tt;
  refused = λ _. refused_by c.args.verb (map string_bytes c.args.words.now) (app_of c.in_ok-grammar.grammar) c.in_ok-grammar.ensures
      c.in-Err.error c.in-Err.ensures.kinds (λ memory. c.in_default.not-OutOfMemory (c.kind.ensures ∙ memory));
}
