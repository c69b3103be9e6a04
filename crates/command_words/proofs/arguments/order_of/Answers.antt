use Rattle.std.proofs.Common.{rules, sym, ◌∙◌}
use Rattle.std.specs.Prelude.{map, string_bytes}
use Rattle.clap.specs.Words.{found_of, rows_of}
use Rattle.command_words.proofs.WordLemmas.{order_is, order_none}
use Rattle.command_words.proofs.arguments.order_of.Goals as goal

pub returns-in_err-matches-clause-refused : goal.returns-in_err-matches-clause-refused
returns-in_err-matches-clause-refused c = λ bad. order_none c.args.verb (map string_bytes c.args.words.now) (c.in_err-matches.ensures.refused (search rules))

pub returns-in-Some-clause-asked : goal.returns-in-Some-clause-asked
returns-in-Some-clause-asked c =
    let rows = rows_of (found_of c.in_ok-matches.matches) in
    order_is c.args.verb (map string_bytes c.args.words.now) rows c.in_ok-matches.ensures.sound c.in_ok-matches.ensures.rows ∙ sym c.in-Some.ensures

pub returns-clause-refused : goal.returns-clause-refused
returns-clause-refused c = λ _.
    let rows = rows_of (found_of c.in_ok-matches.matches) in
    order_is c.args.verb (map string_bytes c.args.words.now) rows c.in_ok-matches.ensures.sound c.in_ok-matches.ensures.rows ∙ sym c.in-None.ensures
