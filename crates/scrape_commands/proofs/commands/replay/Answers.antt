use Rattle.std.proofs.Common.{ap, refl}
use Rattle.std.specs.Prelude.{Err}
use Rattle.command_words.specs.Askings.{asking}
use Rattle.command_words.specs.declared.words.Command.TheVariants.{Replay}
use Rattle.scrape_commands.proofs.PrintLemmas.{done_by, cut_by, replay_text}
use Rattle.scrape_commands.proofs.commands.replay.Goals as goal

pub returns-in-Err : goal.returns-in-Err
returns-in-Err g c = c.in-Err.ensures.refused c.args.flags.kept (g.O.Sink.seen c.args.out.now)

pub returns-in-Ok-print_book : goal.returns-in-Ok-print_book
returns-in-Ok-print_book g c =
    done_by (asking c.args.flags.kept c.args.script.now (Replay c.args.flags.cut)) _ _ _
    (replay_text (asking c.args.flags.kept c.args.script.now (Replay c.args.flags.cut)) _ _ _ c.in-Ok.ensures.has c.in-Ok.ensures.short c.as_slice.ensures
    c.args.flags.cut _ _ refl c.in-Ok-replayed.ensures.replayed c.book.ensures)
    c.in-Ok.ensures.untouched c.in-Ok-print_book.ensures.whole

pub returns-in-Err-WriteFault : goal.returns-in-Err-WriteFault
returns-in-Err-WriteFault g c =
    cut_by (asking c.args.flags.kept c.args.script.now (Replay c.args.flags.cut)) _ _ _
    (replay_text (asking c.args.flags.kept c.args.script.now (Replay c.args.flags.cut)) _ _ _ c.in-Ok.ensures.has c.in-Ok.ensures.short c.as_slice.ensures
    c.args.flags.cut _ _ refl c.in-Ok-replayed.ensures.replayed c.book.ensures)
    c.in-Ok.ensures.untouched (c.in-Err-WriteFault.ensures.cut (ap Err c.in-Err-WriteFault.field-0-is))
