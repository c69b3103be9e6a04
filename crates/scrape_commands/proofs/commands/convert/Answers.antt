use Rattle.scrape_commands.proofs.commands.convert.Goals as goal

pub returns-in-Err : goal.returns-in-Err
returns-in-Err g c = λ kept. c.in-Err.ensures.refused kept (g.O.Sink.seen c.args.out.now)
