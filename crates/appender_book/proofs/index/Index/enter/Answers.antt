use Rattle.appender_book.proofs.IndexLemmas.{less_room}
use Rattle.appender_book.proofs.index.Index.enter.Goals as goal

pub returns-in-Known-clause-room : goal.returns-in-Known-clause-room
returns-in-Known-clause-room c = λ n room. c.renew.ensures.room n (less_room n c.args.self.now room)
