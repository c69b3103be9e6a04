use Rattle.std.proofs.Common.{length}
use Rattle.appender_book.specs.Index.{sets_of}
use Rattle.appender_book.proofs.WalkLemmas.{IsOnWay}
use Rattle.appender_book.proofs.index.Index.hashed.Given as goal

abbrev pub invariant-loop-number : goal.invariant-loop-number
invariant-loop-number l = IsOnWay (sets_of l.entries l.self.ends.items) l.self.hasher l.hash l.series (length l.self.ends.items) l.number

abbrev pub decreases-loop-number : goal.decreases-loop-number
decreases-loop-number l = l.number
