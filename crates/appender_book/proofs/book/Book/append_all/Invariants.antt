use Rattle.std.proofs.Common.{◌≡◌, ◌+◌, ◌≤◌, ◌++◌, length, vec_len}
use Rattle.std.specs.Prelude.{reverse}
use Rattle.appender_book.proofs.book.Book.append_all.Given as goal

abbrev pub invariant-loop-entry : goal.invariant-loop-entry
invariant-loop-entry l = record {
  joined : l.self.entries ++ reverse l.items.items ≡ l.fn.self.entries ++ l.fn.entries;
  room : l.fn.self.spare + length l.items.items ≤ l.self.spare + length l.fn.entries;
  enough : length l.items.items ≤ l.self.spare;
  hasher : l.self.hasher ≡ l.fn.self.hasher;
}

abbrev pub decreases-loop-entry : goal.decreases-loop-entry
decreases-loop-entry l = vec_len l.items
