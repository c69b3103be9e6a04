use Rattle.std.proofs.Common.{◌≡◌, take}
use Rattle.md5.specs.Md5.{Holds}
use Rattle.report_samples.specs.declared.entries.Kind.{Kind}
use Rattle.book_text.specs.Kept.{AreReady}
use Rattle.book_text.specs.Summaries.{count_in, count_of}
use Rattle.book_text.specs.Texts.{book_text}
use Rattle.book_text.proofs.summaries.summed.Given as goal

abbrev pub invariant-loop-place : goal.invariant-loop-place
invariant-loop-place l = record {
  counts : (k : Kind) → count_in l.counts k ≡ count_of k (take l.place l.book.entries);
  ready : AreReady l.book.entries l.lines;
  digest : Holds l.hasher (book_text (take l.place l.book.entries));
}
