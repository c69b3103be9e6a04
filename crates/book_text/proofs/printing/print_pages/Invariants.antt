use Rattle.std.proofs.Common.{◌≤◌, ◌+◌, [], take, vec_capacity}
use Rattle.outside.specs.Objects.{used}
use Rattle.book_text.specs.declared.printing.TheConstants.{PAGE, MARK}
use Rattle.book_text.specs.Texts.{printed}
use Rattle.book_text.specs.Flows.{Flows}
use Rattle.book_text.specs.Kept.{AreReady}
use Rattle.book_text.proofs.printing.print_pages.Given as goal

abbrev pub invariant-loop-place : goal.invariant-loop-place
invariant-loop-place g l = record {
  flows : Flows (printed l.kept (take l.place l.book.entries)) [] l.page.items (used (g.O.Sink.seen l.fn.out) (g.O.Sink.seen l.out));
  ready : AreReady l.book.entries l.lines;
  room : PAGE + (MARK + l.lines.most) ≤ vec_capacity l.page;
}
