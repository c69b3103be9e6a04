use Rattle.std.proofs.Common.{arith}
use Rattle.book_text.proofs.BookLemmas.{cut_book, took_end, flows_start, flows_line}
use Rattle.book_text.proofs.FlowLemmas.{on_err_map, on_ok_both}
use Rattle.book_text.proofs.printing.print_pages.Goals as goal

pub loop-place-init : goal.loop-place-init
loop-place-init g c = record {
  flows = flows_start c.args.kept c.args.book.now.entries c.args.page.now.items _ c.requires.blank;
  ready = c.requires.ready;
  room = c.requires.room;
}

pub returns-in-Err-clause-cut : goal.returns-in-Err-clause-cut
returns-in-Err-clause-cut g c = cut_book c.args.kept c.args.book.now.entries c.loop-place.place _ _ _ _ c.loop-place.invariant.flows c.in-Err.ensures.stops

pub loop-place-preserved : goal.loop-place-preserved
loop-place-preserved g c = record {
  flows = flows_line c.args.kept c.args.book.now.entries c.loop-place.place c.mark_at-mark.result.now _ _ _ _ _ _ (omega arith) c.mark_at-mark.ensures.mark c.loop-place.invariant.flows
      c.in-Ok.ensures.flows c.write_line.ensures.written;
  ready = c.write_line.ensures.ready;
  room = omega (arith, c.loop-place.invariant.room, c.in-Ok.ensures.capacity, c.write_line.ensures.capacity, c.write_line.ensures.most);
}

pub returns-clause-whole : goal.returns-clause-whole
returns-clause-whole g c =
    on_ok_both _ _ _ _ (took_end c.args.kept c.args.book.now.entries c.loop-place.place _ _ _ _ _ (omega arith) c.loop-place.invariant.flows)
    c.put_page.ensures.flows c.put_page.ensures.clear

pub returns-clause-cut : goal.returns-clause-cut
returns-clause-cut g c =
    on_err_map _ _ _ (cut_book c.args.kept c.args.book.now.entries c.loop-place.place _ _ _ _ c.loop-place.invariant.flows) c.put_page.ensures.stops
