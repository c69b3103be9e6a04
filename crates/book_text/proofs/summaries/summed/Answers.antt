use Rattle.std.proofs.Common.{◌≡◌, ◌+◌, sym, ap, ◌∙◌, arith, take}
use Rattle.std.specs.Prelude.{Some, slice_get, cond}
use Rattle.std.specs.Option.{option_copied}
use Rattle.book_text.specs.Summaries.{is_kind}
use Rattle.book_text.specs.Texts.{book_text}
use Rattle.book_text.proofs.PlaceLemmas.{none_past}
use Rattle.book_text.proofs.SummaryLemmas.{count_none, count_more, count_few, text_more}
use Rattle.book_text.proofs.summaries.summed.Goals.{in-Some+in_ok-digest_line, in_default}
use Rattle.book_text.proofs.summaries.summed.Goals as goal

pub loop-place-init : goal.loop-place-init
loop-place-init c = record { counts = count_none; ready = c.in_ok-lines.ensures.ready; digest = c.new-hasher.ensures }

pub count-counts-requires : goal.count-counts-requires
count-counts-requires c =
    let entries = c.args.book.now.entries in
    record { few = λ k. rw (c.loop-place.invariant.counts k) (count_few entries c.loop-place.place k (omega arith) (omega arith)) }

pub loop-place-preserved : goal.loop-place-preserved
loop-place-preserved c =
    let entries = c.args.book.now.entries in
    let place = c.loop-place.place in
    elim c.match-entry.branch [
      | in-Some+in_ok-digest_line w ↦
          let e = w.in-Some.entry.now in
          let at : slice_get entries place ≡ Some e = sym w.in-Some.ensures in
          record {
            counts = λ k. rw w.counts-is
                (w.count-counts.ensures k ∙ ap (λ n. n + cond (is_kind k e.kind) 1 0) (c.loop-place.invariant.counts k) ∙ sym (count_more entries place e k at));
            ready = rw w.lines-is w.in_ok-digest_line.ensures.ready;
            digest = rw (w.hasher-is, text_more entries place e at) (w.in_ok-digest_line.ensures.digest (book_text (take place entries)) c.loop-place.invariant.digest);
          }
      | in_default w ↦ absurd (none_past entries place (sym c.entry.ensures ∙ ap option_copied w.in_default.is) (omega arith))
    ]
