use Rattle.book_text.specs.Summaries.{count_in, count_of, number_line, kind_lines, digest_line, summary_text}
use Rattle.std.proofs.Common.{codes, length}
use Rattle.md5.specs.Md5.{md5}
use Rattle.book_text.specs.Texts.{book_text}
use Rattle.book_text.proofs.SummaryLemmas.{lines_same, four_texts}
use Rattle.book_text.proofs.summaries.summary_of.Goals as goal

pub returns : goal.returns
unfolding summary_text
returns c =
    let entries = c.args.book.now.entries in
    rw (
      c.in_ok-push_digest.ensures,
      c.in_ok-push_kinds.ensures,
      c.in_ok-push_number-2.ensures,
      c.in_ok-push_number.ensures,
      c.new-text.ensures.items,
      c.len.ensures,
      c.as_slice.ensures,
      c.in_ok-summary.ensures.digest,
      lines_same (count_in c.in_ok-summary.summary.counts) (λ k. count_of k entries) c.in_ok-summary.ensures.counts,
    )
    (four_texts (number_line (codes "events") c.args.events) (number_line (codes "entries") (length entries)) (kind_lines (λ k. count_of k entries)) (digest_line (md5 (book_text entries))))
