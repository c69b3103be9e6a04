use Rattle.std.proofs.Common.{List, ℕ, ◌≡◌, ◌+◌, suc, length, reverse, subst, sym, ap, ◌∙◌, arith}
use Rattle.report_samples.specs.declared.entries.Entry.{Entry}
use Rattle.appender_book.specs.Index.{IsFound, IsIndex, IsNoted}
use Rattle.appender_book.specs.Verdicts.{verdict_behind}
use Rattle.appender_book.proofs.MoreLemmas.{one_more}
use Rattle.appender_book.proofs.NumberLemmas.{found_within}
use Rattle.appender_book.proofs.book.push.Goals as goal

pub returns-clause-index : goal.returns-clause-index
returns-clause-index c =
    let es = c.args.entries.now.items in
    let judged = c.verdict_of-verdict.ensures ∙ ap (λ (xs : List Entry). verdict_behind (reverse xs) c.args.entry) c.deref-2.ensures.value in
    let found = subst (λ (xs : List Entry). IsFound xs c.args.index.now c.args.entry.series c.find-found.result) c.deref.ensures.value c.find-found.ensures in
    let next : length es + 1 ≡ suc (length es) = omega arith in
    let end = ap (λ n. n + 1) (c.len-end.ensures ∙ sym c.deref.ensures.len ∙ ap length c.deref.ensures.value) ∙ next in
    let noted = subst (λ (n : ℕ). IsNoted c.args.index.now c.note.new.self n c.find-found.result c.verdict_of-verdict.result) end c.note.ensures.noted in
    subst (λ (xs : List Entry). IsIndex xs c.note.new.self) (sym c.push_reserved.ensures.items)
    (one_more es c.args.entry c.args.index.now c.note.new.self c.find-found.result c.verdict_of-verdict.result c.requires.index found judged noted)

pub note-requires-clause-known : goal.note-requires-clause-known
note-requires-clause-known c = found_within c.deref.result.now c.args.index.now c.args.entry.series c.find-found.result c.find-found.ensures
