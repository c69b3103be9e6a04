use Rattle.std.proofs.Common.{◌≡◌, rules, true, false}
use Rattle.appender_book.specs.Index.{is_kept_one}
use Rattle.appender_book.specs.Verdicts.{verdict_at}
use Rattle.instant_view.proofs.ViewLemmas.{kept_no_entry, kept_none, kept_some}
use Rattle.instant_view.proofs.view.kept_at.Goals as goal

pub returns-then-not-is_kept : goal.returns-then-not-is_kept
returns-then-not-is_kept c =
    let not : is_kept_one (verdict_at c.args.book.now.entries c.args.place) ≡ false = search rules in
    kept_none c.args.book.now.entries c.args.place not

pub returns-in_default : goal.returns-in_default
returns-in_default c = kept_no_entry c.args.book.now.entries c.args.place c.in_default.ensures

pub returns : goal.returns
returns c =
    let is : is_kept_one (verdict_at c.args.book.now.entries c.args.place) ≡ true = search rules in
    kept_some c.args.book.now.entries c.args.place c.in-Some.entry.now c.in_ok-entry.entry is c.in-Some.ensures c.in_ok-entry.ensures
