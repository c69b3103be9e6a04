use Rattle.std.proofs.Common.{◌≡◌, ◌++◌, ◌∙◌, List, length, set, sym, sum_by, ap, ap₂}
use Rattle.std.proofs.lemmas.Option.{get_or_from_slice_get}
use Rattle.journal_text.specs.Lines.{number}
use Rattle.report_samples.specs.declared.entries.Entry.{Entry}
use Rattle.scrape_machine.specs.declared.lives.Life.{Life}
use Rattle.scrape_machine.specs.declared.lives.StartedScrape.{StartedScrape}
use Rattle.scrape_machine.specs.Lives.{is_open, starts, scanned_life, scan_entries}
use Rattle.scrape_machine.specs.Machine.{world, is_over, started_by}
use Rattle.scrape_steps.specs.Scans.{is_open_life}
use Rattle.scrape_steps.proofs.ScanLemmas as scans
use Rattle.scrape_steps.specs.Endings.{due_of}
use Rattle.scrape_steps.proofs.EndingLemmas.{endings_set, open_due}
use Rattle.scrape_steps.proofs.ListedLemmas.{places_set, scanned_open}
use Rattle.scrape_core.proofs.StateLemmas.{open_there, found_there}
use Rattle.scrape_core.proofs.turns.tick_open.Goals as goal

pub returns-clause-state : goal.returns-clause-state
returns-clause-state c =
    let s = c.args.state.now in
    let m = c.args.moment in
    let k = c.args.life in
    let x = c.index-one.result.now in
    let lt = open_there s.lives.items k c.requires.there in
    let found = found_there s.lives.items k x lt c.index-one.ensures in
    let is = ap is_open_life (sym found) ∙ c.requires.there in
    let over = c.is_over_in-over.ensures ∙ ap (λ js. is_over js x) c.deref.ensures.value in
    let ticket = c.len-ticket.ensures ∙ c.reserve.new.self.ok.0 ∙ ap (λ (ss : List StartedScrape). length ss) c.in_ok-reserve.ensures.items in
    let one = c.index_mut.ensures.value ∙ get_or_from_slice_get s.lives.items k x c.index_mut.result.now found in
    let new = c.scan.ensures ∙ ap (λ (y : Life). scanned_life m c.len-ticket.result c.is_over_in-over.result y y.schedule.closed) one
    ∙ ap₂ (λ t o. scanned_life m t o x x.schedule.closed) ticket over in
    let begun = c.in_ok-begun.ensures ∙ ap (λ o. started_by (starts (number m) o x) k x) over in
    ap₂ (λ y ss. world s.jobs.items (set s.lives.items k y) ss) new (c.push_starts.ensures ∙ ap₂ (λ (xs ys : List StartedScrape). xs ++ ys) c.in_ok-reserve.ensures.items begun)
    ∙ sym (scans.tick_open s.jobs.items s.lives.items s.started.items m k x found lt c.index-one.ensures is)

pub returns-clause-book : goal.returns-clause-book
returns-clause-book c =
    let s = c.args.state.now in
    let m = c.args.moment in
    let k = c.args.life in
    let x = c.index-one.result.now in
    let lt = open_there s.lives.items k c.requires.there in
    let found = found_there s.lives.items k x lt c.index-one.ensures in
    let is = ap is_open_life (sym found) ∙ c.requires.there in
    let over = c.is_over_in-over.ensures ∙ ap (λ js. is_over js x) c.deref.ensures.value in
    c.in_ok-append_all.ensures.ok
    ∙ ap (λ (es : List Entry). c.args.book.now.entries ++ es)
    (c.in_ok-push_scan.ensures ∙ ap₂ (λ (es : List Entry) o. es ++ scan_entries m o x x.schedule.closed) c.new-items.ensures.items over
    ∙ sym (scans.tick_open_gives s.jobs.items s.lives.items s.started.items m k x lt c.index-one.ensures is))

pub returns-clause-listed : goal.returns-clause-listed
returns-clause-listed c =
    let s = c.args.state.now in
    let m = c.args.moment in
    let k = c.args.life in
    let x = c.index-one.result.now in
    let lt = open_there s.lives.items k c.requires.there in
    let found = found_there s.lives.items k x lt c.index-one.ensures in
    let is = ap is_open_life (sym found) ∙ c.requires.there in
    let over = c.is_over_in-over.ensures ∙ ap (λ js. is_over js x) c.deref.ensures.value in
    let ticket = c.len-ticket.ensures ∙ c.reserve.new.self.ok.0 ∙ ap (λ (ss : List StartedScrape). length ss) c.in_ok-reserve.ensures.items in
    let one = c.index_mut.ensures.value ∙ get_or_from_slice_get s.lives.items k x c.index_mut.result.now found in
    let new = c.scan.ensures ∙ ap (λ (y : Life). scanned_life m c.len-ticket.result c.is_over_in-over.result y y.schedule.closed) one
    ∙ ap₂ (λ t o. scanned_life m t o x x.schedule.closed) ticket over in
    let stays = ap is_open new ∙ scanned_open m (length s.started.items) (is_over s.jobs.items x) x x.schedule.closed in
    let due : due_of c.scan.new.life ≡ due_of x = open_due c.scan.new.life (stays ∙ is) ∙ sym (open_due x is) in (
      c.requires.listed.0 ∙ sym (places_set is_open 0 s.lives.items k x c.scan.new.life lt c.index-one.ensures stays),
      λ f. ap (sum_by f) (endings_set 0 s.lives.items k x c.scan.new.life lt c.index-one.ensures due) ∙ c.requires.listed.1 f,
    )
