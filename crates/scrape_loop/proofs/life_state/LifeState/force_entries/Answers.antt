use Rattle.std.proofs.Common.{rules, ◌≡◌, ◌++◌, pos, List, map, ap, refl, subst, w64}
use Rattle.std.specs.Prelude.{IfOk}
use Rattle.std.proofs.lemmas.Int.{to_z-of_z}
use Rattle.label_set.specs.declared.texts.Pair.{Pair}
use Rattle.report_samples.specs.declared.entries.Entry.{Entry}
use Rattle.report_samples.specs.Markers.{stale_entry}
use Rattle.report_samples.specs.Reports.{report_entries}
use Rattle.sample_rows.specs.Outcomes.{forced}
use Rattle.scrape_loop.specs.Entries.{entries_of, extra_of, forced_entries, no_counts}
use Rattle.scrape_loop.proofs.ForcedLemmas.{gone_all}
use Rattle.scrape_loop.proofs.SettleLemmas.{bad_shows}
use Rattle.scrape_loop.proofs.life_state.LifeState.force_entries.Goals as goal

pub entries_of-requires-clause-shows : goal.entries_of-requires-clause-shows
entries_of-requires-clause-shows c = bad_shows c.self.inside.cache _ c.self.invariant.0 refl

pub returns-clause-entries : goal.returns-clause-entries
returns-clause-entries c =
    let moment = to_z-of_z w64 c.args.moment c.ranges.moment in
    let extra : c.extra_in-extra.result ≡ extra_of c.args.rules.now (pos 0) = search rules in
    subst (λ (es : List Entry). IfOk c.entries_of.result (λ l. l ≡ es)) (λ i. entries_of (c.self.view_is i) (extra i) forced (moment i) (pos 0)) c.entries_of.ensures

pub returns-clause-all_end : goal.returns-clause-all_end
returns-clause-all_end c =
    let l = c.args.self.now in
    let all : entries_of l (extra_of c.args.rules.now (pos 0)) forced c.args.moment (pos 0) ≡ forced_entries l c.args.rules.now c.args.moment =
    ap (λ (xs : List (List Pair)). map (stale_entry l.life c.args.moment) xs ++ report_entries l.life l.target c.args.moment (no_counts (extra_of c.args.rules.now (pos 0)))) (gone_all l.tracked) in
    subst (λ (es : List Entry). IfOk c.entries_of.result (λ l. l ≡ es)) all (returns-clause-entries c)
