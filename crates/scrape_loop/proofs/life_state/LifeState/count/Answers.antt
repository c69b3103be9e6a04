use Rattle.std.proofs.Common.{SFits, rules, Bool, cond, ap₂, Option, ◌≡◌, ◌≤◌, ◌+◌, ◌++◌, ◌∙◌, List, length, is_some, ap, subst, sym, to_z, of_z, w64}
use Rattle.std.proofs.lemmas.Int.{to_z-of_z}
use Rattle.label_set.specs.declared.forms.Form.{Form}
use Rattle.report_samples.specs.declared.entries.Entry.{Entry}
use Rattle.report_samples.specs.declared.scrape_reports.ExtraCounts.{ExtraCounts}
use Rattle.sample_rows.specs.Outcomes.{body_of, form_of}
use Rattle.scrape_loop.specs.Entries.{entries_of, extra_for, extra_of, size_of}
use Rattle.scrape_loop.specs.Fresh.{KnownLaw}
use Rattle.scrape_loop.specs.Raw.{AreRaw}
use Rattle.scrape_loop.specs.Texts.{AreRight, IsAtRest}
use Rattle.scrape_loop.specs.Tracked.{LifeView, is_good, life_of, outcome_for}
use Rattle.scrape_loop.proofs.CountLemmas.{good_told, reply_entries, reply_state, reply_told}
use Rattle.scrape_loop.proofs.FreshLemmas.{fresh_law, known_at}
use Rattle.scrape_loop.proofs.RawLemmas.{reply_raw}
use Rattle.scrape_loop.proofs.RightLemmas.{reply_right}
use Rattle.scrape_loop.proofs.TextLemmas.{turned_rests}
use Rattle.scrape_loop.proofs.life_state.LifeState.count.Goals as goal

pub returns-in-Ok-clause-state : goal.returns-in-Ok-clause-state
returns-in-Ok-clause-state g c =
    let p = c.self.inside.past in
    let took : to_z w64 (of_z w64 c.args.took) ≡ c.args.took = to_z-of_z w64 c.args.took c.ranges.took in
    let s = c.in_ok-scrape in
    reply_state p.life p.target c.set-target.result.now p.extra p.scraped p.up c.self.inside.cache c.seed.new.cache c.shown_rows.new.cache c.args.rules.now c.args.metric.now c.args.reply.now
    c.args.took (to_z w64 (of_z w64 c.args.took)) s.field-0.scrape c.args.self.now c.self.view_is c.set-target.ensures.value c.seed.ensures.same took s.ensures.outcome s.ensures.undone c.is_none-good.result
    c.turn.new.self (sym (ap is_some c.fault_in-fault.ensures) ∙ c.is_none-good.ensures) s.ensures.shows s.ensures.cache c.turn.ensures.turned c.turn.ensures.was

law : (g : _) (c : goal.After-turn g) → KnownLaw c.args.self.now c.args.rules.now c.args.metric.now c.args.reply.now c.args.took
law g c =
    known_at c.args.self.now c.self.inside.cache c.seed.new.cache (ap (λ (v : LifeView). v.cache) c.self.view_is) c.self.invariant.0 c.seed.ensures.same c.seed.ensures.kept
    c.args.rules.now c.args.metric.now c.args.reply.now c.args.took

pub invariant_of-self-in-Ok : goal.invariant_of-self-in-Ok
invariant_of-self-in-Ok g c =
    let p = c.self.inside.past in
    let took : to_z w64 (of_z w64 c.args.took) ≡ c.args.took = to_z-of_z w64 c.args.took c.ranges.took in
    let s = c.in_ok-scrape in
    let good : c.is_none-good.result ≡ is_good (outcome_for c.args.self.now c.args.rules.now c.args.metric.now c.args.reply.now c.args.took) =
    good_told s.field-0.scrape c.is_none-good.result (sym (ap is_some c.fault_in-fault.ensures) ∙ c.is_none-good.ensures)
    ∙ ap is_good (reply_told p.life p.target c.set-target.result.now p.extra p.scraped p.up c.self.inside.cache c.seed.new.cache c.shown_rows.new.cache c.args.rules.now c.args.metric.now c.args.reply.now
    c.args.took (to_z w64 (of_z w64 c.args.took)) s.field-0.scrape c.args.self.now c.self.view_is c.set-target.ensures.value c.seed.ensures.same took s.ensures.outcome s.ensures.undone) in
    let form : c.form_after-self-inside.result ≡ cond (is_good (outcome_for c.args.self.now c.args.rules.now c.args.metric.now c.args.reply.now c.args.took)) (form_of c.args.reply.now) c.self.inside.form =
    c.form_after-self-inside.ensures ∙ ap₂ (λ (b : Bool) (f : Form). cond b f c.self.inside.form) good c.form.ensures in (
      subst IsAtRest (sym c.turn.ensures.turned) (turned_rests c.is_none-good.result c.shown_rows.new.cache),
      subst (λ (f : Form). AreRaw f c.turn.new.self) (sym form)
          (subst (λ (v : LifeView). AreRaw (cond (is_good (outcome_for c.args.self.now c.args.rules.now c.args.metric.now c.args.reply.now c.args.took)) (form_of c.args.reply.now) c.self.inside.form) v.cache)
          (sym (returns-in-Ok-clause-state g c))
          (reply_raw c.args.self.now c.args.rules.now c.args.metric.now c.args.reply.now c.args.took (law g c) c.self.inside.form
          (subst (λ (v : LifeView). AreRaw c.self.inside.form v.cache) c.self.view_is c.self.invariant.1))),
    )

entries : (g : _) (c : goal.After-turn g) →
    entries_of (life_of c.self.inside.past.life c.self.inside.past.target c.self.inside.past.extra c.shown_rows.new.cache (c.self.inside.past.scraped, c.self.inside.past.up)) c.extra_in-extra.result c.in_ok-scrape.field-0.scrape (to_z w64 (of_z w64 c.args.moment))
    (to_z w64 (of_z w64 c.args.took))
    ≡ entries_of c.args.self.now (extra_for c.args.rules.now (outcome_for c.args.self.now c.args.rules.now c.args.metric.now c.args.reply.now c.args.took) c.args.reply.now) (outcome_for c.args.self.now c.args.rules.now c.args.metric.now c.args.reply.now c.args.took) c.args.moment c.args.took
entries g c =
    let p = c.self.inside.past in
    let took : to_z w64 (of_z w64 c.args.took) ≡ c.args.took = to_z-of_z w64 c.args.took c.ranges.took in
    let moment : to_z w64 (of_z w64 c.args.moment) ≡ c.args.moment = to_z-of_z w64 c.args.moment c.ranges.moment in
    let s = c.in_ok-scrape in
    let fits : SFits w64 c.size_in.result = search rules in
    let size : to_z w64 (of_z w64 c.size_in.result) ≡ size_of s.field-0.scrape (length (body_of c.args.reply.now)) =
    to_z-of_z w64 c.size_in.result fits ∙ c.size_in.ensures ∙ ap (size_of s.field-0.scrape) c.size.ensures.value in
    let extra : c.extra_in-extra.result ≡ extra_for c.args.rules.now s.field-0.scrape c.args.reply.now =
    c.extra_in-extra.ensures.value ∙ ap (extra_of c.args.rules.now) size in
    ap (λ (e : Option ExtraCounts). entries_of (life_of p.life p.target p.extra c.shown_rows.new.cache (p.scraped, p.up)) e s.field-0.scrape (to_z w64 (of_z w64 c.args.moment)) (to_z w64 (of_z w64 c.args.took))) extra
    ∙ reply_entries p.life p.target c.set-target.result.now p.extra p.scraped p.up c.self.inside.cache c.seed.new.cache c.shown_rows.new.cache c.args.rules.now c.args.metric.now c.args.reply.now
    c.args.took (to_z w64 (of_z w64 c.args.took)) s.field-0.scrape c.args.self.now c.self.view_is c.set-target.ensures.value c.seed.ensures.same took s.ensures.outcome s.ensures.undone c.args.moment
    (to_z w64 (of_z w64 c.args.moment)) moment s.ensures.was

pub returns-in-Ok-clause-entries : goal.returns-in-Ok-clause-entries
returns-in-Ok-clause-entries g c = c.in-Ok.ensures.entries ∙ ap (λ (es : List Entry). c.args.book.now.entries ++ es) (entries g c)

pub returns-in-Ok-clause-spare : goal.returns-in-Ok-clause-spare
returns-in-Ok-clause-spare g c = subst (λ (es : List Entry). c.args.book.now.spare ≤ c.append.new.book.spare + length es) (entries g c) c.in-Ok.ensures.spare

pub returns-in_err-scrape-clause-fresh : goal.returns-in_err-scrape-clause-fresh
returns-in_err-scrape-clause-fresh g c = fresh_law c.args.self.now c.args.rules.now c.args.metric.now c.args.reply.now c.args.took

pub returns-in_err-scrape-clause-known : goal.returns-in_err-scrape-clause-known
returns-in_err-scrape-clause-known g c =
    known_at c.args.self.now c.self.inside.cache c.seed.new.cache (ap (λ (v : LifeView). v.cache) c.self.view_is) c.self.invariant.0 c.seed.ensures.same c.seed.ensures.kept
    c.args.rules.now c.args.metric.now c.args.reply.now c.args.took

pub returns-in-Err-clause-fresh : goal.returns-in-Err-clause-fresh
returns-in-Err-clause-fresh g c = fresh_law c.args.self.now c.args.rules.now c.args.metric.now c.args.reply.now c.args.took

pub returns-in-Err-clause-known : goal.returns-in-Err-clause-known
returns-in-Err-clause-known g c =
    known_at c.args.self.now c.self.inside.cache c.seed.new.cache (ap (λ (v : LifeView). v.cache) c.self.view_is) c.self.invariant.0 c.seed.ensures.same c.seed.ensures.kept
    c.args.rules.now c.args.metric.now c.args.reply.now c.args.took

pub returns-in-Ok-clause-fresh : goal.returns-in-Ok-clause-fresh
returns-in-Ok-clause-fresh g c = fresh_law c.args.self.now c.args.rules.now c.args.metric.now c.args.reply.now c.args.took

pub returns-in-Ok-clause-known : goal.returns-in-Ok-clause-known
returns-in-Ok-clause-known g c = law g c

pub returns-in-Ok-clause-right : goal.returns-in-Ok-clause-right
returns-in-Ok-clause-right g c =
    subst (λ (v : LifeView). AreRight c.args.rules.now.honor_labels c.args.metric.now v.target v.cache.texts) (sym (returns-in-Ok-clause-state g c))
    (reply_right c.args.self.now c.args.rules.now c.args.metric.now c.args.reply.now c.args.took c.requires.right)
