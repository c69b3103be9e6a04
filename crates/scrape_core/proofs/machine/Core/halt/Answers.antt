use Rattle.std.proofs.Common.{◌≡◌, ◌∙◌, [], ◌∷◌, ◌++◌, false, sym, ap, refl, true≢false, arith}
use Rattle.journal_text.specs.declared.events.Event.{Event}
use Rattle.journal_text.specs.declared.events.Event.TheVariants.{Halt}
use Rattle.scrape_machine.specs.Machine.{World, step, gives, world_of, book_of}
use Rattle.scrape_machine.specs.Runs.{runs_of}
use Rattle.scrape_machine.proofs.RunLemmas.{halt_runs, runs_of_push}
use Rattle.scrape_machine.proofs.StepLemmas.{world_push, book_of_push}
use Rattle.scrape_core.specs.Records.{is_live}
use Rattle.scrape_core.proofs.RecordLemmas.{live_world}
use Rattle.scrape_core.proofs.StateLemmas.{live_seen, appends_none, halt_left, halt_gives}
use Rattle.scrape_core.proofs.machine.Core.halt.Goals as goal

pub push-requires-clause-room : goal.push-requires-clause-room
push-requires-clause-room c =
    let es = c.self.inside.journal.events in
    let live = live_world es (ap is_live c.self.view_is ∙ c.requires) in
    c.self.invariant.1 (ap (λ (w : World). w.halted) c.self.invariant.0.state ∙ live)

pub invariant_of-self : goal.invariant_of-self
invariant_of-self c =
    let es = c.self.inside.journal.events in
    let s = c.self.inside.state in
    let live = live_world es (ap is_live c.self.view_is ∙ c.requires) in
    let halted : s.halted ≡ false = ap (λ (w : World). w.halted) c.self.invariant.0.state ∙ live in
    let w = sym (live_seen s halted) ∙ c.self.invariant.0.state in
    let m = c.last_moment-moment.result in
    let e = Halt m in
    let joined : c.push.new.self.events ≡ es ++ e ∷ [] = c.push.ensures.joined ∙ ap (λ (z : Event). es ++ z ∷ []) c.halt_at.ensures in (
      record {
        state = halt_left s.jobs.items s.lives.items s.started.items e m refl ∙ (ap (λ v. step v e) w ∙ (sym (world_push es e) ∙ ap world_of (sym joined)));
        book_is = c.self.invariant.0.book_is ∙ (appends_none (world_of es) e (book_of es) (ap (λ v. gives v e) (sym w) ∙ halt_gives s.jobs.items s.lives.items s.started.items e m refl) ∙ (sym (book_of_push es e) ∙ ap book_of (sym joined)));
        few = c.self.invariant.0.few;
        listed = c.self.invariant.0.listed;
        runs_are = c.self.invariant.0.runs_are ∙ (omega (arith, halt_runs (world_of es) m, runs_of_push es e) ∙ ap runs_of (sym joined));
      },
      λ h. absurd (true≢false h),
    )
