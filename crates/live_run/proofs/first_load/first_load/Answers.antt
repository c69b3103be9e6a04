use Rattle.std.proofs.Common.{◌≡◌, List, [], ◌∷◌, subst, sym, to_z, of_z, w64}
use Rattle.journal_text.specs.declared.events.Event.{Event}
use Rattle.journal_text.specs.declared.events.Event.TheVariants.{Load}
use Rattle.scrape_core.specs.Records.{IsFresh}
use Rattle.live_run.proofs.LoadLemmas.{if_ok, load_is_fresh}
use Rattle.live_run.proofs.first_load.first_load.Goals as goal

pub returns-clause-fresh : goal.returns-clause-fresh
returns-clause-fresh g c =
    let m = to_z w64 (of_z w64 c.args.moment) in
    if_ok (λ (es : List Event). es ≡ Load m c.in-Ok.text ∷ []) IsFresh
    (λ es e. subst IsFresh (sym e) (load_is_fresh m c.in-Ok.text)) c.load_from.result c.load_from.ensures.core
