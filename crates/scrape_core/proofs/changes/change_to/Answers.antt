use Rattle.std.proofs.Common.{◌≡◌, ◌∙◌, [], List, ap, length, map, refl, subst}
use Rattle.std.specs.Prelude.{filter}
use Rattle.std.proofs.lemmas.List.{length-map}
use Rattle.journal_text.specs.Lines.{number}
use Rattle.scrape_machine.specs.Lives.{is_open}
use Rattle.scrape_machine.specs.Machine.{difference}
use Rattle.scrape_steps.specs.Concerned.{all_transitions, concerns}
use Rattle.scrape_steps.specs.Plans.{after_each, births_by, transition_of, IsHeld}
use Rattle.scrape_steps.specs.declared.acts.Transition.{Transition}
use Rattle.scrape_steps.proofs.WholeLemmas.{whole_lives, whole_closed, whole_births}
use Rattle.scrape_core.proofs.changes.change_to.Goals as goal

pub returns-clause-each : goal.returns-clause-each
returns-clause-each c =
    let transitions = c.in_ok-transitions.ensures ∙ ap (λ o. map (transition_of c.in_ok-names.names c.args.news.now (map (difference c.args.olds.now) c.args.news.now)) (filter (concerns o) c.args.lives.now.all)) c.requires.opens in
    ap (λ (fs : List Transition). length fs) transitions ∙ length-map _ _

pub returns-clause-lives : goal.returns-clause-lives
returns-clause-lives c =
    let transitions = c.in_ok-transitions.ensures ∙ ap (λ o. map (transition_of c.in_ok-names.names c.args.news.now (map (difference c.args.olds.now) c.args.news.now)) (filter (concerns o) c.args.lives.now.all)) c.requires.opens in
    whole_lives c.args.moment c.args.olds.now c.args.news.now c.args.lives.now.all [] c.in_ok-names.names (map (difference c.args.olds.now) c.args.news.now) c.in_ok-transitions.transitions.items
    c.in_ok-names.ensures refl transitions

pub returns-clause-closed : goal.returns-clause-closed
returns-clause-closed c =
    let transitions = c.in_ok-transitions.ensures ∙ ap (λ o. map (transition_of c.in_ok-names.names c.args.news.now (map (difference c.args.olds.now) c.args.news.now)) (filter (concerns o) c.args.lives.now.all)) c.requires.opens in
    whole_closed c.args.moment c.args.olds.now c.args.news.now c.args.lives.now.all [] c.in_ok-names.names (map (difference c.args.olds.now) c.args.news.now) c.in_ok-transitions.transitions.items
    c.in_ok-names.ensures refl transitions

pub returns-clause-begun : goal.returns-clause-begun
returns-clause-begun c =
    let transitions = c.in_ok-transitions.ensures ∙ ap (λ o. map (transition_of c.in_ok-names.names c.args.news.now (map (difference c.args.olds.now) c.args.news.now)) (filter (concerns o) c.args.lives.now.all)) c.requires.opens in
    c.in_ok-begun.ensures
    ∙ ap (λ n. births_by (number c.args.moment) n c.in_ok-held.held c.in_ok-names.names c.args.news.now) c.len-first.ensures
    ∙ whole_births c.args.moment c.args.olds.now c.args.news.now c.args.lives.now.all [] c.in_ok-names.names (map (difference c.args.olds.now) c.args.news.now) c.deref.result.now
    c.in_ok-names.ensures refl (c.deref.ensures.value ∙ transitions)
    c.in_ok-held.held
    (subst (λ o. IsHeld c.in_ok-held.held c.in_ok-names.names (after_each c.args.moment (all_transitions (concerns o) c.deref.result.now c.args.lives.now.all) c.args.lives.now.all)) c.requires.opens
    (c.in_ok-held.ensures c.args.moment))
