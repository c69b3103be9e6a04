use Rattle.std.proofs.Common.{◌≡◌, ◌∙◌, ap, append-nil, refl, subst, sym}
use Rattle.std.specs.Prelude.{[], ◌++◌, List}
use Rattle.status_server.proofs.StepLemmas.{answered-federate, answered-plain, answered-reload, plain-page}
use Rattle.journal_text.specs.declared.events.Event.{Event}
use Rattle.status_server.specs.Answers.{answer, ends}
use Rattle.status_server.specs.Federates.{IsFederate}
use Rattle.status_server.specs.Reloads.{reload_reply}
use Rattle.status_server.specs.Steps.{site}
use Rattle.status_server.proofs.connections.answer_request.Goals as goal

pub returns-in_ok-push_reload-in-Reload-clause-answered :
    goal.returns-in_ok-push_reload-in-Reload-clause-answered
returns-in_ok-push_reload-in-Reload-clause-answered g c =
    let r = c.in_ok-came-in-Reload.ensures.came in
    let came = c.in_ok-came-in-Reload.came in
    let text : c.push_reload.new.text.items ≡ reload_reply (ends c.args.request.now.page c.args.request.now.closes) came =
    c.in_ok-push_reload-in-Reload.ensures.added ∙ (ap (λ t. t ++ reload_reply c.ends-closes.result came) c.requires ∙ ap (λ b. reload_reply b came) c.ends-closes.ensures) in
    record {
      loads = r.loads;
      is = answered-reload c.args.server.now (site (g.S.Shelf.seen c.args.shelf.now) c.args.file.now) c.args.request.now.page c.args.request.now.query.now
          c.args.request.now.closes c.push_reload.new.text.items r.loads c.in-Reload.is (record { came = came; so = r.came; text_is = text });
      journal = r.journal;
    }

pub returns-in_ok-push_federate-in-Federate-clause-answered :
    goal.returns-in_ok-push_federate-in-Federate-clause-answered
returns-in_ok-push_federate-in-Federate-clause-answered g c =
    let a = c.in_ok-push_federate-in-Federate.ensures.added in
    let text : c.push_federate.new.text.items ≡ a.0 = a.2 ∙ ap (λ t. t ++ a.0) c.requires in
    let is : IsFederate c.args.server.now c.args.request.now.query.now (ends c.args.request.now.page c.args.request.now.closes) c.push_federate.new.text.items =
    subst (λ b. IsFederate c.args.server.now c.args.request.now.query.now b c.push_federate.new.text.items) c.ends-closes.ensures
    (subst (λ t. IsFederate c.args.server.now c.args.request.now.query.now c.ends-closes.result t) (sym text) a.1) in
    record {
      loads = [];
      is = answered-federate c.args.server.now (site (g.S.Shelf.seen c.args.shelf.now) c.args.file.now) c.args.request.now.page c.args.request.now.query.now
          c.args.request.now.closes c.push_federate.new.text.items [] c.in-Federate.is (is, refl);
      journal = c.in_ok-push_federate-in-Federate.ensures.same ∙ sym (append-nil c.args.server.now);
    }

pub returns-in_ok-push_answer-in_default : goal.returns-in_ok-push_answer-in_default
returns-in_ok-push_answer-in_default g c =
    let text : c.push_answer.new.text.items ≡ answer c.args.server.now c.args.request.now.page c.args.request.now.closes =
    c.in_ok-push_answer-in_default.ensures.added
    ∙ (ap (λ t. t ++ answer c.core.result.now c.args.request.now.page c.args.request.now.closes) c.requires
    ∙ ap (λ (es : List Event). answer es c.args.request.now.page c.args.request.now.closes) c.core.ensures) in
    record {
      answered = record {
        loads = [];
        is = answered-plain c.args.server.now (site (g.S.Shelf.seen c.args.shelf.now) c.args.file.now) c.args.request.now.page c.args.request.now.query.now
            c.args.request.now.closes c.push_answer.new.text.items (plain-page c.args.request.now.page c.in_default.not-Federate c.in_default.not-Reload) text;
        journal = sym (append-nil c.args.server.now);
      };
      stays = record { files = refl; faults = refl };
      stopped = tt;
    }
