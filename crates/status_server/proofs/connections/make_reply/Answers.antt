use Rattle.std.proofs.Common.{◌∙◌, ap, append-nil, inr, refl, subst, sym}
use Rattle.std.specs.Prelude.{[], ◌++◌}
use Rattle.status_server.proofs.StepLemmas.{stepped-whole}
use Rattle.status_server.specs.Reloads.{basis}
use Rattle.status_server.specs.Replies.{reply}
use Rattle.status_server.specs.Steps.{Stepped, site}
use Rattle.status_server.specs.declared.replies.Status.TheVariants.{BadRequest}
use Rattle.std.specs.Prelude.{true}
use Rattle.request_heads.specs.Fronts.{IsFront}
use Rattle.status_server.proofs.connections.make_reply.Goals as goal

pub returns-in_ok-push_reply-in-Never-clause-stepped : goal.returns-in_ok-push_reply-in-Never-clause-stepped
returns-in_ok-push_reply-in-Never-clause-stepped g c = record {
  loads = [];
  is = inr (record {
    none = subst (IsFront c.args.bytes.now) c.in-Never.is c.front_at.ensures;
    replies_are = c.in_ok-push_reply-in-Never.ensures.added ∙ ap (λ t. t ++ reply BadRequest true []) c.requires;
    loads_are = refl;
  });
  journal = sym (append-nil c.args.server.now);
}

pub returns-in_ok-answer_request-in-Whole-clause-stepped : goal.returns-in_ok-answer_request-in-Whole-clause-stepped
returns-in_ok-answer_request-in-Whole-clause-stepped g c =
    subst (λ step. Stepped (basis c.args.server.now (site (g.S.Shelf.seen c.args.shelf.now) c.args.file.now)) c.args.bytes.now step c.answer_request.new.reply.items c.answer_request.new.server)
    (sym c.behind.ensures)
    (stepped-whole c.args.server.now (site (g.S.Shelf.seen c.args.shelf.now) c.args.file.now) c.args.bytes.now c.in-Whole.request c.in-Whole.len _ _ (subst (IsFront c.args.bytes.now) c.in-Whole.is c.front_at.ensures) c.in_ok-answer_request-in-Whole.ensures.answered)
