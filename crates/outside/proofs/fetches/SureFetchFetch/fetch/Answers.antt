use Rattle.std.specs.Prelude.{false}
use Rattle.outside.proofs.ReplyLemmas.{left_keeps}
use Rattle.outside.proofs.fetches.SureFetchFetch.fetch.Goals as goal

pub invariant_of-self-2 : goal.invariant_of-self-2
invariant_of-self-2 c = rw c.take_reply-fetched.ensures.rest (left_keeps c.args.request.now.scheme c.self.inside.replies.items false c.self.invariant)
