use Rattle.std.proofs.Common.{refl, arith}
use Rattle.http_fetch.specs.declared.fields.Kind.TheVariants.{Plain}
use Rattle.http_fetch.proofs.DecoderLemmas.{stands-new}
use Rattle.http_fetch.proofs.KindLemmas.{stage_kind-new}
use Rattle.http_fetch.proofs.decoder.Decoder.new.Goals as goal

pub returns : goal.returns
returns c = record { limit_is = refl; stands = rw (c.new.ensures.items, c.new-2.ensures.items) (stands-new c.args.limit); short = λ _. rw c.new-2.ensures.items (omega arith); kind = rw c.new-2.ensures.items (stage_kind-new Plain) }
