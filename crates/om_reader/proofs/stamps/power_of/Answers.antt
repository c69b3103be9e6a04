use Rattle.om_reader.proofs.NumberLemmas.{are-digits, behind-digits}
use Rattle.om_reader.proofs.stamps.power_of.Goals as goal

pub number_of-requires-clause-some : goal.number_of-requires-clause-some
number_of-requires-clause-some c =
    (are-digits c.without_sign.result.now
    (behind-digits c.args.exponent.now c.without_sign.result.now c.is_empty.result c.without_sign.ensures c.is_empty.ensures c.if-is_empty.false c.requires)).0

pub number_of-requires-clause-digits : goal.number_of-requires-clause-digits
number_of-requires-clause-digits c =
    (are-digits c.without_sign.result.now
    (behind-digits c.args.exponent.now c.without_sign.result.now c.is_empty.result c.without_sign.ensures c.is_empty.ensures c.if-is_empty.false c.requires)).1
