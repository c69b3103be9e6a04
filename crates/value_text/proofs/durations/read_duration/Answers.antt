use Rattle.std.proofs.Common.{◌≡◌, false, length, ◌==◌, sym, ap, ◌∙◌, codes, rules}
use Rattle.std.specs.Str.{bytes_eq}
use Rattle.value_text.specs.Durations as spec
use Rattle.value_text.proofs.DurationLemmas.{duration-in_units}
use Rattle.value_text.proofs.durations.read_duration.Goals as goal

pub returns : goal.returns
returns c =
    let some : (length c.args.text.now == 0) ≡ false = search rules in
    let other : bytes_eq c.args.text.now (codes "0") ≡ false = search rules in
    c.in_units.ensures ∙ ap spec.within_limit (ap (spec.in_units spec.units) c.as_bytes-bytes.ensures.value ∙ sym (duration-in_units c.args.text.now some other))
