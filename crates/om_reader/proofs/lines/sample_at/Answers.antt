use Rattle.std.proofs.Common.{◌∙◌, sym, option_map}
use Rattle.om_reader.specs.Timestamps.{millis_of}
use Rattle.om_reader.proofs.SampleLemmas.{labels-faulty, no-end, no-measure, whole}
use Rattle.om_reader.proofs.lines.sample_at.Goals as goal

pub returns-in-Err : goal.returns-in-Err
returns-in-Err c =
    let name = c.in-Some.name.bytes.now in
    labels-faulty c.args.line.now name c.in-Some.name.rest.now c.in-Some.ensures.part c.in-Some.ensures.name c.in-Err.fault (c.in-Err.ensures.said c.args.line.now name)

pub returns-in_default-measure_at : goal.returns-in_default-measure_at
returns-in_default-measure_at c =
    let name = c.in-Some.name.bytes.now in
    let said = c.in-Ok.ensures.said in
    no-measure c.args.line.now name c.in-Some.name.rest.now c.in-Some.ensures.part c.in-Some.ensures.name said.0 c.in-Ok.rest.now (said.1 c.args.line.now name)
    c.in_default-measure_at.ensures

pub returns-in-Ok-true : goal.returns-in-Ok-true
returns-in-Ok-true c =
    let name = c.in-Some.name.bytes.now in
    let said = c.in-Ok.ensures.said in
    let measure = c.in-Some-measure_at.measure in
    whole c.args.line.now name c.in-Some.name.rest.now c.in-Some.ensures.part c.in-Some.ensures.name said.0 c.in-Ok.rest.now (said.1 c.args.line.now name)
    measure.value.now (option_map millis_of measure.stamp) measure.rest.now c.in-Some-measure_at.ensures (sym c.in-Ok-true.ensures ∙ c.in-Ok-true.field-0-test)

pub returns-in-Ok-false : goal.returns-in-Ok-false
returns-in-Ok-false c =
    let name = c.in-Some.name.bytes.now in
    let said = c.in-Ok.ensures.said in
    let measure = c.in-Some-measure_at.measure in
    no-end c.args.line.now name c.in-Some.name.rest.now c.in-Some.ensures.part c.in-Some.ensures.name said.0 c.in-Ok.rest.now (said.1 c.args.line.now name)
    measure.value.now (option_map millis_of measure.stamp) measure.rest.now c.in-Some-measure_at.ensures (sym c.in-Ok-false.ensures ∙ c.in-Ok-false.field-0-test)
