use Rattle.std.proofs.Common.{◌≡◌, ◌<◌, ◌∙◌, refl, sym, ap, arith, length, take, drop}
use Rattle.expo_reader.specs.Spans.{row_at, rows_seen}
use Rattle.expo_reader.proofs.SpanLemmas.{row-seen-at, within-at, text-inside, seen-length, written-at}
use Rattle.expo_reader.proofs.samples.sample_row.Goals as goal

pub part_of-requires : goal.part_of-requires
part_of-requires c =
    let within = within-at (length c.args.bytes.now) c.args.rows.now c.args.rows.now c.args.place c.span_at-row.result refl c.span_at-row.ensures c.requires.place c.requires.within in
    omega (arith, within.0, ap length c.as_slice.ensures)

pub invariant_of-result : goal.invariant_of-result
invariant_of-result c =
    let r = c.span_at-row.result in
    let bytes = c.args.bytes.now in
    let rows = c.args.rows.now in
    let row = row_at r.line c.part_of.result.now r.parts in
    let within = within-at (length bytes) rows rows c.args.place r refl c.span_at-row.ensures c.requires.place c.requires.within in
    let inside = text-inside bytes c.as_slice.result.now c.part_of.result.now r c.as_slice.ensures c.part_of.ensures within in
    let text : c.part_of.result.now ≡ take r.len (drop r.start bytes) = c.part_of.ensures ∙ ap (λ b. take r.len (drop r.start b)) c.as_slice.ensures in
    let is = ap (λ t. row_at r.line t r.parts) text ∙ sym (row-seen-at bytes rows c.args.place r row c.requires.place c.span_at-row.ensures) in
    let count : c.args.place < length (rows_seen bytes rows) = omega (arith, c.requires.place, seen-length bytes rows) in
    (inside, written-at c.args.form bytes (rows_seen bytes rows) c.args.place row c.requires.read count is)

pub returns : goal.returns
returns c =
    let r = c.span_at-row.result in
    let row = row_at r.line c.part_of.result.now r.parts in
    ap (λ t. row_at r.line t r.parts) (c.part_of.ensures ∙ ap (λ b. take r.len (drop r.start b)) c.as_slice.ensures)
    ∙ sym (row-seen-at c.args.bytes.now c.args.rows.now c.args.place r row c.requires.place c.span_at-row.ensures)
