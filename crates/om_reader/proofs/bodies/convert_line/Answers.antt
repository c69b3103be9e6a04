use Rattle.std.proofs.Common.{◌∙◌, sym, Some, None, option_map}
use Rattle.om_reader.specs.Bodies.{row_of}
use Rattle.om_reader.specs.Timestamps.{millis_of}
use Rattle.om_reader.proofs.LineLemmas.{line-faulty, line-sample, line-skipped, none-added, row-added}
use Rattle.om_reader.proofs.bodies.convert_line.Goals as goal

pub returns-then-is_comment : goal.returns-then-is_comment
returns-then-is_comment c = (None, line-skipped c.args.number c.args.line.now (sym c.is_comment.ensures ∙ c.if-is_comment.true), none-added c.args.text.now.items)

pub returns-in_ok-push_line-in-Ok : goal.returns-in_ok-push_line-in-Ok
returns-in_ok-push_line-in-Ok c =
    let found = c.in-Ok.ensures in (
      Some (row_of c.args.number found.0),
      line-sample c.args.number c.args.line.now (sym c.is_comment.ensures ∙ c.if-is_comment.false) found.0 found.1,
      row-added c.args.text.now.items c.push_line.new.text.items c.in-Ok.line.raw.now c.in-Ok.line.value.now (option_map millis_of c.in-Ok.line.stamp) c.args.number found.0
          c.in_ok-push_line-in-Ok.ensures found.2 found.3 found.4,
    )

pub returns-in-Err-Faulty : goal.returns-in-Err-Faulty
returns-in-Err-Faulty c =
    line-faulty c.args.number c.args.line.now (sym c.is_comment.ensures ∙ c.if-is_comment.false) (rw c.in-Err-Faulty.field-0-is at c.in-Err-Faulty.ensures)
