use Rattle.std.proofs.Common.{◌≡◌, ◌∙◌, ◌++◌, ℕ, List, ap, sym, subst, Ok}
use Rattle.om_reader.specs.Bodies.{plain_text}
use Rattle.om_reader.specs.Laws.{IsPlain}
use Rattle.om_reader.proofs.LawLemmas.{cause-fault, reads_the_format}
use Rattle.om_reader.proofs.LineLemmas.{cause-converted, text-converted}
use Rattle.om_reader.proofs.PlainLemmas.{plain-body}
use Rattle.om_reader.proofs.bodies.convert.Goals as goal

pub returns-in-Err-clause-cause : goal.returns-in-Err-clause-cause
returns-in-Err-clause-cause c = cause-converted c.args.bytes.now c.in-Err.error c.in-Err.ensures

pub returns-in-Err-clause-fault : goal.returns-in-Err-clause-fault
returns-in-Err-clause-fault c = cause-fault c.args.bytes.now c.in-Err.error c.in-Err.ensures

pub returns-in-Ok-clause-text : goal.returns-in-Ok-clause-text
returns-in-Ok-clause-text c =
    let read = c.in-Ok.ensures in
    let text : c.convert_lines.new.text.items ≡ plain_text read.0 = read.2 ∙ ap (λ (t : List ℕ). t ++ plain_text read.0) c.in_ok-text.ensures.items in
    text-converted c.args.bytes.now c.convert_lines.new.text.items read.0 read.1 text

pub returns-in-Ok-clause-rows : goal.returns-in-Ok-clause-rows
returns-in-Ok-clause-rows c =
    let read = c.in-Ok.ensures in
    let text : c.convert_lines.new.text.items ≡ plain_text read.0 = read.2 ∙ ap (λ (t : List ℕ). t ++ plain_text read.0) c.in_ok-text.ensures.items in
    let lines = (reads_the_format c.args.bytes.now (Ok read.0)).0 read.1 in
    (read.0, lines, subst (λ (t : List ℕ). IsPlain t read.0) (sym text) (plain-body c.args.bytes.now read.0 lines))
