use Rattle.http_fetch.proofs.FrameLemmas.{line-found, line-long, line-full}
use Rattle.http_fetch.proofs.frames.line_at.Goals as goal

pub returns-then-len-gt-MOST_LINE : goal.returns-then-len-gt-MOST_LINE
returns-then-len-gt-MOST_LINE c =
    let l = rw c.in-Ok-Complete.field-0-is at c.in-Ok-Complete.ensures.complete in
    line-long c.args.bytes.now c.in-Ok-Complete.len c.in-Ok-Complete.size l.0 l.1 c.if-len-gt-MOST_LINE.true

pub returns-else-len-gt-MOST_LINE : goal.returns-else-len-gt-MOST_LINE
returns-else-len-gt-MOST_LINE c =
    let l = rw c.in-Ok-Complete.field-0-is at c.in-Ok-Complete.ensures.complete in
    line-found c.args.bytes.now c.in-Ok-Complete.len c.in-Ok-Complete.size l.0 l.1 c.if-len-gt-MOST_LINE.false

pub returns-else-bytes-lt-MOST_LINE : goal.returns-else-bytes-lt-MOST_LINE
returns-else-bytes-lt-MOST_LINE c = line-full c.args.bytes.now (rw c.in-Ok-Partial.field-0-is at c.in-Ok-Partial.ensures.partial) c.if-bytes-lt-MOST_LINE.false
