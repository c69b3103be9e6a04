use Rattle.std.proofs.Common.{◌≤◌, ◌+◌, ◌-◌, ◌++◌, arith, sym, subst, length, take, drop}
use Rattle.http_fetch.specs.declared.stages.Stage.{Stage}
use Rattle.http_fetch.specs.declared.stages.Stage.TheVariants.{Length, Data, Whole}
use Rattle.http_fetch.specs.Stages.{Leads, Fits, decoding}
use Rattle.http_fetch.proofs.BodyLemmas.{length-whole-lead, length-more-lead, data-lead}
use Rattle.http_fetch.proofs.stages.body_step.Goals as goal

pub returns-then-used-left-clause-leads : goal.returns-then-used-left-clause-leads
returns-then-used-left-clause-leads c = λ got text had count fits.
    let used = c.at_most-used.result in
    let left = c.in-Length.left in
    let f : Fits (Length left) c.args.limit got = subst (λ (s : Stage). Fits s c.args.limit got) c.in-Length.is fits in
    let small : length got + left ≤ c.args.limit = f.1 in
    subst (λ (s : Stage). Leads c.args.limit (decoding s got text) (decoding (Whole 200) (got ++ take used text) (drop used text))) (sym c.in-Length.is)
    (length-whole-lead c.args.limit left used got text c.if-used-left.true (omega (arith, c.at_most-used.ensures, count)) small)

pub returns-else-used-left-clause-leads : goal.returns-else-used-left-clause-leads
returns-else-used-left-clause-leads c = λ got text had count fits.
    let used = c.at_most-used.result in
    let left = c.in-Length.left in
    let f : Fits (Length left) c.args.limit got = subst (λ (s : Stage). Fits s c.args.limit got) c.in-Length.is fits in
    let small : length got + left ≤ c.args.limit = f.1 in
    subst (λ (s : Stage). Leads c.args.limit (decoding s got text) (decoding (Length (left - used)) (got ++ take used text) (drop used text))) (sym c.in-Length.is)
    (length-more-lead c.args.limit left used got text (omega (arith, c.at_most-used.ensures, c.if-used-left.false)) (omega (arith, c.at_most-used.ensures, count)) small)

pub returns-in-Data-clause-leads : goal.returns-in-Data-clause-leads
returns-in-Data-clause-leads c = λ got text had count fits.
    let used = c.at_most-used-in-Data.result in
    let left = c.in-Data.left in
    let f : length got + left ≤ c.args.limit = subst (λ (s : Stage). Fits s c.args.limit got) c.in-Data.is fits in
    subst (λ (s : Stage). Leads c.args.limit (decoding s got text) (decoding (Data (left - used)) (got ++ take used text) (drop used text))) (sym c.in-Data.is)
    (data-lead c.args.limit left used got text (omega (arith, c.at_most-used-in-Data.ensures)) (omega (arith, c.at_most-used-in-Data.ensures, count)) f)
