use Rattle.std.proofs.Common.{◌∙◌, ap, sym, true≢false}
use Rattle.std.proofs.lemmas.Str.{IsUtf8-had}
use Rattle.request_heads.proofs.QueryLemmas.{text-had, text-none}
use Rattle.request_heads.proofs.queries.text_of.Goals as goal

pub returns-in-Ok : goal.returns-in-Ok
returns-in-Ok c =
    text-had c.args.text.now c.in-Ok.text.bytes.items (sym c.are_whole.ensures ∙ c.if-not-are_whole.false) (ap (λ v. v.items) c.in-Ok.ensures.ok ∙ c.in_ok-decoded.ensures)
    (IsUtf8-had c.in-Ok.text.bytes.items c.in-Ok.text.ok)

pub returns : goal.returns
returns c = text-none c.args.text.now c.in_ok-decoded.field-0.items c.in_ok-decoded.ensures (λ h. (let e = c.in-Err.ensures.succeeds h in absurd (true≢false (sym e))))
