use Rattle.std.proofs.Common.{◌∙◌, ap, sym, true≢false}
use Rattle.std.proofs.lemmas.Str.{IsUtf8-had}
use Rattle.expo_reader.proofs.TextLemmas.{text-value, text-no_value}
use Rattle.instant_view.proofs.texts.text_value.Goals as goal

pub returns-in-Ok : goal.returns-in-Ok
returns-in-Ok c = text-value c.args.text.now c.in-Ok.text.bytes.items (ap (λ v. v.items) c.in-Ok.ensures.ok ∙ c.in_ok-bytes.ensures) (IsUtf8-had c.in-Ok.text.bytes.items c.in-Ok.text.ok)

pub returns : goal.returns
returns c = text-no_value c.args.text.now c.in_ok-bytes.bytes.items c.in_ok-bytes.ensures (λ h. (let e = c.in-Err.ensures.succeeds h in absurd (true≢false (sym e))))
