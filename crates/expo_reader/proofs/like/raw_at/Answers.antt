use Rattle.std.proofs.Common.{List, ℕ, Option, Some, None, IfSome, sym, subst}
use Rattle.label_set.specs.declared.forms.Form.{Form}
use Rattle.expo_reader.specs.Like.{GoesIn, IsRawText}
use Rattle.expo_reader.proofs.KnownLemmas.{raw-goes}
use Rattle.expo_reader.proofs.like.raw_at.Goals as goal

some-goes : {R : Type 0} (o : Option R) (text : R → List ℕ) (from into : Form) → GoesIn from into → IfSome o (λ r. IsRawText from (text r)) → IfSome o (λ r. IsRawText into (text r))
some-goes None text from into goes h = tt
some-goes (Some r) text from into goes h = raw-goes from into (text r) goes h

pub returns-then-goes_in-clause-raw : goal.returns-then-goes_in-clause-raw
returns-then-goes_in-clause-raw g c =
    some-goes c.text_at.result (λ r. r.now) c.form.result c.args.form (c.goes_in.ensures c.if-goes_in.true)
    (subst (λ f. IfSome c.text_at.result (λ r. IsRawText f r.now)) (sym c.form.ensures) c.text_at.ensures.raw)
