use Rattle.std.proofs.Common.{ℕ, Ok, Err, w64, FitsSigned, sym, subst}
use Rattle.std.proofs.lemmas.Int.{to_z-of_z}
use Rattle.value_text.proofs.NumberLemmas.{millis-parsed}
use Rattle.value_text.proofs.numbers.parsed.Goals as goal

pub returns-in-Ok : goal.returns-in-Ok
returns-in-Ok c =
    let told = c.in-Ok.ensures.value.0 in
    let fits : FitsSigned w64 c.in-Ok.ms = subst (FitsSigned w64) (sym told.1) told.0.1 in
    rw (to_z-of_z w64 c.in-Ok.ms fits) (millis-parsed {E = ℕ} c.args.text.now (Ok c.in-Ok.ms) told)

pub returns-in-Err : goal.returns-in-Err
returns-in-Err c = millis-parsed c.args.text.now (Err c.in-Err.field-0) c.in-Err.ensures.value.0
