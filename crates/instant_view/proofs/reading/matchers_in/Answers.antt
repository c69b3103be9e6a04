use Rattle.std.proofs.Common.{◌≡◌, ◌∙◌, ◌<◌, ◌++◌, ◌∷◌, [], List, ℕ, Option, Some, None, Result, Ok, Err, MatchResult, sym, ap, subst, length, ◌+◌, append_assoc}
use Rattle.instant_view.specs.declared.matchers.Matcher.{Matcher}
use Rattle.instant_view.specs.declared.matchers.SelectorError.{SelectorError}
use Rattle.instant_view.specs.declared.matchers.SelectorError.TheVariants.{Syntax}
use Rattle.expo_reader.specs.Texts.{mark_in}
use Rattle.instant_view.specs.Faults.{FaultIs}
use Rattle.instant_view.specs.Forms.{matchers_in}
use Rattle.instant_view.proofs.StepLemmas.{matchers-closed, matchers-fault, matchers-last, matchers-open, matchers-more}
use Rattle.instant_view.proofs.reading.matchers_in.Goals as goal

last : {L : Type 0} (r : Result L SelectorError) (rest_of : L → List ℕ) (old new ys : List Matcher) (rest : List ℕ) (total : Option (List Matcher × List ℕ)) → new ≡ old ++ ys →
    ((after : List ℕ) → mark_in 125 rest ≡ Some after → total ≡ Some (ys, after)) → (mark_in 125 rest ≡ None → total ≡ None) →
    MatchResult r (λ l. mark_in 125 rest ≡ Some (rest_of l)) (λ f. (f ≡ Syntax) × (mark_in 125 rest ≡ None)) →
    MatchResult r (λ l. (more : List Matcher) × (total ≡ Some (more, rest_of l)) × (new ≡ old ++ more)) (λ f. FaultIs f total)
last (Ok l) rest_of old new ys rest total items some none h = (ys, some (rest_of l) h, items)
last (Err f) rest_of old new ys rest total items some none h = subst (λ g. FaultIs g total) (sym h.0) (none h.1)

pub returns-in-Some : goal.returns-in-Some
returns-in-Some c =
    let t = c.loop-rest.invariant in
    (t.more, matchers-closed t.more c.loop-rest.left.now _ c.in-Some.rest.now c.in-Some.ensures.rest t.reaches, t.items)

pub returns-in-Err : goal.returns-in-Err
returns-in-Err c =
    let t = c.loop-rest.invariant in
    matchers-fault t.more c.loop-rest.left.now _ c.in_default.ensures.rest c.in-Err.fault c.in-Err.ensures.matcher t.reaches

pub returns-in-None : goal.returns-in-None
returns-in-None c =
    let t = c.loop-rest.invariant in
    let bs = c.loop-rest.left.now in
    let rest = c.in-Ok.rest.now in
    let found = c.in-Ok.ensures.matcher in
    let less : length rest < length bs = c.in-Ok.ensures.shorter in
    last c.closed.result (λ r. r.now) c.args.matchers.now.items c.push_matcher.new.matchers.items (t.more ++ found.0 ∷ []) rest (matchers_in (length c.args.text.now + 1) c.args.text.now)
    (found.2 ∙ ap (λ xs. xs ++ found.0 ∷ []) t.items ∙ append_assoc c.args.matchers.now.items t.more (found.0 ∷ []))
    (λ after e. matchers-last t.more bs _ c.in_default.ensures.rest found.0 rest found.1 less c.in-None.ensures.rest after e t.reaches)
    (λ e. matchers-open t.more bs _ c.in_default.ensures.rest found.0 rest found.1 less c.in-None.ensures.rest e t.reaches)
    c.closed.ensures

pub loop-rest-preserved : goal.loop-rest-preserved
loop-rest-preserved c =
    let t = c.loop-rest.invariant in
    let bs = c.loop-rest.left.now in
    let rest = c.in-Ok.rest.now in
    let next = c.in-Some-mark_in.next.now in
    let found = c.in-Ok.ensures.matcher in
    let less : length rest < length bs = c.in-Ok.ensures.shorter in
    let fewer : length next < length rest = c.in-Some-mark_in.ensures.shorter in
    record {
      more = t.more ++ found.0 ∷ [];
      items = found.2 ∙ ap (λ xs. xs ++ found.0 ∷ []) t.items ∙ append_assoc c.args.matchers.now.items t.more (found.0 ∷ []);
      reaches = matchers-more t.more bs _ c.in_default.ensures.rest found.0 rest found.1 less next c.in-Some-mark_in.ensures.rest fewer t.reaches;
    }
