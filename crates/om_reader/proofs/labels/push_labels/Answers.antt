use Rattle.std.proofs.Common.{◌≡◌, ◌∙◌, ◌<◌, ◌++◌, ◌∷◌, [], List, ℕ, Option, Some, None, Result, Ok, Err, MatchResult, arith, sym, ap, subst, length, ◌+◌}
use Rattle.label_set.specs.declared.texts.Pair.{Pair}
use Rattle.expo_reader.specs.Bodies.{names_of}
use Rattle.expo_reader.specs.Texts.{mark_at}
use Rattle.expo_reader.specs.declared.faults.Fault.{Fault}
use Rattle.expo_reader.specs.declared.faults.Fault.TheVariants.{Faulty}
use Rattle.expo_reader.specs.Faults.{FaultIs}
use Rattle.om_reader.specs.Forms.{labels_at}
use Rattle.om_reader.proofs.LabelLemmas.{labels-fault, labels-last, labels-more, labels-open, names-more}
use Rattle.om_reader.proofs.labels.push_labels.Goals as goal

last : {L : Type 0} (r : Result L Fault) (rest_of : L → List ℕ) (old new : List (List ℕ)) (ys : List Pair) (rest : List ℕ) (total : Option (List Pair × List ℕ)) → new ≡ old ++ names_of ys →
    ((after : List ℕ) → mark_at 125 rest ≡ Some after → total ≡ Some (ys, after)) → (mark_at 125 rest ≡ None → total ≡ None) →
    MatchResult r (λ l. mark_at 125 rest ≡ Some (rest_of l)) (λ f. (f ≡ Faulty) × (mark_at 125 rest ≡ None)) →
    MatchResult r (λ l. (more : List Pair) × (total ≡ Some (more, rest_of l)) × (new ≡ old ++ names_of more)) (λ f. FaultIs f total)
last (Ok l) rest_of old new ys rest total items some none h = (ys, some (rest_of l) h, items)
last (Err f) rest_of old new ys rest total items some none h = subst (λ g. FaultIs g total) (sym h.0) (none h.1)

pub returns-in-Err-clause-labels : goal.returns-in-Err-clause-labels
returns-in-Err-clause-labels c =
    let t = c.loop-rest.invariant.known in
    labels-fault t.more c.loop-rest.left.now _ c.in-Err.fault c.in-Err.ensures.label t.reaches

pub returns-in-None-clause-labels : goal.returns-in-None-clause-labels
returns-in-None-clause-labels c =
    let t = c.loop-rest.invariant.known in
    let bs = c.loop-rest.left.now in
    let rest = c.in-Ok.rest.now in
    let found = c.in-Ok.ensures.label in
    let less : length rest < length bs = c.in-Ok.ensures.shorter in
    last c.closed.result (λ r. r.now) c.args.room.now c.push_label.new.room (t.more ++ found.0 ∷ []) rest (labels_at (length c.args.text.now + 1) c.args.text.now)
    (found.2 ∙ ap (λ xs. xs ++ found.0.name ∷ []) t.items ∙ names-more c.args.room.now t.more found.0)
    (λ after e. labels-last t.more bs _ found.0 rest found.1 less c.in-None.ensures.rest after e t.reaches)
    (λ e. labels-open t.more bs _ found.0 rest found.1 less c.in-None.ensures.rest e t.reaches)
    c.closed.ensures.rest

pub loop-rest-preserved : goal.loop-rest-preserved
loop-rest-preserved c =
    let t = c.loop-rest.invariant.known in
    let bs = c.loop-rest.left.now in
    let rest = c.in-Ok.rest.now in
    let next = c.in-Some.next.now in
    let found = c.in-Ok.ensures.label in
    let less : length rest < length bs = c.in-Ok.ensures.shorter in
    let fewer : length next < length rest = c.in-Some.ensures.shorter in
    record {
      known = record {
        more = t.more ++ found.0 ∷ [];
        items = found.2 ∙ ap (λ xs. xs ++ found.0.name ∷ []) t.items ∙ names-more c.args.room.now t.more found.0;
        reaches = labels-more t.more bs _ found.0 rest found.1 less next c.in-Some.ensures.rest fewer t.reaches;
      };
      shorter = omega (arith, less, fewer, c.loop-rest.invariant.shorter);
    }
