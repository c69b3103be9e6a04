use Rattle.std.proofs.Common.{◌≡◌, ◌-◌, length, drop, sym, arith, refl, length-drop}
use Rattle.std.proofs.lemmas.List.{nil_from_length, length-take-le}
use Rattle.std.proofs.lemmas.Bool.Decides.{nat_tests}
use Rattle.http_fetch.proofs.PlaceLemmas.{leads-trans}
use Rattle.http_fetch.proofs.DecoderLemmas.{waits-at-end, behind-left}
use Rattle.http_fetch.proofs.KindLemmas.{body-behind, stage_kind-frame, stage_kind-on}
use Rattle.http_fetch.proofs.decoder.run.Goals as goal

pub loop-rest-preserved-then-is_body : goal.loop-rest-preserved-then-is_body
loop-rest-preserved-then-is_body c =
    let rest = c.loop-rest.rest.now in
    let used = c.body_step-step.result.used in
    record {
      leads = λ fits. (let l = c.loop-rest.invariant.leads fits in
          rw (c.add.ensures.items, c.front.ensures, c.behind-rest.ensures) (leads-trans l (c.body_step-step.ensures.leads c.loop-rest.body.items rest (sym c.count_of-got.ensures) refl l.fits)));
      kind = λ b t. rw c.behind-rest.ensures
          (stage_kind-on c.loop-rest.stage c.body_step-step.result.next c.loop-rest.kind 8 b rest (drop used rest) (body-behind c.loop-rest.stage (sym c.if-is_body.ensures)) (sym c.if-is_done.ensures)
          c.body_step-step.ensures.kind (c.loop-rest.invariant.kind b t));
      room =
          (let front : length c.front.result.now ≡ used = rw c.front.ensures (length-take-le used rest c.body_step-step.ensures.used.1) in
          let back : length c.behind-rest.result.now ≡ length rest - used = rw c.behind-rest.ensures (length-drop used rest) in
          omega (arith, front, back, c.body_step-step.ensures.used.1, c.add.ensures.len, c.add.ensures.capacity, c.loop-rest.invariant.room));
      off = rw c.behind-rest.ensures (behind-left c.args.text.now c.loop-rest.invariant.off.0 rest used c.loop-rest.invariant.off.1);
    }

pub loop-rest-preserved : goal.loop-rest-preserved
loop-rest-preserved c =
    let rest = c.loop-rest.rest.now in
    let used = c.in-Some.step.used in
    record {
      leads = λ fits. (let l = c.loop-rest.invariant.leads fits in
          rw c.behind-rest-else-is_body.ensures (leads-trans l (c.in-Some.ensures.leads.leads c.loop-rest.body.items (sym c.count_of-got.ensures) l.fits)));
      kind = λ b t. rw (c.kind_behind-kind.ensures, c.behind-rest-else-is_body.ensures)
          (stage_kind-frame c.loop-rest.stage c.loop-rest.kind 8 b rest c.in-Some.step (sym c.if-is_done.ensures) c.in-Some.ensures.kind (c.loop-rest.invariant.kind b t));
      room =
          (let back : length c.behind-rest-else-is_body.result.now ≡ length rest - used = rw c.behind-rest-else-is_body.ensures (length-drop used rest) in
          omega (arith, back, c.loop-rest.invariant.room));
      off = rw c.behind-rest-else-is_body.ensures (behind-left c.args.text.now c.loop-rest.invariant.off.0 rest used c.loop-rest.invariant.off.1);
    }

pub returns-clause-waits : goal.returns-clause-waits
returns-clause-waits c = λ fits.
    let none = nil_from_length c.loop-rest.rest.now (let k : length c.loop-rest.rest.now ≡ 0 = grind (arith, nat_tests, c.is_empty.ensures, c.loop-rest-test.false) in k) in
    rw none (waits-at-end c.loop-rest.stage c.args.limit c.loop-rest.body.items (c.loop-rest.invariant.leads fits).fits)
