use Rattle.std.proofs.Common.{◌≡◌, ◌+◌, ◌∙◌, refl, sym, ap, arith, length, length-drop, take, Some}
use Rattle.std.specs.Prelude.{option_map}
use Rattle.request_heads.specs.Queries.{front_len, joined, part_gives, selectors, texts_of}
use Rattle.request_heads.proofs.QueryLemmas.{part-last, part-refused, part-step, to-end}
use Rattle.request_heads.proofs.queries.selectors_of.Goals as goal

pub returns-in-None : goal.returns-in-None
unfolding selectors
returns-in-None c =
    let texts = texts_of c.loop-more.selectors in
    let left = c.loop-more.left.now in
    sym (part-refused texts left (ap (λ n. joined (Some texts) (part_gives (take n left))) (sym c.front_len-end.ensures.value) ∙ (sym c.in_ok-with_part.ensures ∙ ap (option_map texts_of) c.in-None.is)))
    ∙ c.loop-more.invariant.given

pub returns-then-end-left : goal.returns-then-end-left
unfolding selectors
returns-then-end-left c =
    let texts = texts_of c.loop-more.selectors in
    let left = c.loop-more.left.now in
    let n : front_len 38 left ≡ length left = omega (arith, c.front_len-end.ensures.value, c.front_len-end.ensures.within, c.if-end-left.true) in
    sym (part-last texts (texts_of c.in-Some.more) left (ap (λ m. joined (Some texts) (part_gives (take m left))) (sym c.front_len-end.ensures.value) ∙ (sym c.in_ok-with_part.ensures ∙ ap (option_map texts_of) c.in-Some.is)) n)
    ∙ c.loop-more.invariant.given

pub loop-more-preserved : goal.loop-more-preserved
loop-more-preserved c =
    let left = c.loop-more.left.now in
    let behind = to-end left (c.front_len-end.result + 1) (length left) refl in
    record {
      given = part-step (texts_of c.loop-more.selectors) (texts_of c.in-Some.more) left c.args.query.now _ c.front_len-end.result c.front_len-end.ensures.value
          (sym c.in_ok-with_part.ensures ∙ ap (option_map texts_of) c.in-Some.is) c.if-end-left.false behind c.loop-more.invariant.given;
      shorter = omega (arith, ap length behind, length-drop (c.front_len-end.result + 1) left, c.loop-more.invariant.shorter);
    }
