use Rattle.std.proofs.Common.{◌≡◌, ◌++◌, sym, ap, ◌∙◌, append_assoc, append-nil, arith}
use Rattle.std.specs.List.{flat_map}
use Rattle.synth.specs.Scripts.{upto, target_text, conf_text}
use Rattle.synth.specs.declared.pages.TheConstants.{CONF_HEAD, CONF_TAIL}
use Rattle.synth.proofs.PageLemmas.{upto_none, flat_more}
use Rattle.synth.proofs.pages.conf_text.Goals as goal

pub loop-target-init : goal.loop-target-init
loop-target-init c =
    rw upto_none (c.in_ok-push.ensures ∙ ap (λ z. z ++ CONF_HEAD.now) c.new-bytes.ensures.items ∙ sym (append-nil CONF_HEAD.now))

pub loop-target-preserved : goal.loop-target-preserved
loop-target-preserved c =
    c.in_ok-push_target.ensures
    ∙ ap (λ z. z ++ target_text c.loop-target.target) c.loop-target.invariant
    ∙ append_assoc CONF_HEAD.now (flat_map target_text (upto c.loop-target.target)) (target_text c.loop-target.target)
    ∙ sym (ap (λ z. CONF_HEAD.now ++ z) (flat_more target_text c.loop-target.target))

pub returns : goal.returns
unfolding conf_text
returns c =
    let all : c.loop-target.target ≡ c.args.targets = omega arith in
    c.in_ok-push-2.ensures
    ∙ ap (λ z. z ++ CONF_TAIL.now) (c.loop-target.invariant ∙ ap (λ n. CONF_HEAD.now ++ flat_map target_text (upto n)) all)
    ∙ append_assoc CONF_HEAD.now (flat_map target_text (upto c.args.targets)) CONF_TAIL.now
