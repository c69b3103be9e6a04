use Rattle.std.proofs.Common.{◌≡◌, refl, ◌⊎◌, ◌∙◌, ◌+◌, ap, subst, suc, length, arith, if◌then◌else◌}
use Rattle.std.specs.Ordering.{is_eq}
use Rattle.label_set.specs.Sets.{set_cmp}
use Rattle.instant_view.specs.Threads.{end_of, twice_back}
use Rattle.instant_view.proofs.TakeLemmas.{threaded_more}
use Rattle.instant_view.proofs.threads.Threads.take_one.Goals as goal

pub returns-clause-threaded : goal.returns-clause-threaded
returns-clause-threaded c =
    let old = c.args.self.now in
    let last = c.renew-last.result in
    let end : c.len-end.result + 1 ≡ suc (length old.kept.items) = omega (arith, c.len-end.ensures, old.kept.ok.0) in
    threaded_more old (record { kept = c.push_reserved-2.new.self; links = c.push_reserved.new.self; ends = c.renew-last.new.ends; named = old.named }) c.args.placed c.link_behind-link.result last
    c.requires.threaded c.requires.rise c.push_reserved-2.ensures.items c.push_reserved.ensures.items c.renew-last.ensures.before
    (λ s. c.renew-last.ensures.ends s ∙ ap (λ n. if is_eq (set_cmp c.args.placed.entry.series s) then n else end_of old.ends s) end)
    c.renew-last.ensures.others refl c.link_behind-link.ensures.previous
    (subst (λ ls. (c.link_behind-link.result.jump ≡ last) ⊎ (c.link_behind-link.result.jump ≡ twice_back ls last)) c.deref.ensures.value c.link_behind-link.ensures.jump)
