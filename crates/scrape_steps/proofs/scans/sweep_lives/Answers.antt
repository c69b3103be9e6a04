use Rattle.std.proofs.Common.{◌≡◌, ◌<◌, ◌+◌, ℕ, List, length, drop, get_or, arith, refl, sym, ◌∙◌, ap, cond, Bool, Some}
use Rattle.std.proofs.lemmas.List.{drop_all}
use Rattle.journal_text.specs.Lines.{number}
use Rattle.scrape_machine.specs.declared.lives.Life.{Life}
use Rattle.scrape_machine.specs.Lives.{scanned_life, starts}
use Rattle.scrape_machine.specs.Machine.{starts_in}
use Rattle.scrape_steps.specs.Concerned.{concerns}
use Rattle.scrape_steps.proofs.ConcernedLemmas.{place_there, read_place}
use Rattle.scrape_steps.proofs.SweptLemmas.{length-changed, one, swept_at, swept_next, swept_whole}
use Rattle.scrape_steps.proofs.scans.sweep_lives.Goals.{then-one, else-one}
use Rattle.scrape_steps.proofs.scans.sweep_lives.Goals as goal

pub loop-place-init : goal.loop-place-init
loop-place-init c =
    let ls = c.args.lives.now in
    let js = c.args.named.now.jobs.now in
    let m = c.args.moment in
    record {
      few = omega arith;
      long = refl;
      lives = ap (λ ps. swept_at js m (length c.args.started.now) ps ls) c.requires.places ∙ swept_whole js m ls c.args.started.now;
    }

pub life_at-life-requires : goal.life_at-life-requires
life_at-life-requires c =
    let i = c.loop-place.place-index in
    let ps = c.args.places.now in
    let lt : i < length ps = omega (arith, c.loop-place-test.true) in
    let here = place_there (concerns (Some c.args.moment)) c.args.lives.now ps i (get_or ps i 0) c.requires.places lt (read_place ps i 0 (get_or ps i 0) lt) in
    omega (arith, here, c.loop-place.invariant.long)

pub scan_at-requires : goal.scan_at-requires
scan_at-requires c =
    let i = c.loop-place.place-index in
    let ps = c.args.places.now in
    let lt : i < length ps = omega (arith, c.loop-place-test.true) in
    let here = place_there (concerns (Some c.args.moment)) c.args.lives.now ps i (get_or ps i 0) c.requires.places lt (read_place ps i 0 (get_or ps i 0) lt) in
    omega (arith, here, c.loop-place.invariant.long)

pub loop-place-preserved : goal.loop-place-preserved
loop-place-preserved c =
    let m = c.args.moment in
    let js = c.args.named.now.jobs.now in
    let ps = c.args.places.now in
    let i = c.loop-place.place-index in
    let p = get_or ps i 0 in
    let t = c.loop-place.ticket in
    let x = c.life_at-life.result.now in
    let over = c.is_over-over.result in
    let lt : i < length ps = omega (arith, c.loop-place-test.true) in
    let at = read_place ps i 0 p lt in
    let here = place_there (concerns (Some c.args.moment)) c.args.lives.now ps i p c.requires.places lt at in
    let small : p < length c.loop-place.lives = omega (arith, here, c.loop-place.invariant.long) in
    let next = swept_next js m ps i p t c.loop-place.lives c.scan_at.new.lives x over lt at small c.life_at-life.ensures c.is_over-over.ensures c.scan_at.ensures ∙ c.loop-place.invariant.lives in
    let long = ap (λ (ls : List Life). length ls) c.scan_at.ensures ∙ length-changed p (λ (l : Life). scanned_life m t over l l.schedule.closed) c.loop-place.lives ∙ c.loop-place.invariant.long in
    let test : c.starts-one.result ≡ starts_in js (number m) x = c.starts-one.ensures ∙ ap (λ b. starts (number m) b x) c.is_over-over.ensures in
    elim c.if-one.branch [
      | then-one w ↦
          let count : one js m x ≡ 1 = ap (λ (b : Bool). cond {A = ℕ} b 1 0) (sym test ∙ w.if-one.true) in
          record {
            few = omega (arith, w.ticket-is);
            long = long;
            lives = ap (λ k. swept_at js m k (drop (i + 1) ps) c.scan_at.new.lives) (w.ticket-is ∙ ap (λ k. t + k) (sym count)) ∙ next;
          }
      | else-one w ↦
          let count : one js m x ≡ 0 = ap (λ (b : Bool). cond {A = ℕ} b 1 0) (sym test ∙ w.if-one.false) in
          record {
            few = omega (arith, w.ticket-is);
            long = long;
            lives = ap (λ k. swept_at js m k (drop (i + 1) ps) c.scan_at.new.lives) (let e : _ ≡ t + one js m x = omega (arith, w.ticket-is, count) in e) ∙ next;
          }
    ]

pub returns : goal.returns
returns c =
    ap (λ ps. swept_at c.args.named.now.jobs.now c.args.moment c.loop-place.ticket ps c.loop-place.lives)
    (sym (drop_all c.loop-place.place-index c.args.places.now (omega (arith, c.loop-place-test.false))))
    ∙ c.loop-place.invariant.lives
