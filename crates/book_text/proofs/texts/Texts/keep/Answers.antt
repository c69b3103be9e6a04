use Rattle.std.proofs.Common.{◌≡◌, ◌≤◌, length, refl, arith}
use Rattle.label_set.specs.SetText.{set_text}
use Rattle.book_text.proofs.KeptLemmas.{texts_kept, texts_left}
use Rattle.book_text.proofs.texts.Texts.keep.Goals as goal

pub returns-in_ok-push : goal.returns-in_ok-push
returns-in_ok-push c = λ series are at.
    let count : length c.args.self.now.spans.items ≡ c.args.number = omega arith in
    let long : length (set_text c.args.set.now) ≤ c.max-self.result = omega arith in
    texts_kept c.args.number series c.args.self.now _ c.args.set.now c.in_ok-span.span are at count c.in_ok-push.ensures.items c.in_ok-span.ensures.kept c.in_ok-span.ensures.others (omega arith) long

pub returns-else-number-limit : goal.returns-else-number-limit
returns-else-number-limit c = λ series are at.
    let long : length (set_text c.args.set.now) ≤ c.max-self.result = omega arith in
    texts_left c.args.number series c.args.self.now _ c.args.set.now are at refl refl (omega arith) long
