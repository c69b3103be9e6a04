use Rattle.std.proofs.Common.{rules, ◌≡◌, sym, ◌∙◌}
use Rattle.std.proofs.lemmas.Slice.Eq.{bytes_eq-Decides}
use Rattle.label_set.specs.Flat.{first_label}
use Rattle.label_set.proofs.OfLemmas.{same_bytes}
use Rattle.label_set.proofs.flat.compared_first.Goals as goal

pub returns-then-eq : goal.returns-then-eq
returns-then-eq c =
    let same : c.args.left_first.now ≡ c.args.right_first.now = search (rules, bytes_eq-Decides) in
    same_bytes (first_label c.args.left.now) (first_label c.args.right.now) c.requires.left_label c.requires.right_label (sym c.requires.left_first ∙ same ∙ c.requires.right_first)
