use Rattle.std.proofs.Common.{◌≡◌, List, ℕ, Bool, false, sym, ap, ◌∙◌, ◌||◌}
use Rattle.std.specs.Str.{bytes_eq}
use Rattle.std.proofs.lemmas.List.Folds.{list_any-append}
use Rattle.label_set.specs.declared.texts.Pair.{Pair}
use Rattle.label_conflict.specs.Merging.{bears}
use Rattle.label_conflict.specs.Names.{bare}
use Rattle.label_conflict.proofs.NameLemmas.{bears_bare}
use Rattle.label_conflict.proofs.free.is_taken.Goals as goal

pub returns-else-bear : goal.returns-else-bear
returns-else-bear c =
    let name = c.args.name.now in
    let keys = c.args.renamed.now.keys in
    let unborne : bears c.args.labels.now name ≡ false = ap (λ (n : List ℕ). bears c.args.labels.now n) (sym c.as_str.ensures) ∙ sym c.bear.ensures ∙ c.if-bear.false in
    c.contains.ensures
    ∙ sym (bears_bare keys name)
    ∙ ap (λ (b : Bool). b || bears (bare keys) name) (sym unborne)
    ∙ sym (list_any-append (λ (p : Pair). bytes_eq p.name name) c.args.labels.now (bare keys))
