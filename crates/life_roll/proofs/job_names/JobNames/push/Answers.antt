use Rattle.std.proofs.Common.{◌≡◌, ◌++◌, ◌∷◌, [], ◌∙◌, sym, ap, ap₂, ℕ, List, length}
use Rattle.std.specs.Prelude.{Option}
use Rattle.std.specs.Str.{bytes_eq}
use Rattle.life_roll.specs.Names.{noted, place_in}
use Rattle.life_roll.proofs.NameLemmas.{place_push}
use Rattle.life_roll.proofs.job_names.JobNames.push.Goals as goal

pub invariant_of-self-2 : goal.invariant_of-self-2
invariant_of-self-2 c = λ n.
    c.in_ok-note.ensures.noted n
    ∙ ap₂ (λ (o : Option ℕ) q. noted o (bytes_eq n c.args.name.now) q) (c.self.invariant n) (ap (λ (xs : List (List ℕ)). length xs) c.as_slice-place.ensures.value)
    ∙ sym (place_push n c.self.inside.names.items c.args.name.now)
    ∙ ap (place_in n) (ap₂ (λ (xs : List (List ℕ)) x. xs ++ x ∷ []) (sym c.in_ok-reserve.ensures.items) (sym c.in_ok-kept.ensures) ∙ sym c.push_reserved.ensures.items)

pub invariant_of-self-in_err-note : goal.invariant_of-self-in_err-note
invariant_of-self-in_err-note c = λ n. c.in_err-note.ensures.err n ∙ c.self.invariant n ∙ ap (place_in n) (sym c.in_ok-reserve.ensures.items)
