-- A whole change of the configuration in force, as the code works it out.
use Rattle.std.proofs.Common.{◌≡◌, ℕ, ℤ, zero, suc, ◌<◌, Bool, true, false, List, [], ◌∷◌, map, length, get_or, refl, sym, ap, ◌∙◌, subst, arith}
use Rattle.std.specs.Prelude.{All, Some, option_map, slice_get, filter, if◌then◌else◌}
use Rattle.std.proofs.lemmas.List.Elements.{All-nil, All-from_get_or}
use Rattle.std.proofs.lemmas.Option.{slice_get-map}
use Rattle.journal_text.specs.Lines.{number}
use Rattle.life_roll.specs.declared.seats.Seats.{Seats}
use Rattle.scrape_steps.specs.declared.acts.Transition.{Transition}
use Rattle.scrape_steps.specs.declared.acts.Transition.TheVariants.{Stays, Changes, Closes}
use Rattle.jobs_in_force.specs.declared.jobs.InForce.{InForce}
use Rattle.scrape_machine.specs.declared.lives.Life.{Life}
use Rattle.scrape_machine.specs.declared.lives.StartedScrape.{StartedScrape}
use Rattle.scrape_machine.specs.declared.lives.Local.{Local}
use Rattle.scrape_machine.specs.declared.lives.Difference.{Difference}
use Rattle.scrape_machine.specs.Machine as spec
use Rattle.scrape_machine.specs.Machine.{World, world, births, reload_local}
use Rattle.scrape_steps.specs.Reloads.{reload_lives, reload_births, closed_by}
use Rattle.scrape_steps.specs.Plans as plan
use Rattle.scrape_steps.specs.Plans.{local_of, after_each, transition_of, IsHeld, births_by}
use Rattle.scrape_machine.specs.Machine.{name_of}
use Rattle.scrape_machine.specs.Lives.{is_open}
use Rattle.scrape_steps.specs.Concerned.{all_transitions}
use Rattle.scrape_steps.proofs.ReloadLemmas.{transition_local, each_after, has_place, births_alike, HasPlace}
use Rattle.scrape_steps.proofs.ConcernedLemmas.{closed_stays, all_transitions_are, closes_where}

there : {A : Type 0} (xs : List A) (i : ℕ) (d : A) → i < length xs → slice_get xs i ≡ Some (get_or xs i d)
there [] i d lt = absurd (omega arith)
there (x ∷ xs) zero d lt = refl
there (x ∷ xs) (suc i) d lt = there xs i d (omega arith)

places : (news : List InForce) → All (HasPlace (map name_of news)) news
places [] = All-nil (HasPlace [])
places (j ∷ js) =
    All-from_get_or (HasPlace (map name_of (j ∷ js))) (j ∷ js) j
    (λ i lt. has_place (map name_of (j ∷ js)) i (name_of (get_or (j ∷ js) i j)) (slice_get-map name_of (j ∷ js) i ∙ ap (option_map name_of) (there (j ∷ js) i j lt)))

one_closes : (m : ℤ) (f : Transition) → plan.closes f ≡ spec.closes (local_of m f)
one_closes m Stays = refl
one_closes m (Changes s) = refl
one_closes m Closes = refl

closes_alike : (m : ℤ) (f : Life → Transition) (g : Life → Local) (ls : List Life) → ((l : Life) → local_of m (f l) ≡ g l) →
    length (filter plan.closes (map f ls)) ≡ length (filter spec.closes (map g ls))
closes_alike m f g [] h = refl
closes_alike m f g (l ∷ ls) h =
    ap (λ (b : Bool). length (if b then f l ∷ filter plan.closes (map f ls) else filter plan.closes (map f ls))) (one_closes m (f l) ∙ ap spec.closes (h l))
    ∙ of (spec.closes (g l)) (closes_alike m f g ls h)
  where
    of : (b : Bool) → length (filter plan.closes (map f ls)) ≡ length (filter spec.closes (map g ls)) →
        length (if b then f l ∷ filter plan.closes (map f ls) else filter plan.closes (map f ls)) ≡ length (if b then g l ∷ filter spec.closes (map g ls) else filter spec.closes (map g ls))
    of true e = ap (λ n. suc n) e
    of false e = e

module _ (m : ℤ) (olds news : List InForce) (ls : List Life) (ss : List StartedScrape) (names : List (List ℕ)) (vs : List Difference) (transitions : List Transition)
    (n : names ≡ map name_of news) (v : vs ≡ map (spec.difference olds) news) (f : transitions ≡ map (transition_of names news vs) (filter is_open ls)) where
  local_is : (l : Life) → local_of m (transition_of names news vs l) ≡ reload_local m olds (Some news) l
  local_is l = transition_local m olds news names vs l n v

  pub whole_lives : after_each m (all_transitions is_open transitions ls) ls ≡ reload_lives m news (world olds ls ss)
  whole_lives =
      ap (λ fs. after_each m fs ls) (ap (λ fs. all_transitions is_open fs ls) f ∙ all_transitions_are is_open (transition_of names news vs) (closed_stays names news vs) ls)
      ∙ each_after m (transition_of names news vs) (reload_local m olds (Some news)) ls local_is

  pub whole_closed : length (filter plan.closes transitions) ≡ closed_by m news (world olds ls ss)
  whole_closed =
      ap (λ fs. length (filter plan.closes fs)) f ∙ closes_where is_open (transition_of names news vs) (closed_stays names news vs) ls
      ∙ closes_alike m (transition_of names news vs) (reload_local m olds (Some news)) ls local_is

  pub whole_births : (held : Seats) → IsHeld held names (after_each m (all_transitions is_open transitions ls) ls) →
      births_by (number m) (length ls) held names news ≡ reload_births m news (world olds ls ss)
  whole_births held h =
      births_alike (number m) (length ls) held names (after_each m (all_transitions is_open transitions ls) ls) news h (subst (λ ns. All (HasPlace ns) news) (sym n) (places news))
      ∙ ap (λ zs. births (number m) (length ls) zs news) whole_lives
