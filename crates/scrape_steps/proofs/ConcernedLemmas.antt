-- What goes over the lives that an event concerns comes to what would go over all: a life that it doesn't concern is nothing to it.
use Rattle.std.proofs.Common.{◌≡◌, ℕ, ℤ, zero, suc, ◌+◌, ◌<◌, ◌≤◌, Bool, true, false, not, ◌&&◌, ◌||◌, cond, List, [], ◌∷◌, ◌++◌, map, length, length-append, drop, take, get_or, refl, sym, ap, ap₂, ◌∙◌, arith, append_assoc}
use Rattle.std.specs.Prelude.{Option, Some, None, filter, is_some, nat_lt}
use Rattle.std.specs.List.{flat_map, list_any}
use Rattle.std.proofs.Math.Seq.{get_or-append_seam}
use Rattle.std.proofs.lemmas.Bool.{false≢true}
use Rattle.std.proofs.lemmas.List.{drop_more, take_all}
use Rattle.journal_text.specs.Lines.{number}
use Rattle.end_of_run.specs.Endings.{ending_entries}
use Rattle.label_set.specs.declared.texts.Pair.{Pair}
use Rattle.jobs_in_force.specs.declared.jobs.InForce.{InForce}
use Rattle.scrape_steps.specs.declared.acts.Transition.{Transition}
use Rattle.scrape_steps.specs.declared.acts.Transition.TheVariants.{Stays}
use Rattle.scrape_machine.specs.declared.lives.Life.{Life}
use Rattle.scrape_machine.specs.declared.lives.StartedScrape.{StartedScrape}
use Rattle.scrape_machine.specs.declared.lives.Difference.{Difference}
use Rattle.life_roll.specs.Names.{place_in}
use Rattle.scrape_machine.specs.Lives.{is_open, closed_ends, ends, scanned_life, scan_entries, closing_at, life_after, with_ending}
use Rattle.scrape_machine.specs.Machine.{is_over, job_name, starts_in, forces_in, start_of, started_by, starts_from}
use Rattle.scrape_steps.specs.Plans as plan
use Rattle.scrape_steps.specs.Plans.{local_of, after_each, transition_at, transition_of, look, sits}
use Rattle.scrape_steps.specs.Concerned.{concerns, places_where, all_transitions}

-- the lives that pass a test, and their places
module _ (p : Life → Bool) where
  pub length-places : (n : ℕ) (ls : List Life) → length (places_where p n ls) ≡ length (filter p ls)
  length-places n [] = refl
  length-places n (l ∷ ls) = of (p l) (length-places (n + 1) ls)
    where
      of : (b : Bool) → length (places_where p (n + 1) ls) ≡ length (filter p ls) →
          length (cond b (n ∷ places_where p (n + 1) ls) (places_where p (n + 1) ls)) ≡ length (cond b (l ∷ filter p ls) (filter p ls))
      of true e = ap (λ k. suc k) e
      of false e = e

  pub places_length : (ls : List Life) (ps : List ℕ) → ps ≡ places_where p 0 ls → length ps ≡ length (filter p ls)
  places_length ls ps h = ap (λ (qs : List ℕ). length qs) h ∙ length-places 0 ls

  pub place_small : (n d : ℕ) (ls : List Life) (i : ℕ) → i < length (places_where p n ls) → get_or (places_where p n ls) i d < n + length ls
  place_small n d [] i lt = absurd (omega arith)
  place_small n d (l ∷ ls) i lt = of (λ j h. let q = place_small (n + 1) d ls j h in omega arith) (p l) i lt
    where
      of : ((j : ℕ) → j < length (places_where p (n + 1) ls) → get_or (places_where p (n + 1) ls) j d < n + suc (length ls)) → (b : Bool) (j : ℕ) →
          j < length (cond b (n ∷ places_where p (n + 1) ls) (places_where p (n + 1) ls)) → get_or (cond b (n ∷ places_where p (n + 1) ls) (places_where p (n + 1) ls)) j d < n + suc (length ls)
      of rest true zero h = omega arith
      of rest true (suc j) h = rest j (omega arith)
      of rest false j h = rest j h

  there_after : (n : ℕ) (front ls : List Life) (d : ℕ) (x : Life) → n ≡ length front → (i : ℕ) → i < length (places_where p n ls) →
      get_or (front ++ ls) (get_or (places_where p n ls) i d) x ≡ get_or (filter p ls) i x
  there_after n front [] d x e i lt = absurd (omega arith)
  there_after n front (l ∷ ls) d x e i lt =
      of
      (λ j h.
      ap (λ zs. get_or zs (get_or (places_where p (n + 1) ls) j d) x) (sym (append_assoc front (l ∷ []) ls))
      ∙ there_after (n + 1) (front ++ l ∷ []) ls d x (omega (arith, e, length-append front (l ∷ []))) j h)
      (p l) i lt
    where
      of : ((j : ℕ) → j < length (places_where p (n + 1) ls) → get_or (front ++ l ∷ ls) (get_or (places_where p (n + 1) ls) j d) x ≡ get_or (filter p ls) j x) → (b : Bool) (j : ℕ) →
          j < length (cond b (n ∷ places_where p (n + 1) ls) (places_where p (n + 1) ls)) →
          get_or (front ++ l ∷ ls) (get_or (cond b (n ∷ places_where p (n + 1) ls) (places_where p (n + 1) ls)) j d) x ≡ get_or (cond b (l ∷ filter p ls) (filter p ls)) j x
      of rest true zero h = ap (λ k. get_or (front ++ l ∷ ls) k x) e ∙ get_or-append_seam front l ls x
      of rest true (suc j) h = rest j (omega arith)
      of rest false j h = rest j h

  place_there_is : (ls : List Life) (d : ℕ) (x : Life) (i : ℕ) → i < length (places_where p 0 ls) → get_or ls (get_or (places_where p 0 ls) i d) x ≡ get_or (filter p ls) i x
  place_there_is ls d x i lt = there_after 0 [] ls d x refl i lt

  -- by places that are those of the lives
  pub place_there : (ls : List Life) (ps : List ℕ) (i n : ℕ) → ps ≡ places_where p 0 ls → i < length ps → n ≡ get_or ps i n → n < length ls
  place_there ls ps i n h lt at =
      let long : length ps ≡ length (places_where p 0 ls) = ap (λ (qs : List ℕ). length qs) h in
      let q : n ≡ get_or (places_where p 0 ls) i n = at ∙ ap (λ (qs : List ℕ). get_or qs i n) h in
      omega (arith, q, place_small 0 n ls i (omega (arith, long, lt)))

  pub life_there : (ls : List Life) (ps : List ℕ) (i n : ℕ) (x : Life) → ps ≡ places_where p 0 ls → i < length ps → n ≡ get_or ps i n → x ≡ get_or ls n x → x ≡ get_or (filter p ls) i x
  life_there ls ps i n x h lt at here =
      let long : length ps ≡ length (places_where p 0 ls) = ap (λ (qs : List ℕ). length qs) h in
      here ∙ ap (λ q. get_or ls q x) (at ∙ ap (λ (qs : List ℕ). get_or qs i n) h) ∙ place_there_is ls n x i (omega (arith, long, lt))

  -- what is nothing at each other life
  module _ {B : Type 0} (f : Life → List B) (none : (l : Life) → p l ≡ false → f l ≡ []) where
    pub flat_where : (ls : List Life) → flat_map f (filter p ls) ≡ flat_map f ls
    flat_where [] = refl
    flat_where (l ∷ ls) = of (p l) refl (flat_where ls)
      where
        of : (b : Bool) → p l ≡ b → flat_map f (filter p ls) ≡ flat_map f ls → flat_map f (cond b (l ∷ filter p ls) (filter p ls)) ≡ f l ++ flat_map f ls
        of true h e = ap (λ zs. f l ++ zs) e
        of false h e = e ∙ ap (λ zs. zs ++ flat_map f ls) (sym (none l h))

  module _ (q : Life → Bool) (none : (l : Life) → p l ≡ false → q l ≡ false) where
    pub count_where : (ls : List Life) → length (filter q (filter p ls)) ≡ length (filter q ls)
    count_where [] = refl
    count_where (l ∷ ls) = of (p l) refl (count_where ls)
      where
        one : (c : Bool) → length (filter q (filter p ls)) ≡ length (filter q ls) →
            length (cond c (l ∷ filter q (filter p ls)) (filter q (filter p ls))) ≡ length (cond c (l ∷ filter q ls) (filter q ls))
        one true e = ap (λ k. suc k) e
        one false e = e

        of : (b : Bool) → p l ≡ b → length (filter q (filter p ls)) ≡ length (filter q ls) →
            length (filter q (cond b (l ∷ filter p ls) (filter p ls))) ≡ length (cond (q l) (l ∷ filter q ls) (filter q ls))
        of true h e = one (q l) e
        of false h e = e ∙ ap (λ c. length (cond c (l ∷ filter q ls) (filter q ls))) (sym (none l h))

    pub any_where : (ls : List Life) → list_any q (filter p ls) ≡ list_any q ls
    any_where [] = refl
    any_where (l ∷ ls) = of (p l) refl (any_where ls)
      where
        of : (b : Bool) → p l ≡ b → list_any q (filter p ls) ≡ list_any q ls → list_any q (cond b (l ∷ filter p ls) (filter p ls)) ≡ (q l || list_any q ls)
        of true h e = ap (λ c. q l || c) e
        of false h e = e ∙ ap (λ c. c || list_any q ls) (sym (none l h))

    pub count_all : (ls : List Life) (i n : ℕ) → length (filter p ls) ≤ i → n ≡ length (filter q (take i (filter p ls))) → n ≡ length (filter q ls)
    count_all ls i n le h = h ∙ ap (λ (xs : List Life). length (filter q xs)) (take_all i (filter p ls) le) ∙ count_where ls

pub read_place : (ps : List ℕ) (i d e : ℕ) → i < length ps → get_or ps i d ≡ get_or ps i e
read_place [] i d e lt = absurd (omega arith)
read_place (p ∷ ps) zero d e lt = refl
read_place (p ∷ ps) (suc i) d e lt = read_place ps i d e (omega arith)

pub filter_few : (p : Life → Bool) (ls : List Life) → length (filter p ls) ≤ length ls
filter_few p [] = omega arith
filter_few p (l ∷ ls) = of (p l) (filter_few p ls)
  where
    of : (b : Bool) → length (filter p ls) ≤ length ls → length (cond b (l ∷ filter p ls) (filter p ls)) ≤ suc (length ls)
    of true e = omega arith
    of false e = omega arith

-- a life that an event doesn't concern is closed, and its ending isn't taken
or_parts : (a b : Bool) → (a || b) ≡ false → (a ≡ false) × (b ≡ false)
or_parts true b h = absurd (false≢true (sym h))
or_parts false b h = (refl, h)

pub apart_closed : (o : Option ℤ) (l : Life) → concerns o l ≡ false → is_open l ≡ false
apart_closed None l h = h
apart_closed (Some m) l h = (or_parts (is_open l) (ends (number m) l) h).0

pub apart_ends : (m : ℤ) (l : Life) → concerns (Some m) l ≡ false → ends (number m) l ≡ false
apart_ends m l h = (or_parts (is_open l) (ends (number m) l) h).1

-- of it no scrape is started or forced
none_due : (o due b : Bool) → o ≡ false → ((o && due) && b) ≡ false
none_due true due b h = absurd (false≢true (sym h))
none_due false due b h = refl

pub closed_starts : (jobs : List InForce) (m : ℕ) (l : Life) → is_open l ≡ false → starts_in jobs m l ≡ false
closed_starts jobs m l h = none_due (is_open l) (not (is_some l.schedule.flight) && not (nat_lt m l.schedule.planned)) (not (is_over jobs l)) h

pub closed_forces : (jobs : List InForce) (m : ℕ) (l : Life) → is_open l ≡ false → forces_in jobs m l ≡ false
closed_forces jobs m l h = none_due (is_open l) (not (is_some l.schedule.flight) && not (nat_lt m l.schedule.planned)) (is_over jobs l) h

-- a sweep that doesn't concern it leaves it as it is
pub apart_gives : (m : ℤ) (over : Bool) (l : Life) → concerns (Some m) l ≡ false → scan_entries m over l l.schedule.closed ≡ []
apart_gives m over l h = of l.schedule.closed (apart_closed (Some m) l h) (apart_ends m l h)
  where
    of : (o : Option ℤ) → not (is_some o) ≡ false → closed_ends (number m) l o ≡ false → scan_entries m over l o ≡ []
    of None k e = absurd (false≢true (sym k))
    of (Some c) k e = ap (λ b. cond b (ending_entries (closing_at c l)) []) e

pub apart_scanned : (m : ℤ) (t : ℕ) (over : Bool) (l : Life) → concerns (Some m) l ≡ false → scanned_life m t over l l.schedule.closed ≡ l
apart_scanned m t over l h = of l.schedule.closed (apart_closed (Some m) l h) (apart_ends m l h)
  where
    of : (o : Option ℤ) → not (is_some o) ≡ false → closed_ends (number m) l o ≡ false → scanned_life m t over l o ≡ l
    of None k e = absurd (false≢true (sym k))
    of (Some c) k e = ap (λ b. cond b (with_ending l) l) e

-- the scrapes that a sweep starts, by the places of the lives
module _ (jobs : List InForce) (m : ℕ) where
  abbrev pub starts_at : List ℕ → List Life → List StartedScrape
  starts_at [] ls = []
  starts_at (p ∷ ps) [] = []
  starts_at (p ∷ ps) (l ∷ ls) = start_of jobs m p l ++ starts_at ps ls

  pub starts_where : (p : Life → Bool) → ((l : Life) → p l ≡ false → starts_in jobs m l ≡ false) → (n : ℕ) (ls : List Life) →
      starts_at (places_where p n ls) (filter p ls) ≡ starts_from jobs m n ls
  starts_where p none n [] = refl
  starts_where p none n (l ∷ ls) = of (p l) refl (starts_where p none (n + 1) ls)
    where
      of : (b : Bool) → p l ≡ b → starts_at (places_where p (n + 1) ls) (filter p ls) ≡ starts_from jobs m (n + 1) ls →
          starts_at (cond b (n ∷ places_where p (n + 1) ls) (places_where p (n + 1) ls)) (cond b (l ∷ filter p ls) (filter p ls)) ≡ start_of jobs m n l ++ starts_from jobs m (n + 1) ls
      of true h e = ap (λ zs. start_of jobs m n l ++ zs) e
      of false h e = e ∙ ap (λ c. started_by c n l ++ starts_from jobs m (n + 1) ls) (sym (none l h))

  -- one more of them
  pub starts_next : (ps : List ℕ) (ls : List Life) (i p : ℕ) (l : Life) (all now more : List StartedScrape) → i < length ps → i < length ls → p ≡ get_or ps i p → l ≡ get_or ls i l →
      now ++ starts_at (drop i ps) (drop i ls) ≡ all → more ≡ now ++ start_of jobs m p l → more ++ starts_at (drop (i + 1) ps) (drop (i + 1) ls) ≡ all
  starts_next ps ls i p l all now more hp hl ap_ al was is =
      let places : drop i ps ≡ p ∷ drop (i + 1) ps = drop_more ps i p hp ∙ ap (λ z. z ∷ drop (i + 1) ps) (sym ap_) in
      let lives : drop i ls ≡ l ∷ drop (i + 1) ls = drop_more ls i l hl ∙ ap (λ z. z ∷ drop (i + 1) ls) (sym al) in
      ap (λ zs. zs ++ starts_at (drop (i + 1) ps) (drop (i + 1) ls)) is
      ∙ append_assoc now (start_of jobs m p l) (starts_at (drop (i + 1) ps) (drop (i + 1) ls))
      ∙ ap (λ zs. now ++ zs) (sym (ap₂ starts_at places lives)) ∙ was

-- what becomes of the lives
module _ (p : Life → Bool) where
  pub transitions_skip : (fs : List Transition) (l : Life) (ls : List Life) → p l ≡ false → all_transitions p fs (l ∷ ls) ≡ Stays ∷ all_transitions p fs ls
  transitions_skip [] l ls h = refl
  transitions_skip (f ∷ fs) l ls h = ap (λ b. cond b (f ∷ all_transitions p fs ls) (Stays ∷ all_transitions p (f ∷ fs) ls)) h

  pub transitions_take : (f : Transition) (fs : List Transition) (l : Life) (ls : List Life) → p l ≡ true → all_transitions p (f ∷ fs) (l ∷ ls) ≡ f ∷ all_transitions p fs ls
  transitions_take f fs l ls h = ap (λ b. cond b (f ∷ all_transitions p fs ls) (Stays ∷ all_transitions p (f ∷ fs) ls)) h

pub closed_stays : (names : List (List ℕ)) (news : List InForce) (vs : List Difference) (l : Life) → is_open l ≡ false → transition_of names news vs l ≡ Stays
closed_stays names news vs l h =
    ap (λ b. cond b (transition_at l (look news (place_in (job_name l) names)) (look vs (place_in (job_name l) names))) Stays) h

module _ (p : Life → Bool) (f : Life → Transition) (none : (l : Life) → p l ≡ false → f l ≡ Stays) where
  pub all_transitions_are : (ls : List Life) → all_transitions p (map f (filter p ls)) ls ≡ map f ls
  all_transitions_are [] = refl
  all_transitions_are (l ∷ ls) = of (p l) refl (all_transitions_are ls)
    where
      of : (b : Bool) → p l ≡ b → all_transitions p (map f (filter p ls)) ls ≡ map f ls → all_transitions p (map f (cond b (l ∷ filter p ls) (filter p ls))) (l ∷ ls) ≡ f l ∷ map f ls
      of true h e = transitions_take p (f l) (map f (filter p ls)) l ls h ∙ ap (λ zs. f l ∷ zs) e
      of false h e = transitions_skip p (map f (filter p ls)) l ls h ∙ ap₂ (λ z zs. z ∷ zs) (sym (none l h)) e

  pub closes_where : (ls : List Life) → length (filter plan.closes (map f (filter p ls))) ≡ length (filter plan.closes (map f ls))
  closes_where [] = refl
  closes_where (l ∷ ls) = of (p l) refl (closes_where ls)
    where
      one : (c : Bool) → length (filter plan.closes (map f (filter p ls))) ≡ length (filter plan.closes (map f ls)) →
          length (cond c (f l ∷ filter plan.closes (map f (filter p ls))) (filter plan.closes (map f (filter p ls)))) ≡ length (cond c (f l ∷ filter plan.closes (map f ls)) (filter plan.closes (map f ls)))
      one true e = ap (λ k. suc k) e
      one false e = e

      of : (b : Bool) → p l ≡ b → length (filter plan.closes (map f (filter p ls))) ≡ length (filter plan.closes (map f ls)) →
          length (filter plan.closes (map f (cond b (l ∷ filter p ls) (filter p ls)))) ≡ length (cond (plan.closes (f l)) (f l ∷ filter plan.closes (map f ls)) (filter plan.closes (map f ls)))
      of true h e = one (plan.closes (f l)) e
      of false h e = e ∙ ap (λ g. length (cond (plan.closes g) (g ∷ filter plan.closes (map f ls)) (filter plan.closes (map f ls)))) (sym (none l h))

-- the targets that stay held are those of lives that are open
none_sits : (o b : Bool) → o ≡ false → (o && b) ≡ false
none_sits true b h = absurd (false≢true (sym h))
none_sits false b h = refl

module _ (m : ℤ) (names : List (List ℕ)) (place : ℕ) (identity : List Pair) (p : Life → Bool) (shut : (l : Life) → p l ≡ false → is_open l ≡ false) where
  abbrev pub any_sits : List Transition → List Life → Bool
  any_sits fs ls = list_any (sits names place identity) (after_each m fs ls)

  pub held_where : (fs : List Transition) (ls : List Life) → length fs ≡ length (filter p ls) → any_sits fs (filter p ls) ≡ any_sits (all_transitions p fs ls) ls
  held_where [] [] n = refl
  held_where (f ∷ fs) [] n = absurd (omega arith)
  held_where fs (l ∷ ls) n = of (λ gs h. held_where gs ls h) (p l) refl fs n
    where
      of : ((gs : List Transition) → length gs ≡ length (filter p ls) → any_sits gs (filter p ls) ≡ any_sits (all_transitions p gs ls) ls) → (b : Bool) → p l ≡ b → (gs : List Transition) →
          length gs ≡ length (cond b (l ∷ filter p ls) (filter p ls)) → any_sits gs (cond b (l ∷ filter p ls) (filter p ls)) ≡ any_sits (all_transitions p gs (l ∷ ls)) (l ∷ ls)
      of rest true h [] k = absurd (omega arith)
      of rest true h (g ∷ gs) k =
          ap (λ c. sits names place identity (life_after (local_of m g) l) || c) (rest gs (omega arith))
          ∙ ap (λ zs. any_sits zs (l ∷ ls)) (sym (transitions_take p g gs l ls h))
      of rest false h gs k =
          rest gs k
          ∙ ap (λ c. c || any_sits (all_transitions p gs ls) ls)
          (sym (none_sits (is_open l) _ (shut l h)))
          ∙ ap (λ zs. any_sits zs (l ∷ ls)) (sym (transitions_skip p gs l ls h))
