-- Lives that are changed in place, by the places of those that an event concerns.
use Rattle.std.proofs.Common.{◌≡◌, ℕ, ℤ, zero, suc, ◌+◌, ◌<◌, Bool, true, false, cond, List, [], ◌∷◌, ◌++◌, map, length, length-append, take, drop, get_or, set, refl, sym, ap, ap₂, ◌∙◌, arith, append_assoc}
use Rattle.std.specs.Prelude.{Option, Some, None, filter, slice_get}
use Rattle.std.proofs.Math.Seq.{take-append_seam}
use Rattle.std.proofs.lemmas.List.{drop_more, take_more, length-take}
use Rattle.std.proofs.lemmas.Option.{slice_get_read}
use Rattle.std.proofs.lemmas.List.Elements.{filter-append}
use Rattle.journal_text.specs.declared.events.Event.TheVariants.{Sweep}
use Rattle.journal_text.specs.Lines.{number}
use Rattle.jobs_in_force.specs.declared.jobs.InForce.{InForce}
use Rattle.scrape_steps.specs.declared.acts.Transition.{Transition}
use Rattle.scrape_machine.specs.declared.lives.Life.{Life}
use Rattle.scrape_machine.specs.declared.lives.StartedScrape.{StartedScrape}
use Rattle.scrape_machine.specs.Lives.{scanned_life, life_after}
use Rattle.scrape_machine.specs.Machine.{world, is_over, starts_in, lives_from, ticket_in_sweep}
use Rattle.scrape_steps.specs.Plans.{local_of, after_each}
use Rattle.scrape_steps.specs.Concerned.{concerns, places_where, all_transitions, changed_at}
use Rattle.scrape_steps.proofs.ConcernedLemmas.{transitions_skip, transitions_take, apart_closed, apart_scanned, closed_starts}

-- a change of the life at a place
pub length-changed : (k : ℕ) (g : Life → Life) (ls : List Life) → length (changed_at k g ls) ≡ length ls
length-changed k g [] = refl
length-changed zero g (l ∷ ls) = refl
length-changed (suc k) g (l ∷ ls) = ap (λ n. suc n) (length-changed k g ls)

pub set_changed : (ls : List Life) (k : ℕ) (g : Life → Life) (x y : Life) → k < length ls → x ≡ get_or ls k x → y ≡ g x → set ls k y ≡ changed_at k g ls
set_changed [] k g x y lt at is = absurd (omega arith)
set_changed (l ∷ ls) zero g x y lt at is = ap (λ z. z ∷ ls) (is ∙ ap g at)
set_changed (l ∷ ls) (suc k) g x y lt at is = ap (λ zs. l ∷ zs) (set_changed ls k g x y (omega arith) at is)

changed_alike : (ls : List Life) (p : ℕ) (f g : Life → Life) (x : Life) → p < length ls → x ≡ get_or ls p x → f x ≡ g x → changed_at p f ls ≡ changed_at p g ls
changed_alike ls p f g x lt at h = sym (set_changed ls p f x (f x) lt at refl) ∙ set_changed ls p g x (f x) lt at h

changed_after : (front : List Life) (g : Life → Life) (l : Life) (ls : List Life) → changed_at (length front) g (front ++ l ∷ ls) ≡ front ++ g l ∷ ls
changed_after [] g l ls = refl
changed_after (x ∷ xs) g l ls = ap (λ zs. x ∷ zs) (changed_after xs g l ls)

pub get_after : (front : List Life) (l : Life) (ls : List Life) → slice_get (front ++ l ∷ ls) (length front) ≡ Some l
get_after [] l ls = refl
get_after (x ∷ xs) l ls = get_after xs l ls

pub one_longer : (n : ℕ) (front : List Life) (l : Life) → n ≡ length front → n + 1 ≡ length (front ++ l ∷ [])
one_longer n front l e = omega (arith, e, length-append front (l ∷ []))

pub map_same : {A : Type 0} (xs : List A) → map (λ (x : A). x) xs ≡ xs
map_same [] = refl
map_same (x ∷ xs) = ap (λ zs. x ∷ zs) (map_same xs)

-- what becomes of each, one place after another
abbrev pub met_at : ℤ → List Transition → List ℕ → List Life → List Life
met_at m [] ps ls = ls
met_at m (f ∷ fs) [] ls = ls
met_at m (f ∷ fs) (p ∷ ps) ls = met_at m fs ps (changed_at p (life_after (local_of m f)) ls)

pub length-met : (m : ℤ) (fs : List Transition) (ps : List ℕ) (ls : List Life) → length (met_at m fs ps ls) ≡ length ls
length-met m [] ps ls = refl
length-met m (f ∷ fs) [] ls = refl
length-met m (f ∷ fs) (p ∷ ps) ls = length-met m fs ps (changed_at p (life_after (local_of m f)) ls) ∙ length-changed p (life_after (local_of m f)) ls

pub met_push : (m : ℤ) (fs : List Transition) (ps : List ℕ) (ls : List Life) (f : Transition) (p : ℕ) → length fs ≡ length ps →
    met_at m (fs ++ f ∷ []) (ps ++ p ∷ []) ls ≡ changed_at p (life_after (local_of m f)) (met_at m fs ps ls)
met_push m [] [] ls f p n = refl
met_push m [] (q ∷ qs) ls f p n = absurd (omega arith)
met_push m (g ∷ gs) [] ls f p n = absurd (omega arith)
met_push m (g ∷ gs) (q ∷ qs) ls f p n = met_push m gs qs (changed_at q (life_after (local_of m g)) ls) f p (omega arith)

length_front : {A : Type 0} (i : ℕ) (ps : List A) → i < length ps → length (take i ps) ≡ i
length_front i ps lt = omega (arith, length-take i ps)

pub met_more : (m : ℤ) (fs : List Transition) (ps : List ℕ) (ls now more : List Life) (f : Transition) (i p : ℕ) → i ≡ length fs → i < length ps → p ≡ get_or ps i p →
    now ≡ met_at m fs (take i ps) ls → more ≡ changed_at p (λ (l : Life). life_after (local_of m f) l) now → more ≡ met_at m (fs ++ f ∷ []) (take (i + 1) ps) ls
met_more m fs ps ls now more f i p n lt at was is =
    is ∙ ap (changed_at p (λ (l : Life). life_after (local_of m f) l)) was
    ∙ sym (met_push m fs (take i ps) ls f p (sym n ∙ sym (length_front i ps lt)))
    ∙ ap (λ qs. met_at m (fs ++ f ∷ []) qs ls) (ap (λ z. take i ps ++ z ∷ []) at ∙ sym (take_more ps i p lt))

module _ (m : ℤ) (p : Life → Bool) where
  met_after : (n : ℕ) (front : List Life) (fs : List Transition) (ls : List Life) → n ≡ length front → length fs ≡ length (filter p ls) →
      met_at m fs (places_where p n ls) (front ++ ls) ≡ front ++ after_each m (all_transitions p fs ls) ls
  met_after n front [] [] e k = refl
  met_after n front (f ∷ fs) [] e k = absurd (omega arith)
  met_after n front fs (l ∷ ls) e k = of (λ xs gs h j. met_after (n + 1) xs gs ls h j) (p l) refl fs k
    where
      of : ((xs : List Life) (gs : List Transition) → n + 1 ≡ length xs → length gs ≡ length (filter p ls) → met_at m gs (places_where p (n + 1) ls) (xs ++ ls) ≡ xs ++ after_each m (all_transitions p gs ls) ls) →
          (b : Bool) → p l ≡ b → (gs : List Transition) → length gs ≡ length (cond b (l ∷ filter p ls) (filter p ls)) →
          met_at m gs (cond b (n ∷ places_where p (n + 1) ls) (places_where p (n + 1) ls)) (front ++ l ∷ ls) ≡ front ++ after_each m (all_transitions p gs (l ∷ ls)) (l ∷ ls)
      of rest true h [] j = absurd (omega arith)
      of rest true h (g ∷ gs) j =
          let y = life_after (local_of m g) l in
          ap (λ i. met_at m gs (places_where p (n + 1) ls) (changed_at i (life_after (local_of m g)) (front ++ l ∷ ls))) e
          ∙ ap (met_at m gs (places_where p (n + 1) ls)) (changed_after front (life_after (local_of m g)) l ls ∙ sym (append_assoc front (y ∷ []) ls))
          ∙ rest (front ++ y ∷ []) gs (one_longer n front y e) (omega arith)
          ∙ append_assoc front (y ∷ []) (after_each m (all_transitions p gs ls) ls)
          ∙ ap (λ zs. front ++ after_each m zs (l ∷ ls)) (sym (transitions_take p g gs l ls h))
      of rest false h gs j =
          ap (met_at m gs (places_where p (n + 1) ls)) (sym (append_assoc front (l ∷ []) ls))
          ∙ rest (front ++ l ∷ []) gs (one_longer n front l e) j
          ∙ append_assoc front (l ∷ []) (after_each m (all_transitions p gs ls) ls)
          ∙ ap (λ zs. front ++ after_each m zs (l ∷ ls)) (sym (transitions_skip p gs l ls h))

  pub met_whole : (fs : List Transition) (ls : List Life) → length fs ≡ length (filter p ls) → met_at m fs (places_where p 0 ls) ls ≡ after_each m (all_transitions p fs ls) ls
  met_whole fs ls k = met_after 0 [] fs ls refl k

-- a sweep, one place after another
module _ (jobs : List InForce) (m : ℤ) where
  abbrev pub one : Life → ℕ
  one l = cond {A = ℕ} (starts_in jobs (number m) l) 1 0

  abbrev pub one_at : Option Life → ℕ
  one_at None = 0
  one_at (Some l) = one l

  abbrev pub scanned : ℕ → Life → Life
  scanned t l = scanned_life m t (is_over jobs l) l l.schedule.closed

  abbrev pub swept_at : ℕ → List ℕ → List Life → List Life
  swept_at t [] ls = ls
  swept_at t (p ∷ ps) ls = swept_at (t + one_at (slice_get ls p)) ps (changed_at p (scanned t) ls)

  pub swept_next : (ps : List ℕ) (i p t : ℕ) (ls more : List Life) (x : Life) (over : Bool) → i < length ps → p ≡ get_or ps i p → p < length ls → x ≡ get_or ls p x → over ≡ is_over jobs x →
      more ≡ changed_at p (λ (l : Life). scanned_life m t over l l.schedule.closed) ls → swept_at (t + one x) (drop (i + 1) ps) more ≡ swept_at t (drop i ps) ls
  swept_next ps i p t ls more x over lt at small here is now =
      let places : drop i ps ≡ p ∷ drop (i + 1) ps = drop_more ps i p lt ∙ ap (λ z. z ∷ drop (i + 1) ps) (sym at) in
      let found : slice_get ls p ≡ Some x = slice_get_read ls (length ls) p x refl small here in
      let same = changed_alike ls p (λ (l : Life). scanned_life m t over l l.schedule.closed) (scanned t) x small here (ap (λ b. scanned_life m t b x x.schedule.closed) is) in
      ap₂ (λ k zs. swept_at k (drop (i + 1) ps) zs) (ap (λ o. t + one_at o) (sym found)) (now ∙ same)
      ∙ ap (λ zs. swept_at t zs ls) (sym places)

  module _ (all : List Life) (ss : List StartedScrape) where
    count : List Life → ℕ
    count ls = length (filter (starts_in jobs (number m)) ls)

    count_push : (ls : List Life) (l : Life) → count (ls ++ l ∷ []) ≡ count ls + one l
    unfolding count
    count_push ls l =
        ap (λ (zs : List Life). length zs) (filter-append (starts_in jobs (number m)) ls (l ∷ []))
        ∙ length-append (filter (starts_in jobs (number m)) ls) (filter (starts_in jobs (number m)) (l ∷ []))
        ∙ of (starts_in jobs (number m) l)
      where
        of : (b : Bool) → length (filter (starts_in jobs (number m)) ls) + length (cond b (l ∷ []) []) ≡ length (filter (starts_in jobs (number m)) ls) + cond {A = ℕ} b 1 0
        of true = refl
        of false = refl

    ticket_is : (n t : ℕ) (olds ls : List Life) → all ≡ olds ++ ls → n ≡ length olds → t ≡ length ss + count olds → t ≡ ticket_in_sweep (world jobs all ss) (number m) n
    unfolding count
    ticket_is n t olds ls a e h =
        let front : take n all ≡ olds = ap₂ (λ k (zs : List Life). take k zs) e a ∙ take-append_seam olds ls in
        h ∙ ap (λ (zs : List Life). length ss + length (filter (starts_in jobs (number m)) zs)) (sym front)

    swept_after : (n t : ℕ) (olds front ls : List Life) → all ≡ olds ++ ls → n ≡ length olds → n ≡ length front → t ≡ length ss + count olds →
        swept_at t (places_where (concerns (Some m)) n ls) (front ++ ls) ≡ front ++ lives_from (world jobs all ss) (Sweep m) n ls
    swept_after n t olds front [] a e f h = refl
    swept_after n t olds front (l ∷ ls) a e f h =
        of (λ k xs g j. swept_after (n + 1) k (olds ++ l ∷ []) xs ls (a ∙ sym (append_assoc olds (l ∷ []) ls)) (one_longer n olds l e) g j) (concerns (Some m) l) refl
      where
        later : List ℕ
        later = places_where (concerns (Some m)) (n + 1) ls

        tail : List Life
        tail = lives_from (world jobs all ss) (Sweep m) (n + 1) ls

        ticket : ℕ
        ticket = ticket_in_sweep (world jobs all ss) (number m) n

        of : ((k : ℕ) (xs : List Life) → n + 1 ≡ length xs → k ≡ length ss + count (olds ++ l ∷ []) → swept_at k later (xs ++ ls) ≡ xs ++ tail) → (b : Bool) → concerns (Some m) l ≡ b →
            swept_at t (cond b (n ∷ later) later) (front ++ l ∷ ls) ≡ front ++ scanned ticket l ∷ tail
        of rest true k =
            let y = scanned t l in
            ap₂ (λ j zs. swept_at (t + one_at j) later zs) (ap (slice_get (front ++ l ∷ ls)) f ∙ get_after front l ls)
            (ap (λ j. changed_at j (scanned t) (front ++ l ∷ ls)) f ∙ changed_after front (scanned t) l ls ∙ sym (append_assoc front (y ∷ []) ls))
            ∙ rest (t + one l) (front ++ y ∷ []) (one_longer n front y f) (omega (arith, h, count_push olds l))
            ∙ append_assoc front (y ∷ []) tail
            ∙ ap (λ j. front ++ scanned j l ∷ tail) (ticket_is n t olds (l ∷ ls) a e h)
        of rest false k =
            let none : one l ≡ 0 = ap (λ b. cond {A = ℕ} b 1 0) (closed_starts jobs (number m) l (apart_closed (Some m) l k)) in
            ap (swept_at t later) (sym (append_assoc front (l ∷ []) ls))
            ∙ rest t (front ++ l ∷ []) (one_longer n front l f) (omega (arith, h, count_push olds l, none))
            ∙ append_assoc front (l ∷ []) tail
            ∙ ap (λ z. front ++ z ∷ tail) (sym (apart_scanned m ticket (is_over jobs l) l k))

  pub swept_whole : (ls : List Life) (ss : List StartedScrape) → swept_at (length ss) (places_where (concerns (Some m)) 0 ls) ls ≡ lives_from (world jobs ls ss) (Sweep m) 0 ls
  unfolding count
  swept_whole ls ss = swept_after ls ss 0 (length ss) [] [] ls refl refl refl (let e : length ss ≡ length ss + 0 = omega arith in e)
