-- What a life meets in a run is all that its states and its entries depend on.
use Rattle.std.proofs.Common.{◌≡◌, ℕ, List, [], ◌∷◌, ◌++◌, map, Option, Some, None, option_map, slice_get, refl, sym, ap, ap₂, ◌∙◌, append_assoc}
use Rattle.std.specs.List.{filter}
use Rattle.std.proofs.lemmas.List.{map-append}
use Rattle.std.proofs.lemmas.List.Elements.{filter-append}
use Rattle.journal_text.specs.declared.events.Event.{Event}
use Rattle.report_samples.specs.declared.entries.Entry.{Entry}
use Rattle.scrape_machine.specs.declared.lives.Life.{Life}
use Rattle.scrape_machine.specs.declared.lives.Local.{Local}
use Rattle.scrape_machine.specs.declared.lives.Local.TheVariants.{Nothing, Scan, Answered, Change, Close}
use Rattle.scrape_machine.specs.Lives.{life_after, life_gives}
use Rattle.scrape_machine.specs.Machine.{World, beginning, local, step, gives, run, book_from, world_of, book_of}
use Rattle.scrape_machine.proofs.StepLemmas.{world_push}
use Rattle.scrape_laws.specs.Undisturbed.{UndisturbedLaw, is_entry_of}
use Rattle.scrape_laws.specs.Apart.{bare, bare_local, renumbered, unless_nothing, met_at, met, first_of, first, RunAlike, ApartRunsLaw, ReloadLaw}
use Rattle.scrape_laws.proofs.WorldLemmas.{AreNumbered, step_numbered, at_gives, gives_at}
use Rattle.scrape_laws.proofs.UndisturbedLemmas.{world_numbered, entry_only, undisturbed_law}
use Rattle.scrape_laws.proofs.ApartLemmas.{gives_bare, bare_twice, after_bare, entries_at, life_at, numbered_own, equal_but_number}

-- the life after all that it met, and the entries that it gave, as number 0
abbrev pub all_after : List Local → Life → Life
all_after [] l = l
all_after (c ∷ cs) l = all_after cs (bare (life_after c l))

abbrev pub all_gives : List Local → Life → List Entry
all_gives [] l = []
all_gives (c ∷ cs) l = life_gives c l ++ all_gives cs (bare (life_after c l))

one_after : (c : Local) (cs : List Local) (l : Life) → all_after (unless_nothing c ++ cs) (bare l) ≡ all_after cs (bare (life_after c (bare l)))
one_after Nothing cs l = ap (all_after cs) (bare_twice l)
one_after (Scan m t over) cs l = refl
one_after (Answered took r) cs l = refl
one_after (Change m s) cs l = refl
one_after (Close m) cs l = refl

one_gives : (c : Local) (cs : List Local) (l : Life) → all_gives (unless_nothing c ++ cs) (bare l) ≡ life_gives c (bare l) ++ all_gives cs (bare (life_after c (bare l)))
one_gives Nothing cs l = ap (all_gives cs) (bare_twice l)
one_gives (Scan m t over) cs l = refl
one_gives (Answered took r) cs l = refl
one_gives (Change m s) cs l = refl
one_gives (Close m) cs l = refl

-- a life that has begun
pub record Meets (w : World) (n : ℕ) (es : List Event) (l : Life) : Type 0 where
  pub lives : option_map bare (slice_get (run w es).lives n) ≡ Some (all_after (met w n es) (bare l))
  pub entries : map (renumbered 0) (filter (is_entry_of n) (book_from w es)) ≡ all_gives (met w n es) (bare l)

meets_one : (w : World) (n : ℕ) (e : Event) (es : List Event) (l : Life) → AreNumbered 0 w.lives → slice_get w.lives n ≡ Some l →
    Meets (step w e) n es (life_after (local w e n l) l) → Meets w n (e ∷ es) l
meets_one w n e es l h at rest =
    let c = local w e n l in
    let cs = met (step w e) n es in
    let front : met w n (e ∷ es) ≡ unless_nothing (bare_local c) ++ cs = ap (λ o. met_at w e n o ++ cs) at in
    record {
      lives = rest.lives
          ∙ ap Some (ap (all_after cs) (after_bare c l) ∙ (sym (one_after (bare_local c) cs l) ∙ ap (λ zs. all_after zs (bare l)) (sym front)));
      entries = ap (map (renumbered 0)) (filter-append (is_entry_of n) (gives w e) (book_from (step w e) es))
          ∙ (map-append (renumbered 0) (filter (is_entry_of n) (gives w e)) (filter (is_entry_of n) (book_from (step w e) es))
          ∙ (ap₂ ◌++◌ (ap (map (renumbered 0)) (entries_at w e n l h at) ∙ gives_bare c l) (rest.entries ∙ ap (all_gives cs) (after_bare c l))
          ∙ (sym (one_gives (bare_local c) cs l) ∙ ap (λ zs. all_gives zs (bare l)) (sym front))));
    }

meets : (es : List Event) (w : World) (n : ℕ) (l : Life) → AreNumbered 0 w.lives → slice_get w.lives n ≡ Some l → Meets w n es l
meets [] w n l h at = record { lives = ap (option_map bare) at; entries = refl }
meets (e ∷ es) w n l h at = meets_one w n e es l h at (meets es (step w e) n (life_after (local w e n l) l) (step_numbered w e h) (life_at w e n l at))

-- a life that has begun or begins
abbrev pub gives_of : List Local → Option Life → List Entry
gives_of cs None = []
gives_of cs (Some l) = all_gives cs l

pub record MeetsAll (w : World) (n : ℕ) (es : List Event) : Type 0 where
  pub lives : option_map bare (slice_get (run w es).lives n) ≡ option_map (all_after (met w n es)) (option_map bare (first w n es))
  pub entries : map (renumbered 0) (filter (is_entry_of n) (book_from w es)) ≡ gives_of (met w n es) (option_map bare (first w n es))

first_here : (es : List Event) (w : World) (n : ℕ) (l : Life) → slice_get w.lives n ≡ Some l → first w n es ≡ Some l
first_here [] w n l at = at
first_here (e ∷ es) w n l at = ap (λ o. first_of o (first (step w e) n es)) at

has_begun : (es : List Event) (w : World) (n : ℕ) (l : Life) → AreNumbered 0 w.lives → slice_get w.lives n ≡ Some l → MeetsAll w n es
has_begun es w n l h at =
    let m = meets es w n l h at in
    let f = sym (first_here es w n l at) in
    record {
      lives = m.lives ∙ ap (λ o. option_map (all_after (met w n es)) (option_map bare o)) f;
      entries = m.entries ∙ ap (λ o. gives_of (met w n es) (option_map bare o)) f;
    }

not_begun : (w : World) (n : ℕ) → slice_get w.lives n ≡ None → MeetsAll w n []
not_begun w n at = record {
  lives = ap (option_map bare) at ∙ sym (ap (λ o. option_map (all_after []) (option_map bare o)) at);
  entries = sym (ap (λ o. gives_of [] (option_map bare o)) at);
}

not_yet : (w : World) (n : ℕ) (e : Event) (es : List Event) → AreNumbered 0 w.lives → slice_get w.lives n ≡ None → MeetsAll (step w e) n es → MeetsAll w n (e ∷ es)
not_yet w n e es h at rest =
    let front : met w n (e ∷ es) ≡ met (step w e) n es = ap (λ o. met_at w e n o ++ met (step w e) n es) at in
    let f : first w n (e ∷ es) ≡ first (step w e) n es = ap (λ o. first_of o (first (step w e) n es)) at in
    record {
      lives = rest.lives ∙ sym (ap₂ (λ cs o. option_map (all_after cs) (option_map bare o)) front f);
      entries = ap (map (renumbered 0)) (filter-append (is_entry_of n) (gives w e) (book_from (step w e) es)
          ∙ ap (λ zs. zs ++ filter (is_entry_of n) (book_from (step w e) es)) (gives_at w e n (is_entry_of n) (entry_only n) h ∙ ap (at_gives w e n (is_entry_of n)) at))
          ∙ (rest.entries ∙ sym (ap₂ (λ cs o. gives_of cs (option_map bare o)) front f));
    }

meets_by : (es : List Event) (w : World) (n : ℕ) (o : Option Life) → AreNumbered 0 w.lives → slice_get w.lives n ≡ o → MeetsAll w n es
meets_by es w n (Some l) h at = has_begun es w n l h at
meets_by [] w n None h at = not_begun w n at
meets_by (e ∷ es) w n None h at = not_yet w n e es h at (meets_by es (step w e) n (slice_get (step w e).lives n) (step_numbered w e h) refl)

meets_all : (es : List Event) (w : World) (n : ℕ) → AreNumbered 0 w.lives → MeetsAll w n es
meets_all es w n h = meets_by es w n (slice_get w.lives n) h refl

-- two runs
run_alike : (w v : World) (es fs : List Event) (n k : ℕ) → AreNumbered 0 w.lives → AreNumbered 0 v.lives →
    option_map bare (first w n es) ≡ option_map bare (first v k fs) → met w n es ≡ met v k fs → RunAlike (w, n) (v, k) es fs
run_alike w v es fs n k hw hv f m =
    let p = meets_all es w n hw in
    let q = meets_all fs v k hv in
    record {
      lives = p.lives ∙ (ap₂ (λ cs o. option_map (all_after cs) o) m f ∙ sym q.lives);
      entries = equal_but_number n k (book_from w es) (book_from v fs) (p.entries ∙ (ap₂ gives_of m f ∙ sym q.entries));
    }

pub apart_runs_law : (journal other : List Event) → ApartRunsLaw journal other
unfolding ApartRunsLaw
apart_runs_law journal other es fs n k f m =
    run_alike (world_of journal) (world_of other) es fs n k (world_numbered journal) (world_numbered other) f m

-- one more event that is nothing
pub book_append : (xs : List Event) (w : World) (ys : List Event) → book_from w (xs ++ ys) ≡ book_from w xs ++ book_from (run w xs) ys
book_append [] w ys = refl
book_append (x ∷ xs) w ys =
    ap (λ zs. gives w x ++ zs) (book_append xs (step w x) ys) ∙ sym (append_assoc (gives w x) (book_from (step w x) xs) (book_from (run (step w x) xs) ys))

pub reload_law : (journal : List Event) (e : Event) → ReloadLaw journal e
unfolding ReloadLaw UndisturbedLaw
reload_law journal e n l es fs at h m =
    let w = world_of journal in
    let u = undisturbed_law journal e n l at h in
    let a = run_alike (step w e) w es fs n n (step_numbered w e (world_numbered journal)) (world_numbered journal)
    (ap (option_map bare) (first_here es (step w e) n l u.life ∙ sym (first_here fs w n l at)))
    (ap (λ v. met v n es) (sym (world_push journal e)) ∙ m) in
    let same : filter (is_entry_of n) (book_from (step w e) es) ≡ filter (is_entry_of n) (book_from w fs) = sym (numbered_own n (book_from (step w e) es)) ∙ a.entries in
    ap (filter (is_entry_of n)) (book_append journal beginning (e ∷ es))
    ∙ (filter-append (is_entry_of n) (book_of journal) (gives w e ++ book_from (step w e) es)
    ∙ (ap (λ zs. filter (is_entry_of n) (book_of journal) ++ zs)
    (filter-append (is_entry_of n) (gives w e) (book_from (step w e) es) ∙ ap₂ ◌++◌ u.entries same)
    ∙ sym (ap (filter (is_entry_of n)) (book_append journal beginning fs) ∙ filter-append (is_entry_of n) (book_of journal) (book_from w fs))))
