-- One life, one event on.
use Rattle.std.proofs.Common.{◌≡◌, ℕ, ℤ, Bool, true, false, not, ◌&&◌, cond, List, [], ◌∷◌, ◌++◌, Option, Some, None, is_some, nat_lt, pos, option_map, refl, sym, ap, ap₂, subst, ◌∙◌, append-nil}
use Rattle.std.specs.List.{filter}
use Rattle.std.proofs.lemmas.Bool.{true≢false, false≢true, and_parts, not-true}
use Rattle.label_set.specs.declared.texts.Pair.{Pair}
use Rattle.journal_text.specs.Lines.{number}
use Rattle.outside.specs.declared.replies.Reply.{Reply}
use Rattle.sample_rows.specs.Outcomes.{forced}
use Rattle.sample_rows.specs.declared.scrape.Scrape.{Scrape}
use Rattle.report_samples.specs.declared.entries.Entry.{Entry}
use Rattle.report_samples.specs.declared.scrape_reports.ExtraCounts.{ExtraCounts}
use Rattle.end_of_run.specs.Endings.{ending_entries, marker_moment}
use Rattle.scrape_loop.specs.Tracked.{LifeView, after_forced, after_scrape, known_after}
use Rattle.scrape_loop.specs.Entries.{entries_of, extra_for, extra_of}
use Rattle.life_roll.specs.Schedules as schedule
use Rattle.life_roll.specs.declared.schedule.InFlight.{InFlight}
use Rattle.life_roll.specs.declared.schedule.Schedule.{Schedule}
use Rattle.scrape_machine.specs.declared.lives.Life.{Life}
use Rattle.scrape_machine.specs.declared.lives.Local.{Local}
use Rattle.scrape_machine.specs.declared.lives.Local.TheVariants.{Nothing, Scan, Answered, Change, Close}
use Rattle.scrape_machine.specs.Lives.{is_open, forces, ends_at, closing_at, outcome_for, rules_of, scanned_life, with_ending, counted, changed, closed, life_after, scan_entries, counting_entries, life_gives}
use Rattle.scrape_laws.specs.Scrapes.{LifeScrape, tracks}
use Rattle.scrape_laws.specs.Markers.{series_entries, is_of, ending_of, reports_at, is_report_marker_of}
use Rattle.scrape_laws.specs.Past.{tracked_by, known_by, ends_with, was_good}
use Rattle.scrape_laws.specs.Runs.{is_any}
use Rattle.scrape_laws.proofs.SetLemmas.{copies, one_if, tracked_copies}
use Rattle.scrape_laws.proofs.SeriesEntries.{ends_with_push, any_push, tracked_push, known_push, entries_more, entries_ended}
use Rattle.scrape_laws.proofs.EntryLemmas.{Skips, other_scrape, other_ending, own_scrape, own_ending, no_reports, own_reports}

-- the report markers of a life by its state
abbrev pub state_reports : ℕ → Option Life → List LifeScrape → List Entry
state_reports n None ss = []
state_reports n (Some l) ss = reports_at n l.state.target l.state.extra (ending_of (Some l)) ss

-- entries of another life
other_scan : (p : Entry → Bool) (m : ℤ) (over : Bool) (l : Life) (o : Option ℤ) → Skips p l.state.life → filter p (scan_entries m over l o) ≡ []
other_scan p m over l None e = by (forces (number m) over l)
  where
    by : (b : Bool) → filter p (cond b (entries_of l.state (extra_of (rules_of l.settings) (pos 0)) forced m (pos 0)) []) ≡ []
    by true = other_scrape p l.state (extra_of (rules_of l.settings) (pos 0)) forced m (pos 0) e
    by false = refl
other_scan p m over l (Some c) e = by (ends_at (number m) c l)
  where
    by : (b : Bool) → filter p (cond b (ending_entries (closing_at c l)) []) ≡ []
    by true = other_ending p (closing_at c l) e
    by false = refl

other_counting : (p : Entry → Bool) (l : Life) (took : ℤ) (r : Reply) (s : Scrape) (o : Option InFlight) → Skips p l.state.life → filter p (counting_entries l took r s o) ≡ []
other_counting p l took r s None e = refl
other_counting p l took r s (Some f) e = other_scrape p l.state (extra_for (rules_of l.settings) s r) s f.moment took e

pub other_life : (p : Entry → Bool) (loc : Local) (l : Life) → Skips p l.state.life → filter p (life_gives loc l) ≡ []
other_life p Nothing l e = refl
other_life p (Scan m k over) l e = other_scan p m over l l.schedule.closed e
other_life p (Answered took r) l e = other_counting p l took r (outcome_for l took r) l.schedule.flight e
other_life p (Change m s) l e = refl
other_life p (Close m) l e = refl

-- what the scrapes of a life say of it; what it tracks is tracked until its ending was taken
pub record Knows (n : ℕ) (x : List Pair) (ss : List LifeScrape) (l : Life) : Type 0 where
  pub named : l.state.life ≡ n
  pub tracked : l.ended ≡ false → copies x l.state.tracked ≡ one_if x (ends_with (tracks x) false ss)
  pub before : l.ended ≡ false → l.state.tracked ≡ tracked_by [] ss
  pub known : l.ended ≡ false → l.state.known ≡ known_by [] ss
  pub scraped : l.state.scraped ≡ is_any ss
  pub up : l.state.up ≡ ends_with was_good false ss
  pub quiet : is_open l ≡ false → l.schedule.flight ≡ None
  pub ended : is_open l ≡ true → l.ended ≡ false

-- what may come to a life
abbrev pub Fits : Local → Life → Type 0
Fits Nothing l = Unit {0}
Fits (Scan m k over) l = Unit {0}
Fits (Answered took r) l = is_some l.schedule.flight ≡ true
Fits (Change m s) l = is_open l ≡ true
Fits (Close m) l = is_open l ≡ true

-- the scrape that it makes count
abbrev pub flight_scrape : Scrape → Option InFlight → List LifeScrape
flight_scrape s None = []
flight_scrape s (Some f) = record { moment = f.moment; outcome = s } ∷ []

abbrev pub act_scrape : Local → Life → List LifeScrape
act_scrape Nothing l = []
act_scrape (Scan m k over) l = cond (forces (number m) over l) (record { moment = m; outcome = forced } ∷ []) []
act_scrape (Answered took r) l = flight_scrape (outcome_for l took r) l.schedule.flight
act_scrape (Change m s) l = []
act_scrape (Close m) l = []

-- the life goes on from l to k by the entries es, and its scrapes from ss to ts
pub record Goes (n : ℕ) (x : List Pair) (ss ts : List LifeScrape) (l k : Life) (es : List Entry) : Type 0 where
  pub knows : Knows n x ts k
  pub tells : series_entries n x (ending_of (Some k)) false ts ≡ series_entries n x (ending_of (Some l)) false ss ++ filter (is_of n x) es
  pub reports : state_reports n (Some k) ts ≡ state_reports n (Some l) ss ++ filter (is_report_marker_of n) es

pub no_ending : (l : Life) → l.ended ≡ false → ending_of (Some l) ≡ None
no_ending l e = ap (λ b. cond b (option_map (λ c. marker_moment (closing_at c l)) l.schedule.closed) None) e

not_flying : (o : Option InFlight) → is_some o ≡ true → o ≡ None → ⊥
not_flying None h e = false≢true h
not_flying (Some f) h e = false≢true (sym (ap is_some e))

any_ends : (p : LifeScrape → Bool) (ss : List LifeScrape) → ends_with p false ss ≡ true → is_any ss ≡ true
any_ends p [] h = absurd (false≢true h)
any_ends p (s ∷ ss) h = refl

pub scanned_closed : (m : ℤ) (k : ℕ) (over : Bool) (s : Schedule) → (schedule.scanned m k over s).closed ≡ s.closed
scanned_closed m k over s = by (schedule.is_due (number m) s) over
  where
    by : (b q : Bool) → (cond b (cond q (schedule.moved m s) (schedule.started m k s)) s).closed ≡ s.closed
    by true true = refl
    by true false = refl
    by false q = refl

open_closed : (o : Option ℤ) → not (is_some o) ≡ true → o ≡ None
open_closed None e = refl
open_closed (Some c) e = absurd (false≢true e)

pub closed_forces : (m : ℕ) (over : Bool) (l : Life) → is_open l ≡ false → forces m over l ≡ false
closed_forces m over l e = ap (λ b. (b && (not (is_some l.schedule.flight) && not (nat_lt m l.schedule.planned))) && over) e

module _ (n : ℕ) (x : List Pair) (ss : List LifeScrape) (l : Life) where
  no_reports_yet : (ts : List LifeScrape) → l.ended ≡ false → state_reports n (Some l) ts ≡ []
  no_reports_yet ts e = ap (λ z. reports_at n l.state.target l.state.extra z ts) (no_ending l e)

  -- nothing comes of it
  still_goes : Knows n x ss l → Goes n x ss ss l l []
  still_goes w = record { knows = w; tells = sym (append-nil _); reports = sym (append-nil _) }

  -- the schedule alone changes, of an open life
  quiet_goes : (k : Life) → k.state ≡ l.state → k.ended ≡ l.ended → (is_open k ≡ false → k.schedule.flight ≡ None) → is_open l ≡ true → Knows n x ss l → Goes n x ss ss l k []
  quiet_goes k at en q o w =
      let d = w.ended o in
      record {
        knows = record {
          named = ap (λ (z : LifeView). z.life) at ∙ w.named;
          tracked = λ h. ap (λ (z : LifeView). copies x z.tracked) at ∙ w.tracked d;
          before = λ h. ap (λ (z : LifeView). z.tracked) at ∙ w.before d;
          known = λ h. ap (λ (z : LifeView). z.known) at ∙ w.known d;
          scraped = ap (λ (z : LifeView). z.scraped) at ∙ w.scraped;
          up = ap (λ (z : LifeView). z.up) at ∙ w.up;
          quiet = q;
          ended = λ h. en ∙ d;
        };
        tells = ap (λ z. series_entries n x z false ss) (no_ending k (en ∙ d) ∙ sym (no_ending l d)) ∙ sym (append-nil _);
        reports = ap (λ z. reports_at n k.state.target k.state.extra z ss) (no_ending k (en ∙ d)) ∙ sym (append-nil _ ∙ no_reports_yet ss d);
      }

  -- a scrape counts, whatever is known of raw texts then
  scrape_goes : (k : Life) (extra : Option ExtraCounts) (s : LifeScrape) (took : ℤ) → record k.state { cache = l.state.cache } ≡ after_scrape l.state s.outcome → k.ended ≡ l.ended → is_open k ≡ true → is_open l ≡ true → Knows n x ss l →
      Goes n x ss (ss ++ s ∷ []) l k (entries_of l.state extra s.outcome s.moment took)
  scrape_goes k extra s took at en p o w =
      let d = w.ended o in
      record {
        knows = record {
          named = ap (λ (z : LifeView). z.life) at ∙ w.named;
          tracked = λ h. ap (λ (z : LifeView). copies x z.tracked) at ∙ (tracked_copies x s ∙ ap (one_if x) (sym (ends_with_push (tracks x) false ss s)));
          before = λ h. ap (λ (z : LifeView). z.tracked) at ∙ sym (tracked_push [] ss s);
          known = λ h. ap (λ (z : LifeView). z.known) at ∙ (ap (λ zs. known_after zs s.outcome) (w.known d) ∙ sym (known_push [] ss s));
          scraped = ap (λ (z : LifeView). z.scraped) at ∙ sym (any_push ss s);
          up = ap (λ (z : LifeView). z.up) at ∙ sym (ends_with_push was_good false ss s);
          quiet = λ h. absurd (true≢false (sym p ∙ h));
          ended = λ h. en ∙ d;
        };
        tells = ap (λ z. series_entries n x z false (ss ++ s ∷ [])) (no_ending k (en ∙ d))
            ∙ (entries_more n x false ss s
            ∙ ap₂ ◌++◌ (ap (λ z. series_entries n x z false ss) (sym (no_ending l d))) (sym (own_scrape n x l.state extra s took (ends_with (tracks x) false ss) w.named (w.tracked d))));
        reports = ap (λ z. reports_at n k.state.target k.state.extra z (ss ++ s ∷ [])) (no_ending k (en ∙ d))
            ∙ sym (ap₂ ◌++◌ (no_reports_yet ss d) (no_reports n l.state extra s.outcome s.moment took));
      }

  -- a scan of an open life
  scan_open : (m : ℤ) (k : ℕ) (over b : Bool) → l.schedule.closed ≡ None → Knows n x ss l →
      Goes n x ss (ss ++ cond b (record { moment = m; outcome = forced } ∷ []) []) l
      (cond b (record l { state = after_forced l.state; schedule = schedule.scanned m k over l.schedule }) (record l { schedule = schedule.scanned m k over l.schedule }))
      (cond b (entries_of l.state (extra_of (rules_of l.settings) (pos 0)) forced m (pos 0)) [])
  scan_open m k over true e w =
      let o : is_open l ≡ true = ap (λ z. not (is_some z)) e in
      let p : not (is_some (schedule.scanned m k over l.schedule).closed) ≡ true = ap (λ z. not (is_some z)) (scanned_closed m k over l.schedule ∙ e) in
      scrape_goes (record l { state = after_forced l.state; schedule = schedule.scanned m k over l.schedule }) (extra_of (rules_of l.settings) (pos 0)) (record { moment = m; outcome = forced })
      (pos 0) refl refl p o w
  scan_open m k over false e w =
      let o : is_open l ≡ true = ap (λ z. not (is_some z)) e in
      let p : not (is_some (schedule.scanned m k over l.schedule).closed) ≡ true = ap (λ z. not (is_some z)) (scanned_closed m k over l.schedule ∙ e) in
      subst (λ ts. Goes n x ss ts l (record l { schedule = schedule.scanned m k over l.schedule }) []) (sym (append-nil ss))
      (quiet_goes (record l { schedule = schedule.scanned m k over l.schedule }) refl refl (λ h. absurd (true≢false (sym p ∙ h))) o w)

  -- a scan of a closed one
  scan_closed : (m c : ℤ) (b : Bool) → l.schedule.closed ≡ Some c → ends_at (number m) c l ≡ b → Knows n x ss l →
      Goes n x ss ss l (cond b (with_ending l) l) (cond b (ending_entries (closing_at c l)) [])
  scan_closed m c true o e w =
      let d : l.ended ≡ false = not-true l.ended ((and_parts (not l.ended) _ e).0) in
      let q : ending_of (Some (with_ending l)) ≡ Some (marker_moment (closing_at c l)) = ap (option_map (λ z. marker_moment (closing_at z l))) o in
      record {
        knows = record {
          named = w.named;
          tracked = λ h. absurd (true≢false h);
          before = λ h. absurd (true≢false h);
          known = λ h. absurd (true≢false h);
          scraped = w.scraped;
          up = w.up;
          quiet = w.quiet;
          ended = λ h. absurd (false≢true (sym (ap (λ z. not (is_some z)) o) ∙ h));
        };
        tells = ap (λ z. series_entries n x z false ss) q
            ∙ (entries_ended n x (marker_moment (closing_at c l)) false ss
            ∙ ap₂ ◌++◌ (ap (λ z. series_entries n x z false ss) (sym (no_ending l d)))
            (sym (own_ending n x (closing_at c l) (ends_with (tracks x) false ss) w.named (w.tracked d) (λ h. w.scraped ∙ any_ends (tracks x) ss h))));
        reports = ap (λ z. reports_at n l.state.target l.state.extra z ss) q
            ∙ (sym (own_reports n (closing_at c l) ss w.named w.scraped)
            ∙ ap (λ zs. zs ++ filter (is_report_marker_of n) (ending_entries (closing_at c l))) (sym (no_reports_yet ss d)));
      }
  scan_closed m c false o e w = still_goes w

  scan_any : (m : ℤ) (k : ℕ) (over : Bool) (o : Option ℤ) → l.schedule.closed ≡ o → Knows n x ss l →
      Goes n x ss (ss ++ act_scrape (Scan m k over) l) l (scanned_life m k over l o) (scan_entries m over l o)
  scan_any m k over None e w = scan_open m k over (forces (number m) over l) e w
  scan_any m k over (Some c) e w =
      let f : forces (number m) over l ≡ false = closed_forces (number m) over l (ap (λ z. not (is_some z)) e) in
      let ts : ss ++ act_scrape (Scan m k over) l ≡ ss = ap (λ b. ss ++ cond b (record { moment = m; outcome = forced } ∷ []) []) f ∙ append-nil ss in
      subst (λ zs. Goes n x ss zs l (scanned_life m k over l (Some c)) (scan_entries m over l (Some c))) (sym ts) (scan_closed m c (ends_at (number m) c l) e refl w)

  open_since : (b : Bool) → is_open l ≡ b → is_some l.schedule.flight ≡ true → (is_open l ≡ false → l.schedule.flight ≡ None) → is_open l ≡ true
  open_since true e f h = e
  open_since false e f h = absurd (not_flying l.schedule.flight f (h e))

  -- the scrape in flight has its finish
  answered_goes : (took : ℤ) (r : Reply) (o : Option InFlight) → is_some o ≡ true → is_open l ≡ true → Knows n x ss l →
      Goes n x ss (ss ++ flight_scrape (outcome_for l took r) o) l (counted l took r) (counting_entries l took r (outcome_for l took r) o)
  unfolding outcome_for
  answered_goes took r None e q w = absurd (false≢true e)
  answered_goes took r (Some f) e q w = scrape_goes (counted l took r) (extra_for (rules_of l.settings) (outcome_for l took r) r) (record { moment = f.moment; outcome = outcome_for l took r }) took refl refl q q w

  pub life_goes : (loc : Local) → Fits loc l → Knows n x ss l → Goes n x ss (ss ++ act_scrape loc l) l (life_after loc l) (life_gives loc l)
  life_goes Nothing f w = subst (λ ts. Goes n x ss ts l l []) (sym (append-nil ss)) (still_goes w)
  life_goes (Scan m k over) f w = scan_any m k over l.schedule.closed refl w
  life_goes (Answered took r) f w = answered_goes took r l.schedule.flight f (open_since (is_open l) refl f w.quiet) w
  life_goes (Change m s) f w = subst (λ ts. Goes n x ss ts l (changed m s l) []) (sym (append-nil ss)) (quiet_goes (changed m s l) refl refl (λ h. refl) f w)
  life_goes (Close m) f w = subst (λ ts. Goes n x ss ts l (closed m l) []) (sym (append-nil ss)) (quiet_goes (closed m l) refl refl (λ h. refl) f w)
