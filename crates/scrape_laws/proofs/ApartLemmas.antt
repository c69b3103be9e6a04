-- Lives that are equal but for number and ticket.
use Rattle.std.proofs.Common.{◌≡◌, ℕ, ℤ, pos, zero, suc, ◌+◌, arith, Bool, true, false, not, ◌&&◌, cond, List, [], ◌∷◌, ◌++◌, map, Option, Some, None, is_some, option_map, slice_get, nat_lt, refl, sym, ap, ap₂, subst, ◌∙◌, eqb, eq-eqb, eqb-true}
use Rattle.std.specs.List.{filter}
use Rattle.std.proofs.lemmas.Bool.{true≢false}
use Rattle.std.proofs.lemmas.List.{map-append}
use Rattle.label_set.specs.declared.texts.Pair.{Pair}
use Rattle.journal_text.specs.declared.events.Event.{Event}
use Rattle.journal_text.specs.Lines.{number}
use Rattle.sample_rows.specs.Outcomes.{forced}
use Rattle.sample_rows.specs.declared.scrape.Scrape.{Scrape}
use Rattle.report_samples.specs.declared.closing.Closing.{Closing}
use Rattle.outside.specs.declared.replies.Reply.{Reply}
use Rattle.report_samples.specs.declared.entries.Entry.{Entry}
use Rattle.report_samples.specs.declared.scrape_reports.ExtraCounts.{ExtraCounts}
use Rattle.report_samples.specs.declared.scrape_reports.Report.{Report}
use Rattle.report_samples.specs.declared.scrape_reports.ReportCounts.{ReportCounts}
use Rattle.report_samples.specs.Markers.{stale_entry, report_marker, report_markers}
use Rattle.report_samples.specs.Reports.{report_entries, report_entry, report_order, report_value}
use Rattle.end_of_run.specs.Endings.{ending_entries, marker_moment}
use Rattle.series_cache.specs.Sets.{gone}
use Rattle.scrape_loop.specs.Texts.{no_texts}
use Rattle.scrape_loop.specs.Tracked.{LifeView, after_forced, samples_of, tracked_sets}
use Rattle.scrape_loop.specs.Entries.{sample_entry, counts_of, entries_of, extra_for, extra_of}
use Rattle.life_roll.specs.Schedules as schedule
use Rattle.life_roll.specs.declared.schedule.InFlight.{InFlight}
use Rattle.scrape_machine.specs.declared.lives.Life.{Life}
use Rattle.scrape_machine.specs.declared.lives.Local.{Local}
use Rattle.scrape_machine.specs.declared.lives.Local.TheVariants.{Nothing, Scan, Answered, Change, Close}
use Rattle.scrape_machine.specs.Lives.{forces, ends_at, closing_at, outcome_for, rules_of, scanned_life, with_ending, life_after, scan_entries, counting_entries, life_gives}
use Rattle.scrape_machine.specs.Machine.{World, local, step, gives, world_of}
use Rattle.scrape_laws.specs.Undisturbed.{is_entry_of}
use Rattle.scrape_laws.specs.Apart.{without_ticket, bare, bare_local, renumbered, GoAlike, ApartLaw}
use Rattle.scrape_laws.proofs.WorldLemmas.{AreNumbered, at_gives, gives_at, after_local, Stays, follows}
use Rattle.scrape_laws.proofs.UndisturbedLemmas.{world_numbered, entry_only}

-- the life as number n, and without the ticket of its flight
abbrev pub numbered : ℕ → Life → Life
numbered n l = record l { state = record l.state { life = n } }

abbrev pub ticketless : Life → Life
ticketless l = record l { schedule = record l.schedule { flight = without_ticket l.schedule.flight } }

abbrev pub textless : Life → Life
textless l = record l { state = record l.state { cache = no_texts } }

-- entries with another number
remap : {A : Type 0} (n : ℕ) (f g : A → Entry) (xs : List A) → ((x : A) → renumbered n (f x) ≡ g x) → map (renumbered n) (map f xs) ≡ map g xs
remap n f g [] h = refl
remap n f g (x ∷ xs) h = ap₂ ◌∷◌ (h x) (remap n f g xs h)

reports_numbered : (n life : ℕ) (target : List Pair) (m : ℤ) (c : ReportCounts) → map (renumbered n) (report_entries life target m c) ≡ report_entries n target m c
reports_numbered n life target m c =
    remap n (λ (r : Report). report_entry life target m r (report_value c r)) (λ (r : Report). report_entry n target m r (report_value c r)) (report_order (is_some c.extra)) (λ r. refl)

markers_numbered : (n life : ℕ) (target : List Pair) (extra : Bool) (m : ℤ) → map (renumbered n) (report_markers life target extra m) ≡ report_markers n target extra m
markers_numbered n life target extra m = remap n (report_marker life target m) (report_marker n target m) (report_order extra) (λ r. refl)

scrape_numbered : (n : ℕ) (st : LifeView) (extra : Option ExtraCounts) (s : Scrape) (m took : ℤ) →
    map (renumbered n) (entries_of st extra s m took) ≡ entries_of (record st { life = n }) extra s m took
scrape_numbered n st extra s m took =
    map-append (renumbered n) (map (sample_entry st.life m) (samples_of s)) _
    ∙ ap₂ ◌++◌ (remap n (sample_entry st.life m) (sample_entry n m) (samples_of s) (λ r. refl))
    (map-append (renumbered n) (map (stale_entry st.life m) (gone st.tracked (tracked_sets s))) (report_entries st.life st.target m (counts_of st.known extra s took))
    ∙ ap₂ ◌++◌ (remap n (stale_entry st.life m) (stale_entry n m) (gone st.tracked (tracked_sets s)) (λ y. refl))
    (reports_numbered n st.life st.target m (counts_of st.known extra s took)))

ending_numbered : (n : ℕ) (c : Closing) (b : Bool) →
    map (renumbered n) (cond b (map (stale_entry c.life (marker_moment c)) c.tracked ++ report_markers c.life c.target c.extra (marker_moment c)) [])
    ≡ cond b (map (stale_entry n (marker_moment c)) c.tracked ++ report_markers n c.target c.extra (marker_moment c)) []
ending_numbered n c false = refl
ending_numbered n c true =
    map-append (renumbered n) (map (stale_entry c.life (marker_moment c)) c.tracked) (report_markers c.life c.target c.extra (marker_moment c))
    ∙ ap₂ ◌++◌ (remap n (stale_entry c.life (marker_moment c)) (stale_entry n (marker_moment c)) c.tracked (λ y. refl)) (markers_numbered n c.life c.target c.extra (marker_moment c))

scan_numbered : (n : ℕ) (m : ℤ) (over : Bool) (l : Life) (o : Option ℤ) → map (renumbered n) (scan_entries m over l o) ≡ scan_entries m over (numbered n l) o
scan_numbered n m over l None = by (forces (number m) over l)
  where
    by : (b : Bool) → map (renumbered n) (cond b (entries_of l.state (extra_of (rules_of l.settings) (pos 0)) forced m (pos 0)) []) ≡ cond b (entries_of (numbered n l).state (extra_of (rules_of l.settings) (pos 0)) forced m (pos 0)) []
    by true = scrape_numbered n l.state (extra_of (rules_of l.settings) (pos 0)) forced m (pos 0)
    by false = refl
scan_numbered n m over l (Some c) = by (ends_at (number m) c l)
  where
    by : (b : Bool) → map (renumbered n) (cond b (ending_entries (closing_at c l)) []) ≡ cond b (ending_entries (closing_at c (numbered n l))) []
    by true = ending_numbered n (closing_at c l) (closing_at c l).scraped
    by false = refl

counting_numbered : (n : ℕ) (l : Life) (took : ℤ) (r : Reply) (s : Scrape) (o : Option InFlight) → map (renumbered n) (counting_entries l took r s o) ≡ counting_entries (numbered n l) took r s o
counting_numbered n l took r s None = refl
counting_numbered n l took r s (Some f) = scrape_numbered n l.state (extra_for (rules_of l.settings) s r) s f.moment took

gives_numbered : (n : ℕ) (loc : Local) (l : Life) → map (renumbered n) (life_gives loc l) ≡ life_gives loc (numbered n l)
unfolding outcome_for
gives_numbered n Nothing l = refl
gives_numbered n (Scan m t over) l = scan_numbered n m over l l.schedule.closed
gives_numbered n (Answered took r) l = counting_numbered n l took r (outcome_for l took r) l.schedule.flight
gives_numbered n (Change m s) l = refl
gives_numbered n (Close m) l = refl

-- the ticket
same_some : (o : Option InFlight) → is_some (without_ticket o) ≡ is_some o
same_some None = refl
same_some (Some f) = refl

same_due : (m : ℕ) (l : Life) → schedule.is_due m (bare l).schedule ≡ schedule.is_due m l.schedule
same_due m l = ap (λ z. schedule.is_open l.schedule && (not z && not (nat_lt m l.schedule.planned))) (same_some l.schedule.flight)

same_forces : (m : ℕ) (over : Bool) (l : Life) → forces m over (ticketless l) ≡ forces m over l
same_forces m over l = ap (λ z. z && over) (same_due m l)

counting_ticketless : (l : Life) (took : ℤ) (r : Reply) (s : Scrape) (o : Option InFlight) → counting_entries l took r s o ≡ counting_entries (ticketless l) took r s (without_ticket o)
counting_ticketless l took r s None = refl
counting_ticketless l took r s (Some f) = refl

scan_ticketless : (m : ℤ) (over : Bool) (l : Life) (o : Option ℤ) → scan_entries m over l o ≡ scan_entries m over (ticketless l) o
scan_ticketless m over l None = ap (λ b. cond b (entries_of l.state (extra_of (rules_of l.settings) (pos 0)) forced m (pos 0)) []) (sym (same_forces (number m) over l))
scan_ticketless m over l (Some c) = refl

gives_ticketless : (loc : Local) (l : Life) → life_gives loc l ≡ life_gives (bare_local loc) (ticketless l)
unfolding outcome_for
gives_ticketless Nothing l = refl
gives_ticketless (Scan m t over) l = scan_ticketless m over l l.schedule.closed
gives_ticketless (Answered took r) l = counting_ticketless l took r (outcome_for l took r) l.schedule.flight
gives_ticketless (Change m s) l = refl
gives_ticketless (Close m) l = refl

-- what is known of raw texts
scan_textless : (m : ℤ) (over : Bool) (l : Life) (o : Option ℤ) → scan_entries m over l o ≡ scan_entries m over (textless l) o
scan_textless m over l None = refl
scan_textless m over l (Some c) = refl

counting_textless : (l : Life) (took : ℤ) (r : Reply) (s : Scrape) (o : Option InFlight) → counting_entries l took r s o ≡ counting_entries (textless l) took r s o
counting_textless l took r s None = refl
counting_textless l took r s (Some f) = refl

gives_textless : (loc : Local) (l : Life) → life_gives loc l ≡ life_gives loc (textless l)
unfolding outcome_for
gives_textless Nothing l = refl
gives_textless (Scan m t over) l = scan_textless m over l l.schedule.closed
gives_textless (Answered took r) l = counting_textless l took r (outcome_for l took r) l.schedule.flight
gives_textless (Change m s) l = refl
gives_textless (Close m) l = refl

-- the entries of a life are those of the bare one, but for the number
pub gives_bare : (loc : Local) (l : Life) → map (renumbered 0) (life_gives loc l) ≡ life_gives (bare_local loc) (bare l)
gives_bare loc l = gives_numbered 0 loc l ∙ (gives_textless loc (numbered 0 l) ∙ gives_ticketless loc (textless (numbered 0 l)))

-- a life goes on as the bare one
without_twice : (o : Option InFlight) → without_ticket o ≡ without_ticket (without_ticket o)
without_twice None = refl
without_twice (Some f) = refl

pub bare_twice : (l : Life) → bare l ≡ bare (bare l)
bare_twice l = ap (λ z. record l { state = record l.state { life = 0; cache = no_texts }; schedule = record l.schedule { flight = z } }) (without_twice l.schedule.flight)

scan_bare : (m : ℤ) (t : ℕ) (over : Bool) (l : Life) (o : Option ℤ) → bare (scanned_life m t over l o) ≡ bare (scanned_life m 0 over (bare l) o)
scan_bare m t over l None = by over (schedule.is_due (number m) l.schedule) (schedule.is_due (number m) (bare l).schedule) (sym (same_due (number m) l))
  where
    after : ℕ → Bool → Bool → Life → Life
    after k b q p =
        cond (b && q) (record p { state = after_forced p.state; schedule = cond b (cond q (schedule.moved m p.schedule) (schedule.started m k p.schedule)) p.schedule })
        (record p { schedule = cond b (cond q (schedule.moved m p.schedule) (schedule.started m k p.schedule)) p.schedule })

    by : (q b c : Bool) → b ≡ c → bare (after t b q l) ≡ bare (after 0 c q (bare l))
    by true true true e = bare_twice (after t true true l)
    by false true true e = refl
    by q false false e = bare_twice l
    by q true false e = absurd (true≢false e)
    by q false true e = absurd (true≢false (sym e))
scan_bare m t over l (Some c) = by (ends_at (number m) c l)
  where
    by : (b : Bool) → bare (cond b (with_ending l) l) ≡ bare (cond b (with_ending (bare l)) (bare l))
    by true = bare_twice (with_ending l)
    by false = bare_twice l

pub after_bare : (loc : Local) (l : Life) → bare (life_after loc l) ≡ bare (life_after (bare_local loc) (bare l))
after_bare Nothing l = bare_twice l
after_bare (Scan m t over) l = scan_bare m t over l l.schedule.closed
after_bare (Answered took r) l = refl
after_bare (Change m s) l = refl
after_bare (Close m) l = refl

-- the entries of a life are its own
own : (n : ℕ) (es : List Entry) → filter (is_entry_of n) (map (renumbered n) es) ≡ map (renumbered n) es
own n [] = refl
own n (e ∷ es) = ap₂ (λ b zs. cond b (renumbered n e ∷ zs) zs) (eq-eqb n n refl) (own n es)

own_gives : (n : ℕ) (loc : Local) (l : Life) → l.state.life ≡ n → filter (is_entry_of n) (life_gives loc l) ≡ life_gives loc l
own_gives n loc l e =
    let q : life_gives loc l ≡ map (renumbered n) (life_gives loc l) =
    sym (gives_numbered n loc l ∙ ap (λ i. life_gives loc (numbered i l)) (sym e)) in
    ap (filter (is_entry_of n)) q ∙ (own n (life_gives loc l) ∙ sym q)

number_at : (i j n : ℕ) (ls : List Life) (l : Life) → AreNumbered i ls → slice_get ls j ≡ Some l → n ≡ i + j → l.state.life ≡ n
number_at i j n [] l h at e = absurd (cc)
number_at i zero n (x ∷ xs) l h at e = ap (λ (z : Life). z.state.life) (some_same (sym at)) ∙ (h.0 ∙ omega arith)
  where
    some_same : Some l ≡ Some x → l ≡ x
    some_same q = cc
number_at i (suc j) n (x ∷ xs) l h at e = number_at (i + 1) j n xs l h.1 at (omega arith)

pub entries_at : (w : World) (e : Event) (n : ℕ) (l : Life) → AreNumbered 0 w.lives → slice_get w.lives n ≡ Some l → filter (is_entry_of n) (gives w e) ≡ life_gives (local w e n l) l
entries_at w e n l h at =
    gives_at w e n (is_entry_of n) (entry_only n) h ∙ (ap (at_gives w e n (is_entry_of n)) at ∙ own_gives n (local w e n l) l (number_at 0 n n w.lives l h at (omega arith)))

pub life_at : (w : World) (e : Event) (n : ℕ) (l : Life) → slice_get w.lives n ≡ Some l → slice_get (step w e).lives n ≡ Some (life_after (local w e n l) l)
life_at w e n l at = subst (λ (o : Option Life). Stays n (after_local w e n o) (slice_get (step w e).lives n)) at (follows w e n)

-- entries that are equal but for the number
number_twice : (k : ℕ) (es : List Entry) → map (renumbered k) es ≡ map (renumbered k) (map (renumbered 0) es)
number_twice k es = sym (remap k (renumbered 0) (renumbered k) es (λ e. refl))

pub numbered_own : (k : ℕ) (es : List Entry) → map (renumbered k) (filter (is_entry_of k) es) ≡ filter (is_entry_of k) es
numbered_own k [] = refl
numbered_own k (e ∷ es) = by (eqb e.life k) refl (numbered_own k es)
  where
    by : (b : Bool) → eqb e.life k ≡ b → map (renumbered k) (filter (is_entry_of k) es) ≡ filter (is_entry_of k) es →
        map (renumbered k) (cond b (e ∷ filter (is_entry_of k) es) (filter (is_entry_of k) es)) ≡ cond b (e ∷ filter (is_entry_of k) es) (filter (is_entry_of k) es)
    by true q rest = ap₂ (λ (i : ℕ) zs. renumbered i e ∷ zs) (sym (eqb-true e.life k q)) rest
    by false q rest = rest

pub equal_but_number : (n k : ℕ) (es fs : List Entry) → map (renumbered 0) (filter (is_entry_of n) es) ≡ map (renumbered 0) (filter (is_entry_of k) fs) →
    map (renumbered k) (filter (is_entry_of n) es) ≡ filter (is_entry_of k) fs
equal_but_number n k es fs h =
    number_twice k (filter (is_entry_of n) es) ∙ (ap (map (renumbered k)) h ∙ (sym (number_twice k (filter (is_entry_of k) fs)) ∙ numbered_own k fs))

-- one event
alike : (w v : World) (e f : Event) (n k : ℕ) (l p : Life) → AreNumbered 0 w.lives → AreNumbered 0 v.lives → slice_get w.lives n ≡ Some l → slice_get v.lives k ≡ Some p →
    bare l ≡ bare p → bare_local (local w e n l) ≡ bare_local (local v f k p) → GoAlike (w, n) (v, k) e f
alike w v e f n k l p hw hv at_l at_p b q = record {
  lives = ap (option_map bare) (life_at w e n l at_l)
      ∙ (ap Some (after_bare (local w e n l) l ∙ (ap₂ (λ y z. bare (life_after y z)) q b ∙ sym (after_bare (local v f k p) p)))
      ∙ sym (ap (option_map bare) (life_at v f k p at_p)));
  entries = equal_but_number n k (gives w e) (gives v f)
      (ap (map (renumbered 0)) (entries_at w e n l hw at_l)
      ∙ (gives_bare (local w e n l) l ∙ (ap₂ life_gives q b ∙ sym (gives_bare (local v f k p) p)))
      ∙ sym (ap (map (renumbered 0)) (entries_at v f k p hv at_p)));
}

pub apart_law : (journal : List Event) (e : Event) → ApartLaw journal e
unfolding ApartLaw
apart_law journal e other f n k l p at_l at_p b q =
    alike (world_of journal) (world_of other) e f n k l p (world_numbered journal) (world_numbered other) at_l at_p b q
