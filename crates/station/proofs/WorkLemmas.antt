-- The workers and the ticker: one more call, and one more sweep.
use Rattle.std.proofs.Common.{◌≡◌, ℕ, ℤ, suc, ◌+◌, ◌<◌, ◌≤◌, List, [], ◌∷◌, ◌++◌, length, length-append, map, ◌==◌, Bool, true, false, cond, refl, sym, ap, ◌∙◌, subst, arith, append_assoc, append-nil}
use Rattle.std.specs.Prelude.{Option, Some, None, IfSome}
use Rattle.std.proofs.lemmas.Bool.Decides.{nat_tests}
use Rattle.std.proofs.lemmas.List.{map-append}
use mathlib.Core.List.{IsPrefix}
use Rattle.journal_text.specs.declared.events.Event.{Event}
use Rattle.outside.specs.declared.calls.Call.{Call}
use Rattle.outside.specs.declared.replies.Reply.{Reply}
use Rattle.outside.specs.declared.replies.Reply.TheVariants.{Body, Quoted, Lost, Garbled, Unsent, Oversize}
use Rattle.outside.specs.declared.requests.Fetched.{Fetched}
use Rattle.outside.specs.declared.requests.Request.{Request}
use Rattle.outside.specs.Clocks.{ClockSeen, Reads, next_reading, later_readings}
use Rattle.outside.specs.Fetches.{FetchSeen, AddsCall, CountsReply, call}
use Rattle.outside.specs.Objects.{used, Use}
use Rattle.run_lock.specs.declared.marks.Entry.{Entry}
use Rattle.journal_text.specs.Events.{now_after}
use Rattle.run_lock.specs.declared.marks.Mark.{Mark}
use Rattle.run_lock.specs.declared.marks.Mark.TheVariants as mark
use Rattle.run_lock.specs.declared.marks.Note.{Note}
use Rattle.run_lock.specs.declared.marks.Note.TheVariants.{Before, Took, Brought, Ended, Failed}
use Rattle.run_lock.specs.Entries.{entry, entries_from, event_in, events_in, brought_in, own_by, seats_in, Adds}
use Rattle.run_lock.specs.Held.{pending, pending_from}
use Rattle.run_lock.specs.Tasks.{finish_with, sweep_brought}
use Rattle.scrape_core.specs.Readers.{request}
use Rattle.turn_lock.specs.Passes.{own_of, seen_by}
use Rattle.turn_lock.specs.declared.lock.Pass.{Pass}
use Rattle.station.specs.Crews.{Answered, answered, finish_of, entries_for, Called, IsRequestIn, AreAsked, HasWorked, HasFinished, Swept, sweeps_for, GaveReadings, HasTicked, Behind, behind_of, behind_in, behinds_in, sweep_of}

entries_push : (place : ℕ) (more : List Answered) (a : Answered) → entries_for place (more ++ a ∷ []) ≡ (entries_for place more ++ entry (2 + place) (Took a.ticket) ∷ []) ++ entry (2 + place) (Brought a.last (finish_of a)) ∷ []
entries_push place [] a = refl
entries_push place (b ∷ more) a = ap (λ (xs : List Entry). entry (2 + place) (Took b.ticket) ∷ entry (2 + place) (Brought b.last (finish_of b)) ∷ xs) (entries_push place more a)

none_pending : (place : ℕ) (more : List Answered) → pending (entries_for place more) ≡ None
none_pending place [] = refl
none_pending place (a ∷ more) = none_pending place more

one_pending : (place : ℕ) (more : List Answered) (k : ℕ) (o : Option ℕ) → pending_from o (entries_for place more ++ entry (2 + place) (Took k) ∷ []) ≡ Some k
one_pending place [] k o = refl
one_pending place (a ∷ more) k o = one_pending place more k None

-- the events among entries that go on
pub events_join : (xs ys : List Entry) → events_in (xs ++ ys) ≡ events_in xs ++ events_in ys
events_join [] ys = refl
events_join (x ∷ xs) ys = ap (λ (es : List Event). event_in x.note ++ es) (events_join xs ys) ∙ sym (append_assoc (event_in x.note) (events_in xs) (events_in ys))

-- a request in a front stays one
request_later : (es more : List Event) (k : ℕ) (r : Request) → IsRequestIn es k r → IsRequestIn (es ++ more) k r
request_later es more k r h = (h.0, h.1 ++ more, ap (λ (xs : List Event). xs ++ more) h.2 ∙ append_assoc h.0 h.1 more, h.3)

pub asked_later : (es more : List Event) (given : List Answered) → AreAsked es given → AreAsked (es ++ more) given
asked_later es more [] h = tt
asked_later es more (a ∷ given) h = (request_later es more a.ticket a.call.request h.0, asked_later es more given h.1)

pub asked_prefix : (xs ys : List Entry) (given : List Answered) → IsPrefix xs ys → AreAsked (events_in xs) given → AreAsked (events_in ys) given
asked_prefix xs ys given h was = subst (λ (es : List Event). AreAsked es given) (sym (events_join xs h.0) ∙ ap events_in h.1) (asked_later (events_in xs) (events_in h.0) given was)

asked_push : (es : List Event) (given : List Answered) (a : Answered) → AreAsked es given → IsRequestIn es a.ticket a.call.request → AreAsked es (given ++ a ∷ [])
asked_push es [] a was h = (h, tt)
asked_push es (b ∷ given) a was h = (was.0, asked_push es given a was.1 h)

request_prefix : (xs ys : List Entry) (k : ℕ) (r : Request) → IsPrefix xs ys → request (events_in xs) k ≡ Some r → IsRequestIn (events_in ys) k r
request_prefix xs ys k r h is = (events_in xs, events_in h.0, sym (ap events_in h.1) ∙ events_join xs h.0, is)

-- a fetch added its call, and its count didn't fall
pub counts_rise : (r : Reply) (u : Use FetchSeen) → CountsReply r u → u.before.faults ≤ u.after.faults
counts_rise (Body status bytes) u h = omega (arith, h)
counts_rise (Quoted status bytes) u h = omega (arith, h)
counts_rise Lost u h = h.0
counts_rise Garbled u h = omega (arith, h)
counts_rise Unsent u h = omega (arith, h)
counts_rise Oversize u h = omega (arith, h)

some_is : {A : Type 0} (a b : A) → Some a ≡ Some b → a ≡ b
some_is a b h = cc

called_more : (more : List Answered) (x y z : FetchSeen) (k now : ℕ) (r : Request) (f : Fetched) → Called more x y → AddsCall r f (used y z) → y.faults ≤ z.faults → Called (more ++ answered k (call r f) now ∷ []) x z
called_more more x y z k now r f was tells counts = record { calls = of x.calls was.calls; counts = omega (arith, was.counts, counts) }
  where
    last : (had : List Call) (o : Option (List Call)) → o ≡ Some (had ++ map (λ (a : Answered). a.call) more) → IfSome o (λ cs. z.calls ≡ Some (cs ++ call r f ∷ [])) →
        z.calls ≡ Some (had ++ map (λ (a : Answered). a.call) (more ++ answered k (call r f) now ∷ []))
    last had None is h = absurd (cc)
    last had (Some cs) is h =
        let same : cs ≡ had ++ map (λ (a : Answered). a.call) more = some_is cs _ is in
        h ∙ ap Some (ap (λ xs. xs ++ call r f ∷ []) same ∙ (append_assoc had _ (call r f ∷ []) ∙ ap (λ xs. had ++ xs) (sym (map-append (λ (a : Answered). a.call) more (answered k (call r f) now ∷ [])))))

    of : (o : Option (List Call)) → IfSome o (λ had. y.calls ≡ Some (had ++ map (λ (a : Answered). a.call) more)) →
        IfSome o (λ had. z.calls ≡ Some (had ++ map (λ (a : Answered). a.call) (more ++ answered k (call r f) now ∷ [])))
    of None h = tt
    of (Some had) h = last had y.calls h tells

module _ {T : Type 0} where
  -- before the first call
  pub worked_none : (place : ℕ) (x : FetchSeen) (p : Pass T Entry) → own_of p ≡ [] → HasWorked place x x p
  worked_none place x p is = record { more = []; called = record { calls = of x.calls; counts = omega arith }; asked = tt; own = is }
    where
      of : (o : Option (List Call)) → IfSome o (λ had. o ≡ Some (had ++ []))
      of None = tt
      of (Some had) = ap Some (sym (append-nil had))

  -- a worker that has worked so far has no ticket out
  pub free_worker : (place : ℕ) (x y : FetchSeen) (p : Pass T Entry) → HasWorked place x y p → pending (own_of p) ≡ None
  free_worker place x y p w = ap pending w.own ∙ none_pending place w.more

  -- it takes a ticket
  pub busy_worker : (place k : ℕ) (x y : FetchSeen) (p q : Pass T Entry) → HasWorked place x y p → Adds (own_of p) (2 + place) (Took k) (own_of q) → pending (own_of q) ≡ Some k
  busy_worker place k x y p q w took = ap pending (took ∙ ap (λ (xs : List Entry). xs ++ entry (2 + place) (Took k) ∷ []) w.own) ∙ one_pending place w.more k None

  -- and brings its finish
  pub worked_more : (place k now : ℕ) (r : Request) (f : Fetched) (x y z : FetchSeen) (p q s : Pass T Entry) → HasWorked place x y p → IsPrefix (seen_by p) (seen_by q) → request (events_in (seen_by q)) k ≡ Some r
      → Adds (own_of p) (2 + place) (Took k) (own_of q) → IsPrefix (seen_by q) (seen_by s) → Adds (own_of q) (2 + place) (Brought now (finish_with k f)) (own_of s)
      → AddsCall r f (used y z) → y.faults ≤ z.faults → HasWorked place x z s
  worked_more place k now r f x y z p q s was first asked took second brought tells counts =
      let a = answered k (call r f) now in record {
        more = was.more ++ a ∷ [];
        called = called_more was.more x y z k now r f was.called tells counts;
        asked = asked_push (events_in (seen_by s)) was.more a (asked_prefix (seen_by q) (seen_by s) was.more second (asked_prefix (seen_by p) (seen_by q) was.more first was.asked)) (request_prefix (seen_by q) (seen_by s) k r second asked);
        own = brought ∙ (ap (λ (xs : List Entry). xs ++ entry (2 + place) (Brought now (finish_with k f)) ∷ []) (took ∙ ap (λ (xs : List Entry). xs ++ entry (2 + place) (Took k) ∷ []) was.own) ∙ sym (entries_push place was.more a));
      }

  pub worked_same : (place : ℕ) (x y : FetchSeen) (p q : Pass T Entry) → HasWorked place x y p → IsPrefix (seen_by p) (seen_by q) → own_of q ≡ own_of p → HasWorked place x y q
  worked_same place x y p q was later same = record { more = was.more; called = was.called; asked = asked_prefix (seen_by p) (seen_by q) was.more later was.asked; own = same ∙ was.own }

  pub worked_end : (place : ℕ) (x y : FetchSeen) (p q : Pass T Entry) → HasWorked place x y p → IsPrefix (seen_by p) (seen_by q) → Adds (own_of p) (2 + place) Ended (own_of q) → HasFinished place x y q
  worked_end place x y p q was later end = record { more = was.more; called = was.called; asked = asked_prefix (seen_by p) (seen_by q) was.more later was.asked; own = end ∙ ap (λ (xs : List Entry). xs ++ entry (2 + place) Ended ∷ []) was.own }

-- one more sweep
sweeps_push : (xs : List Swept) (s : Swept) → sweeps_for (xs ++ s ∷ []) ≡ sweeps_for xs ++ entry 1 (sweep_brought s.reading s.last) ∷ []
sweeps_push [] s = refl
sweeps_push (x ∷ xs) s = ap (λ (es : List Entry). entry 1 (sweep_brought x.reading x.last) ∷ es) (sweeps_push xs s)

gave_push : (xs : List Swept) (s : Swept) (readings : List ℤ) (mid after : Option (List ℤ)) → GaveReadings xs readings mid → IfSome mid (λ rs. Reads s.reading rs after) → GaveReadings (xs ++ s ∷ []) readings after
gave_push [] s readings mid after was h = at (subst (λ (o : Option (List ℤ)). IfSome o (λ rs. Reads s.reading rs after)) was h)
  where
    at : Reads s.reading readings after → (s.reading ≡ next_reading readings) × (after ≡ Some (later_readings readings))
    at r = (r.next, r.later)
gave_push (x ∷ xs) s readings mid after was h = (was.0, gave_push xs s (later_readings readings) mid after was.1 h)

pub ticked_none : (x : ClockSeen) (own : List Entry) → own ≡ [] → HasTicked 0 x x own
ticked_none x own is = record { sweeps = []; many = refl; gave = of x.readings; own_is = is }
  where
    of : (o : Option (List ℤ)) → IfSome o (λ readings. o ≡ Some readings)
    of None = tt
    of (Some readings) = refl

pub ticked_more : (n now : ℕ) (reading : ℤ) (x y z : ClockSeen) (own own' : List Entry) → HasTicked n x y own → IfSome y.readings (λ rs. Reads reading rs z.readings) → Adds own 1 (sweep_brought reading now) own' → HasTicked (n + 1) x z own'
ticked_more n now reading x y z own own' was reads adds =
    let s : Swept = record { reading = reading; last = now } in record {
      sweeps = was.sweeps ++ s ∷ [];
      many = length-append was.sweeps (s ∷ []) ∙ omega (arith, was.many);
      gave = of x.readings was.gave;
      own_is = adds ∙ (ap (λ (xs : List Entry). xs ++ entry 1 (sweep_brought reading now) ∷ []) was.own_is ∙ sym (sweeps_push was.sweeps s));
    }
  where
    of : (o : Option (List ℤ)) → IfSome o (λ rs. GaveReadings was.sweeps rs y.readings) → IfSome o (λ rs. GaveReadings (was.sweeps ++ record { reading = reading; last = now } ∷ []) rs z.readings)
    of None h = tt
    of (Some rs) h = gave_push was.sweeps (record { reading = reading; last = now }) rs y.readings z.readings h reads

-- so many sweeps are so many events
pub sweep_count : (xs : List Swept) → length (brought_in (sweeps_for xs)) ≡ length xs
sweep_count [] = refl
sweep_count (x ∷ xs) = ap (λ (n : ℕ). suc n) (sweep_count xs)

-- what the workers tell: the events among their entries are the finishes of their calls
pub finishes_recorded : (place : ℕ) (more : List Answered) → events_in (entries_for place more ++ entry (2 + place) Ended ∷ []) ≡ map finish_of more
finishes_recorded place [] = refl
finishes_recorded place (a ∷ more) = ap (λ (es : List Event). finish_of a ∷ es) (finishes_recorded place more)

-- the events of a seat with the last moment before each, by its entries
behind_more : (q s now : ℕ) (d : Event) (us : List Behind) (es : List Entry) → us ≡ behinds_in (own_by q es) → cond (s == q) (record { last = now; event = d } ∷ us) us ≡ behinds_in (own_by q (entry s (Brought now d) ∷ es))
behind_more q s now d us es h = of (s == q) where
  of : (b : Bool) → cond b (record { last = now; event = d } ∷ us) us ≡ behinds_in (cond b (entry s (Brought now d) ∷ own_by q es) (own_by q es))
  of true = ap (λ (bs : List Behind). record { last = now; event = d } ∷ bs) h
  of false = h

behind_less : (q s : ℕ) (x : Note) (us : List Behind) (es : List Entry) → behind_in x ≡ [] → us ≡ behinds_in (own_by q es) → us ≡ behinds_in (own_by q (entry s x ∷ es))
behind_less q s x us es none h = of (s == q) where
  of : (b : Bool) → us ≡ behinds_in (cond b (entry s x ∷ own_by q es) (own_by q es))
  of true = h ∙ ap (λ (bs : List Behind). bs ++ behinds_in (own_by q es)) (sym none)
  of false = h

pub behind_told : (q now : ℕ) (ms : List Mark) (es : List Event) → 0 < q → length es ≡ length (seats_in ms) → behind_of q now es (seats_in ms) ≡ behinds_in (own_by q (entries_from now ms es))
behind_told q now [] [] some h = refl
behind_told q now [] (d ∷ es) some h = absurd (omega (arith, h))
behind_told q now (mark.Before ∷ ms) [] some h = absurd (omega (arith, h))
behind_told q now (mark.Before ∷ ms) (d ∷ es) some h =
    let no : (0 == q) ≡ false = grind (arith, nat_tests) in
    ap (λ (b : Bool). cond b (record { last = now; event = d } ∷ behind_of q (now_after now d) es (seats_in ms)) (behind_of q (now_after now d) es (seats_in ms))) no
    ∙ (behind_told q (now_after now d) ms es some (omega (arith, h)) ∙ ap (λ (b : Bool). behinds_in (cond b (entry 0 (Before d) ∷ own_by q (entries_from (now_after now d) ms es)) (own_by q (entries_from (now_after now d) ms es)))) (sym no))
behind_told q now (mark.Took t k ∷ ms) es some h = behind_less q t (Took k) (behind_of q now es (seats_in ms)) (entries_from now ms es) refl (behind_told q now ms es some h)
behind_told q now (mark.Brought t ∷ ms) [] some h = absurd (omega (arith, h))
behind_told q now (mark.Brought t ∷ ms) (d ∷ es) some h = behind_more q t now d (behind_of q (now_after now d) es (seats_in ms)) (entries_from (now_after now d) ms es) (behind_told q (now_after now d) ms es some (omega (arith, h)))
behind_told q now (mark.Ended t ∷ ms) es some h = behind_less q t Ended (behind_of q now es (seats_in ms)) (entries_from now ms es) refl (behind_told q now ms es some h)
behind_told q now (mark.Failed t ∷ ms) es some h = behind_less q t Failed (behind_of q now es (seats_in ms)) (entries_from now ms es) refl (behind_told q now ms es some h)

pub sweeps_recorded : (xs : List Swept) → behinds_in (sweeps_for xs) ≡ map sweep_of xs
sweeps_recorded [] = refl
sweeps_recorded (x ∷ xs) = ap (λ (bs : List Behind). sweep_of x ∷ bs) (sweeps_recorded xs)
