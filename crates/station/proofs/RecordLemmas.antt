-- What the record of a closed run says of the caller's seat, and of all seats.
use Rattle.std.proofs.Common.{◌≡◌, ℕ, zero, suc, ◌<◌, ◌≤◌, ◌==◌, ◌⊎◌, inl, inr, List, [], ◌∷◌, ◌++◌, length, map, drop, Bool, true, false, cond, refl, sym, ap, ap₂, ◌∙◌, subst, arith, append_assoc}
use Rattle.std.specs.Prelude.{Option, Some, None, All, IfSome, pos, nat_le}
use Rattle.std.proofs.lemmas.Bool.Decides.{nat_tests}
use Rattle.journal_text.specs.declared.events.Event.{Event}
use Rattle.journal_text.specs.declared.events.Event.TheVariants.{Halt}
use Rattle.journal_text.specs.Events.{now_after}
use Rattle.outside.specs.Objects.{ShelfSeen, SinkSeen, Use, used}
use Rattle.outside.specs.Sources.{SourceSeen}
use Rattle.outside.specs.declared.objects.StoredFile.{StoredFile}
use Rattle.run_lock.specs.declared.marks.Entry.{Entry}
use Rattle.run_lock.specs.declared.marks.Mark.{Mark}
use Rattle.run_lock.specs.declared.marks.Mark.TheVariants as mark
use Rattle.run_lock.specs.declared.marks.Note.{Note}
use Rattle.run_lock.specs.declared.marks.Note.TheVariants.{Before, Took, Brought, Ended, Failed}
use Rattle.run_lock.specs.Callers.{jobs_after, jobs_known, ordered, orders_in}
use Rattle.run_lock.specs.Entries.{entry, entries_from, entries_of, events_in, own_by, seats_in, begun_with, Adds}
use Rattle.run_lock.proofs.EntryLemmas.{begun_brought, begun_events, own_else, own_here, seat_events}
use Rattle.scrape_machine.specs.Machine.{world_of}
use Rattle.station.specs.Control.{Did, Ordered, entry_for, event_for, behind_for, HasDone, Came, Fits, RecordsControl, CallerDid, RecordsCaller, caller_did, caller_use, control_lines, given_lines}
use Rattle.station.specs.Crews.{Behind, behind_of, IsBehind, IsByCaller}
use Rattle.station.specs.Ends.{run_end}
use Rattle.station.specs.declared.ends.RunEnd.{RunEnd}
use Rattle.station.proofs.WorkLemmas.{events_join}

-- the events of a seat, by its entries
behind_event : (q s : ℕ) (x : Note) (b : Behind) (bs : List Behind) (xs : List Entry) → ((rest : List Entry) → IsBehind rest bs → IsBehind (entry s x ∷ rest) (b ∷ bs)) → IsBehind (own_by q xs) bs → IsBehind (own_by q (entry s x ∷ xs)) (cond (s == q) (b ∷ bs) bs)
behind_event q s x b bs xs one h = of (s == q)
  where
    of : (c : Bool) → IsBehind (cond c (entry s x ∷ own_by q xs) (own_by q xs)) (cond c (b ∷ bs) bs)
    of true = one (own_by q xs) h
    of false = h

behind_none : (q s : ℕ) (x : Note) (bs : List Behind) (xs : List Entry) → ((rest : List Entry) → IsBehind rest bs → IsBehind (entry s x ∷ rest) bs) → IsBehind (own_by q xs) bs → IsBehind (own_by q (entry s x ∷ xs)) bs
behind_none q s x bs xs one h = of (s == q)
  where
    of : (c : Bool) → IsBehind (cond c (entry s x ∷ own_by q xs) (own_by q xs)) bs
    of true = one (own_by q xs) h
    of false = h

is_behind : (q now : ℕ) (ms : List Mark) (es : List Event) → length es ≡ length (seats_in ms) → IsBehind (own_by q (entries_from now ms es)) (behind_of q now es (seats_in ms))
is_behind q now [] [] h = refl
is_behind q now [] (d ∷ es) h = absurd (omega (arith, h))
is_behind q now (mark.Before ∷ ms) [] h = absurd (omega (arith, h))
is_behind q now (mark.Before ∷ ms) (d ∷ es) h =
    behind_event q 0 (Before d) (record { last = now; event = d }) (behind_of q (now_after now d) es (seats_in ms)) (entries_from (now_after now d) ms es) (λ rest k. (refl, k)) (is_behind q (now_after now d) ms es (omega (arith, h)))
is_behind q now (mark.Took t k ∷ ms) es h = behind_none q t (Took k) (behind_of q now es (seats_in ms)) (entries_from now ms es) (λ rest k. k) (is_behind q now ms es h)
is_behind q now (mark.Brought t ∷ ms) [] h = absurd (omega (arith, h))
is_behind q now (mark.Brought t ∷ ms) (d ∷ es) h =
    behind_event q t (Brought now d) (record { last = now; event = d }) (behind_of q (now_after now d) es (seats_in ms)) (entries_from (now_after now d) ms es) (λ rest k. (refl, k)) (is_behind q (now_after now d) ms es (omega (arith, h)))
is_behind q now (mark.Ended t ∷ ms) es h = behind_none q t Ended (behind_of q now es (seats_in ms)) (entries_from now ms es) (λ rest k. k) (is_behind q now ms es h)
is_behind q now (mark.Failed t ∷ ms) es h = behind_none q t Failed (behind_of q now es (seats_in ms)) (entries_from now ms es) (λ rest k. k) (is_behind q now ms es h)

-- the caller's events, where the journal ends with the halt
pub caller_recorded : (es : List Event) (ms : List Mark) (log own : List Entry) (now : ℕ) → length (seats_in ms) ≡ length es → Adds log 0 (Brought now (Halt (pos now))) (entries_of es ms) → own_by 0 log ≡ own → IsByCaller es (seats_in ms) own
caller_recorded es ms log own now len adds is =
    let halt = entry 0 (Brought now (Halt (pos now))) in
    let mine : own_by 0 (entries_of es ms) ≡ own ++ halt ∷ [] = ap (own_by 0) adds ∙ (own_here log 0 0 (Brought now (Halt (pos now))) refl ∙ ap (λ (xs : List Entry). xs ++ halt ∷ []) is) in
    record {
      halted = now;
      events = seat_events 0 0 ms es (sym len) ∙ (ap events_in mine ∙ events_join own (halt ∷ []));
      behind = subst (λ (xs : List Entry). IsBehind xs (behind_of 0 0 es (seats_in ms))) mine (is_behind 0 0 ms es (sym len));
    }

-- no entry bears a number from so many on, so each seat's number is less
first_gone : (n : ℕ) (x : Entry) (xs : List Entry) → own_by n (x ∷ xs) ≡ [] → own_by n xs ≡ []
first_gone n x xs = of (x.seat == n)
  where
    of : (c : Bool) → cond c (x ∷ own_by n xs) (own_by n xs) ≡ [] → own_by n xs ≡ []
    of true h = absurd (cc)
    of false h = h

first_less : (k s : ℕ) (x : Note) (xs : List Entry) → ((n : ℕ) → k ≤ n → own_by n (entry s x ∷ xs) ≡ []) → s < k
first_less k s x xs none = at (split k s)
  where
    split : (k s : ℕ) → (k ≤ s) ⊎ (s < k)
    split k s = of (nat_le k s) refl
      where
        of : (c : Bool) → nat_le k s ≡ c → (k ≤ s) ⊎ (s < k)
        of true is = inl (grind (arith, nat_tests))
        of false is = inr (grind (arith, nat_tests))

    here : (c : Bool) → c ≡ true → cond c (entry s x ∷ own_by s xs) (own_by s xs) ≡ [] → ⊥
    here true is h = absurd (cc)
    here false is h = absurd (cc)

    at : (k ≤ s) ⊎ (s < k) → s < k
    at (inl le) = absurd (here (s == s) (grind (arith, nat_tests)) (none s le))
    at (inr lt) = lt

all_cons : (k q : ℕ) (qs : List ℕ) → q < k → All (λ p. p < k) qs → All (λ p. p < k) (q ∷ qs)
all_cons k q qs one rest zero d lt = one
all_cons k q qs one rest (suc i) d lt = rest i d (omega (arith, lt))

all_seats : (k now : ℕ) (ms : List Mark) (es : List Event) → 0 < k → length es ≡ length (seats_in ms) → ((n : ℕ) → k ≤ n → own_by n (entries_from now ms es) ≡ []) → All (λ q. q < k) (seats_in ms)
all_seats k now [] es some h none = λ i d lt. absurd (omega (arith, lt))
all_seats k now (mark.Before ∷ ms) [] some h none = absurd (omega (arith, h))
all_seats k now (mark.Before ∷ ms) (d ∷ es) some h none =
    all_cons k 0 (seats_in ms) some (all_seats k (now_after now d) ms es some (omega (arith, h)) (λ n le. first_gone n (entry 0 (Before d)) (entries_from (now_after now d) ms es) (none n le)))
all_seats k now (mark.Took t j ∷ ms) es some h none = all_seats k now ms es some h (λ n le. first_gone n (entry t (Took j)) (entries_from now ms es) (none n le))
all_seats k now (mark.Brought t ∷ ms) [] some h none = absurd (omega (arith, h))
all_seats k now (mark.Brought t ∷ ms) (d ∷ es) some h none =
    let rest = entries_from (now_after now d) ms es in
    all_cons k t (seats_in ms) (first_less k t (Brought now d) rest none) (all_seats k (now_after now d) ms es some (omega (arith, h)) (λ n le. first_gone n (entry t (Brought now d)) rest (none n le)))
all_seats k now (mark.Ended t ∷ ms) es some h none = all_seats k now ms es some h (λ n le. first_gone n (entry t Ended) (entries_from now ms es) (none n le))
all_seats k now (mark.Failed t ∷ ms) es some h none = all_seats k now ms es some h (λ n le. first_gone n (entry t Failed) (entries_from now ms es) (none n le))

pub seats_known : (k : ℕ) (es : List Event) (ms : List Mark) (log : List Entry) (x : Note) → 0 < k → length (seats_in ms) ≡ length es → Adds log 0 x (entries_of es ms) → ((n : ℕ) → k ≤ n → own_by n log ≡ []) → All (λ q. q < k) (seats_in ms)
seats_known k es ms log x some len adds none =
    all_seats k 0 ms es some (sym len) (λ n le. ap (own_by n) adds ∙ (own_else log 0 n x (λ e. absurd (omega (arith, some, le, e))) ∙ none n le))

-- the caller's entries behind those that came before the run
carried_events : (xs : List Ordered) → events_in (map entry_for xs) ≡ map event_for xs
carried_events [] = refl
carried_events (x ∷ xs) = ap (λ (es : List Event). event_for x ∷ es) (carried_events xs)

begun_dropped : (start : List Event) (xs : List Entry) (bs : List Behind) → IsBehind (begun_with start ++ xs) bs → IsBehind xs (drop (length start) bs)
begun_dropped [] xs bs h = h
begun_dropped (e ∷ start) xs [] h = absurd h
begun_dropped (e ∷ start) xs (b ∷ bs) h = begun_dropped start xs bs h.1

carried_behind : (xs : List Ordered) (halted : ℕ) (bs : List Behind) → IsBehind (map entry_for xs ++ entry 0 (Brought halted (Halt (pos halted))) ∷ []) bs → bs ≡ map behind_for xs ++ record { last = halted; event = Halt (pos halted) } ∷ []
carried_behind [] halted [] h = absurd h
carried_behind [] halted (b ∷ bs) h = ap₂ (λ (c : Behind) (cs : List Behind). c ∷ cs) h.0 h.1
carried_behind (x ∷ xs) halted [] h = absurd h
carried_behind (x ∷ xs) halted (b ∷ bs) h = ap₂ (λ (c : Behind) (cs : List Behind). c ∷ cs) h.0 (carried_behind xs halted bs h.1)

-- what the caller's events tell of what it did
pub records_done : (start es : List Event) (seats : List ℕ) (v w : List Entry) (d : Did) (err : Use SinkSeen) → v ≡ begun_with start → IsByCaller es seats w → HasDone d (used v w) err → RecordsControl start es seats d err
records_done start es seats v w d err first of done =
    let carried = done.orders.carried in
    let halt = entry 0 (Brought of.halted (Halt (pos of.halted))) in
    let mine : w ≡ begun_with start ++ map entry_for carried = done.orders.added ∙ ap (λ (xs : List Entry). xs ++ map entry_for carried) first in
    let events : events_in w ≡ start ++ map event_for carried = ap events_in mine ∙ (events_join (begun_with start) (map entry_for carried) ∙ ap₂ (λ (xs ys : List Event). xs ++ ys) (begun_events start) (carried_events carried)) in
    let all : w ++ halt ∷ [] ≡ begun_with start ++ (map entry_for carried ++ halt ∷ []) = ap (λ (xs : List Entry). xs ++ halt ∷ []) mine ∙ append_assoc (begun_with start) (map entry_for carried) (halt ∷ []) in
    record {
      carried = carried;
      halted = of.halted;
      orders = done.orders.these;
      events = of.events ∙ (ap (λ (xs : List Event). xs ++ Halt (pos of.halted) ∷ []) events ∙ append_assoc start (map event_for carried) (Halt (pos of.halted) ∷ []));
      moments = carried_behind carried of.halted (drop (length start) (behind_of 0 0 es seats))
          (begun_dropped start (map entry_for carried ++ halt ∷ []) (behind_of 0 0 es seats) (subst (λ (xs : List Entry). IsBehind xs (behind_of 0 0 es seats)) all of.behind));
      said = done.said;
    }

if_some : {A : Type 0} {P Q : A → Type 0} (o : Option A) → ((x : A) → P x → Q x) → IfSome o P → IfSome o Q
if_some None f h = tt
if_some (Some x) f h = f x h

pub tells_over : {S E : Type 0} (seen : S → ShelfSeen) (held : E → SinkSeen) (whole : Bool) (end result : RunEnd) (a : ShelfSeen) (b : SinkSeen) (s s' : S) (e e' : E) (control : Use SourceSeen) (start es : List Event) (seats : List ℕ) (v w : List Entry)
    → result ≡ run_end whole end → s' ≡ s → e' ≡ e → v ≡ begun_with start → (whole ≡ true → IsByCaller es seats w)
    → CallerDid start end (caller_use (used a (seen s)) control (used b (held e))) (used v w) → RecordsCaller start result (caller_use (used a (seen s')) control (used b (held e'))) es seats
tells_over {S} {E} seen held whole end result a b s s' e e' control start es seats v w is shelf err first brought done =
    subst (λ (t : RunEnd × S × E). RecordsCaller start t.0 (caller_use (used a (seen t.1)) control (used b (held t.2))) es seats) (λ i. (sym is i, sym shelf i, sym err i)) (of whole brought)
  where
    jobs : jobs_known start v ≡ (world_of start).jobs
    jobs = ap (jobs_after (world_of start).jobs) (ap ordered first ∙ ap orders_in (begun_brought start))

    tells : (files : List StoredFile) (bytes : List ℕ) → IsByCaller es seats w
        → Came end (caller_use (used a (seen s)) control (used b (held e))) (caller_did files (jobs_known start v) (control_lines bytes)) (caller_did files (jobs_known start v) (given_lines control bytes)) (used v w)
        → (what : Did) × Fits end (used a (seen s)) (caller_did files (world_of start).jobs (control_lines bytes)) (caller_did files (world_of start).jobs (given_lines control bytes)) what
        × RecordsControl start es seats what (used b (held e))
    tells files bytes of was =
        let came = subst (λ js. Came end (caller_use (used a (seen s)) control (used b (held e))) (caller_did files js (control_lines bytes)) (caller_did files js (given_lines control bytes)) (used v w)) jobs was in
        (came.what, came.fits, records_done start es seats v w came.what (used b (held e)) first of came.done)

    of : (x : Bool) → (x ≡ true → IsByCaller es seats w) → RecordsCaller start (run_end x end) (caller_use (used a (seen s)) control (used b (held e))) es seats
    of true own more = if_some a.files (λ files h. if_some control.before.left (λ bytes g. tells files bytes (own refl) g) h) (done more)
    of false own more = absurd (more refl)
