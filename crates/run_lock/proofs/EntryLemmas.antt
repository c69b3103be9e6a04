-- The entries that a journal and its marks stand for, after each mark.
use Rattle.std.proofs.Common.{◌≡◌, ◌≢◌, ℕ, zero, suc, ◌<◌, ◌==◌, List, [], ◌∷◌, ◌++◌, length, replicate, Bool, true, false, cond, refl, sym, ap, ◌∙◌, arith, append_assoc, append-nil, ne_eqb, ◌||◌}
use Rattle.std.specs.Prelude.{All, Option}
use Rattle.std.proofs.lemmas.Bool.Decides.{nat_tests}
use Rattle.std.proofs.lemmas.List.Elements.{filter-append}
use mathlib.Core.List.{IsPrefix}
use Rattle.journal_text.specs.declared.events.Event.{Event}
use Rattle.journal_text.specs.Events.{now_after, now_from}
use Rattle.run_lock.specs.declared.marks.Entry.{Entry}
use Rattle.run_lock.specs.declared.marks.Mark.{Mark}
use Rattle.run_lock.specs.declared.marks.Mark.TheVariants as mark
use Rattle.run_lock.specs.declared.marks.Note.{Note}
use Rattle.run_lock.specs.declared.marks.Note.TheVariants.{Before, Took, Brought, Ended, Failed}
use Rattle.run_lock.specs.Entries.{entry, seats_in, entries_from, own_by, event_in, events_in, brought_by, brought_in, begun_with, GoesOn, Adds}
use Rattle.run_lock.specs.Held.{after_note, pending_from, is_end, any_end, events_of}

-- one more entry, of the same seat and of another one
pub own_here : (log : List Entry) (s q : ℕ) (x : Note) → s ≡ q → own_by q (log ++ entry s x ∷ []) ≡ own_by q log ++ entry s x ∷ []
own_here log s q x is =
    let yes : (s == q) ≡ true = grind (arith, nat_tests) in
    filter-append (λ (e : Entry). e.seat == q) log (entry s x ∷ []) ∙ ap (λ (b : Bool). own_by q log ++ cond b (entry s x ∷ []) []) yes

pub own_else : (log : List Entry) (s q : ℕ) (x : Note) → s ≢ q → own_by q (log ++ entry s x ∷ []) ≡ own_by q log
own_else log s q x ne =
    let no : (s == q) ≡ false = ne_eqb s q ne in
    filter-append (λ (e : Entry). e.seat == q) log (entry s x ∷ []) ∙ (ap (λ (b : Bool). own_by q log ++ cond b (entry s x ∷ []) []) no ∙ append-nil (own_by q log))

-- one more mark: of an event, and of none
pub seats_brought : (ms : List Mark) (s : ℕ) → seats_in (ms ++ mark.Brought s ∷ []) ≡ seats_in ms ++ s ∷ []
seats_brought [] s = refl
seats_brought (mark.Before ∷ ms) s = ap (λ (xs : List ℕ). 0 ∷ xs) (seats_brought ms s)
seats_brought (mark.Took t k ∷ ms) s = seats_brought ms s
seats_brought (mark.Brought t ∷ ms) s = ap (λ (xs : List ℕ). t ∷ xs) (seats_brought ms s)
seats_brought (mark.Ended t ∷ ms) s = seats_brought ms s
seats_brought (mark.Failed t ∷ ms) s = seats_brought ms s

pub seats_silent : (ms : List Mark) (m : Mark) → seats_in (m ∷ []) ≡ [] → seats_in (ms ++ m ∷ []) ≡ seats_in ms
seats_silent [] m none = none
seats_silent (mark.Before ∷ ms) m none = ap (λ (xs : List ℕ). 0 ∷ xs) (seats_silent ms m none)
seats_silent (mark.Took t k ∷ ms) m none = seats_silent ms m none
seats_silent (mark.Brought t ∷ ms) m none = ap (λ (xs : List ℕ). t ∷ xs) (seats_silent ms m none)
seats_silent (mark.Ended t ∷ ms) m none = seats_silent ms m none
seats_silent (mark.Failed t ∷ ms) m none = seats_silent ms m none

pub entries_brought : (now : ℕ) (ms : List Mark) (es : List Event) (s : ℕ) (e : Event) → length es ≡ length (seats_in ms)
    → entries_from now (ms ++ mark.Brought s ∷ []) (es ++ e ∷ []) ≡ entries_from now ms es ++ entry s (Brought (now_from now es) e) ∷ []
entries_brought now [] [] s e h = refl
entries_brought now [] (d ∷ es) s e h = absurd (omega (arith, h))
entries_brought now (mark.Before ∷ ms) [] s e h = absurd (omega (arith, h))
entries_brought now (mark.Before ∷ ms) (d ∷ es) s e h = ap (λ (xs : List Entry). entry 0 (Before d) ∷ xs) (entries_brought (now_after now d) ms es s e (omega (arith, h)))
entries_brought now (mark.Took t k ∷ ms) es s e h = ap (λ (xs : List Entry). entry t (Took k) ∷ xs) (entries_brought now ms es s e h)
entries_brought now (mark.Brought t ∷ ms) [] s e h = absurd (omega (arith, h))
entries_brought now (mark.Brought t ∷ ms) (d ∷ es) s e h = ap (λ (xs : List Entry). entry t (Brought now d) ∷ xs) (entries_brought (now_after now d) ms es s e (omega (arith, h)))
entries_brought now (mark.Ended t ∷ ms) es s e h = ap (λ (xs : List Entry). entry t Ended ∷ xs) (entries_brought now ms es s e h)
entries_brought now (mark.Failed t ∷ ms) es s e h = ap (λ (xs : List Entry). entry t Failed ∷ xs) (entries_brought now ms es s e h)

pub entries_silent : (now : ℕ) (ms : List Mark) (es : List Event) (m : Mark) (x : Entry) → length es ≡ length (seats_in ms) → ((n : ℕ) (fs : List Event) → entries_from n (m ∷ []) fs ≡ x ∷ [])
    → entries_from now (ms ++ m ∷ []) es ≡ entries_from now ms es ++ x ∷ []
entries_silent now [] es m x h is = is now es
entries_silent now (mark.Before ∷ ms) [] m x h is = absurd (omega (arith, h))
entries_silent now (mark.Before ∷ ms) (d ∷ es) m x h is = ap (λ (xs : List Entry). entry 0 (Before d) ∷ xs) (entries_silent (now_after now d) ms es m x (omega (arith, h)) is)
entries_silent now (mark.Took t k ∷ ms) es m x h is = ap (λ (xs : List Entry). entry t (Took k) ∷ xs) (entries_silent now ms es m x h is)
entries_silent now (mark.Brought t ∷ ms) [] m x h is = absurd (omega (arith, h))
entries_silent now (mark.Brought t ∷ ms) (d ∷ es) m x h is = ap (λ (xs : List Entry). entry t (Brought now d) ∷ xs) (entries_silent (now_after now d) ms es m x (omega (arith, h)) is)
entries_silent now (mark.Ended t ∷ ms) es m x h is = ap (λ (xs : List Entry). entry t Ended ∷ xs) (entries_silent now ms es m x h is)
entries_silent now (mark.Failed t ∷ ms) es m x h is = ap (λ (xs : List Entry). entry t Failed ∷ xs) (entries_silent now ms es m x h is)

-- there are as many entries as marks
pub entries_length : (now : ℕ) (ms : List Mark) (es : List Event) → length es ≡ length (seats_in ms) → length (entries_from now ms es) ≡ length ms
entries_length now [] es h = refl
entries_length now (mark.Before ∷ ms) [] h = absurd (omega (arith, h))
entries_length now (mark.Before ∷ ms) (d ∷ es) h = ap (λ (n : ℕ). suc n) (entries_length (now_after now d) ms es (omega (arith, h)))
entries_length now (mark.Took t k ∷ ms) es h = ap (λ (n : ℕ). suc n) (entries_length now ms es h)
entries_length now (mark.Brought t ∷ ms) [] h = absurd (omega (arith, h))
entries_length now (mark.Brought t ∷ ms) (d ∷ es) h = ap (λ (n : ℕ). suc n) (entries_length (now_after now d) ms es (omega (arith, h)))
entries_length now (mark.Ended t ∷ ms) es h = ap (λ (n : ℕ). suc n) (entries_length now ms es h)
entries_length now (mark.Failed t ∷ ms) es h = ap (λ (n : ℕ). suc n) (entries_length now ms es h)

-- the events among the entries are those of the journal
pub entries_events : (now : ℕ) (ms : List Mark) (es : List Event) → length es ≡ length (seats_in ms) → events_in (entries_from now ms es) ≡ es
entries_events now [] [] h = refl
entries_events now [] (d ∷ es) h = absurd (omega (arith, h))
entries_events now (mark.Before ∷ ms) [] h = absurd (omega (arith, h))
entries_events now (mark.Before ∷ ms) (d ∷ es) h = ap (λ (xs : List Event). d ∷ xs) (entries_events (now_after now d) ms es (omega (arith, h)))
entries_events now (mark.Took t k ∷ ms) es h = entries_events now ms es h
entries_events now (mark.Brought t ∷ ms) [] h = absurd (omega (arith, h))
entries_events now (mark.Brought t ∷ ms) (d ∷ es) h = ap (λ (xs : List Event). d ∷ xs) (entries_events (now_after now d) ms es (omega (arith, h)))
entries_events now (mark.Ended t ∷ ms) es h = entries_events now ms es h
entries_events now (mark.Failed t ∷ ms) es h = entries_events now ms es h

-- the events of a seat are those of its entries
seat_events_more : (q s : ℕ) (x : Note) (d : Event) (us xs : List Event) (es : List Entry) → event_in x ≡ d ∷ [] → us ≡ events_in (own_by q es) → cond (s == q) (d ∷ us) us ≡ events_in (own_by q (entry s x ∷ es))
seat_events_more q s x d us xs es one h = of (s == q) where
  of : (b : Bool) → cond b (d ∷ us) us ≡ events_in (cond b (entry s x ∷ own_by q es) (own_by q es))
  of true = ap (λ (ys : List Event). d ∷ ys) h ∙ ap (λ (ys : List Event). ys ++ events_in (own_by q es)) (sym one)
  of false = h

seat_events_less : (q s : ℕ) (x : Note) (us : List Event) (es : List Entry) → event_in x ≡ [] → us ≡ events_in (own_by q es) → us ≡ events_in (own_by q (entry s x ∷ es))
seat_events_less q s x us es none h = of (s == q) where
  of : (b : Bool) → us ≡ events_in (cond b (entry s x ∷ own_by q es) (own_by q es))
  of true = h ∙ ap (λ (ys : List Event). ys ++ events_in (own_by q es)) (sym none)
  of false = h

pub seat_events : (q now : ℕ) (ms : List Mark) (es : List Event) → length es ≡ length (seats_in ms) → events_of q es (seats_in ms) ≡ events_in (own_by q (entries_from now ms es))
seat_events q now [] [] h = refl
seat_events q now [] (d ∷ es) h = absurd (omega (arith, h))
seat_events q now (mark.Before ∷ ms) [] h = absurd (omega (arith, h))
seat_events q now (mark.Before ∷ ms) (d ∷ es) h = seat_events_more q 0 (Before d) d (events_of q es (seats_in ms)) [] (entries_from (now_after now d) ms es) refl (seat_events q (now_after now d) ms es (omega (arith, h)))
seat_events q now (mark.Took t k ∷ ms) es h = seat_events_less q t (Took k) (events_of q es (seats_in ms)) (entries_from now ms es) refl (seat_events q now ms es h)
seat_events q now (mark.Brought t ∷ ms) [] h = absurd (omega (arith, h))
seat_events q now (mark.Brought t ∷ ms) (d ∷ es) h = seat_events_more q t (Brought now d) d (events_of q es (seats_in ms)) [] (entries_from (now_after now d) ms es) refl (seat_events q (now_after now d) ms es (omega (arith, h)))
seat_events q now (mark.Ended t ∷ ms) es h = seat_events_less q t Ended (events_of q es (seats_in ms)) (entries_from now ms es) refl (seat_events q now ms es h)
seat_events q now (mark.Failed t ∷ ms) es h = seat_events_less q t Failed (events_of q es (seats_in ms)) (entries_from now ms es) refl (seat_events q now ms es h)

-- one more entry of a seat
pub pending_push : (o : Option ℕ) (xs : List Entry) (x : Entry) → pending_from o (xs ++ x ∷ []) ≡ after_note (pending_from o xs) x.note
pending_push o [] x = refl
pending_push o (y ∷ ys) x = pending_push (after_note o y.note) ys x

pub any_push : (xs : List Entry) (x : Entry) → any_end (xs ++ x ∷ []) ≡ (any_end xs || is_end x.note)
any_push [] x = of (is_end x.note)
  where
    of : (b : Bool) → cond b true false ≡ (false || b)
    of true = refl
    of false = refl
any_push (y ∷ ys) x = of (is_end y.note) (any_push ys x)
  where
    of : (b : Bool) → any_end (ys ++ x ∷ []) ≡ (any_end ys || is_end x.note) → cond b true (any_end (ys ++ x ∷ [])) ≡ (cond b true (any_end ys) || is_end x.note)
    of true h = refl
    of false h = h

pub brought_push : (xs : List Entry) (x : Entry) → brought_in (xs ++ x ∷ []) ≡ brought_in xs ++ brought_by x.note
brought_push [] x = append-nil _
brought_push (y ∷ ys) x = ap (λ (zs : List Event). brought_by y.note ++ zs) (brought_push ys x) ∙ sym (append_assoc (brought_by y.note) (brought_in ys) (brought_by x.note))

pub events_push : (xs : List Entry) (x : Entry) → events_in (xs ++ x ∷ []) ≡ events_in xs ++ event_in x.note
events_push [] x = append-nil _
events_push (y ∷ ys) x = ap (λ (zs : List Event). event_in y.note ++ zs) (events_push ys x) ∙ sym (append_assoc (event_in y.note) (events_in ys) (event_in x.note))

-- an end that one seat saw is one of the list
pub end_seen : (s : ℕ) (log : List Entry) → any_end (own_by s log) ≡ true → any_end log ≡ true
end_seen s [] h = h
end_seen s (x ∷ xs) h = of (x.seat == s) (is_end x.note) refl (end_seen s xs) h
  where
    of : (b c : Bool) → is_end x.note ≡ c → (any_end (own_by s xs) ≡ true → any_end xs ≡ true) → any_end (cond b (x ∷ own_by s xs) (own_by s xs)) ≡ true → cond c true (any_end xs) ≡ true
    of b true is rest h = refl
    of true false is rest h = rest (sym (ap (λ (c : Bool). cond c true (any_end (own_by s xs))) is) ∙ h)
    of false false is rest h = rest h

-- a list that goes on by one entry goes on by entries of its seat alone
one_seat : (s : ℕ) (x : Note) → All (λ (e : Entry). e.seat ≡ s) (entry s x ∷ [])
one_seat s x zero d lt = refl
one_seat s x (suc i) d lt = absurd (omega (arith, lt))

pub goes_one : (log later : List Entry) (s : ℕ) (x : Note) → Adds log s x later → GoesOn s log later
goes_one log later s x h = (entry s x ∷ [], h, one_seat s x)

-- what begins with a beginning begins with what that begins with
pub prefix_joined : (xs ys zs : List Entry) → IsPrefix xs ys → IsPrefix ys zs → IsPrefix xs zs
prefix_joined xs ys zs h k = (h.0 ++ k.0, sym (append_assoc xs h.0 k.0) ∙ (ap (λ (l : List Entry). l ++ k.0) h.1 ∙ k.1))

-- before the run
pub entries_begun : (now : ℕ) (es : List Event) → entries_from now (replicate (length es) mark.Before) es ≡ begun_with es
entries_begun now [] = refl
entries_begun now (e ∷ es) = ap (λ (xs : List Entry). entry 0 (Before e) ∷ xs) (entries_begun (now_after now e) es)

pub seats_begun : (n : ℕ) → length (seats_in (replicate n mark.Before)) ≡ n
seats_begun zero = refl
seats_begun (suc n) = ap (λ (k : ℕ). suc k) (seats_begun n)

pub begun_own : (es : List Event) → own_by 0 (begun_with es) ≡ begun_with es
begun_own [] = refl
begun_own (e ∷ es) = ap (λ (xs : List Entry). entry 0 (Before e) ∷ xs) (begun_own es)

pub begun_else : (q : ℕ) (es : List Event) → 0 < q → own_by q (begun_with es) ≡ []
begun_else q [] some = refl
begun_else q (e ∷ es) some =
    let no : (0 == q) ≡ false = grind (arith, nat_tests) in
    ap (λ (b : Bool). cond b (entry 0 (Before e) ∷ own_by q (begun_with es)) (own_by q (begun_with es))) no ∙ begun_else q es some

pub begun_brought : (es : List Event) → brought_in (begun_with es) ≡ []
begun_brought [] = refl
begun_brought (e ∷ es) = begun_brought es

pub begun_events : (es : List Event) → events_in (begun_with es) ≡ es
begun_events [] = refl
begun_events (e ∷ es) = ap (λ (xs : List Event). e ∷ xs) (begun_events es)

pub begun_unended : (es : List Event) → any_end (begun_with es) ≡ false
begun_unended [] = refl
begun_unended (e ∷ es) = begun_unended es

pub begun_seats : (es : List Event) → All (λ (e : Entry). e.seat ≡ 0) (begun_with es)
begun_seats [] i d lt = absurd (omega (arith, lt))
begun_seats (e ∷ es) zero d lt = refl
begun_seats (e ∷ es) (suc i) d lt = begun_seats es i d (omega (arith, lt))
