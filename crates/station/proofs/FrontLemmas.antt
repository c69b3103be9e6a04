-- What the caller carried out and said, one thing after another, and fronts of it.
use Rattle.std.proofs.Common.{◌≡◌, ℕ, List, [], ◌∷◌, ◌++◌, map, refl, sym, ap, ap₂, ◌∙◌, append_assoc, append-nil}
use Rattle.std.specs.Prelude.{Option, Some, None, Result, Ok, Err, IfSome}
use Rattle.std.proofs.lemmas.List.{map-append}
use Rattle.journal_text.specs.declared.events.Event.{Event}
use Rattle.outside.specs.Objects.{SinkSeen, Use, used, Adds}
use Rattle.run_lock.specs.Callers.{jobs_after, jobs_known, ordered}
use Rattle.run_lock.specs.declared.marks.Entry.{Entry}
use Rattle.run_lock.specs.declared.tasks.ControlOrder.{ControlOrder}
use Rattle.run_lock.proofs.CallerLemmas.{jobs_join, ordered_push}
use Rattle.scrape_machine.specs.Machine.{world_of}
use Rattle.station.specs.Control.{Did, did, both, Ordered, order_of, entry_for, HasOrdered, HasOrderedSome, StoppedIn, Orders, HasDone, IsFrontOf, HasBegun, StoppedDoing, DoesSo, LastDoes}
use Rattle.station.specs.Ends.{end_of}
use Rattle.station.specs.declared.ends.Stop.{Stop}
use Rattle.station.specs.declared.ends.Stop.TheVariants as stop
use Rattle.station.proofs.EndLemmas.{adds_then}

-- the caller's entries after some orders tell these, and which configuration is in force
ordered_by : (xs : List Ordered) (v : List Entry) → ordered (v ++ map entry_for xs) ≡ ordered v ++ map order_of xs
ordered_by [] v = ap ordered (append-nil v) ∙ sym (append-nil (ordered v))
ordered_by (x ∷ xs) v =
    ap ordered (sym (append_assoc v (entry_for x ∷ []) (map entry_for xs)))
    ∙ (ordered_by xs (v ++ entry_for x ∷ [])
    ∙ (ap (λ (os : List ControlOrder). os ++ map order_of xs) (ordered_push v 0 x.last x.order) ∙ append_assoc (ordered v) (x.order ∷ []) (map order_of xs)))

told_orders : (os : List ControlOrder) (v w : List Entry) → HasOrdered os v w → ordered w ≡ ordered v ++ os
told_orders os v w has = ap ordered has.added ∙ (ordered_by has.carried v ∙ ap (λ (xs : List ControlOrder). ordered v ++ xs) has.these)

pub known_after : (start : List Event) (os : List ControlOrder) (v w : List Entry) → HasOrdered os v w → jobs_known start w ≡ jobs_after (jobs_known start v) os
known_after start os v w has = ap (jobs_after (world_of start).jobs) (told_orders os v w has) ∙ jobs_join (world_of start).jobs (ordered v) os

pub ordered_none : (v w : List Entry) → w ≡ v → HasOrdered [] v w
ordered_none v w same = record { carried = []; these = refl; added = same ∙ sym (append-nil v) }

pub ordered_then : (os ps : List ControlOrder) (v w u : List Entry) → HasOrdered os v w → HasOrdered ps w u → HasOrdered (os ++ ps) v u
ordered_then os ps v w u one next = record {
  carried = one.carried ++ next.carried;
  these = map-append order_of one.carried next.carried ∙ ap₂ (λ (xs ys : List ControlOrder). xs ++ ys) one.these next.these;
  added = next.added ∙ (ap (λ (xs : List Entry). xs ++ map entry_for next.carried) one.added
      ∙ (append_assoc v (map entry_for one.carried) (map entry_for next.carried) ∙ ap (λ (xs : List Entry). v ++ xs) (sym (map-append entry_for one.carried next.carried))));
}

-- the same where something stopped it
some_none : (os : List ControlOrder) (v w : List Entry) → w ≡ v → HasOrderedSome os v w
some_none os v w same = record { front = []; more = os; whole = refl; has = ordered_none v w same }

some_then : (os ps : List ControlOrder) (v w u : List Entry) → HasOrdered os v w → HasOrderedSome ps w u → HasOrderedSome (os ++ ps) v u
some_then os ps v w u one h = record {
  front = os ++ h.front;
  more = h.more;
  whole = ap (λ (xs : List ControlOrder). os ++ xs) h.whole ∙ sym (append_assoc os h.front h.more);
  has = ordered_then os h.front v w u one h.has;
}

some_longer : (os ps : List ControlOrder) (v w : List Entry) → HasOrderedSome os v w → HasOrderedSome (os ++ ps) v w
some_longer os ps v w h = record { front = h.front; more = h.more ++ ps; whole = ap (λ (xs : List ControlOrder). xs ++ ps) h.whole ∙ append_assoc h.front h.more ps; has = h.has }

pub stopped_none : (s : Stop) (os : List ControlOrder) (v w : List Entry) → w ≡ v → StoppedIn s os v w
stopped_none stop.ReadFault os v w same = some_none os v w same
stopped_none stop.WriteFault os v w same = some_none os v w same
stopped_none stop.NoMemory os v w same = tt

pub stopped_then : (s : Stop) (os ps : List ControlOrder) (v w u : List Entry) → HasOrdered os v w → StoppedIn s ps w u → StoppedIn s (os ++ ps) v u
stopped_then stop.ReadFault os ps v w u one h = some_then os ps v w u one h
stopped_then stop.WriteFault os ps v w u one h = some_then os ps v w u one h
stopped_then stop.NoMemory os ps v w u one h = tt

pub stopped_longer : (s : Stop) (os ps : List ControlOrder) (v w : List Entry) → StoppedIn s os v w → StoppedIn s (os ++ ps) v w
stopped_longer stop.ReadFault os ps v w h = some_longer os ps v w h
stopped_longer stop.WriteFault os ps v w h = some_longer os ps v w h
stopped_longer stop.NoMemory os ps v w h = tt

pub orders_then : {A : Type 0} (r : Result A Stop) (os ps : List ControlOrder) (v w u : List Entry) → HasOrdered os v w → Orders r ps w u → Orders r (os ++ ps) v u
orders_then (Ok x) os ps v w u one next = ordered_then os ps v w u one next
orders_then (Err s) os ps v w u one next = stopped_then s os ps v w u one next

-- things that are done, one after the other
pub adds_nothing : (a b : SinkSeen) → b ≡ a → Adds [] (used a b)
adds_nothing a b same = of a.bytes refl
  where
    of : (o : Option (List ℕ)) → a.bytes ≡ o → IfSome o (λ had. b.bytes ≡ Some (had ++ []))
    of None is = tt
    of (Some had) is = ap (λ (s : SinkSeen). s.bytes) same ∙ (is ∙ ap Some (sym (append-nil had)))

pub done_none : (v w : List Entry) (a b : SinkSeen) → w ≡ v → b ≡ a → HasDone (did [] []) (used v w) (used a b)
done_none v w a b same still = record { orders = ordered_none v w same; said = adds_nothing a b still }

pub done_both : (x y : Did) (v w u : List Entry) (a b c : SinkSeen) → HasDone x (used v w) (used a b) → HasDone y (used w u) (used b c) → HasDone (both x y) (used v u) (used a c)
done_both x y v w u a b c one next = record {
  orders = ordered_then x.orders y.orders v w u one.orders next.orders;
  said = adds_then x.said y.said a b c one.said next.said;
}

pub both_assoc : (x y z : Did) → both x (both y z) ≡ both (both x y) z
both_assoc x y z = ap₂ did (sym (append_assoc x.orders y.orders z.orders)) (sym (append_assoc x.said y.said z.said))

pub both_none : (x : Did) → both x (did [] []) ≡ x
both_none x = ap₂ did (append-nil x.orders) (append-nil x.said)

-- fronts
pub front_self : (d : Did) → IsFrontOf d d
front_self d = record { rest = did [] []; orders = sym (append-nil d.orders); said = sym (append-nil d.said) }

pub front_both : (x y z : Did) → IsFrontOf y z → IsFrontOf (both x y) (both x z)
front_both x y z h = record {
  rest = h.rest;
  orders = ap (λ (os : List ControlOrder). x.orders ++ os) h.orders ∙ sym (append_assoc x.orders y.orders h.rest.orders);
  said = ap (λ (bs : List ℕ). x.said ++ bs) h.said ∙ sym (append_assoc x.said y.said h.rest.said);
}

pub front_then : (x y z : Did) → IsFrontOf x y → IsFrontOf y z → IsFrontOf x z
front_then x y z one next = record {
  rest = both one.rest next.rest;
  orders = next.orders ∙ (ap (λ (os : List ControlOrder). os ++ next.rest.orders) one.orders ∙ append_assoc x.orders one.rest.orders next.rest.orders);
  said = next.said ∙ (ap (λ (bs : List ℕ). bs ++ next.rest.said) one.said ∙ append_assoc x.said one.rest.said next.rest.said);
}

pub front_first : (x y : Did) → IsFrontOf x (both x y)
front_first x y = record { rest = y; orders = refl; said = refl }

pub begun_then : (x y : Did) (v w u : List Entry) (a b c : SinkSeen) → HasDone x (used v w) (used a b) → HasBegun y (used w u) (used b c) → HasBegun (both x y) (used v u) (used a c)
begun_then x y v w u a b c one h = record { part = both x h.part; front = front_both x h.part y h.front; done = done_both x h.part v w u a b c one h.done }

pub begun_longer : (d e : Did) (v w : List Entry) (err : Use SinkSeen) → IsFrontOf d e → HasBegun d (used v w) err → HasBegun e (used v w) err
begun_longer d e v w err front h = record { part = h.part; front = front_then h.part d e h.front front; done = h.done }

-- the same where something stopped it
pub does_then : {A : Type 0} (r : Result A Stop) (x y : Did) (v w u : List Entry) (a b c : SinkSeen) → HasDone x (used v w) (used a b) → DoesSo r y (used w u) (used b c) → DoesSo r (both x y) (used v u) (used a c)
does_then (Ok t) x y v w u a b c one next = done_both x y v w u a b c one next
does_then (Err stop.ReadFault) x y v w u a b c one next = begun_then x y v w u a b c one next
does_then (Err stop.WriteFault) x y v w u a b c one next = begun_then x y v w u a b c one next
does_then (Err stop.NoMemory) x y v w u a b c one next = tt

pub stop_longer : (s : Stop) (d e : Did) (v w : List Entry) (err : Use SinkSeen) → IsFrontOf d e → StoppedDoing s d (used v w) err → StoppedDoing s e (used v w) err
stop_longer stop.ReadFault d e v w err front h = begun_longer d e v w err front h
stop_longer stop.WriteFault d e v w err front h = begun_longer d e v w err front h
stop_longer stop.NoMemory d e v w err front h = tt

-- a loop that ends with a stop, at its last line
pub last_stops : (s : Stop) (d : Did) (v w : List Entry) (err : Use SinkSeen) → StoppedDoing s d (used v w) err → LastDoes (end_of s) d (used v w) err
last_stops stop.ReadFault d v w err h = h
last_stops stop.WriteFault d v w err h = h
last_stops stop.NoMemory d v w err h = tt
