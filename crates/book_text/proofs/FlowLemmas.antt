-- Text that goes on behind text.
use Rattle.std.proofs.Common.{◌≡◌, ℕ, List, [], ◌++◌, subst, refl, sym, ap, ◌∙◌, append_assoc, append-nil}
use Rattle.std.specs.Prelude.{Option, Some, None, IfSome, Result, Ok, Err, OnOk, OnErr}
use Rattle.outside.specs.Objects.{SinkSeen, Use, used, Adds, Took, Cut, Rose}
use Rattle.book_text.specs.Flows.{Flows, Stops}

pub adds_nothing : (s : SinkSeen) → Adds [] (used s s)
adds_nothing s = of s.bytes
  where
    of : (t : Option (List ℕ)) → IfSome t (λ had. t ≡ Some (had ++ []))
    of None = tt
    of (Some had) = ap Some (sym (append-nil had))

pub adds_more : (p q : List ℕ) (a b c : SinkSeen) → Adds p (used a b) → Adds q (used b c) → Adds (p ++ q) (used a c)
adds_more p q a b c f g = of a.bytes b.bytes f g
  where
    of : (t u : Option (List ℕ)) → IfSome t (λ had. u ≡ Some (had ++ p)) → IfSome u (λ had. c.bytes ≡ Some (had ++ q)) → IfSome t (λ had. c.bytes ≡ Some (had ++ (p ++ q)))
    of None u f g = tt
    of (Some had) u f g =
        let P : Option (List ℕ) → Type 0 = λ z. IfSome z (λ had. c.bytes ≡ Some (had ++ q)) in
        let h : c.bytes ≡ Some ((had ++ p) ++ q) = subst P f g in
        h ∙ ap Some (append_assoc had p q)

pub took_nothing : (s : SinkSeen) → Took [] (used s s)
took_nothing s = record { whole = adds_nothing s; sound = refl }

pub took_more : (p q : List ℕ) (a b c : SinkSeen) → Took p (used a b) → Took q (used b c) → Took (p ++ q) (used a c)
took_more p q a b c f g = record { whole = adds_more p q a b c f.whole g.whole; sound = g.sound ∙ f.sound }

-- nothing was printed yet
pub flows_none : (b : List ℕ) (s : SinkSeen) → Flows [] b b (used s s)
flows_none b s = record { front = []; whole = append-nil b; put = took_nothing s }

pub flows_more : (p q b c d : List ℕ) (s t u : SinkSeen) → Flows p b c (used s t) → Flows q c d (used t u) → Flows (p ++ q) b d (used s u)
flows_more p q b c d s t u f g = record {
  front = f.front ++ g.front;
  whole = sym (append_assoc b p q) ∙ (ap (λ z. z ++ q) f.whole ∙ (append_assoc f.front c q ∙ (ap (λ z. f.front ++ z) g.whole ∙ sym (append_assoc f.front g.front d))));
  put = took_more f.front g.front s t u f.put g.put;
}

-- what is appended to the page flows
pub flows_page : (p b c : List ℕ) (s : SinkSeen) → c ≡ b ++ p → Flows p b c (used s s)
flows_page p b c s e = record { front = []; whole = sym e; put = took_nothing s }

pub stops_after : (p q b c : List ℕ) (s t u : SinkSeen) → Flows p b c (used s t) → Stops q c (used t u) → Stops (p ++ q) b (used s u)
stops_after p q b c s t u f g = record {
  front = f.front ++ g.front;
  rest = g.rest;
  whole = sym (append_assoc b p q) ∙ (ap (λ z. z ++ q) f.whole ∙ (append_assoc f.front c q ∙ (ap (λ z. f.front ++ z) g.whole ∙ sym (append_assoc f.front g.front g.rest))));
  put = adds_more f.front g.front s t u f.put.whole g.put;
  counted = subst (λ n. Rose n u.faults) f.put.sound g.counted;
}

pub stops_more : (p q b : List ℕ) (s u : SinkSeen) → Stops p b (used s u) → Stops (p ++ q) b (used s u)
stops_more p q b s u g = record {
  front = g.front;
  rest = g.rest ++ q;
  whole = sym (append_assoc b p q) ∙ (ap (λ z. z ++ q) g.whole ∙ append_assoc g.front g.rest q);
  put = g.put;
  counted = g.counted;
}

-- a front of the text was put
pub stops_cut : (p : List ℕ) (s u : SinkSeen) → Stops p [] (used s u) → Cut p (used s u)
stops_cut p s u g = record { front = (g.front, g.rest, g.whole, g.put); counted = g.counted }

-- all of it was put, and nothing stands on the page
pub flows_took : (p : List ℕ) (s u : SinkSeen) → Flows p [] [] (used s u) → Took p (used s u)
flows_took p s u f = subst (λ z. Took z (used s u)) (sym (append-nil f.front) ∙ sym f.whole) f.put

-- facts of a result, passed on
pub on_err_map : {A E : Type 0} (r : Result A E) (P Q : Type 0) → (P → Q) → OnErr r P → OnErr r Q
on_err_map (Ok a) P Q f h = tt
on_err_map (Err e) P Q f h = f h

pub on_ok_both : {A E : Type 0} (r : Result A E) (P Q R : Type 0) → (P → Q → R) → OnOk r P → OnOk r Q → OnOk r R
on_ok_both (Ok a) P Q R f h k = f h k
on_ok_both (Err e) P Q R f h k = tt

-- texts one behind the other, of which the first or the second is cut
pub cut_more : (p q : List ℕ) (u : Use SinkSeen) → Cut p u → Cut (p ++ q) u
cut_more p q u c = record { front = (c.front.0, c.front.1 ++ q, ap (λ z. z ++ q) c.front.2 ∙ append_assoc c.front.0 c.front.1 q, c.front.3); counted = c.counted }

pub cut_after : (p q : List ℕ) (s t u : SinkSeen) → Took p (used s t) → Cut q (used t u) → Cut (p ++ q) (used s u)
cut_after p q s t u a c = record {
  front = (p ++ c.front.0, c.front.1, ap (λ z. p ++ z) c.front.2 ∙ sym (append_assoc p c.front.0 c.front.1), adds_more p c.front.0 s t u a.whole c.front.3);
  counted = subst (λ n. Rose n u.faults) a.sound c.counted;
}
