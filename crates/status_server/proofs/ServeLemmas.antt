-- From one read of a connection to the next.
use Rattle.std.proofs.Common.{◌≡◌, inl, inr, ℕ, zero, suc, ◌+◌, ◌-◌, ◌<◌, ◌≤◌, min, List, [], ◌∷◌, ◌++◌, length, take, drop, refl, sym, ap, subst, ◌∙◌, arith, append_assoc, append-nil}
use Rattle.std.specs.Prelude.{◌⊎◌, Option, Some, None, IfSome}
use Rattle.std.proofs.lemmas.List.{length-append, length-take-le, take-take, take_at, take_min}
use Rattle.journal_text.specs.declared.events.Event.{Event}
use Rattle.outside.specs.Objects.{ShelfSeen, SinkSeen, used, Took, Rose}
use Rattle.outside.specs.Sources.{SourceSeen, FailedToGive, Gave, Gives, IsAtEnd}
use Rattle.request_heads.specs.Fronts.{IsTorn}
use Rattle.status_server.specs.Connections.{Answered, AreFirst, IsBegun, IsClosed, outcome}
use Rattle.status_server.specs.Reloads.{basis}
use Rattle.status_server.specs.Serving.{HasGiven, IsSound, Serves, Touched, end_of, touched}
use Rattle.status_server.specs.Steps.{Ended, Reached, ShelfBy, ShelfStays, StopsIn, site}
use Rattle.status_server.specs.declared.connections.Stop.{Stop}
use Rattle.status_server.specs.declared.connections.Stop.TheVariants as stops
use Rattle.status_server.specs.declared.serving.ServeEnd.TheVariants.{Done, ReadFault, TooLong, NoMemory}
use Rattle.status_server.proofs.ConnectionLemmas.{answered-append, answered-none, answered-then, begun-then, closed-then, first-then}
use Rattle.status_server.proofs.FlowLemmas.{given-none, given-then, took-none, took-then, cut-then}

-- the room of a read, behind it
pub room-is : (len : ℕ) (room rest all : List ℕ) → all ≡ take len (room ++ rest) → length room ≡ len → all ≡ room
room-is len room rest all is same = is ∙ take_at room rest len same

-- what a connection came to by a read
pub record Has (es : List Event) (file : List ℕ) (given : ℕ) (waiting : List ℕ) (core : List Event) (t : Touched) : Type 0 where
  pub bytes : List ℕ
  pub replies : List ℕ
  pub loads : List Event
  pub gave : HasGiven bytes t.source
  pub count : length bytes ≡ given
  pub few : given ≤ 1048576
  pub answered : Answered (basis es (site t.shelf.before file)) bytes waiting (outcome replies loads)
  pub torn : (waiting ≡ []) ⊎ IsTorn waiting
  pub put : Took replies t.sink
  pub journal : core ≡ es ++ loads
  pub sound : IsSound t.shelf t.source
  pub files : t.shelf.after.files ≡ t.shelf.before.files

-- nothing was served
pub none-served : (es : List Event) (file : List ℕ) (s : ShelfSeen) (c : SourceSeen) (o : SinkSeen) → Serves NoMemory es file (touched (used s s) (used c c) (used o o)) es
none-served es file s c o = record {
  bytes = [];
  given = given-none c;
  replies = [];
  loads = [];
  so = (inl (record { rest = []; answered = answered-none es (site s file) [] }), record { shelf_same = refl; source_same = refl }, took-none o o refl);
  journal = ([], sym (append-nil (es ++ []) ∙ append-nil es));
}

pub has-none : (es : List Event) (file waiting : List ℕ) (s : ShelfSeen) (c : SourceSeen) (o : SinkSeen) → waiting ≡ [] → Has es file 0 waiting es (touched (used s s) (used c c) (used o o))
has-none es file waiting s c o e = record {
  bytes = [];
  replies = [];
  loads = [];
  gave = given-none c;
  count = refl;
  few = omega arith;
  answered = subst (λ w. Answered (basis es (site s file)) [] w (outcome [] [])) (sym e) (answered-none es (site s file) []);
  torn = inl e;
  put = took-none o o refl;
  journal = sym (append-nil es);
  sound = record { shelf_same = refl; source_same = refl };
  files = refl;
}

take-over : (n : ℕ) (xs ys : List ℕ) → length xs ≤ n → take n (xs ++ ys) ≡ xs ++ take (n - length xs) ys
take-over n [] ys h = (let e : n ≡ n - 0 = omega arith in ap (λ m. take m ys) e)
take-over zero (x ∷ xs) ys h = absurd (omega arith)
take-over (suc n) (x ∷ xs) ys h =
    let e : n - length xs ≡ suc n - suc (length xs) = omega arith in
    ap (λ t. x ∷ t) (take-over n xs ys (omega arith)) ∙ ap (λ m. x ∷ (xs ++ take m ys)) e

-- what is kept of a piece are its bytes within the first 1 MiB
pub kept-is : (bytes room : List ℕ) (given count kept : ℕ) → length bytes ≡ given → given ≤ 1048576 → count ≤ length room → kept ≡ min count (1048576 - given) →
    take 1048576 (bytes ++ take count room) ≡ bytes ++ take kept room
kept-is bytes room given count kept is few within k =
    let long : length (take count room) ≡ count = length-take-le count room within in
    let least : min (1048576 - length bytes) (length (take count room)) ≡ kept = omega (arith, long, is, k) in
    take-over 1048576 bytes (take count room) (omega (arith, is, few))
    ∙ ap (λ t. bytes ++ t) (sym (take_min (1048576 - length bytes) (take count room)) ∙ ap (λ n. take n (take count room)) least ∙ take-take kept count room (omega (arith, k)))

emptied : (p : List ℕ) (x y z : Option (List ℕ)) → Gives p x y → IsAtEnd y → Gives [] y z → IfSome x (λ had. z ≡ Some [])
emptied p None y z f e g = tt
emptied p (Some had) y z (rest, is, whole) e g =
    let none : rest ≡ [] = subst IsAtEnd is e in
    let h : Gives [] (Some rest) z = subst (λ t. Gives [] t z) is g in
    h.1 ∙ ap Some (sym h.2 ∙ none)

-- a read at a time: the objects of a connection at first, behind the last read, and behind the next one
module _ (es : List Event) (file : List ℕ) (given : ℕ) (waiting : List ℕ) (core : List Event) (s0 s1 : ShelfSeen) (c0 c1 c2 : SourceSeen) (o0 o1 : SinkSeen)
    (h : Has es file given waiting core (touched (used s0 s1) (used c0 c1) (used o0 o1))) where
  pub failed : FailedToGive (used c1 c2) → Serves ReadFault es file (touched (used s0 s1) (used c0 c2) (used o0 o1)) core
  failed f = record {
    bytes = h.bytes;
    given = record {
      left = subst (λ t. Gives h.bytes c0.left t) (sym (ap (λ (c : SourceSeen). c.left) f.rest)) h.gave.left;
      given = ap (λ (c : SourceSeen). c.given) f.rest ∙ h.gave.given;
    };
    replies = h.replies;
    loads = h.loads;
    so = (
      inl (
        record { rest = waiting; answered = h.answered; torn = h.torn },
        omega (arith, h.count, h.few),
        subst (λ n. Rose n c2.faults) h.sound.source_same f.counted,
      ),
      h.put,
    );
    journal = h.journal;
  }

  pub at-end : (room : List ℕ) (count : ℕ) → count ≡ 0 → Gave (take count room) (used c1 c2) → IsAtEnd c1.left →
      Serves Done es file (touched (used s0 s1) (used c0 c2) (used o0 o1)) core
  at-end room count z gave e =
      let none : Gave [] (used c1 c2) = subst (λ n. Gave (take n room) (used c1 c2)) z gave in
      record {
        bytes = h.bytes;
        given = subst (λ t. HasGiven t (used c0 c2)) (append-nil h.bytes) (given-then h.bytes [] c0 c1 c2 h.gave none.left none.given);
        replies = h.replies;
        loads = h.loads;
        so = (
          inr (record { rest = waiting; answered = h.answered; torn = h.torn }, omega (arith, h.count, h.few), emptied h.bytes c0.left c1.left c2.left h.gave.left e none.left),
          record { shelf_same = h.sound.shelf_same; source_same = none.sound ∙ h.sound.source_same },
          h.put,
        );
        journal = h.journal;
      }

  -- a piece of which some bytes are kept
  module _ (room : List ℕ) (count kept : ℕ) (within : count ≤ length room) (k : kept ≡ min count (1048576 - given)) (gave : Gave (take count room) (used c1 c2)) where
    abbrev all : List ℕ
    all = h.bytes ++ take count room

    given-all : HasGiven all (used c0 c2)
    given-all = given-then h.bytes (take count room) c0 c1 c2 h.gave gave.left gave.given

    is : take 1048576 all ≡ h.bytes ++ take kept room
    is = kept-is h.bytes room given count kept h.count h.few within k

    piece : Answered (basis es (site s0 file)) (h.bytes ++ take kept room) (waiting ++ take kept room) (outcome h.replies h.loads)
    piece = answered-append es (site s0 file) h.bytes h.replies waiting (take kept room) h.loads h.answered

    sound-by : (s2 : ShelfSeen) → s2.faults ≡ s1.faults → IsSound (used s0 s2) (used c0 c2)
    sound-by s2 e = record { shelf_same = e ∙ h.sound.shelf_same; source_same = gave.sound ∙ h.sound.source_same }

    site-is : site s1 file ≡ site s0 file
    site-is = ap (λ f. record { files = f; file = file }) h.files

    pub no-room : Serves NoMemory es file (touched (used s0 s1) (used c0 c2) (used o0 o1)) core
    no-room = record {
      bytes = all;
      given = given-all;
      replies = h.replies;
      loads = h.loads;
      so = (
        inl (record { rest = waiting ++ take kept room; answered = subst (λ t. Answered (basis es (site s0 file)) t (waiting ++ take kept room) (outcome h.replies h.loads)) (sym is) piece }),
        sound-by s1 refl,
        h.put,
      );
      journal = ([], h.journal ∙ sym (append-nil (es ++ h.loads)));
    }

    module _ (after : List Event) (s2 : ShelfSeen) (o2 : SinkSeen) where
      journal-is : (ls : List Event) → after ≡ core ++ ls → after ≡ es ++ (h.loads ++ ls)
      journal-is ls e = e ∙ (ap (λ (js : List Event). js ++ ls) h.journal ∙ append_assoc es h.loads ls)

      first : (replies : List ℕ) (ls : List Event) → AreFirst (basis core (site s1 file)) (waiting ++ take kept room) (outcome replies ls) →
          AreFirst (basis es (site s0 file)) (take 1048576 all) (outcome (h.replies ++ replies) (h.loads ++ ls))
      first replies ls f =
          subst (λ t. AreFirst (basis es (site s0 file)) t (outcome (h.replies ++ replies) (h.loads ++ ls))) (sym is)
          (first-then es (site s0 file) (h.bytes ++ take kept room) h.replies (waiting ++ take kept room) replies h.loads ls piece
          (subst (λ (js : List Event). AreFirst (basis js (site s0 file)) (waiting ++ take kept room) (outcome replies ls)) h.journal
          (subst (λ x. AreFirst (basis core x) (waiting ++ take kept room) (outcome replies ls)) site-is f)))

      begun : (replies : List ℕ) (ls : List Event) → IsBegun (basis core (site s1 file)) (waiting ++ take kept room) (outcome replies ls) →
          IsBegun (basis es (site s0 file)) (take 1048576 all) (outcome (h.replies ++ replies) (h.loads ++ ls))
      begun replies ls f =
          subst (λ t. IsBegun (basis es (site s0 file)) t (outcome (h.replies ++ replies) (h.loads ++ ls))) (sym is)
          (begun-then es (site s0 file) (h.bytes ++ take kept room) h.replies (waiting ++ take kept room) replies h.loads ls piece
          (subst (λ (js : List Event). IsBegun (basis js (site s0 file)) (waiting ++ take kept room) (outcome replies ls)) h.journal
          (subst (λ x. IsBegun (basis core x) (waiting ++ take kept room) (outcome replies ls)) site-is f)))

      pub stopped : (stop : Stop) → StopsIn stop (basis core (site s1 file)) (waiting ++ take kept room) after (used o1 o2) → ShelfBy stop (used s1 s2) →
          Serves (end_of stop) es file (touched (used s0 s2) (used c0 c2) (used o0 o2)) after
      stopped stops.ReadFault w b = record {
        bytes = all;
        given = given-all;
        replies = h.replies ++ w.replies;
        loads = h.loads ++ w.loads;
        so = (inr (begun w.replies w.loads w.begun, subst (λ n. Rose n s2.faults) h.sound.shelf_same b.faults), took-then h.replies w.replies o0 o1 o2 h.put w.put);
        journal = w.journal ∙ (ap (λ (js : List Event). js ++ w.loads) h.journal ∙ append_assoc es h.loads w.loads);
      }
      stopped stops.WriteFault w b = record {
        bytes = all;
        given = given-all;
        replies = h.replies ++ w.replies;
        loads = h.loads ++ w.loads;
        so = (first w.replies w.loads w.first, sound-by s2 b.faults, cut-then h.replies w.replies o0 o1 o2 h.put w.cut);
        journal = journal-is w.loads w.journal;
      }
      stopped stops.NoMemory w b = record {
        bytes = all;
        given = given-all;
        replies = h.replies ++ w.replies;
        loads = h.loads ++ w.loads;
        so = (inl (begun w.replies w.loads w.begun), sound-by s2 b.faults, took-then h.replies w.replies o0 o1 o2 h.put w.put);
        journal = (w.journal.0, w.journal.1 ∙ ap (λ (js : List Event). js ++ w.journal.0) (ap (λ (js : List Event). js ++ w.loads) h.journal ∙ append_assoc es h.loads w.loads));
      }

      pub ended : Ended (basis core (site s1 file)) (waiting ++ take kept room) after (used o1 o2) → ShelfStays (used s1 s2) →
          Serves Done es file (touched (used s0 s2) (used c0 c2) (used o0 o2)) after
      ended w b = record {
        bytes = all;
        given = given-all;
        replies = h.replies ++ w.replies;
        loads = h.loads ++ w.loads;
        so = (
          inl (subst (λ t. IsClosed (basis es (site s0 file)) t (outcome (h.replies ++ w.replies) (h.loads ++ w.loads))) (sym is)
              (closed-then es (site s0 file) (h.bytes ++ take kept room) h.replies (waiting ++ take kept room) w.replies h.loads w.loads piece
              (subst (λ (js : List Event). IsClosed (basis js (site s0 file)) (waiting ++ take kept room) (outcome w.replies w.loads)) h.journal
              (subst (λ x. IsClosed (basis core x) (waiting ++ take kept room) (outcome w.replies w.loads)) site-is w.closed)))),
          sound-by s2 b.faults,
          took-then h.replies w.replies o0 o1 o2 h.put w.put,
        );
        journal = journal-is w.loads w.journal;
      }

      more : (len : ℕ) (w : Reached (basis core (site s1 file)) (waiting ++ take kept room) len after (used o1 o2)) →
          Answered (basis es (site s0 file)) (h.bytes ++ take kept room) (drop len (waiting ++ take kept room)) (outcome (h.replies ++ w.replies) (h.loads ++ w.loads))
      more len w =
          answered-then es (site s0 file) (h.bytes ++ take kept room) h.replies (waiting ++ take kept room) w.replies (drop len (waiting ++ take kept room)) h.loads w.loads piece
          (subst (λ (js : List Event). Answered (basis js (site s0 file)) (waiting ++ take kept room) (drop len (waiting ++ take kept room)) (outcome w.replies w.loads)) h.journal
          (subst (λ x. Answered (basis core x) (waiting ++ take kept room) (drop len (waiting ++ take kept room)) (outcome w.replies w.loads)) site-is w.answered))

      pub long : (len : ℕ) → Reached (basis core (site s1 file)) (waiting ++ take kept room) len after (used o1 o2) → ShelfStays (used s1 s2) → kept < count →
          Serves TooLong es file (touched (used s0 s2) (used c0 c2) (used o0 o2)) after
      long len w b lt = record {
        bytes = all;
        given = given-all;
        replies = h.replies ++ w.replies;
        loads = h.loads ++ w.loads;
        so = (
          record {
            rest = drop len (waiting ++ take kept room);
            answered = subst (λ t. Answered (basis es (site s0 file)) t (drop len (waiting ++ take kept room)) (outcome (h.replies ++ w.replies) (h.loads ++ w.loads))) (sym is) (more len w);
            torn = inr w.torn;
          },
          omega (arith, lt, k, h.few, h.count, length-append h.bytes (take count room), length-take-le count room within),
          sound-by s2 b.faults,
          took-then h.replies w.replies o0 o1 o2 h.put w.put,
        );
        journal = journal-is w.loads w.journal;
      }

      pub goes-on : (len : ℕ) → Reached (basis core (site s1 file)) (waiting ++ take kept room) len after (used o1 o2) → ShelfStays (used s1 s2) → count ≤ kept →
          Has es file (given + kept) (drop len (waiting ++ take kept room)) after (touched (used s0 s2) (used c0 c2) (used o0 o2))
      goes-on len w b ge =
          let same : kept ≡ count = omega (arith, k, ge) in
          let whole-piece : take kept room ≡ take count room = ap (λ n. take n room) same in
          record {
            bytes = h.bytes ++ take kept room;
            replies = h.replies ++ w.replies;
            loads = h.loads ++ w.loads;
            gave = subst (λ t. HasGiven (h.bytes ++ t) (used c0 c2)) (sym whole-piece) given-all;
            count = omega (arith, h.count, same, length-append h.bytes (take kept room), length-take-le kept room (omega (arith, same, within)));
            few = omega (arith, k, h.few);
            answered = more len w;
            torn = inr w.torn;
            put = took-then h.replies w.replies o0 o1 o2 h.put w.put;
            journal = journal-is w.loads w.journal;
            sound = sound-by s2 b.faults;
            files = b.files ∙ h.files;
          }
