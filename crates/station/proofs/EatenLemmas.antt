-- What was read of control so far, and what was done with it.
use Rattle.std.proofs.Common.{◌≡◌, ◌≢◌, ◌<◌, ℕ, zero, suc, ◌+◌, ◌-◌, ◌≤◌, List, [], ◌∷◌, ◌++◌, length, length-append, take, drop, Bool, true, false, refl, sym, ap, ap₂, ◌∙◌, subst, arith, append_assoc, append-nil}
use Rattle.std.specs.Prelude.{Option, Some, None, Result, Ok, Err, OnOk, IfSome, is_err, min, nat_lt, if◌then◌else◌}
use Rattle.std.proofs.lemmas.Bool.Decides.{nat_tests}
use Rattle.std.proofs.Math.Seq.{take-append_seam}
use Rattle.std.proofs.lemmas.List.{take-append-drop}
use Rattle.journal_text.specs.declared.events.Event.{Event}
use Rattle.outside.specs.Objects.{ShelfSeen, SinkSeen, Use, used, Rose}
use Rattle.outside.specs.Sources.{SourceSeen, Gives, IsAtEnd}
use Rattle.outside.specs.declared.objects.StoredFile.{StoredFile}
use Rattle.run_lock.specs.Callers.{jobs_known}
use Rattle.run_lock.specs.declared.marks.Entry.{Entry}
use Rattle.station.specs.Control.{Did, lines_did, control_lines, given_lines, last_did, piece_did, most_control_bytes, HasDone, HasBegun, HasRead, IsFrontOf, DoesSo, LastDoes, Came, ControlDid, caller_use}
use Rattle.station.specs.Ends.{LastEnds, LineStops, end_after}
use Rattle.station.specs.InputLines.{all_lines, ended_lines, open_line, unless_empty}
use Rattle.station.specs.declared.ends.RunEnd.{RunEnd}
use Rattle.station.specs.declared.ends.RunEnd.TheVariants.{Done, ReadFault, WriteFault, TooLong, NoMemory}
use Rattle.station.specs.declared.ends.Stop.{Stop}
use Rattle.station.specs.declared.ends.Stop.TheVariants as stop
use Rattle.station.specs.declared.reader.Reader.{Reader}
use Rattle.station.proofs.ControlLemmas.{IsAt, at_more, eaten_more, eaten_all, eaten_none, ended_join, lines_front}
use Rattle.station.proofs.EndLemmas.{rose_after}
use Rattle.station.proofs.FrontLemmas.{front_self, begun_longer}
use Rattle.station.proofs.OrderLemmas.{if_all, if_map, if_both}

pub record HasEaten (files : Option (List StoredFile)) (start : List Event) (given : ℕ) (r : Reader) (left now : Option (List ℕ)) (v w : List Entry) (err : Use SinkSeen) : Type 0 where
  pub eaten : List ℕ
  pub count : length eaten ≡ given
  pub at : IsAt eaten r
  pub gives : Gives eaten left now
  pub done : IfSome files (λ (fs : List StoredFile). HasDone (lines_did fs (jobs_known start v) 1 (ended_lines eaten)) (used v w) err)

some_is : {A : Type 0} (a b : A) → Some a ≡ Some b → a ≡ b
some_is a b h = cc

gives_none : (left : Option (List ℕ)) → Gives [] left left
gives_none None = tt
gives_none (Some had) = (had, refl, refl)

gives_both : (x y : List ℕ) (a b c : Option (List ℕ)) → Gives x a b → Gives y b c → Gives (x ++ y) a c
gives_both x y None b c one next = tt
gives_both x y (Some had) b c one next = of b one.1 next
  where
    of : (o : Option (List ℕ)) → o ≡ Some one.0 → Gives y o c → (rest : List ℕ) × (c ≡ Some rest) × (had ≡ (x ++ y) ++ rest)
    of None is h = absurd (cc)
    of (Some mid) is h = (h.0, h.1, one.2 ∙ (ap (λ zs. x ++ zs) (sym (some_is mid one.0 is) ∙ h.2) ∙ sym (append_assoc x y h.0)))

-- before the first read
pub eaten_first : (files : Option (List StoredFile)) (start : List Event) (left : Option (List ℕ)) (v : List Entry) (e : SinkSeen) (r : Reader) → r.line.items ≡ [] → r.before ≡ 0 → HasEaten files start 0 r left left v v (used e e)
eaten_first files start left v e r line none = record {
  eaten = [];
  count = refl;
  at = record { line = line; before_is = none };
  gives = gives_none left;
  done = if_all files (λ fs. eaten_none fs start v v e e refl refl);
}

-- a further piece
pub eaten_next : (files : Option (List StoredFile)) (start : List Event) (n m : ℕ) (r s : Reader) (left mid now : Option (List ℕ)) (v w u : List Entry) (a b c : SinkSeen) (bytes : List ℕ) → HasEaten files start n r left mid v w (used a b) → Gives bytes mid now
    → HasRead bytes r s → m ≡ n + length bytes → IfSome files (λ (fs : List StoredFile). HasDone (piece_did fs (jobs_known start w) r bytes) (used w u) (used b c)) → HasEaten files start m s left now v u (used a c)
eaten_next files start n m r s left mid now v w u a b c bytes was gives read count done = record {
  eaten = was.eaten ++ bytes;
  count = length-append was.eaten bytes ∙ omega (arith, was.count, count);
  at = at_more was.eaten bytes r s was.at read;
  gives = gives_both was.eaten bytes left mid now was.gives gives;
  done = if_both files (λ fs one next. eaten_more {A = Unit {0}} (Ok tt) fs start was.eaten bytes r v w u a b c was.at one next) was.done done;
}

-- what control had begins with what was read
gives_front : (eaten : List ℕ) (left mid : Option (List ℕ)) → Gives eaten left mid → IfSome left (λ had. (rest : List ℕ) × (had ≡ eaten ++ rest))
gives_front eaten None mid gives = tt
gives_front eaten (Some had) mid gives = (gives.0, gives.2)

take_past : (n : ℕ) (xs ys : List ℕ) → length xs ≤ n → (more : List ℕ) × (take n (xs ++ ys) ≡ xs ++ more)
take_past n [] ys le = (take n ys, refl)
take_past zero (x ∷ xs) ys le = absurd (omega (arith, le))
take_past (suc n) (x ∷ xs) ys le = let r = take_past n xs ys (omega (arith, le)) in (r.0, ap (λ (zs : List ℕ). x ∷ zs) r.1)

-- the lines that ended within its first bytes begin its lines
abbrev BeginsLines : List ℕ → List (List ℕ) → Type 0
BeginsLines xs ls = (more : List (List ℕ)) × (ls ≡ ended_lines xs ++ more)

ended_front : (xs ys : List ℕ) → BeginsLines xs (ended_lines (xs ++ ys))
ended_front xs ys = (ended_lines (open_line xs ++ ys), ended_join xs ys)

all_front : (xs ys : List ℕ) → BeginsLines xs (all_lines (xs ++ ys))
all_front xs ys =
    let last = unless_empty (open_line (xs ++ ys)) in
    (ended_lines (open_line xs ++ ys) ++ last, ap (λ ls. ls ++ last) (ended_join xs ys) ∙ append_assoc (ended_lines xs) (ended_lines (open_line xs ++ ys)) last)

lines_begin : (xs ys : List ℕ) → length xs ≤ most_control_bytes → BeginsLines xs (control_lines (xs ++ ys))
lines_begin xs ys le = of (nat_lt most_control_bytes (length (xs ++ ys)))
  where
    of : (b : Bool) → BeginsLines xs (if b then ended_lines (take most_control_bytes (xs ++ ys)) else all_lines (xs ++ ys))
    of true = let r = take_past most_control_bytes xs ys le in subst (λ (zs : List ℕ). BeginsLines xs (ended_lines zs)) (sym r.1) (ended_front xs r.0)
    of false = all_front xs ys

abbrev doing : List StoredFile → List Event → List Entry → List (List ℕ) → Did
doing files start v lines = lines_did files (jobs_known start v) 1 lines

front_of_all : (files : List StoredFile) (start : List Event) (v : List Entry) (xs ys bytes : List ℕ) → length xs ≤ most_control_bytes → bytes ≡ xs ++ ys → IsFrontOf (doing files start v (ended_lines xs)) (doing files start v (control_lines bytes))
front_of_all files start v xs ys bytes le is =
    let r = lines_begin xs ys le in
    subst (λ ls. IsFrontOf (doing files start v (ended_lines xs)) (doing files start v ls)) (sym (ap control_lines is ∙ r.1)) (lines_front files (jobs_known start v) 1 (ended_lines xs) r.0)

-- control failed to give: what was done is what the lines come to that it gave
pub eaten_failed : (start : List Event) (n : ℕ) (r : Reader) (mid : Option (List ℕ)) (v w : List Entry) (err : Use SinkSeen) (s : Use ShelfSeen) (c : Use SourceSeen) → HasEaten s.before.files start n r c.before.left mid v w err
    → c.after.given ≡ c.before.given + n → n ≤ most_control_bytes → ControlDid start ReadFault (caller_use s c err) (used v w)
eaten_failed start n r mid v w err s c was gave le more =
    if_map s.before.files (λ files one. if_map c.before.left (λ bytes is. came files bytes is one) (gives_front was.eaten c.before.left mid was.gives)) was.done
  where
    came : (files : List StoredFile) (bytes : List ℕ) → (rest : List ℕ) × (bytes ≡ was.eaten ++ rest) → HasDone (doing files start v (ended_lines was.eaten)) (used v w) err
        → Came ReadFault (caller_use s c err) (doing files start v (control_lines bytes)) (doing files start v (given_lines c bytes)) (used v w)
    came files bytes is one =
        let many : c.after.given - c.before.given ≡ length was.eaten = omega (arith, gave, was.count) in
        let given : given_lines c bytes ≡ ended_lines was.eaten = ap ended_lines (ap₂ (λ k zs. take k zs) many is.1 ∙ take-append_seam was.eaten is.0) in
        record {
          what = doing files start v (ended_lines was.eaten);
          fits = (front_of_all files start v was.eaten is.0 bytes (omega (arith, was.count, le)) is.1, λ calm. ap (doing files start v) (sym given));
          done = one;
        }

-- at the end of the input
all_eaten : (eaten : List ℕ) (left mid : Option (List ℕ)) → Gives eaten left mid → IsAtEnd mid → IfSome left (λ had. had ≡ eaten)
all_eaten eaten None mid gives ended = tt
all_eaten eaten (Some had) mid gives ended = of mid gives.1 ended
  where
    of : (o : Option (List ℕ)) → o ≡ Some gives.0 → IsAtEnd o → had ≡ eaten
    of None is h = absurd (cc)
    of (Some rest) is h = gives.2 ∙ (ap (λ zs. eaten ++ zs) (sym (some_is rest gives.0 is) ∙ h) ∙ append-nil eaten)

lines_of_few : (bytes : List ℕ) → length bytes ≤ most_control_bytes → control_lines bytes ≡ all_lines bytes
lines_of_few bytes le =
    let no : nat_lt most_control_bytes (length bytes) ≡ false = grind (arith, nat_tests) in
    ap (λ (b : Bool). if b then ended_lines (take most_control_bytes bytes) else all_lines bytes) no

last_came : (end : RunEnd) (s : Use ShelfSeen) (c : Use SourceSeen) (whole given : Did) (v u : List Entry) (err : Use SinkSeen) → end ≢ NoMemory → (end ≡ ReadFault → Rose s.before.faults s.after.faults) → end ≢ TooLong → LastDoes end whole (used v u) err → Came end (caller_use s c err) whole given (used v u)
last_came Done s c whole given v u err more rose short h = record { what = whole; fits = refl; done = h }
last_came ReadFault s c whole given v u err more rose short h = record { what = h.part; fits = (h.front, λ calm. absurd (calm (rose refl))); done = h.done }
last_came WriteFault s c whole given v u err more rose short h = record { what = h.part; fits = h.front; done = h.done }
last_came TooLong s c whole given v u err more rose short h = absurd (short refl)
last_came NoMemory s c whole given v u err more rose short h = absurd (more refl)

last_rose : (end : RunEnd) (t : Use ShelfSeen) (e : Use SinkSeen) → LastEnds end t e → end ≡ ReadFault → Rose t.before.faults t.after.faults
last_rose Done t e ends is = absurd (cc)
last_rose ReadFault t e ends is = ends.0
last_rose WriteFault t e ends is = absurd (cc)
last_rose TooLong t e ends is = absurd ends
last_rose NoMemory t e ends is = absurd (cc)

last_short : (end : RunEnd) (t : Use ShelfSeen) (e : Use SinkSeen) → LastEnds end t e → end ≢ TooLong
last_short Done t e ends = λ is. absurd (cc)
last_short ReadFault t e ends = λ is. absurd (cc)
last_short WriteFault t e ends = λ is. absurd (cc)
last_short TooLong t e ends = λ is. ends
last_short NoMemory t e ends = λ is. absurd (cc)

pub eaten_done : (end : RunEnd) (start : List Event) (n : ℕ) (r : Reader) (mid : Option (List ℕ)) (v w u : List Entry) (a b d : SinkSeen) (s t : Use ShelfSeen) (e : Use SinkSeen) (c : Use SourceSeen) → HasEaten s.before.files start n r c.before.left mid v w (used a b)
    → n ≤ most_control_bytes → IsAtEnd mid → t.before.faults ≡ s.before.faults → t.after ≡ s.after → LastEnds end t e → IfSome s.before.files (λ (fs : List StoredFile). LastDoes end (last_did fs (jobs_known start w) r) (used w u) (used b d))
    → ControlDid start end (caller_use s c (used a d)) (used v u)
eaten_done end start n r mid v w u a b d s t e c was le ended same still ends last more =
    if_both s.before.files
    (λ files one next. if_map c.before.left (λ bytes is. of files bytes is (eaten_all end files start was.eaten r v w u a b d was.at one next)) (all_eaten was.eaten c.before.left mid was.gives ended))
    was.done last
  where
    of : (files : List StoredFile) (bytes : List ℕ) → bytes ≡ was.eaten → LastDoes end (doing files start v (all_lines was.eaten)) (used v u) (used a d) → Came end (caller_use s c (used a d)) (doing files start v (control_lines bytes)) (doing files start v (given_lines c bytes)) (used v u)
    of files bytes is h =
        let all : control_lines bytes ≡ all_lines was.eaten = ap control_lines is ∙ lines_of_few was.eaten (omega (arith, was.count, le)) in
        last_came end s c (doing files start v (control_lines bytes)) (doing files start v (given_lines c bytes)) v u (used a d) more
        (λ fault. rose_after s.before.faults t.before.faults s.after.faults same (subst (λ (x : ShelfSeen). Rose t.before.faults x.faults) still (last_rose end t e ends fault)))
        (last_short end t e ends)
        (subst (λ ls. LastDoes end (doing files start v ls) (used v u) (used a d)) (sym all) h)

-- a piece of the last read was kept, and a line of it was stopped, or the input gave more than may be
lines_of_many : (xs ys bytes : List ℕ) → length xs ≡ most_control_bytes → 0 < length ys → bytes ≡ xs ++ ys → control_lines bytes ≡ ended_lines xs
lines_of_many xs ys bytes many some is =
    let long : most_control_bytes < length bytes = omega (arith, many, some, ap (λ (zs : List ℕ). length zs) is, length-append xs ys) in
    let yes : nat_lt most_control_bytes (length bytes) ≡ true = grind (arith, nat_tests) in
    ap (λ (b : Bool). if b then ended_lines (take most_control_bytes bytes) else all_lines bytes) yes ∙ ap ended_lines (ap₂ (λ k zs. take k zs) (sym many) is ∙ take-append_seam xs ys)

module _ (start : List Event) (n : ℕ) (r : Reader) (mid now : Option (List ℕ)) (v w u : List Entry) (a b d : SinkSeen) (s t : Use ShelfSeen) (e : Use SinkSeen) (c : Use SourceSeen) (bytes more : List ℕ) where
  pub eaten_piece : (done : Result (Unit {0}) Stop) (long : Bool) (end : RunEnd) → HasEaten s.before.files start n r c.before.left mid v w (used a b) → Gives (bytes ++ more) mid now → n + length bytes ≤ most_control_bytes
      → (long ≡ true → (n + length bytes ≡ most_control_bytes) × (0 < length more)) → t.before.faults ≡ s.before.faults → t.after ≡ s.after → LineStops done t e → end_after done long ≡ Some end
      → IfSome s.before.files (λ (fs : List StoredFile). DoesSo done (piece_did fs (jobs_known start w) r bytes) (used w u) (used b d)) → ControlDid start end (caller_use s c (used a d)) (used v u)
  eaten_piece done long end was gives le full same still stops is did more' =
      if_both s.before.files
      (λ files one next. if_map c.before.left (λ had split. at files had split done long full is stops (eaten_more done files start was.eaten bytes r v w u a b d was.at one next))
      (gives_front (was.eaten ++ (bytes ++ more)) c.before.left now (gives_both was.eaten (bytes ++ more) c.before.left mid now was.gives gives)))
      was.done did
    where
      xs : List ℕ
      xs = was.eaten ++ bytes

      few : length xs ≤ most_control_bytes
      few = omega (arith, length-append was.eaten bytes, was.count, le)

      rose : Rose t.before.faults t.after.faults → Rose s.before.faults s.after.faults
      rose h = rose_after s.before.faults t.before.faults s.after.faults same (subst (λ (x : ShelfSeen). Rose t.before.faults x.faults) still h)

      ends : (x : RunEnd) (files : List StoredFile) (had : List ℕ) → x ≡ end → Came x (caller_use s c (used a d)) (doing files start v (control_lines had)) (doing files start v (given_lines c had)) (used v u)
          → Came end (caller_use s c (used a d)) (doing files start v (control_lines had)) (doing files start v (given_lines c had)) (used v u)
      ends x files had is h = subst (λ (y : RunEnd). Came y (caller_use s c (used a d)) (doing files start v (control_lines had)) (doing files start v (given_lines c had)) (used v u)) is h

      part : (files : List StoredFile) (had rest : List ℕ) → had ≡ xs ++ rest → HasBegun (doing files start v (ended_lines xs)) (used v u) (used a d) → HasBegun (doing files start v (control_lines had)) (used v u) (used a d)
      part files had rest whole h = begun_longer (doing files start v (ended_lines xs)) (doing files start v (control_lines had)) v u (used a d) (front_of_all files start v xs rest had few whole) h

      split_at : (had : List ℕ) → (rest : List ℕ) × (had ≡ (was.eaten ++ (bytes ++ more)) ++ rest) → (rest : List ℕ) × (had ≡ xs ++ (more ++ rest))
      split_at had h = (h.0, h.1 ∙ (ap (λ zs. zs ++ h.0) (sym (append_assoc was.eaten bytes more)) ∙ append_assoc xs more h.0))

      at : (files : List StoredFile) (had : List ℕ) → (rest : List ℕ) × (had ≡ (was.eaten ++ (bytes ++ more)) ++ rest) → (done : Result (Unit {0}) Stop) (long : Bool) → (long ≡ true → (n + length bytes ≡ most_control_bytes) × (0 < length more))
          → end_after done long ≡ Some end → LineStops done t e → DoesSo done (doing files start v (ended_lines xs)) (used v u) (used a d)
          → Came end (caller_use s c (used a d)) (doing files start v (control_lines had)) (doing files start v (given_lines c had)) (used v u)
      at files had split (Ok x) true full is stops h =
          let all = doing files start v (control_lines had) in
          let p = split_at had split in
          let f = full refl in
          let lines = lines_of_many xs (more ++ p.0) had (omega (arith, length-append was.eaten bytes, was.count, f.0)) (omega (arith, f.1, length-append more p.0)) p.1 in
          ends TooLong files had (some_is TooLong end is)
          (record { what = all; fits = (front_self all, λ calm. refl); done = subst (λ ls. HasDone (doing files start v ls) (used v u) (used a d)) (sym lines) h })
      at files had split (Ok x) false full is stops h = absurd (cc)
      at files had split (Err stop.ReadFault) true full is stops h =
          let p = part files had (more ++ (split_at had split).0) (split_at had split).1 h in
          ends TooLong files had (some_is TooLong end is) (record { what = p.part; fits = (p.front, λ calm. absurd (calm (rose stops.0))); done = p.done })
      at files had split (Err stop.ReadFault) false full is stops h =
          let p = part files had (more ++ (split_at had split).0) (split_at had split).1 h in
          ends ReadFault files had (some_is ReadFault end is) (record { what = p.part; fits = (p.front, λ calm. absurd (calm (rose stops.0))); done = p.done })
      at files had split (Err stop.WriteFault) long full is stops h =
          let p = part files had (more ++ (split_at had split).0) (split_at had split).1 h in
          ends WriteFault files had (some_is WriteFault end is) (record { what = p.part; fits = p.front; done = p.done })
      at files had split (Err stop.NoMemory) long full is stops h = absurd (more' (sym (some_is NoMemory end is)))

pub done_ok : {P : Type 0} (done : Result (Unit {0}) Stop) → done ≡ Ok tt → OnOk done P → P
done_ok (Ok x) is h = h
done_ok (Err e) is h = absurd (cc)

-- where the loop goes on the piece was done
pub goes_ok : (done : Result (Unit {0}) Stop) (long : Bool) → end_after done long ≡ None → done ≡ Ok tt
goes_ok (Ok x) long is = refl
goes_ok (Err stop.ReadFault) long is = absurd (cc)
goes_ok (Err stop.WriteFault) long is = absurd (cc)
goes_ok (Err stop.NoMemory) long is = absurd (cc)

-- the room after a read, and the piece of it that is kept
pub room_is : (len : ℕ) (room rest all : List ℕ) → all ≡ take len (room ++ rest) → length room ≡ len → all ≡ room
room_is len room rest all is same = is ∙ (ap (λ n. take n (room ++ rest)) (sym same) ∙ take-append_seam room rest)

take_less : (k n : ℕ) (xs : List ℕ) → k ≤ n → take k (take n xs) ≡ take k xs
take_less zero n xs le = refl
take_less (suc k) zero xs le = absurd (omega (arith, le))
take_less (suc k) (suc n) [] le = refl
take_less (suc k) (suc n) (x ∷ xs) le = ap (λ ys. x ∷ ys) (take_less k n xs (omega (arith, le)))

pub kept_whole : (k n : ℕ) (room all : List ℕ) → all ≡ room → k ≤ n → take k all ++ drop k (take n room) ≡ take n room
kept_whole k n room all same le = sym (ap (λ xs. xs ++ drop k (take n room)) (take_less k n room le ∙ ap (take k) (sym same))) ∙ take-append-drop k (take n room)

pub kept_gives : (k n : ℕ) (room all : List ℕ) (mid now : Option (List ℕ)) → all ≡ room → k ≤ n → Gives (take n room) mid now → Gives (take k all ++ drop k (take n room)) mid now
kept_gives k n room all mid now same le gives =
    subst (λ bs. Gives bs mid now) (sym (kept_whole k n room all same le)) gives

pub all_gives : (k n : ℕ) (room all : List ℕ) (mid now : Option (List ℕ)) → all ≡ room → k ≡ n → Gives (take n room) mid now → Gives (take k all) mid now
all_gives k n room all mid now same is gives = subst (λ bs. Gives bs mid now) (ap₂ (λ m xs. take m xs) (sym is) (sym same)) gives

pub kept_less : (count given kept : ℕ) → kept ≡ min count (1048576 - given) → kept ≤ count
kept_less count given kept is = grind (arith, nat_tests)

pub cut_full : (count given kept size len : ℕ) → kept ≡ min count (1048576 - given) → given ≤ 1048576 → count ≤ size → len ≡ min kept size → nat_lt kept count ≡ true → given + len ≡ 1048576
cut_full count given kept size len is few within has long = grind (arith, nat_tests)

pub cut_more : (count kept : ℕ) (front more whole all room : List ℕ) → length front ≡ min kept (length all) → length whole ≡ min count (length room) → count ≤ length room → front ++ more ≡ whole → nat_lt kept count ≡ true → 0 < length more
cut_more count kept front more whole all room front_is whole_is within same long =
    let both : length front + length more ≡ length whole = sym (length-append front more) ∙ ap (λ (xs : List ℕ). length xs) same in
    grind (arith, nat_tests)

-- a read at the end leaves nothing
nothing_left : (xs ys : List ℕ) → xs ++ ys ≡ [] → ys ≡ []
nothing_left [] ys is = is
nothing_left (x ∷ xs) ys is = absurd (cc)

pub ends_gone : (eaten bytes : List ℕ) (left mid now : Option (List ℕ)) → Gives eaten left mid → IsAtEnd mid → Gives bytes mid now → IfSome left (λ had. now ≡ Some [])
ends_gone eaten bytes None mid now gives ended next = tt
ends_gone eaten bytes (Some had) mid now gives ended next = of mid gives.1 ended next
  where
    of : (o : Option (List ℕ)) → o ≡ Some gives.0 → IsAtEnd o → Gives bytes o now → now ≡ Some []
    of None is end more = absurd (cc)
    of (Some m) is end more = more.1 ∙ ap Some (nothing_left bytes more.0 (sym more.2 ∙ end))

pub err_none : (done : Result (Unit {0}) Stop) → done ≡ Ok tt → is_err done ≡ false
err_none done is = ap is_err is

pub cut_few : (count given kept size len before : ℕ) → kept ≡ min count (1048576 - given) → given ≤ 1048576 → len ≡ min kept size → before ≤ given → before + len ≤ 1048576
cut_few count given kept size len before is few has le = grind (arith, nat_tests)

pub cut_whole : (count given kept size len : ℕ) → kept ≡ min count (1048576 - given) → count ≤ size → len ≡ min kept size → given + kept ≡ given + len
cut_whole count given kept size len is within has = grind (arith, nat_tests)
