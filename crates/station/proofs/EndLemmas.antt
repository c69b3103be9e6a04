-- What one use of an outside object and a further one come to together.
use Rattle.std.proofs.Common.{◌≡◌, ℕ, ◌+◌, ◌-◌, ◌<◌, ◌≤◌, List, [], ◌++◌, Bool, true, false, length, take, refl, sym, ap, ◌∙◌, inl, inr, ⊎_elim, subst, arith, append_assoc, append-nil}
use Rattle.std.specs.Prelude.{Option, Some, None, Result, Ok, Err, IfSome, is_err, min, nat_lt}
use Rattle.std.proofs.lemmas.Bool.Decides.{nat_tests}
use Rattle.std.proofs.lemmas.List.{length-take}
use Rattle.outside.specs.Objects.{ShelfSeen, SinkSeen, Use, used, Adds, Rose}
use Rattle.outside.specs.Sources.{SourceSeen, Gave}
use Rattle.station.specs.declared.ends.Stop.{Stop}
use Rattle.station.specs.declared.ends.Stop.TheVariants as stop
use Rattle.station.specs.declared.ends.RunEnd.{RunEnd}
use Rattle.station.specs.declared.ends.RunEnd.TheVariants.{Done, ReadFault, WriteFault, TooLong, NoMemory}
use Rattle.station.specs.Ends.{ShelfWent, SinkWent, SourceWent, EndsSo, FileStop, FileStops, IsEmptied, IsSame, IsShort, LastEnds, LineStop, LineStops, SaidStops, end_after, end_of, run_end}

pub shelf_same : (a : ShelfSeen) → ShelfWent (used a a)
shelf_same a = record { files = refl; misses = omega arith; overs = omega arith; faults = omega arith }

pub shelf_then : (a b c : ShelfSeen) → ShelfWent (used a b) → ShelfWent (used b c) → ShelfWent (used a c)
shelf_then a b c one next = record {
  files = next.files ∙ one.files;
  misses = omega (arith, one.misses, next.misses);
  overs = omega (arith, one.overs, next.overs);
  faults = omega (arith, one.faults, next.faults);
}

some_is : {A : Type 0} (a b : A) → Some a ≡ Some b → a ≡ b
some_is a b h = cc

adds_none : (a : SinkSeen) → Adds [] (used a a)
adds_none a = of a.bytes
  where
    of : (o : Option (List ℕ)) → IfSome o (λ had. o ≡ Some (had ++ []))
    of None = tt
    of (Some had) = ap Some (sym (append-nil had))

pub adds_then : (x y : List ℕ) (a b c : SinkSeen) → Adds x (used a b) → Adds y (used b c) → Adds (x ++ y) (used a c)
adds_then x y a b c one next = of a.bytes one
  where
    last : (had : List ℕ) (o : Option (List ℕ)) → o ≡ Some (had ++ x) → IfSome o (λ now. c.bytes ≡ Some (now ++ y)) → c.bytes ≡ Some (had ++ (x ++ y))
    last had None is h = absurd (cc)
    last had (Some now) is h = h ∙ ap Some (ap (λ zs. zs ++ y) (some_is now _ is) ∙ append_assoc had x y)

    of : (o : Option (List ℕ)) → IfSome o (λ had. b.bytes ≡ Some (had ++ x)) → IfSome o (λ had. c.bytes ≡ Some (had ++ (x ++ y)))
    of None h = tt
    of (Some had) h = last had b.bytes h next

pub sink_same : (a : SinkSeen) → SinkWent (used a a)
sink_same a = record { added = ([], adds_none a); faults = omega arith }

pub sink_then : (a b c : SinkSeen) → SinkWent (used a b) → SinkWent (used b c) → SinkWent (used a c)
sink_then a b c one next = record { added = (one.added.0 ++ next.added.0, adds_then one.added.0 next.added.0 a b c one.added.1 next.added.1); faults = omega (arith, one.faults, next.faults) }

pub source_same : (a : SourceSeen) → SourceWent (used a a)
source_same a = record { given = omega arith; faults = omega arith }

pub source_then : (a b c : SourceSeen) → SourceWent (used a b) → SourceWent (used b c) → SourceWent (used a c)
source_then a b c one next = record { given = omega (arith, one.given, next.given); faults = omega (arith, one.faults, next.faults) }

-- a count that rose first, or last, rose in all
pub rose_first : (a b c : ℕ) → Rose a b → b ≤ c → Rose a c
rose_first a b c h le = (omega (arith, h.0, le), omega (arith, h.1, le))

pub rose_last : (a b c : ℕ) → a ≤ b → Rose b c → Rose a c
rose_last a b c le h = (omega (arith, h.0, le), omega (arith, h.1, le))

-- how many bytes a read gave
pub gave_count : (n : ℕ) (room : List ℕ) (u : Use SourceSeen) → n ≤ length room → Gave (take n room) u → u.after.given ≡ u.before.given + n
gave_count n room u le gave = omega (arith, gave.given, length-take n room, le)

pub source_gave : (n : ℕ) (room : List ℕ) (a b c : SourceSeen) → SourceWent (used a b) → n ≤ length room → Gave (take n room) (used b c) → SourceWent (used a c)
source_gave n room a b c went le gave = record { given = omega (arith, went.given, gave_count n room (used b c) le gave); faults = omega (arith, went.faults, gave.sound) }

-- a count that rose behind one that stood
pub rose_after : (a b c : ℕ) → b ≡ a → Rose b c → Rose a c
rose_after a b c same h = subst (λ (n : ℕ). Rose n c) same h

-- the end after the last line, over the whole loop
module _ (s0 s1 s2 : ShelfSeen) (e0 e1 e2 : SinkSeen) (u : Use SourceSeen) where
  pub last_ends : (end : RunEnd) → IsShort u → IsEmptied u → IsSame u.before.faults u.after.faults → IsSame s0.faults s1.faults → IsSame e0.faults e1.faults → LastEnds end (used s1 s2) (used e1 e2) → EndsSo end (used s0 s2) (used e0 e2) u
  last_ends Done short ended control shelf err h = record { short = short; emptied = ended; shelf_same = h.0 ∙ shelf; err_same = h.1 ∙ err; control_same = control }
  last_ends ReadFault short ended control shelf err h = (short, h.1 ∙ err, inl (rose_after s0.faults s1.faults s2.faults shelf h.0, control))
  last_ends WriteFault short ended control shelf err h = (rose_after e0.faults e1.faults e2.faults err h.1, h.0 ∙ shelf, control)
  last_ends TooLong short ended control shelf err h = absurd h
  last_ends NoMemory short ended control shelf err h = tt

  -- and after a piece
  pub piece_ends : (done : Result (Unit {0}) Stop) (long : Bool) (end : RunEnd) → (long ≡ true → u.before.given + 1048576 < u.after.given) → (long ≡ false → IsShort u) → IsSame u.before.faults u.after.faults → IsSame s0.faults s1.faults → IsSame e0.faults e1.faults
      → LineStops done (used s1 s2) (used e1 e2) → end_after done long ≡ Some end → EndsSo end (used s0 s2) (used e0 e2) u
  piece_ends (Ok x) true end over short control shelf err stops is = subst (λ (e : RunEnd). EndsSo e (used s0 s2) (used e0 e2) u) (some_is TooLong end is) (over refl, stops.1 ∙ err, control)
  piece_ends (Ok x) false end over short control shelf err stops is = absurd (cc)
  piece_ends (Err stop.ReadFault) true end over short control shelf err stops is = subst (λ (e : RunEnd). EndsSo e (used s0 s2) (used e0 e2) u) (some_is TooLong end is) (over refl, stops.1 ∙ err, control)
  piece_ends (Err stop.ReadFault) false end over short control shelf err stops is =
      subst (λ (e : RunEnd). EndsSo e (used s0 s2) (used e0 e2) u) (some_is ReadFault end is) (short refl, stops.1 ∙ err, inl (rose_after s0.faults s1.faults s2.faults shelf stops.0, control))
  piece_ends (Err stop.WriteFault) long end over short control shelf err stops is =
      subst (λ (e : RunEnd). EndsSo e (used s0 s2) (used e0 e2) u) (some_is WriteFault end is) (rose_after e0.faults e1.faults e2.faults err stops.1, stops.0 ∙ shelf, control)
  piece_ends (Err stop.NoMemory) long end over short control shelf err stops is = subst (λ (e : RunEnd). EndsSo e (used s0 s2) (used e0 e2) u) (some_is NoMemory end is) tt

-- where the loop goes on the piece was not cut
pub goes_on : (done : Result (Unit {0}) Stop) (long : Bool) → end_after done long ≡ None → long ≡ false
goes_on (Ok x) true is = absurd (cc)
goes_on (Ok x) false is = refl
goes_on (Err stop.ReadFault) long is = absurd (cc)
goes_on (Err stop.WriteFault) long is = absurd (cc)
goes_on (Err stop.NoMemory) long is = absurd (cc)

-- what is kept of a piece where it fits, and what it says of the input where it doesn't
pub cut_over : (count given kept before after : ℕ) → kept ≡ min count (1048576 - given) → given ≤ 1048576 → after ≡ (before + given) + count → nat_lt kept count ≡ true → before + 1048576 < after
cut_over count given kept before after is few gave long = grind (arith, nat_tests)

pub cut_short : (count given kept before after : ℕ) → kept ≡ min count (1048576 - given) → given ≤ 1048576 → after ≡ (before + given) + count → nat_lt kept count ≡ false → after ≤ before + 1048576
cut_short count given kept before after is few gave long = grind (arith, nat_tests)

pub cut_none : (count given kept : ℕ) → kept ≡ min count (1048576 - given) → nat_lt kept count ≡ false → kept ≡ count
cut_none count given kept is long = grind (arith, nat_tests)

-- the end of the run, by that of the caller's loop
whole_ends : (whole : Bool) (end : RunEnd) (s : Use ShelfSeen) (e : Use SinkSeen) (u : Use SourceSeen) → EndsSo end s e u → EndsSo (run_end whole end) s e u
whole_ends true end s e u h = h
whole_ends false end s e u h = tt

pub ends_over : {S E : Type 0} (seen : S → ShelfSeen) (held : E → SinkSeen) (whole : Bool) (end result : RunEnd) (a : ShelfSeen) (b : SinkSeen) (s s' : S) (e e' : E) (u : Use SourceSeen) → result ≡ run_end whole end → s' ≡ s → e' ≡ e →
    EndsSo end (used a (seen s)) (used b (held e)) u → EndsSo result (used a (seen s')) (used b (held e')) u
ends_over {S} {E} seen held whole end result a b s s' e e' u is shelf err h =
    subst (λ (t : RunEnd × S × E). EndsSo t.0 (used a (seen t.1)) (used b (held t.2)) u) (λ i. (sym is i, sym shelf i, sym err i)) (whole_ends whole end (used a (seen s)) (used b (held e)) u h)

-- the end of a loop whose shelf was used before, and the end by a stop before it
pub ends_later : (end : RunEnd) (a b c : ShelfSeen) (err : Use SinkSeen) (control : Use SourceSeen) → b.faults ≡ a.faults → EndsSo end (used b c) err control → EndsSo end (used a c) err control
ends_later Done a b c err control same h = record { short = h.short; emptied = h.emptied; shelf_same = h.shelf_same ∙ same; err_same = h.err_same; control_same = h.control_same }
ends_later ReadFault a b c err control same h = (
  h.0,
  h.1,
  ⊎_elim
      (λ (r : Rose b.faults c.faults × IsSame control.before.faults control.after.faults). inl (rose_after a.faults b.faults c.faults same r.0, r.1))
      (λ (r : IsSame b.faults c.faults × Rose control.before.faults control.after.faults). inr (r.0 ∙ same, r.1)) h.2,
)
ends_later WriteFault a b c err control same h = (h.0, h.1 ∙ same, h.2)
ends_later TooLong a b c err control same h = h
ends_later NoMemory a b c err control same h = tt

pub ends_stopped : (s : Stop) (shelf : Use ShelfSeen) (err : Use SinkSeen) (control : Use SourceSeen) → IsShort control → IsSame err.before.faults err.after.faults → IsSame control.before.faults control.after.faults → FileStop s shelf
    → EndsSo (end_of s) shelf err control
ends_stopped stop.ReadFault shelf err control short quiet still h = (short, quiet, inl (h, still))
ends_stopped stop.WriteFault shelf err control short quiet still h = absurd h
ends_stopped stop.NoMemory shelf err control short quiet still h = tt

pub stops_is : {A : Type 0} (r : Result A Stop) (s : Stop) (shelf : Use ShelfSeen) → r ≡ Err s → FileStops r shelf → FileStop s shelf
stops_is (Ok x) s shelf is h = absurd (cc)
stops_is (Err t) s shelf is h = let same : t ≡ s = cc in subst (λ (u : Stop). FileStop u shelf) same h

pub file_sound : {A : Type 0} (r : Result A Stop) (shelf : Use ShelfSeen) → is_err r ≡ false → FileStops r shelf → IsSame shelf.before.faults shelf.after.faults
file_sound (Ok x) shelf is h = h
file_sound (Err e) shelf is h = absurd (cc)

pub file_stops_after : {A : Type 0} (r : Result A Stop) (a b c : ShelfSeen) → IsSame a.faults b.faults → FileStops r (used b c) → FileStops r (used a c)
file_stops_after (Ok x) a b c same h = h ∙ same
file_stops_after (Err stop.ReadFault) a b c same h = rose_after a.faults b.faults c.faults same h
file_stops_after (Err stop.WriteFault) a b c same h = absurd h
file_stops_after (Err stop.NoMemory) a b c same h = tt

pub line_sound : {A : Type 0} (r : Result A Stop) (shelf : Use ShelfSeen) (err : Use SinkSeen) → is_err r ≡ false → LineStops r shelf err → IsSame shelf.before.faults shelf.after.faults × IsSame err.before.faults err.after.faults
line_sound (Ok x) shelf err is h = h
line_sound (Err e) shelf err is h = absurd (cc)

pub line_stops_after : {A : Type 0} (r : Result A Stop) (a b c : ShelfSeen) (e f g : SinkSeen) → IsSame a.faults b.faults → IsSame e.faults f.faults → LineStops r (used b c) (used f g) → LineStops r (used a c) (used e g)
line_stops_after (Ok x) a b c e f g calm quiet h = (h.0 ∙ calm, h.1 ∙ quiet)
line_stops_after (Err stop.ReadFault) a b c e f g calm quiet h = (rose_after a.faults b.faults c.faults calm h.0, h.1 ∙ quiet)
line_stops_after (Err stop.WriteFault) a b c e f g calm quiet h = (h.0 ∙ calm, rose_after e.faults f.faults g.faults quiet h.1)
line_stops_after (Err stop.NoMemory) a b c e f g calm quiet h = tt

-- a line whose reading was stopped said nothing, and one that was read may fail to say something
pub line_read : {A : Type 0} (r : Result A Stop) (s : Stop) (shelf : Use ShelfSeen) (err : Use SinkSeen) → r ≡ Err s → FileStops r shelf → IsSame err.before.faults err.after.faults → LineStop s shelf err
line_read r s shelf err is h quiet = of s (stops_is r s shelf is h)
  where
    of : (s : Stop) → FileStop s shelf → LineStop s shelf err
    of stop.ReadFault f = (f, quiet)
    of stop.WriteFault f = absurd f
    of stop.NoMemory f = tt

pub line_told : {A : Type 0} (r : Result A Stop) (shelf : Use ShelfSeen) (err : Use SinkSeen) → IsSame shelf.before.faults shelf.after.faults → SaidStops r err → LineStops r shelf err
line_told (Ok x) shelf err still h = (still, h)
line_told (Err stop.ReadFault) shelf err still h = absurd h
line_told (Err stop.WriteFault) shelf err still h = (still, h)
line_told (Err stop.NoMemory) shelf err still h = tt
