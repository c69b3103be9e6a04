-- Journals: a text spells one journal at most, and a text with a fault spells none and has no other fault.
use Rattle.std.proofs.Common.{◌≡◌, ◌≢◌, ℕ, zero, suc, ◌+◌, ◌<◌, ◌^◌, ℤ, pos, negsuc, List, [], ◌∷◌, ◌++◌, length, length-append, take, get_or, All, Option, Some, None, Result, Ok, Err, refl, sym, ap, ap₂, ◌∙◌, subst, arith, append_assoc, append-nil}
use Rattle.std.proofs.lemmas.Bool.{le-leb, lt-leb}
use Rattle.std.proofs.lemmas.List.{append_cancel_left, take_more, get_or_at, get_or_append_left}
use Rattle.std.proofs.lemmas.List.Elements.{All-append}
use Rattle.std.proofs.lemmas.Option.{none-some, same_Some}
use Rattle.journal_text.specs.declared.lines.Line.{Line}
use Rattle.journal_text.specs.declared.lines.Line.TheVariants.{Load, Targets, Tick, Sweep, Body, Quoted, Lost, Garbled, Unsent, Oversize, Halt}
use Rattle.journal_text.specs.declared.events.Event.{Event}
use Rattle.journal_text.specs.declared.events.Event.TheVariants as event
use Rattle.journal_text.specs.declared.faults.ScriptCause.{ScriptCause}
use Rattle.journal_text.specs.declared.faults.ScriptCause.TheVariants as cause
use Rattle.journal_text.specs.declared.faults.ScriptFault.{ScriptFault}
use Rattle.journal_text.specs.Lines.{number, line_text, IsMoment}
use Rattle.journal_text.specs.Events.{line_of, rest_of, spelling, events_text, journal_text, IsInLimits, HasNames, now_after, now_from, now_of, MayFollow, IsInOrderFrom, IsJournal, IsKept}
use Rattle.journal_text.specs.EventReadings.{event_in}
use Rattle.journal_text.specs.Faults.{BeginsLine, BeginsEvent, EndsBy, Fails, FailsAt, IsFault, IsFaultBy, Spells, SpellsNone, IsJournalOf, IsOnlyFault}
use Rattle.journal_text.specs.Versions.{first_line, HasEvent}
use Rattle.journal_text.specs.declared.versions.Version.{Version}
use Rattle.journal_text.specs.declared.versions.Version.TheVariants.{One, Two}
use Rattle.journal_text.specs.Fronts.{Begins}
use Rattle.journal_text.proofs.EventLemmas.{event_in-text, has_line, has_two, Verdict, verdict}

-- a line isn't empty
line_some : (l : Line) (rest : List ℕ) → line_text l ++ rest ≢ []
line_some (Load m len) rest e = cc
line_some (Targets m job file len) rest e = cc
line_some (Tick m life) rest e = cc
line_some (Sweep m) rest e = cc
line_some (Body took ticket status len) rest e = cc
line_some (Quoted took ticket status len) rest e = cc
line_some (Lost took ticket) rest e = cc
line_some (Garbled took ticket) rest e = cc
line_some (Unsent took ticket) rest e = cc
line_some (Oversize took ticket) rest e = cc
line_some (Halt m) rest e = cc

pub spelling_some : (e : Event) (more : List ℕ) → spelling e ++ more ≢ []
spelling_some e more empty = line_some (line_of e) (rest_of e ++ more) (sym (append_assoc (line_text (line_of e)) (rest_of e) more) ∙ empty)

-- an event that may follow is read
pub event_in-follows : (version : Version) (now : ℕ) (e : Event) (more : List ℕ) → HasEvent version e → IsInLimits e → HasNames e → MayFollow now e → event_in version now (spelling e ++ more) ≡ Ok (e, more)
event_in-follows version now e more has limits names follows = event_in-text version now e more has limits names ∙ rw (le-leb now (now_after now e) follows) refl

-- one that may not isn't
event_in-earlier : (version : Version) (now : ℕ) (e : Event) (more : List ℕ) → HasEvent version e → IsInLimits e → HasNames e → now_after now e < now → event_in version now (spelling e ++ more) ≡ Err cause.Order
event_in-earlier version now e more has limits names earlier = event_in-text version now e more has limits names ∙ rw (lt-leb now (now_after now e) earlier) refl

same_ok : {A E : Type 0} (x y : A) → ◌≡◌ {A = Result A E} (Ok x) (Ok y) → x ≡ y
same_ok x y same = cc

ok_err : {A E : Type 0} (x : A) (e : E) → Ok x ≡ Err e → ⊥
ok_err x e same = cc

event_line : (version : Version) (bytes : List ℕ) → BeginsEvent version bytes → BeginsLine version bytes
event_line version bytes (e, rest, has, limits, names, text) = (line_of e, rest_of e ++ rest, has_line version e has, limits, text ∙ append_assoc (line_text (line_of e)) (rest_of e) rest)

-- an event that fails for a cause isn't read for this cause
fails_as : (c : ScriptCause) (version : Version) (now : ℕ) (bytes : List ℕ) → Fails c version now bytes → (r : Result (Event × List ℕ) ScriptCause) → event_in version now bytes ≡ r → Verdict version now bytes r → r ≡ Err c
fails_as cause.Header version now bytes fails r is known = absurd fails
fails_as cause.Line version now bytes fails (Ok p) is known = absurd (fails (event_line version bytes (p.0, p.1, known.has, known.limits, known.names, known.text)))
fails_as cause.Line version now bytes fails (Err cause.Header) is known = absurd known
fails_as cause.Line version now bytes fails (Err cause.Line) is known = refl
fails_as cause.Line version now bytes fails (Err cause.Rest) is known = absurd (fails known.0)
fails_as cause.Line version now bytes fails (Err cause.Order) is (e, rest, has, limits, names, text, earlier) = absurd (fails (event_line version bytes (e, rest, has, limits, names, text)))
fails_as cause.Rest version now bytes fails (Ok p) is known = absurd (fails.1 (p.0, p.1, known.has, known.limits, known.names, known.text))
fails_as cause.Rest version now bytes fails (Err cause.Header) is known = absurd known
fails_as cause.Rest version now bytes fails (Err cause.Line) is known = absurd (known fails.0)
fails_as cause.Rest version now bytes fails (Err cause.Rest) is known = refl
fails_as cause.Rest version now bytes fails (Err cause.Order) is (e, rest, has, limits, names, text, earlier) = absurd (fails.1 (e, rest, has, limits, names, text))
fails_as cause.Order version now bytes (e, rest, has, limits, names, text, earlier) r is known = sym is ∙ ap (event_in version now) text ∙ event_in-earlier version now e rest has limits names earlier

pub event_in-fails : (c : ScriptCause) (version : Version) (now : ℕ) (bytes : List ℕ) → Fails c version now bytes → event_in version now bytes ≡ Err c
event_in-fails c version now bytes fails = fails_as c version now bytes fails (event_in version now bytes) refl (verdict version now bytes)

no_event : (version : Version) (now : ℕ) (rest more : List ℕ) (o : Option ScriptCause) (e : Event) → EndsBy version now rest o → HasEvent version e → IsInLimits e → HasNames e → MayFollow now e → rest ≡ spelling e ++ more → ⊥
unfolding EndsBy
no_event version now rest more None e ends has limits names follows text = spelling_some e more (sym text ∙ ends)
no_event version now rest more (Some c) e ends has limits names follows text =
    ok_err (e, more) c (sym (event_in-follows version now e more has limits names follows) ∙ ap (event_in version now) (sym text) ∙ event_in-fails c version now rest ends.1)

ends_alike : (version : Version) (now : ℕ) (rest more : List ℕ) (o u : Option ScriptCause) → EndsBy version now rest o → EndsBy version now more u → rest ≡ more → o ≡ u
unfolding EndsBy
ends_alike version now rest more None None a b same = refl
ends_alike version now rest more None (Some c) a b same = absurd (b.0 (sym same ∙ a))
ends_alike version now rest more (Some c) None a b same = absurd (a.0 (same ∙ b))
ends_alike version now rest more (Some c) (Some d) a b same =
    let errors : ◌≡◌ {A = Result (Event × List ℕ) ScriptCause} (Err c) (Err d) = sym (event_in-fails c version now rest a.1) ∙ ap (event_in version now) same ∙ event_in-fails d version now more b.1 in
    cc

-- events that keep their limits, in order from `now` on
record Keeps (version : Version) (now : ℕ) (es : List Event) : Type 0 where
  has : All (HasEvent version) es
  limits : All IsInLimits es
  names : All HasNames es
  order : IsInOrderFrom now es

pub all_head : {X : Type 0} (P : X → Type 0) (x : X) (xs : List X) → All P (x ∷ xs) → P x
all_head P x xs all = all 0 x (omega arith)

pub all_tail : {X : Type 0} (P : X → Type 0) (x : X) (xs : List X) → All P (x ∷ xs) → All P xs
all_tail P x xs all = λ k d within. all (suc k) d (omega arith)

-- the first event keeps its limits and may follow, and the others do
record First (version : Version) (now : ℕ) (e : Event) (es : List Event) : Type 0 where
  has : HasEvent version e
  limits : IsInLimits e
  names : HasNames e
  follows : MayFollow now e
  others : Keeps version (now_after now e) es

first_of : (version : Version) (now : ℕ) (e : Event) (es : List Event) → Keeps version now (e ∷ es) → First version now e es
first_of version now e es a = record {
  has = all_head (HasEvent version) e es a.has;
  limits = all_head IsInLimits e es a.limits;
  names = all_head HasNames e es a.names;
  follows = a.order.0;
  others = record {
    has = all_tail (HasEvent version) e es a.has;
    limits = all_tail IsInLimits e es a.limits;
    names = all_tail HasNames e es a.names;
    order = a.order.1;
  };
}

-- what a text's events and its end have in common with those of the same text
pub record Same (es fs : List Event) (rest more : List ℕ) (o u : Option ScriptCause) : Type 0 where
  pub events : es ≡ fs
  pub rest_is : rest ≡ more
  pub end : o ≡ u

same_ends : (version : Version) (now : ℕ) (es fs : List Event) (rest more : List ℕ) (o u : Option ScriptCause) → Keeps version now es → Keeps version now fs →
    EndsBy version (now_from now es) rest o → EndsBy version (now_from now fs) more u → events_text es ++ rest ≡ events_text fs ++ more → Same es fs rest more o u
same_ends version now [] [] rest more o u a b c d text = record { events = refl; rest_is = text; end = ends_alike version now rest more o u c d text }
same_ends version now [] (f ∷ fs) rest more o u a b c d text =
    let g = first_of version now f fs b in
    absurd (no_event version now rest (events_text fs ++ more) o f c g.has g.limits g.names g.follows (text ∙ append_assoc (spelling f) (events_text fs) more))
same_ends version now (e ∷ es) [] rest more o u a b c d text =
    let g = first_of version now e es a in
    absurd (no_event version now more (events_text es ++ rest) u e d g.has g.limits g.names g.follows (sym text ∙ append_assoc (spelling e) (events_text es) rest))
same_ends version now (e ∷ es) (f ∷ fs) rest more o u a b c d text =
    let g = first_of version now e es a in
    let h = first_of version now f fs b in
    let whole : spelling e ++ (events_text es ++ rest) ≡ spelling f ++ (events_text fs ++ more) =
    sym (append_assoc (spelling e) (events_text es) rest) ∙ text ∙ append_assoc (spelling f) (events_text fs) more in
    let oks : ◌≡◌ {A = Result (Event × List ℕ) ScriptCause} (Ok (e, events_text es ++ rest)) (Ok (f, events_text fs ++ more)) =
    sym (event_in-follows version now e (events_text es ++ rest) g.has g.limits g.names g.follows) ∙ ap (event_in version now) whole
    ∙ event_in-follows version now f (events_text fs ++ more) h.has h.limits h.names h.follows in
    let pairs : (e, events_text es ++ rest) ≡ (f, events_text fs ++ more) = same_ok {E = ScriptCause} (e, events_text es ++ rest) (f, events_text fs ++ more) oks in
    let first : e ≡ f = ap (λ p. p.0) pairs in
    let after : events_text es ++ rest ≡ events_text fs ++ more = ap (λ p. p.1) pairs in
    let others = same_ends version (now_after now e) es fs rest more o u g.others
    (subst (λ x. Keeps version (now_after now x) fs) (sym first) h.others)
    c (subst (λ x. EndsBy version (now_from (now_after now x) fs) more u) (sym first) d) after in
    record { events = ap₂ (λ (x : Event) (xs : List Event). x ∷ xs) first others.events; rest_is = others.rest_is; end = others.end }

kept : (version : Version) (es : List Event) → IsJournal es → All (HasEvent version) es → Keeps version 0 es
kept version es j has = record { has = has; limits = j.limits; names = j.names; order = j.order }

-- version 2 has all events
all_two : (es : List Event) → All (HasEvent Two) es
all_two es = λ k d within. has_two (get_or es k d)

-- texts of two versions begin with lines that differ
one_two : ◌≡◌ {A = ℕ} 49 50 → ⊥
one_two e = omega arith

versions_differ : (x y : List ℕ) → first_line One ++ x ≡ first_line Two ++ y → ⊥
versions_differ x y same = one_two (ap (λ (ts : List ℕ). get_or ts 15 0) same)

-- what two versions of the same text have in common
pub record Alike (v w : Version) (es fs : List Event) (rest more : List ℕ) (o u : Option ScriptCause) : Type 0 where
  pub version : v ≡ w
  pub same : Same es fs rest more o u

same_in : (version : Version) (es fs : List Event) (rest more : List ℕ) (o u : Option ScriptCause) → IsJournal es → IsJournal fs → All (HasEvent version) es → All (HasEvent version) fs →
    EndsBy version (now_of es) rest o → EndsBy version (now_of fs) more u → journal_text version es ++ rest ≡ journal_text version fs ++ more → Same es fs rest more o u
same_in version es fs rest more o u a b es_has fs_has c d text =
    same_ends version 0 es fs rest more o u (kept version es a es_has) (kept version fs b fs_has) c d
    (append_cancel_left (first_line version) (events_text es ++ rest) (events_text fs ++ more)
    (sym (append_assoc (first_line version) (events_text es) rest) ∙ text ∙ append_assoc (first_line version) (events_text fs) more))

apart : (es fs : List Event) (rest more : List ℕ) → journal_text One es ++ rest ≡ journal_text Two fs ++ more → ⊥
apart es fs rest more text =
    versions_differ (events_text es ++ rest) (events_text fs ++ more) (sym (append_assoc (first_line One) (events_text es) rest) ∙ text ∙ append_assoc (first_line Two) (events_text fs) more)

pub same_texts : (v w : Version) (es fs : List Event) (rest more : List ℕ) (o u : Option ScriptCause) → IsJournal es → IsJournal fs → All (HasEvent v) es → All (HasEvent w) fs →
    EndsBy v (now_of es) rest o → EndsBy w (now_of fs) more u → journal_text v es ++ rest ≡ journal_text w fs ++ more → Alike v w es fs rest more o u
same_texts One One es fs rest more o u a b g h c d text = record { version = refl; same = same_in One es fs rest more o u a b g h c d text }
same_texts Two Two es fs rest more o u a b g h c d text = record { version = refl; same = same_in Two es fs rest more o u a b g h c d text }
same_texts One Two es fs rest more o u a b g h c d text = absurd (apart es fs rest more text)
same_texts Two One es fs rest more o u a b g h c d text = absurd (apart fs es more rest (sym text))

-- a text spells one journal at most, and in one version
same_version : (v w : Version) (es fs : List Event) → journal_text v es ≡ journal_text w fs → v ≡ w
same_version One One es fs text = refl
same_version Two Two es fs text = refl
same_version One Two es fs text = absurd (apart es fs [] [] (append-nil (journal_text One es) ∙ text ∙ sym (append-nil (journal_text Two fs))))
same_version Two One es fs text = absurd (apart fs es [] [] (append-nil (journal_text One fs) ∙ sym text ∙ sym (append-nil (journal_text Two es))))

one_in : (version : Version) (es fs : List Event) → IsJournal es → IsJournal fs → journal_text version es ≡ journal_text version fs → es ≡ fs
unfolding EndsBy
one_in version es fs a b text =
    let events = append_cancel_left (first_line version) (events_text es) (events_text fs) text in
    (same_ends Two 0 es fs [] [] None None (kept Two es a (all_two es)) (kept Two fs b (all_two fs)) refl refl (append-nil (events_text es) ∙ events ∙ sym (append-nil (events_text fs)))).events

pub one_journal : (v w : Version) (es fs : List Event) → IsJournal es → IsJournal fs → journal_text v es ≡ journal_text w fs → (v ≡ w) × (es ≡ fs)
one_journal v w es fs a b text =
    let version = same_version v w es fs text in
    (version, one_in w es fs a b (ap (λ z. journal_text z es) (sym version) ∙ text))

-- one whose text begins another's begins that journal
begin_from : (now : ℕ) (es fs : List Event) (rest : List ℕ) → Keeps Two now es → Keeps Two now fs → events_text es ++ rest ≡ events_text fs → Begins es fs
begin_from now [] fs rest a b text = (fs, refl)
begin_from now (e ∷ es) [] rest a b text = absurd (spelling_some e (events_text es ++ rest) (sym (append_assoc (spelling e) (events_text es) rest) ∙ text))
begin_from now (e ∷ es) (f ∷ fs) rest a b text =
    let g = first_of Two now e es a in
    let h = first_of Two now f fs b in
    let whole : spelling e ++ (events_text es ++ rest) ≡ spelling f ++ events_text fs = sym (append_assoc (spelling e) (events_text es) rest) ∙ text in
    let oks : ◌≡◌ {A = Result (Event × List ℕ) ScriptCause} (Ok (e, events_text es ++ rest)) (Ok (f, events_text fs)) =
    sym (event_in-follows Two now e (events_text es ++ rest) g.has g.limits g.names g.follows) ∙ ap (event_in Two now) whole ∙ event_in-follows Two now f (events_text fs) h.has h.limits h.names h.follows in
    let pairs : (e, events_text es ++ rest) ≡ (f, events_text fs) = same_ok {E = ScriptCause} (e, events_text es ++ rest) (f, events_text fs) oks in
    let first : e ≡ f = ap (λ p. p.0) pairs in
    let after = begin_from (now_after now e) es fs rest g.others (subst (λ x. Keeps Two (now_after now x) fs) (sym first) h.others) (ap (λ p. p.1) pairs) in
    (after.0, ap₂ (λ (x : Event) (xs : List Event). x ∷ xs) (sym first) after.1)

begin_in : (version : Version) (es fs : List Event) (rest : List ℕ) → IsJournal es → IsJournal fs → journal_text version es ++ rest ≡ journal_text version fs → Begins es fs
begin_in version es fs rest a b text =
    begin_from 0 es fs rest (kept Two es a (all_two es)) (kept Two fs b (all_two fs))
    (append_cancel_left (first_line version) (events_text es ++ rest) (events_text fs) (sym (append_assoc (first_line version) (events_text es) rest) ∙ text))

pub begin_alike : (v w : Version) (es fs : List Event) (rest : List ℕ) → IsJournal es → IsJournal fs → journal_text v es ++ rest ≡ journal_text w fs → Begins es fs
begin_alike One One es fs rest a b text = begin_in One es fs rest a b text
begin_alike Two Two es fs rest a b text = begin_in Two es fs rest a b text
begin_alike One Two es fs rest a b text = absurd (apart es fs rest [] (text ∙ sym (append-nil (journal_text Two fs))))
begin_alike Two One es fs rest a b text = absurd (apart fs es [] rest (append-nil (journal_text One fs) ∙ sym text))

-- and an event's spelling begins with that of no other
pub stand_apart : (e f : Event) (rest : List ℕ) → IsInLimits e → HasNames e → IsInLimits f → HasNames f → spelling e ++ rest ≡ spelling f → (e ≡ f) × (rest ≡ [])
stand_apart e f rest e_limits e_names f_limits f_names text =
    let oks : ◌≡◌ {A = Result (Event × List ℕ) ScriptCause} (Ok (e, rest)) (Ok (f, [])) =
    sym (event_in-follows Two 0 e rest (has_two e) e_limits e_names (omega arith)) ∙ ap (event_in Two 0) (text ∙ sym (append-nil (spelling f)))
    ∙ event_in-follows Two 0 f [] (has_two f) f_limits f_names (omega arith) in
    let pairs : (e, rest) ≡ (f, []) = same_ok {E = ScriptCause} (e, rest) (f, []) oks in
    (ap (λ p. p.0) pairs, ap (λ p. p.1) pairs)

-- where an event fails, the text is no journal's
fails_none : (c : ScriptCause) (bytes : List ℕ) (offset : ℕ) → FailsAt bytes offset (Fails c) → SpellsNone bytes
unfolding EndsBy
fails_none c bytes offset at = λ version es spells.
    (let alike = same_texts at.version version at.events es at.rest [] (Some c) None at.journal spells.journal at.has spells.has (at.more, at.fails) refl
    (sym at.text ∙ sym spells.text ∙ sym (append-nil (journal_text version es))) in
    none-some c (sym alike.same.end))

-- where an event fails, it fails nowhere else and for no other cause
record SamePlace (c d : ScriptCause) (m n : ℕ) : Type 0 where
  cause_is : c ≡ d
  offset_is : m ≡ n

fails_once : (c d : ScriptCause) (bytes : List ℕ) (m n : ℕ) → FailsAt bytes m (Fails c) → FailsAt bytes n (Fails d) → SamePlace c d m n
unfolding EndsBy
fails_once c d bytes m n a b =
    let alike = same_texts a.version b.version a.events b.events a.rest b.rest (Some c) (Some d) a.journal b.journal a.has b.has (a.more, a.fails) (b.more, b.fails) (sym a.text ∙ b.text) in
    record {
      cause_is = same_Some c d alike.same.end;
      offset_is = a.offset_is ∙ ap₂ (λ (v : Version) (es : List Event). length (journal_text v es)) alike.version alike.same.events ∙ sym b.offset_is;
    }

-- a fault behind the first line
begins_first : (c : ScriptCause) (bytes : List ℕ) (offset : ℕ) → FailsAt bytes offset (Fails c) → (version : Version) × (rest : List ℕ) × (bytes ≡ first_line version ++ rest)
begins_first c bytes offset at = (at.version, events_text at.events ++ at.rest, at.text ∙ append_assoc (first_line at.version) (events_text at.events) at.rest)

same_fault : (a b : ScriptFault) → a.cause ≡ b.cause → a.offset ≡ b.offset → a ≡ b
same_fault a b causes offsets = let fault : ScriptCause → ℕ → ScriptFault = λ c n. record { offset = n; cause = c } in ap₂ fault causes offsets

header_alone : (c : ScriptCause) (bytes : List ℕ) (m n : ℕ) → IsFaultBy cause.Header bytes m → FailsAt bytes n (Fails c) → ⊥
header_alone c bytes m n header at = let begins = begins_first c bytes n at in header.1 begins.0 begins.1 begins.2

-- a text has one fault at most
faults_alike : (c d : ScriptCause) (bytes : List ℕ) (m n : ℕ) → IsFaultBy c bytes m → IsFaultBy d bytes n → SamePlace c d m n
faults_alike cause.Header cause.Header bytes m n a b = record { cause_is = refl; offset_is = a.0 ∙ sym b.0 }
faults_alike cause.Header cause.Line bytes m n a b = absurd (header_alone cause.Line bytes m n a b)
faults_alike cause.Header cause.Rest bytes m n a b = absurd (header_alone cause.Rest bytes m n a b)
faults_alike cause.Header cause.Order bytes m n a b = absurd (header_alone cause.Order bytes m n a b)
faults_alike cause.Line cause.Header bytes m n a b = absurd (header_alone cause.Line bytes n m b a)
faults_alike cause.Line cause.Line bytes m n a b = fails_once cause.Line cause.Line bytes m n a b
faults_alike cause.Line cause.Rest bytes m n a b = fails_once cause.Line cause.Rest bytes m n a b
faults_alike cause.Line cause.Order bytes m n a b = fails_once cause.Line cause.Order bytes m n a b
faults_alike cause.Rest cause.Header bytes m n a b = absurd (header_alone cause.Rest bytes n m b a)
faults_alike cause.Rest cause.Line bytes m n a b = fails_once cause.Rest cause.Line bytes m n a b
faults_alike cause.Rest cause.Rest bytes m n a b = fails_once cause.Rest cause.Rest bytes m n a b
faults_alike cause.Rest cause.Order bytes m n a b = fails_once cause.Rest cause.Order bytes m n a b
faults_alike cause.Order cause.Header bytes m n a b = absurd (header_alone cause.Order bytes n m b a)
faults_alike cause.Order cause.Line bytes m n a b = fails_once cause.Order cause.Line bytes m n a b
faults_alike cause.Order cause.Rest bytes m n a b = fails_once cause.Order cause.Rest bytes m n a b
faults_alike cause.Order cause.Order bytes m n a b = fails_once cause.Order cause.Order bytes m n a b

-- a text with a fault is no journal's
pub fault_none : (c : ScriptCause) (bytes : List ℕ) (offset : ℕ) → IsFaultBy c bytes offset → SpellsNone bytes
fault_none cause.Header bytes offset fault = λ version es spells. fault.1 version (events_text es) (sym spells.text)
fault_none cause.Line bytes offset fault = fails_none cause.Line bytes offset fault
fault_none cause.Rest bytes offset fault = fails_none cause.Rest bytes offset fault
fault_none cause.Order bytes offset fault = fails_none cause.Order bytes offset fault

-- the fault that was found is the only one
pub only_fault : (bytes : List ℕ) (fault : ScriptFault) → IsFault bytes fault → IsOnlyFault bytes fault
only_fault bytes fault is = record {
  fault_is = is;
  only = λ other found. let same = faults_alike other.cause fault.cause bytes other.offset fault.offset found is in same_fault other fault same.cause_is same.offset_is;
  none = fault_none fault.cause bytes fault.offset is;
}

-- the journal that was read is the only one
pub only_journal : (bytes : List ℕ) (version : Version) (es : List Event) → Spells version es bytes → IsJournalOf bytes es
only_journal bytes version es spells = record {
  version = version;
  spells = spells;
  only = λ other others is. one_journal other version others es is.journal spells.journal (is.text ∙ sym spells.text);
  sound = λ fault is. fault_none fault.cause bytes fault.offset is version es spells;
}

-- an event more
now_from-append : (now : ℕ) (es : List Event) (e : Event) → now_from now (es ++ e ∷ []) ≡ now_after (now_from now es) e
now_from-append now [] e = refl
now_from-append now (f ∷ fs) e = now_from-append (now_after now f) fs e

order-append : (now : ℕ) (es : List Event) (e : Event) → IsInOrderFrom now es → MayFollow (now_from now es) e → IsInOrderFrom now (es ++ e ∷ [])
order-append now [] e order follows = (follows, tt)
order-append now (f ∷ fs) e order follows = (order.0, order-append (now_after now f) fs e order.1 follows)

pub all_one : {X : Type 0} (P : X → Type 0) (x : X) → P x → All P (x ∷ [])
all_one P x p zero d within = p
all_one P x p (suc k) d within = absurd (omega arith)

pub journal_more : (es : List Event) (e : Event) → IsJournal es → IsInLimits e → HasNames e → MayFollow (now_of es) e → IsJournal (es ++ e ∷ [])
journal_more es e journal limits names follows = record {
  limits = All-append IsInLimits es (e ∷ []) journal.limits (all_one IsInLimits e limits);
  names = All-append HasNames es (e ∷ []) journal.names (all_one HasNames e names);
  order = order-append 0 es e journal.order follows;
}

pub now_of-more : (es : List Event) (e : Event) → now_of (es ++ e ∷ []) ≡ now_after (now_of es) e
now_of-more es e = now_from-append 0 es e

pub no_events : IsJournal []
no_events = record { limits = λ k d within. absurd (omega arith); names = λ k d within. absurd (omega arith); order = tt }

events_text-more : (es : List Event) (e : Event) → events_text (es ++ e ∷ []) ≡ events_text es ++ spelling e
events_text-more [] e = append-nil (spelling e)
events_text-more (f ∷ fs) e = ap (λ t. spelling f ++ t) (events_text-more fs e) ∙ sym (append_assoc (spelling f) (events_text fs) (spelling e))

-- the text of a journal, with an event more
pub journal_text-more : (version : Version) (es : List Event) (e : Event) (more : List ℕ) → journal_text version (es ++ e ∷ []) ++ more ≡ journal_text version es ++ (spelling e ++ more)
journal_text-more version es e more =
    ap (λ t. (first_line version ++ t) ++ more) (events_text-more es e)
    ∙ ap (λ t. t ++ more) (sym (append_assoc (first_line version) (events_text es) (spelling e)))
    ∙ append_assoc (journal_text version es) (spelling e) more

moment_small : (m : ℤ) → IsMoment m → number m < 2 ^ 52
moment_small (pos n) small = small
moment_small (negsuc n) none = absurd none

now_small : (last : ℕ) (e : Event) → IsInLimits e → last < 2 ^ 52 → now_after last e < 2 ^ 52
now_small last (event.Load m text) limits small = moment_small m limits.0
now_small last (event.Targets m job file text) limits small = moment_small m limits.0
now_small last (event.Tick m life) limits small = moment_small m limits.0
now_small last (event.Sweep m) limits small = moment_small m limits
now_small last (event.Finish ticket took reply) limits small = small
now_small last (event.Halt m) limits small = moment_small m limits

-- what a journal keeps with an event more
pub kept_more : (es : List Event) (last : ℕ) (e : Event) → IsKept es last → IsInLimits e → HasNames e → MayFollow (now_of es) e → IsKept (es ++ e ∷ []) (now_after last e)
kept_more es last e kept limits names follows = record {
  journal = journal_more es e kept.journal limits names follows;
  last_is = ap (λ n. now_after n e) kept.last_is ∙ sym (now_of-more es e);
  small = now_small last e limits kept.small;
}

-- the text of the events up to a place, with the one at that place
pub journal_text-next : (version : Version) (es : List Event) (i : ℕ) (e : Event) → i < length es → e ≡ get_or es i e →
    journal_text version (take (i + 1) es) ≡ journal_text version (take i es) ++ spelling e
journal_text-next version es i e within is =
    ap (journal_text version) (take_more es i e within ∙ ap (λ x. take i es ++ x ∷ []) (sym is))
    ∙ sym (append-nil (journal_text version (take i es ++ e ∷ [])))
    ∙ journal_text-more version (take i es) e []
    ∙ ap (λ t. journal_text version (take i es) ++ t) (append-nil (spelling e))

-- an event that comes behind others in a journal: it keeps its limits and may follow, and the others are a journal
pub record Next (es : List Event) (e : Event) : Type 0 where
  pub limits : IsInLimits e
  pub names : HasNames e
  pub follows : MayFollow (now_of es) e
  pub front : IsJournal es

all_at : {X : Type 0} (P : X → Type 0) (xs : List X) (x : X) (ys : List X) → All P (xs ++ x ∷ ys) → P x
all_at P xs x ys all =
    subst P (get_or_at xs x ys x (length xs) refl) (all (length xs) x (omega (arith, length-append xs (x ∷ ys))))

all_front : {X : Type 0} (P : X → Type 0) (xs ys : List X) → All P (xs ++ ys) → All P xs
all_front P xs ys all = λ k d within. subst P (get_or_append_left xs ys d k within) (all k d (omega (arith, length-append xs ys)))

order_front : (now : ℕ) (es fs : List Event) → IsInOrderFrom now (es ++ fs) → IsInOrderFrom now es
order_front now [] fs order = tt
order_front now (e ∷ es) fs order = (order.0, order_front (now_after now e) es fs order.1)

order_next : (now : ℕ) (es : List Event) (e : Event) (rest : List Event) → IsInOrderFrom now (es ++ e ∷ rest) → MayFollow (now_from now es) e
order_next now [] e rest order = order.0
order_next now (f ∷ fs) e rest order = order_next (now_after now f) fs e rest order.1

pub next_of : (es : List Event) (e : Event) (rest : List Event) → IsJournal (es ++ e ∷ rest) → Next es e
next_of es e rest journal = record {
  limits = all_at IsInLimits es e rest journal.limits;
  names = all_at HasNames es e rest journal.names;
  follows = order_next 0 es e rest journal.order;
  front = record {
    limits = all_front IsInLimits es (e ∷ rest) journal.limits;
    names = all_front HasNames es (e ∷ rest) journal.names;
    order = order_front 0 es (e ∷ rest) journal.order;
  };
}
