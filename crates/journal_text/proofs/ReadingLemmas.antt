-- What a reader of whole events knows where it stops, goes on and ends.
use Rattle.std.proofs.Common.{◌≡◌, ◌≢◌, ℕ, ◌-◌, ◌<◌, List, [], ◌∷◌, ◌++◌, length, Option, Some, None, Ok, Err, refl, sym, ap, ◌∙◌, subst, arith, append_assoc, length-append, append-nil}
use Rattle.std.specs.Prelude.{All}
use Rattle.std.proofs.lemmas.List.Elements.{All-append}
use Rattle.journal_text.specs.declared.events.Event.{Event}
use Rattle.journal_text.specs.declared.faults.ScriptCause.{ScriptCause}
use Rattle.journal_text.specs.declared.faults.ScriptCause.TheVariants as cause
use Rattle.journal_text.specs.declared.faults.ScriptFault.{ScriptFault}
use Rattle.journal_text.specs.declared.faults.ScriptError.{ScriptError}
use Rattle.journal_text.specs.declared.faults.ScriptError.TheVariants.{Bad, NoMemory}
use Rattle.journal_text.specs.Events.{spelling, journal_text, now_of, IsJournal}
use Rattle.journal_text.specs.EventReadings.{event_in}
use Rattle.journal_text.specs.Faults.{EndsBy, Fails, IsFault, IsFaultBy, IsJournalOf, IsOnlyFault, Refuses, StopsFor}
use Rattle.journal_text.specs.Versions.{HasEvent}
use Rattle.journal_text.specs.declared.versions.Version.{Version}
use Rattle.journal_text.specs.Fronts.{IsFrontOf, IsHeadless, LacksHeader}
use Rattle.journal_text.proofs.EventLemmas.{Read, Verdict, verdict}
use Rattle.journal_text.proofs.JournalLemmas.{all_one, begin_alike, only_fault, only_journal, same_texts, spelling_some, journal_text-more}

-- whole events in order, and what follows them
pub record Behind (version : Version) (bytes : List ℕ) (es : List Event) (rest : List ℕ) : Type 0 where
  pub journal : IsJournal es
  pub has : All (HasEvent version) es
  pub text : bytes ≡ journal_text version es ++ rest

-- an event that was read is spelled there
pub was_read : (version : Version) (now : ℕ) (bytes : List ℕ) (e : Event) (more : List ℕ) → event_in version now bytes ≡ Ok (e, more) → Read version now bytes (e, more)
was_read version now bytes e more is = subst (Verdict version now bytes) is (verdict version now bytes)

failed : (version : Version) (now : ℕ) (bytes : List ℕ) (c : ScriptCause) → event_in version now bytes ≡ Err c → Fails c version now bytes
failed version now bytes c is = subst (Verdict version now bytes) is (verdict version now bytes)

fault_at : (c : ScriptCause) (version : Version) (bytes rest : List ℕ) (es : List Event) (offset : ℕ) → Behind version bytes es rest → rest ≢ [] → offset ≡ length (journal_text version es) →
    Fails c version (now_of es) rest → IsFaultBy c bytes offset
fault_at cause.Header version bytes rest es offset at more here fails = absurd fails
fault_at cause.Line version bytes rest es offset at more here fails = record { version = version; events = es; rest = rest; journal = at.journal; has = at.has; text = at.text; offset_is = here; more = more; fails = fails }
fault_at cause.Rest version bytes rest es offset at more here fails = record { version = version; events = es; rest = rest; journal = at.journal; has = at.has; text = at.text; offset_is = here; more = more; fails = fails }
fault_at cause.Order version bytes rest es offset at more here fails = record { version = version; events = es; rest = rest; journal = at.journal; has = at.has; text = at.text; offset_is = here; more = more; fails = fails }

-- the front of a text, by how the text goes on behind it
front_by : (version : Version) (bytes rest : List ℕ) (es : List Event) (end : Option ScriptCause) → Behind version bytes es rest → EndsBy version (now_of es) rest end → IsFrontOf bytes es (length rest)
front_by version bytes rest es end at ends = record {
  rest = rest;
  stops = record { version = version; end = end; journal = at.journal; has = at.has; text = at.text; ends = ends };
  left_is = refl;
  only = λ others more stops.
      sym (same_texts version stops.version es others rest more end stops.end at.journal stops.journal at.has stops.has ends stops.ends (sym at.text ∙ stops.text)).same.events;
  cut = λ other fs gone spells. begin_alike version other es fs (rest ++ gone) at.journal spells.journal
      (sym (append_assoc (journal_text version es) rest gone) ∙ ap (λ t. t ++ gone) (sym at.text) ∙ sym spells.text);
}

-- where the reader stops
pub stopped : (version : Version) (bytes rest : List ℕ) (es : List Event) (now offset : ℕ) (fault : ScriptFault) → Behind version bytes es rest → rest ≢ [] → now ≡ now_of es → offset ≡ length bytes - length rest →
    StopsFor offset (event_in version now rest) (Bad fault) → IsOnlyFault bytes fault
stopped version bytes rest es now offset fault at more now_is here stops =
    let place : fault.offset ≡ length (journal_text version es) = omega (arith, stops.0, here, ap length at.text, length-append (journal_text version es) rest) in
    only_fault bytes fault (fault_at fault.cause version bytes rest es fault.offset at more place (failed version (now_of es) rest fault.cause (ap (λ n. event_in version n rest) (sym now_is) ∙ stops.1)))

pub stopped_front : (version : Version) (bytes rest : List ℕ) (es : List Event) (now offset : ℕ) (fault : ScriptFault) → Behind version bytes es rest → rest ≢ [] → now ≡ now_of es →
    StopsFor offset (event_in version now rest) (Bad fault) → IsFrontOf bytes es (length rest)
unfolding EndsBy
stopped_front version bytes rest es now offset fault at more now_is stops =
    front_by version bytes rest es (Some fault.cause) at (more, failed version (now_of es) rest fault.cause (ap (λ n. event_in version n rest) (sym now_is) ∙ stops.1))

-- where it goes on
pub went_on : (version : Version) (bytes rest more : List ℕ) (es : List Event) (e : Event) → Behind version bytes es rest → HasEvent version e → IsJournal (es ++ e ∷ []) → rest ≡ spelling e ++ more →
    Behind version bytes (es ++ e ∷ []) more
went_on version bytes rest more es e at has journal text = record {
  journal = journal;
  has = All-append (HasEvent version) es (e ∷ []) at.has (all_one (HasEvent version) e has);
  text = at.text ∙ ap (λ r. journal_text version es ++ r) text ∙ sym (journal_text-more version es e more);
}

not_empty : (bs : List ℕ) → bs ≢ [] → 0 < length bs
not_empty [] some = absurd (some refl)
not_empty (b ∷ bs) some = omega arith

length_spelling : (e : Event) → 0 < length (spelling e)
length_spelling e = not_empty (spelling e) (λ none. spelling_some e [] (append-nil (spelling e) ∙ none))

-- what follows an event is shorter
pub shorter : (rest more : List ℕ) (e : Event) → rest ≡ spelling e ++ more → length more < length rest
shorter rest more e text =
    let all = ap length text in
    let some = length_spelling e in
    omega (arith, all, some, length-append (spelling e) more)

-- where it ends
pub ended : (version : Version) (bytes rest : List ℕ) (es : List Event) → Behind version bytes es rest → rest ≡ [] → IsJournalOf bytes es
ended version bytes rest es at none =
    only_journal bytes version es (record { journal = at.journal; has = at.has; text = sym (at.text ∙ ap (λ r. journal_text version es ++ r) none ∙ append-nil (journal_text version es)) })

pub ended_front : (version : Version) (bytes rest : List ℕ) (es : List Event) → Behind version bytes es rest → rest ≡ [] → IsFrontOf bytes es (length rest)
unfolding EndsBy
ended_front version bytes rest es at none = front_by version bytes rest es None at none

-- a text without the first line is no journal's
headless_fault : (bytes : List ℕ) (fault : ScriptFault) → IsHeadless bytes fault → IsOnlyFault bytes fault
headless_fault bytes fault h =
    only_fault bytes fault (subst (IsFault bytes) (sym h.fault_is) (refl, h.lacks))

pub headless_refused : (bytes : List ℕ) (e : ScriptError) → LacksHeader bytes e → Refuses bytes e
headless_refused bytes (Bad fault) h = headless_fault bytes fault h
headless_refused bytes NoMemory h = tt
