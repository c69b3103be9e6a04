-- Events: what is read is spelled so, what is spelled is read, and why an event doesn't read.
use Rattle.std.proofs.Common.{◌≡◌, ℕ, ◌+◌, ◌<◌, ◌≤◌, true, false, ◌&&◌, List, [], ◌∷◌, ◌++◌, length, take, drop, get_or, Option, Some, None, Result, Ok, Err, refl, sym, ap, ap₂, ◌∙◌, subst, arith, cond, eqb, leb, append_assoc, length-append, length-drop, ⊎_elim, ℤ}
use Rattle.std.specs.Str.{IsUtf8, is_utf8}
use Rattle.std.proofs.lemmas.Bool.{cases_Bool, cases_lt, and_parts, eqb-true, leb-true, leb-false}
use Rattle.std.proofs.lemmas.List.{take_at, drop_at, get_or_at, length-take-le, take-append-drop, get_or_past}
use Rattle.std.proofs.lemmas.Option.{cond_some, none-some, same_Some}
use Rattle.std.proofs.lemmas.Str.{IsUtf8-from_is_utf8, is_utf8-from_IsUtf8}
use Rattle.journal_text.specs.declared.lines.Line.{Line}
use Rattle.journal_text.specs.declared.lines.Line.TheVariants.{Load, Targets, Tick, Sweep, Body, Quoted, Lost, Garbled, Unsent, Oversize, Halt}
use Rattle.journal_text.specs.declared.events.Event.{Event}
use Rattle.journal_text.specs.declared.events.Event.TheVariants as event
use Rattle.outside.specs.declared.replies.Reply.TheVariants as reply
use Rattle.journal_text.specs.declared.faults.ScriptCause.{ScriptCause}
use Rattle.journal_text.specs.declared.faults.ScriptCause.TheVariants as cause
use Rattle.journal_text.specs.Lines.{line_text, InRange}
use Rattle.journal_text.specs.Events.{line_of, rest_of, spelling, IsInLimits, HasNames, now_after, MayFollow}
use Rattle.journal_text.specs.LineReadings.{line_in}
use Rattle.journal_text.specs.EventReadings.{block, content_len, content_after, targets_with, event_with, in_order, event_or, content_or, line_or, event_in}
use Rattle.journal_text.specs.Versions.{HasEvent, HasLine}
use Rattle.journal_text.specs.declared.versions.Version.{Version}
use Rattle.journal_text.specs.declared.versions.Version.TheVariants.{Two}
use Rattle.journal_text.specs.Faults.{Fails}
use Rattle.journal_text.proofs.NumberLemmas.{split_at, drop_past}
use Rattle.journal_text.proofs.LineLemmas.{line_in-some, line_in-text}

-- content and the line feed that ends it
block-text : (len : ℕ) (content more : List ℕ) → length content ≡ len → block len (content ++ 10 ∷ more) ≡ Some (content, more)
unfolding block
block-text len content more is =
    rw (get_or_at content 10 more 0 len is, take_at content (10 ∷ more) len is, drop_past content 10 more len is) refl

record Block (len : ℕ) (bytes : List ℕ) (p : List ℕ × List ℕ) : Type 0 where
  long : length p.0 ≡ len
  text : bytes ≡ p.0 ++ 10 ∷ p.1

inside : (bs : List ℕ) (k : ℕ) → get_or bs k 0 ≡ 10 → k < length bs
inside bs k e =
    ⊎_elim
    (λ (h : k < length bs). h)
    (λ (past : length bs ≤ k). absurd (let none : get_or bs k 0 ≡ 0 = get_or_past bs k 0 past in omega arith))
    (cases_lt k (length bs))

block-some : (len : ℕ) (bytes : List ℕ) (p : List ℕ × List ℕ) → block len bytes ≡ Some p → Block len bytes p
unfolding block
block-some len bytes p e =
    let known = cond_some (eqb (get_or bytes len 0) 10) (take len bytes, drop (len + 1) bytes) p e in
    let feed = eqb-true (get_or bytes len 0) 10 known.0 in
    let within = inside bytes len feed in
    subst (Block len bytes) known.1 (record { long = length-take-le len bytes (omega arith); text = split_at bytes len 10 (omega arith) feed })

targets_with-names : (m : ℤ) (job file text : List ℕ) → IsUtf8 job → IsUtf8 file → targets_with m job file text ≡ Some (event.Targets m job file text)
unfolding targets_with
targets_with-names m job file text j f = rw (is_utf8-from_IsUtf8 job j, is_utf8-from_IsUtf8 file f) refl

targets_with-some : (m : ℤ) (job file text : List ℕ) (e : Event) → targets_with m job file text ≡ Some e →
    IsUtf8 job × IsUtf8 file × (event.Targets m job file text ≡ e)
unfolding targets_with
targets_with-some m job file text e is =
    let known = cond_some (is_utf8 job && is_utf8 file) (event.Targets m job file text) e is in
    let texts = and_parts (is_utf8 job) (is_utf8 file) known.0 in
    (IsUtf8-from_is_utf8 job texts.0, IsUtf8-from_is_utf8 file texts.1, known.1)

-- the content of an event
content_of : Event → List ℕ
content_of (event.Load m text) = text
content_of (event.Targets m job file text) = job ++ (file ++ text)
content_of (event.Tick m life) = []
content_of (event.Sweep m) = []
content_of (event.Finish ticket took (reply.Body status bytes)) = bytes
content_of (event.Finish ticket took (reply.Quoted status bytes)) = bytes
content_of (event.Finish ticket took reply.Lost) = []
content_of (event.Finish ticket took reply.Garbled) = []
content_of (event.Finish ticket took reply.Unsent) = []
content_of (event.Finish ticket took reply.Oversize) = []
content_of (event.Halt m) = []

content_after-text : (e : Event) (more : List ℕ) → content_after (line_of e) (rest_of e ++ more) ≡ Some (content_of e, more)
unfolding content_of
content_after-text (event.Load m text) more = simp append_assoc (block-text (length text) text more refl)
content_after-text (event.Targets m job file text) more =
    let long : length (job ++ (file ++ text)) ≡ length job + length file + length text = omega (arith, length-append job (file ++ text), length-append file text) in
    let regrouped : (job ++ (file ++ (text ++ 10 ∷ []))) ++ more ≡ (job ++ (file ++ text)) ++ 10 ∷ more = simp append_assoc in
    ap (block (length job + length file + length text)) regrouped ∙ block-text (length job + length file + length text) (job ++ (file ++ text)) more long
content_after-text (event.Tick m life) more = refl
content_after-text (event.Sweep m) more = refl
content_after-text (event.Finish ticket took (reply.Body status bytes)) more = simp append_assoc (block-text (length bytes) bytes more refl)
content_after-text (event.Finish ticket took (reply.Quoted status bytes)) more = simp append_assoc (block-text (length bytes) bytes more refl)
content_after-text (event.Finish ticket took reply.Lost) more = refl
content_after-text (event.Finish ticket took reply.Garbled) more = refl
content_after-text (event.Finish ticket took reply.Unsent) more = refl
content_after-text (event.Finish ticket took reply.Oversize) more = refl
content_after-text (event.Halt m) more = refl

event_with-text : (e : Event) → HasNames e → event_with (line_of e) (content_of e) ≡ Some e
unfolding content_of
event_with-text (event.Load m text) names = refl
event_with-text (event.Targets m job file text) names =
    rw (take_at job (file ++ text) (length job) refl, drop_at job (file ++ text) (length job) refl, take_at file text (length file) refl, drop_at file text (length file) refl)
    (targets_with-names m job file text names.0 names.1)
event_with-text (event.Tick m life) names = refl
event_with-text (event.Sweep m) names = refl
event_with-text (event.Finish ticket took (reply.Body status bytes)) names = refl
event_with-text (event.Finish ticket took (reply.Quoted status bytes)) names = refl
event_with-text (event.Finish ticket took reply.Lost) names = refl
event_with-text (event.Finish ticket took reply.Garbled) names = refl
event_with-text (event.Finish ticket took reply.Unsent) names = refl
event_with-text (event.Finish ticket took reply.Oversize) names = refl
event_with-text (event.Halt m) names = refl

-- a version that has an event has its line, and the other way round
pub has_line : (version : Version) (e : Event) → HasEvent version e → HasLine version (line_of e)
has_line version (event.Load m text) has = tt
has_line version (event.Targets m job file text) has = tt
has_line version (event.Tick m life) has = tt
has_line version (event.Sweep m) has = tt
has_line version (event.Finish ticket took (reply.Body status bytes)) has = tt
has_line version (event.Finish ticket took (reply.Quoted status bytes)) has = has
has_line version (event.Finish ticket took reply.Lost) has = tt
has_line version (event.Finish ticket took reply.Garbled) has = tt
has_line version (event.Finish ticket took reply.Unsent) has = tt
has_line version (event.Finish ticket took reply.Oversize) has = tt
has_line version (event.Halt m) has = tt

pub has_event : (version : Version) (e : Event) → HasLine version (line_of e) → HasEvent version e
has_event version (event.Load m text) has = tt
has_event version (event.Targets m job file text) has = tt
has_event version (event.Tick m life) has = tt
has_event version (event.Sweep m) has = tt
has_event version (event.Finish ticket took (reply.Body status bytes)) has = tt
has_event version (event.Finish ticket took (reply.Quoted status bytes)) has = has
has_event version (event.Finish ticket took reply.Lost) has = tt
has_event version (event.Finish ticket took reply.Garbled) has = tt
has_event version (event.Finish ticket took reply.Unsent) has = tt
has_event version (event.Finish ticket took reply.Oversize) has = tt
has_event version (event.Halt m) has = tt

-- the second has each event
pub has_two : (e : Event) → HasEvent Two e
has_two (event.Load m text) = tt
has_two (event.Targets m job file text) = tt
has_two (event.Tick m life) = tt
has_two (event.Sweep m) = tt
has_two (event.Finish ticket took (reply.Body status bytes)) = tt
has_two (event.Finish ticket took (reply.Quoted status bytes)) = refl
has_two (event.Finish ticket took reply.Lost) = tt
has_two (event.Finish ticket took reply.Garbled) = tt
has_two (event.Finish ticket took reply.Unsent) = tt
has_two (event.Finish ticket took reply.Oversize) = tt
has_two (event.Halt m) = tt

-- an event's line is read where the event is spelled
pub line_in-spelling : (version : Version) (e : Event) (more : List ℕ) → HasEvent version e → IsInLimits e → line_in version (spelling e ++ more) ≡ Some (line_of e, rest_of e ++ more)
line_in-spelling version e more has limits =
    ap (line_in version) (append_assoc (line_text (line_of e)) (rest_of e) more) ∙ line_in-text version (line_of e) (rest_of e ++ more) (has_line version e has) limits

-- an event that is spelled is read
pub event_in-text : (version : Version) (now : ℕ) (e : Event) (more : List ℕ) → HasEvent version e → IsInLimits e → HasNames e → event_in version now (spelling e ++ more) ≡ in_order now more e
unfolding event_in
event_in-text version now e more has limits names =
    ap (line_or now) (line_in-spelling version e more has limits)
    ∙ ap (content_or now (line_of e)) (content_after-text e more)
    ∙ ap (event_or now more) (event_with-text e names)

-- the content behind a line, with its line feed
tail_of : Line → List ℕ → List ℕ
tail_of (Load m len) content = content ++ 10 ∷ []
tail_of (Targets m job file len) content = content ++ 10 ∷ []
tail_of (Tick m life) content = []
tail_of (Sweep m) content = []
tail_of (Body took ticket status len) content = content ++ 10 ∷ []
tail_of (Quoted took ticket status len) content = content ++ 10 ∷ []
tail_of (Lost took ticket) content = []
tail_of (Garbled took ticket) content = []
tail_of (Unsent took ticket) content = []
tail_of (Oversize took ticket) content = []
tail_of (Halt m) content = []

record Content (l : Line) (bytes : List ℕ) (p : List ℕ × List ℕ) : Type 0 where
  long : length p.0 ≡ content_len l
  text : bytes ≡ tail_of l p.0 ++ p.1

content_after-some : (l : Line) (bytes : List ℕ) (p : List ℕ × List ℕ) → content_after l bytes ≡ Some p → Content l bytes p
unfolding tail_of
content_after-some (Load m len) bytes p e = let known = block-some (len) bytes p e in record { long = known.long; text = known.text ∙ sym (append_assoc p.0 (10 ∷ []) p.1) }
content_after-some (Targets m job file len) bytes p e = let known = block-some (job + file + len) bytes p e in record { long = known.long; text = known.text ∙ sym (append_assoc p.0 (10 ∷ []) p.1) }
content_after-some (Tick m life) bytes p e = subst (Content (Tick m life) bytes) (same_Some ([], bytes) p e) (record { long = refl; text = refl })
content_after-some (Sweep m) bytes p e = subst (Content (Sweep m) bytes) (same_Some ([], bytes) p e) (record { long = refl; text = refl })
content_after-some (Body took ticket status len) bytes p e = let known = block-some (len) bytes p e in record { long = known.long; text = known.text ∙ sym (append_assoc p.0 (10 ∷ []) p.1) }
content_after-some (Quoted took ticket status len) bytes p e = let known = block-some (len) bytes p e in record { long = known.long; text = known.text ∙ sym (append_assoc p.0 (10 ∷ []) p.1) }
content_after-some (Lost took ticket) bytes p e = subst (Content (Lost took ticket) bytes) (same_Some ([], bytes) p e) (record { long = refl; text = refl })
content_after-some (Garbled took ticket) bytes p e = subst (Content (Garbled took ticket) bytes) (same_Some ([], bytes) p e) (record { long = refl; text = refl })
content_after-some (Unsent took ticket) bytes p e = subst (Content (Unsent took ticket) bytes) (same_Some ([], bytes) p e) (record { long = refl; text = refl })
content_after-some (Oversize took ticket) bytes p e = subst (Content (Oversize took ticket) bytes) (same_Some ([], bytes) p e) (record { long = refl; text = refl })
content_after-some (Halt m) bytes p e = subst (Content (Halt m) bytes) (same_Some ([], bytes) p e) (record { long = refl; text = refl })

record Made (l : Line) (content : List ℕ) (e : Event) : Type 0 where
  line : line_of e ≡ l
  names : HasNames e
  rest : rest_of e ≡ tail_of l content

event_with-some : (l : Line) (content : List ℕ) (e : Event) → length content ≡ content_len l → event_with l content ≡ Some e → Made l content e
unfolding tail_of
event_with-some (Load m len) content e long is =
    subst (Made (Load m len) content) (same_Some _ e is) (record { line = ap (Load m) long; names = tt; rest = refl })
event_with-some (Targets m job file len) content e long is =
    let known = targets_with-some m (take job content) (take file (drop job content)) (drop file (drop job content)) e is in
    let job_long : length (take job content) ≡ job = length-take-le job content (omega arith) in
    let file_long : length (take file (drop job content)) ≡ file = length-take-le file (drop job content) (omega (arith, length-drop job content)) in
    let text_long : length (drop file (drop job content)) ≡ len = omega (arith, length-drop job content, length-drop file (drop job content)) in
    let joined : take job content ++ (take file (drop job content) ++ drop file (drop job content)) ≡ content =
    ap (λ t. take job content ++ t) (take-append-drop file (drop job content)) ∙ take-append-drop job content in
    subst (Made (Targets m job file len) content) known.2 (record {
      line = rw (job_long, file_long, text_long) refl;
      names = (known.0, known.1);
      rest = sym (simp append_assoc) ∙ ap (λ t. t ++ 10 ∷ []) joined;
    })
event_with-some (Body took ticket status len) content e long is =
    subst (Made (Body took ticket status len) content) (same_Some _ e is) (record { line = ap (Body took ticket status) long; names = tt; rest = refl })
event_with-some (Quoted took ticket status len) content e long is =
    subst (Made (Quoted took ticket status len) content) (same_Some _ e is) (record { line = ap (Quoted took ticket status) long; names = tt; rest = refl })
event_with-some (Tick m life) content e long is = subst (Made (Tick m life) content) (same_Some _ e is) (record { line = refl; names = tt; rest = refl })
event_with-some (Sweep m) content e long is = subst (Made (Sweep m) content) (same_Some _ e is) (record { line = refl; names = tt; rest = refl })
event_with-some (Lost took ticket) content e long is = subst (Made (Lost took ticket) content) (same_Some _ e is) (record { line = refl; names = tt; rest = refl })
event_with-some (Garbled took ticket) content e long is = subst (Made (Garbled took ticket) content) (same_Some _ e is) (record { line = refl; names = tt; rest = refl })
event_with-some (Unsent took ticket) content e long is = subst (Made (Unsent took ticket) content) (same_Some _ e is) (record { line = refl; names = tt; rest = refl })
event_with-some (Oversize took ticket) content e long is = subst (Made (Oversize took ticket) content) (same_Some _ e is) (record { line = refl; names = tt; rest = refl })
event_with-some (Halt m) content e long is = subst (Made (Halt m) content) (same_Some _ e is) (record { line = refl; names = tt; rest = refl })

-- an event that was read: it is spelled there, and may follow
pub record Read (version : Version) (now : ℕ) (bytes : List ℕ) (p : Event × List ℕ) : Type 0 where
  pub has : HasEvent version p.0
  pub limits : IsInLimits p.0
  pub names : HasNames p.0
  pub follows : MayFollow now p.0
  pub text : bytes ≡ spelling p.0 ++ p.1

-- what is known of the bytes by what was read
abbrev pub Verdict : Version → ℕ → List ℕ → Result (Event × List ℕ) ScriptCause → Type 0
Verdict version now bytes (Ok p) = Read version now bytes p
Verdict version now bytes (Err why) = Fails why version now bytes

-- an event that is spelled begins with its line
begins_with_line : (version : Version) (bytes : List ℕ) (e : Event) (rest : List ℕ) (p : Line × List ℕ) → HasEvent version e → IsInLimits e → bytes ≡ spelling e ++ rest → line_in version bytes ≡ Some p → (line_of e, rest_of e ++ rest) ≡ p
begins_with_line version bytes e rest p has limits text read = same_Some _ p (sym (line_in-spelling version e rest has limits) ∙ ap (line_in version) (sym text) ∙ read)

has_content : (e : Event) (rest : List ℕ) (p : Line × List ℕ) → (line_of e, rest_of e ++ rest) ≡ p → content_after p.0 p.1 ≡ Some (content_of e, rest)
has_content e rest p same = subst (λ (p : Line × List ℕ). content_after p.0 p.1 ≡ Some (content_of e, rest)) same (content_after-text e rest)

verdict_ordered : (version : Version) (now : ℕ) (bytes more : List ℕ) (e : Event) → HasEvent version e → IsInLimits e → HasNames e → bytes ≡ spelling e ++ more → Verdict version now bytes (in_order now more e)
verdict_ordered version now bytes more e has limits names text =
    elim (leb now (now_after now e)) as (λ b. leb now (now_after now e) ≡ b → Verdict version now bytes (cond b (Ok (e, more)) (Err cause.Order))) [
      | true ↦ λ t. record { has = has; limits = limits; names = names; follows = leb-true now (now_after now e) t; text = text }
      | false ↦ λ f. (e, more, has, limits, names, text, leb-false now (now_after now e) f)
    ] refl

verdict_event : (version : Version) (now : ℕ) (bytes : List ℕ) (p : Line × List ℕ) (q : List ℕ × List ℕ) → line_in version bytes ≡ Some p → content_after p.0 p.1 ≡ Some q →
    (o : Option Event) → event_with p.0 q.0 ≡ o → Verdict version now bytes (event_or now q.1 o)
verdict_event version now bytes p q read content None is =
    let line = line_in-some version bytes p read in (
      (p.0, p.1, line.has, line.range, line.text),
      λ (e, rest, has, limits, names, text).
          let same = begins_with_line version bytes e rest p has limits text read in
          let content_is : (content_of e, rest) ≡ q = same_Some _ q (sym (has_content e rest p same) ∙ content) in
          let made : event_with p.0 q.0 ≡ Some e =
          subst (λ (q : List ℕ × List ℕ). event_with p.0 q.0 ≡ Some e) content_is
          (subst (λ (p : Line × List ℕ). event_with p.0 (content_of e) ≡ Some e) same (event_with-text e names)) in
          none-some e (sym is ∙ made),
    )
verdict_event version now bytes p q read content (Some e) is =
    let line = line_in-some version bytes p read in
    let known = content_after-some p.0 p.1 q content in
    let made = event_with-some p.0 q.0 e known.long is in
    let limits : IsInLimits e = subst InRange (sym made.line) line.range in
    let text : bytes ≡ spelling e ++ q.1 =
    line.text ∙ ap₂ (λ (l : Line) (r : List ℕ). line_text l ++ r) (sym made.line) (known.text ∙ ap (λ r. r ++ q.1) (sym made.rest))
    ∙ sym (append_assoc (line_text (line_of e)) (rest_of e) q.1) in
    verdict_ordered version now bytes q.1 e (has_event version e (subst (HasLine version) (sym made.line) line.has)) limits made.names text

verdict_content : (version : Version) (now : ℕ) (bytes : List ℕ) (p : Line × List ℕ) → line_in version bytes ≡ Some p →
    (o : Option (List ℕ × List ℕ)) → content_after p.0 p.1 ≡ o → Verdict version now bytes (content_or now p.0 o)
verdict_content version now bytes p read None is =
    let line = line_in-some version bytes p read in (
      (p.0, p.1, line.has, line.range, line.text),
      λ (e, rest, has, limits, names, text). none-some _ (sym is ∙ has_content e rest p (begins_with_line version bytes e rest p has limits text read)),
    )
verdict_content version now bytes p read (Some q) is = verdict_event version now bytes p q read is (event_with p.0 q.0) refl

verdict_line : (version : Version) (now : ℕ) (bytes : List ℕ) → (o : Option (Line × List ℕ)) → line_in version bytes ≡ o → Verdict version now bytes (line_or now o)
verdict_line version now bytes None is = λ (line, rest, has, range, text). none-some _ (sym is ∙ ap (line_in version) text ∙ line_in-text version line rest has range)
verdict_line version now bytes (Some p) is = verdict_content version now bytes p is (content_after p.0 p.1) refl

-- what reading an event tells
pub verdict : (version : Version) (now : ℕ) (bytes : List ℕ) → Verdict version now bytes (event_in version now bytes)
unfolding event_in
verdict version now bytes = verdict_line version now bytes (line_in version bytes) refl

not_text : (bs : List ℕ) → ¬ IsUtf8 bs → is_utf8 bs ≡ false
not_text bs never = ⊎_elim (λ (t : is_utf8 bs ≡ true). absurd (never (IsUtf8-from_is_utf8 bs t))) (λ (f : is_utf8 bs ≡ false). f) (cases_Bool (is_utf8 bs))

pub job_no_text : (m : ℤ) (job file text : List ℕ) → ¬ IsUtf8 job → None ≡ targets_with m job file text
unfolding targets_with
job_no_text m job file text never = rw (not_text job never) refl

pub file_no_text : (m : ℤ) (job file text : List ℕ) → IsUtf8 job → ¬ IsUtf8 file → None ≡ targets_with m job file text
unfolding targets_with
file_no_text m job file text is never = rw (is_utf8-from_IsUtf8 job is, not_text file never) refl

pub targets_made : (m n : ℤ) (job file text j f t : List ℕ) → IsUtf8 job → IsUtf8 file → n ≡ m → j ≡ job → f ≡ file → t ≡ text →
    Some (event.Targets n j f t) ≡ targets_with m job file text
targets_made m n job file text j f t job_text file_text a b c d = rw (a, b, c, d) (sym (targets_with-names m job file text job_text file_text))
