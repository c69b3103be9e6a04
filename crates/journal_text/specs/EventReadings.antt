-- How an event is read: its line, its content, and whether it may follow.
use Rattle.std.specs.Prelude.{ℕ, ◌+◌, List, [], take, drop, slice_index, ◌&&◌, ◌==◌, nat_le, if◌then◌else◌, ℤ, Option, Some, None, Result, Ok, Err}
use Rattle.std.specs.Str.{is_utf8}
use Rattle.journal_text.specs.declared.lines.Line.{Line}
use Rattle.journal_text.specs.declared.lines.Line.TheVariants.{Load, Targets, Tick, Sweep, Body, Quoted, Lost, Garbled, Unsent, Oversize, Halt}
use Rattle.journal_text.specs.declared.versions.Version.{Version}
use Rattle.journal_text.specs.declared.events.Event.{Event}
use Rattle.journal_text.specs.declared.events.Event.TheVariants as event
use Rattle.outside.specs.declared.replies.Reply.TheVariants as reply
use Rattle.journal_text.specs.declared.faults.ScriptCause.{ScriptCause}
use Rattle.journal_text.specs.declared.faults.ScriptCause.TheVariants as cause
use Rattle.journal_text.specs.Events.{now_after}
use Rattle.journal_text.specs.LineReadings.{line_in}

-- so many bytes that a line feed ends, and what follows it
unfoldable pub block : ℕ → List ℕ → Option (List ℕ × List ℕ)
block len bytes = if slice_index bytes len == 10 then Some (take len bytes, drop (len + 1) bytes) else None

-- how many bytes of content a line announces
abbrev pub content_len : Line → ℕ
content_len (Load moment len) = len
content_len (Targets moment job file len) = job + file + len
content_len (Tick moment life) = 0
content_len (Sweep moment) = 0
content_len (Body took ticket status len) = len
content_len (Quoted took ticket status len) = len
content_len (Lost took ticket) = 0
content_len (Garbled took ticket) = 0
content_len (Unsent took ticket) = 0
content_len (Oversize took ticket) = 0
content_len (Halt moment) = 0

-- the content that a line announces, and what follows it; where a line announces none, the next line follows
abbrev pub content_after : Line → List ℕ → Option (List ℕ × List ℕ)
content_after (Load moment len) bytes = block len bytes
content_after (Targets moment job file len) bytes = block (job + file + len) bytes
content_after (Tick moment life) bytes = Some ([], bytes)
content_after (Sweep moment) bytes = Some ([], bytes)
content_after (Body took ticket status len) bytes = block len bytes
content_after (Quoted took ticket status len) bytes = block len bytes
content_after (Lost took ticket) bytes = Some ([], bytes)
content_after (Garbled took ticket) bytes = Some ([], bytes)
content_after (Unsent took ticket) bytes = Some ([], bytes)
content_after (Oversize took ticket) bytes = Some ([], bytes)
content_after (Halt moment) bytes = Some ([], bytes)

-- the event of a list of targets, where its names are text
unfoldable pub targets_with : ℤ → List ℕ → List ℕ → List ℕ → Option Event
targets_with moment job file text = if is_utf8 job && is_utf8 file then Some (event.Targets moment job file text) else None

-- the event of a line and its content
abbrev pub event_with : Line → List ℕ → Option Event
event_with (Load moment len) content = Some (event.Load moment content)
event_with (Targets moment job file len) content = targets_with moment (take job content) (take file (drop job content)) (drop file (drop job content))
event_with (Tick moment life) content = Some (event.Tick moment life)
event_with (Sweep moment) content = Some (event.Sweep moment)
event_with (Body took ticket status len) content = Some (event.Finish ticket took (reply.Body status content))
event_with (Quoted took ticket status len) content = Some (event.Finish ticket took (reply.Quoted status content))
event_with (Lost took ticket) content = Some (event.Finish ticket took reply.Lost)
event_with (Garbled took ticket) content = Some (event.Finish ticket took reply.Garbled)
event_with (Unsent took ticket) content = Some (event.Finish ticket took reply.Unsent)
event_with (Oversize took ticket) content = Some (event.Finish ticket took reply.Oversize)
event_with (Halt moment) content = Some (event.Halt moment)

-- an event that may follow where the last moment is `now`
abbrev pub in_order : ℕ → List ℕ → Event → Result (Event × List ℕ) ScriptCause
in_order now more e = if nat_le now (now_after now e) then Ok (e, more) else Err cause.Order

abbrev pub event_or : ℕ → List ℕ → Option Event → Result (Event × List ℕ) ScriptCause
event_or now more None = Err cause.Rest
event_or now more (Some e) = in_order now more e

abbrev pub content_or : ℕ → Line → Option (List ℕ × List ℕ) → Result (Event × List ℕ) ScriptCause
content_or now line None = Err cause.Rest
content_or now line (Some p) = event_or now p.1 (event_with line p.0)

abbrev pub line_or : ℕ → Option (Line × List ℕ) → Result (Event × List ℕ) ScriptCause
line_or now None = Err cause.Line
line_or now (Some p) = content_or now p.0 (content_after p.0 p.1)

-- the first event of a text of a version, and what follows it, or why none is read: the line, then the rest, then the order
unfoldable pub event_in : Version → ℕ → List ℕ → Result (Event × List ℕ) ScriptCause
event_in version now bytes = line_or now (line_in version bytes)
