-- Steps from one place of the decoder to the next.
use Rattle.std.specs.Prelude.{◌≡◌, ℕ, ◌-◌, ◌<◌, ◌≤◌, Bool, true, false, nat_lt, ◌==◌, if◌then◌else◌, List, ◌++◌, length, Option, Some, None, take, drop}
use Rattle.http_fetch.specs.declared.stages.Stage.{Stage}
use Rattle.http_fetch.specs.declared.stages.Stage.TheVariants.{Heads, Length, Line, Data, Trailer, Open, Whole, Over, Never}
use Rattle.http_fetch.specs.declared.stages.Step.{Step}
use Rattle.http_fetch.specs.declared.fields.Framing.{Framing}
use Rattle.http_fetch.specs.declared.fields.Framing.TheVariants as framings
use Rattle.http_fetch.specs.Reading.{IsShort}
use Rattle.http_fetch.specs.Stages.{Fits, Leads, Waits, decoding}

-- what follows changes nothing
abbrev pub is_done : Stage → Bool
is_done (Heads left) = false
is_done (Length left) = false
is_done Line = false
is_done (Data left) = false
is_done (Trailer room) = false
is_done Open = false
is_done (Whole code) = true
is_done Over = true
is_done Never = true

-- the next byte is the body's
abbrev pub is_body : Stage → Bool
is_body (Heads left) = false
is_body (Length left) = nat_lt 0 left
is_body Line = false
is_body (Data left) = nat_lt 0 left
is_body (Trailer room) = false
is_body Open = true
is_body (Whole code) = false
is_body Over = false
is_body Never = false

-- the place before a body of this length
abbrev pub after_length : ℕ → ℕ → Stage
after_length size limit = if nat_lt limit size then Over else (if size == 0 then Whole 200 else Length size)

-- the place behind a head of status 200
abbrev pub after_good : Framing → ℕ → Stage
after_good framings.Refused limit = Never
after_good (framings.Length size) limit = after_length size limit
after_good framings.Chunks limit = Line
after_good framings.ToEnd limit = Open

-- the place behind a head
abbrev pub after_head : ℕ → Framing → ℕ → ℕ → Stage
after_head code f left limit =
    if nat_lt code 100 then Never
    else (if nat_lt code 200 then (if left == 0 then Never else Heads (left - 1))
    else (if code == 200 then after_good f limit else Whole code))

-- the place behind a chunk line
abbrev pub after_line : ℕ → ℕ → Stage
after_line size room = if nat_lt room size then Over else (if size == 0 then Trailer 65536 else Data size)

-- a step over the front of the text leads on, where the body has so many bytes
pub record Steps (stage : Stage) (limit count : ℕ) (text : List ℕ) (reached : Stage × ℕ) : Type 0 where
  pub some : 0 < reached.1
  pub within : reached.1 ≤ length text
  pub leads : (got : List ℕ) → length got ≡ count → Fits stage limit got → Leads limit (decoding stage got text) (decoding reached.0 got (drop reached.1 text))

-- a step between the bytes of a body leads on, and where there is none the text waits
abbrev pub LeadsBehind : Stage → ℕ → ℕ → List ℕ → Option Step → Type 0
LeadsBehind stage limit count text None = (got : List ℕ) → length got ≡ count → Fits stage limit got → Waits stage text × IsShort text
LeadsBehind stage limit count text (Some s) = Steps stage limit count text (s.next, s.used)

-- a step over bytes of a body leads on
abbrev pub LeadsInside : Stage → ℕ → ℕ → ℕ → Step → Type 0
LeadsInside stage limit had count s =
    (got text : List ℕ) → length got ≡ had → length text ≡ count → Fits stage limit got →
    Leads limit (decoding stage got text) (decoding s.next (got ++ take s.used text) (drop s.used text))
