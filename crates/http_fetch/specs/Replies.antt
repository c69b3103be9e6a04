-- The reply that the bytes of a link give, which ends after them.
use Rattle.std.specs.Prelude.{◌≡◌, ◌≢◌, ℕ, ◌<◌, ◌≤◌, ◌⊎◌, ◌==◌, nat_le, if◌then◌else◌, List, [], ◌∷◌, ◌++◌, length, map, Result, Ok, Err}
use Rattle.httparse.specs.Grammar.{ResponseHead, print_response, ReadsResponse, status_code}
use Rattle.httparse.specs.Spans.{name_and_value}
use Rattle.http_fetch.specs.declared.fields.Framing.{Framing}
use Rattle.http_fetch.specs.declared.fields.Framing.TheVariants.{Refused, Length, Chunks, ToEnd}
use Rattle.outside.specs.declared.replies.Reply.{Reply}
use Rattle.outside.specs.declared.replies.Reply.TheVariants.{Body, Quoted, Lost, Garbled, Unsent, Oversize}
use Rattle.http_fetch.specs.declared.fields.Kind.{Kind}
use Rattle.http_fetch.specs.declared.fields.Kind.TheVariants as kinds
use Rattle.http_fetch.specs.Fields.{framing, kind}
use Rattle.om_reader.specs.Bodies.{converted}
use Rattle.http_fetch.specs.Chunks.{IsChunked, ExceedsInChunks}

-- the text is the head h, and then rest
pub record HeadAt (text : List ℕ) (h : ResponseHead) (rest : List ℕ) : Type 0 where
  pub reads : ReadsResponse text h rest
  pub few : length h.fields ≤ 64
  pub short : length (print_response h) ≤ 65536

-- the head says that another follows
abbrev pub IsInterim : ResponseHead → Type 0
IsInterim h = (100 ≤ status_code h) × (status_code h < 200)

-- the text is these heads, after each of which another follows, and then rest
abbrev pub Interims : List ResponseHead → List ℕ → List ℕ → Type 0
Interims [] text rest = text ≡ rest
Interims (h ∷ hs) text rest = (after : List ℕ) × HeadAt text h after × IsInterim h × Interims hs after rest

-- the text is at most n such heads, the head h, after which none follows, and then rest
pub record Reaches (n : ℕ) (text : List ℕ) (h : ResponseHead) (rest : List ℕ) : Type 0 where
  pub interims : List ResponseHead
  pub few : length interims ≤ n
  pub mid : List ℕ
  pub passed : Interims interims text mid
  pub head : HeadAt mid h rest
  pub final : 200 ≤ status_code h

-- the text has these bytes in front
abbrev pub HasFront : List ℕ → List ℕ → Type 0
HasFront text bytes = (rest : List ℕ) × (text ≡ bytes ++ rest)

-- the text behind a head is a whole body of these bytes, and what follows it
abbrev pub IsBody : Framing → List ℕ → List ℕ → Type 0
IsBody Refused text bytes = ⊥
IsBody (Length n) text bytes = (length bytes ≡ n) × HasFront text bytes
IsBody Chunks text bytes = IsChunked text bytes
IsBody ToEnd text bytes = text ≡ bytes

-- the text behind a head shows that the body has more than room bytes
abbrev pub Exceeds : Framing → List ℕ → ℕ → Type 0
Exceeds Refused text room = ⊥
Exceeds (Length n) text room = room < n
Exceeds Chunks text room = ExceedsInChunks text room
Exceeds ToEnd text room = room < length text

-- how the body goes behind a head
abbrev pub framing_of : ResponseHead → Framing
framing_of h = framing (map name_and_value h.fields)

-- a head of the code, then text, is a whole reply: at 200 a body within the limit, else none
abbrev pub WholeAfter : ℕ → Framing → List ℕ → ℕ → ℕ × List ℕ → Type 0
WholeAfter code f text limit (status, bytes) =
    (status ≡ code) × (((code ≢ 200) × (bytes ≡ [])) ⊎ ((code ≡ 200) × IsBody f text bytes × (length bytes ≤ limit)))

-- a head of the code, then text, shows a body that is longer than the limit
abbrev pub OverAfter : ℕ → Framing → List ℕ → ℕ → Type 0
OverAfter code f text limit = (code ≡ 200) × Exceeds f text limit

-- behind at most n heads after which another follows, the text begins with a whole reply
pub record IsWhole (n : ℕ) (text : List ℕ) (limit status : ℕ) (bytes : List ℕ) : Type 0 where
  pub head : ResponseHead
  pub rest : List ℕ
  pub reaches : Reaches n text head rest
  pub whole : WholeAfter (status_code head) (framing_of head) rest limit (status, bytes)

-- or it shows a body that is longer than the limit
pub record IsOver (n : ℕ) (text : List ℕ) (limit : ℕ) : Type 0 where
  pub head : ResponseHead
  pub rest : List ℕ
  pub reaches : Reaches n text head rest
  pub over : OverAfter (status_code head) (framing_of head) rest limit

-- the reply that the bytes give, its body as it came
abbrev pub Came : List ℕ → ℕ → Reply → Type 0
Came b limit (Body status bytes) = IsWhole 8 b limit status bytes
Came b limit Oversize = IsOver 8 b limit
Came b limit Garbled = ((status : ℕ) (bytes : List ℕ) → ¬ (IsWhole 8 b limit status bytes)) × ¬ (IsOver 8 b limit)
Came b limit (Quoted status bytes) = ⊥
Came b limit Lost = ⊥
Came b limit Unsent = ⊥

-- the reply of a body of OpenMetrics that was converted: the text, where it is within the limit; none where a line is faulty
abbrev pub converted_reply : ℕ → Result (List ℕ) ℕ → Reply
converted_reply limit (Ok text) = if nat_le (length text) limit then Body 200 text else Oversize
converted_reply limit (Err line) = Garbled

-- the reply of a body of status 200, by what its head says that it is of: one of OpenMetrics is converted
abbrev pub page_of : Kind → ℕ → List ℕ → Reply
page_of kinds.OpenMetrics limit bytes = converted_reply limit (converted bytes)
page_of kinds.Quoted limit bytes = Quoted 200 bytes
page_of kinds.Plain limit bytes = Body 200 bytes

-- the reply of a whole reply; a body of another status stays
abbrev pub rendered : Kind → ℕ → ℕ → List ℕ → Reply
rendered kind limit status bytes = if status == 200 then page_of kind limit bytes else Body status bytes

-- what a head says that the body is of
abbrev pub kind_of : ResponseHead → Kind
kind_of h = kind (map name_and_value h.fields)

-- what the reply that came becomes
abbrev pub Becomes : List ℕ → ℕ → Reply → Reply → Type 0
Becomes b limit (Body status bytes) r = (h : ResponseHead) × (rest : List ℕ) × Reaches 8 b h rest × (r ≡ rendered (kind_of h) limit status bytes)
Becomes b limit Oversize r = r ≡ Oversize
Becomes b limit Garbled r = r ≡ Garbled
Becomes b limit (Quoted status bytes) r = ⊥
Becomes b limit Lost r = ⊥
Becomes b limit Unsent r = ⊥

-- the reply that the bytes give
abbrev pub Http : List ℕ → ℕ → Reply → Type 0
Http b limit r = (came : Reply) × Came b limit came × Becomes b limit came r

-- a head of the code, then text, is a whole reply that ends before the link may
abbrev pub EndsAfter : ℕ → Framing → List ℕ → ℕ → ℕ × List ℕ → Type 0
EndsAfter code f text limit (status, bytes) = WholeAfter code f text limit (status, bytes) × ((code ≢ 200) ⊎ (f ≢ ToEnd))

-- b holds a whole reply, which does not go to the end of the link
pub record IsEnded (b : List ℕ) (limit status : ℕ) (bytes : List ℕ) : Type 0 where
  pub head : ResponseHead
  pub rest : List ℕ
  pub reaches : Reaches 8 b head rest
  pub ends : EndsAfter (status_code head) (framing_of head) rest limit (status, bytes)
