-- What the decoder still expects at each of its places.
use Rattle.std.specs.Prelude.{◌≡◌, ℕ, ◌+◌, ◌-◌, ◌<◌, ◌≤◌, ◌⊎◌, true, List, [], ◌++◌, length}
use Rattle.std.specs.List.{list_all}
use Rattle.http_fetch.specs.declared.stages.Stage.{Stage}
use Rattle.http_fetch.specs.declared.stages.Stage.TheVariants.{Heads, Length, Line, Data, Trailer, Open, Whole, Over, Never}
use Rattle.http_fetch.specs.Chunks.{ExceedsInChunks, is_text}
use Rattle.http_fetch.specs.Replies.{IsWhole, IsOver}
use Rattle.http_fetch.specs.Reading.{NoHead, NoLine, NoEnd}
use Rattle.http_fetch.specs.Expected.{ExceedsData, Grown}

-- at the stage, with these bytes of the body, the text gives a whole reply
abbrev pub WholeFrom : Stage → ℕ → List ℕ → List ℕ → ℕ × List ℕ → Type 0
WholeFrom (Heads left) limit got text (status, bytes) = IsWhole left text limit status bytes
WholeFrom (Length left) limit got text (status, bytes) = Grown (Length left) limit got text (status, bytes)
WholeFrom Line limit got text (status, bytes) = Grown Line limit got text (status, bytes)
WholeFrom (Data left) limit got text (status, bytes) = Grown (Data left) limit got text (status, bytes)
WholeFrom (Trailer room) limit got text (status, bytes) = Grown (Trailer room) limit got text (status, bytes)
WholeFrom Open limit got text (status, bytes) = Grown Open limit got text (status, bytes)
WholeFrom (Whole code) limit got text (status, bytes) = (status ≡ code) × (bytes ≡ got)
WholeFrom Over limit got text (status, bytes) = ⊥
WholeFrom Never limit got text (status, bytes) = ⊥

-- or a body longer than the limit
abbrev pub OverFrom : Stage → ℕ → List ℕ → List ℕ → Type 0
OverFrom (Heads left) limit got text = IsOver left text limit
OverFrom (Length left) limit got text = ⊥
OverFrom Line limit got text = ExceedsInChunks text (limit - length got)
OverFrom (Data left) limit got text = ExceedsData left text (limit - length got)
OverFrom (Trailer room) limit got text = ⊥
OverFrom Open limit got text = limit - length got < length text
OverFrom (Whole code) limit got text = ⊥
OverFrom Over limit got text = Unit {0}
OverFrom Never limit got text = ⊥

-- where the decoding of a reply is: at a stage, with these bytes of the body, before this text
pub record Decoding : Type 0 where
  pub stage : Stage
  pub got : List ℕ
  pub text : List ℕ

abbrev pub decoding : Stage → List ℕ → List ℕ → Decoding
decoding stage got text = record { stage = stage; got = got; text = text }

-- the same, where more text follows
abbrev pub followed : Decoding → List ℕ → Decoding
followed d more = decoding d.stage d.got (d.text ++ more)

-- one gives what the other gives
pub record Same (limit : ℕ) (one other : Decoding) : Type 0 where
  pub whole : (status : ℕ) (bytes : List ℕ) →
      WholeFrom one.stage limit one.got one.text (status, bytes) → WholeFrom other.stage limit other.got other.text (status, bytes)
  pub whole_back : (status : ℕ) (bytes : List ℕ) →
      WholeFrom other.stage limit other.got other.text (status, bytes) → WholeFrom one.stage limit one.got one.text (status, bytes)
  pub over : OverFrom one.stage limit one.got one.text → OverFrom other.stage limit other.got other.text
  pub over_back : OverFrom other.stage limit other.got other.text → OverFrom one.stage limit one.got one.text

-- what is known at a stage of the body so far
abbrev pub Fits : Stage → ℕ → List ℕ → Type 0
Fits (Heads left) limit got = got ≡ []
Fits (Length left) limit got = (0 < left) × (length got + left ≤ limit)
Fits Line limit got = length got ≤ limit
Fits (Data left) limit got = length got + left ≤ limit
Fits (Trailer room) limit got = (length got ≤ limit) × (room ≤ 65536)
Fits Open limit got = length got ≤ limit
Fits (Whole code) limit got = length got ≤ limit
Fits Over limit got = Unit {0}
Fits Never limit got = Unit {0}

-- from one place to another, whatever follows the text
pub record Leads (limit : ℕ) (one other : Decoding) : Type 0 where
  pub fits : Fits other.stage limit other.got
  pub same : (more : List ℕ) → Same limit (followed one more) (followed other more)

-- the text is none at which the stage can be left
abbrev pub Waits : Stage → List ℕ → Type 0
Waits (Heads left) text = NoHead text
Waits (Length left) text = text ≡ []
Waits Line text = NoLine text
Waits (Data left) text = ((0 < left) × (text ≡ [])) ⊎ ((left ≡ 0) × NoEnd text)
Waits (Trailer room) text = list_all is_text text ≡ true
Waits Open text = text ≡ []
Waits (Whole code) text = Unit {0}
Waits Over text = Unit {0}
Waits Never text = Unit {0}

-- the decoder's parts stand for b
pub record Stands (limit : ℕ) (stage : Stage) (body pending : List ℕ) (b : List ℕ) : Type 0 where
  pub leads : Fits stage limit body
  pub waits : Waits stage pending
  pub same : (more : List ℕ) → Same limit (decoding (Heads 8) [] (b ++ more)) (decoding stage body (pending ++ more))
