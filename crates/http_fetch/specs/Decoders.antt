-- What a decoder stands for.
use Rattle.std.specs.Prelude.{◌≡◌, ℕ, false, ◌⊎◌, ◌≤◌, length, List, ◌++◌, ◌↔◌}
use Rattle.http_fetch.specs.declared.decoder.Decoder.{Decoder}
use Rattle.outside.specs.declared.replies.Reply.{Reply}
use Rattle.http_fetch.specs.Replies.{Http, IsOver, IsEnded}
use Rattle.http_fetch.specs.Kinds.{StageKind}
use Rattle.http_fetch.specs.Stages.{Stands}
use Rattle.http_fetch.specs.Steps.{is_done}
use Rattle.http_fetch.specs.Reading.{IsShort}

-- the decoder has taken b under the limit: whatever follows, b with it gives what the decoder's place gives;
-- of the bytes that it took it holds the body so far and, until it is done, a short text that waits for its end; behind the last head it knows
-- whether the body is of OpenMetrics
pub record StandsFor (d : Decoder) (limit : ℕ) (b : List ℕ) : Type 0 where
  pub limit_is : d.limit ≡ limit
  pub stands : Stands limit d.stage d.body.items d.pending.items b
  pub short : is_done d.stage ≡ false → IsShort d.pending.items
  pub kind : StageKind d.stage d.kind 8 b d.pending.items

-- of all that it took the decoder holds a body within the limit, and a text that waits for its end and is short
abbrev pub HoldsLittle : Decoder → ℕ → Type 0
HoldsLittle d limit = (length d.body.items ≤ limit) × IsShort d.pending.items

-- nothing changed but room
pub record SameParts (old new : Decoder) : Type 0 where
  pub limit : new.limit ≡ old.limit
  pub stage : new.stage ≡ old.stage
  pub kind : new.kind ≡ old.kind
  pub body : new.body.items ≡ old.body.items
  pub pending : new.pending.items ≡ old.pending.items

-- each continuation gives the same reply
abbrev pub IsSettled : List ℕ → ℕ → Type 0
IsSettled b limit = (more : List ℕ) (r : Reply) → Http b limit r ↔ Http (b ++ more) limit r

-- the bytes hold a whole reply that doesn't go to the end of the link, or the body is known to be longer than the limit
abbrev pub MustEnd : List ℕ → ℕ → Type 0
MustEnd b limit = ((status : ℕ) × (bytes : List ℕ) × IsEnded b limit status bytes) ⊎ IsOver 8 b limit

-- the rest is the end of the text
abbrev pub LeavesOff : List ℕ → List ℕ → Type 0
LeavesOff text rest = (front : List ℕ) × (text ≡ front ++ rest)
