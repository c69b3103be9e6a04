-- What is sent over a link and what comes back, by what is known of the link.
use Rattle.std.specs.Prelude.{◌≡◌, ℕ, ◌-◌, ◌≤◌, ℤ, pos, List, ◌++◌, length, Option, Some, IfSome}
use Rattle.value_text.specs.Numbers.{number}
use Rattle.outside.specs.declared.requests.Request.{Request}
use Rattle.outside.specs.declared.replies.Reply.{Reply}
use Rattle.outside.specs.declared.replies.Reply.TheVariants.{Lost, Unsent}
use Rattle.outside.specs.Objects.{Use, Rose}
use Rattle.outside.specs.Sources.{Gives}
use Rattle.outside.specs.Clocks.{ClockSeen, next_reading, later_readings}
use Rattle.outside.specs.Links.{LinkSeen, TookToSend}
use Rattle.http_fetch.specs.declared.decoder.Decoder.{Decoder}
use Rattle.http_fetch.specs.Decoders.{StandsFor, MustEnd}
use Rattle.http_fetch.specs.Replies.{Http}
use Rattle.http_fetch.specs.Requests.{request_text}

-- where what was sent is known, these bytes were sent behind it
abbrev pub Adds : List ℕ → Use LinkSeen → Type 0
Adds bytes u = IfSome u.before.sent (λ had. u.after.sent ≡ Some (had ++ bytes))

-- the same with a front of the bytes
abbrev pub AddsFront : List ℕ → Use LinkSeen → Type 0
AddsFront bytes u = (front : List ℕ) × (rest : List ℕ) × (bytes ≡ front ++ rest) × Adds front u

-- nothing was sent
abbrev pub SendsNothing : Use LinkSeen → Type 0
SendsNothing u = u.after.sent ≡ u.before.sent

-- a call failed on the way: a front of the bytes was sent, and a fault was counted
pub record SentFront (bytes : List ℕ) (u : Use LinkSeen) : Type 0 where
  pub front : AddsFront bytes u
  pub counted : Rose u.before.faults u.after.faults

-- a front of the text was sent, and this is the rest
pub record HasSent (text rest : List ℕ) (u : Use LinkSeen) : Type 0 where
  pub front : List ℕ
  pub all : text ≡ front ++ rest
  pub took : TookToSend front u

-- the request was sent: all of it, or a front where the reply is lost
abbrev pub SendsRequest : Request → Reply → Use LinkSeen → Type 0
SendsRequest request Lost u = AddsFront (request_text request) u
SendsRequest request r u = Adds (request_text request) u

-- the reply to these bytes is this one, where the link's bytes are known
abbrev pub RepliesTo : ℕ → Reply → Use LinkSeen → Type 0
RepliesTo limit r u = (u.after.faults ≡ u.before.faults) × IfSome u.before.left (λ b. Http b limit r)

-- the reply is lost where a call of the link failed, and no other; else it is that of what the link had left
abbrev pub IsReplyOf : ℕ → Reply → Use LinkSeen → Type 0
IsReplyOf limit Lost u = Rose u.before.faults u.after.faults
IsReplyOf limit Unsent u = ⊥
IsReplyOf limit r u = RepliesTo limit r u

-- so many bytes at least were read of the link, and the decoder stands for them
pub record HasRead (u : Use LinkSeen) (d : Decoder) (limit count : ℕ) : Type 0 where
  pub bytes : List ℕ
  pub left : Gives bytes u.before.left u.after.left
  pub rest : u.after ≡ record u.before { left = u.after.left }
  pub stands : StandsFor d limit bytes
  pub many : count ≤ length bytes
  pub going : ¬ (MustEnd bytes limit)

-- the milliseconds from one reading to a later one; 0 where the clock went back
abbrev pub time_between : ℤ → ℤ → ℤ
time_between before after = pos (number after - number before)

-- so long it took, by two readings of the clock, where they are known
pub record TakesTime (took : ℤ) (readings : List ℤ) (after : Option (List ℤ)) : Type 0 where
  pub time : took ≡ time_between (next_reading readings) (next_reading (later_readings readings))
  pub later : after ≡ Some (later_readings (later_readings readings))

abbrev pub WasTimed : ℤ → Use ClockSeen → Type 0
WasTimed took u = IfSome u.before.readings (λ readings. TakesTime took readings u.after.readings)
