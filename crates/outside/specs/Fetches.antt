-- What contracts see of what fetches, and what a fetch says.
use Rattle.std.specs.Prelude.{◌≡◌, ◌≤◌, ◌^◌, ℕ, ℤ, pos, negsuc, List, [], ◌∷◌, ◌++◌, length, Option, Some, IfSome, ◌↔◌}
use Rattle.outside.specs.declared.requests.Request.{Request}
use Rattle.outside.specs.declared.requests.Fetched.{Fetched}
use Rattle.outside.specs.declared.requests.Scheme.TheVariants.{Https}
use Rattle.outside.specs.declared.replies.Reply.{Reply}
use Rattle.outside.specs.declared.replies.Reply.TheVariants.{Body, Quoted, Lost, Unsent}
use Rattle.outside.specs.declared.calls.Call.{Call}
use Rattle.outside.specs.Clocks.{IsReading}
use Rattle.outside.specs.Sizes.{most_body_bytes}
use Rattle.outside.specs.Objects.{Use, Rose}

-- what fetches: its answered calls, where they are known, and how often a reply was lost
pub record FetchSeen : Type 0 where
  pub calls : Option (List Call)
  pub faults : ℕ

-- a call with its answer
abbrev pub call : Request → Fetched → Call
call r f = record { request = r; fetched = f }

-- from 0 to 2^40 milliseconds
abbrev pub IsTimeout : ℤ → Type 0
IsTimeout (pos n) = n ≤ 2 ^ 40
IsTimeout (negsuc n) = ⊥

-- a status code of three digits, and at most 64 MiB
abbrev pub IsReplyInLimits : Reply → Type 0
IsReplyInLimits (Body status bytes) = (100 ≤ status) × (status ≤ 999) × (length bytes ≤ most_body_bytes)
IsReplyInLimits (Quoted status bytes) = (100 ≤ status) × (status ≤ 999) × (length bytes ≤ most_body_bytes)
IsReplyInLimits _ = Unit {0}

-- what is fetched keeps its limits
pub record IsInLimits (f : Fetched) : Type 0 where
  pub took : IsReading f.took
  pub reply : IsReplyInLimits f.reply

-- where the answered calls were known, they are known now, with this one last
abbrev pub AddsCall : Request → Fetched → Use FetchSeen → Type 0
AddsCall request f u = IfSome u.before.calls (λ cs. u.after.calls ≡ Some (cs ++ call request f ∷ []))

-- the count rose where the reply was lost, and stayed at every other
abbrev pub CountsReply : Reply → Use FetchSeen → Type 0
CountsReply Lost u = Rose u.before.faults u.after.faults
CountsReply _ u = u.after.faults ≡ u.before.faults

-- a fetch that is for https, and no other, isn't sent
abbrev pub IsUnsentRightly : Request → Fetched → Type 0
IsUnsentRightly request f = (f.reply ≡ Unsent) ↔ (request.scheme ≡ Https)
