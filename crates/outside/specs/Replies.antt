-- Replies in memory.
use Rattle.std.specs.Prelude.{ℕ, pos, Bool, true, List, [], ◌∷◌, Some}
use Rattle.outside.specs.declared.requests.Request.{Request}
use Rattle.outside.specs.declared.requests.Fetched.{Fetched}
use Rattle.outside.specs.declared.requests.Scheme.{Scheme}
use Rattle.outside.specs.declared.requests.Scheme.TheVariants.{Http, Https}
use Rattle.outside.specs.declared.replies.Reply.{Reply}
use Rattle.outside.specs.declared.replies.Reply.TheVariants.{Lost, Unsent}
use Rattle.outside.specs.declared.calls.Call.{Call}
use Rattle.outside.specs.Fetches.{FetchSeen, IsInLimits}
use Rattle.outside.specs.Memory.{fails_now}
pub use Rattle.outside.specs.Objects.{raised}

-- replies in order, and the calls that were answered
pub record RepliesView : Type 0 where
  pub replies : List Fetched
  pub answered : List Call

-- the same of what is to fail at some of its calls, which are numbered from 0
pub record FailingRepliesView : Type 0 where
  pub replies : List Fetched
  pub answered : List Call
  pub fails : List ℕ
  pub calls : ℕ
  pub faults : ℕ

-- neither lost nor unsent
abbrev pub HasCome : Reply → Type 0
HasCome Lost = ⊥
HasCome Unsent = ⊥
HasCome _ = Unit {0}

-- a reply that a list may have: within its limits, and neither lost nor unsent
pub record IsReplyToGive (f : Fetched) : Type 0 where
  pub limits : IsInLimits f
  pub come : HasCome f.reply

-- an answer that took no time
abbrev pub at_once : Reply → Fetched
at_once reply = record { took = pos 0; reply = reply }

-- the first of the replies, or this one where there is none
abbrev pub first_or : List Fetched → Reply → Fetched
first_or [] none = at_once none
first_or (f ∷ fs) none = f

-- the replies without the first
abbrev pub without_first : List Fetched → List Fetched
without_first [] = []
without_first (f ∷ fs) = fs

-- what is answered for a scheme: https isn't sent; a call that is to fail, and one past the end of the replies, has this reply
abbrev pub answer_for : Scheme → List Fetched → Bool → Reply → Fetched
answer_for Https fs fails none = at_once Unsent
answer_for Http fs true none = at_once none
answer_for Http fs _ none = first_or fs none

-- what is left of the replies then
abbrev pub left_for : Scheme → List Fetched → Bool → List Fetched
left_for Http fs true = fs
left_for Http fs _ = without_first fs
left_for Https fs fails = fs

abbrev pub answer : List Fetched → Request → Bool → Reply → Fetched
answer fs request fails none = answer_for request.scheme fs fails none

abbrev pub replies_left : List Fetched → Request → Bool → List Fetched
replies_left fs request fails = left_for request.scheme fs fails

-- the count of faults once a reply was given
abbrev pub count_after : ℕ → Reply → ℕ
count_after faults Lost = raised faults
count_after faults _ = faults

-- whether the next call is to fail
abbrev pub is_to_fail : FailingRepliesView → Bool
is_to_fail f = fails_now f.fails f.calls

-- what contracts see of each
abbrev pub sure_seen : RepliesView → FetchSeen
sure_seen f = record { calls = Some f.answered; faults = 0 }

abbrev pub failing_seen : FailingRepliesView → FetchSeen
failing_seen f = record { calls = Some f.answered; faults = f.faults }
