-- Laws over the definitions.
use Rattle.std.specs.Prelude.{◌≡◌, ℕ, ◌^◌, ◌≤◌, List, ◌++◌, length}
use Rattle.outside.specs.declared.replies.Reply.{Reply}
use Rattle.outside.specs.declared.replies.Reply.TheVariants.{Garbled}
use Rattle.http_fetch.specs.Replies.{Http}
use Rattle.http_fetch.specs.Decoders.{MustEnd}

-- within a limit of 64 MiB, bytes that needn't have ended after 2^35 of them are no reply, whatever follows
abbrev pub LastRead : Type 0
LastRead = (limit : ℕ) (b more : List ℕ) → limit ≤ 2 ^ 26 → 2 ^ 35 ≤ length b → ¬ (MustEnd b limit) → Http (b ++ more) limit Garbled

-- the bytes give one reply
abbrev pub OneReply : Type 0
OneReply = (b : List ℕ) (limit : ℕ) (r s : Reply) → Http b limit r → Http b limit s → r ≡ s
