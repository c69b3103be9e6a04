-- The late law: a fetch that was cancelled before it finished adds nothing.
use Rattle.std.specs.Prelude.{◌≡◌, ℕ, ℤ, Bool, true, false, List, [], ◌++◌, slice_get}
use Rattle.outside.specs.declared.replies.Reply.{Reply}
use Rattle.journal_text.specs.declared.events.Event.{Event}
use Rattle.journal_text.specs.declared.events.Event.TheVariants.{Finish}
use Rattle.scrape_machine.specs.declared.answers.Answer.{Answer}
use Rattle.scrape_machine.specs.declared.answers.Answer.TheVariants.{Counted}
use Rattle.scrape_machine.specs.Machine.{World, world_of, step, gives, answer}

-- a finish counts
abbrev pub is_counted : Answer → Bool
is_counted (Counted fault) = true
is_counted _ = false

-- an event gives no entry, and changes nothing but whether ticket k had its finish
pub record IsLate (w : World) (e : Event) (k : ℕ) : Type 0 where
  pub entries : gives w e ≡ []
  pub lives : (step w e).lives ≡ w.lives
  pub jobs : (step w e).jobs ≡ w.jobs
  pub halted : (step w e).halted ≡ w.halted
  pub others : (j : ℕ) → (j ≡ k → ⊥) → slice_get (step w e).started j ≡ slice_get w.started j

-- a finish that doesn't count is late
abbrev pub LateLaw : World → Type 0
LateLaw w = (k : ℕ) (took : ℤ) (r : Reply) → is_counted (answer w (Finish k took r)) ≡ false → IsLate w (Finish k took r) k

-- so it is wherever it stands in a journal
abbrev pub LateFronts : List Event → Type 0
LateFronts journal = (front behind : List Event) → journal ≡ front ++ behind → LateLaw (world_of front)
