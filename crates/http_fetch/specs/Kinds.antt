-- What a body is of, as the decoder knows it from its head on (RFC 9110, section 8.3, "Content-Type").
use Rattle.std.specs.Prelude.{◌≡◌, ℕ, Bool, true, false, List, ◌++◌, drop, Option, Some, None}
use Rattle.httparse.specs.Grammar.{ResponseHead}
use Rattle.http_fetch.specs.declared.fields.Kind.{Kind}
use Rattle.http_fetch.specs.declared.stages.Stage.{Stage}
use Rattle.http_fetch.specs.declared.stages.Stage.TheVariants.{Heads, Length, Line, Data, Trailer, Open, Whole, Over, Never}
use Rattle.http_fetch.specs.declared.stages.Step.{Step}
use Rattle.http_fetch.specs.Replies.{Reaches, kind_of}

-- the place is before a head
abbrev pub is_heads : Stage → Bool
is_heads (Heads left) = true
is_heads (Length left) = false
is_heads Line = false
is_heads (Data left) = false
is_heads (Trailer room) = false
is_heads Open = false
is_heads (Whole code) = false
is_heads Over = false
is_heads Never = false

-- the last head of b says this of the body
abbrev pub HasKind : ℕ → List ℕ → Kind → Type 0
HasKind n b kind = (h : ResponseHead) × (rest : List ℕ) × Reaches n b h rest × (kind ≡ kind_of h)

-- a head that is found behind the pending text is the last one of b, whatever follows
abbrev pub GoesOn : ℕ → List ℕ → ℕ → List ℕ → Type 0
GoesOn n b left pending = (more : List ℕ) (h : ResponseHead) (rest : List ℕ) → Reaches left (pending ++ more) h rest → Reaches n (b ++ more) h rest

-- at a place where b has been taken but for the pending text: what is known of its kind
abbrev pub StageKind : Stage → Kind → ℕ → List ℕ → List ℕ → Type 0
StageKind (Heads left) kind n b pending = GoesOn n b left pending
StageKind (Length left) kind n b pending = HasKind n b kind
StageKind Line kind n b pending = HasKind n b kind
StageKind (Data left) kind n b pending = HasKind n b kind
StageKind (Trailer room) kind n b pending = HasKind n b kind
StageKind Open kind n b pending = HasKind n b kind
StageKind (Whole code) kind n b pending = HasKind n b kind
StageKind Over kind n b pending = HasKind n b kind
StageKind Never kind n b pending = Unit {0}

-- a step keeps that: one over a head knows the text in front of it, and any other doesn't lead back to one
abbrev pub KeepsKind : Stage → List ℕ → Option Step → Type 0
KeepsKind (Heads left) text None = Unit {0}
KeepsKind (Heads left) text (Some s) = StageKind s.next s.kind left text (drop s.used text)
KeepsKind _ text None = Unit {0}
KeepsKind _ text (Some s) = is_heads s.next ≡ false
