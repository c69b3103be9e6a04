-- Passes of a turn lock, as its callers speak of them.
use Rattle.std.specs.Prelude.{◌≡◌, ℕ, ◌+◌, ◌-◌, List, [], ◌∷◌, length, replicate, None}
use mathlib.Core.List.{IsPrefix}
use Rattle.atomic_table.specs.Seated.{TableId}
use Rattle.turn_lock.specs.declared.views.Part.{Part}
use Rattle.turn_lock.specs.declared.views.View.{View}
use Rattle.turn_lock.specs.declared.views.Stage.TheVariants.{Idle, Waiting, Turn}
use Rattle.turn_lock.specs.declared.lock.Pass.{Pass}
use Rattle.turn_lock.specs.declared.lock.TurnLock.{TurnLock}
use Rattle.turn_lock.specs.Turns.{part, own, ticket_of}

module _ {E : Type 0} where
  abbrev pub seen_in : List (Part E) → List E
  seen_in [] = []
  seen_in (p ∷ ps) = p.seen

  abbrev pub own_in : List (Part E) → List E
  own_in [] = []
  own_in (p ∷ ps) = p.mine

module _ {T E : Type 0} where
  -- the number that the pass bears
  abbrev pub number_of : Pass T E → ℕ
  number_of p = p.place.me.0.number

  -- what the pass has seen of the journal
  abbrev pub seen_by : Pass T E → List E
  seen_by p = seen_in p.place.me.0.parts

  -- the pass's own entries
  abbrev pub own_of : Pass T E → List E
  own_of p = own_in p.place.me.0.parts

  -- both together
  abbrev pub part_of : Pass T E → Part E
  part_of p = part (seen_by p) (own_of p)

  -- the pass has no turn, and asked for none
  abbrev pub IsIdle : Pass T E → Type 0
  IsIdle p = (p.place.me.0.stage ≡ Idle) × (p.place.me.1 ≡ []) × (length p.place.me.0.parts ≡ 1)

  -- the pass has the turn, and the value is out
  abbrev pub HasItsTurn : Pass T E → Type 0
  HasItsTurn p = (p.place.me.0.stage ≡ Turn (ticket_of p.place.me.0.stage)) × (p.place.me.1 ≡ (0, None) ∷ [])
      × (length p.place.me.0.parts ≡ 1) × (p.counted ≡ length (seen_by p))

  -- the pass is one of this lock
  abbrev pub IsPassOf : TurnLock T E → Pass T E → Type 0
  IsPassOf lock p = p.place.table_id ≡ lock.table.shared.table_id

  -- idle passes of one table, with the numbers from n on
  abbrev pub InOrder : TableId → ℕ → List (Pass T E) → Type 0
  InOrder z n [] = Unit {0}
  InOrder z n (p ∷ ps) = (p.place.table_id ≡ z) × IsIdle p × (number_of p ≡ n) × InOrder z (n + 1) ps

  -- how many passes the lock has
  abbrev pub made_of : TurnLock T E → ℕ
  made_of lock = lock.table.shared.key

  -- all passes of the lock, in their order, and none has the turn
  abbrev pub AreAll : TurnLock T E → List (Pass T E) → Type 0
  AreAll lock ps = InOrder lock.table.shared.table_id 0 ps × (length ps ≡ made_of lock)

-- the journal begins with what each pass had seen, and has of each number from n on just that pass's own entries
abbrev pub Gathers : {T E : Type 0} → (E → ℕ) → List E → ℕ → List (Pass T E) → Type 0
Gathers number log n [] = Unit {0}
Gathers number log n (p ∷ ps) = IsPrefix (seen_by p) log × (own number n log ≡ own_of p) × Gathers number log (n + 1) ps

-- what fresh passes know: the first has seen the journal, whose entries are its own, and the others have seen it
abbrev pub fresh_parts : {E : Type 0} → List E → ℕ → List (Part E)
fresh_parts log n = part log log ∷ replicate (n - 1) (part log [])

-- at the first turn, with the parts of the numbers after 0
abbrev pub start_view : {E : Type 0} → List (Part E) → View E
start_view ps = record { number = 0; parts = part [] [] ∷ ps; stage = Waiting 0 }

-- after the first turn, which brought this journal
abbrev pub home_view : {E : Type 0} → List E → List (Part E) → View E
home_view log ps = record { number = 0; parts = part log log ∷ ps; stage = Idle }
