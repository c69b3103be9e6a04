-- The rule of the table under a turn lock, and what each step tells. Tickets are counted without end; the words of the
-- table have them modulo 2^64. A seat at the table knows a view: the numbers that it bears, what it has seen of the
-- journal and which entries are its own.
use Rattle.std.specs.Prelude.{◌≡◌, ◌≢◌, ℕ, ◌+◌, ◌%◌, ◌^◌, ◌<◌, ◌≤◌, List, [], ◌∷◌, ◌++◌, length, All, filter, drop, replicate, Option, Some, None, ◌==◌, MatchBool}
use mathlib.Core.Option.{some}
use mathlib.Core.List.{IsPrefix}
use lib.ListN.{get_elem?}
use Rattle.atomic_table.specs.Table.{State, Me, Step}
use Rattle.turn_lock.specs.declared.views.Part.{Part}
use Rattle.turn_lock.specs.declared.views.View.{View}
use Rattle.turn_lock.specs.declared.views.Stage.{Stage}
use Rattle.turn_lock.specs.declared.views.Stage.TheVariants.{Idle, Waiting, Turn}

-- of each view f, added up
abbrev pub total : {A : Type 0} → (A → ℕ) → List A → ℕ
total f [] = 0
total f (x ∷ xs) = f x + total f xs

-- how many tickets a stage has
abbrev pub tickets : Stage → ℕ
tickets Idle = 0
tickets (Waiting t) = 1
tickets (Turn t) = 1

abbrev pub ticket_of : Stage → ℕ
ticket_of Idle = 0
ticket_of (Waiting t) = t
ticket_of (Turn t) = t

-- the stage has this ticket
abbrev pub HasTicket : Stage → ℕ → Type 0
HasTicket Idle n = ⊥
HasTicket (Waiting t) n = t ≡ n
HasTicket (Turn t) n = t ≡ n

abbrev pub HasTurn : Stage → Type 0
HasTurn Idle = ⊥
HasTurn (Waiting t) = ⊥
HasTurn (Turn t) = Unit {0}

module _ {E : Type 0} where
  abbrev pub part : List E → List E → Part E
  part seen mine = record { seen = seen; mine = mine }

  -- the first part has seen the whole list
  abbrev pub HasSeen : List E → List (Part E) → Type 0
  HasSeen log [] = ⊥
  HasSeen log (p ∷ ps) = p.seen ≡ log

  -- a ticket lies from the served one up to those drawn. That of the turn is served, and its pass has seen the whole
  -- list
  abbrev pub Knows : ℕ → ℕ → List E → List (Part E) → Stage → Type 0
  Knows drawn served log ps Idle = Unit {0}
  Knows drawn served log ps (Waiting t) = (served ≤ t) × (t < drawn) × (0 < length ps)
  Knows drawn served log ps (Turn t) = (served ≡ t) × (t < drawn) × HasSeen log ps

  -- the view bears this number
  abbrev pub Bears : View E → ℕ → Type 0
  Bears v n = (v.number ≤ n) × (n < v.number + length v.parts)

  abbrev pub Holds : View E → ℕ → Type 0
  Holds v n = HasTicket v.stage n

  -- what one view has, no other has
  abbrev pub Apart : (View E → ℕ → Type 0) → List (View E) → Type 0
  Apart R vs = (a b : ℕ) (v w : View E) → get_elem? vs a ≡ some v → get_elem? vs b ≡ some w → a ≢ b → (n : ℕ) → R v n → R w n → ⊥

  -- the entries of a number
  abbrev pub own : (E → ℕ) → ℕ → List E → List E
  own number n es = filter (λ e. number e == n) es

  -- each part has seen a beginning of the list, which has just the part's own entries of its number
  abbrev pub PartsFit : (E → ℕ) → List E → ℕ → List (Part E) → Type 0
  PartsFit number log n [] = Unit {0}
  PartsFit number log n (p ∷ ps) = IsPrefix p.seen log × (own number n log ≡ p.mine) × PartsFit number log (n + 1) ps

  -- no view has the turn
  abbrev pub IsFree : List (View E) → Type 0
  IsFree vs = (seat : ℕ) (v : View E) → get_elem? vs seat ≡ some v → HasTurn v.stage → ⊥

  pub record Fits (number : E → ℕ) (made drawn served : ℕ) (log : List E) (v : View E) : Type 0 where
    pub stage : Knows drawn served log v.parts v.stage
    pub parts : PartsFit number log v.number v.parts
    pub within : v.number + length v.parts ≤ made

  abbrev pub ticket_count : View E → ℕ
  ticket_count v = tickets v.stage

  abbrev pub part_count : View E → ℕ
  part_count v = length v.parts

  abbrev pub staged : Stage → View E → View E
  staged st v = record { number = v.number; parts = v.parts; stage = st }

  -- the list begins with what the first part has seen, and has entries of this number beyond
  abbrev pub Continues : (E → ℕ) → ℕ → List (Part E) → List E → Type 0
  Continues number n [] log = ⊥
  Continues number n (p ∷ ps) log = (more : List E) × (log ≡ p.seen ++ more) × All (λ e. number e ≡ n) more

  -- how much the first part has seen
  abbrev pub seen_count : List (Part E) → ℕ
  seen_count [] = 0
  seen_count (p ∷ ps) = length p.seen

  abbrev pub learns : List E → List (Part E) → List (Part E)
  learns log [] = []
  learns log (p ∷ ps) = part log p.mine ∷ ps

  -- the view has seen the list
  abbrev pub learned : List E → Stage → View E → View E
  learned log st v = record { number = v.number; parts = learns log v.parts; stage = st }

  -- without the first part, whose list seen goes to the next one
  abbrev pub hand_on : List (Part E) → List (Part E)
  hand_on [] = []
  hand_on (p ∷ ps) = learns p.seen ps

  abbrev pub first_part : List (Part E) → List (Part E)
  first_part [] = []
  first_part (p ∷ ps) = p ∷ []

  -- a view of the first number, and one of the others
  abbrev pub split_off : View E → View E
  split_off v = record { number = v.number; parts = first_part v.parts; stage = Idle }

  abbrev pub remainder : View E → View E
  remainder v = record { number = v.number + 1; parts = hand_on v.parts; stage = Idle }

  -- one view of the numbers of two, and what is left of the second
  abbrev pub joined : View E → View E → View E
  joined v w = record { number = v.number; parts = v.parts ++ w.parts; stage = Idle }

  abbrev pub spent : View E
  spent = record { number = 0; parts = []; stage = Idle }

  abbrev pub grows : List E → List (Part E) → List (Part E)
  grows log [] = []
  grows log (p ∷ ps) = part log (p.mine ++ drop (length p.seen) log) ∷ ps

  -- what the list has beyond what was seen is the view's own
  abbrev pub grown : List E → View E → View E
  grown log v = record { number = v.number; parts = grows log v.parts; stage = v.stage }

  -- one view with all numbers, which has the first turn
  abbrev pub first_view : ℕ → View E
  first_view made = record { number = 0; parts = replicate made (part [] []); stage = Waiting 0 }

module _ {T E : Type 0} (entries : T → List E) (number : E → ℕ) where
  -- what lies in the slot while no pass has the turn: before the first turn nothing, and then a value that stands for the list
  abbrev pub IsHome : ℕ → List E → Option T → Type 0
  IsHome served log None = (served ≡ 0) × (log ≡ [])
  IsHome served log (Some x) = (0 < served) × (entries x ≡ log)

  pub record Turns (made : ℕ) (s : State (Option T) (View E)) : Type 0 where
    pub drawn : ℕ
    pub served : ℕ
    pub log : List E
    pub words : s.words ≡ drawn % 2 ^ 64 ∷ served % 2 ^ 64 ∷ length log % 2 ^ 64 ∷ []
    pub begun : 0 < drawn
    pub few : made < 2 ^ 32
    pub queued : served + total ticket_count s.views ≡ drawn
    pub borne : total part_count s.views ≡ made
    pub each : (seat : ℕ) (v : View E) → get_elem? s.views seat ≡ some v → Fits number made drawn served log v
    pub tickets_apart : Apart Holds s.views
    pub numbers_apart : Apart Bears s.views
    pub no_others : (n : ℕ) → made ≤ n → own number n log ≡ []
    pub home : IsFree s.views → (y : Option T) × (get_elem? s.homes 0 ≡ some (some y)) × IsHome served log y

  -- the list that a value stands for
  abbrev pub list_of : Option T → List E
  list_of None = []
  list_of (Some x) = entries x

  -- that of the value in hand
  abbrev pub list_in : List (ℕ × Option T) → List E
  list_in [] = []
  list_in (c ∷ cs) = list_of c.1

  -- the turn was found, and the slot taken
  abbrev pub Found : ℕ → Me (Option T) (View E) → Me (Option T) (View E) → Type 0
  Found t m m' = (log : List E) × (y : Option T) × IsHome t log y × PartsFit number log m.0.number m.0.parts
      × (m' ≡ (learned log (Turn t) m.0, (0, y) ∷ []))

  -- the turn was found where the word is the ticket, and else nothing changed
  abbrev pub Looked : ℕ → ℕ → Me (Option T) (View E) → Me (Option T) (View E) → Type 0
  Looked t k m m' = MatchBool (k == t % 2 ^ 64) (Found t m m') (m' ≡ m)

  -- a look finds the turn, with the slot, where the word is the ticket; the first ticket is served from the start
  abbrev pub looked : Step (Option T) → Me (Option T) (View E) → ℕ → Me (Option T) (View E) → Type 0
  looked st m k m' = (ticket_of m.0.stage ≡ 0 → k ≡ 0) × (m.1 ≡ [] → Looked (ticket_of m.0.stage) k m m')

  -- a value is in hand whose list goes on from what was seen, by so many entries of the seat's number
  abbrev pub HasMore : ℕ → Me (Option T) (View E) → Type 0
  HasMore more m = (x : T) × (m.1 ≡ (0, Some x) ∷ []) × Continues number m.0.number m.0.parts (entries x)
      × (seen_count m.0.parts + more ≡ length (entries x))

  -- a value is in hand whose list was seen
  abbrev pub HasCounted : Me (Option T) (View E) → Type 0
  HasCounted m = (x : T) × (m.1 ≡ (0, Some x) ∷ []) × HasSeen (entries x) m.0.parts

  -- the list is that of the value in hand
  abbrev pub counted : Step (Option T) → Me (Option T) (View E) → ℕ → Me (Option T) (View E) → Type 0
  counted st m k m' = m' ≡ (grown (list_in m.1) m.0, m.1)

module _ {T E : Type 0} where
  -- a ticket was drawn
  abbrev pub drew : Step (Option T) → Me (Option T) (View E) → ℕ → Me (Option T) (View E) → Type 0
  drew st m k m' = (t : ℕ) × (0 < t) × (k ≡ t % 2 ^ 64) × (m' ≡ (staged (Waiting t) m.0, m.1))

  -- the turn was passed on
  abbrev pub passed : Step (Option T) → Me (Option T) (View E) → ℕ → Me (Option T) (View E) → Type 0
  passed st m k m' = m' ≡ (staged Idle m.0, [])
