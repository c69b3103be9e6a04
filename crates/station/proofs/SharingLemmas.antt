-- What the threads of a run take along, and what they give back, may go there.
use mathlib.Core.List.{List, [], ◌∷◌}
use Prim.Native.Nat.{ℕ}
use mir.Syntax.{Lifetime}
use base.Fml.{Lft}
use denote.Param.{param}
use denote.Ref.{NamedLft, ShrRef}
use denote.RattleType.{RattleType}
use denote.Param.Send.{IsSend, IsSync, shr_send, sendable}
use denote.Param.SendFields.{as_row_send, declared_send}
use denote.Struct.Field.{row_field}
use denote.Struct.Tuple.{TupleAt, type_at}
use Rattle.std.proofs.Crossing.{Vec-send, send as heap_send}
use Rattle.std.specs.declared.sync.ledger.Ledger as Ledger
use Rattle.std.specs.contracts.alloc.Global as Heap
use Rattle.std.specs.contracts.vec.Vec as Vec
use Rattle.std.specs.contracts.impls.GlobalAllocator.TheImpl as heap
use Rattle.run_lock.specs.declared.asked.Asked as Asked
use Rattle.run_lock.specs.contracts.marks.Entry as Entry
use Rattle.run_lock.specs.contracts.state.RunState as RunState
use Rattle.run_lock.specs.contracts.state.RunStateKept.TheImpl as kept
use Rattle.run_lock.proofs.SharingLemmas.{run_state_send}
use Rattle.turn_lock.specs.contracts.lock.Pass as Pass
use Rattle.turn_lock.specs.contracts.lock.TurnLock as TurnLock
use Rattle.turn_lock.proofs.lock.Pass.TheSendSync as pass
use Rattle.turn_lock.proofs.lock.TurnLock.TheSendSync as lock
use Rattle.station.specs.contracts.crew.Crew as Crew
use Rattle.station.specs.contracts.ticker.Ticked as Ticked
use Rattle.station.specs.contracts.ticker.Ticker as Ticker
use Rattle.run_lock.specs.contracts.seat.Seat as Seat

abbrev pub ManyOf : RattleType → RattleType
ManyOf R = Vec.the_row R Heap.the_row heap.ghosts

module _ (L B : RattleType) (b : Asked.Ghosts B.Denot) (l : Ledger.Ghosts L.Denot) where
  abbrev pub TheState : RattleType
  TheState = RunState.the_row (param 0 L) (param 1 B) b l

  abbrev pub TheLock : RattleType
  TheLock = TurnLock.the_row TheState Entry.the_row (kept.ghosts (param 0 L) (param 1 B) l kept.no_dict b kept.no_dict)

  abbrev pub ThePass : RattleType
  ThePass = Pass.the_row TheState Entry.the_row

  pub lock_sync : IsSend (param 0 L) → IsSend (param 1 B) → IsSync TheLock
  lock_sync sl sb = lock.the_sync TheState Entry.the_row (kept.ghosts (param 0 L) (param 1 B) l kept.no_dict b kept.no_dict) (run_state_send (param 0 L) (param 1 B) b l sl sb)

  pub pass_send : IsSend (param 0 L) → IsSend (param 1 B) → IsSend ThePass
  pass_send sl sb = pass.the_send TheState Entry.the_row (run_state_send (param 0 L) (param 1 B) b l sl sb)

  -- what a crew gives back, and the ticker
  pub crew_back : (F : RattleType) (i : ℕ) → IsSend (param 0 L) → IsSend (param 1 B) → IsSend (param i F) → IsSend (Crew.the_row (param 0 L) (param 1 B) (param i F) b l)
  crew_back F i sl sb sf = declared_send (Crew.the_type (param 0 L) (param 1 B) (param i F) b l) (Vec-send (param i F) sf, (Vec-send ThePass (pass_send sl sb), (search sendable depth 20, tt)))

  pub ticked_back : (K : RattleType) (i : ℕ) → IsSend (param 0 L) → IsSend (param 1 B) → IsSend (param i K) → IsSend (Ticked.the_row (param 0 L) (param 1 B) (param i K) b l)
  ticked_back K i sl sb sk = declared_send (Ticked.the_type (param 0 L) (param 1 B) (param i K) b l) (as_row_send (row_field (param i K)) sk, (pass_send sl sb, (search sendable depth 20, tt)))

  module _ (R F : RattleType) (i : ℕ) (n₁ n₂ : Lifetime) (κ₁ κ₂ : Lft) where
    abbrev pub Taken : List RattleType
    Taken = ShrRef n₁ κ₁ (param 2 R) ∷ Heap.the_row ∷ ShrRef n₂ κ₂ TheLock ∷ ManyOf (param i F) ∷ ManyOf ThePass ∷ []

    -- what a thread of workers takes along may go there
    pub crew_send : IsSend (param 0 L) → IsSend (param 1 B) → IsSync (param 2 R) → IsSend (param i F) → IsSend (TupleAt [] Taken)
    crew_send sl sb yr sf = declared_send (type_at [] Taken) (
      as_row_send (row_field (ShrRef n₁ κ₁ (param 2 R))) (shr_send n₁ κ₁ (param 2 R) yr),
      (
        as_row_send (row_field Heap.the_row) heap_send,
        (
          as_row_send (row_field (ShrRef n₂ κ₂ TheLock)) (shr_send n₂ κ₂ TheLock (lock_sync sl sb)),
          (
            as_row_send (row_field (ManyOf (param i F))) (Vec-send (param i F) sf),
            (as_row_send (row_field (ManyOf ThePass)) (Vec-send ThePass (pass_send sl sb)), tt),
          ),
        ),
      ),
    )

  -- a seat, and the ticker with the passes of the workers
  pub seat_send : (n : NamedLft) (R : RattleType) → IsSend (param 0 L) → IsSend (param 1 B) → IsSync (param 2 R) → IsSend (Seat.the_row n (param 0 L) (param 1 B) (param 2 R) b l)
  seat_send n R sl sb yr =
      let shared = lock_sync sl sb in
      declared_send (Seat.the_type n (param 0 L) (param 1 B) (param 2 R) b l) (search (yr, sendable) depth 20, (heap_send, (search (shared, sendable) depth 20, (pass_send sl sb, tt))))

  pub ticker_send : (n : NamedLft) (R K : RattleType) (i : ℕ) → IsSend (param 0 L) → IsSend (param 1 B) → IsSync (param 2 R) → IsSend (param i K) → IsSend (Ticker.the_row n (param 0 L) (param 1 B) (param 2 R) (param i K) b l)
  ticker_send n R K i sl sb yr sk =
      declared_send (Ticker.the_type n (param 0 L) (param 1 B) (param 2 R) (param i K) b l) (search sendable depth 20, (as_row_send (row_field (Seat.the_row n (param 0 L) (param 1 B) (param 2 R) b l)) (seat_send n R sl sb yr), (as_row_send (row_field (param i K)) sk, tt)))

  module _ (R K F : RattleType) (k f : ℕ) (n : NamedLft) where
    abbrev pub TakenToo : List RattleType
    TakenToo = ManyOf (param f F) ∷ ManyOf ThePass ∷ Ticker.the_row n (param 0 L) (param 1 B) (param 2 R) (param k K) b l ∷ []

    -- what the thread of the workers and the ticker takes along may go there, and so may what it gives back
    pub loops_send : IsSend (param 0 L) → IsSend (param 1 B) → IsSync (param 2 R) → IsSend (param k K) → IsSend (param f F) → IsSend (TupleAt [] TakenToo)
    loops_send sl sb yr sk sf = declared_send (type_at [] TakenToo) (
      as_row_send (row_field (ManyOf (param f F))) (Vec-send (param f F) sf),
      (
        as_row_send (row_field (ManyOf ThePass)) (Vec-send ThePass (pass_send sl sb)),
        (as_row_send (row_field (Ticker.the_row n (param 0 L) (param 1 B) (param 2 R) (param k K) b l)) (ticker_send n R K k sl sb yr sk), tt),
      ),
    )

    abbrev pub Back : List RattleType
    Back = Crew.the_row (param 0 L) (param 1 B) (param f F) b l ∷ Ticked.the_row (param 0 L) (param 1 B) (param k K) b l ∷ []

    pub loops_back : IsSend (param 0 L) → IsSend (param 1 B) → IsSend (param k K) → IsSend (param f F) → IsSend (TupleAt [] Back)
    loops_back sl sb sk sf = declared_send (type_at [] Back) (
      as_row_send (row_field (Crew.the_row (param 0 L) (param 1 B) (param f F) b l)) (crew_back F f sl sb sf),
      (as_row_send (row_field (Ticked.the_row (param 0 L) (param 1 B) (param k K) b l)) (ticked_back K k sl sb sk), tt),
    )
