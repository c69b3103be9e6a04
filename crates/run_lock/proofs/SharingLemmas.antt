-- What lies under the lock of a run may go to other threads: so the lock may be shared by them, and its passes may go there.
use denote.RattleType.{RattleType}
use denote.Param.Send.{IsSend, sendable}
use denote.Param.SendFields.{declared_send}
use Rattle.std.proofs.Crossing.{crosses}
use Rattle.std.specs.declared.sync.ledger.Ledger as Ledger
use Rattle.label_set.proofs.steps.Steps.TheSendSync as steps
use Rattle.scrape_core.proofs.SharingLemmas.{core_send}
use Rattle.run_lock.specs.declared.asked.Asked as Asked
use Rattle.run_lock.specs.contracts.state.RunState as RunState

pub run_state_send : (L B : RattleType) (b : Asked.Ghosts B.Denot) (l : Ledger.Ghosts L.Denot) → IsSend L → IsSend B → IsSend (RunState.the_row L B b l)
run_state_send L B b l sl sb =
    declared_send (RunState.the_type L B b l) (core_send, (steps.the_send L l, (search (sendable, crosses) depth 40, (search (sendable, crosses) depth 40, (search (sendable, crosses) depth 40, (search (sendable, crosses) depth 40, (search (sendable, crosses) depth 40, (search (sendable, crosses) depth 40, (search (sendable, crosses) depth 40, (search (sendable, crosses) depth 40, (search (sb, sendable, crosses) depth 40, tt)))))))))))
