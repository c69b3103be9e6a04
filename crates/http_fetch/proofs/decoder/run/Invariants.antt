use Rattle.std.proofs.Common.{ℕ, List, ◌≤◌, ◌+◌, length, vec_len, vec_capacity}
use Rattle.http_fetch.specs.Stages.{Leads, Fits, decoding}
use Rattle.http_fetch.specs.Kinds.{StageKind}
use Rattle.http_fetch.specs.Decoders.{LeavesOff}
use Rattle.http_fetch.proofs.decoder.run.Given as goal

abbrev pub invariant-loop-rest : goal.invariant-loop-rest
invariant-loop-rest l = record {
  leads : Fits l.fn.place.stage l.limit l.fn.body.items → Leads l.limit (decoding l.fn.place.stage l.fn.body.items l.text) (decoding l.stage l.body.items l.rest);
  kind : (b : List ℕ) → StageKind l.fn.place.stage l.fn.place.kind 8 b l.text → StageKind l.stage l.kind 8 b l.rest;
  room : vec_len l.body + length l.rest ≤ vec_capacity l.body;
  off : LeavesOff l.text l.rest;
}

abbrev pub decreases-loop-rest : goal.decreases-loop-rest
decreases-loop-rest l = length l.rest
