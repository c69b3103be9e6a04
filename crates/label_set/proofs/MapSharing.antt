-- The columns and the table of a map in insertion order may go to other threads and be shared by them, as its keys and values may.
use denote.Param.Send.{IsSend, IsSync, sendable}
use denote.RattleType.{RattleType}
use Rattle.std.proofs.Crossing.{frees, send, sync}
use Rattle.std_collections.proofs.Crosses as maps
use Rattle.std_collections.specs.contracts.columns.Columns as Columns
use Rattle.std_collections.specs.contracts.index_table.Bucket as Bucket
use Rattle.std_collections.specs.contracts.index_table.IndexTable as IndexTable
use Rattle.std_collections.specs.contracts.index_table.group.Group as Group
use Rattle.std_heap.specs.contracts.Global as Heap
use Rattle.std_heap.specs.contracts.GlobalAllocator.TheImpl.{ghosts}

pub columns_send : (K V : RattleType) → IsSend K → IsSend V → IsSend (Columns.the_field K V Heap.the_row ghosts).row
columns_send K V k v = maps.Columns-send K V Heap.the_row ghosts k v send frees

pub columns_sync : (K V : RattleType) → IsSync K → IsSync V → IsSync (Columns.the_field K V Heap.the_row ghosts).row
columns_sync K V k v = maps.Columns-sync K V Heap.the_row ghosts k v sync

pub table_send : IsSend (IndexTable.the_field Heap.the_row ghosts).row
table_send =
    let a = maps.column_send Heap.the_row ghosts Group.the_row (search sendable depth 20) send frees in
    let b = maps.column_send Heap.the_row ghosts Bucket.the_row (search sendable depth 20) send frees in
    search sendable depth 20

pub table_sync : IsSync (IndexTable.the_field Heap.the_row ghosts).row
table_sync =
    let a = maps.column_sync Heap.the_row ghosts Group.the_row (search sendable depth 20) sync in
    let b = maps.column_sync Heap.the_row ghosts Bucket.the_row (search sendable depth 20) sync in
    search sendable depth 20
