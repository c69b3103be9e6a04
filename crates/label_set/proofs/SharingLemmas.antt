-- The values of this crate may go to other threads and be shared by them: no part of them belongs to one thread.
use denote.Param.Send.{IsSend, IsSync, sendable}
use Rattle.std.proofs.Crossing.{crosses}
use Rattle.std.proofs.MapsCrossing as maps
use Rattle.label_set.specs.contracts.lists.ListOf as ListOf
use Rattle.label_set.specs.contracts.sets.LabelSet as LabelSet
use Rattle.label_set.specs.contracts.shared.Shared as Shared
use Rattle.label_set.specs.contracts.texts.Blob as Blob
use Rattle.label_set.specs.contracts.texts.Name as Name
use Rattle.label_set.specs.contracts.texts.Pair as Pair

pub blob_send : IsSend Blob.the_row
blob_send = search (sendable, crosses) depth 60 fits 10000

pub blob_sync : IsSync Blob.the_row
blob_sync = search (sendable, crosses) depth 60 fits 10000

pub name_send : IsSend Name.the_row
name_send = search (maps.crosses, sendable, crosses) depth 60 fits 10000

pub name_sync : IsSync Name.the_row
name_sync = search (maps.crosses, sendable, crosses) depth 60 fits 10000

pub pair_send : IsSend Pair.the_row
pair_send = search (name_send, name_sync, sendable, crosses) depth 60 fits 10000

pub pair_sync : IsSync Pair.the_row
pair_sync = search (name_send, name_sync, sendable, crosses) depth 60 fits 10000

pub name_list_send : IsSend (ListOf.the_row Name.the_row)
name_list_send = search (name_send, name_sync, sendable, crosses) depth 60 fits 10000

pub name_list_sync : IsSync (ListOf.the_row Name.the_row)
name_list_sync = search (name_send, name_sync, sendable, crosses) depth 60 fits 10000

pub pair_list_send : IsSend (ListOf.the_row Pair.the_row)
pair_list_send = search (pair_send, pair_sync, sendable, crosses) depth 60 fits 10000

pub pair_list_sync : IsSync (ListOf.the_row Pair.the_row)
pair_list_sync = search (pair_send, pair_sync, sendable, crosses) depth 60 fits 10000

pub shared_send : IsSend Shared.the_row
shared_send = search (sendable, crosses) depth 60 fits 10000

pub shared_sync : IsSync Shared.the_row
shared_sync = search (sendable, crosses) depth 60 fits 10000

pub label_set_send : IsSend LabelSet.the_row
label_set_send = search (shared_send, shared_sync, sendable, crosses) depth 60 fits 10000

pub label_set_sync : IsSync LabelSet.the_row
label_set_sync = search (shared_send, shared_sync, sendable, crosses) depth 60 fits 10000
