-- The values of this crate may go to other threads and be shared by them: no part of them belongs to one thread.
use denote.Param.Send.{IsSend, IsSync, sendable}
use Rattle.std.proofs.Crossing.{crosses}
use Rattle.std.proofs.MapsCrossing as maps
use Rattle.label_set.proofs.MapSharing.{columns_send, columns_sync, table_send, table_sync}
use Rattle.label_set.proofs.SharingLemmas.{label_set_send, label_set_sync}
use Rattle.series_cache.specs.contracts.cache.SeriesCache as SeriesCache
use Rattle.series_cache.specs.contracts.known.Known as Known
use Rattle.series_cache.specs.contracts.seeded.Seeded as Seeded
use Rattle.series_cache.specs.contracts.texts.Expected as Expected
use Rattle.series_cache.specs.contracts.texts.Texts as Texts

pub known_send : IsSend Known.the_row
known_send = search (label_set_send, label_set_sync, sendable, crosses) depth 60 fits 10000

pub known_sync : IsSync Known.the_row
known_sync = search (label_set_send, label_set_sync, sendable, crosses) depth 60 fits 10000

pub seeded_send : IsSend Seeded.the_row
seeded_send = search (maps.crosses, sendable, crosses) depth 60 fits 10000

pub seeded_sync : IsSync Seeded.the_row
seeded_sync = search (maps.crosses, sendable, crosses) depth 60 fits 10000

pub expected_send : IsSend Expected.the_row
expected_send = search (sendable, crosses) depth 60 fits 10000

pub expected_sync : IsSync Expected.the_row
expected_sync = search (sendable, crosses) depth 60 fits 10000

pub texts_send : IsSend Texts.the_row
texts_send = search (known_send, known_sync, seeded_send, seeded_sync, columns_send, columns_sync, table_send, table_sync, sendable, crosses) depth 60 fits 10000

pub texts_sync : IsSync Texts.the_row
texts_sync = search (known_send, known_sync, seeded_send, seeded_sync, columns_send, columns_sync, table_send, table_sync, sendable, crosses) depth 60 fits 10000

pub cache_send : IsSend SeriesCache.the_row
cache_send = search (texts_send, texts_sync, expected_send, expected_sync, sendable, crosses) depth 60 fits 10000

pub cache_sync : IsSync SeriesCache.the_row
cache_sync = search (texts_send, texts_sync, expected_send, expected_sync, sendable, crosses) depth 60 fits 10000
