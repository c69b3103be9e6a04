-- The values of this crate may go to other threads and be shared by them: no part of them belongs to one thread.
use denote.Param.Send.{IsSend, IsSync, sendable}
use denote.Param.SendFields.{declared_send, declared_sync}
use Rattle.std.proofs.Crossing.{crosses}
use Rattle.std.proofs.MapsCrossing as maps
use Rattle.appender_book.specs.contracts.book.Book as Book
use Rattle.appender_book.specs.contracts.book.Book.TheInside as BookInside
use Rattle.appender_book.specs.contracts.index.Index as Index
use Rattle.appender_book.specs.contracts.verdicts.Verdict as Verdict
use Rattle.report_samples.proofs.SharingLemmas.{entry_send, entry_sync}

pub verdict_send : IsSend Verdict.the_row
verdict_send = search (sendable, crosses) depth 60 fits 10000

pub verdict_sync : IsSync Verdict.the_row
verdict_sync = search (sendable, crosses) depth 60 fits 10000

pub index_send : IsSend Index.the_row
index_send = search (verdict_send, verdict_sync, maps.crosses, sendable, crosses) depth 60 fits 10000

pub index_sync : IsSync Index.the_row
index_sync = search (verdict_send, verdict_sync, maps.crosses, sendable, crosses) depth 60 fits 10000

inside_book_send : IsSend BookInside.the_row
inside_book_send = declared_send BookInside.the_type (search (entry_send, sendable, crosses) depth 40, (index_send, (search sendable depth 20, (search sendable depth 20, tt))))

pub book_send : IsSend Book.the_row
book_send = search (inside_book_send, sendable) depth 10

inside_book_sync : IsSync BookInside.the_row
inside_book_sync = declared_sync BookInside.the_type (search (entry_sync, sendable, crosses) depth 40, (index_sync, (search sendable depth 20, (search sendable depth 20, tt))))

pub book_sync : IsSync Book.the_row
book_sync = search (inside_book_sync, sendable) depth 10
