-- What may go to other threads, and be seen by several: lowest first, since the search doesn't find it of the whole.
use denote.Param.Send.{IsSend, IsSync, sendable}
use Rattle.std.proofs.Crossing.{crosses}
use Rattle.arrays.proofs.SendingLemmas.{schema-send, schema-sync, batch-send, batch-sync, words-send, words-sync}
use Rattle.answers.proofs.StatsSending.{stats-send, stats-sync}
use Rattle.pool.proofs.SendingLemmas.{pool-send}
use Rattle.table.specs.contracts.book.Book as book
use Rattle.table.specs.contracts.storage.Storage as storage
use Rattle.table.specs.contracts.state.TableState as state
use Rattle.table.specs.contracts.version.Version as version

book-send : IsSend (book.the_field).row
book-send = search (crosses, sendable) depth 40

book-sync : IsSync (book.the_field).row
book-sync = search (crosses, sendable) depth 40

pub storage-send : IsSend (storage.the_field).row
storage-send = search (schema-send, schema-sync, words-send, words-sync, batch-send, batch-sync, stats-send, stats-sync, book-send, crosses, sendable) depth 40

pub storage-sync : IsSync (storage.the_field).row
storage-sync = search (schema-send, schema-sync, words-send, words-sync, batch-send, batch-sync, stats-send, stats-sync, book-sync, crosses, sendable) depth 40

pub state-send : IsSend state.the_row
state-send = search (storage-send, pool-send, crosses, sendable) depth 40

pub version-send : IsSend version.the_row
version-send = search (storage-send, storage-sync, crosses, sendable) depth 20

pub version-sync : IsSync version.the_row
version-sync = search (storage-send, storage-sync, crosses, sendable) depth 20
