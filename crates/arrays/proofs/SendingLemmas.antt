-- What may go to other threads, and be seen by several: lowest first, since the search doesn't find it of the whole.
use denote.Param.Send.{IsSend, IsSync, sendable}
use Rattle.std.proofs.Crossing.{crosses}
use Rattle.types.proofs.data_type.DataType.TheLaws.TheKnot as fields
use Rattle.layout.proofs.raw.RawArray.TheLaws.TheKnot as raws
pub use Rattle.types.proofs.SendingLemmas.{schema-send, schema-sync}
use Rattle.colbits.proofs.SendingLemmas.{buffer-send, buffer-sync}
use Rattle.arrays.specs.contracts.array.parts.Parts as parts
use Rattle.arrays.specs.contracts.words.Words as words
use Rattle.arrays.specs.contracts.array.Array as array
use Rattle.arrays.specs.contracts.batch.RecordBatch as batch
use Rattle.arrays.specs.contracts.file.File as file

pub parts-send : IsSend (parts.the_field).row
parts-send = search (raws.crosses, fields.crosses, buffer-send, crosses, sendable) depth 40

pub parts-sync : IsSync (parts.the_field).row
parts-sync = search (raws.crosses, fields.crosses, buffer-sync, crosses, sendable) depth 40

pub words-send : IsSend (words.the_field).row
words-send = search (parts-send, parts-sync, crosses, sendable) depth 20

pub words-sync : IsSync (words.the_field).row
words-sync = search (parts-send, parts-sync, crosses, sendable) depth 20

pub array-send : IsSend (array.the_field).row
array-send = search (fields.crosses, parts-send, parts-sync, words-send, words-sync, crosses, sendable) depth 40

pub array-sync : IsSync (array.the_field).row
array-sync = search (fields.crosses, parts-send, parts-sync, words-send, words-sync, crosses, sendable) depth 40

pub batch-send : IsSend batch.the_row
batch-send = search (schema-send, schema-sync, array-send, crosses, sendable) depth 20

pub batch-sync : IsSync batch.the_row
batch-sync = search (schema-send, schema-sync, array-sync, crosses, sendable) depth 20

pub file-sync : IsSync file.the_row
file-sync = search (schema-send, schema-sync, batch-send, batch-sync, crosses, sendable) depth 20
