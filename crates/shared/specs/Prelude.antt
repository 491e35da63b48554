-- The words of shared that contracts and proofs name most.
pub use Rattle.table.specs.Answer.{Answer}
pub use Rattle.table.specs.Answers.{IsAnswer, IsRefusal}
pub use Rattle.shared.specs.Balance.{IsBalanced, IsOfWorkers, ShowsKnown}
pub use Rattle.table.specs.Cause.{IsLegal, IsTableOf, batch_cause, cause, difference}
pub use Rattle.shared.specs.Changes.{Change, added_field, field_added, fields_after, fields_in, known_after, pair_added, pair_in, pairs_in}
pub use Rattle.table.specs.FirstFault.{fits}
pub use Rattle.table.specs.Groups.{groups}
pub use Rattle.shared.specs.Hand.{AreNew, Hand, HasAdded, HasAddedNothing, HasAllItsPairs, HasSeen, HasWidened, IsLeft, IsNew, IsRaised, IsWorkerOf, calls_of_hand, columns_of_hand, having_added, having_counted, having_seen, rows_of_hand}
pub use Rattle.table.specs.History.{History, rows}
pub use Rattle.shared.specs.Known.{IsBeginning, IsLegalKnown, Known, known_of, with_column}
pub use Rattle.shared.specs.Left.{Left}
pub use Rattle.shared.specs.Missing.{AllThere, is_there}
pub use Rattle.shared.specs.Named.{IsNamed}
pub use Rattle.shared.specs.Opened.{IsWorkerCount}
pub use Rattle.shared.specs.Parts.{InOrder, sum_below}
pub use Rattle.table.specs.QueryFault.{QueryFault}
pub use Rattle.table.specs.QueryFaults.{NoMemory, Overflow}
pub use Rattle.table.specs.QueryShape.{QueryShape, query_shape}
pub use Rattle.table.specs.declared.refusal.Refusal.{Refusal}
pub use Rattle.table.specs.declared.refusal.Refusal.TheVariants.{SchemaDiffers}
pub use Rattle.table.specs.Resolved.{named, resolved}
pub use Rattle.table.specs.Stored.{stored_fields}
pub use Rattle.table.specs.Widened.{widened}
