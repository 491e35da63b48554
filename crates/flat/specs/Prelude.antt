-- The words of flat that contracts and proofs name most.
pub use Rattle.flat.specs.Batch.{IsBatchOf, IsColumn, StopsArray, StopsColumn, StopsColumns, StopsTogether, Takes}
pub use Rattle.flat.specs.Content.{content_of}
pub use Rattle.flat.specs.Fields.{Begins, IsCoded, Stops, dictionary_fault, field_named, is_dictionary, shape_alone}
pub use Rattle.flat.specs.Lent.{ArePushed, IsDictionary, IsLentDict, IsNodeOver, IsOver, IsTextPushed, IsWithoutSlots, Lends, LendsColumn, LendsColumns, LendsField, LendsFields, content_of_kind}
pub use Rattle.flat.specs.Named.{AreNamed, AreTextsNamed}
pub use Rattle.flat.specs.Parts.{read_column, stated}
pub use Rattle.flat.specs.Schema.{Names, StopsFields, StopsSchema, most_levels}
