pub use Rattle.types.specs.Kind
pub use Rattle.types.specs.Number
pub use Rattle.types.specs.OffsetSize
pub use Rattle.types.specs.Shape
pub use Rattle.types.specs.declared.data_type.DataType.TheVariants as DataTypes
pub use Rattle.types.specs.declared.data_type.DataType.TheViews as DataTypeViews
pub use Rattle.types.specs.declared.offset_width.OffsetWidth.TheVariants as OffsetWidths
pub use Rattle.types.specs.declared.schema.SchemaFault.TheVariants as SchemaFaults
pub use Rattle.layout.specs.Inner
pub use Rattle.layout.specs.Item
pub use Rattle.layout.specs.Seen
pub use Rattle.layout.specs.declared.fault.LayoutFault.TheVariants as LayoutFaults
pub mod Values
pub mod Truth
pub mod Slot
pub mod Order
pub mod BatchSchema
pub mod Batch
pub mod File
pub mod Parts
pub mod Words
pub mod Array
pub mod Column
pub mod Builder
pub mod FromParts
pub mod ViewType
pub mod View
pub mod Dictionary
pub mod Shown
pub mod Packed
pub mod Lengths
pub mod Lent
pub mod Nulls
pub mod Slots
pub mod Growing
pub mod Typed
pub mod Prelude
