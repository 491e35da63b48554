-- The words of selqumar_core that contracts and proofs name most.
pub use Rattle.shared.specs.Contents.{Contents}
pub use Rattle.shared.specs.FirstFault.{fits}
pub use Rattle.shared.specs.QueryShape.{query_shape}
