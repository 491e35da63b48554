-- The words of intake that contracts and proofs name most.
pub use Rattle.flat.specs.Lent.{LendsColumns, LendsFields}
pub use Rattle.flat.specs.declared.node.Node.{Node}
