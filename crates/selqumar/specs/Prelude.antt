-- The words of selqumar that contracts and proofs name most.
pub use Rattle.selqumar.specs.Follows.{with_pointee}
pub use Rattle.selqumar.specs.Slot.{is_boxed, owned_at}
