-- What the proofs of this crate share.
pub use Rattle.table.proofs.WidenedLemmas
pub use Rattle.histories.proofs.PrefixLemmas
pub mod HandLemmas
pub mod BalanceLemmas
pub mod KnownLemmas
pub mod PartLemmas
pub mod ViewLemmas
pub mod SeenLemmas
pub mod SendingLemmas
pub mod PublisherLemmas
