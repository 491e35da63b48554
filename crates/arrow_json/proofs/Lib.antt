-- What the proofs above the crates json_* share.
pub use Rattle.json_base.proofs.FaultSending
pub use Rattle.json_print.proofs.Found
