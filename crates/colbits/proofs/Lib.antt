pub mod BitLemmas
pub mod BuildingLemmas
pub mod LaneLemmas
pub mod WordLemmas
pub mod SendingLemmas
