pub mod Truth
pub mod Valid
