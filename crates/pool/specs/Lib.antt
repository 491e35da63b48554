pub mod Texts
pub mod Pool
pub mod Codes
pub mod Places
pub mod CodedViews
pub mod Unified
pub mod Front
pub mod Prelude
