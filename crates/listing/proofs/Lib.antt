-- The lemmas of this crate.
pub mod Digits
pub mod Adding
pub mod Opening
