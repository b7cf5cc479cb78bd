-- The definitions of this crate.
pub mod Known
pub mod Networks
