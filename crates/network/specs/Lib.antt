-- The definitions and the statements of this crate.
pub mod Ties
pub mod Links
pub mod Candidates
pub mod Arrangements
pub mod Closing
pub mod Example
pub mod Statements
