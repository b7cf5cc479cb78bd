-- The lemmas of this crate: of loading, then of writing, then of both.
pub mod Naming
pub mod Determined
pub mod Holding
pub mod Steps
pub mod Progress
pub mod Performing
pub mod Puts
pub mod Pairs
pub mod Laying
pub mod Encoding
pub mod Easing
pub mod Returning
pub mod Filing
