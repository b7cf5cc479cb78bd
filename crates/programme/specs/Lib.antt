-- The definitions of this crate: what the calls promise, then how the network changes on the way.
pub mod Ledgers
pub mod Grown
pub mod Shown
pub mod Timely
pub mod Kept
pub mod Line
pub mod Questions
pub mod Pairs
pub mod Fitted
pub mod Performed
pub mod Networks
pub mod Spelled
pub mod Written
pub mod Steps
