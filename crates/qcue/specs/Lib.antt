-- The definitions of this crate.
pub mod Refusals
pub mod Records
pub mod Loaded
pub mod Headed
pub mod Held
pub mod Written
pub mod Performed
pub mod Read
pub mod Taken
pub mod Laid
