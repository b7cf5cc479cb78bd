-- The lemmas of this crate.
pub mod Sets
pub mod Links
pub mod Nets
pub mod Closing
pub mod Following
pub mod Heights
pub mod Gaps
pub mod Wide
pub mod Timing
pub mod Computed
pub mod Example
