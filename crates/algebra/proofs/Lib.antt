pub mod Lowest
pub mod GroupLaws
pub mod Spelling
pub mod Rows
