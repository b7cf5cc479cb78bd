-- The lemmas of this crate.
mod Linking
mod Settling
