pub mod Plain
pub mod RandomizerView
pub mod Sequence
