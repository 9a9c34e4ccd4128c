pub mod Relabelling
pub mod Labels
