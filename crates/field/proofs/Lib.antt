pub mod Algebra
pub mod Symbols
pub mod Tables
pub mod Sizes
