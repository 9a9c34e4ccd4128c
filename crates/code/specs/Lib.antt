pub mod Codewords
pub mod Equations
pub mod Acceptance
pub mod Erasures
pub mod Filling
pub mod Solving
pub mod Sizes
