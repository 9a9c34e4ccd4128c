pub mod Layer
pub mod Mixing
pub mod Register
