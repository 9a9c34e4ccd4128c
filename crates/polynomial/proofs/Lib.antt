pub mod Tests
pub mod Linearity
pub mod Logarithms
pub mod Laws
pub mod Moduli
