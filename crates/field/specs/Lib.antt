pub mod Arithmetic
pub mod Systems
pub mod Symbols
pub mod Tables
pub mod PolynomialFields
