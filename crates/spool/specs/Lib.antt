pub mod Kept
pub mod Order
pub mod SpoolView
pub mod Table
