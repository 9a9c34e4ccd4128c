pub mod Layouts
pub mod Identification
pub mod Conditions
