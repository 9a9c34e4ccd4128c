pub mod Packing
pub mod Grids
pub mod Measures
pub mod Fillable
pub mod Line
pub mod Answers
