pub mod Digits
pub mod Parts
pub mod Fitting
pub mod LineWork
pub mod GridWork
pub mod SizedWork
