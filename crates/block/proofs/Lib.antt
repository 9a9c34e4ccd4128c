pub mod Written
pub mod Judging
