pub mod Cells
pub mod Image
pub mod ImageView
