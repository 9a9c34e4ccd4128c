pub mod Window
pub mod WindowView
