pub mod Answers
pub mod Comparisons
pub mod Shown
pub mod Kinds
pub mod Apart
pub mod Tightening
pub mod Theorems
