pub mod Networks
pub mod Lines
