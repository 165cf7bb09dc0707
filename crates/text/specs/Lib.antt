pub mod Answers
pub mod Bytes
pub mod Names
pub mod Pieces
pub mod Numbers
