pub mod Passing
pub mod Resetting
pub mod Writing
pub mod Changed
pub mod Narrowing
pub mod Fractions
pub mod Same
