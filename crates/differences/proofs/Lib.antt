pub mod Products
pub mod Arithmetic
pub mod Extension
pub mod Filling
pub mod Tightening
pub mod Changing
pub mod Refusing
pub mod Same
