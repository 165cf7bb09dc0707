pub mod Laws
pub mod Bounds
pub mod Matrix
pub mod Refusals
