pub mod Declarations
pub mod Relations
pub mod Items
pub mod Lists
