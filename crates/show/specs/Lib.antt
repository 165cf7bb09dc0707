pub mod Faults
pub mod Sections
pub mod Reading
pub mod Cursors
pub mod Drafts
pub mod Layout
