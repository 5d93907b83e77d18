-- The settings of document 01.
pub mod Settings
