-- The wire format's rules.
pub mod Wire
