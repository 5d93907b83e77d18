-- The Advertisement message, which is composed by the wire format's rules (crates/wire).
pub mod Advertisement
