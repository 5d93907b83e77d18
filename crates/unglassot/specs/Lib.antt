-- How a call answers a host.
pub mod Host
