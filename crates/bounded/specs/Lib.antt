-- `Bounded` is the call, `Promises` what it promises, `Looking` what it finds in the bounds on the way.
pub mod Bounded
pub mod Promises
pub mod Looking
