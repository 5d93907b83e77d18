-- `Bounds` has the buffer and its form, `Hashing` and `Chains` how the code sees that each pair stands once, `Told` what the check tells beside the form.
pub mod Bounds
pub mod Hashing
pub mod Chains
pub mod Told
