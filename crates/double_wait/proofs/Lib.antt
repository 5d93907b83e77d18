-- `Bounds` has between which doubles an operation's result lies, `Laws` that the factor is exactly 1.0 on an empty registrar and that a wait's bits may be subtracted.
pub mod Bounds
pub mod Laws
