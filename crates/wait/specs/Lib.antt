-- The definitions of the waiting time: the recipe that the code follows, and the exact wait that it is held to.
pub mod Wait
pub mod Exact
