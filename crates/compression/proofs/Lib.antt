-- `Turns` has the laws of the rounds, the schedule and a block's words, `Arrays` what an array made by a closure is.
mod Arrays
mod Turns
