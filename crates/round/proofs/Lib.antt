-- `Bits` has the laws of the operations on words, `Window` those of a window of the schedule.
mod Bits
mod Window
