-- `Effects` has what each call does to the cache, `Bounds` what it does to the lower bounds, from which follows what holds of every run: `Runs` that the cache stays well
-- formed, of one family, and its clock never falls, `Counters` what its counters tell and that nothing is removed but what has expired, `Again` that asking again never shortens
-- a wait, `Staying` that what is confirmed stays listed until it expires, `Leaving` that leaving and returning gains nothing. `Twins` has entries that are withdrawn or not,
-- `Alike` that a withdrawn entry is one to everybody but a listing, `Profile` that a call of the small-registrar profile is a refusal or the full call; `Examples` has calls and runs that there are.
pub mod Twins
pub mod Profile
pub mod Effects
pub mod Bounds
pub mod Runs
pub mod Counters
pub mod Again
pub mod Staying
pub mod Alike
pub mod Leaving
pub mod Examples
