-- `Demand` has what every call promises, demand 3 among it, `Consequences` the other promises of REGISTER, `After` what is in the cache after each answer, and is listed,
-- `Moves` how many entries changed their place, `Longer` how long is long enough as a part of the wait, `Floors` what a floor under the wait changes, `Small` what the small-registrar profile does, `Examples` calls that there are, `Edges` document 01's P1 to P11; the rest serves the functions' proofs.
pub mod Identifier
pub mod Demand
pub mod Consequences
pub mod After
pub mod Moves
pub mod Edges
pub mod Examples
pub mod Longer
pub mod Floors
pub mod Small
