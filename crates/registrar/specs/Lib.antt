-- `Registering` is REGISTER, `Promises` what it promises, demand 3 in its own words among it, `Identifier` a service identifier, `Edges` document 01's
-- P1 to P11.
pub mod Registering
pub mod Promises
pub mod Identifier
pub mod Edges
