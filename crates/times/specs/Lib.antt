-- What times alone decide.
pub mod Times
