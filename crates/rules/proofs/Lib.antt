-- Laws of the tables.
mod Bounds
pub mod Past
