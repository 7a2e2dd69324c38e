-- Theorems about the definitions of specs/, and what they rest on.
pub mod Match
pub mod Follows
pub mod Concludes
