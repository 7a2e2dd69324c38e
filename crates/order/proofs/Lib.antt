-- Theorems about the definitions of specs/, and what they rest on.
pub mod Bound
pub mod Never
pub mod Call
pub mod Written
pub mod Algebra
pub mod Finds
