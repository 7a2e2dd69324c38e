-- Theorems about the definitions of specs/, and what they rest on.
pub mod Agrees
pub mod Rows
pub mod Calls
pub mod Theorem
pub mod Codes
