-- Theorems about the definitions of specs/, and what they rest on.
pub mod Sound
pub mod Calls
