-- Theorems about the definitions of specs/, and what they rest on.
pub mod Things
pub mod Back
pub mod Calls
pub mod Ends
pub mod Marks
pub mod Runs
pub mod Words
