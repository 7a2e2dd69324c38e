-- The model over the bytes of a run is `link`'s model over the calls that are read from them.
pub mod Steps
pub mod Terms
pub mod Calls
pub mod Runs
pub mod Entry
