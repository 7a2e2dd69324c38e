-- What the contracts cite: Told (the public functions), Parts (the private ones).
-- What the proofs of callers use: Calls (a run's calls and terms by their offsets), Heads, Nodes, Fuel, Ends.
pub mod Told
pub mod Sent
pub mod Parts
pub mod Ends
pub mod Heads
pub mod Calls
pub mod Fuel
pub mod Nodes
-- The codes of a run's calls.
pub mod Codes
-- The byte of each kind and code.
pub mod Kinds
