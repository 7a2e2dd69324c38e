-- The model over words (the crate `producer`) answers what the definition of the run answers, and its words hold the run's table.
-- What a contract may cite: Things, Asked, Table, Words. The rest is the proof, with what stands in proofs/.

-- what words stand for
pub mod Lists
pub mod Things
pub mod Tables
pub mod Store
pub mod Linking
pub mod Holds
-- a step over words against a step of the walk
pub mod Match
pub mod Open
pub mod Linked
-- the seventeen functions
pub mod Numbers
pub mod Intervals
pub mod Endpoints
pub mod Transforms
pub mod Contexts
pub mod Typing
pub mod Equality
pub mod Heads
pub mod Link
-- calls, and a list of them
pub mod Asked
pub mod Ends
pub mod Runs
-- the table, read back
pub mod Table
pub mod Back
pub mod Words
pub mod Opened
pub mod Examples
