-- The definition of the run, and what it is that its table is a derivation order; that it is one is proved in proofs/.
-- What readers must believe: Syntax, Judgment, Rule, Rules, Refusal, State, Walk, Reader, Limits, Run, Demand, Written.
pub mod Syntax
pub mod Judgment
pub mod Rule
pub mod Rules
pub mod Refusal
pub mod State
pub mod Walk
pub mod Reader
pub mod Limits
pub mod Run
pub mod Demand
pub mod Written
pub mod Sound
pub mod Calls
pub mod Bytes
pub mod Opened
pub mod Examples
pub mod Pairs
pub mod Many
pub mod Endpoints
pub mod Heads
pub mod Made
