-- What the proofs of several functions use.
mod Bytes
mod Over
mod Stack
mod Terms
mod Sends
mod Runs
mod Measure
mod Depths
mod Counts
mod Drafts
mod Coded
