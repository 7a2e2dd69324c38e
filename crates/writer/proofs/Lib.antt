-- What the proofs of several functions use, and what a window shows.
pub mod Laws
pub mod Shown
