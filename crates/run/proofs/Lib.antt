-- Laws for the proofs of this crate.
pub mod At
pub mod Laws
pub mod Steps
