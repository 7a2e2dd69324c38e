-- What the listing prints of a run is the listing of the walk's run: `listing_is` in proofs/Theorem, from the entry's contract alone.
-- What readers must believe: Listed, and the texts that it cites: those of Said, `decimal` of `writer`, the names of `rules`.
pub mod Said
pub mod Listed
pub mod Examples
-- Words that hold such data have the texts (Agrees of proofs/, Repeated), and the contract's words hold quotes (Kinds, Cells), rows and calls
-- (Rows and Calls of proofs/).
pub mod Repeated
pub mod Kinds
pub mod Cells
pub mod Calls
pub mod Theorem
pub mod Codes
