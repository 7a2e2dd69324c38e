-- What the constant tables hold: names, kinds and sorts.
-- What readers must believe: Names, Kinds.
pub mod Names
pub mod Kinds
pub mod Sorts
