-- What readers must believe: Newest.
pub mod Newest
-- the last number with a property
pub mod Highest
-- two cells by what they show; what is read as a judgment
pub mod Alike
pub mod Shown
pub mod Arguments
-- the index over any rows, and the search by it
pub mod Indexing
pub mod Found
-- the search from the last row down
pub mod Plain
-- the rows of a run
pub mod Held
