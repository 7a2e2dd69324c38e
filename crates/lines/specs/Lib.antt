-- What readers must believe: Rows, Calls, Repeats.
pub mod Rows
pub mod Calls
pub mod Repeats
-- Laws of the count of repeats.
pub mod Counting
