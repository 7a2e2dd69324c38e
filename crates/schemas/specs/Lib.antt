-- The rules as a table of patterns, in the listing's own notation; that it is `walk`'s rules, so that following is decided; and what every
-- rule concludes, by a test of the table.
pub mod Tree
pub mod Code
pub mod Parse
pub mod Match
pub mod Table
pub mod Follows
pub mod Concludes
