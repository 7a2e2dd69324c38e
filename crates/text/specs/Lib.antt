-- What readers must believe: Listing, over the texts of `lines`, `quotes` and `writer`. Where the entry's contract holds, `listed` may
-- stand for it (the crate `listed`).
pub mod Listing
pub mod Examples
