-- What it is that the walk keeps the table in order, and that the row of each function states what it should: `Sound c`, of the functions c.
-- That it is so is proved in proofs/Sound: `sound n : Sound (callees n)`.
pub mod Logic
pub mod Says
pub mod Parts
