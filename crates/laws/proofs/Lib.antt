-- Theorems about the definitions of specs/, and what they rest on.
pub mod Indices
pub mod Squares
pub mod Shifts
pub mod Substs
pub mod Tops
pub mod Results
pub mod Program
pub mod Inside
pub mod Runs
pub mod Laws
