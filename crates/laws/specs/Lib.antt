-- The laws of substitution: stated in Laws, of the functions in Transforms; of the walk's calls, by Results; and of the program's, by Program,
-- on the store of any run, by Stores and Runs, and inside a run, by Inside.
pub mod Indices
pub mod Transforms
pub mod Squares
pub mod Shifts
pub mod Substs
pub mod Tops
pub mod Results
pub mod Cells
pub mod Program
pub mod Stores
pub mod Inside
pub mod Runs
pub mod Laws
pub mod Examples
pub mod First
