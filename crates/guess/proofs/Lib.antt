pub mod WholeRoots
