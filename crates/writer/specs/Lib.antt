-- To be believed, beside docs/SCOPE.md: Writing.
pub mod Writing
-- Nobody has to believe it, how the program writes: `writes` (proofs/Laws.antt) says what it gives.
pub mod Writer
