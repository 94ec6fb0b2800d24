-- To be believed, beside docs/SCOPE.md: Plates.
pub mod Plates
-- Nobody has to believe it, how the program chooses: `choosing_right` (proofs/Choices.antt) says what it gives.
pub mod Choosing
