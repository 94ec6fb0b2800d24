-- To be believed, beside docs/SCOPE.md: Readings.
pub mod Readings
-- Nobody has to believe it, how the program compares: `readings_right` (proofs/Laws.antt) says what `comparison` gives.
pub mod Running
