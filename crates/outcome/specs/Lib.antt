-- To be believed, beside docs/SCOPE.md: Sheet, Demand3.
pub mod Sheet
pub mod Demand3
-- Nobody has to believe these: by how many newlines lines are counted, and how the program runs a sheet: `demand_3` (proofs/Demand3.antt) says what it gives.
pub mod Newlines
pub mod Running
