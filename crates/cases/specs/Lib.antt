-- To be believed, beside docs/SCOPE.md: Cases, Numbers.
pub mod Cases
pub mod Numbers
-- Nobody has to believe it, what fills the unused places of a list of groups.
pub mod Places
-- Nobody has to believe it, how the program answers load cases: `cases_right` (proofs/Right.antt) says that the answer is right.
pub mod Answering
