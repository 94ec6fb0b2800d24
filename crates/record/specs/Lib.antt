-- To be believed, beside docs/SCOPE.md: Limits, Right, Trial; Nominal, for the laws that compare with a record without shortfall; and
-- Unpressed, for those that compare with one without internal pressure.
pub mod Limits
pub mod Right
pub mod Trial
pub mod Nominal
pub mod Unpressed
-- Nobody has to believe it, how the program answers a record: `record_right` (proofs/Right.antt) says that the answer is right.
pub mod Answering
