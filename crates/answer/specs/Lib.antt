-- To be believed, beside docs/SCOPE.md: Answers, Governing, Checks, Right.
pub mod Answers
pub mod Governing
pub mod Checks
pub mod Right
-- Nobody has to believe it, how the program answers: `first_or_lem` (proofs/Checks.antt) says what it gives, and `answer_by_right`
-- (proofs/Right.antt) that it is right.
pub mod Answering
