-- To be believed, beside docs/SCOPE.md: Text, Answers.
pub mod Text
pub mod Answers
-- Nobody has to believe these, how the program reads and answers a line: `form_right` (proofs/Inverse.antt) says what `form_of` gives, and
-- `answer_right` (proofs/Answers.antt) what `answer_to` gives.
pub mod Reading
pub mod Answering
