-- To be believed, where a text is written with it: Texts.
pub mod Texts
-- Nobody has to believe these: the laws of proofs/Formats.antt say what a reader finds, in terms of the text that is written.
pub mod Readers
pub mod Seen
