-- To be believed: Roots. How a guess is made, nobody has to believe: it only says where a search begins.
pub mod Guess
pub mod Roots
