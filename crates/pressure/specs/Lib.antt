-- To be believed, beside SCOPE 25: Gain, GainTest, GainSum.
pub mod Gain
pub mod GainTest
pub mod GainSum
-- Nobody has to believe these, since proofs/ says what they give: the rule in whole numbers.
pub mod WholeGain
