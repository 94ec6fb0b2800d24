-- A term of the sum in whole numbers, and which fractions its formula reaches.
-- Nobody has to believe this: proofs/Curves.antt has that their tests are those of Sum.
use Rattle.std.specs.Prelude.{ℕ, ◌*◌, ◌^◌, Bool, leb}
use Rattle.cylinder.specs.Factor.{Factor}

-- The term is u to the power of `power`/`rise`, where u to the power of `power` is load/top times the factor's inverse to that power.
pub record Term : Type 0 where
  pub rise : ℕ
  pub power : ℕ
  pub top : ℕ
  pub load : ℕ
  pub factor : Factor

-- the formula worked at p/q reaches b/n
abbrev pub formula : Term → ℕ → ℕ → ℕ → ℕ → Bool
formula t p q b n =
    leb (b ^ t.rise * (t.top * (t.factor.num p q) ^ t.power)) (t.load * (t.factor.den p q) ^ t.power * n ^ t.rise)
