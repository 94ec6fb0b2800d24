-- A factor of the resistance at the slenderness S = p/q: a fraction of whole numbers.
-- Nobody has to believe this: proofs/Curves.antt has that they are the curves of Resistance.
use Rattle.std.specs.Prelude.{ℕ, ◌+◌, ◌*◌, ◌-◌, ◌^◌}

pub record Factor : Type 0 where
  pub num : ℕ → ℕ → ℕ
  pub den : ℕ → ℕ → ℕ

-- c/d
abbrev pub constant : ℕ → ℕ → Factor
constant c d = record { num = λ p q. c; den = λ p q. d }

-- (a - b S) / c
abbrev pub falling : ℕ → ℕ → ℕ → Factor
falling a b c = record { num = λ p q. a * q - b * p; den = λ p q. c * q }

-- c / (d Sⁿ)
abbrev pub inverse : ℕ → ℕ → ℕ → Factor
inverse n c d = record { num = λ p q. c * q ^ n; den = λ p q. d * p ^ n }

-- c / (a + b S)
abbrev pub divided : ℕ → ℕ → ℕ → Factor
divided a b c = record { num = λ p q. c * q; den = λ p q. a * q + b * p }

abbrev pub times : Factor → Factor → Factor
times f g = record { num = λ p q. f.num p q * g.num p q; den = λ p q. f.den p q * g.den p q }
