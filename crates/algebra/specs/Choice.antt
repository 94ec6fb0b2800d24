-- A choice by a test: the one definition by cases on a test that all others use.
use Rattle.std.specs.Prelude.{Bool, true, false}

-- a where the test is true, b where it is false
abbrev pub pick {ℓ} : {A : Type ℓ} → Bool → A → A → A
pick true a b = a
pick false a b = b
