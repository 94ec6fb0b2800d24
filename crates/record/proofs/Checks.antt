-- The ranges that the checks give. Assumes nothing.
use mathlib.Core.Path.{◌≡◌, sym, ap, ◌∙◌, subst}
use mathlib.Core.Bool.{true, ◌&&◌}
use Prim.Native.Nat.{ℕ, ◌*◌, ◌≤◌, ◌<◌}
use native.Mathlib.Omega.{arith}
use lib.Dec.{leb, lit<}
use borrow.Author.Tests.{leb-true}
use Rattle.algebra.proofs.Tests.{and_true, pick_either}
use Rattle.cylinder.specs.InLimits.{InLimits}
use Rattle.answer.specs.Answers.{refusal_number}
use Rattle.std.specs.Prelude.{Result, Ok, Err, MatchResult}
use Rattle.answer.specs.declared.Refusal.{Refusal}
use Rattle.answer.specs.Checks.{AllPassed, FirstBroken}
use Rattle.answer.specs.Answering.{first_or}
use Rattle.answer.proofs.Checks.{Every, refusals, first_broken, all_passed}
use Rattle.record.specs.declared.Wall.{Wall}
use Rattle.record.specs.declared.Group.{Group}
use Rattle.record.specs.declared.Record.{Record}
use Rattle.record.specs.declared.ValidRecord.{ValidRecord}
use Rattle.record.specs.Limits.{from_to, dimensions, material, ring_in_range, stresses, in_range, shortfall_counts, effective_wall, checks, cylinder_of}

-- a number in its range
pub record Between (low high x : ℕ) : Type 0 where
  pub least : low ≤ x
  pub most : x ≤ high

pub between : (low high x : ℕ) → from_to low high x ≡ true → Between low high x
between low high x h = let (a, b) = and_true (leb low x) (leb x high) h in record { least = leb-true low x a; most = leb-true x high b }

-- what check 6 lets through
pub record Ranges (w : Wall) (g : Group) : Type 0 where
  pub radius : Between 100 50000 w.radius
  pub thickness : Between 100 10000 w.thickness
  pub length : Between 10 200000 w.length
  pub modulus : Between 60000 220000 w.modulus
  pub yield : Between 100 700 w.yield_stress
  pub axial : g.axial ≤ 700000
  pub ring : ring_in_range g.ring ≡ true
  pub shear : g.shear ≤ 700000

pub ranges : (c : Record) → in_range c ≡ true → Ranges c.wall c.group
ranges c h =
    let W : Wall = c.wall in
    let G : Group = c.group in
    let (d, ms) = and_true (dimensions W) (material W && stresses G) h in
    let (m, s) = and_true (material W) (stresses G) ms in
    let (r, wl) = and_true (from_to 100 50000 W.radius) (from_to 100 10000 W.thickness && from_to 10 200000 W.length) d in
    let (w, l) = and_true (from_to 100 10000 W.thickness) (from_to 10 200000 W.length) wl in
    let (e, f) = and_true (from_to 60000 220000 W.modulus) (from_to 100 700 W.yield_stress) m in
    let (x, yz) = and_true (leb G.axial 700000) (ring_in_range G.ring && leb G.shear 700000) s in
    let (y, z) = and_true (ring_in_range G.ring) (leb G.shear 700000) yz in
    record {
      radius = between 100 50000 W.radius r;
      thickness = between 100 10000 W.thickness w;
      length = between 10 200000 W.length l;
      modulus = between 60000 220000 W.modulus e;
      yield = between 100 700 W.yield_stress f;
      axial = leb-true G.axial 700000 x;
      ring = y;
      shear = leb-true G.shear 700000 z;
    }

-- the effective wall
pub effective_between : (w : Wall) → Between 100 10000 w.thickness → w.shortfall ≤ 50 → Between 150 20000 (effective_wall w)
effective_between w t d =
    pick_either (Between 150 20000) (shortfall_counts w) (record { least = omega (arith, t.least, d); most = omega (arith, t.most) }) (record { least = omega (arith, t.least); most = omega (arith, t.most) })

-- the cylinder of a record that passes every check is within the limits
pub cylinder_within : (c : Record) → AllPassed (checks c) → InLimits (cylinder_of c.wall)
cylinder_within c (r, (e, (d, (w, (l, (t, u)))))) =
    let W : Wall = c.wall in
    let rs = ranges c r in
    let wall = effective_between W rs.thickness (leb-true W.shortfall 50 d) in
    let thick = between (20 * effective_wall W) (2500 * effective_wall W) (200 * W.radius) w in
    let (short, long) = and_true (leb W.radius (20 * W.length)) (leb W.length (50 * W.radius)) l in
    record {
      radius_least = rs.radius.least;
      radius_most = rs.radius.most;
      wall_least = wall.least;
      wall_most = wall.most;
      length_least = rs.length.least;
      length_most = rs.length.most;
      modulus_least = rs.modulus.least;
      modulus_most = rs.modulus.most;
      yield_least = rs.yield.least;
      yield_most = rs.yield.most;
      imperfection_most = leb-true W.imperfection 2000 t;
      not_thick = omega (arith, thick.least);
      not_thin = omega (arith, thick.most);
      not_short = leb-true W.radius (20 * W.length) short;
      not_long = leb-true W.length (50 * W.radius) long;
    }

-- what `valid` leads to: what f gives of the refusal, or what g gives of the record
pub by_valid : {A : Type 0} (f : Refusal → A) (g : Record → A) (y : A) (c : Record) (r : Result ValidRecord Refusal) →
    MatchResult r (λ v. v.given ≡ c) (FirstBroken (checks c)) → MatchResult r (λ v. y ≡ g v.given) (λ n. y ≡ f n) → y ≡ first_or f (g c) (checks c)
by_valid f g y c (Ok v) e is = is ∙ ap g e ∙ sym (all_passed f (g c) (checks c) (subst (λ (d : Record). AllPassed (checks d)) e v.passed))
by_valid f g y c (Err n) b is = is ∙ sym (first_broken f (g c) (checks c) n b)

-- no check of a record has the number 0
pub above_none : (c : Record) → Every (λ r. 0 < refusal_number r) (refusals (checks c))
above_none c = (lit< tt, (lit< tt, (lit< tt, (lit< tt, (lit< tt, (lit< tt, (lit< tt, (lit< tt, tt))))))))
