-- The three stresses by their kind: what the code's pieces give is the rule of cylinder's Search. Assumes nothing.
use mathlib.Core.Path.{◌≡◌, refl, ap, subst, ◌∙◌}
use mathlib.Core.Bool.{Bool}
use mathlib.Core.Logic.{◌≢◌}
use Prim.Native.Nat.{ℕ, zero, suc, ◌≤◌, ◌<◌}
use native.Mathlib.Omega.{arith}
use lib.Dec.{leb}
use borrow.Author.Tests.{leb-true}
use Rattle.cylinder.specs.declared.Cylinder.{Cylinder}
use Rattle.cylinder.specs.declared.Stress.{Stress}
use Rattle.cylinder.specs.declared.Stress.TheVariants.{Axial, Ring, Shear}
use Rattle.cylinder.specs.Fraction.{Fraction, ◌//◌}
use Rattle.cylinder.specs.Cut.{Cut}
use Rattle.cylinder.specs.WholeTerm.{Term, formula}
use Rattle.cylinder.specs.WholeStress.{excess}
use Rattle.cylinder.specs.Search.{grid, place, most, around, term_bounds}
use Rattle.cylinder.proofs.Search.{most_edge}
use Rattle.algebra.proofs.Tests.{and_true}
use Rattle.ideal.specs.Decision.{cut_of, cut_at}
use Rattle.lengths.specs.declared.Branch.{Branch}
use Rattle.lengths.specs.Short.{short_of}
use Rattle.bounds.specs.Sides.{Sides}
use Rattle.bounds.specs.declared.Limits.{Limits}
use Rattle.term.specs.TermOf.{term_of}
use Rattle.term.specs.declared.Branches.{Branches}
use Rattle.term.specs.declared.Load.{Load}
use Rattle.term.specs.declared.Point.{Point}
use Rattle.term.proofs.Terms as terms
use Rattle.cylinder.specs.WholeCurves.{part1, part2}
use Rattle.bounds.specs.Spot.{PlaceOf, LiesFor, SpotOf}
use Rattle.bounds.specs.Stresses.{slenderness_of, part1_of, part2_of, term_for, fraction_of, low_of, pair_of, Reads}

-- the branch by length is that of the slenderness
pub cut_is : (kind : Stress) (short : Bool) (s : Cylinder) → short ≡ short_of kind s → cut_of kind short s ≡ slenderness_of kind s
cut_is Axial short s e = rw e
cut_is Ring short s e = rw e
cut_is Shear short s e = rw e

-- the branches that were read are the slenderness's
part1_is : {c : Cut} (l : Limits) → Sides c l → part1_of l ≡ part1 c
part1_is l a = rw (a.within_two_fifths, a.reaches_six_fifths)

part2_is : {c : Cut} (l : Limits) → Sides c l → part2_of l ≡ part2 c
part2_is l a = rw (a.within_quarter, a.within_one, a.within_three_halves)

pub lies_for : (kind : Stress) {c : Cut} (l : Limits) (b : Branches) → Sides c l → Reads kind l b → LiesFor kind c b
lies_for Axial l b a r =
    record {
      part = r.part ∙ part2_is l a;
      long = r.long ∙ a.reaches_three_halves;
      near = r.near ∙ a.within_quarter;
      far = r.far ∙ a.reaches_two;
    }
lies_for Ring l b a r = record { part = r.part ∙ part1_is l a; long = r.long ∙ a.reaches_three_halves }
lies_for Shear l b a r = record { part = r.part ∙ part1_is l a; long = r.long ∙ a.reaches_three_halves }

-- the term in these branches is the shell's
pub term_is : (kind : Stress) (s : Cylinder) (num den : ℕ) (b : Branches) → LiesFor kind (slenderness_of kind s) b →
    term_of kind b s.yield_stress num den (excess s) ≡ term_for kind s (num // den)
term_is Axial s num den b o = terms.axial_is s (num // den) b o
term_is Ring s num den b o = terms.ring_is s (num // den) b o
term_is Shear s num den b o = terms.shear_is s (num // den) b o

rise_some : (kind : Stress) (s : Cylinder) (σ : Fraction) → (term_for kind s σ).rise ≢ 0
rise_some Axial s σ e = omega arith
rise_some Ring s σ e = omega arith
rise_some Shear s σ e = omega arith

-- a term is capped
pub low_most : (kind : Stress) (s : Cylinder) (num den : ℕ) → low_of kind s num den ≤ 2000000
low_most kind s num den = leb-true b 2000000 (and_true (leb b 2000000) (formula t k q b 1000000) (most_edge t k q (rise_some kind s (num // den))).passes).0
  where
    t : Term
    t = term_for kind s (num // den)

    q : ℕ
    q = grid (slenderness_of kind s)

    k : ℕ
    k = place (slenderness_of kind s) q

    b : ℕ
    b = most t k q

-- the bounds of a term for a stress above 0
pub loaded : (kind : Stress) (s : Cylinder) (l : Load) → 0 < l.num → around (low_of kind s l.num l.den) ≡ pair_of kind s l
unfolding term_bounds
loaded kind s l some = go l.num some
  where
    c : Cut
    c = slenderness_of kind s

    t : Term
    t = term_for kind s (fraction_of l)

    go : (n : ℕ) → 0 < n → around (most t (place c (grid c)) (grid c)) ≡ term_bounds (grid c) n c t
    go zero h = absurd (omega arith)
    go (suc n) h = refl

-- a place, with the branches that were read there, is where S lies
pub spot_is : (b b' : Branch) (p : Point) (l : Limits) (r : Branches) → b' ≡ b → b.short ≡ short_of b.kind b.shell.cylinder → PlaceOf (cut_at b') p → Sides (cut_at b') l → Reads b.kind l r →
    SpotOf b.kind b.shell.cylinder (record { point = p; branches = r })
spot_is b b' p l r same own at sides reads =
    record { at = subst (λ (x : Cut). PlaceOf x p) e at; inside = lies_for b.kind l r (subst (λ (x : Cut). Sides x l) e sides) reads }
  where
    e : cut_at b' ≡ slenderness_of b.kind b.shell.cylinder
    e = ap cut_at same ∙ cut_is b.kind b.short b.shell.cylinder own
