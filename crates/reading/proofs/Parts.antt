-- What the loop over the groups has read so far; what readers find, a value that stands for another or may be missing; and a line with bytes behind it.
-- Assumes nothing.
use Rattle.std.proofs.Common.{Option, Some, None}
use mathlib.Core.Path.{◌≡◌, refl, sym, ap, ◌∙◌}
use Prim.Native.Nat.{ℕ, suc, ◌+◌, ◌-◌, ◌≤◌, ◌<◌}
use native.Mathlib.Omega.{arith}
use mathlib.Core.List.{List, [], ◌∷◌, ◌++◌, append_assoc, append-nil}
use lib.ListN.{length, length-append}
use Rattle.text.specs.Bytes.{ascii}
use Rattle.format.specs.Readers.{Found, found, Reader, on, fixed, several, one_to, sequence, changed, one_of, empty, optional}
use Rattle.format.proofs.Formats.{same_value, same_rest}
use Rattle.record.specs.declared.Wall.{Wall}
use Rattle.record.specs.declared.Group.{Group}
use Rattle.reading.specs.Reading.{wall_in, shown, group, groups, inner, line, form_of}

-- values read so far before those that are still to be read
abbrev behind : {A : Type 0} → List A → Found (List A) → Found (List A)
behind xs o = on o (λ l rest. found (xs ++ l) rest)

-- of k values from s on, those of xs are read, and m more may stand in what is left
pub record ReadSoFar {A : Type 0} (f : Reader A) (k : ℕ) (s : List ℕ) (xs : List A) (left : List ℕ) : Type 0 where
  pub few : length xs ≤ k
  pub same : (m : ℕ) → m + length xs ≡ k → behind xs (several m f left) ≡ several k f s

module _ {A : Type 0} (f : Reader A) (k : ℕ) (s : List ℕ) where
  pub read_none : ReadSoFar f k s [] s
  read_none = record { few = omega arith; same = λ m e. all m (omega arith) }
    where
      eta : (o : Found (List A)) → behind [] o ≡ o
      eta None = refl
      eta (Some p) = refl

      all : (m : ℕ) → m ≡ k → behind [] (several m f s) ≡ several k f s
      all m e = rw e (eta (several k f s))

  module _ {xs : List A} {left : List ℕ} (so : ReadSoFar f k s xs left) where
    -- one more is read
    pub read_more : {a : A} {after : List ℕ} → length xs < k → found a after ≡ f left → ReadSoFar f k s (xs ++ (a ∷ [])) after
    unfolding several
    read_more {a} {after} room e =
        record {
          few = omega (arith, length-append xs (a ∷ []));
          same = λ m count. joined m (several m f after) ∙ step m ∙ so.same (suc m) (omega (arith, length-append xs (a ∷ [])));
        }
      where
        joined : (m : ℕ) (o : Found (List A)) → behind (xs ++ (a ∷ [])) o ≡ behind xs (on o (λ l rest. found (a ∷ l) rest))
        joined m None = refl
        joined m (Some p) = rw append_assoc refl

        step : (m : ℕ) → behind xs (on (several m f after) (λ l rest. found (a ∷ l) rest)) ≡ behind xs (several (suc m) f left)
        step m = rw (← e) refl

    -- no more is there
    pub read_stops : length xs < k → None ≡ f left → found xs left ≡ several k f s
    unfolding several
    read_stops room e = step (k - suc (length xs)) ∙ so.same (suc (k - suc (length xs))) (omega arith)
      where
        step : (m : ℕ) → found xs left ≡ behind xs (several (suc m) f left)
        step m = rw (← e, append-nil) refl

    -- all are read
    pub read_full : k ≤ length xs → found xs left ≡ several k f s
    unfolding several
    read_full full = rw append-nil at (so.same 0 (omega (arith, so.few)))

-- ---- a value that stands for another

module _ {A B : Type 0} (h : A → B) (f : Reader A) (s : List ℕ) where
  -- what is found for it
  pub finds_meant : {b : B} {rest : List ℕ} → found b rest ≡ changed h f s → (a : A) × ((h a ≡ b) × (found a rest ≡ f s))
  unfolding changed
  finds_meant {b} {rest} e = go (f s) refl e
    where
      go : (o : Found A) → f s ≡ o → found b rest ≡ on o (λ a r. found (h a) r) → (a : A) × ((h a ≡ b) × (found a rest ≡ f s))
      go None q e = absurd (let z : ◌≡◌ {A = ℕ} 0 1 = cc in omega arith)
      go (Some p) q e = (p.0, (sym (same_value e), ap (λ (r : List ℕ). found p.0 r) (same_rest e) ∙ sym q))

  pub fails_meant : None ≡ changed h f s → None ≡ f s
  unfolding changed
  fails_meant e = go (f s) refl e
    where
      go : (o : Found A) → f s ≡ o → None ≡ on o (λ a r. found (h a) r) → None ≡ f s
      go None q e = sym q
      go (Some p) q e = absurd (let z : ◌≡◌ {A = ℕ} 0 1 = cc in omega arith)

-- ---- a value, or no bytes

module _ {A C : Type 0} (h : A → C) (none : C) (f : Reader A) (s : List ℕ) where
  pub finds_given : {a : A} {rest : List ℕ} → found a rest ≡ f s → found (h a) rest ≡ optional h none f s
  unfolding one_of empty
  finds_given e = rw (← e) refl

  pub finds_missing : None ≡ f s → found none s ≡ optional h none f s
  unfolding one_of empty
  finds_missing e = rw (← e) refl

-- ---- a line

-- bytes after the last parenthesis: the line spells no load cases
pub form_more : (l : List ℕ) {r₁ r₂ r₃ r₄ : List ℕ} {w : Wall} (gs : List Group) {i : Option ℕ} (rest : List ℕ) → found tt r₁ ≡ fixed (ascii "(shell ") l → found w r₂ ≡ changed wall_in shown r₁
    → found gs r₃ ≡ several 8 group r₂ → (length gs ≡ 0 → ⊥) → found i r₄ ≡ inner r₃ → found tt rest ≡ fixed (ascii ")") r₄ → (length rest ≡ 0 → ⊥) → None ≡ form_of l
unfolding sequence changed one_to groups line form_of
form_more l [] rest opens wall many some given closed more = absurd (some refl)
form_more l (g ∷ gs) [] opens wall many some given closed more = absurd (more refl)
form_more l (g ∷ gs) (b ∷ rest) opens wall many some given closed more = grind arith
