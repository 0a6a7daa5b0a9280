-- Bits of classes, where the classes have other numbers.
use Rattle.std.proofs.Common.{◌≡◌, ℕ, Bool, true, false, List, [], ◌∷◌, refl, ap, nat_eq, eqb-true, eq-eqb, if◌then◌else◌}
use Rattle.vlsi_base.specs.declared.name.Terminal.{Terminal}
use Rattle.vlsi_base.specs.Member.{In, here, there}

-- the bit of the first terminal with this class
abbrev pub renumbered : List Terminal → (Terminal → ℕ) → (Terminal → Bool) → ℕ → Bool
renumbered [] class g k = false
renumbered (t ∷ ts) class g k = if nat_eq (class t) k then g t else renumbered ts class g k

-- terminals of one class have one bit
abbrev pub IsByClass : List Terminal → (Terminal → ℕ) → (Terminal → Bool) → Type 0
IsByClass ts class g = (t u : Terminal) → In t ts → In u ts → class t ≡ class u → g t ≡ g u

pub renumbered_bit : (ts : List Terminal) (class : Terminal → ℕ) (g : Terminal → Bool) → IsByClass ts class g → (t : Terminal) → In t ts
    → renumbered ts class g (class t) ≡ g t
renumbered_bit [] class g same t h = elim h [ ]
renumbered_bit (u ∷ ts) class g same t here = ap (λ (b : Bool). if b then g u else renumbered ts class g (class u)) (eq-eqb (class u) (class u) refl)
renumbered_bit (u ∷ ts) class g same t (there h) = by (nat_eq (class u) (class t)) refl (renumbered_bit ts class g (λ a b p q e. same a b (there p) (there q) e) t h) where
  by : (b : Bool) → nat_eq (class u) (class t) ≡ b → renumbered ts class g (class t) ≡ g t → (if b then g u else renumbered ts class g (class t)) ≡ g t
  by true e rest = same u t here (there h) (eqb-true (class u) (class t) e)
  by false e rest = rest
