-- Different numbers below b are at most b.
use Rattle.std.proofs.Common.{◌≡◌, ℕ, zero, suc, ◌+◌, ◌==◌, ◌<◌, ◌≤◌, Bool, true, false, refl, sym, ◌∙◌, arith, if◌then◌else◌}
use Rattle.std.proofs.lemmas.Bool.{eqb-true, eqb-false}

-- the greatest value is taken from the last number
moved : ℕ → ℕ → (ℕ → ℕ) → ℕ → ℕ
moved a b g i = if g i == b then g a else g i

moved_below : (a b : ℕ) (g : ℕ → ℕ) → ((i : ℕ) → i < suc a → g i < suc b) → ((i j : ℕ) → i < suc a → j < suc a → g i ≡ g j → i ≡ j)
    → (i : ℕ) → i < a → moved a b g i < b
unfolding moved
moved_below a b g below apart i l = by (g i == b) refl where
  by : (t : Bool) → (g i == b) ≡ t → (if t then g a else g i) < b
  by true e =
      let same = eqb-true (g i) b e in
      let last = below a (omega arith) in
      let other : g a ≡ b → ⊥ = λ q. (let p = apart i a (omega arith) (omega arith) (same ∙ sym q) in absurd (omega arith)) in
      grind (arith, last, other)
  by false e =
      let other = eqb-false (g i) b e in
      let here = below i (omega arith) in
      grind (arith, here, other)

moved_apart : (a b : ℕ) (g : ℕ → ℕ) → ((i j : ℕ) → i < suc a → j < suc a → g i ≡ g j → i ≡ j)
    → (i j : ℕ) → i < a → j < a → moved a b g i ≡ moved a b g j → i ≡ j
unfolding moved
moved_apart a b g apart i j k l = by (g i == b) refl (g j == b) refl where
  by : (t : Bool) → (g i == b) ≡ t → (u : Bool) → (g j == b) ≡ u → (if t then g a else g i) ≡ (if u then g a else g j) → i ≡ j
  by true e true f same = apart i j (omega arith) (omega arith) (eqb-true (g i) b e ∙ sym (eqb-true (g j) b f))
  by true e false f same = let p = apart a j (omega arith) (omega arith) same in absurd (omega arith)
  by false e true f same = let p = apart i a (omega arith) (omega arith) same in absurd (omega arith)
  by false e false f same = apart i j (omega arith) (omega arith) same

pub pigeons : (a b : ℕ) (g : ℕ → ℕ) → ((i : ℕ) → i < a → g i < b) → ((i j : ℕ) → i < a → j < a → g i ≡ g j → i ≡ j) → a ≤ b
pigeons zero b g below apart = omega arith
pigeons (suc a) zero g below apart = let l = below 0 (omega arith) in absurd (omega arith)
pigeons (suc a) (suc b) g below apart = let l = pigeons a b (moved a b g) (moved_below a b g below apart) (moved_apart a b g apart) in omega arith
