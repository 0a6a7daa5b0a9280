-- Sums over the members of a cut that lie in its tree.
use Rattle.std.specs.Prelude.{ℕ, ◌+◌, Bool, List, [], ◌∷◌, if◌then◌else◌}

abbrev pub total : (ℕ → ℕ) → List ℕ → ℕ
total t [] = 0
total t (x ∷ xs) = t x + total t xs

abbrev pub inner_sum : (ℕ → Bool) → (ℕ → ℕ) → List ℕ → ℕ
inner_sum inner b xs = total (λ x. if inner x then b x else 0) xs
