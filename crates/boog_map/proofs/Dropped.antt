-- The gates of the nodes behind inputs and registers.
use Rattle.std.proofs.Common.{◌≡◌, ℕ, zero, suc, ◌+◌, ◌≤◌, List, [], ◌∷◌, length, drop, Option, Some, sym, subst, arith}
use Rattle.std.proofs.lemmas.List.{length-drop}
use Rattle.net_theory.specs.Sources.{IsNumber}
use Rattle.cell_match.specs.declared.gate.Gate.{Gate}
use Rattle.boog_tight.specs.Cover.{gate_at}
use Rattle.boog_tight.specs.Kept.{leaf_count}

number_at : (gs : List (Option Gate)) (i : ℕ) (x : Gate) → gate_at gs i ≡ Some x → IsNumber gs i (Some x)
number_at [] i x e = absurd (cc e)
number_at (y ∷ gs) zero x e = sym e
number_at (y ∷ gs) (suc i) x e = number_at gs i x e

at_number_of : (gs : List (Option Gate)) (i : ℕ) (x : Gate) → IsNumber gs i (Some x) → gate_at gs i ≡ Some x
at_number_of [] i x h = absurd h
at_number_of (y ∷ gs) zero x h = sym h
at_number_of (y ∷ gs) (suc i) x h = at_number_of gs i x h

pub dropped : (h : ℕ) (gs : List (Option Gate)) (i a : ℕ) (x : Gate) → a ≡ h + i → gate_at gs a ≡ Some x → IsNumber (drop h gs) i (Some x)
dropped zero gs i a x is e =
    let same : a ≡ i = omega (arith, is) in
    let P : ℕ → Type 0 = λ n. IsNumber gs n (Some x) in subst P same (number_at gs a x e)
dropped (suc h) [] i a x is e = absurd (cc e)
dropped (suc h) (y ∷ gs) i zero x is e = absurd (omega (arith, is))
dropped (suc h) (y ∷ gs) i (suc a) x is e = dropped h gs i a x (omega (arith, is)) e

pub undropped : (h : ℕ) (gs : List (Option Gate)) (i a : ℕ) (x : Gate) → a ≡ h + i → IsNumber (drop h gs) i (Some x) → gate_at gs a ≡ Some x
undropped zero gs i a x is n =
    let same : i ≡ a = omega (arith, is) in
    let P : ℕ → Type 0 = λ y. IsNumber gs y (Some x) in at_number_of gs a x (subst P same n)
undropped (suc h) [] i a x is n = absurd n
undropped (suc h) (y ∷ gs) i zero x is n = absurd (omega (arith, is))
undropped (suc h) (y ∷ gs) i (suc a) x is n = undropped h gs i a x (omega (arith, is)) n

pub dropped_count : (h n : ℕ) (gs : List (Option Gate)) → length gs ≡ h + n → length (drop h gs) ≡ n
dropped_count h n gs long = let e = length-drop h gs in omega (arith, e, long)

pub dropped_leaves : (h : ℕ) (gs : List (Option Gate)) → leaf_count (drop h gs) ≤ leaf_count gs
dropped_leaves zero gs = omega arith
dropped_leaves (suc h) [] = omega arith
dropped_leaves (suc h) (y ∷ gs) = let r = dropped_leaves h gs in omega (arith, r)
