-- Counts gate by gate.
use Rattle.std.proofs.Common.{◌≡◌, inl, inr, ℕ, ◌+◌, ◌<◌, ◌≤◌, List, [], ◌∷◌, ◌++◌, length, take, drop, get_or, Option, ap, refl, sym, subst, ◌∙◌, arith}
use Prim.Native.Nat.{zero, suc}
use Rattle.cell_match.specs.declared.gate.Gate.{Gate}
use Rattle.cell_match.specs.Places.{times}
use Rattle.boog_tight.specs.Cover.{leaves_of, gate_at, used}
use Rattle.boog_tight.specs.Kept.{leaf_count}
use Rattle.cell_match.proofs.Numbers.{one_tells}

pub used_more : (x : ℕ) (gates : List (Option Gate)) (i : ℕ) → i < length gates
    → used x (take (i + 1) gates) ≡ used x (take i gates) + times x (leaves_of (gate_at gates i))
used_more x gates i h = ap (λ (n : ℕ). used x (take n gates)) (let e : i + 1 ≡ suc i = omega arith in e) ∙ go gates i h where
  go : (gates : List (Option Gate)) (i : ℕ) → i < length gates → used x (take (suc i) gates) ≡ used x (take i gates) + times x (leaves_of (gate_at gates i))
  go [] i h = absurd (omega arith)
  go (g ∷ gates) zero h = omega arith
  go (g ∷ gates) (suc i) h = let e = go gates i (omega arith) in omega arith

pub pins_more : (gates : List (Option Gate)) (i : ℕ) → i < length gates
    → leaf_count (take (i + 1) gates) ≡ leaf_count (take i gates) + length (leaves_of (gate_at gates i))
pins_more gates i h = ap (λ (n : ℕ). leaf_count (take n gates)) (let e : i + 1 ≡ suc i = omega arith in e) ∙ go gates i h where
  go : (gates : List (Option Gate)) (i : ℕ) → i < length gates → leaf_count (take (suc i) gates) ≡ leaf_count (take i gates) + length (leaves_of (gate_at gates i))
  go [] i h = absurd (omega arith)
  go (g ∷ gates) zero h = omega arith
  go (g ∷ gates) (suc i) h = let e = go gates i (omega arith) in omega arith

pub pins_whole : (gates : List (Option Gate)) (i : ℕ) → length gates ≤ i → leaf_count (take i gates) ≡ leaf_count gates
pins_whole [] zero h = refl
pins_whole [] (suc i) h = refl
pins_whole (g ∷ gates) zero h = absurd (omega arith)
pins_whole (g ∷ gates) (suc i) h = let e = pins_whole gates i (omega arith) in omega arith

pub used_part : (x : ℕ) (gates : List (Option Gate)) (i : ℕ) → used x (take i gates) ≤ used x gates
used_part x [] zero = omega arith
used_part x [] (suc i) = omega arith
used_part x (g ∷ gates) zero = omega arith
used_part x (g ∷ gates) (suc i) = let e = used_part x gates i in omega arith

pub used_whole : (x : ℕ) (gates : List (Option Gate)) (i : ℕ) → length gates ≤ i → used x (take i gates) ≡ used x gates
used_whole x [] zero h = refl
used_whole x [] (suc i) h = refl
used_whole x (g ∷ gates) zero h = absurd (omega arith)
used_whole x (g ∷ gates) (suc i) h = let e = used_whole x gates i (omega arith) in omega arith

pub used_few : (x : ℕ) (gates : List (Option Gate)) → ((a : ℕ) → times x (leaves_of (gate_at gates a)) ≤ 1) → used x gates ≤ length gates
used_few x [] once = omega arith
used_few x (g ∷ gates) once = let e = once 0 in let f = used_few x gates (λ a. once (suc a)) in omega arith

pub times_few : (x : ℕ) (xs : List ℕ) → times x xs ≤ length xs
times_few x [] = omega arith
times_few x (y ∷ xs) = let e = times_few x xs in elim (one_tells y x) [
  | inl is ↦ let o = is.1 in omega arith
  | inr isnt ↦ let o = isnt.1 in omega arith
]

-- a gate that is read at its place
pub gate_got : (gates : List (Option Gate)) (i : ℕ) (o : Option Gate) → i < length gates → gate_at gates i ≡ get_or gates i o
gate_got [] i o h = absurd (omega arith)
gate_got (g ∷ gates) zero o h = refl
gate_got (g ∷ gates) (suc i) o h = gate_got gates i o (omega arith)

pub gate_there_at : (gates : List (Option Gate)) (i : ℕ) (o : Option Gate) → i < length gates → o ≡ get_or gates i o → gate_at gates i ≡ o
gate_there_at gates i o h e = gate_got gates i o h ∙ sym e

pub leaves_read : (x : ℕ) (gates : List (Option Gate)) (i : ℕ) (o : Option Gate) → i < length gates → o ≡ get_or gates i o
    → times x (leaves_of (gate_at gates i)) ≡ times x (leaves_of o)
leaves_read x gates i o h e = ap (λ (g : Option Gate). times x (leaves_of g)) (gate_there_at gates i o h e)

pub written : {A : Type 0} (new items : List A) (n : ℕ) → length new ≡ n → take n (new ++ drop (length new) items) ≡ new
written {A} new items n h = subst (λ (k : ℕ). take k (new ++ drop (length new) items) ≡ new) h (go new (drop (length new) items)) where
  go : (xs ys : List A) → take (length xs) (xs ++ ys) ≡ xs
  go [] ys = refl
  go (x ∷ xs) ys = ap (λ (zs : List A). x ∷ zs) (go xs ys)
