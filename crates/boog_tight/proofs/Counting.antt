-- How often nodes are read.
use Rattle.std.proofs.Common.{◌≡◌, ◌≢◌, ℕ, ◌+◌, ◌<◌, ◌≤◌, List, [], ◌∷◌, length, set, get_or, Option, None, Some, ap, refl, sym, subst, ◌∙◌, arith, get_or-set_same, get_or-set_other}
use Prim.Native.Nat.{zero, suc}
use Rattle.cell_match.specs.declared.gate.Gate.{Gate}
use Rattle.cell_match.specs.Places.{times}
use Rattle.boog_tight.specs.Cover.{gate_at, leaves_of, used}

-- one gate exchanged
pub used_set : (x : ℕ) (gates : List (Option Gate)) (j : ℕ) (v : Option Gate) → j < length gates
    → used x (set gates j v) + times x (leaves_of (gate_at gates j)) ≡ used x gates + times x (leaves_of v)
used_set x [] j v h = absurd (omega arith)
used_set x (g ∷ gates) zero v h = omega arith
used_set x (g ∷ gates) (suc j) v h = let e = used_set x gates j v (omega arith) in omega arith

-- a gate's pins are among all
pub used_at : (x : ℕ) (gates : List (Option Gate)) (j : ℕ) → times x (leaves_of (gate_at gates j)) ≤ used x gates
used_at x [] j = omega arith
used_at x (g ∷ gates) zero = omega arith
used_at x (g ∷ gates) (suc j) = let e = used_at x gates j in omega arith

pub gate_there : (gates : List (Option Gate)) (j : ℕ) (g : Gate) → gate_at gates j ≡ Some g → j < length gates
gate_there [] j g e = cc
gate_there (o ∷ gates) zero g e = omega arith
gate_there (o ∷ gates) (suc j) g e = let f = gate_there gates j g e in omega arith

pub gate_same : (gates : List (Option Gate)) (j : ℕ) (v : Option Gate) → j < length gates → gate_at (set gates j v) j ≡ v
gate_same gates j v h = get_or-set_same gates j v None h

pub gate_other : (gates : List (Option Gate)) (j i : ℕ) (v : Option Gate) → i ≢ j → gate_at (set gates j v) i ≡ gate_at gates i
gate_other gates j i v h = get_or-set_other gates j i v None h

pub leaves_at : (gates : List (Option Gate)) (j : ℕ) (g : Gate) → gate_at gates j ≡ Some g → leaves_of (gate_at gates j) ≡ g.leaves.items
leaves_at gates j g e = ap leaves_of e

-- the pins of a gate that is there
pub used_some : (x : ℕ) (gates : List (Option Gate)) (j : ℕ) (g : Gate) → gate_at gates j ≡ Some g → times x g.leaves.items ≤ used x gates
used_some x gates j g e = subst (λ (xs : List ℕ). times x xs ≤ used x gates) (leaves_at gates j g e) (used_at x gates j)

-- two gates that read one node
pub used_twice : (x : ℕ) (gates : List (Option Gate)) (i j : ℕ) (g h : Gate) → i ≢ j → gate_at gates i ≡ Some g → gate_at gates j ≡ Some h
    → times x g.leaves.items + times x h.leaves.items ≤ used x gates
used_twice x gates i j g h apart at_g at_h =
    let there = gate_there gates j h at_h in
    let left = used_set x gates j None there in
    let same = ap (times x) (leaves_at gates j h at_h) in
    let rest = used_some x (set gates j None) i g (gate_other gates j i None apart ∙ at_g) in
    omega arith

-- a gate that is read at its place
pub gate_read : (gates : List (Option Gate)) (j : ℕ) (o : Option Gate) → j < length gates → o ≡ get_or gates j o → gate_at gates j ≡ o
gate_read gates j o h e = go gates j o h ∙ sym e where
  go : (gates : List (Option Gate)) (j : ℕ) (o : Option Gate) → j < length gates → get_or gates j None ≡ get_or gates j o
  go [] j o h = absurd (omega arith)
  go (g ∷ gates) zero o h = refl
  go (g ∷ gates) (suc j) o h = go gates j o (omega arith)

pub same_some : (o : Option Gate) (g h : Gate) → o ≡ Some g → o ≡ Some h → g ≡ h
same_some o g h e f = cc
