-- A node that gets an owner.
use Rattle.std.proofs.Common.{ℕ, ◌≡◌, ◌≢◌, ◌<◌, ◌⊎◌, inl, inr, List, [], ◌∷◌, Bool, true, false, length, set, Some, arith, sym, ap, refl, subst, ◌∙◌, nat_eq, get_or-set_same, get_or-set_other}
use Rattle.std.proofs.lemmas.Bool.{eqb-true}
use Rattle.vlsi_base.specs.Member.{In, here, there}
use Rattle.grid_core.specs.declared.grid.Grid.{Grid}
use Rattle.grid_core.specs.declared.grid.Node.{Node}
use Rattle.grid_core.specs.Grid.{IsInGrid}
use Rattle.grid_core.specs.Numbers.{number, nodes}
use Rattle.grid_core.specs.Owners.{owner_in, owner_of, IsTaken}
use Rattle.grid_core.proofs.Numbers.{number_below, same_number}

pub first_or : {A : Type 0} (x y : A) (ys : List A) → In x (y ∷ ys) → (x ≡ y) ⊎ In x ys
first_or x y ys here = inl refl
first_or x y ys (there h) = inr h

pub owner_some : (word : ℕ) → word < 4294967295 → owner_in word ≡ Some word
owner_some word h = by_test (nat_eq word 4294967295) refl
  where
    by_test : (b : Bool) → nat_eq word 4294967295 ≡ b → owner_in word ≡ Some word
    by_test true e = let same : word ≡ 4294967295 = eqb-true word 4294967295 e in let no : ⊥ = omega arith in absurd no
    by_test false e = rw e refl

pub taken_one : (g : Grid) (words : List ℕ) (net : ℕ) (p : Node) → length words ≡ nodes g → net < 4294967295 → IsInGrid g p
    → IsTaken (record { grid = g; words = words }) net (p ∷ []) (record { grid = g; words = set words (number g p) net })
taken_one g words net p size small within =
    let lt : number g p < length words = (let h = number_below g p within in omega arith) in
    let same = get_or-set_same words (number g p) net 0 lt in
    record {
      grid = refl;
      mine = λ q h. elim (first_or q p [] h) [
        | inl e ↦ subst (λ (v : Node). owner_of (record { grid = g; words = set words (number g p) net }) v ≡ Some net) (sym e) (ap owner_in same ∙ owner_some net small)
        | inr g ↦ elim g [ ]
      ];
      others = λ q hq out.
          let ne : number g q ≢ number g p = λ e. out (subst (λ (v : Node). In v (p ∷ [])) (sym (same_number g q p hq within e)) here) in
          ap owner_in (get_or-set_other words (number g p) (number g q) net 0 ne);
    }
