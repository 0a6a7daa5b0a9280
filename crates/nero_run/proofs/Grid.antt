-- The rows of a placement, and the nodes of the grid over them.
use Rattle.std.proofs.Common.{◌≡◌, ℕ, ◌+◌, ◌*◌, ◌/◌, ◌≤◌, List, map, length, sym, subst, arith}
use Rattle.std.proofs.lemmas.List.{length-map}
use Rattle.std.proofs.lemmas.Nat.{mul-le}
use Rattle.cell_model.specs.Library.{Library}
use Rattle.net_core.specs.Netlist.{Netlist}
use Rattle.ocp_place.specs.Placed.{InRow, IsRowPlacementOf}
use Rattle.ocp_place.proofs.Classes.{known, known_seen}

-- the rows of a placement are few
pub few_rows : (l : Library) (n : Netlist) (p : InRow) → IsRowPlacementOf l n p → length p.rows ≤ 256
few_rows l n p placed = (placed.rows (known n) (known_seen n placed.drawable.sound)).few

-- as many things as rows are shown
pub few_shown : {A : Type 0} (f : A → List ℕ) (xs : List A) (rows : List (List ℕ)) → map f xs ≡ rows → length rows ≤ 256 → length xs ≤ 256
few_shown f xs rows is few =
    let many : length (map f xs) ≤ 256 = subst (λ (r : List (List ℕ)). length r ≤ 256) (sym is) few in
    let same = length-map xs f in
    omega (arith, many, same)

-- so many nodes are a number of 64 bits
pub grid_fits : (width pitch high rows metals : ℕ) → width ≤ 70000000000000 → pitch ≡ 500 → high ≡ 10 → rows ≤ 256 → metals ≤ 5
    → (width / pitch + 1) * (high * rows + 2) * metals ≤ 18446744073709551615
grid_fits width pitch high rows metals narrow is_pitch is_high few five =
    let a : width / 500 + 1 ≤ 140000000001 = omega (arith, narrow) in
    let b : 10 * rows + 2 ≤ 2562 = omega (arith, few) in
    let ab = mul-le (width / 500 + 1) (10 * rows + 2) 140000000001 2562 a b in
    let all = mul-le ((width / 500 + 1) * (10 * rows + 2)) metals (140000000001 * 2562) 5 ab five in
    let fits : (width / 500 + 1) * (10 * rows + 2) * metals ≤ 18446744073709551615 = omega (arith, all) in
    subst (λ (x : ℕ). (width / x + 1) * (high * rows + 2) * metals ≤ 18446744073709551615) (sym is_pitch)
    (subst (λ (y : ℕ). (width / 500 + 1) * (y * rows + 2) * metals ≤ 18446744073709551615) (sym is_high) fits)
