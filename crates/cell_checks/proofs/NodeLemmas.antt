-- Access nodes, by the connectors that hold a pad.
use Rattle.std.proofs.Common.{◌≡◌, ℕ, ◌*◌, pos, Bool, true, false, ◌&&◌, IsTrue, List, Any, refl, sym, subst, arith, nat_eq}
use Rattle.std.proofs.lemmas.Int.{ints}
use Rattle.vlsi_base.specs.declared.name.Name.{Name}
use Rattle.sym_geom.specs.declared.grid.TheConstants.{PITCH, PAD_WIDTH}
use Rattle.sym_geom.specs.declared.rect.Rect.{Rect}
use Rattle.sym_geom.specs.Rect.{Within, square}
use Rattle.sym_shapes.specs.Shape.{Shape, drawn}
use Rattle.sym_shapes.proofs.Tests.{both, within_so, number_told, number_so, list_any_In}
use Rattle.cell_model.specs.Cell.{Cell}
use Rattle.cell_model.specs.Access.{holds, is_named, from_corner, is_access_node}
use Rattle.cell_checks.specs.Checks.{StandsInRow}
use Rattle.cell_checks.specs.Shapes.{IsRail}
use Rattle.cell_checks.proofs.Layouts.{Any-In, Any-from, list_any_from, named_told, named_so, within_told, node_test}

same_truth : (r t : Bool) → (r ≡ true → t ≡ true) → (t ≡ true → r ≡ true) → r ≡ t
same_truth true true f g = refl
same_truth true false f g = let h = f refl in cc
same_truth false true f g = let h = g refl in cc
same_truth false false f g = refl

pad_node : (c : Cell) (name : Name) (a b : ℕ) → StandsInRow c
    → Any (IsRail name (square (pos (PITCH * a)) (pos (PITCH * b)) (pos PAD_WIDTH))) (drawn c.items) → is_access_node c name (pos (PITCH * a), pos (PITCH * b)) ≡ true
pad_node c name a b row any =
    let r = Any-In (IsRail name (square (pos (PITCH * a)) (pos (PITCH * b)) (pos PAD_WIDTH))) (drawn c.items) any in
    let s = r.0 in
    let ex = row.box.left in let ey = row.box.low in
    let hl = r.2.holds.left in let hr = r.2.holds.right in let hd = r.2.holds.low in let hh = r.2.holds.high in
    let w : Within (square (pos (PITCH * a)) (pos (PITCH * b)) (pos PAD_WIDTH)) (from_corner c r.0.rect) =
    record { left = omega (arith, ints); right = omega (arith, ints); low = omega (arith, ints); high = omega (arith, ints) } in
    list_any_from (node_test c name (pos (PITCH * a), pos (PITCH * b))) (drawn c.items) r.0 r.1
    (rw (
      number_told r.0.metal 1 r.2.metal,
      named_told name r.0.name r.2.named,
      within_told (square (pos (PITCH * a)) (pos (PITCH * b)) (pos PAD_WIDTH)) (from_corner c r.0.rect) w,
    ) refl)

pub node_pad : (c : Cell) (name : Name) (a b : ℕ) → StandsInRow c → is_access_node c name (pos (PITCH * a), pos (PITCH * b)) ≡ true
    → Any (IsRail name (square (pos (PITCH * a)) (pos (PITCH * b)) (pos PAD_WIDTH))) (drawn c.items)
node_pad c name a b row node =
    let found = list_any_In (node_test c name (pos (PITCH * a), pos (PITCH * b))) (drawn c.items) node in
    let s = found.0 in
    let u = both (nat_eq s.metal 1 && is_named name s.name) (holds (from_corner c s.rect) (square (pos (PITCH * a)) (pos (PITCH * b)) (pos PAD_WIDTH))) found.2 in
    let v = both (nat_eq s.metal 1) (is_named name s.name) u.0 in
    let w = within_so (square (pos (PITCH * a)) (pos (PITCH * b)) (pos PAD_WIDTH)) (from_corner c s.rect) u.1 in
    let ex = row.box.left in let ey = row.box.low in
    let wl = w.left in let wr = w.right in let wd = w.low in let wh = w.high in
    Any-from (IsRail name (square (pos (PITCH * a)) (pos (PITCH * b)) (pos PAD_WIDTH))) (drawn c.items) s found.1 (record {
      named = named_so name s.name v.1;
      metal = number_so s.metal 1 v.0;
      holds = record { left = omega (arith, ints); right = omega (arith, ints); low = omega (arith, ints); high = omega (arith, ints) };
    })

pub node_told : (c : Cell) (shapes : List Shape) (name : Name) (a b : ℕ) (pad : Rect) (r : Bool) → StandsInRow c → shapes ≡ drawn c.items
    → pad ≡ square (pos (PITCH * a)) (pos (PITCH * b)) (pos PAD_WIDTH)
    → (IsTrue r → Any (IsRail name pad) shapes) × (Any (IsRail name pad) shapes → IsTrue r) → r ≡ is_access_node c name (pos (PITCH * a), pos (PITCH * b))
node_told c shapes name a b pad r row is at iff =
    same_truth r (is_access_node c name (pos (PITCH * a), pos (PITCH * b)))
    (λ h. pad_node c name a b row (subst (λ (xs : List Shape). Any (IsRail name (square (pos (PITCH * a)) (pos (PITCH * b)) (pos PAD_WIDTH))) xs) is
    (subst (λ (q : Rect). Any (IsRail name q) shapes) at (iff.0 h))))
    (λ h. iff.1 (subst (λ (q : Rect). Any (IsRail name q) shapes) (sym at)
    (subst (λ (xs : List Shape). Any (IsRail name (square (pos (PITCH * a)) (pos (PITCH * b)) (pos PAD_WIDTH))) xs) (sym is) (node_pad c name a b row h))))
