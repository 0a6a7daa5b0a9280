-- A placement in rows stands in rows as drawing asks, and is routed as far as no net has a tree.
use Rattle.std.proofs.Common.{◌≡◌, ℕ, suc, ◌+◌, ◌<◌, List, [], ◌∷◌, ◌++◌, map, length, None, refl, ap, ap₂, ◌∙◌, subst, arith}
use Rattle.std.specs.Prelude.{flat_map, IsPermutation}
use Rattle.std.proofs.lemmas.List.{length-map, map-append}
use Rattle.std.proofs.lemmas.List.Sorted.{IsPermutation-map}
use Rattle.sym_geom.specs.declared.item.Instance.{Instance}
use Rattle.cell_model.specs.Library.{Library}
use Rattle.net_meaning.specs.Netlist.{Member, AbstractNetlist}
use Rattle.net_drawing.specs.Drawing.{Numbering}
use Rattle.ocp_rows.specs.Placement.{Placement}
use Rattle.row_meaning.specs.First.{numbers}
use Rattle.ocp_place.specs.Stood.{member, named_rows}
use Rattle.ocp_place.proofs.RowSited.{stood_listed}
use Rattle.ocp_place.proofs.Seen.{orderly}
use Rattle.nero_tracks.proofs.Numbered.{nets_have_numbers}
use Rattle.grid_core.specs.declared.grid.Node.{Node}
use Rattle.grid_core.specs.Grid.{above}
use Rattle.grid_core.specs.Routes.{NetRoutes}
use Rattle.maze_drawing.specs.Wiring.{Wiring, NetWiring, AreNeighbours, HasVia, in_tree, at_terminal, IsWiringOf}
use Rattle.maze_drawing.specs.Law.{IsRouted}
use Rattle.ocp_grid.specs.Law.{IsInRows, PlacementsAreInRows}

-- ---- members by their numbers

members_are : (ms : List Member) (j : ℕ) (g : ℕ → Member) → ((i : ℕ) → i < length ms → g (j + i) ≡ member ms i) → map g (numbers j (length ms)) ≡ ms
members_are [] j g is = refl
members_are (m ∷ ms) j g is =
    let first : g j ≡ m = ap g (let e : j ≡ j + 0 = omega arith in e) ∙ is 0 (omega arith) in
    let rest = members_are ms (suc j) g (λ i low. ap g (let e : suc j + i ≡ j + suc i = omega arith in e) ∙ is (suc i) (omega arith)) in
    ap₂ (λ (one : Member) (more : List Member). one ∷ more) first rest

rows_named : (ms : List Member) (rows : List (List ℕ)) → map (member ms) (flat_map (λ row. row) rows) ≡ flat_map (λ row. row) (named_rows ms rows)
rows_named ms [] = refl
rows_named ms (row ∷ rows) =
    map-append (member ms) row (flat_map (λ one. one) rows) ∙ ap (λ (more : List Member). map (member ms) row ++ more) (rows_named ms rows)

members_once : (ms : List Member) (rows : List (List ℕ)) → IsPermutation (flat_map (λ row. row) rows) (numbers 0 (length ms))
    → IsPermutation (flat_map (λ row. row) (named_rows ms rows)) ms
members_once ms rows once =
    let ordered : map (member ms) (numbers 0 (length ms)) ≡ ms = members_are ms 0 (member ms) (λ i low. ap (member ms) (let e : 0 + i ≡ i = omega arith in e)) in
    let P : List Member → Type 0 = λ some. IsPermutation some ms in
    let Q : List Member → Type 0 = λ some. IsPermutation (map (member ms) (flat_map (λ row. row) rows)) some in
    subst P (rows_named ms rows) (subst Q ordered (IsPermutation-map (member ms) (flat_map (λ row. row) rows) (numbers 0 (length ms)) once))

pub placements_are_in_rows : PlacementsAreInRows
placements_are_in_rows l n p k placed seen =
    let are = placed.rows k seen in
    record {
      nets = nets_have_numbers k l (orderly l n placed.passed placed.drawable k seen);
      no_tracks = refl;
      rows = let some = are.some in let many = length-map p.rows (λ (row : List ℕ). map (member k.instances) row) in omega (arith, some, many);
      each_once = members_once k.instances p.rows are.each_once;
      stands = are.stands;
      listed = stood_listed k.instances p.starts p.row_numbers are.starts are.row_numbers;
    }

-- ---- without a tree

abbrev pub no_routes : NetRoutes
no_routes k = None

abbrev pub no_lines : NetWiring
no_lines = record { wires = []; vias = [] }

abbrev pub no_wiring : Wiring
no_wiring k = no_lines

no_neighbours : (a b : Node) → AreNeighbours None a b → ⊥
no_neighbours a b h = elim h.listed [ ]

no_via : (terminals : List Node) (v : Node) → HasVia None terminals v → ⊥
no_via terminals v (in_tree h) = no_neighbours v (above v) h
no_via terminals v (at_terminal metal listed inside) = elim inside [ ]

no_wiring_is : (terminals : List Node) → IsWiringOf None terminals no_lines
no_wiring_is terminals = record {
  runs = λ one i. elim i [ ];
  whole = λ q h. absurd (no_neighbours q _ h);
  wire_order = λ i j d less low. absurd (omega (arith, low));
  vias = λ v. (λ i. elim i [ ], λ h. absurd (no_via terminals v h));
  via_order = λ i j d less low. absurd (omega (arith, low));
}

-- what stands in rows may be drawn before it is routed
pub unrouted : (n : AbstractNetlist) (l : Library) (net : Numbering) (p : Placement) (instances : List Instance) → IsInRows n l net p instances
    → IsRouted n l net p instances 3 no_routes no_wiring
unrouted n l net p instances r = record {
  nets = r.nets;
  no_tracks = r.no_tracks;
  rows = r.rows;
  each_once = r.each_once;
  stands = r.stands;
  listed = r.listed;
  few_metals = omega arith;
  trees = λ k low. tt;
  drawn = λ k low. no_wiring_is _;
}
