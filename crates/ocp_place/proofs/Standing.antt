-- The instances of a netlist stand in rows.
use Rattle.std.proofs.Common.{◌≡◌, ℕ, ◌+◌, ◌*◌, ◌≤◌, ◌<◌, ◌^◌, false, List, map, length, slice_index, take, sym, ap, subst, ◌∙◌, arith, flat_map, IsPermutation}
use Rattle.std.specs.Prelude.{pos}
use Rattle.std.specs.List.{All}
use Rattle.std.specs.Global.{Vec}
use Rattle.std.proofs.lemmas.List.{length-map, get_or_default, take_all}
use Rattle.vlsi_base.specs.Member.{In}
use Rattle.sym_geom.specs.declared.grid.TheConstants.{FIRST_CELL_X}
use Rattle.cell_model.specs.Library.{Library}
use Rattle.cell_model.proofs.Members.{All-from, In-map}
use Rattle.cell_checks.specs.Checked.{IsChecked as HasPassed}
use Rattle.net_core.specs.declared.frame.Node.{Node}
use Rattle.net_core.specs.Frame.{instance_of}
use Rattle.net_core.specs.Netlist.{Netlist as InMemory}
use Rattle.net_meaning.specs.Netlist.{Member, AbstractNetlist}
use Rattle.net_right.specs.View.{IsSeenAs, member_of}
use Rattle.net_right.proofs.Terminals.{seen_instances}
use Rattle.ocp_rows.specs.Placement.{model_width}
use Rattle.row_meaning.specs.Rows.{x_of, row_width, rows_width}
use Rattle.row_meaning.specs.First.{numbers}
use Rattle.row_fill.proofs.Filling.{items}
use Rattle.row_fill.proofs.Once.{all_narrow, each_small, narrow, widest_fits, begins}
use Rattle.ocp_place.specs.declared.row.Site.{Site as Placed}
use Rattle.ocp_place.specs.declared.row.Row.{Row}
use Rattle.ocp_place.specs.declared.rows.Cells.{Cells}
use Rattle.ocp_place.specs.declared.rows.Spots.{Spots}
use Rattle.ocp_place.specs.Drawable.{IsDrawableIn}
use Rattle.ocp_place.specs.declared.reach.Reach.{Reach}
use Rattle.ocp_place.specs.Reaches.{AreReaches, site_of}
use Rattle.ocp_place.specs.Sites.{Site}
use Rattle.ocp_place.specs.Nets.{driven}
use Rattle.ocp_place.specs.Rows.{IsNearSite}
use Rattle.ocp_place.proofs.Laid.{ArePinsTo}
use Rattle.ocp_place.specs.Standing.{AreCellsOf, AreSpots, ArePinsOn, IsStanding}
use Rattle.ocp_place.specs.Stood.{member, instance_widths, stood_all, stood_sites}
use Rattle.ocp_place.proofs.RowSounds.{pin_low}
use Rattle.ocp_place.proofs.Seen.{orderly}
use Rattle.ocp_place.proofs.Turned.{all_stand, widest_is}
use Rattle.ocp_place.proofs.Widths.{width_at}

-- ---- spots

module _ (widths : List ℕ) (rows : List (Vec ℕ)) (once : IsPermutation (flat_map (λ row. row) (map items rows)) (numbers 0 (length widths))) (few : length widths < 2 ^ 32)
    (small : All (λ w. w ≤ 16000) widths) where
  -- rows are narrow
  pub rows_near : All (λ row. FIRST_CELL_X + row_width widths row.items ≤ 2 ^ 62) rows
  rows_near r d low = let a = all_narrow rows (length widths) once widths 16000 (each_small widths 16000 small) r d low in omega arith

  pub widths_near : All (λ row. row_width widths row.items ≤ 2 ^ 62) rows
  widths_near r d low = let a = rows_near r d low in omega arith

  pub widest_near : rows_width widths (map items rows) ≤ 70000000000000
  widest_near =
      let a = widest_fits widths (map items rows) (length widths * 16000) (λ r. narrow (map items rows) (length widths) once widths 16000 r (each_small widths 16000 small)) in
      omega arith

  -- no instance begins far away
  pub starts_near : (s : Spots) → length s.starts.items ≡ length widths → ((c : ℕ) → c < length widths → slice_index s.starts.items c ≡ x_of widths FIRST_CELL_X (map items rows) c 0)
      → All (λ x. x ≤ 80000000000000) s.starts.items
  starts_near s many each c d low =
      let a = begins (map items rows) (length widths) once widths FIRST_CELL_X 16000 c (each_small widths 16000 small) (omega arith) in
      let b = each c (omega arith) in
      let e = get_or_default s.starts.items c d 0 low in
      omega arith

-- ---- cells

-- when all widths are put
pub whole_cells : (l : Library) (n : InMemory) (nodes : List Node) → map (instance_of n.models) nodes ≡ n.instances → (reaches : Vec Reach) (widths : Vec ℕ) → AreReaches l n.models reaches.items
    → length nodes < 2 ^ 32 → length widths.items ≡ length nodes → ((k : AbstractNetlist) → IsSeenAs n k → widths.items ≡ instance_widths l (take (length nodes) k.instances))
    → All (λ w. w ≤ 16000) widths.items → AreCellsOf l n (record { reaches = reaches; widths = widths })
whole_cells l n nodes seen_as reaches widths are few many seen_widths narrow = record {
  reaches = are;
  widths = λ k seen. seen_widths k seen ∙ ap (instance_widths l) (take_all (length nodes) k.instances (let a = ap length (seen_instances n k seen) in let b = length-map n.instances member_of in let e = same in omega arith));
  many = many ∙ same;
  few = omega arith;
  narrow = narrow;
} where
  same : length nodes ≡ length n.instances
  same = sym (length-map nodes (instance_of n.models)) ∙ ap length seen_as

-- ---- pins

-- when all instances are put
pub whole_pins : (l : Library) (n : InMemory) (s : Spots) (row : Row) (count : ℕ) → length n.instances ≤ count
    → ((k : AbstractNetlist) → IsSeenAs n k → ArePinsTo k l s.starts.items s.row_numbers.items count row) → All IsNearSite row.sites.items → ArePinsOn l n s row
whole_pins l n s row count many so_far near = record {
  sites = λ k seen. (so_far k seen).sites ∙ ap (λ (ms : List Member). stood_sites k l (stood_all ms s.starts.items s.row_numbers.items)) (all k seen);
  drivers = λ k seen. (so_far k seen).drivers ∙ ap (driven k l) (all k seen);
  near = near;
} where
  all : (k : AbstractNetlist) → IsSeenAs n k → take count k.instances ≡ k.instances
  all k seen = take_all count k.instances (let a = ap length (seen_instances n k seen) in let b = length-map n.instances member_of in omega arith)

-- ---- all of them

module _ (l : Library) (n : InMemory) (passed : HasPassed false l) (given : IsDrawableIn l n) (cells : Cells) (is : AreCellsOf l n cells) (rows : List (Vec ℕ))
    (once : IsPermutation (flat_map (λ row. row) (map items rows)) (numbers 0 (length n.instances))) where
  pub once_wide : IsPermutation (flat_map (λ row. row) (map items rows)) (numbers 0 (length cells.widths.items))
  once_wide = subst (λ (m : ℕ). IsPermutation (flat_map (λ row. row) (map items rows)) (numbers 0 m)) (sym is.many) once

  pub stands : (s : Spots) → AreSpots cells.widths.items (map items rows) s → (row : Row) → ArePinsOn l n s row
      → (k : AbstractNetlist) → IsSeenAs n k
      → IsStanding k l (map items rows) (record { spots = s; sites = row.sites; drivers = row.drivers; width = rows_width cells.widths.items (map items rows) })
  stands s spots row pins k seen =
      let o = orderly l n passed given k seen in
      let ms = k.instances in
      let same : length n.instances ≡ length ms = sym (ap length (seen_instances n k seen) ∙ length-map n.instances member_of) in
      let once_k : IsPermutation (flat_map (λ row. row) (map items rows)) (numbers 0 (length ms)) = subst (λ (m : ℕ). IsPermutation (flat_map (λ row. row) (map items rows)) (numbers 0 m)) same once in
      let wide : (c : ℕ) → c < length ms → model_width l (member ms c).model ≡ pos (slice_index cells.widths.items c) =
      λ c low. width_at k l passed o c low ∙ ap (λ (ws : List ℕ). pos (slice_index ws c)) (sym (is.widths k seen)) in
      let many = is.many in
      let starts : length s.starts.items ≡ length ms = spots.many_starts ∙ many ∙ same in
      let numbers_many : length s.row_numbers.items ≡ length ms = spots.many_rows ∙ many ∙ same in
      let sites = pins.sites k seen in
      record {
        starts = starts;
        row_numbers = numbers_many;
        stands = all_stand l ms cells.widths.items (map items rows) once_k wide s.starts.items s.row_numbers.items starts numbers_many
            (λ c low. spots.starts c (omega arith)) (λ c low. spots.row_numbers c (omega arith));
        sites = sites;
        drivers = pins.drivers k seen;
        width = widest_is l ms cells.widths.items (map items rows) once_k wide;
        narrow = widest_near cells.widths.items rows once_wide is.few is.narrow;
        classes = All-from (λ (p : Placed). p.class < k.classes) row.sites.items
            (λ p i. pin_low k l passed o s.starts.items s.row_numbers.items p.class (site_of p).1
            (subst (λ (ss : List Site). In (site_of p) ss) sites (In-map site_of p row.sites.items i)));
        near = λ c d low. let a = spots.near c d low in omega arith;
        heights = pins.near;
      }
