-- The drawing of a placement tells its rows.
use Rattle.std.proofs.Common.{◌≡◌, ◌≢◌, ℕ, zero, suc, ◌+◌, ◌-◌, ◌*◌, ◌<◌, ◌≤◌, false, min, List, [], ◌∷◌, map, length, flat_map, slice_index, Option, refl, sym, ap, ap₂, subst, ◌∙◌, arith, IsPermutation}
use Rattle.std.specs.Prelude.{pos, AllPairs}
use Rattle.std.specs.List.{All}
use Rattle.std.proofs.lemmas.Int.{ints}
use Rattle.std.proofs.lemmas.List.{length-map}
use Rattle.std.proofs.lemmas.List.Elements.{All-nil, All-cons}
use Rattle.std.proofs.lemmas.List.Sorted.{IsPermutation-sym, IsPermutation-trans}
use Rattle.std.proofs.Math.Nat.{mul-div_cancel_left}
use Rattle.vlsi_base.specs.declared.name.Name.{Name}
use Rattle.vlsi_base.specs.Member.{In, here, there}
use Rattle.sym_geom.specs.declared.grid.TheConstants.{PITCH, ROW_HEIGHT, FIRST_CELL_X}
use Rattle.sym_geom.specs.declared.rect.Rect.{Rect}
use Rattle.sym_geom.specs.declared.item.Instance.{Instance}
use Rattle.sym_geom.specs.declared.item.Item.{Item}
use Rattle.ap_io.specs.declared.figure.Figure.{Figure}
use Rattle.cell_model.specs.Layout.{instances_of}
use Rattle.cell_model.specs.Library.{Library}
use Rattle.net_core.specs.Netlist.{Netlist as InMemory}
use Rattle.net_meaning.specs.Netlist.{Member, AbstractNetlist}
use Rattle.net_right.specs.View.{member_of, IsSeenAs}
use Rattle.net_right.proofs.Terminals.{seen_instances}
use Rattle.ocp_rows.specs.Placement.{block_box, standing_rows}
use Rattle.row_meaning.specs.Rows.{row_at, x_of, row_of}
use Rattle.row_meaning.specs.First.{numbers}
use Rattle.row_meaning.proofs.Numbering.{found, row_is}
use Rattle.row_fill.proofs.Once.{how_many, holds_once, at_most_once}
use Rattle.ocp_place.specs.Orderly.{IsOrderly}
use Rattle.ocp_place.specs.Placed.{InRow, AreRowsOf, IsRowPlacementOf, rows_of, stood_in}
use Rattle.ocp_place.specs.Stood.{member, named_rows, stood, stood_all, instance_widths}
use Rattle.ocp_place.proofs.Classes.{known, known_seen}
use Rattle.ocp_place.proofs.Lists.{first_differs, rest_differs}
use Rattle.ocp_place.proofs.RowSited.{as_member, stood_back, stood_listed}
use Rattle.ocp_place.proofs.Seen.{orderly}
use Rattle.ocp_place.proofs.Turned.{all_stand}
use Rattle.ocp_place.proofs.Widths.{member_in, wide, width_at}
use Rattle.maze_drawing.proofs.Rows.{permuted_in}
use Rattle.ocp_grid.specs.Law.{PlacementsAreInRows}
use Rattle.route_draw.specs.Grid.{placed_items, IsDrawnPlaced}
use Rattle.route_draw.proofs.Bare.{placed_instances}
use Rattle.ocp_figure.specs.declared.stands.Stand.{Stand}
use Rattle.ocp_figure.specs.Stands.{row_near, stands_from, AreReadRows}
use Rattle.ocp_figure.specs.Answers.{HasNoPlacement}
use Rattle.ocp_figure.proofs.Filled.{numbers_from}
use Rattle.ocp_figure.proofs.Again.{read_again}

-- ---- instances in the netlist's order

-- instances with names of their own that stand among others of the same members are these
alike : (ms : List Member) (xs rs ys ss : List ℕ) → length xs ≡ length ms → length rs ≡ length ms → length ys ≡ length ms → length ss ≡ length ms
    → AllPairs (λ (a b : Member). a.name ≢ b.name) ms → ((i : Instance) → In i (stood_all ms xs rs) → In i (stood_all ms ys ss)) → stood_all ms xs rs ≡ stood_all ms ys ss
alike [] xs rs ys ss a b c d apart inside = refl
alike (m ∷ ms) [] rs ys ss a b c d apart inside = absurd (omega arith)
alike (m ∷ ms) (x ∷ xs) [] ys ss a b c d apart inside = absurd (omega arith)
alike (m ∷ ms) (x ∷ xs) (r ∷ rs) [] ss a b c d apart inside = absurd (omega arith)
alike (m ∷ ms) (x ∷ xs) (r ∷ rs) (y ∷ ys) [] a b c d apart inside = absurd (omega arith)
alike (m ∷ ms) (x ∷ xs) (r ∷ rs) (y ∷ ys) (s ∷ ss) a b c d apart inside =
    ap₂ (λ (i : Instance) (is : List Instance). i ∷ is)
    (first (stood m x r) refl (inside (stood m x r) here))
    (alike ms xs rs ys ss (omega arith) (omega arith) (omega arith) (omega arith) (rest_differs m ms apart)
    (λ i h. rest i (stood_back ms xs rs i h) (inside i (there h))))
  where
    first : (i : Instance) → m.name ≡ i.name → In i (stood m y s ∷ stood_all ms ys ss) → i ≡ stood m y s
    first i e here = refl
    first i e (there h) = absurd (first_differs m ms apart (as_member i) (stood_back ms ys ss i h) e)

    rest : (i : Instance) → In (as_member i) ms → In i (stood m y s ∷ stood_all ms ys ss) → In i (stood_all ms ys ss)
    rest i g here = absurd (first_differs m ms apart (as_member (stood m y s)) g refl)
    rest i g (there h) = h

-- values of a function by number
abbrev by_number : (ℕ → ℕ) → ℕ → ℕ → List ℕ
by_number f k n = map f (numbers k n)

many_by : (f : ℕ → ℕ) (k n : ℕ) → length (by_number f k n) ≡ n
many_by f k n = length-map (numbers k n) f ∙ how_many k n

value_by : (f : ℕ → ℕ) (k n i : ℕ) → i < n → slice_index (by_number f k n) i ≡ f (k + i)
value_by f k zero i l = absurd (omega arith)
value_by f k (suc n) zero l = ap f (let e : k ≡ k + 0 = omega arith in e)
value_by f k (suc n) (suc i) l = value_by f (suc k) n i (omega arith) ∙ ap f (let e : suc k + i ≡ k + suc i = omega arith in e)

-- the row that is read
near_row : (count r : ℕ) → r < count → row_near count (pos (ROW_HEIGHT * r)) ≡ r
near_row count r low = ap (λ (q : ℕ). min q (count - 1)) (mul-div_cancel_left r (omega arith)) ∙ (let e : min r (count - 1) ≡ r = omega arith in e)

-- where instances are seen that stand so
seen_x : (count k : ℕ) (f g : ℕ → ℕ) (ms : List Member)
    → All (λ (s : Stand). f s.number ≡ s.x) (stands_from count k (stood_all ms (by_number f k (length ms)) (by_number g k (length ms))))
seen_x count k f g [] = All-nil (λ (s : Stand). f s.number ≡ s.x)
seen_x count k f g (m ∷ ms) =
    All-cons (λ (s : Stand). f s.number ≡ s.x) (record { x = f k; row = row_near count (pos (ROW_HEIGHT * g k)); number = k })
    (stands_from count (suc k) (stood_all ms (by_number f (suc k) (length ms)) (by_number g (suc k) (length ms)))) refl (seen_x count (suc k) f g ms)

seen_row : (count k : ℕ) (f g : ℕ → ℕ) (ms : List Member) → ((c : ℕ) → c < k + length ms → g c < count)
    → All (λ (s : Stand). g s.number ≡ s.row) (stands_from count k (stood_all ms (by_number f k (length ms)) (by_number g k (length ms))))
seen_row count k f g [] low = All-nil (λ (s : Stand). g s.number ≡ s.row)
seen_row count k f g (m ∷ ms) low =
    All-cons (λ (s : Stand). g s.number ≡ s.row) (record { x = f k; row = row_near count (pos (ROW_HEIGHT * g k)); number = k })
    (stands_from count (suc k) (stood_all ms (by_number f (suc k) (length ms)) (by_number g (suc k) (length ms))))
    (sym (near_row count (g k) (low k (omega arith)))) (seen_row count (suc k) f g ms (λ c l. low c (omega arith)))

-- a number stands in one of the rows
row_low : (rows : List (List ℕ)) (r k : ℕ) → k < length (row_at rows r) → r < length rows
row_low [] r k l = absurd (omega arith)
row_low (row ∷ rows) zero k l = omega arith
row_low (row ∷ rows) (suc r) k l = let a = row_low rows r k l in omega arith

module _ (n : ℕ) (rows : List (List ℕ)) (once : IsPermutation (flat_map (λ row. row) rows) (numbers 0 n)) where
  in_rows : (c : ℕ) → c < n → row_of 0 rows c 0 < length rows
  in_rows c low =
      let a = (holds_once rows n once).once c low in
      let at = found rows c (omega arith) in
      let e : row_of 0 rows c 0 ≡ at.row = ap (λ (d : ℕ). row_of 0 rows d 0) (sym at.is) ∙ row_is 0 rows at.row at.place 0 at.inside (at_most_once rows n once _) ∙ (let z : 0 + at.row ≡ at.row = omega arith in z) in
      let b = row_low rows at.row at.place at.inside in
      omega arith

-- ---- a placement

module _ (l : Library) (n : InMemory) (p : InRow) (placed : IsRowPlacementOf l n p) (k : AbstractNetlist) (seen : IsSeenAs n k) where
  abbrev ms : List Member
  ms = k.instances

  abbrev w : List ℕ
  w = instance_widths l ms

  abbrev begin : ℕ → ℕ
  begin c = x_of w FIRST_CELL_X p.rows c 0

  abbrev row : ℕ → ℕ
  row c = row_of 0 p.rows c 0

  its_order : IsOrderly k l
  its_order = orderly l n placed.passed placed.drawable k seen

  are : AreRowsOf k l p
  are = placed.rows k seen

  -- an instance is some columns wide
  pub has_width : (c : ℕ) → c < length ms → 0 < slice_index w c
  has_width c low =
      let a = wide k l placed.passed its_order (member ms c) (member_in ms c low) in
      let b : pos (slice_index w c) ≡ pos (500 * a.columns) = sym (width_at k l placed.passed its_order c low) ∙ a.is in
      let some = a.some in
      omega (arith, ints)

  -- where the instances stand, by their numbers
  abbrev standing : List Instance
  standing = stood_all ms (by_number begin 0 (length ms)) (by_number row 0 (length ms))

  stand : IsPermutation (standing_rows l false (pos 0) (named_rows ms p.rows)) standing
  stand =
      all_stand l ms w p.rows are.each_once (λ c low. width_at k l placed.passed its_order c low) (by_number begin 0 (length ms)) (by_number row 0 (length ms))
      (many_by begin 0 (length ms)) (many_by row 0 (length ms))
      (λ c low. value_by begin 0 (length ms) c low ∙ ap begin (let e : 0 + c ≡ c = omega arith in e))
      (λ c low. value_by row 0 (length ms) c low ∙ ap row (let e : 0 + c ≡ c = omega arith in e))

  pub stand_is : stood_in k p ≡ standing
  stand_is =
      alike ms p.starts p.row_numbers (by_number begin 0 (length ms)) (by_number row 0 (length ms)) are.starts are.row_numbers (many_by begin 0 (length ms)) (many_by row 0 (length ms))
      its_order.names
      (λ i h. permuted_in standing (stood_in k p) i
      (IsPermutation-trans standing (standing_rows l false (pos 0) (named_rows ms p.rows)) (stood_in k p)
      (IsPermutation-sym (standing_rows l false (pos 0) (named_rows ms p.rows)) standing stand) are.stands) h)

  pub as_many : length (stood_in k p) ≡ length ms
  as_many = sym (length-map (stood_in k p) as_member) ∙ ap length (stood_listed ms p.starts p.row_numbers are.starts are.row_numbers)

  -- the rows of its drawing are its own
  pub rows_again : (instances : List Instance) → instances ≡ stood_in k p → (count : ℕ) → count ≡ length p.rows → (made : List (List ℕ))
      → AreReadRows count (stands_from count 0 instances) made → made ≡ p.rows
  rows_again instances is count many made read =
      let rows = length p.rows in
      let stands = stands_from rows 0 standing in
      let here : AreReadRows rows stands made =
      subst (λ (c : ℕ). AreReadRows c (stands_from c 0 standing) made) many
      (subst (λ (one : List Instance). AreReadRows count (stands_from count 0 one) made) (is ∙ stand_is) read) in
      let listed : map (λ (s : Stand). s.number) stands ≡ numbers 0 (length ms) =
      numbers_from rows 0 standing ∙ ap (numbers 0) (sym (ap length stand_is) ∙ as_many) in
      read_again w FIRST_CELL_X (length ms) p.rows are.each_once has_width stands listed
      (seen_x rows 0 begin row ms)
      (seen_row rows 0 begin row ms (λ c low. in_rows (length ms) p.rows are.each_once c (omega arith)))
      made here

-- ---- drawings

figure_is : (f g : Figure) → f.name ≡ g.name → f.bounds ≡ g.bounds → f.items ≡ g.items → f ≡ g
figure_is f g a b c =
    ap (λ (name : Option Name). record { name = name; bounds = f.bounds; items = f.items }) a
    ∙ ap₂ (λ (bounds : Rect) (items : List Item). record { name = g.name; bounds = bounds; items = items }) b c

-- two placements with the same rows have the same drawing
same_drawing : (l : Library) (n : InMemory) (p q : InRow) (f g : Figure) → IsRowPlacementOf l n p → IsRowPlacementOf l n q → p.rows ≡ q.rows → IsDrawnPlaced l n p f
    → IsDrawnPlaced l n q g → f ≡ g
same_drawing l n p q f g placed other rows drawn again =
    let k = known n in
    let seen = known_seen n placed.drawable.sound in
    let ms = k.instances in
    let w = instance_widths l ms in
    let stand : stood_in k p ≡ stood_in k q =
    stand_is l n p placed k seen
    ∙ ap (λ (rs : List (List ℕ)). stood_all ms (by_number (λ c. x_of w FIRST_CELL_X rs c 0) 0 (length ms)) (by_number (λ c. row_of 0 rs c 0) 0 (length ms))) rows
    ∙ sym (stand_is l n q other k seen) in
    figure_is f g (drawn.named ∙ sym again.named)
    (drawn.box k seen ∙ ap (λ (rs : List (List ℕ)). block_box k l (rows_of k (record p { rows = rs }))) rows ∙ sym (again.box k seen))
    (drawn.lines k seen
    ∙ ap₂ (λ (rs : List (List ℕ)) (is : List Instance). placed_items k l (rows_of k (record p { rows = rs })) is) rows stand
    ∙ sym (again.lines k seen))

module _ (l : Library) (n : InMemory) (figure : Figure) (stand_so : PlacementsAreInRows) where
  instances_are : (p : InRow) (placed : IsRowPlacementOf l n p) → IsDrawnPlaced l n p figure → (k : AbstractNetlist) → IsSeenAs n k → instances_of figure.items ≡ stood_in k p
  instances_are p placed drawn k seen = ap instances_of (drawn.lines k seen) ∙ placed_instances l n p placed stand_so k seen

  -- another number of instances
  pub other_count : (length (instances_of figure.items) ≡ length n.instances → ⊥) → HasNoPlacement l n figure
  other_count differ p placed drawn =
      let k = known n in
      let seen = known_seen n placed.drawable.sound in
      differ (ap length (instances_are p placed drawn k seen) ∙ as_many l n p placed k seen ∙ ap length (seen_instances n k seen) ∙ length-map n.instances member_of)

  -- the drawing of what is read is another figure
  pub other_drawing : (count : ℕ) → ((rows : ℕ) → 1 ≤ rows → rows ≤ 256 → figure.bounds.y2 ≡ pos (ROW_HEIGHT * rows + 2 * PITCH) → count ≡ rows)
      → (made : List (List ℕ)) → AreReadRows count (stands_from count 0 (instances_of figure.items)) made
      → (p : InRow) → IsRowPlacementOf l n p → p.rows ≡ made → (f : Figure) → IsDrawnPlaced l n p f → (f ≡ figure → ⊥) → HasNoPlacement l n figure
  other_drawing count counts made read p placed rows f drawn differ q other again =
      let k = known n in
      let seen = known_seen n placed.drawable.sound in
      let are = other.rows k seen in
      let top : figure.bounds.y2 ≡ pos (ROW_HEIGHT * length q.rows + 2 * PITCH) =
      ap (λ (r : Rect). r.y2) (again.box k seen) ∙ ap (λ (r : ℕ). pos (ROW_HEIGHT * r + 2 * PITCH)) (length-map q.rows (λ (row : List ℕ). map (member k.instances) row)) in
      let many = counts (length q.rows) are.some are.few top in
      let same = rows_again l n q other k seen (instances_of figure.items) (instances_are q other again k seen) count many made read in
      differ (same_drawing l n p q f figure placed other (rows ∙ same) drawn again)
