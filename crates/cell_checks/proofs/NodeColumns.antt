-- Where a pin is reached, by the columns of its first access nodes.
use Rattle.std.proofs.Common.{◌≡◌, ◌⊎◌, inl, inr, ℕ, zero, suc, ◌*◌, ◌<◌, ◌%◌, pos, ℤ, Bool, true, false, List, [], ◌∷◌, ◌++◌, map, filter, length, Option, None, Some, refl, sym, ap, ◌∙◌, arith, if◌then◌else◌, cond}
use Rattle.std.specs.Prelude.{slice_get, option_map, flat_map, filter_map}
use Rattle.std.proofs.Math.Nat.{mod-eq_of_lt}
use Rattle.std.proofs.lemmas.Int.{ints}
use Rattle.std.proofs.lemmas.List.{append-nil, map-append, length-map, length-append, get_or_append_left}
use Rattle.std.proofs.lemmas.List.Elements.{filter_map-append}
use Rattle.std.proofs.lemmas.List.Sums.{length-filter}
use Rattle.std.proofs.lemmas.Grind.{flat_map-append}
use Rattle.std.proofs.lemmas.Option.{slice_get-map, slice_get-get_or}
use Rattle.vlsi_base.specs.declared.name.Name.{Name}
use Rattle.vlsi_base.specs.declared.name.Port.{Port}
use Rattle.vlsi_base.specs.Names.{comes_before}
use Rattle.sym_geom.specs.declared.grid.TheConstants.{PITCH}
use Rattle.cell_model.specs.declared.cell.Pin.{Pin}
use Rattle.cell_model.specs.Cell.{Cell, pin_ports, cell_width, cell_height}
use Rattle.cell_model.specs.Access.{Point, count_to, grid_lines, is_access_node, access_nodes, rank_of}
use Rattle.cell_checks.specs.Checks.{StandsInRow}
use Rattle.cell_checks.specs.Nodes.{column_nodes, node_columns, IsFront, IsReachedAt}

lengths : {A B : Type 0} (test : B → Bool) (g : A → B) (xs : List A) → length (filter test (map g xs)) ≡ length (filter (λ x. test (g x)) xs)
lengths test g [] = refl
lengths test g (x ∷ xs) = by (test (g x)) (lengths test g xs) where
  by : (b : Bool) → length (filter test (map g xs)) ≡ length (filter (λ y. test (g y)) xs)
      → length (cond b (g x ∷ filter test (map g xs)) (filter test (map g xs))) ≡ length (cond b (x ∷ filter (λ y. test (g y)) xs) (filter (λ y. test (g y)) xs))
  by true e = ap suc e
  by false e = e

-- the rank of a pin, by a count of the pins
pub ranked : (c : Cell) (name : Name) → length (filter (λ (p : Pin). comes_before p.port.name name) c.pins) ≡ rank_of c name
ranked c name =
    sym (lengths (λ (p : Port). comes_before p.name name) (λ (p : Pin). p.port) c.pins) ∙ length-filter (λ (p : Port). comes_before p.name name) (pin_ports c)

abbrev across : ℕ → ℤ
across a = pos (PITCH * a)

abbrev first : Point → ℤ
first q = q.0

abbrev pub kept : Cell → Name → Point → Option Point
kept c name q = if is_access_node c name q then Some q else None

abbrev pub point : ℕ → ℕ → Point
point a b = (pos (PITCH * a), pos (PITCH * b))

one_point : (c : Cell) (name : Name) (a b : ℕ) (r : Bool) → is_access_node c name (point a b) ≡ r
    → map across (if r then a ∷ [] else []) ≡ map first (filter_map (kept c name) (point a b ∷ []))
one_point c name a b true e = rw e refl
one_point c name a b false e = rw e refl

column_points : (c : Cell) (name : Name) (a n : ℕ) → map across (column_nodes c name a n) ≡ map first (filter_map (kept c name) (map (point a) (count_to n)))
column_points c name a zero = refl
column_points c name a (suc b) =
    map-append across (column_nodes c name a b) (if is_access_node c name (point a b) then a ∷ [] else [])
    ∙ ap (λ xs. xs ++ map across (if is_access_node c name (point a b) then a ∷ [] else [])) (column_points c name a b)
    ∙ ap (λ xs. map first (filter_map (kept c name) (map (point a) (count_to b))) ++ xs) (one_point c name a b (is_access_node c name (point a b)) refl)
    ∙ sym (map-append first (filter_map (kept c name) (map (point a) (count_to b))) (filter_map (kept c name) (point a b ∷ [])))
    ∙ ap (map first) (sym (filter_map-append (kept c name) (map (point a) (count_to b)) (point a b ∷ [])))
    ∙ ap (λ xs. map first (filter_map (kept c name) xs)) (sym (map-append (point a) (count_to b) (b ∷ [])))

-- the points of a column of so many rows
abbrev pub points : ℕ → ℕ → List Point
points rows a = map (point a) (count_to rows)

columns_points : (c : Cell) (name : Name) (n : ℕ) → map across (node_columns c name n) ≡ map first (filter_map (kept c name) (flat_map (points 11) (count_to n)))
columns_points c name zero = refl
columns_points c name (suc a) =
    map-append across (node_columns c name a) (column_nodes c name a 11)
    ∙ ap (λ xs. xs ++ map across (column_nodes c name a 11)) (columns_points c name a)
    ∙ ap (λ xs. map first (filter_map (kept c name) (flat_map (points 11) (count_to a))) ++ xs) (column_points c name a 11)
    ∙ sym (map-append first (filter_map (kept c name) (flat_map (points 11) (count_to a))) (filter_map (kept c name) (points 11 a)))
    ∙ ap (map first) (sym (filter_map-append (kept c name) (flat_map (points 11) (count_to a)) (points 11 a)))
    ∙ ap (λ xs. map first (filter_map (kept c name) (flat_map (points 11) (count_to a) ++ xs))) (sym (append-nil (points 11 a)))
    ∙ ap (λ xs. map first (filter_map (kept c name) xs)) (sym (flat_map-append (points 11) (count_to a) (a ∷ [])))

-- the x of the access nodes of a pin, in their order
all_points : (c : Cell) (name : Name) → StandsInRow c → map across (node_columns c name (grid_lines (cell_width c))) ≡ map first (access_nodes c name)
all_points c name row =
    let low = row.box.low in let high = row.box.high in
    let height : cell_height c ≡ pos 5000 = omega (arith, ints) in
    let rows : 11 ≡ grid_lines (cell_height c) = sym (ap grid_lines height) in
    columns_points c name (grid_lines (cell_width c))
    ∙ ap (λ k. map first (filter_map (kept c name) (flat_map (points k) (count_to (grid_lines (cell_width c)))))) rows

get_left : (xs ys : List ℕ) (k : ℕ) → k < length xs → slice_get (xs ++ ys) k ≡ slice_get xs k
get_left xs ys k less =
    slice_get-get_or (xs ++ ys) k 0 (omega (arith, length-append xs ys))
    ∙ ap Some (get_or_append_left xs ys 0 k less)
    ∙ sym (slice_get-get_or xs k 0 less)

-- the numbers go round in the first ones as in all
round : (rank : ℕ) (nodes rest : List ℕ) → (rank < length nodes) ⊎ (rest ≡ [])
    → slice_get (nodes ++ rest) (rank % length (nodes ++ rest)) ≡ slice_get nodes (rank % length nodes)
round rank nodes rest (inr none) = ap (λ xs. slice_get (nodes ++ xs) (rank % length (nodes ++ xs))) none ∙ ap (λ xs. slice_get xs (rank % length xs)) (append-nil nodes)
round rank nodes rest (inl less) =
    let more : rank < length (nodes ++ rest) = omega (arith, length-append nodes rest) in
    ap (slice_get (nodes ++ rest)) (mod-eq_of_lt more) ∙ get_left nodes rest rank less ∙ ap (slice_get nodes) (sym (mod-eq_of_lt less))

pub reached_at : (c : Cell) (name : Name) (rank : ℕ) (nodes : List ℕ) (column : Option ℕ) → StandsInRow c
    → rank ≡ length (filter (λ (p : Pin). comes_before p.port.name name) c.pins) → IsFront c name (grid_lines (cell_width c)) rank nodes
    → slice_get nodes (rank % length nodes) ≡ column → IsReachedAt c name column
reached_at c name rank nodes column row counted front at =
    let same = all_points c name row in
    let many : length (access_nodes c name) ≡ length (node_columns c name (grid_lines (cell_width c))) =
    sym (length-map (access_nodes c name) first) ∙ ap length (sym same) ∙ length-map (node_columns c name (grid_lines (cell_width c))) across in
    let number : rank_of c name % length (access_nodes c name) ≡ rank % length (node_columns c name (grid_lines (cell_width c))) =
    ap (λ k. k % length (access_nodes c name)) (sym (counted ∙ ranked c name)) ∙ ap (λ k. rank % k) many in
    sym (slice_get-map first (access_nodes c name) (rank_of c name % length (access_nodes c name)))
    ∙ ap (λ xs. slice_get xs (rank_of c name % length (access_nodes c name))) (sym same)
    ∙ ap (slice_get (map across (node_columns c name (grid_lines (cell_width c))))) number
    ∙ slice_get-map across (node_columns c name (grid_lines (cell_width c))) (rank % length (node_columns c name (grid_lines (cell_width c))))
    ∙ ap (λ xs. option_map across (slice_get xs (rank % length xs))) (sym front.all)
    ∙ ap (option_map across) (round rank nodes front.rest front.enough ∙ at)
