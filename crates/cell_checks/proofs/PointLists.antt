-- Access nodes column by column are those in the order of the grid.
use Rattle.std.proofs.Common.{◌≡◌, ℕ, zero, suc, ◌%◌, pos, Bool, true, false, List, [], ◌∷◌, ◌++◌, map, filter, length, Option, refl, sym, ap, ◌∙◌, arith, if◌then◌else◌, ◌+◌, ◌<◌, get_or, take, Some, None}
use Rattle.std.specs.Prelude.{slice_get, option_map, flat_map, filter_map}
use Rattle.std.proofs.lemmas.Int.{ints}
use Rattle.std.proofs.lemmas.List.{append-nil, map-append, length-map, take_more}
use Rattle.std.proofs.lemmas.Simd.{map-map}
use Rattle.std.proofs.Math.Seq.{take-length}
use Rattle.std.proofs.lemmas.List.Elements.{filter_map-append}
use Rattle.std.proofs.lemmas.Grind.{flat_map-append}
use Rattle.std.proofs.lemmas.Option.{slice_get-map}
use Rattle.vlsi_base.specs.declared.name.Name.{Name}
use Rattle.vlsi_base.specs.Names.{comes_before}
use Rattle.cell_model.specs.declared.cell.Pin.{Pin}
use Rattle.vlsi_base.specs.declared.name.Port.{Port}
use Rattle.machine_core.specs.Machine.{names_of}
use Rattle.cell_model.specs.Cell.{Cell, pin_ports, cell_width, cell_height}
use Rattle.cell_model.specs.Access.{count_to, grid_lines, is_access_node, access_nodes, access_point}
use Rattle.cell_checks.specs.Checks.{StandsInRow}
use Rattle.cell_checks.specs.Points.{point_of, nodes_in, nodes_to}
use Rattle.cell_checks.specs.declared.points.GridPoint.{GridPoint}
use Rattle.cell_checks.proofs.NodeColumns.{kept, point, points, ranked}

one_node : (c : Cell) (name : Name) (a b : ℕ) (r : Bool) → is_access_node c name (point a b) ≡ r
    → (if r then point a b ∷ [] else []) ≡ filter_map (kept c name) (point a b ∷ [])
one_node c name a b true e = rw e refl
one_node c name a b false e = rw e refl

column_is : (c : Cell) (name : Name) (a n : ℕ) → nodes_in c name a n ≡ filter_map (kept c name) (map (point a) (count_to n))
column_is c name a zero = refl
column_is c name a (suc b) =
    ap (λ xs. xs ++ (if is_access_node c name (point a b) then point a b ∷ [] else [])) (column_is c name a b)
    ∙ ap (λ xs. filter_map (kept c name) (map (point a) (count_to b)) ++ xs) (one_node c name a b (is_access_node c name (point a b)) refl)
    ∙ sym (filter_map-append (kept c name) (map (point a) (count_to b)) (point a b ∷ []))
    ∙ ap (filter_map (kept c name)) (sym (map-append (point a) (count_to b) (b ∷ [])))

columns_are : (c : Cell) (name : Name) (n : ℕ) → nodes_to c name n ≡ filter_map (kept c name) (flat_map (points 11) (count_to n))
columns_are c name zero = refl
columns_are c name (suc a) =
    ap (λ xs. xs ++ nodes_in c name a 11) (columns_are c name a)
    ∙ ap (λ xs. filter_map (kept c name) (flat_map (points 11) (count_to a)) ++ xs) (column_is c name a 11)
    ∙ sym (filter_map-append (kept c name) (flat_map (points 11) (count_to a)) (points 11 a))
    ∙ ap (λ xs. filter_map (kept c name) (flat_map (points 11) (count_to a) ++ xs)) (sym (append-nil (points 11 a)))
    ∙ ap (filter_map (kept c name)) (sym (flat_map-append (points 11) (count_to a) (a ∷ [])))

-- all nodes of a pin
pub all_nodes : (c : Cell) (name : Name) → StandsInRow c → nodes_to c name (grid_lines (cell_width c)) ≡ access_nodes c name
all_nodes c name row =
    let low = row.box.low in let high = row.box.high in
    let height : cell_height c ≡ pos 5000 = omega (arith, ints) in
    let rows : 11 ≡ grid_lines (cell_height c) = sym (ap grid_lines height) in
    columns_are c name (grid_lines (cell_width c))
    ∙ ap (λ k. filter_map (kept c name) (flat_map (points k) (count_to (grid_lines (cell_width c))))) rows

-- the point of a pin of this rank
pub point_is : (c : Cell) (name : Name) (rank : ℕ) (nodes : List GridPoint) (q : Option GridPoint)
    → rank ≡ length (filter (λ (p : Pin). comes_before p.port.name name) c.pins) → map point_of nodes ≡ access_nodes c name
    → slice_get nodes (rank % length nodes) ≡ q → option_map point_of q ≡ access_point c name
point_is c name rank nodes q counted is at =
    let many : length nodes ≡ length (access_nodes c name) = sym (length-map nodes point_of) ∙ ap length is in
    ap (option_map point_of) (sym at)
    ∙ sym (slice_get-map point_of nodes (rank % length nodes))
    ∙ ap (λ xs. slice_get xs (rank % length nodes)) is
    ∙ ap (λ k. slice_get (access_nodes c name) (rank % k)) many
    ∙ ap (λ k. slice_get (access_nodes c name) (k % length (access_nodes c name))) (counted ∙ ranked c name)

-- one more pin
pub points_next : (c : Cell) (items : List Pin) (points : List (Option GridPoint)) (k : ℕ) (pin : Pin) (q : Option GridPoint) → items ≡ c.pins
    → map (option_map point_of) points ≡ map (λ (p : Pin). access_point c p.port.name) (take k c.pins) → k < length items → pin ≡ get_or items k pin
    → option_map point_of q ≡ access_point c pin.port.name
    → map (option_map point_of) (points ++ q ∷ []) ≡ map (λ (p : Pin). access_point c p.port.name) (take (k + 1) c.pins)
points_next c items points k pin q same so_far low is e =
    let own : k < length c.pins = let n = ap length same in omega (arith, low, n) in
    let at : pin ≡ get_or c.pins k pin = is ∙ ap (λ (xs : List Pin). get_or xs k pin) same in
    map-append (option_map point_of) points (q ∷ [])
    ∙ ap (λ xs. xs ++ option_map point_of q ∷ []) so_far
    ∙ ap (λ x. map (λ (p : Pin). access_point c p.port.name) (take k c.pins) ++ x ∷ []) (e ∙ ap (λ (p : Pin). access_point c p.port.name) at)
    ∙ sym (map-append (λ (p : Pin). access_point c p.port.name) (take k c.pins) (get_or c.pins k pin ∷ []))
    ∙ ap (map (λ (p : Pin). access_point c p.port.name)) (sym (take_more c.pins k pin own))

-- all pins
pub points_all : (c : Cell) (items : List Pin) (points : List (Option GridPoint)) (k : ℕ) → items ≡ c.pins → k ≡ length items
    → map (option_map point_of) points ≡ map (λ (p : Pin). access_point c p.port.name) (take k c.pins)
    → map (option_map point_of) points ≡ map (access_point c) (names_of (pin_ports c))
points_all c items points k same ended so_far =
    so_far
    ∙ ap (λ (j : ℕ). map (λ (p : Pin). access_point c p.port.name) (take j c.pins)) (ended ∙ ap length same)
    ∙ ap (map (λ (p : Pin). access_point c p.port.name)) (take-length c.pins)
    ∙ sym (map-map (λ (p : Port). access_point c p.name) (λ (p : Pin). p.port) c.pins)
    ∙ sym (map-map (access_point c) (λ (p : Port). p.name) (map (λ (p : Pin). p.port) c.pins))
