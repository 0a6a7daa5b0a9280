-- Where the pins of a cell are reached.
use Rattle.std.specs.Prelude.{ℕ, ◌+◌, ◌/◌, ◌%◌, ◌*◌, ℤ, pos, negsuc, ◌-ℤ◌, Bool, false, ◌&&◌, int_le, List, [], ◌∷◌, ◌++◌, map, length, Option, None, Some, nat_eq, slice_get, if◌then◌else◌, count_by}
use Rattle.sym_geom.specs.declared.grid.TheConstants.{PITCH, PAD_WIDTH}
use Prim.Native.Nat.{zero, suc}
use Rattle.std.specs.List.{flat_map, filter_map, list_any}
use Rattle.vlsi_base.specs.declared.name.Name.{Name}
use Rattle.machine_core.specs.Named.{is_same_name}
use Rattle.sym_geom.specs.Rect.{square, moved}
use Rattle.sym_geom.specs.declared.rect.Rect.{Rect}
use Rattle.sym_shapes.specs.Shape.{drawn}
use Rattle.cell_model.specs.Cell.{Cell, pin_ports, cell_width, cell_height}
use Rattle.vlsi_base.specs.Names.{comes_before}

abbrev pub Point : Type 0
Point = ℤ × ℤ

-- 0, 1, and so on, n numbers
abbrev pub count_to : ℕ → List ℕ
count_to zero = []
count_to (suc n) = count_to n ++ n ∷ []

-- how many multiples of the pitch there are from 0 to a width or height
abbrev pub grid_lines : ℤ → ℕ
grid_lines (pos n) = n / PITCH + 1
grid_lines (negsuc n) = 0

-- the points of a cell's box, with the corner as origin, both of whose coordinates are multiples of the pitch; in order
-- of x and then of y
abbrev pub grid_points : Cell → List Point
grid_points c =
    flat_map (λ a. map (λ b. (pos (PITCH * a), pos (PITCH * b))) (count_to (grid_lines (cell_height c))))
    (count_to (grid_lines (cell_width c)))

abbrev pub holds : Rect → Rect → Bool
holds outer r = int_le outer.x1 r.x1 && int_le r.x2 outer.x2 && int_le outer.y1 r.y1 && int_le r.y2 outer.y2

abbrev pub is_named : Name → Option Name → Bool
is_named pin None = false
is_named pin (Some name) = is_same_name name pin

-- a rectangle of a cell, counted from the lower left corner of its box
abbrev pub from_corner : Cell → Rect → Rect
from_corner c r = moved r (pos 0 -ℤ c.bounds.x1) (pos 0 -ℤ c.bounds.y1)

-- The square of a via's pad about the point lies within one connector rectangle of the pin on metal 1. (All such points of a
-- usable cell lie in its box.)
abbrev pub is_access_node : Cell → Name → Point → Bool
is_access_node c pin q =
    list_any (λ s. nat_eq s.metal 1 && is_named pin s.name && holds (from_corner c s.rect) (square q.0 q.1 (pos PAD_WIDTH)))
    (drawn c.items)

abbrev pub access_nodes : Cell → Name → List Point
access_nodes c pin = filter_map (λ q. if is_access_node c pin q then Some q else None) (grid_points c)

-- how many pins have names before this one
abbrev pub rank_of : Cell → Name → ℕ
rank_of c pin = count_by (λ p. comes_before p.name pin) (pin_ports c)

-- The pin of rank p is reached at number p of its access nodes, where the numbers go round.
abbrev pub access_point : Cell → Name → Option Point
access_point c pin = slice_get (access_nodes c pin) (rank_of c pin % length (access_nodes c pin))
