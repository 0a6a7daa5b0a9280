-- How far what is drawn reaches.
use Rattle.std.proofs.Common.{◌≡◌, ◌<◌, ⊎_elim, ℕ, refl, Bool, true, false, length, List, [], ◌∷◌, get_or, Option, None, Some, All, sym, subst, arith}
use Rattle.std.specs.Prelude.{ℤ, pos, ◌+ℤ◌, ◌-ℤ◌, ◌≤ℤ◌, int_div}
use Rattle.std.specs.Int.{int_min, int_max}
use Rattle.std.proofs.lemmas.Int.{ints, clamps}
use Rattle.vlsi_base.specs.Member.{In, here, there}
use Rattle.sym_geom.specs.Rect.{IsCoordinate, HasReach, square}
use Rattle.sym_geom.specs.Items.{IsReadySegment, run_rect}
use Rattle.sym_geom.specs.declared.rect.Rect.{Rect}
use Rattle.sym_geom.specs.declared.item.Direction.{Direction}
use Rattle.sym_geom.specs.declared.item.Direction.TheVariants.{Up, Down, Left, Right}
use Rattle.sym_geom.specs.declared.item.Segment.{Segment}
use Rattle.sym_geom.specs.declared.item.Instance.{Instance as Placed}
use Rattle.sym_geom.specs.declared.item.Item.{Item}
use Rattle.sym_geom.specs.declared.item.Item.TheVariants as item
use Rattle.sym_shapes.specs.Ready.{IsReady}
use Rattle.cell_model.specs.Cell.{Cell}
use Rattle.cell_model.specs.Library.{Library, cell_of}
use Rattle.cell_model.specs.Layout.{instances_of}
use Rattle.cell_model.specs.Usable.{IsFormed}
use Rattle.cell_model.proofs.Members.{In-at, In-split, In-map_back, All-In, All-from}
use Rattle.cougar_extract.specs.Stages.{IsCellEdge, HasCellEdges}
use Rattle.s2r_cif.proofs.Reached.{placed_reach, edges_reach, named_formed}
use Rattle.real_boxes.specs.declared.mark.Mark.{Mark}
use Rattle.real_boxes.specs.Marks.{is_upright, shortened, item_marks, drawn_marks, placed_mark, instance_marks, shown_marks, marks}

-- ---- one line

low_edge : (a b w : ℤ) → IsCoordinate a → IsCoordinate b → pos 0 ≤ℤ w → IsCoordinate w → IsCellEdge (int_min a b -ℤ w)
low_edge a b w ha hb positive hw =
    let c = ha.low in let d = ha.high in let e = hb.low in let f = hb.high in let g = hw.high in
    record { low = omega (arith, ints, clamps, c, d, e, f, g, positive); high = omega (arith, ints, clamps, c, d, e, f, g, positive) }

high_edge : (a b w : ℤ) → IsCoordinate a → IsCoordinate b → pos 0 ≤ℤ w → IsCoordinate w → IsCellEdge (int_max a b +ℤ w)
high_edge a b w ha hb positive hw =
    let c = ha.low in let d = ha.high in let e = hb.low in let f = hb.high in let g = hw.high in
    record { low = omega (arith, ints, clamps, c, d, e, f, g, positive); high = omega (arith, ints, clamps, c, d, e, f, g, positive) }

low_end : (a b : ℤ) → IsCoordinate a → IsCoordinate b → IsCellEdge ((int_min a b -ℤ pos 100) +ℤ pos 100)
low_end a b ha hb =
    let c = ha.low in let d = ha.high in let e = hb.low in let f = hb.high in
    record { low = omega (arith, ints, clamps, c, d, e, f); high = omega (arith, ints, clamps, c, d, e, f) }

high_end : (a b : ℤ) → IsCoordinate a → IsCoordinate b → IsCellEdge ((int_max a b +ℤ pos 100) -ℤ pos 100)
high_end a b ha hb =
    let c = ha.low in let d = ha.high in let e = hb.low in let f = hb.high in
    record { low = omega (arith, ints, clamps, c, d, e, f); high = omega (arith, ints, clamps, c, d, e, f) }

-- halves of a width
low_least : (w : ℤ) → pos 1 ≤ℤ w → pos 0 ≤ℤ int_div w (pos 2)
low_least w positive = omega (arith, ints, positive)

low_fits : (w : ℤ) → pos 1 ≤ℤ w → IsCoordinate w → IsCoordinate (int_div w (pos 2))
low_fits w positive h = let a = h.high in record { low = omega (arith, ints, positive, a); high = omega (arith, ints, positive, a) }

high_least : (w : ℤ) → pos 1 ≤ℤ w → pos 0 ≤ℤ (w -ℤ int_div w (pos 2))
high_least w positive = omega (arith, ints, positive)

high_fits : (w : ℤ) → pos 1 ≤ℤ w → IsCoordinate w → IsCoordinate (w -ℤ int_div w (pos 2))
high_fits w positive h = let a = h.high in record { low = omega (arith, ints, positive, a); high = omega (arith, ints, positive, a) }

upright_edges : (s : Segment) → IsReadySegment s → HasCellEdges (shortened true (run_rect Up s))
upright_edges s h = record {
  x1 = low_edge s.x1 s.x2 (int_div s.width (pos 2)) h.x1 h.x2 (low_least s.width h.positive) (low_fits s.width h.positive h.width);
  y1 = low_end s.y1 s.y2 h.y1 h.y2;
  x2 = high_edge s.x1 s.x2 (s.width -ℤ int_div s.width (pos 2)) h.x1 h.x2 (high_least s.width h.positive) (high_fits s.width h.positive h.width);
  y2 = high_end s.y1 s.y2 h.y1 h.y2;
}

level_edges : (s : Segment) → IsReadySegment s → HasCellEdges (shortened false (run_rect Left s))
level_edges s h = record {
  x1 = low_end s.x1 s.x2 h.x1 h.x2;
  y1 = low_edge s.y1 s.y2 (int_div s.width (pos 2)) h.y1 h.y2 (low_least s.width h.positive) (low_fits s.width h.positive h.width);
  x2 = high_end s.x1 s.x2 h.x1 h.x2;
  y2 = high_edge s.y1 s.y2 (s.width -ℤ int_div s.width (pos 2)) h.y1 h.y2 (high_least s.width h.positive) (high_fits s.width h.positive h.width);
}

pub run_edges : (d : Direction) (s : Segment) → IsReadySegment s → HasCellEdges (shortened (is_upright d) (run_rect d s))
run_edges Up s h = upright_edges s h
run_edges Down s h = upright_edges s h
run_edges Left s h = level_edges s h
run_edges Right s h = level_edges s h

-- a rectangle without the overhang, from its edges
pub shortened_up : (u : Bool) (r : Rect) (a b c d : ℤ) → u ≡ true → a ≡ r.x1 → b ≡ r.y1 +ℤ pos 100 → c ≡ r.x2 → d ≡ r.y2 -ℤ pos 100
    → ◌≡◌ {A = Rect} (record { x1 = a; y1 = b; x2 = c; y2 = d }) (shortened u r)
shortened_up u r a b c d is p q v w =
    subst (λ (t : Bool). ◌≡◌ {A = Rect} (record { x1 = a; y1 = b; x2 = c; y2 = d }) (shortened t r)) (sym is) (λ i. record { x1 = p i; y1 = q i; x2 = v i; y2 = w i })

pub shortened_level : (u : Bool) (r : Rect) (a b c d : ℤ) → u ≡ false → a ≡ r.x1 +ℤ pos 100 → b ≡ r.y1 → c ≡ r.x2 -ℤ pos 100 → d ≡ r.y2
    → ◌≡◌ {A = Rect} (record { x1 = a; y1 = b; x2 = c; y2 = d }) (shortened u r)
shortened_level u r a b c d is p q v w =
    subst (λ (t : Bool). ◌≡◌ {A = Rect} (record { x1 = a; y1 = b; x2 = c; y2 = d }) (shortened t r)) (sym is) (λ i. record { x1 = p i; y1 = q i; x2 = v i; y2 = w i })

-- ---- the rectangles as wires

hundred : IsCoordinate (pos 100)
hundred = record { low = omega (arith, ints); high = omega (arith, ints) }

wire_upright : (s : Segment) → IsReadySegment s → HasCellEdges (run_rect Up s)
wire_upright s h = record {
  x1 = low_edge s.x1 s.x2 (int_div s.width (pos 2)) h.x1 h.x2 (low_least s.width h.positive) (low_fits s.width h.positive h.width);
  y1 = low_edge s.y1 s.y2 (pos 100) h.y1 h.y2 (omega (arith, ints)) hundred;
  x2 = high_edge s.x1 s.x2 (s.width -ℤ int_div s.width (pos 2)) h.x1 h.x2 (high_least s.width h.positive) (high_fits s.width h.positive h.width);
  y2 = high_edge s.y1 s.y2 (pos 100) h.y1 h.y2 (omega (arith, ints)) hundred;
}

wire_level : (s : Segment) → IsReadySegment s → HasCellEdges (run_rect Left s)
wire_level s h = record {
  x1 = low_edge s.x1 s.x2 (pos 100) h.x1 h.x2 (omega (arith, ints)) hundred;
  y1 = low_edge s.y1 s.y2 (int_div s.width (pos 2)) h.y1 h.y2 (low_least s.width h.positive) (low_fits s.width h.positive h.width);
  x2 = high_edge s.x1 s.x2 (pos 100) h.x1 h.x2 (omega (arith, ints)) hundred;
  y2 = high_edge s.y1 s.y2 (s.width -ℤ int_div s.width (pos 2)) h.y1 h.y2 (high_least s.width h.positive) (high_fits s.width h.positive h.width);
}

pub wire_edges : (d : Direction) (s : Segment) → IsReadySegment s → HasCellEdges (run_rect d s)
wire_edges Up s h = wire_upright s h
wire_edges Down s h = wire_upright s h
wire_edges Left s h = wire_level s h
wire_edges Right s h = wire_level s h

pub plain_square_edges : (x y w : ℤ) → IsCoordinate x → IsCoordinate y → pos 1 ≤ℤ w → IsCoordinate w → HasCellEdges (square x y w)
plain_square_edges x y w hx hy positive hw =
    let a = hx.low in let b = hx.high in let c = hy.low in let d = hy.high in let e = hw.high in
    record {
      x1 = record { low = omega (arith, ints, a, b, positive, e); high = omega (arith, ints, a, b, positive, e) };
      y1 = record { low = omega (arith, ints, c, d, positive, e); high = omega (arith, ints, c, d, positive, e) };
      x2 = record { low = omega (arith, ints, a, b, positive, e); high = omega (arith, ints, a, b, positive, e) };
      y2 = record { low = omega (arith, ints, c, d, positive, e); high = omega (arith, ints, c, d, positive, e) };
    }

pub square_edges : (x y w : ℤ) → IsCoordinate x → IsCoordinate y → pos 1 ≤ℤ w → IsCoordinate w → HasCellEdges (shortened true (square x y w))
square_edges x y w hx hy positive hw =
    let a = hx.low in let b = hx.high in let c = hy.low in let d = hy.high in let e = hw.high in
    record {
      x1 = record { low = omega (arith, ints, a, b, positive, e); high = omega (arith, ints, a, b, positive, e) };
      y1 = record { low = omega (arith, ints, c, d, positive, e); high = omega (arith, ints, c, d, positive, e) };
      x2 = record { low = omega (arith, ints, a, b, positive, e); high = omega (arith, ints, a, b, positive, e) };
      y2 = record { low = omega (arith, ints, c, d, positive, e); high = omega (arith, ints, c, d, positive, e) };
    }

point_edge : (c : ℤ) → IsCoordinate c → IsCellEdge c
point_edge c h = let p = h.low in let q = h.high in record { low = omega (arith, ints, p, q); high = omega (arith, ints, p, q) }

item_edges : (one : Item) (m : Mark) → IsReady one → In m (item_marks one) → HasCellEdges m.core
item_edges (item.Segment s) m r here = run_edges s.direction s r
item_edges (item.Segment s) m r (there h) = elim h [ ]
item_edges (item.Connector c) m r here = square_edges c.x c.y c.width r.x r.y r.positive r.width
item_edges (item.Connector c) m r (there h) = elim h [ ]
item_edges (item.Via v) m r here = record { x1 = point_edge v.x r.x; y1 = point_edge v.y r.y; x2 = point_edge v.x r.x; y2 = point_edge v.y r.y }
item_edges (item.Via v) m r (there h) = elim h [ ]
item_edges (item.Instance i) m r h = elim h [ ]
item_edges (item.Reference w) m r h = elim h [ ]
item_edges (item.Remark text) m r h = elim h [ ]

-- ---- lines

lines_edges : (items : List Item) (m : Mark) → ((one : Item) → In one items → IsReady one) → In m (drawn_marks items) → HasCellEdges m.core
lines_edges [] m ready h = elim h [ ]
lines_edges (one ∷ rest) m ready h =
    ⊎_elim (λ g. item_edges one m (ready one here) g) (λ g. lines_edges rest m (λ x i. ready x (there i)) g) (In-split m (item_marks one) (drawn_marks rest) h)

pub drawn_edges : (items : List Item) → All IsReady items → (m : Mark) → In m (drawn_marks items) → HasCellEdges m.core
drawn_edges items ready m h = lines_edges items m (λ x i. All-In IsReady items ready x i) h

-- the mark that is read at a place
pub read_edges : (items : List Item) (ms : List Mark) (k : ℕ) (m : Mark) → ms ≡ drawn_marks items → All IsReady items → k < length ms → m ≡ get_or ms k m → HasCellEdges m.core
read_edges items ms k m same ready low is =
    let at : In (get_or ms k m) ms = In-at ms k m low in
    drawn_edges items ready m (subst (λ (xs : List Mark). In m xs) same (subst (λ (x : Mark). In x ms) (sym is) at))

-- ---- a layout

one_reach : (o : Option Cell) (i : Placed) (m : Mark) → ((c : Cell) → o ≡ Some c → IsFormed c) → IsCoordinate i.x → IsCoordinate i.y → In m (instance_marks o i) → HasReach m.core
one_reach None i m formed x y h = elim h [ ]
one_reach (Some c) i m formed x y h =
    let own = In-map_back (placed_mark c i) m (drawn_marks c.items) h in
    let f = formed c refl in
    subst (λ (v : Mark). HasReach v.core) own.2 (placed_reach i.transform own.0.core c.bounds i.x i.y (drawn_edges c.items f.ready own.0 own.1) f.coordinates x y)

shown_reach : (l : Library) (items : List Item) (m : Mark) → ((c : Cell) → In c l.cells → IsFormed c) → ((i : Placed) → In i (instances_of items) → IsCoordinate i.x × IsCoordinate i.y)
    → In m (shown_marks l items) → HasReach m.core
shown_reach l [] m formed near h = elim h [ ]
shown_reach l (item.Segment s ∷ rest) m formed near h = shown_reach l rest m formed near h
shown_reach l (item.Connector c ∷ rest) m formed near h = shown_reach l rest m formed near h
shown_reach l (item.Via v ∷ rest) m formed near h = shown_reach l rest m formed near h
shown_reach l (item.Instance i ∷ rest) m formed near h =
    ⊎_elim
    (λ a. one_reach (cell_of l i.model) i m (λ c e. named_formed l.cells i.model c formed e) (near i here).0 (near i here).1 a)
    (λ b. shown_reach l rest m formed (λ j k. near j (there k)) b)
    (In-split m (instance_marks (cell_of l i.model) i) (shown_marks l rest) h)
shown_reach l (item.Reference r ∷ rest) m formed near h = shown_reach l rest m formed near h
shown_reach l (item.Remark text ∷ rest) m formed near h = shown_reach l rest m formed near h

pub marks_reach : (items : List Item) (l : Library) → All IsReady items → All IsFormed l.cells → ((i : Placed) → In i (instances_of items) → IsCoordinate i.x × IsCoordinate i.y)
    → All (λ (m : Mark). HasReach m.core) (marks l items)
marks_reach items l ready formed near =
    All-from (λ (m : Mark). HasReach m.core) (marks l items)
    (λ m h.
    ⊎_elim
    (λ a. edges_reach m.core (drawn_edges items ready m a))
    (λ b. shown_reach l items m (λ c i. All-In IsFormed l.cells formed c i) near b)
    (In-split m (drawn_marks items) (shown_marks l items) h))
