-- How far the shapes of a layout reach.
use Rattle.std.proofs.Common.{◌≡◌, ⊎_elim, ℕ, refl, Bool, true, false, List, [], ◌∷◌, Option, None, Some, All, sym, subst, ap, arith, neg_ℤ}
use Rattle.std.specs.Prelude.{ℤ, pos, ◌+ℤ◌, ◌-ℤ◌, ◌≤ℤ◌, if◌then◌else◌}
use Rattle.std.proofs.lemmas.Int.{ints}
use Rattle.std.proofs.lemmas.Option.{same_Some}
use Rattle.vlsi_base.specs.Member.{In, here, there}
use Rattle.sym_geom.specs.Rect.{IsCoordinate, HasCoordinates, IsReach, HasReach, moved, turned}
use Rattle.sym_geom.specs.declared.rect.Rect.{Rect}
use Rattle.sym_geom.specs.declared.rect.Transform.{Transform}
use Rattle.sym_geom.specs.declared.rect.Transform.TheVariants.{NoSym, SymX, SymY, SymXY}
use Rattle.sym_geom.specs.declared.item.Instance.{Instance as Placed}
use Rattle.sym_geom.specs.declared.item.Item.{Item}
use Rattle.sym_shapes.specs.Ready.{IsReady}
use Rattle.sym_shapes.specs.Shape.{Shape, drawn}
use Rattle.machine_core.specs.Named.{is_same_text}
use Rattle.cell_model.specs.Cell.{Cell, cell_width, cell_height}
use Rattle.cell_model.specs.Library.{Library, cell_named, cell_of}
use Rattle.cell_model.specs.Layout.{placed, instance_shapes, instances_of, all_instances_show, shapes}
use Rattle.cell_model.specs.Usable.{IsFormed}
use Rattle.cell_model.proofs.Members.{In-split, In-map_back, All-In, All-from}
use Rattle.cougar_extract.specs.Stages.{IsCellEdge, HasCellEdges}
use Rattle.cougar_extract.proofs.Reaches.{drawn_reach}

pub edges_reach : (r : Rect) → HasCellEdges r → HasReach r
edges_reach r h = record { x1 = wider r.x1 h.x1; y1 = wider r.y1 h.y1; x2 = wider r.x2 h.x2; y2 = wider r.y2 h.y2 } where
  wider : (c : ℤ) → IsCellEdge c → IsReach c
  wider c k = let p = k.low in let q = k.high in record { low = omega (arith, ints, p, q); high = omega (arith, ints, p, q) }

-- ---- an edge of a cell where an instance shows it: as it is, or exchanged with the other
plain_edge : (c b i : ℤ) → IsCellEdge c → IsCoordinate b → IsCoordinate i → IsReach ((c +ℤ neg_ℤ b) +ℤ i)
plain_edge c b i h k m =
    let p = h.low in let q = h.high in let u = k.low in let v = k.high in let x = m.low in let y = m.high in
    record { low = omega (arith, ints, p, q, u, v, x, y); high = omega (arith, ints, p, q, u, v, x, y) }

turned_edge : (c b d i : ℤ) → IsCellEdge c → IsCoordinate b → IsCoordinate d → IsCoordinate i → IsReach (((d -ℤ b) -ℤ (c +ℤ neg_ℤ b)) +ℤ i)
turned_edge c b d i h k n m =
    let p = h.low in let q = h.high in let u = k.low in let v = k.high in let r = n.low in let s = n.high in let x = m.low in let y = m.high in
    record { low = omega (arith, ints, p, q, u, v, r, s, x, y); high = omega (arith, ints, p, q, u, v, r, s, x, y) }

pub placed_reach : (t : Transform) (r b : Rect) (x y : ℤ) → HasCellEdges r → HasCoordinates b → IsCoordinate x → IsCoordinate y
    → HasReach (moved (turned t (moved r (neg_ℤ b.x1) (neg_ℤ b.y1)) (b.x2 -ℤ b.x1) (b.y2 -ℤ b.y1)) x y)
placed_reach NoSym r b x y h k m n = record {
  x1 = plain_edge r.x1 b.x1 x h.x1 k.x1 m;
  y1 = plain_edge r.y1 b.y1 y h.y1 k.y1 n;
  x2 = plain_edge r.x2 b.x1 x h.x2 k.x1 m;
  y2 = plain_edge r.y2 b.y1 y h.y2 k.y1 n;
}
placed_reach SymX r b x y h k m n = record {
  x1 = turned_edge r.x2 b.x1 b.x2 x h.x2 k.x1 k.x2 m;
  y1 = plain_edge r.y1 b.y1 y h.y1 k.y1 n;
  x2 = turned_edge r.x1 b.x1 b.x2 x h.x1 k.x1 k.x2 m;
  y2 = plain_edge r.y2 b.y1 y h.y2 k.y1 n;
}
placed_reach SymY r b x y h k m n = record {
  x1 = plain_edge r.x1 b.x1 x h.x1 k.x1 m;
  y1 = turned_edge r.y2 b.y1 b.y2 y h.y2 k.y1 k.y2 n;
  x2 = plain_edge r.x2 b.x1 x h.x2 k.x1 m;
  y2 = turned_edge r.y1 b.y1 b.y2 y h.y1 k.y1 k.y2 n;
}
placed_reach SymXY r b x y h k m n = record {
  x1 = turned_edge r.x2 b.x1 b.x2 x h.x2 k.x1 k.x2 m;
  y1 = turned_edge r.y2 b.y1 b.y2 y h.y2 k.y1 k.y2 n;
  x2 = turned_edge r.x1 b.x1 b.x2 x h.x1 k.x1 k.x2 m;
  y2 = turned_edge r.y1 b.y1 b.y2 y h.y1 k.y1 k.y2 n;
}

-- ---- shapes

-- a cell that is found is one of the library's
pub named_formed : (cells : List Cell) (model : List ℕ) (c : Cell) → ((d : Cell) → In d cells → IsFormed d) → cell_named cells model ≡ Some c → IsFormed c
named_formed [] model c each e = absurd (cc e)
named_formed (d ∷ rest) model c each e = by (is_same_text d.name model) (named_formed rest model c (λ x i. each x (there i))) e where
  by : (b : Bool) → (cell_named rest model ≡ Some c → IsFormed c) → (if b then Some d else cell_named rest model) ≡ Some c → IsFormed c
  by true behind g = subst IsFormed (same_Some d c g) (each d here)
  by false behind g = behind g

one_reach : (o : Option Cell) (i : Placed) (s : Shape) → ((c : Cell) → o ≡ Some c → IsFormed c) → IsCoordinate i.x → IsCoordinate i.y → In s (instance_shapes o i) → HasReach s.rect
one_reach None i s formed x y h = elim h [ ]
one_reach (Some c) i s formed x y h =
    let own = In-map_back (placed c i) s (drawn c.items) h in
    let f = formed c refl in
    subst (λ (v : Shape). HasReach v.rect) own.2 (placed_reach i.transform own.0.rect c.bounds i.x i.y (drawn_reach c.items f.ready own.0 own.1) f.coordinates x y)

shown_reach : (l : Library) (is : List Placed) (s : Shape) → ((c : Cell) → In c l.cells → IsFormed c) → ((i : Placed) → In i is → IsCoordinate i.x × IsCoordinate i.y)
    → In s (all_instances_show l is) → HasReach s.rect
shown_reach l [] s formed near h = elim h [ ]
shown_reach l (i ∷ rest) s formed near h =
    ⊎_elim
    (λ a. one_reach (cell_of l i.model) i s (λ c e. named_formed l.cells i.model c formed e) (near i here).0 (near i here).1 a)
    (λ b. shown_reach l rest s formed (λ j k. near j (there k)) b)
    (In-split s (instance_shapes (cell_of l i.model) i) (all_instances_show l rest) h)

pub shapes_reach : (items : List Item) (l : Library) → All IsReady items → All IsFormed l.cells → ((i : Placed) → In i (instances_of items) → IsCoordinate i.x × IsCoordinate i.y)
    → All (λ (s : Shape). HasReach s.rect) (shapes items l)
shapes_reach items l ready formed near =
    All-from (λ (s : Shape). HasReach s.rect) (shapes items l)
    (λ s h.
    ⊎_elim
    (λ a. edges_reach s.rect (drawn_reach items ready s a))
    (λ b. shown_reach l (instances_of items) s (λ c i. All-In IsFormed l.cells formed c i) near b)
    (In-split s (drawn items) (all_instances_show l (instances_of items)) h))
