-- The drawing of a block of several rows, from the wires and vias of its nets.
use Rattle.std.specs.Prelude.{◌≡◌, ℕ, ◌+◌, ◌-◌, ◌*◌, ◌/◌, ◌<◌, ◌≤◌, pos, true, false, List, [], ◌∷◌, ◌++◌, map, None, ◌⊎◌}
use Rattle.sym_geom.specs.declared.grid.TheConstants.{PITCH, ROW_HEIGHT, WIRE_WIDTH, RAIL_WIDTH, VSS_STRAP_X, FIRST_CELL_X}
use Rattle.block_geom.specs.Figure.{Supply, Vss, Vdd, Shape, Power, Bit, Segment, Connector, Via, up_to, In}
use Rattle.block_geom.specs.Block.{PowerNet, Signal, Block, Tagged, at_x, first_column, rail_y, pin_column, pin_row, Terminal, AtPort, AtPin, Exists, net_of, AreJoined}
use Rattle.block_geom.specs.Tracks.{strap_column, blank_lines}

-- a node of the grid, whose columns are counted from x 0
pub record Node : Type 0 where
  pub metal : ℕ
  pub column : ℕ
  pub row : ℕ

-- a straight wire from its lesser to its greater end
pub record Wire : Type 0 where
  pub metal : ℕ
  pub c1 : ℕ
  pub r1 : ℕ
  pub c2 : ℕ
  pub r2 : ℕ

-- what is drawn of the nets, and where the ports stand
pub record Routes : Type 0 where
  pub wires : ℕ → List Wire
  pub vias : ℕ → List Node  -- by their lower metals; those from metal 1 stand at pins
  pub nodes : ℕ → List Node  -- that the net has: those of its tree, and of its port
  pub port_column : ℕ → ℕ

-- the row above all rows of cells, in which ports stand
abbrev pub port_row : ℕ → ℕ
port_row rows = ROW_HEIGHT / PITCH * rows + 1

-- the node above another, and those of a pin and of a port
abbrev pub above : Node → Node
above v = record { metal = v.metal + 1; column = v.column; row = v.row }

abbrev pub pin_foot : Block → ℕ → ℕ → Node
pin_foot b i p = record { metal = 1; column = pin_column b i p; row = pin_row b i p }

abbrev pub port_node : Block → Routes → ℕ → Node
port_node b r k = record { metal = 3; column = r.port_column k; row = port_row b.rows }

-- ---- lines

-- A wire is written as upright: its rectangle is the same whichever way it runs, since it is twice as wide as its overhang.
abbrev pub wire_line : ℕ → Wire → Tagged
wire_line n w = record { net = Signal n; line = Segment w.metal WIRE_WIDTH true (at_x w.c1) (at_x w.r1) (at_x w.c2) (at_x w.r2) None }

abbrev pub via_line : ℕ → Node → Tagged
via_line n v = record { net = Signal n; line = Via v.metal (at_x v.column) (at_x v.row) }

abbrev pub maze_port : Block → Routes → ℕ → Tagged
maze_port b r k = record {
  net = Signal (b.port_net k);
  line = Connector 3 WIRE_WIDTH (at_x (r.port_column k)) (at_x (port_row b.rows)) (Bit k);
}

abbrev pub maze_ports : Block → Routes → List Tagged
maze_ports b r = up_to b.ports (λ k. maze_port b r k ∷ [])

-- net by net: its wires, then its vias
abbrev pub net_lines : Routes → ℕ → List Tagged
net_lines r n = map (wire_line n) (r.wires n) ++ map (via_line n) (r.vias n)

abbrev pub maze_nets : Block → Routes → List Tagged
maze_nets b r = up_to b.nets (net_lines r)

-- the rails of a row, and the straps with their vias
abbrev pub rail_line_at : Block → ℕ → Supply → Tagged
rail_line_at b j u = record {
  net = PowerNet u;
  line =
      Segment 1 RAIL_WIDTH false (pos VSS_STRAP_X) (pos (rail_y j u)) (pos (FIRST_CELL_X + PITCH * b.columns))
      (pos (rail_y j u)) None;
}

abbrev pub strap_line : Block → Supply → Tagged
strap_line b u = record {
  net = PowerNet u;
  line =
      Segment 3 WIRE_WIDTH true (at_x (strap_column u)) (pos (rail_y 0 u)) (at_x (strap_column u)) (pos (rail_y (b.rows - 1) u))
      None;
}

abbrev pub rail_vias : Supply → ℕ → List Tagged
rail_vias u j =
    record { net = PowerNet u; line = Via 1 (at_x (strap_column u)) (pos (rail_y j u)) }
    ∷ (record { net = PowerNet u; line = Via 2 (at_x (strap_column u)) (pos (rail_y j u)) } ∷ [])

abbrev pub strap_lines : Block → Supply → List Tagged
strap_lines b u = strap_line b u ∷ up_to b.rows (rail_vias u)

abbrev pub rail_lines : Block → List Tagged
rail_lines b = up_to b.rows (λ j. rail_line_at b j Vss ∷ (rail_line_at b j Vdd ∷ []))

abbrev pub row_supplies : Block → List Tagged
row_supplies b = rail_lines b ++ (strap_lines b Vss ++ strap_lines b Vdd)

abbrev pub supply_port : Supply → Tagged
supply_port u = record { net = PowerNet u; line = Connector 1 RAIL_WIDTH (pos VSS_STRAP_X) (pos (rail_y 0 u)) (Power u) }

-- all lines, in the order of the file
abbrev pub maze_lines : Block → Routes → List Tagged
maze_lines b r =
    (supply_port Vss ∷ (supply_port Vdd ∷ maze_ports b r)) ++ (blank_lines b ++ (row_supplies b ++ maze_nets b r))

-- ---- what a drawing rests on

-- a via between two nodes of its net, or from one of its pins up to one of its nodes
pub data IsVia (b : Block) (r : Routes) (n : ℕ) (v : Node) : Type 0 where
  between : In v (r.nodes n) → In (above v) (r.nodes n) → IsVia b r n v
  at_pin : (i p : ℕ) → i < b.count → p < (b.cell i).pins → b.net i p ≡ n → v ≡ pin_foot b i p → In (above v) (r.nodes n) → IsVia b r n v

-- the wire lies on nodes of its net
pub record IsOnNodes (r : Routes) (n : ℕ) (w : Wire) : Type 0 where
  pub columns : w.c1 ≤ w.c2
  pub rows : w.r1 ≤ w.r2
  pub nodes : (c y : ℕ) → w.c1 ≤ c → c ≤ w.c2 → w.r1 ≤ y → y ≤ w.r2
      → In (record { metal = w.metal; column = c; row = y }) (r.nodes n)

-- No node has two nets, and all that is drawn of a net stands on its nodes: complete or not.
pub record IsWired (b : Block) (r : Routes) : Type 0 where
  pub rows : 1 ≤ b.rows
  pub apart : (n k : ℕ) (p : Node) → n < b.nets → k < b.nets → In p (r.nodes n) → In p (r.nodes k) → n ≡ k
  pub grid : (n : ℕ) (p : Node) → n < b.nets → In p (r.nodes n) → (2 ≤ p.metal) × (first_column ≤ p.column)
  pub wires : (n : ℕ) (w : Wire) → n < b.nets → In w (r.wires n) → IsOnNodes r n w
  pub vias : (n : ℕ) (v : Node) → n < b.nets → In v (r.vias n) → IsVia b r n v
  pub ports : (k : ℕ) → k < b.ports → (b.port_net k < b.nets) × In (port_node b r k) (r.nodes (b.port_net k))

-- two nodes lie on one wire of the net, or are the ends of one of its vias
pub data IsStep (r : Routes) (n : ℕ) (p q : Node) : Type 0 where
  along : (w : Wire) → In w (r.wires n) → p.metal ≡ w.metal → q.metal ≡ w.metal → w.c1 ≤ p.column → p.column ≤ w.c2
      → w.r1 ≤ p.row → p.row ≤ w.r2 → w.c1 ≤ q.column → q.column ≤ w.c2 → w.r1 ≤ q.row → q.row ≤ w.r2 → IsStep r n p q
  up : In p (r.vias n) → q ≡ above p → IsStep r n p q
  down : In q (r.vias n) → p ≡ above q → IsStep r n p q

pub data IsWay (r : Routes) (n : ℕ) : Node → Node → Type 0 where
  stay : {p : Node} → IsWay r n p p
  step : {p q t : Node} → IsStep r n p q → IsWay r n q t → IsWay r n p t

-- where a terminal is attached to what is drawn of net n: at a port's node, or at a pin with a via
pub data IsAttachedAt (b : Block) (r : Routes) (n : ℕ) : Terminal → Node → Type 0 where
  port_attached : (k : ℕ) → IsAttachedAt b r n (AtPort (Bit k)) (port_node b r k)
  pin_attached : (i p : ℕ) → In (pin_foot b i p) (r.vias n) → IsAttachedAt b r n (AtPin i (Bit p)) (pin_foot b i p)

-- a way leads from one terminal to the other
pub record AreConnected (b : Block) (r : Routes) (n : ℕ) (t u : Terminal) : Type 0 where
  pub from : Node
  pub to : Node
  pub attached_from : IsAttachedAt b r n t from
  pub attached_to : IsAttachedAt b r n u to
  pub way : IsWay r n from to

-- Ways lead between all terminals of each net. A pin whose number is past those of the nets shares it with no other terminal.
pub record IsComplete (b : Block) (r : Routes) : Type 0 where
  pub joined : (t u : Terminal) (n : ℕ) → Exists b t → Exists b u → net_of b t ≡ Signal n → net_of b u ≡ Signal n
      → (t ≡ u) ⊎ ((n < b.nets) × AreConnected b r n t u)

-- ---- the claim for routes that may be incomplete

-- terminals that are joined have one net, those of a supply are joined, and each terminal has a shape
pub record KeepsNets (b : Block) (xs : List Shape) : Type 0 where
  pub only : (t u : Terminal) → Exists b t → Exists b u → AreJoined xs t u → net_of b t ≡ net_of b u
  pub supplies : (t u : Terminal) (s : Supply) → Exists b t → Exists b u → net_of b t ≡ PowerNet s → net_of b u ≡ PowerNet s
      → AreJoined xs t u
  pub itself : (t : Terminal) → Exists b t → AreJoined xs t t
