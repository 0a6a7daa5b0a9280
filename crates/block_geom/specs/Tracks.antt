-- The drawing of a block of one row, with a private track for each net.
use Rattle.std.specs.Prelude.{◌≡◌, ℕ, ◌+◌, ◌*◌, ◌/◌, ◌<◌, ◌≤◌, pos, true, false, nat_eq, if◌then◌else◌, List, [], ◌∷◌, ◌++◌, None}
use Rattle.sym_geom.specs.declared.grid.TheConstants.{PITCH, WIRE_WIDTH, RAIL_WIDTH, VSS_RAIL_Y, VDD_RAIL_Y, VSS_STRAP_X, VDD_STRAP_X, FIRST_CELL_X, FIRST_TRACK_Y}
use Rattle.block_geom.specs.Figure.{Supply, Vss, Vdd, Power, Bit, Segment, Connector, Via, Blank, up_to}
use Rattle.block_geom.specs.Block.{PowerNet, Signal, Block, HasOwnColumns, Tagged, at_x, first_column, pin_column, pin_row}

-- the row of net n's track
abbrev pub track : ℕ → ℕ
track n = FIRST_TRACK_Y / PITCH + n

-- the lines of pin p of instance i, on net n
abbrev pub pin_lines : Block → ℕ → ℕ → ℕ → List Tagged
pin_lines b n i p =
    record {
      net = Signal n;
      line =
          Segment 3 WIRE_WIDTH true (at_x (pin_column b i p)) (at_x (pin_row b i p)) (at_x (pin_column b i p))
          (at_x (track n)) None;
    }
    ∷ (record { net = Signal n; line = Via 1 (at_x (pin_column b i p)) (at_x (pin_row b i p)) }
    ∷ (record { net = Signal n; line = Via 2 (at_x (pin_column b i p)) (at_x (pin_row b i p)) }
    ∷ (record { net = Signal n; line = Via 2 (at_x (pin_column b i p)) (at_x (track n)) } ∷ [])))

-- of the pins that are on net n
abbrev pub terminal_lines : Block → ℕ → List Tagged
terminal_lines b n = up_to b.count (λ i. up_to (b.cell i).pins (λ p. if nat_eq (b.net i p) n then pin_lines b n i p else []))

-- a track from the least to the greatest of its points' columns
abbrev pub track_line : ℕ → ℕ → ℕ → Tagged
track_line n lo hi =
    record { net = Signal n; line = Segment 2 WIRE_WIDTH false (at_x lo) (at_x (track n)) (at_x hi) (at_x (track n)) None }

-- a port stands on its net's track, in the first column
abbrev pub port_line : Block → ℕ → Tagged
port_line b k =
    record {
      net = Signal (b.port_net k);
      line = Connector 2 WIRE_WIDTH (at_x first_column) (at_x (track (b.port_net k))) (Bit k);
    }

abbrev pub port_lines : Block → List Tagged
port_lines b = up_to b.ports (λ k. port_line b k ∷ [])

-- the track of a net that has one
abbrev pub drawn_track : Block → (ℕ → ℕ) → (ℕ → ℕ) → ℕ → List Tagged
drawn_track b lo hi n = if b.many n then track_line n (lo n) (hi n) ∷ [] else []

-- the lines of all nets, net by net: its track, then its pins
abbrev pub net_lines : Block → (ℕ → ℕ) → (ℕ → ℕ) → List Tagged
net_lines b lo hi = up_to b.nets (λ n. drawn_track b lo hi n ++ terminal_lines b n)

-- ---- supplies, in one row

-- the middle of a supply's rail, and the column of its strap
abbrev pub centre : Supply → ℕ
centre Vss = VSS_RAIL_Y
centre Vdd = VDD_RAIL_Y

abbrev pub strap_column : Supply → ℕ
strap_column Vss = VSS_STRAP_X / PITCH
strap_column Vdd = VDD_STRAP_X / PITCH

-- a supply's port, its rail, and its strap with the vias
abbrev pub supply_port : Supply → Tagged
supply_port s = record { net = PowerNet s; line = Connector 1 RAIL_WIDTH (pos VSS_STRAP_X) (pos (centre s)) (Power s) }

abbrev pub rail_line : Block → Supply → Tagged
rail_line b s = record {
  net = PowerNet s;
  line =
      Segment 1 RAIL_WIDTH false (pos VSS_STRAP_X) (pos (centre s)) (pos (FIRST_CELL_X + PITCH * b.columns))
      (pos (centre s)) None;
}

abbrev pub strap_lines : Supply → List Tagged
strap_lines s =
    record {
      net = PowerNet s;
      line = Segment 3 WIRE_WIDTH true (at_x (strap_column s)) (pos (centre s)) (at_x (strap_column s)) (pos (centre s)) None;
    }
    ∷ (record { net = PowerNet s; line = Via 1 (at_x (strap_column s)) (pos (centre s)) }
    ∷ (record { net = PowerNet s; line = Via 2 (at_x (strap_column s)) (pos (centre s)) } ∷ []))

-- rails, the strap of vss and that of vdd
abbrev pub supply_lines : Block → List Tagged
supply_lines b = (rail_line b Vss ∷ (rail_line b Vdd ∷ [])) ++ (strap_lines Vss ++ strap_lines Vdd)

-- a line for each instance, which draws nothing itself
abbrev pub blank_lines : Block → List Tagged
blank_lines b = up_to b.count (λ i. record { net = PowerNet Vss; line = Blank } ∷ [])

-- all lines, in the order of the file
abbrev pub block_lines : Block → (ℕ → ℕ) → (ℕ → ℕ) → List Tagged
block_lines b lo hi =
    (supply_port Vss ∷ (supply_port Vdd ∷ port_lines b)) ++ (blank_lines b ++ (supply_lines b ++ net_lines b lo hi))

-- One row; each track reaches all the points of its net; no two pins of a cell have one column. A pin whose number is past those of
-- the nets is on none: nothing is drawn at it, and no other pin has its number.
pub record HasTracks (b : Block) (lo hi : ℕ → ℕ) : Type 0 where
  pub one_row : b.rows ≡ 1
  pub columns : (i : ℕ) → i < b.count → HasOwnColumns (b.cell i)
  pub off : (i p j q : ℕ) → i < b.count → p < (b.cell i).pins → j < b.count → q < (b.cell j).pins
      → b.nets ≤ b.net i p → b.net i p ≡ b.net j q → (i ≡ j) × (p ≡ q)
  pub port_nets : (k : ℕ) → k < b.ports → b.port_net k < b.nets
  pub order : (n : ℕ) → n < b.nets → b.many n ≡ true → lo n ≤ hi n
  pub start : (n : ℕ) → n < b.nets → b.many n ≡ true → first_column ≤ lo n
  pub reached : (i p : ℕ) → i < b.count → p < (b.cell i).pins → b.net i p < b.nets → b.many (b.net i p) ≡ true
  pub pins : (i p : ℕ) → i < b.count → p < (b.cell i).pins → b.net i p < b.nets
      → (lo (b.net i p) ≤ pin_column b i p) × (pin_column b i p ≤ hi (b.net i p))
  pub ports : (k : ℕ) → k < b.ports → b.many (b.port_net k) ≡ true → lo (b.port_net k) ≡ first_column
  pub alone : (k q : ℕ) → k < b.ports → q < b.ports → b.many (b.port_net k) ≡ false → b.port_net k ≡ b.port_net q → k ≡ q
