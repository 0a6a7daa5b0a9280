-- The boxes of what is drawn, by a table of a process.
use Rattle.std.specs.Prelude.{ℕ, ℤ, pos, ◌+ℤ◌, ◌-ℤ◌, ◌*ℤ◌, Bool, false, not, List, [], ◌∷◌, ◌++◌, bytes_eq, if◌then◌else◌}
use Rattle.std.specs.List.{prefix_len}
use Rattle.sym_geom.specs.Rect.{moved}
use Rattle.sym_geom.specs.declared.rect.Rect.{Rect}
use Rattle.real_table.specs.declared.table.Growth.{Growth}
use Rattle.real_table.specs.declared.table.Rule.{Rule}
use Rattle.real_table.specs.declared.table.Entry.{Entry}
use Rattle.real_table.specs.declared.table.Entry.TheVariants as entry
use Rattle.real_boxes.specs.declared.mark.Mark.{Mark}
use Rattle.real_boxes.specs.declared.boxes.RealBox.{RealBox}

-- each edge times the scale, the ends moved outward by one length and the sides by another
abbrev pub grown : ℕ → ℤ → ℤ → Rect → Rect
grown scale x y r = record {
  x1 = (pos scale *ℤ r.x1) -ℤ x;
  y1 = (pos scale *ℤ r.y1) -ℤ y;
  x2 = (pos scale *ℤ r.x2) +ℤ x;
  y2 = (pos scale *ℤ r.y2) +ℤ y;
}

abbrev pub across_x : Growth → Bool → ℤ
across_x g upright = if upright then g.across else g.along

abbrev pub across_y : Growth → Bool → ℤ
across_y g upright = if upright then g.along else g.across

-- the box of what is drawn, which is moved when all else is done
abbrev pub box_rect : ℕ → Growth → Bool → Rect → Rect
box_rect scale g upright core = moved (grown scale (across_x g upright) (across_y g upright) core) g.x g.y

-- the entry has a box on this real layer
abbrev pub names_layer : List ℕ → Entry → Bool
names_layer real (entry.Rule r) = bytes_eq r.real real
names_layer real _ = false

-- A real layer by its number: the place, from 0, of the first line of the table that has a box on it.
abbrev pub layer_of : List Entry → List ℕ → ℕ
layer_of entries real = prefix_len (λ e. not (names_layer real e)) entries

-- the boxes that one line of the table gives
abbrev pub rule_boxes : List Entry → ℕ → Rule → Mark → List RealBox
rule_boxes all scale r m =
    if bytes_eq r.word m.word then record { layer = layer_of all r.real; rect = box_rect scale r.growth m.upright m.core } ∷ [] else []

abbrev pub entry_boxes : List Entry → ℕ → Entry → Mark → List RealBox
entry_boxes all scale (entry.Rule r) m = rule_boxes all scale r m
entry_boxes all scale (entry.Metal k real) m = []
entry_boxes all scale (entry.Space real gap) m = []
entry_boxes all scale (entry.Label layer real) m = []
entry_boxes all scale entry.Nothing m = []

-- those of lines of the table, in their order
abbrev pub boxes_by : List Entry → ℕ → List Entry → Mark → List RealBox
boxes_by all scale [] m = []
boxes_by all scale (e ∷ rest) m = entry_boxes all scale e m ++ boxes_by all scale rest m

-- the boxes of all that is drawn, in its order
abbrev pub boxes_of : List Entry → ℕ → List Mark → List RealBox
boxes_of all scale [] = []
boxes_of all scale (m ∷ rest) = boxes_by all scale all m ++ boxes_of all scale rest
