-- The bytes of a CIF file.
use Rattle.std.specs.Prelude.{ℕ, ◌==◌, Bool, ℤ, pos, ◌+ℤ◌, ◌-ℤ◌, List, [], ◌∷◌, ◌++◌, codes, int_div, if◌then◌else◌}
use Rattle.std.specs.List.{list_any}
use Rattle.std.specs.Fmt.{decimal, signed_decimal}
use Rattle.sym_geom.specs.declared.rect.Rect.{Rect}
use Rattle.s2r_cif.specs.declared.layout.RealBox.{RealBox}
use Rattle.s2r_cif.specs.declared.layout.RealLayout.{RealLayout}

-- a number behind a blank
abbrev pub number_text : ℤ → List ℕ
number_text n = 32 ∷ signed_decimal n

-- how long a box is along x, and how wide along y
abbrev pub size_text : Rect → List ℕ
size_text r = number_text (r.x2 -ℤ r.x1) ++ number_text (r.y2 -ℤ r.y1)

-- the point in the middle
abbrev pub centre_text : Rect → List ℕ
centre_text r = number_text (int_div (r.x1 +ℤ r.x2) (pos 2)) ++ number_text (int_div (r.y1 +ℤ r.y2) (pos 2))

-- the line of a box
abbrev pub box_text : RealBox → List ℕ
box_text b = codes "B" ++ (size_text b.rect ++ (centre_text b.rect ++ codes ";\n"))

-- its line, if it is of this level
abbrev pub line_on : ℕ → RealBox → List ℕ
line_on level b = if b.level == level then box_text b else []

-- the lines of those boxes that are of a level
abbrev pub boxes_text : ℕ → List RealBox → List ℕ
boxes_text level [] = []
boxes_text level (b ∷ rest) = line_on level b ++ boxes_text level rest

-- the line that begins a layer: a letter and the level
abbrev pub heading_text : ℕ → ℕ → List ℕ
heading_text letter level = codes "L " ++ (letter ∷ (decimal level ++ codes ";\n"))

-- some box is of this level
abbrev pub has_level : ℕ → List RealBox → Bool
has_level level boxes = list_any (λ b. b.level == level) boxes

-- a layer, if some box is of its level
abbrev pub layer_text : ℕ → ℕ → List RealBox → List ℕ
layer_text letter level boxes = if has_level level boxes then heading_text letter level ++ boxes_text level boxes else []

-- the layers of some levels
abbrev pub layers_text : ℕ → List ℕ → List RealBox → List ℕ
layers_text letter [] boxes = []
layers_text letter (level ∷ rest) boxes = layer_text letter level boxes ++ layers_text letter rest boxes

abbrev pub levels : List ℕ
levels = 1 ∷ 2 ∷ 3 ∷ 4 ∷ 5 ∷ 6 ∷ []

-- The file: one symbol, in which all numbers count halves of a unit; the metals M1 to M6 and the cuts V1 to V5, those that have
-- boxes; and one call of the symbol.
unfoldable pub cif_text : RealLayout → List ℕ
cif_text r =
    codes "DS 1 1 2;\n" ++ (layers_text 77 levels r.boxes ++ (layers_text 86 levels r.cuts ++ codes "DF;\nC 1;\nE\n"))
