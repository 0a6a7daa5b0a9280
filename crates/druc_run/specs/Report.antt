-- The lines of breaches.
use Rattle.std.specs.Prelude.{ℕ, ℤ, List, [], ◌∷◌, ◌++◌, codes, length}
use Rattle.std.specs.Fmt.{decimal, signed_decimal}
use Rattle.sym_geom.specs.declared.rect.Rect.{Rect}
use Rattle.druc_rules.specs.declared.breach.Breach.{Breach}
use Rattle.druc_rules.specs.declared.breach.Breach.TheVariants as breach

abbrev pub edge_text : ℤ → List ℕ
edge_text n = 32 ∷ signed_decimal n

-- left, low, right and high edge, each behind a blank
abbrev pub rect_text : Rect → List ℕ
rect_text r = edge_text r.x1 ++ (edge_text r.y1 ++ (edge_text r.x2 ++ edge_text r.y2))

-- what is broken, the metal, and the rectangles
abbrev pub breach_text : Breach → List ℕ
breach_text (breach.Width metal rect) = (codes "width " ++ decimal metal) ++ (rect_text rect ++ 10 ∷ [])
breach_text (breach.Gap metal a b) = (codes "gap " ++ decimal metal) ++ (rect_text a ++ (rect_text b ++ 10 ∷ []))

abbrev pub breaches_text : List Breach → List ℕ
breaches_text [] = []
breaches_text (b ∷ bs) = breach_text b ++ breaches_text bs

-- a line for each breach, and how many there are, without the end of that line
abbrev pub report : List Breach → List ℕ
report bs = breaches_text bs ++ (codes "breaches " ++ decimal (length bs))
