-- Rails and straps over rows.
use Rattle.std.proofs.Common.{◌≡◌, ◌++◌, ◌≤◌, ◌+◌, ◌-◌, ◌*◌, ◌%◌, ◌==◌, ℕ, zero, suc, Bool, true, false, not, List, [], ◌∷◌, map, length, get_or, Some, refl, sym, ap, ◌∙◌, arith, append_assoc, if◌then◌else◌}
use Rattle.std.specs.Prelude.{ℤ, pos, ◌+ℤ◌}
use Rattle.std.proofs.lemmas.Int.{ints}
use Rattle.vlsi_base.specs.declared.name.Name.{Name}
use Rattle.vlsi_base.specs.Names.{vdd, vss}
use Rattle.sym_geom.specs.declared.grid.TheConstants.{WIRE_WIDTH, ROW_HEIGHT, VSS_RAIL_Y, VDD_RAIL_Y, FIRST_CELL_X}
use Rattle.sym_geom.specs.declared.layer.Layer.TheVariants.{Alu}
use Rattle.sym_geom.specs.declared.layer.Level.TheVariants.{Three}
use Rattle.sym_geom.specs.declared.item.Direction.TheVariants.{Up}
use Rattle.sym_geom.specs.declared.item.Item.{Item}
use Rattle.net_meaning.specs.Netlist.{Member}
use Rattle.ocp_rows.specs.Placement.{wire, upright_wire, vss_centre, vdd_centre, centres, rail, rails, last_of, strap_vias, strap, supplies_to}
use Rattle.ocp_place.specs.Stood.{is_turned}
use Rattle.route_draw.specs.GridPieces.{rail_y, rail_ys_from, rail_ys, row_rails, both_straps, supplies_over}

-- ---- the rails of a placement

next_turned : (r : ℕ) → not (is_turned r) ≡ is_turned (suc r)
next_turned zero = refl
next_turned (suc zero) = refl
next_turned (suc (suc r)) =
    let a : suc (suc r) % 2 ≡ r % 2 = omega arith in
    let b : suc r % 2 ≡ suc (suc (suc r)) % 2 = omega arith in
    ap (λ (m : ℕ). not (not (m == 0))) a ∙ next_turned r ∙ ap (λ (m : ℕ). not (m == 0)) b

-- the middle of a rail, by whether its row is upside down
abbrev IsCentre : (Bool → ℤ → ℤ) → ℕ → ℕ → Type 0
IsCentre centre upright turned = (f : Bool) (y : ℕ) → centre f (pos y) ≡ pos (y + (if f then turned else upright))

vss_is : IsCentre vss_centre VSS_RAIL_Y VDD_RAIL_Y
vss_is true y = refl
vss_is false y = refl

vdd_is : IsCentre vdd_centre VDD_RAIL_Y VSS_RAIL_Y
vdd_is true y = refl
vdd_is false y = refl

centre_is : (centre : Bool → ℤ → ℤ) (upright turned : ℕ) → IsCentre centre upright turned → (r : ℕ) (f : Bool) (y : ℤ) → f ≡ is_turned r → y ≡ pos (ROW_HEIGHT * r)
    → centre f y ≡ pos (rail_y upright turned r)
centre_is centre upright turned is r f y ef ey =
    ap (λ (z : ℤ). centre f z) ey ∙ is f (ROW_HEIGHT * r) ∙ ap (λ (g : Bool). pos (ROW_HEIGHT * r + (if g then turned else upright))) ef

next_y : (r : ℕ) (y : ℤ) → y ≡ pos (ROW_HEIGHT * r) → y +ℤ pos ROW_HEIGHT ≡ pos (ROW_HEIGHT * suc r)
next_y r y e = omega (arith, ints)

centres_are : (centre : Bool → ℤ → ℤ) (upright turned : ℕ) → IsCentre centre upright turned → (rows : List (List Member)) (r : ℕ) (f : Bool) (y : ℤ) → f ≡ is_turned r
    → y ≡ pos (ROW_HEIGHT * r) → centres centre f y rows ≡ map pos (rail_ys_from upright turned r (length rows))
centres_are centre upright turned is [] r f y ef ey = refl
centres_are centre upright turned is (row ∷ rows) r f y ef ey =
    ap (λ (z : ℤ). z ∷ centres centre (not f) (y +ℤ pos ROW_HEIGHT) rows) (centre_is centre upright turned is r f y ef ey)
    ∙ ap (λ (zs : List ℤ). pos (rail_y upright turned r) ∷ zs)
    (centres_are centre upright turned is rows (suc r) (not f) (y +ℤ pos ROW_HEIGHT) (ap not ef ∙ next_turned r) (next_y r y ey))

rails_are : (end : ℕ) (rows : List (List Member)) (r : ℕ) (f : Bool) (y : ℤ) → f ≡ is_turned r → y ≡ pos (ROW_HEIGHT * r)
    → rails (pos end) f y rows ≡ row_rails end (rail_ys_from VSS_RAIL_Y VDD_RAIL_Y r (length rows)) (rail_ys_from VDD_RAIL_Y VSS_RAIL_Y r (length rows))
rails_are end [] r f y ef ey = refl
rails_are end (row ∷ rows) r f y ef ey =
    ap (λ (z : ℤ). rail (pos end) z vss ∷ rail (pos end) (vdd_centre f y) vdd ∷ rails (pos end) (not f) (y +ℤ pos ROW_HEIGHT) rows)
    (centre_is vss_centre VSS_RAIL_Y VDD_RAIL_Y vss_is r f y ef ey)
    ∙ ap (λ (z : ℤ). rail (pos end) (pos (rail_y VSS_RAIL_Y VDD_RAIL_Y r)) vss ∷ rail (pos end) z vdd ∷ rails (pos end) (not f) (y +ℤ pos ROW_HEIGHT) rows)
    (centre_is vdd_centre VDD_RAIL_Y VSS_RAIL_Y vdd_is r f y ef ey)
    ∙ ap (λ (rest : List Item). rail (pos end) (pos (rail_y VSS_RAIL_Y VDD_RAIL_Y r)) vss ∷ rail (pos end) (pos (rail_y VDD_RAIL_Y VSS_RAIL_Y r)) vdd ∷ rest)
    (rails_are end rows (suc r) (not f) (y +ℤ pos ROW_HEIGHT) (ap not ef ∙ next_turned r) (next_y r y ey))

-- the supplies over rows that are so wide
pub supplies_are : (width : ℕ) (rows : List (List Member)) → supplies_to (pos (FIRST_CELL_X + width)) rows ≡ supplies_over width (length rows)
supplies_are width rows =
    let low = rail_ys VSS_RAIL_Y VDD_RAIL_Y (length rows) in
    let high = rail_ys VDD_RAIL_Y VSS_RAIL_Y (length rows) in
    ap (λ (is : List Item). is ++ both_straps (centres vss_centre false (pos 0) rows) (centres vdd_centre false (pos 0) rows))
    (rails_are (FIRST_CELL_X + width) rows 0 false (pos 0) refl refl)
    ∙ ap (λ (ys : List ℤ). row_rails (FIRST_CELL_X + width) low high ++ both_straps ys (centres vdd_centre false (pos 0) rows))
    (centres_are vss_centre VSS_RAIL_Y VDD_RAIL_Y vss_is rows 0 false (pos 0) refl refl)
    ∙ ap (λ (ys : List ℤ). row_rails (FIRST_CELL_X + width) low high ++ both_straps (map pos low) ys)
    (centres_are vdd_centre VDD_RAIL_Y VSS_RAIL_Y vdd_is rows 0 false (pos 0) refl refl)

-- ---- a strap

last_is : (y : ℕ) (ys : List ℕ) (d : ℕ) → last_of (pos y) (map pos ys) ≡ pos (get_or (y ∷ ys) (length ys) d)
last_is y [] d = refl
last_is y (z ∷ zs) d = last_is z zs d

-- it runs from the first of its rails to the last
pub strap_is : (x : ℤ) (name : Name) (ys : List ℕ) (d e : ℕ) → 1 ≤ length ys → strap x name (map pos ys)
    ≡ upright_wire (Alu Three) (pos WIRE_WIDTH) x (pos (get_or ys 0 d)) (pos (get_or ys (length ys - 1) e)) (Some name) ∷ strap_vias x name (map pos ys)
strap_is x name [] d e some = absurd (omega arith)
strap_is x name (y ∷ ys) d e some =
    let n : length ys ≡ length (y ∷ ys) - 1 = omega arith in
    ap (λ (z : ℤ). upright_wire (Alu Three) (pos WIRE_WIDTH) x (pos y) z (Some name) ∷ strap_vias x name (map pos (y ∷ ys)))
    (last_is y ys e ∙ ap (λ (j : ℕ). pos (get_or (y ∷ ys) j e)) n)

-- the wire of a strap, and then its vias
pub strap_step : (x a b y z : ℕ) (name : Name) (ys : List ℕ) (items after : List Item) → a ≡ x → b ≡ x → y ≡ get_or ys 0 0 → z ≡ get_or ys (length ys - 1) 0 → 1 ≤ length ys
    → after ≡ items ++ wire Up (Alu Three) (pos WIRE_WIDTH) (pos a) (pos y) (pos b) (pos z) (Some name) ∷ []
    → after ++ strap_vias (pos x) name (map pos ys) ≡ items ++ strap (pos x) name (map pos ys)
strap_step x a b y z name ys items after ea eb ey ez some is =
    let vias = strap_vias (pos x) name (map pos ys) in
    let one : ℕ → ℕ → ℕ → ℕ → Item = λ c d e g. wire Up (Alu Three) (pos WIRE_WIDTH) (pos c) (pos d) (pos e) (pos g) (Some name) in
    ap (λ (v : List Item). v ++ vias) is
    ∙ append_assoc items (one a y b z ∷ []) vias
    ∙ ap (λ (c : ℕ). items ++ one c y b z ∷ vias) ea
    ∙ ap (λ (c : ℕ). items ++ one x y c z ∷ vias) eb
    ∙ ap (λ (c : ℕ). items ++ one x c x z ∷ vias) ey
    ∙ ap (λ (c : ℕ). items ++ one x (get_or ys 0 0) x c ∷ vias) ez
    ∙ ap (λ (v : List Item). items ++ v) (sym (strap_is (pos x) name ys 0 0 some))
