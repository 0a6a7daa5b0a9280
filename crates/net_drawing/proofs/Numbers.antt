-- The block by numbers of a netlist that may be drawn.
use Rattle.std.proofs.Common.{◌≡◌, ℕ, zero, suc, ◌+◌, ◌*◌, ◌<◌, ◌≤◌, ⊎_elim, Bool, true, false, List, [], ◌∷◌, ◌++◌, length, Option, Some, None, sym, ap, ◌∙◌, arith}
use Rattle.std.specs.Prelude.{ℤ, pos, ◌+ℤ◌, ◌-ℤ◌, slice_get, ◌/◌, nat_lt, nat_eq, if◌then◌else◌}
use Rattle.std.proofs.lemmas.Int.{ints}
use Rattle.std.proofs.lemmas.Bool.{cases_lt, cond-true, cond-false, eqb-true, false_from_ne_true}
use Rattle.std.proofs.lemmas.Bool.Decides.{nat_tests}
use Rattle.vlsi_base.specs.declared.name.Name as name
use Rattle.vlsi_base.specs.declared.name.Terminal.{Terminal}
use Rattle.machine_core.specs.Machine.{names_of}
use Rattle.sym_geom.specs.declared.rect.Rect.{Rect}
use Rattle.vlsi_base.specs.Member as member
use Rattle.cell_model.specs.Cell as cells
use Rattle.cell_model.specs.Cell.{cell_width, pin_ports}
use Rattle.cell_model.specs.Library.{Library, cell_of, IsUsable}
use Rattle.net_meaning.specs.Netlist.{Member, AbstractNetlist, pin_of}
use Rattle.ocp_rows.specs.Placement.{model_width, width_of, natural}
use Rattle.ocp_rows.specs.Length.{least, greatest}
use Rattle.block_geom.specs.Figure.{Name}
use Rattle.block_geom.specs.Block.{Cell, at_x}
use Rattle.net_drawing.specs.Clean.{IsClean}
use Rattle.net_drawing.specs.Drawing.{Numbering, of_pins, port_xs}
use Rattle.net_drawing.proofs.Coding.{name_or, decode, cell_by}
use Rattle.net_drawing.proofs.Cells.{width_is}
use Rattle.net_drawing.proofs.Pieces.{x_at}

abbrev pub signals : Option cells.Cell → List name.Name
signals None = []
signals (Some c) = names_of (pin_ports c)

abbrev pub cell_or : Option cells.Cell → Cell
cell_or None = record { width = 0; shapes = []; pins = 0; column = λ p. 0; row = λ p. 0 }
cell_or (Some c) = cell_by c

abbrev pub member_or : Option Member → Member
member_or None = record { name = []; model = [] }
member_or (Some one) = one

abbrev pub member_at : List Member → ℕ → Member
member_at ms i = member_or (slice_get ms i)

abbrev pub columns_wide : Library → Member → ℕ
columns_wide l one = (cell_or (cell_of l one.model)).width

-- the column of instance i of a row that begins at column k
abbrev pub column_at : Library → ℕ → List Member → ℕ → ℕ
column_at l k [] i = k
column_at l k (one ∷ rest) zero = k
column_at l k (one ∷ rest) (suc i) = column_at l (k + columns_wide l one) rest i

abbrev pub all_columns : Library → List Member → ℕ
all_columns l [] = 0
all_columns l (one ∷ rest) = columns_wide l one + all_columns l rest

abbrev pub low_of : List ℤ → List ℤ → ℕ
low_of [] ps = 0
low_of (x ∷ xs) ps = natural (least x (xs ++ ps)) / 500

abbrev pub high_of : List ℤ → List ℤ → ℕ
high_of [] ps = 0
high_of (x ∷ xs) ps = natural (greatest x (xs ++ ps)) / 500

abbrev pub has_some : List ℤ → Bool
has_some [] = false
has_some (x ∷ xs) = true

-- the x of the pins on net k
abbrev pub pin_xs : AbstractNetlist → Library → Numbering → ℕ → List ℤ
pin_xs n l net k = of_pins n l net k (λ q. q.0 ∷ [])

abbrev pub low : AbstractNetlist → Library → Numbering → List name.Name → ℕ → ℕ
low n l net ports k = low_of (pin_xs n l net k) (port_xs (slice_get ports k))

abbrev pub high : AbstractNetlist → Library → Numbering → List name.Name → ℕ → ℕ
high n l net ports k = high_of (pin_xs n l net k) (port_xs (slice_get ports k))

abbrev pub own : AbstractNetlist → ℕ → List ℕ
own n i = (member_at n.instances i).name

abbrev pub pins_at : AbstractNetlist → Library → ℕ → List name.Name
pins_at n l i = signals (cell_of l (member_at n.instances i).model)

abbrev pub call : AbstractNetlist → Library → List name.Name → Option ℕ → Name → name.Name
call n l ports None m = decode ports m
call n l ports (Some i) m = decode (pins_at n l i) m

abbrev pub pin_terminal : AbstractNetlist → Library → ℕ → ℕ → Terminal
pin_terminal n l i p = pin_of (own n i) (name_or (slice_get (pins_at n l i) p))

-- how many signal pins stand before those of instance i, where k stand before the first
abbrev pub pins_before : Library → ℕ → List Member → ℕ → ℕ
pins_before l k [] i = k
pins_before l k (one ∷ rest) zero = k
pins_before l k (one ∷ rest) (suc i) = pins_before l (k + (cell_or (cell_of l one.model)).pins) rest i

-- the number of a pin in a class with number k: that of its net where it is among so many, else one of its own past them
abbrev pub number_or : ℕ → ℕ → ℕ → ℕ
number_or nets k own = if nat_lt k nets then k else nets + own

pub column_low : (l : Library) (k : ℕ) (ms : List Member) (i : ℕ) → k ≤ column_at l k ms i
column_low l k [] i = omega arith
column_low l k (one ∷ rest) zero = omega arith
column_low l k (one ∷ rest) (suc i) = let a = column_low l (k + columns_wide l one) rest i in omega arith

pub column_end : (l : Library) (k : ℕ) (ms : List Member) (i : ℕ) → i < length ms → column_at l k ms i + columns_wide l (member_at ms i) ≤ k + all_columns l ms
column_end l k [] i lt = absurd (omega arith)
column_end l k (one ∷ rest) zero lt = omega arith
column_end l k (one ∷ rest) (suc i) lt = let a = column_end l (k + columns_wide l one) rest i (omega arith) in omega arith

pub column_step : (l : Library) (k : ℕ) (ms : List Member) (i j : ℕ) → i < j → j < length ms → column_at l k ms i + columns_wide l (member_at ms i) ≤ column_at l k ms j
column_step l k [] i j le lt = absurd (omega arith)
column_step l k (one ∷ rest) i zero le lt = absurd (omega arith)
column_step l k (one ∷ rest) zero (suc j) le lt = column_low l (k + columns_wide l one) rest j
column_step l k (one ∷ rest) (suc i) (suc j) le lt = column_step l (k + columns_wide l one) rest i j (omega arith) (omega arith)

-- ---- numbers of pins
is_less : (a b : ℕ) → a < b → nat_lt a b ≡ true
is_less a b h = grind (arith, nat_tests)

is_not_less : (a b : ℕ) → b ≤ a → nat_lt a b ≡ false
is_not_less a b h = grind (arith, nat_tests)

pub number_low : (nets k own : ℕ) → k < nets → number_or nets k own ≡ k
number_low nets k own lt = cond-true (nat_lt k nets) k (nets + own) (is_less k nets lt)

number_high : (nets k own : ℕ) → nets ≤ k → number_or nets k own ≡ nets + own
number_high nets k own le = cond-false (nat_lt k nets) k (nets + own) (is_not_less k nets le)

-- a number among the nets is that of a class, and one past them is the pin's own
pub number_under : (nets k own : ℕ) → number_or nets k own < nets → k < nets
number_under nets k own h = ⊎_elim (λ lt. lt) (λ ge. absurd (let e = number_high nets k own ge in omega (arith, e, h))) (cases_lt k nets)

pub number_past : (nets k own : ℕ) → nets ≤ number_or nets k own → (nets ≤ k) × (number_or nets k own ≡ nets + own)
number_past nets k own h = ⊎_elim (λ lt. absurd (let e = number_low nets k own lt in omega (arith, e, h, lt))) (λ ge. (ge, number_high nets k own ge)) (cases_lt k nets)

pub number_beyond : (nets k own : ℕ) → nets ≤ k → nets ≤ number_or nets k own
number_beyond nets k own le = let e = number_high nets k own le in omega (arith, e)

unequal : (a b : ℕ) → b < a → nat_eq a b ≡ false
unequal a b h = false_from_ne_true (nat_eq a b) (λ t. let e = eqb-true a b t in omega (arith, e, h))

-- so a pin has number j of a net where its class has
pub number_test : (nets k own j : ℕ) → j < nets → nat_eq (number_or nets k own) j ≡ nat_eq k j
number_test nets k own j lt =
    ⊎_elim
    (λ low. ap (λ v. nat_eq v j) (number_low nets k own low))
    (λ ge. ap (λ v. nat_eq v j) (number_high nets k own ge) ∙ unequal (nets + own) j (omega (arith, lt)) ∙ sym (unequal k j (omega (arith, lt, ge))))
    (cases_lt k nets)

pins_low : (l : Library) (k : ℕ) (ms : List Member) (i : ℕ) → k ≤ pins_before l k ms i
pins_low l k [] i = omega arith
pins_low l k (one ∷ rest) zero = omega arith
pins_low l k (one ∷ rest) (suc i) = let a = pins_low l (k + (cell_or (cell_of l one.model)).pins) rest i in omega arith

pins_step : (l : Library) (k : ℕ) (ms : List Member) (i j : ℕ) → i < j → j < length ms → pins_before l k ms i + (cell_or (cell_of l (member_at ms i).model)).pins ≤ pins_before l k ms j
pins_step l k [] i j le lt = absurd (omega arith)
pins_step l k (one ∷ rest) i zero le lt = absurd (omega arith)
pins_step l k (one ∷ rest) zero (suc j) le lt = pins_low l (k + (cell_or (cell_of l one.model)).pins) rest j
pins_step l k (one ∷ rest) (suc i) (suc j) le lt = pins_step l (k + (cell_or (cell_of l one.model)).pins) rest i j (omega arith) (omega arith)

-- different pins stand at different places among all
pub places_apart : (l : Library) (ms : List Member) (i p j q : ℕ) → i < length ms → j < length ms → p < (cell_or (cell_of l (member_at ms i).model)).pins
    → q < (cell_or (cell_of l (member_at ms j).model)).pins → pins_before l 0 ms i + p ≡ pins_before l 0 ms j + q → (i ≡ j) × (p ≡ q)
places_apart l ms i p j q hi hj hp hq e =
    ⊎_elim
    (λ lt. absurd (let a = pins_step l 0 ms i j lt hj in omega (arith, a, e, hp)))
    (λ ge. ⊎_elim
    (λ gt. absurd (let a = pins_step l 0 ms j i gt hi in omega (arith, a, e, hq)))
    (λ le. let s : i ≡ j = omega arith in (s, same_place s))
    (cases_lt j i))
    (cases_lt i j)
  where
    same_place : i ≡ j → p ≡ q
    same_place s = let f : pins_before l 0 ms i ≡ pins_before l 0 ms j = ap (pins_before l 0 ms) s in omega (arith, e, f)

-- the cell of an instance
pub record IsModel (l : Library) (one : Member) : Type 0 where
  pub cell : cells.Cell
  pub found : cell_of l one.model ≡ Some cell
  pub usable : IsUsable cell
  pub clean : IsClean cell

pub wide_is : (l : Library) (one : Member) → IsModel l one → model_width l one.model ≡ pos (500 * columns_wide l one)
wide_is l one m =
    let w = width_is m.cell m.usable m.clean in
    let a : model_width l one.model ≡ cell_width m.cell = ap width_of m.found in
    let b : cell_width m.cell ≡ pos (500 * m.clean.columns) -ℤ pos 0 = ap (λ (v : Rect). v.x2 -ℤ v.x1) m.clean.box in
    let c : columns_wide l one ≡ (cell_by m.cell).width = ap (λ o. (cell_or o).width) m.found in
    let d : columns_wide l one ≡ m.clean.columns = c ∙ w in
    let e : pos (500 * m.clean.columns) -ℤ pos 0 ≡ pos (500 * m.clean.columns) = omega (arith, ints) in
    a ∙ b ∙ e ∙ ap (λ v. pos (500 * v)) (sym d)

pub x_is : (l : Library) (ms : List Member) (x : ℤ) (k : ℕ) → x ≡ at_x k → ((one : Member) → member.In one ms → IsModel l one) → (i : ℕ) → i < length ms → x_at l x ms i ≡ at_x (column_at l k ms i)
x_is l [] x k e all i lt = absurd (omega arith)
x_is l (one ∷ rest) x k e all zero lt = e
x_is l (one ∷ rest) x k e all (suc i) lt =
    let w = wide_is l one (all one member.here) in
    x_is l rest (x +ℤ model_width l one.model) (k + columns_wide l one) (omega (arith, ints)) (λ one h. all one (member.there h)) i (omega arith)
