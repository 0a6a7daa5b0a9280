-- How many ports and pins there are.
use Rattle.std.proofs.Common.{◌≡◌, ◌≢◌, inl, inr, ℕ, ◌+◌, ◌-◌, ◌<◌, ◌≤◌, ◌^◌, min, Bool, true, false, not, List, [], ◌∷◌, ◌++◌, map, filter, take, length, Some, None, refl, sym, ◌∙◌, ap, arith, if◌then◌else◌, length-append}
use Rattle.std.specs.Prelude.{sum_by}
use Rattle.std.specs.List.{flat_map}
use Rattle.std.specs.Ordering.{is_lt, ordering_reverse}
use Rattle.std.specs.declared.cmp.Ordering.{Ordering}
use Rattle.std.specs.declared.cmp.Ordering.TheVariants.{Less, Equal, Greater}
use Rattle.std.proofs.lemmas.List.Sums.{sum_by-append, sum_by-cons}
use Rattle.vlsi_base.specs.declared.name.Name.{Name}
use Rattle.vlsi_base.specs.declared.name.Port.{Port}
use Rattle.vlsi_base.specs.declared.name.Terminal.{Terminal}
use Rattle.vlsi_base.specs.Name.{name_cmp}
use Rattle.vlsi_base.specs.Names.{vdd, vss, comes_before}
use Rattle.vlsi_base.specs.Member.{In, here, there}
use Rattle.vlsi_base.proofs.NameOrder.{name_total, name_exact}
use Rattle.machine_core.specs.Machine.{names_of}
use Rattle.sym_geom.specs.declared.item.Instance.{Instance as Placed}
use Rattle.sym_geom.specs.declared.item.Item.{Item}
use Rattle.sym_geom.specs.declared.item.Item.TheVariants as item
use Rattle.cell_model.specs.declared.cell.Pin.{Pin}
use Rattle.cell_model.specs.Cell.{Cell, pin_ports}
use Rattle.cell_model.specs.Library.{Library, cell_of}
use Rattle.cell_model.specs.Layout.{instances_of}
use Rattle.cell_model.specs.Usable.{IsFormed}
use Rattle.cell_model.proofs.Members.{In-map}
use Rattle.cell_pins.specs.Pins.{supply, with_supply, all_ports}
use Rattle.cell_pins.proofs.Ports.{with_cases}
use Rattle.net_core.specs.Places.{Stands}
use Rattle.net_core.specs.Netlist.{port, pin_of, pins_of}
use Rattle.net_core.specs.Joins.{Draft, draft_terminals}
use Rattle.net_right.proofs.Ports.{supplies_differ}
use Rattle.net_theory.proofs.Basics.{length-map}
use Rattle.cougar_extract.specs.Extracted.{instance_of, pins_of_cell}
use Rattle.cougar_extract.specs.Refused.{pin_count}
use Rattle.cougar_extract.proofs.Instances.{instances_append}
use Rattle.cougar_extract.proofs.Adding.{split_at, take_next, added_to}

-- ---- pins of a cell

-- what one of two tests keeps is what the other leaves
two_parts : {A : Type 0} (p q : A → Bool) (xs : List A) → ((x : A) → In x xs → q x ≡ not (p x)) → length (filter p xs) + length (filter q xs) ≡ length xs
two_parts p q [] opposite = refl
two_parts {A} p q (x ∷ xs) opposite = by (p x) (q x) (opposite x here) (two_parts p q xs (λ y i. opposite y (there i))) where
  by : (a b : Bool) → b ≡ not a → length (filter p xs) + length (filter q xs) ≡ length xs
      → length (if a then x ∷ filter p xs else filter p xs) + length (if b then x ∷ filter q xs else filter q xs) ≡ length (x ∷ xs)
  by true true e h = absurd (cc e)
  by true false e h = omega (arith, h)
  by false true e h = omega (arith, h)
  by false false e h = absurd (cc e)

-- of two names one stands before the other
one_first : (a b : Name) → a ≢ b → comes_before b a ≡ not (comes_before a b)
one_first a b apart = by (name_cmp a b) refl where
  by : (o : Ordering) → name_cmp a b ≡ o → comes_before b a ≡ not (comes_before a b)
  by Less e = ap is_lt (name_total.antisymm b a ∙ ap ordering_reverse e) ∙ sym (ap (λ (o : Ordering). not (is_lt o)) e)
  by Equal e = absurd (apart (name_exact a b e))
  by Greater e = ap is_lt (name_total.antisymm b a ∙ ap ordering_reverse e) ∙ sym (ap (λ (o : Ordering). not (is_lt o)) e)

-- a supply is one pin more where none has its name
one_more : (name : Name) (ps : List Port) → ((p : Port) → In p ps → p.name ≢ name) → length (with_supply name ps) ≡ length ps + 1
one_more name ps apart =
    let parts = two_parts (λ (p : Port). comes_before p.name name) (λ (p : Port). comes_before name p.name) ps (λ p i. one_first p.name name (apart p i)) in
    let both = length-append (filter (λ p. comes_before p.name name) ps) (supply name ∷ filter (λ p. comes_before name p.name) ps) in
    omega (arith, parts, both)

-- with its supplies a cell has two more pins
pub two_more : (c : Cell) → IsFormed c → length (names_of (all_ports c)) ≡ length c.pins + 2
two_more c formed =
    let ports = length-map (λ (p : Pin). p.port) c.pins in
    let high = one_more vdd (pin_ports c) (λ p i. (own p i).0) in
    let low = one_more vss (with_supply vdd (pin_ports c)) no_low in
    let named = length-map (λ (p : Port). p.name) (all_ports c) in
    omega (arith, ports, high, low, named) where
      own : (p : Port) → In p (pin_ports c) → (p.name ≢ vdd) × (p.name ≢ vss)
      own p i = formed.signals p.name (In-map (λ (q : Port). q.name) p (pin_ports c) i)

      no_low : (p : Port) → In p (with_supply vdd (pin_ports c)) → p.name ≢ vss
      no_low p i = elim (with_cases vdd (pin_ports c) p i) [
        | inl is ↦ λ e. supplies_differ (sym (ap (λ (q : Port). q.name) is) ∙ e)
        | inr j ↦ (own p j).1
      ]

-- ---- pins of instances

abbrev pub pins_many : Library → Placed → ℕ
pins_many l i = length (pins_of_cell (cell_of l i.model))

pub line_many : (l : Library) (i : Placed) → pin_count (item.Instance i ∷ []) l ≡ pins_many l i
line_many l i = let h = sum_by-cons (pins_many l) i [] in omega (arith, h)

-- an instance of a cell
pub pins_known : (l : Library) (one : Item) (i : Placed) (c : Cell) → one ≡ item.Instance i → cell_of l i.model ≡ Some c → IsFormed c
    → pin_count (one ∷ []) l ≡ length c.pins + 2
pins_known l one i c is known formed =
    ap (λ (x : Item). pin_count (x ∷ []) l) is ∙ line_many l i ∙ ap (λ o. length (pins_of_cell o)) known ∙ two_more c formed

-- and of none
pub pins_unknown : (l : Library) (one : Item) (i : Placed) → one ≡ item.Instance i → cell_of l i.model ≡ None → pin_count (one ∷ []) l ≡ 0
pins_unknown l one i is unknown = ap (λ (x : Item). pin_count (x ∷ []) l) is ∙ line_many l i ∙ ap (λ o. length (pins_of_cell o)) unknown

pins_append : (a b : List Item) (l : Library) → pin_count (a ++ b) l ≡ pin_count a l + pin_count b l
pins_append a b l = ap (sum_by (pins_many l)) (instances_append a b) ∙ sum_by-append (pins_many l) (instances_of a) (instances_of b)

pub pins_next : (items : List Item) (l : Library) (k : ℕ) (one : Item) → Stands items k one
    → pin_count (take (k + 1) items) l ≡ pin_count (take k items) l + pin_count (one ∷ []) l
pins_next items l k one at = ap (λ (xs : List Item). pin_count xs l) (take_next items k one at) ∙ pins_append (take k items) (one ∷ []) l

-- those of a line and of the lines before it are no more than those of all lines
pins_most : (items : List Item) (l : Library) (k : ℕ) (one : Item) → Stands items k one
    → pin_count (take k items) l + pin_count (one ∷ []) l ≤ pin_count items l
pins_most items l k one at =
    let r = split_at items k one at in
    let all = ap (λ (xs : List Item). pin_count xs l) r.1 in
    let parts = pins_append (take k items) (one ∷ r.0) l in
    let behind = pins_append (one ∷ []) r.0 l in
    omega (arith, all, parts, behind)

-- ---- terminals of a draft

placed_pins : (l : Library) (is : List Placed) → length (flat_map pins_of (map (instance_of l) is)) ≡ sum_by (pins_many l) is
placed_pins l [] = refl
placed_pins l (i ∷ is) =
    let both = length-append (pins_of (instance_of l i)) (flat_map pins_of (map (instance_of l) is)) in
    let own : length (pins_of (instance_of l i)) ≡ pins_many l i = length-map (pin_of i.name) (pins_of_cell (cell_of l i.model)) in
    let rest = placed_pins l is in
    let sum = sum_by-cons (pins_many l) i is in
    omega (arith, both, own, rest, sum)

-- there is room for those of the next line
pub room_left : (d now : Draft) (items : List Item) (l : Library) (k : ℕ) (one : Item) → Stands items k one → d.instances ≡ []
    → length d.ports + pin_count items l < 2 ^ 32 → now ≡ added_to d l items k → length (draft_terminals now) + pin_count (one ∷ []) l < 2 ^ 32
room_left d now items l k one at none room so_far =
    let ports : List Terminal = map (λ (p : Port). port p.name) d.ports in
    let before = map (instance_of l) (instances_of (take k items)) in
    let whole : draft_terminals now ≡ ports ++ flat_map pins_of before =
    ap draft_terminals so_far ∙ ap (λ is. ports ++ flat_map pins_of (is ++ before)) none in
    let many = ap (λ (ts : List Terminal). length ts) whole in
    let both = length-append ports (flat_map pins_of before) in
    let own : length ports ≡ length d.ports = length-map (λ (p : Port). port p.name) d.ports in
    let pins = placed_pins l (instances_of (take k items)) in
    let most = pins_most items l k one at in
    omega (arith, many, both, own, pins, most, room)

-- for an instance
pub room_for : (many : ℕ) (l : Library) (one : Item) (i : Placed) → one ≡ item.Instance i → many + pin_count (one ∷ []) l < 2 ^ 32
    → many + length (instance_of l i).pins < 2 ^ 32
room_for many l one i is room =
    let same = ap (λ (x : Item). pin_count (x ∷ []) l) is ∙ line_many l i in
    omega (arith, same, room)

-- ---- the sum that is counted

pub counted_none : (ports : ℕ) (l : Library) → ports < 2 ^ 64 → ports ≡ min (ports + pin_count [] l) (2 ^ 64 - 1)
counted_none ports l low = omega (arith, low)

pub counted_next : (ports before own after : ℕ) (items : List Item) (l : Library) (k : ℕ) (one : Item) → Stands items k one
    → before ≡ min (ports + pin_count (take k items) l) (2 ^ 64 - 1) → own ≡ pin_count (one ∷ []) l → after ≡ min (before + own) (2 ^ 64 - 1)
    → after ≡ min (ports + pin_count (take (k + 1) items) l) (2 ^ 64 - 1)
counted_next ports before own after items l k one at so_far pins sum =
    let more = pins_next items l k one at in
    omega (arith, so_far, pins, sum, more)
