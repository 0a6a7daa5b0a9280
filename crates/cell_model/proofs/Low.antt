-- Cells with nothing above metal 1, line by line.
use Rattle.std.proofs.Common.{◌≡◌, ℕ, suc, ◌≤◌, List, [], ◌∷◌, Option, None, Some, refl, arith, ⊎_elim}
use Rattle.vlsi_base.specs.declared.name.Name.{Name}
use Rattle.vlsi_base.specs.Member.{In, here, there}
use Rattle.sym_geom.specs.declared.rect.Rect.{Rect}
use Rattle.sym_geom.specs.Metal.{metal_of}
use Rattle.sym_geom.specs.Items.{lower_metal, pads_on}
use Rattle.sym_geom.specs.declared.item.Contact.{Contact}
use Rattle.sym_geom.specs.declared.item.Contact.TheVariants.{Via1, Via2, Via3, Via4, Via5, Other}
use Rattle.sym_geom.specs.declared.item.Item.{Item}
use Rattle.sym_geom.specs.declared.item.Item.TheVariants as item
use Rattle.sym_shapes.specs.Shape.{Shape, on_metal, pad_shapes, item_shapes, drawn_from}
use Rattle.cell_model.specs.Library.{KeepsLow}
use Rattle.cell_model.specs.Usable.{IsLowMetal, IsLow}
use Rattle.cell_model.proofs.Members.{In-split, In-left, In-right}

-- shapes on metal 1 alone
abbrev pub AreLow : List Shape → Type 0
AreLow shapes = (s : Shape) → In s shapes → s.metal ≤ 1

wire_low : (m : Option ℕ) (line : ℕ) (r : Rect) (name : Option Name) → IsLowMetal m → AreLow (on_metal m line r name)
wire_low None line r name low s h = elim h [ ]
wire_low (Some k) line r name low s here = low
wire_low (Some k) line r name low s (there h) = elim h [ ]

low_wire : (m : Option ℕ) (line : ℕ) (r : Rect) (name : Option Name) → AreLow (on_metal m line r name) → IsLowMetal m
low_wire None line r name low = tt
low_wire (Some k) line r name low = low _ here

via_low : (m : Option ℕ) (line : ℕ) (pad : Rect) → m ≡ None → AreLow (pad_shapes line (pads_on m pad))
via_low None line pad none s h = elim h [ ]
via_low (Some k) line pad none s h = absurd cc

low_via : (contact : Contact) (line : ℕ) (pad : Rect) → AreLow (pad_shapes line (pads_on (lower_metal contact) pad)) → lower_metal contact ≡ None
low_via Via1 line pad low = absurd (let h : 2 ≤ 1 = low _ (there here) in omega arith)
low_via Via2 line pad low = absurd (let h : 3 ≤ 1 = low _ (there here) in omega arith)
low_via Via3 line pad low = absurd (let h : 4 ≤ 1 = low _ (there here) in omega arith)
low_via Via4 line pad low = absurd (let h : 5 ≤ 1 = low _ (there here) in omega arith)
low_via Via5 line pad low = absurd (let h : 6 ≤ 1 = low _ (there here) in omega arith)
low_via (Other word) line pad low = refl

line_low : (line : ℕ) (one : Item) → IsLow one → AreLow (item_shapes line one) × KeepsLow one
line_low line (item.Segment s) low = (wire_low (metal_of s.layer) line _ _ low.0, low.1)
line_low line (item.Connector c) low = (wire_low (metal_of c.layer) line _ _ low.0, low.1)
line_low line (item.Via v) low = (via_low (lower_metal v.contact) line _ low, tt)
line_low line (item.Instance i) low = ((λ s h. elim h [ ]), tt)
line_low line (item.Reference r) low = ((λ s h. elim h [ ]), tt)
line_low line (item.Remark text) low = ((λ s h. elim h [ ]), tt)

low_line : (line : ℕ) (one : Item) → AreLow (item_shapes line one) → KeepsLow one → IsLow one
low_line line (item.Segment s) low keeps = (low_wire (metal_of s.layer) line _ _ low, keeps)
low_line line (item.Connector c) low keeps = (low_wire (metal_of c.layer) line _ _ low, keeps)
low_line line (item.Via v) low keeps = low_via v.contact line _ low
low_line line (item.Instance i) low keeps = tt
low_line line (item.Reference r) low keeps = tt
low_line line (item.Remark text) low keeps = tt

pub lines_low : (line : ℕ) (items : List Item) → ((one : Item) → In one items → IsLow one) → AreLow (drawn_from line items)
lines_low line [] each s h = elim h [ ]
lines_low line (one ∷ rest) each s h =
    ⊎_elim (λ a. (line_low line one (each one here)).0 s a) (λ b. lines_low (suc line) rest (λ x g. each x (there g)) s b)
    (In-split s (item_shapes line one) (drawn_from (suc line) rest) h)

pub lines_keep : (items : List Item) → ((one : Item) → In one items → IsLow one) → (one : Item) → In one items → KeepsLow one
lines_keep items each one h = (line_low 0 one (each one h)).1

pub low_lines : (line : ℕ) (items : List Item) → AreLow (drawn_from line items) → ((one : Item) → In one items → KeepsLow one) → (one : Item) → In one items → IsLow one
low_lines line [] low keeps one h = elim h [ ]
low_lines line (x ∷ rest) low keeps one here = low_line line one (λ s g. low s (In-left s (item_shapes line one) (drawn_from (suc line) rest) g)) (keeps one here)
low_lines line (x ∷ rest) low keeps one (there h) =
    low_lines (suc line) rest (λ s g. low s (In-right s (item_shapes line x) (drawn_from (suc line) rest) g)) (λ y g. keeps y (there g)) one h
