-- Marks at the points of a layout's terminals, by which the netlist can be read.
use Rattle.std.specs.Prelude.{◌≡◌, ◌↔◌, ℕ, List, Some, codes}
use Rattle.vlsi_base.specs.Member.{In}
use Rattle.vlsi_base.specs.declared.name.Terminal.{Terminal}
use Rattle.sym_geom.specs.declared.item.Item.{Item}
use Rattle.sym_geom.specs.declared.item.Item.TheVariants as item
use Rattle.cell_model.specs.Access.{Point}
use Rattle.cell_model.specs.Library.{Library}
use Rattle.net_meaning.specs.Netlist.{AbstractNetlist}
use Rattle.net_drawing.specs.Shown.{IsOnNet}
use Rattle.ocp_rows.specs.Placement.{Placement}
use Rattle.ocp_rows.specs.Length.{point_of}

-- a mark with this name stands at a point
abbrev pub HasMark : List Item → Point → List ℕ → Type 0
HasMark items q name = In (item.Reference (record { x = q.0; y = q.1; word = codes "ref_con"; name = name })) items

-- Each terminal of a net has a mark at its point, and two of them are of one class exactly where the marks at their points have one name.
pub record TellsNets (items : List Item) (n : AbstractNetlist) (l : Library) (p : Placement) : Type 0 where
  pub marked : (t : Terminal) → IsOnNet n l t
      → (q : Point) × (name : List ℕ) × (point_of l p t.instance t.pin ≡ Some q) × HasMark items q name
  pub nets : (a b : Terminal) (q r : Point) (x y : List ℕ) → IsOnNet n l a → IsOnNet n l b → point_of l p a.instance a.pin ≡ Some q
      → point_of l p b.instance b.pin ≡ Some r → HasMark items q x → HasMark items r y → (n.class a ≡ n.class b) ↔ (x ≡ y)
