-- Where the shapes of a layout come from, and the terminals that they show.
use Rattle.std.proofs.Common.{◌≡◌, ℕ, zero, suc, Bool, true, false, List, [], ◌∷◌, ◌++◌, map, length, get_or, replicate, Option, None, Some, All, refl, sym, ap, subst, ◌∙◌}
use Rattle.std.proofs.lemmas.Option.{same_Some}
use Rattle.vlsi_base.specs.declared.name.Name.{Name}
use Rattle.vlsi_base.specs.declared.name.Terminal.{Terminal}
use Rattle.vlsi_base.specs.Member.{In, here, there}
use Rattle.machine_core.specs.Machine.{names_of}
use Rattle.sym_geom.specs.declared.item.Instance.{Instance as Placed}
use Rattle.sym_geom.specs.declared.item.Item.{Item}
use Rattle.sym_shapes.specs.Shape.{Shape, drawn}
use Rattle.sym_shapes.specs.Joined.{Shows}
use Rattle.cell_model.specs.Cell.{Cell, pin_ports, cell_outputs}
use Rattle.cell_model.specs.Connectors.{PinsAreConnectors}
use Rattle.cell_model.specs.Library.{Library, cell_of}
use Rattle.cell_model.specs.Layout.{instances_of, placed, instance_shapes, all_instances_show, shapes}
use Rattle.cell_model.proofs.Members.{All-In}
use Rattle.cell_pins.specs.Pins.{all_ports}
use Rattle.net_core.specs.Places.{Stands, NoneTwice}
use Rattle.net_right.proofs.Ports.{names_to}
use Rattle.net_right.proofs.Models.{named_cell}
use Rattle.cougar_extract.specs.Extracted.{pins_of_cell}
use Rattle.cougar_extract.specs.Stages.{is_output, instance_gives, all_instances_give, gives, IsTerminalOf, of_figure, of_instance}
use Rattle.cougar_extract.proofs.Drawn.{is_drawn}
use Rattle.cougar_extract.proofs.Instances.{same_instance}
use Rattle.cougar_extract.proofs.Outputs.{output_found, output_named}

-- ---- places in two lists that go together

-- an element of a first list that was changed by f, beside which stands g of it; or one of what follows
pub data Either (f : Shape → Shape) (g : Shape → Bool) (xs ys : List Shape) (bs : List Bool) (s : Shape) (flag : Bool) : Type 0 where
  in_first : (own : Shape) → In own xs → s ≡ f own → flag ≡ g own → Either f g xs ys bs s flag
  behind : (j : ℕ) → Stands ys j s → flag ≡ get_or bs j false → Either f g xs ys bs s flag

pub which_list : (f : Shape → Shape) (g : Shape → Bool) (xs ys : List Shape) (bs : List Bool) (k : ℕ) (s : Shape) → Stands (map f xs ++ ys) k s
    → Either f g xs ys bs s (get_or (map g xs ++ bs) k false)
which_list f g [] ys bs k s h = behind k h refl
which_list f g (x ∷ xs) ys bs zero s h = in_first x here (sym (same_Some (f x) s h)) refl
which_list f g (x ∷ xs) ys bs (suc k) s h = by (which_list f g xs ys bs k s h) where
  by : {flag : Bool} → Either f g xs ys bs s flag → Either f g (x ∷ xs) ys bs s flag
  by (in_first own i is told) = in_first own (there i) is told
  by (behind j at told) = behind j at told

-- the same of a list that stands as it is, beside which nothing is marked
pub data Own (xs ys : List Shape) (bs : List Bool) (s : Shape) (flag : Bool) : Type 0 where
  own_one : In s xs → flag ≡ false → Own xs ys bs s flag
  other_one : (j : ℕ) → Stands ys j s → flag ≡ get_or bs j false → Own xs ys bs s flag

own_or_other : (xs ys : List Shape) (bs : List Bool) (k : ℕ) (s : Shape) → Stands (xs ++ ys) k s → Own xs ys bs s (get_or (replicate (length xs) false ++ bs) k false)
own_or_other [] ys bs k s h = other_one k h refl
own_or_other (x ∷ xs) ys bs zero s h = let e : x ≡ s = same_Some x s h in own_one (subst (λ (y : Shape). In y (x ∷ xs)) e here) refl
own_or_other (x ∷ xs) ys bs (suc k) s h = by (own_or_other xs ys bs k s h) where
  by : {flag : Bool} → Own xs ys bs s flag → Own (x ∷ xs) ys bs s flag
  by (own_one i told) = own_one (there i) told
  by (other_one j at told) = other_one j at told

-- ---- shapes of instances

-- the shape is one that an instance shows of its cell, and the mark says whether it is a connector of an output pin
pub record IsFrom (l : Library) (all : List Placed) (s : Shape) (flag : Bool) : Type 0 where
  pub instance : Placed
  pub listed : In instance all
  pub cell : Cell
  pub known : cell_of l instance.model ≡ Some cell
  pub shape : Shape
  pub inside : In shape (drawn cell.items)
  pub seen : s ≡ placed cell instance shape
  pub marked : flag ≡ is_output cell shape.name

from_rest : {l : Library} {i : Placed} {is : List Placed} {s : Shape} {flag : Bool} → IsFrom l is s flag → IsFrom l (i ∷ is) s flag
from_rest f = record { instance = f.instance; listed = there f.listed; cell = f.cell; known = f.known; shape = f.shape; inside = f.inside; seen = f.seen; marked = f.marked }

pub from : (l : Library) (is : List Placed) (k : ℕ) (s : Shape) → Stands (all_instances_show l is) k s → IsFrom l is s (get_or (all_instances_give l is) k false)
from l [] k s h = absurd (cc h)
from l (i ∷ rest) k s h = by (λ j at. from l rest j s at) (cell_of l i.model) refl h where
  Rest : Type 0
  Rest = (j : ℕ) → Stands (all_instances_show l rest) j s → IsFrom l rest s (get_or (all_instances_give l rest) j false)

  with_cell : Rest → (c : Cell) {flag : Bool} → cell_of l i.model ≡ Some c
      → Either (placed c i) (λ (x : Shape). is_output c x.name) (drawn c.items) (all_instances_show l rest) (all_instances_give l rest) s flag → IsFrom l (i ∷ rest) s flag
  with_cell later c e (in_first x d is told) = record { instance = i; listed = here; cell = c; known = e; shape = x; inside = d; seen = is; marked = told }
  with_cell later c e (behind j at told) = from_rest (subst (λ (b : Bool). IsFrom l rest s b) (sym told) (later j at))

  by : Rest → (o : Option Cell) → cell_of l i.model ≡ o → Stands (instance_shapes o i ++ all_instances_show l rest) k s
      → IsFrom l (i ∷ rest) s (get_or (instance_gives o ++ all_instances_give l rest) k false)
  by later None e g = from_rest (later k g)
  by later (Some c) e g = with_cell later c e (which_list (placed c i) (λ (x : Shape). is_output c x.name) (drawn c.items) (all_instances_show l rest) (all_instances_give l rest) k s g)

-- ---- shapes of a layout

-- the shape is drawn, and then not marked, or it is shown by an instance
pub data Whence (items : List Item) (l : Library) (s : Shape) (flag : Bool) : Type 0 where
  by_figure : In s (drawn items) → flag ≡ false → Whence items l s flag
  by_instance : IsFrom l (instances_of items) s flag → Whence items l s flag

pub whence : (items : List Item) (l : Library) (k : ℕ) (s : Shape) → Stands (shapes items l) k s → Whence items l s (get_or (gives items l) k false)
whence items l k s h = by (own_or_other (drawn items) (all_instances_show l (instances_of items)) (all_instances_give l (instances_of items)) k s h) where
  by : {flag : Bool} → Own (drawn items) (all_instances_show l (instances_of items)) (all_instances_give l (instances_of items)) s flag → Whence items l s flag
  by (own_one i told) = by_figure i told
  by (other_one j at told) = by_instance (subst (λ (b : Bool). IsFrom l (instances_of items) s b) (sym told) (from l (instances_of items) j s at))

shown_owner : {l : Library} {is : List Placed} {s : Shape} {flag : Bool} → (f : IsFrom l is s flag) → s.owner ≡ Some f.instance.name
shown_owner f = ap (λ (x : Shape). x.owner) f.seen

shown_name : {l : Library} {is : List Placed} {s : Shape} {flag : Bool} → (f : IsFrom l is s flag) → s.name ≡ f.shape.name
shown_name f = ap (λ (x : Shape). x.name) f.seen

-- ---- terminals

-- a shape that shows a terminal shows one of the layout
pub shown_terminal : (items : List Item) (l : Library) → All PinsAreConnectors l.cells → (s : Shape) (flag : Bool) (t : Terminal) → Whence items l s flag → Shows t s
    → IsTerminalOf items l t
shown_terminal items l connected s flag t (by_figure h told) shows =
    let d = is_drawn items s h in of_figure (sym shows.owner ∙ d.owner) (d.named t.pin shows.name)
shown_terminal items l connected s flag t (by_instance f) shows =
    let d = is_drawn f.cell.items f.shape f.inside in
    let name : f.shape.name ≡ Some t.pin = sym (shown_name f) ∙ shows.name in
    let own_pins : PinsAreConnectors f.cell = All-In PinsAreConnectors l.cells connected f.cell (named_cell l.cells f.instance.model f.cell f.known).0 in
    let pin : In t.pin (names_of (all_ports f.cell)) = names_to (pin_ports f.cell) t.pin ((own_pins t.pin).0 (d.named t.pin name)) in
    of_instance f.instance f.listed (sym shows.owner ∙ shown_owner f) (subst (λ (o : Option Cell). In t.pin (pins_of_cell o)) (sym f.known) pin)

-- ---- output pins

-- a marked shape is a connector of an output pin of an instance
pub record IsOutputShape (items : List Item) (l : Library) (s : Shape) : Type 0 where
  pub instance : Placed
  pub listed : In instance (instances_of items)
  pub cell : Cell
  pub known : cell_of l instance.model ≡ Some cell
  pub pin : Name
  pub gives : In pin (cell_outputs cell)
  pub owner : s.owner ≡ Some instance.name
  pub name : s.name ≡ Some pin

pub marked_output : (items : List Item) (l : Library) (s : Shape) (flag : Bool) → Whence items l s flag → flag ≡ true → IsOutputShape items l s
marked_output items l s flag (by_figure h told) is = let e : false ≡ true = sym told ∙ is in absurd cc
marked_output items l s flag (by_instance f) is =
    let r = output_named f.cell f.shape.name (sym f.marked ∙ is) in
    record { instance = f.instance; listed = f.listed; cell = f.cell; known = f.known; pin = r.0; gives = r.2; owner = shown_owner f; name = shown_name f ∙ r.1 }

pub output_marked : (items : List Item) (l : Library) → NoneTwice (map (λ (i : Placed). i.name) (instances_of items)) → (s : Shape) (flag : Bool) → Whence items l s flag
    → IsOutputShape items l s → flag ≡ true
output_marked items l once s flag (by_figure h told) o =
    let d = is_drawn items s h in let e : None ≡ Some o.instance.name = sym d.owner ∙ o.owner in absurd cc
output_marked items l once s flag (by_instance f) o =
    let owners : Some f.instance.name ≡ Some o.instance.name = sym (shown_owner f) ∙ o.owner in
    let same : f.instance ≡ o.instance = same_instance (instances_of items) once f.instance o.instance f.listed o.listed (same_Some f.instance.name o.instance.name owners) in
    let models : cell_of l f.instance.model ≡ cell_of l o.instance.model = ap (λ (i : Placed). cell_of l i.model) same in
    let cells : f.cell ≡ o.cell = same_Some f.cell o.cell (sym f.known ∙ models ∙ o.known) in
    let name : f.shape.name ≡ Some o.pin = sym (shown_name f) ∙ o.name in
    let listed : In o.pin (cell_outputs f.cell) = subst (λ (c : Cell). In o.pin (cell_outputs c)) (sym cells) o.gives in
    f.marked ∙ ap (λ (n : Option Name). is_output f.cell n) name ∙ output_found f.cell o.pin listed
