-- Two cells of the same files.
use Rattle.std.proofs.Common.{◌≡◌, ℕ, Bool, List, [], ◌∷◌, map, length, Option, None, Some, refl, sym, ap, ◌∙◌, subst}
use Rattle.std.specs.Prelude.{◌⊎◌, ◌↔◌, AllPairs, IsTrue, filter, cond}
use Rattle.vlsi_base.specs.declared.name.Name.{Name}
use Rattle.vlsi_base.specs.declared.name.Port.{Port}
use Rattle.vlsi_base.specs.Member.{In}
use Rattle.vlsi_base.specs.Names.{vdd, vss, comes_before}
use Rattle.bool_expr.specs.Expression.{IsOver}
use Rattle.bool_expr.specs.View.{view}
use Rattle.machine_core.specs.Machine.{Machine, is_input, names_of}
use Rattle.machine_core.specs.Checked.{IsChecked}
use Rattle.vbe_io.specs.declared.cell_text.CellText.{CellText}
use Rattle.vbe_io.specs.declared.cell_text.GenericValue.{GenericValue}
use Rattle.vbe_io.specs.Cell.{pin_bits, IsBehaviour, ArePins, IsCellText}
use Rattle.source_checks.specs.Symbols.{symbols}
use Rattle.sym_geom.specs.declared.item.Item.{Item}
use Rattle.sym_shapes.specs.Shape.{connector_names}
use Rattle.ap_io.specs.declared.figure.Figure.{Figure}
use Rattle.ap_io.proofs.Once.{one_figure}
use Rattle.cell_model.specs.declared.function.Function.{Function as Parts}
use Rattle.cell_model.specs.declared.function.Function.TheVariants as parts
use Rattle.vlsi_base.specs.declared.kind.Kind.{Kind}
use Rattle.cell_model.specs.declared.cell.Pin.{Pin}
use Rattle.cell_model.specs.declared.cell.Arc.{Arc}
use Rattle.cell_model.specs.Function.{Function, gate, flip_flop, other, opaque}
use Rattle.cell_model.specs.View.{function_view}
use Rattle.cell_model.specs.Cell.{Cell, pin_ports, cell_inputs}
use Rattle.cell_model.specs.Library.{IsPlain, IsUsable}
use Rattle.cell_model.specs.Usable.{IsPlainForm}
use Rattle.cell_model.specs.Covering.{HasKind, IsFunctionOf as HasKindOf}
use Rattle.cell_function.specs.Function.{IsFunction, IsFunctionOf}
use Rattle.cell_function.proofs.Values.{all_inputs}
use Rattle.cell_function.specs.Row.{only_output}
use Rattle.cell_function.specs.Timing.{pin_of, begins_arc, arc_of, arcs_to, arcs_of}
use Rattle.cell_lib.specs.Cells.{Source}
use Rattle.cell_lib.specs.Library.{DoesAs, IsSaid}
use Rattle.flow_run.specs.Same.{AreSameMachines, IsSameText, TextsAreSame, AreSameFunctions, IsSameCell}
use Rattle.flow_run.proofs.Functions.{functions_same, function_other_way, form_moves, kind_moves}
use Rattle.flow_run.proofs.Checks.{LookAlike, alike_other_way, mappable_moves, is_plain_in}

-- ---- pins and layout

figures_same : (source : Source) (c d : Cell) (x : IsSaid source c) (y : IsSaid source d) → x.figure ≡ y.figure
figures_same source c d x y = one_figure source.ap x.figure y.figure x.layout_read.text y.layout_read.text

bounds_same : (source : Source) (c d : Cell) → IsSaid source c → IsSaid source d → c.bounds ≡ d.bounds
bounds_same source c d x y = x.looks.bounds ∙ ap (λ (f : Figure). f.bounds) (figures_same source c d x y) ∙ sym y.looks.bounds

items_same : (source : Source) (c d : Cell) → IsSaid source c → IsSaid source d → c.items ≡ d.items
items_same source c d x y = x.looks.items ∙ ap (λ (f : Figure). f.items) (figures_same source c d x y) ∙ sym y.looks.items

abbrev SameTexts : (source : Source) (c d : Cell) → IsSaid source c → IsSaid source d → Type 0
SameTexts source c d x y = IsSameText x.text y.text

pins_same : (source : Source) (c d : Cell) (x : IsSaid source c) (y : IsSaid source d) → SameTexts source c d x y → c.pins ≡ d.pins
pins_same source c d x y s =
    x.does.pins ∙ ap (λ (g : List GenericValue). map (pin_of g) x.text.ports) s.generics ∙ ap (λ (ps : List Port). map (pin_of y.text.generics) ps) s.ports
    ∙ sym y.does.pins

-- ---- functions

measured_ports : (g : List GenericValue) (ports : List Port) → map (λ (p : Pin). p.port) (map (pin_of g) ports) ≡ ports
measured_ports g [] = refl
measured_ports g (p ∷ ports) = ap (λ (l : List Port). p ∷ l) (measured_ports g ports)

abbrev inputs_among : List Port → List Name
inputs_among ports = names_of (filter (λ p. is_input p.dir) ports)

-- how many inputs a cell with a machine has
input_count : (bytes : List ℕ) (t : CellText) (c : Cell) (m : Machine) → IsCellText bytes t → DoesAs t c → t.machine ≡ Some m
    → length (inputs_among m.ports) ≡ length (cell_inputs c)
input_count bytes t c m is does some =
    let ports : t.ports ≡ m.ports = subst (λ (o : Option Machine). ArePins (pin_bits (symbols is.design)) o t.ports) some is.pins in
    let pins : pin_ports c ≡ t.ports = ap (λ (l : List Pin). map (λ p. p.port) l) does.pins ∙ measured_ports t.generics t.ports in
    ap (λ (ps : List Port). length (inputs_among ps)) (sym (pins ∙ ports))

checked_of : (bytes : List ℕ) (t : CellText) (m : Machine) → IsCellText bytes t → t.machine ≡ Some m → IsChecked m
checked_of bytes t m is some = (subst (λ (o : Option Machine). IsBehaviour is.design o) some is.behaviour).1.checked

-- what two texts compute that are the same
computed_same : (bytes : List ℕ) (t u : CellText) (c : Cell) → IsCellText bytes t → DoesAs t c → AreSameMachines t.machine u.machine
    → (f g : Parts) → IsFunctionOf t.machine f → IsFunctionOf u.machine g → AreSameFunctions (length (cell_inputs c)) (function_view f) (function_view g)
computed_same bytes t u c is does s f g hf hg = by t.machine refl u.machine s hf hg where
  by : (a : Option Machine) → t.machine ≡ a → (b : Option Machine) → AreSameMachines a b → IsFunctionOf a f → IsFunctionOf b g
      → AreSameFunctions (length (cell_inputs c)) (function_view f) (function_view g)
  by None e None q h k =
      subst (λ (x : Parts). AreSameFunctions (length (cell_inputs c)) (function_view x) (function_view g)) (sym h)
      (subst (λ (x : Parts). AreSameFunctions (length (cell_inputs c)) opaque (function_view x)) (sym k) tt)
  by None e (Some n) q h k = absurd q
  by (Some m) e None q h k = absurd q
  by (Some m) e (Some n) q h k =
      subst (λ (many : ℕ). AreSameFunctions many (function_view f) (function_view g)) (input_count bytes t c m is does e)
      (functions_same m n q (checked_of bytes t m is e) f g h k)

said_functions : (source : Source) (c d : Cell) (x : IsSaid source c) (y : IsSaid source d) → SameTexts source c d x y
    → AreSameFunctions (length (cell_inputs c)) c.function d.function
said_functions source c d x y s =
    let n = length (cell_inputs c) in
    let r = computed_same source.vbe x.text y.text c x.text_read x.does s.machine x.does.computed y.does.computed x.does.computes y.does.computes in
    subst (λ (f : Function). AreSameFunctions n f d.function) (sym x.does.function)
    (subst (λ (f : Function). AreSameFunctions n (function_view x.does.computed) f) (sym y.does.function) r)

-- ---- times

begins_same : (n : ℕ) (f g : Parts) → AreSameFunctions n (function_view f) (function_view g) → (p : Port) → begins_arc f p ≡ begins_arc g p
begins_same n (parts.Gate e) (parts.Gate h) s p = refl
begins_same n (parts.Gate e) (parts.FlipFlop a b) s p = absurd s
begins_same n (parts.Gate e) (parts.Other m) s p = absurd s
begins_same n (parts.Gate e) parts.Opaque s p = absurd s
begins_same n (parts.FlipFlop a b) (parts.Gate e) s p = absurd s
begins_same n (parts.FlipFlop a b) (parts.FlipFlop c d) s p = ap (λ (x : Name). begins_arc (parts.FlipFlop c x) p) s.1
begins_same n (parts.FlipFlop a b) (parts.Other m) s p = absurd s
begins_same n (parts.FlipFlop a b) parts.Opaque s p = absurd s
begins_same n (parts.Other k) (parts.Gate e) s p = absurd s
begins_same n (parts.Other k) (parts.FlipFlop a b) s p = absurd s
begins_same n (parts.Other k) (parts.Other m) s p = refl
begins_same n (parts.Other k) parts.Opaque s p = absurd s
begins_same n parts.Opaque (parts.Gate e) s p = absurd s
begins_same n parts.Opaque (parts.FlipFlop a b) s p = absurd s
begins_same n parts.Opaque (parts.Other m) s p = absurd s
begins_same n parts.Opaque parts.Opaque s p = refl

arcs_to_same : (f g : Parts) → ((p : Port) → begins_arc f p ≡ begins_arc g p) → (generics : List GenericValue) (to : Name) (ports : List Port)
    → arcs_to f generics to ports ≡ arcs_to g generics to ports
arcs_to_same f g s generics to [] = refl
arcs_to_same f g s generics to (p ∷ rest) =
    ap (λ (b : Bool). cond b (arc_of generics p.name to ∷ arcs_to f generics to rest) (arcs_to f generics to rest)) (s p)
    ∙ ap (λ (l : List Arc). cond (begins_arc g p) (arc_of generics p.name to ∷ l) l) (arcs_to_same f g s generics to rest)

abbrev arcs_by : Parts → List Port → List GenericValue → Option Name → List Arc
arcs_by f ports generics None = []
arcs_by f ports generics (Some to) = arcs_to f generics to ports

arcs_are : (f : Parts) (ports : List Port) (generics : List GenericValue) → arcs_of f ports generics ≡ arcs_by f ports generics (only_output ports)
arcs_are f ports generics = refl

arcs_of_same : (f g : Parts) → ((p : Port) → begins_arc f p ≡ begins_arc g p) → (ports : List Port) (generics : List GenericValue)
    → arcs_of f ports generics ≡ arcs_of g ports generics
arcs_of_same f g s ports generics = arcs_are f ports generics ∙ by (only_output ports) ∙ sym (arcs_are g ports generics) where
  by : (o : Option Name) → arcs_by f ports generics o ≡ arcs_by g ports generics o
  by None = refl
  by (Some to) = arcs_to_same f g s generics to ports

arcs_same : (source : Source) (c d : Cell) (x : IsSaid source c) (y : IsSaid source d) → SameTexts source c d x y → c.arcs ≡ d.arcs
arcs_same source c d x y s =
    let f = x.does.computed in
    let g = y.does.computed in
    let r = computed_same source.vbe x.text y.text c x.text_read x.does s.machine f g x.does.computes y.does.computes in
    x.does.arcs ∙ arcs_of_same f g (begins_same (length (cell_inputs c)) f g r) x.text.ports x.text.generics
    ∙ ap (λ (ps : List Port). arcs_of g ps x.text.generics) s.ports ∙ ap (λ (q : List GenericValue). arcs_of g y.text.ports q) s.generics ∙ sym y.does.arcs

-- ---- what follows

-- a gate's expression is over the inputs
abbrev IsOverInputs : ℕ → Function → Type 0
IsOverInputs n (gate e) = IsOver e n
IsOverInputs n _ = Unit {0}

over_inputs : (m : Machine) (f : Parts) → IsFunction m f → IsOverInputs (length (inputs_among m.ports)) (function_view f)
over_inputs m (parts.Gate e) h = subst (λ (l : List Name). IsOver (view e) (length l)) (all_inputs m h.unclocked) h.over
over_inputs m (parts.FlipFlop a b) h = tt
over_inputs m (parts.Other k) h = tt
over_inputs m parts.Opaque h = tt

said_over : (source : Source) (c : Cell) → IsSaid source c → IsOverInputs (length (cell_inputs c)) c.function
said_over source c x = subst (λ (f : Function). IsOverInputs (length (cell_inputs c)) f) (sym x.does.function) (by x.text.machine refl x.does.computed x.does.computes) where
  by : (a : Option Machine) → x.text.machine ≡ a → (f : Parts) → IsFunctionOf a f → IsOverInputs (length (cell_inputs c)) (function_view f)
  by None e f h = subst (λ (g : Parts). IsOverInputs (length (cell_inputs c)) (function_view g)) (sym h) tt
  by (Some m) e f h =
      subst (λ (n : ℕ). IsOverInputs n (function_view f)) (input_count source.vbe x.text c m x.text_read x.does e) (over_inputs m f h)

-- a plain function stays plain
plain_moves : (c : Cell) (n : ℕ) (f g : Function) → AreSameFunctions n f g → IsOverInputs (length (cell_inputs c)) g → IsPlain c f → IsPlain c g
plain_moves c n (gate e) (gate f) s over h = (h.0, h.1, over)
plain_moves c n (gate e) (flip_flop a b) s over h = absurd s
plain_moves c n (gate e) (other k) s over h = s
plain_moves c n (gate e) opaque s over h = s
plain_moves c n (flip_flop a b) (gate f) s over h = absurd s
plain_moves c n (flip_flop a b) (flip_flop x y) s over h = (
  h.0,
  h.1,
  subst (λ (z : Name). In z (cell_inputs c)) s.0 h.2,
  subst (λ (z : Name). In z (cell_inputs c)) s.1 h.3,
  λ e. h.4 (s.0 ∙ e ∙ sym s.1),
)
plain_moves c n (flip_flop a b) (other k) s over h = s
plain_moves c n (flip_flop a b) opaque s over h = s
plain_moves c n (other m) g s over h = absurd h
plain_moves c n opaque g s over h = absurd h

form_of : (c : Cell) (f : Function) → IsPlain c f → IsPlainForm f
form_of c (gate e) h = tt
form_of c (flip_flop a b) h = tt
form_of c (other m) h = h
form_of c opaque h = h

pub look_alike : TextsAreSame → (source : Source) (c d : Cell) → IsSaid source c → IsSaid source d → LookAlike c d
look_alike texts source c d x y =
    let s = texts source.vbe x.text y.text x.text_read y.text_read in
    let n = length (cell_inputs c) in
    let same = said_functions source c d x y s in
    record {
      pins = pins_same source c d x y s;
      bounds = bounds_same source c d x y;
      items = items_same source c d x y;
      there = form_moves n c.function d.function same;
      back = form_moves n d.function c.function (function_other_way n c.function d.function same);
    }

abbrev Connected : List Item → List Pin → Type 0
Connected items pins =
    (name : Name) → In name (connector_names items) ↔ ((name ≡ vdd) ⊎ ((name ≡ vss) ⊎ In name (names_of (map (λ p. p.port) pins))))

usable_moves : (source : Source) (c d : Cell) → IsSaid source d → LookAlike c d → AreSameFunctions (length (cell_inputs c)) c.function d.function → IsUsable c → IsUsable d
usable_moves source c d y a s u =
    let m = mappable_moves c d a (record { form = form_of c c.function u.function; scalars = u.scalars; metal = u.metal; blockage = u.blockage }) in
    let n : length (cell_inputs d) ≡ length (cell_inputs c) = ap (λ (ps : List Pin). length (inputs_among (map (λ p. p.port) ps))) (sym a.pins) in
    let over = subst (λ (many : ℕ). IsOverInputs many d.function) n (said_over source d y) in
    record {
      function = is_plain_in c d a d.function (plain_moves c (length (cell_inputs c)) c.function d.function s over u.function);
      order = subst (λ (ps : List Pin). AllPairs (λ p q. IsTrue (comes_before p q)) (names_of (map (λ p. p.port) ps))) a.pins u.order;
      connectors = subst (λ (l : List Item). Connected l d.pins) a.items (subst (λ (ps : List Pin). Connected c.items ps) a.pins u.connectors);
      scalars = m.scalars;
      metal = m.metal;
      blockage = m.blockage;
    }

has_kind_moves : (c d : Cell) → c.pins ≡ d.pins → AreSameFunctions (length (cell_inputs c)) c.function d.function → (k : Kind) → HasKind c k → HasKind d k
has_kind_moves c d pins s k h =
    let n : length (cell_inputs c) ≡ length (cell_inputs d) = ap (λ (ps : List Pin). length (inputs_among (map (λ p. p.port) ps))) pins in
    subst (λ (many : ℕ). HasKindOf d.function many k) n (kind_moves (length (cell_inputs c)) c.function d.function s k h)

pub same_cells : TextsAreSame → (source : Source) (c d : Cell) → IsSaid source c → IsSaid source d → IsSameCell c d
same_cells texts source c d x y =
    let s = texts source.vbe x.text y.text x.text_read y.text_read in
    let t = texts source.vbe y.text x.text y.text_read x.text_read in
    let same = said_functions source c d x y s in
    let a = look_alike texts source c d x y in
    let b = alike_other_way c d a in
    record {
      name = x.name ∙ sym y.name;
      pins = a.pins;
      bounds = a.bounds;
      items = a.items;
      arcs = arcs_same source c d x y s;
      function = same;
      mappable = (mappable_moves c d a, mappable_moves d c b);
      usable = (usable_moves source c d y a same, usable_moves source d c x b (said_functions source d c y x t));
      kind = λ k. (has_kind_moves c d a.pins same k, has_kind_moves d c b.pins (said_functions source d c y x t) k);
    }
