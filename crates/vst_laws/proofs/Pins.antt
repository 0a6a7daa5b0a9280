-- The pins of a library's cells have names that can be written.
use Rattle.std.proofs.Common.{◌≡◌, ℕ, Bool, List, [], ◌∷◌, map, refl, sym, ◌∙◌, ap, ap₂, subst}
use Rattle.std.specs.Prelude.{drop}
use Rattle.vlsi_base.specs.declared.name.Port.{Port}
use Rattle.vlsi_base.specs.declared.name.Name.{Name}
use Rattle.vlsi_base.specs.declared.name.Dir.{Dir}
use Rattle.vlsi_base.specs.Member.{In, here, there}
use Rattle.text_names.specs.Words.{CanBePorts}
use Rattle.cell_model.specs.declared.cell.Pin.{Pin}
use Rattle.cell_model.specs.Cell.{Cell, Function}
use Rattle.cell_model.proofs.Members.{All-from}
use Rattle.vbe_io.specs.declared.cell_text.GenericValue.{GenericValue}
use Rattle.cell_function.specs.Timing.{pin_of}
use Rattle.cell_lib.specs.Cells.{Source, sources, AreCells, none, next}
use Rattle.cell_lib.specs.Library.{IsCell}
use Rattle.cell_pins.specs.Pins.{all_ports}
use Rattle.cell_pins.specs.Table.{ArePins, no_pins, one_pin, AreModels, no_models, listed, left_out, IsListed}
use Rattle.net_core.specs.declared.pins.ModelPin.{ModelPin}
use Rattle.net_core.specs.declared.pins.ModelPins.{ModelPins}
use Rattle.net_right.specs.Writable.{port_of}
use Rattle.vbe_writable.specs.Laws.{CellCanBeWritten, with_supplies}
use Rattle.vst_laws.specs.Writable.{TableCanBeWritten}

pub said_in : (tracks : Bool) (all : List Source) (cells : List Cell) → AreCells (IsCell tracks) all cells → (c : Cell) → In c cells → (s : Source) × In s all × IsCell tracks s c
said_in tracks _ _ none c i = elim i [ ]
said_in tracks _ _ (next {source = s} {rest = all} {cell = d} {cells = cells} made rest) c here = (s, here, made)
said_in tracks _ _ (next {source = s} {rest = all} {cell = d} {cells = cells} made rest) c (there i) = let x = said_in tracks all cells rest c i in (x.0, there x.1, x.2)

pub name_in : (names files : List (List ℕ)) (s : Source) → In s (sources names files) → In s.name names
name_in [] files s i = elim i [ ]
name_in (n ∷ names) files s here = here
name_in (n ∷ names) files s (there i) = there (name_in names (drop 2 files) s i)

ports_back : (g : List GenericValue) (ports : List Port) → map (λ (p : Pin). p.port) (map (pin_of g) ports) ≡ ports
ports_back g [] = refl
ports_back g (p ∷ ps) = ap (λ (r : List Port). p ∷ r) (ports_back g ps)

-- ---- pins of models

abbrev made : Name → Dir → Port
made n d = record { name = n; dir = d }

one_port : (p : ModelPin) (x : Port) → p.name ≡ x.name → p.dir ≡ x.dir → port_of p ≡ x
one_port p x same way = ap₂ made same way

model_ports : (f : Function) (ports xs : List Port) (ps : List ModelPin) → ArePins f ports xs ps → map port_of ps ≡ xs
model_ports f ports _ _ no_pins = refl
model_ports f ports _ _ (one_pin {port = x} {p = p} {rest = xs} {pins = ps} is rest) =
    ap (λ (y : Port). y ∷ map port_of ps) (one_port p x is.name is.dir) ∙ ap (λ (ys : List Port). x ∷ ys) (model_ports f ports xs ps rest)

model_written : (all : Bool) (cells : List Cell) (table : List ModelPins) → AreModels (IsListed all) cells table → ((c : Cell) → In c cells → CanBePorts (all_ports c))
    → (m : ModelPins) → In m table → CanBePorts (map port_of m.pins)
model_written all _ _ no_models can m i = elim i [ ]
model_written all _ _ (left_out {c = c} {cells = cells} {models = table} out rest) can m i = model_written all cells table rest (λ d j. can d (there j)) m i
model_written all _ _ (listed {c = c} {m = n} {cells = cells} {models = table} among is rest) can m here =
    subst (λ (ps : List Port). CanBePorts ps) (sym (model_ports c.function (all_ports c) (all_ports c) n.pins is.pins)) (can c here)
model_written all _ _ (listed {c = c} {m = n} {cells = cells} {models = table} among is rest) can m (there i) = model_written all cells table rest (λ d j. can d (there j)) m i

-- ---- a library

cell_written : CellCanBeWritten → (tracks : Bool) (list : List (List ℕ)) (files : List (List ℕ)) (cells : List Cell) → AreCells (IsCell tracks) (sources list files) cells
    → (c : Cell) → In c cells → CanBePorts (all_ports c)
cell_written can tracks list files cells are c i =
    let x = said_in tracks (sources list files) cells are c i in
    let said = x.2.said in
    subst (λ (ps : List Port). CanBePorts (with_supplies ps)) (sym (ap (map (λ (p : Pin). p.port)) said.does.pins ∙ ports_back said.text.generics said.text.ports))
    (can x.0.vbe said.text said.text_read)

pub table_written : CellCanBeWritten → TableCanBeWritten
table_written can tracks all catal files l table library r =
    All-from (λ (m : ModelPins). CanBePorts (map port_of m.pins)) table
    (λ m i. model_written all l.cells table r (cell_written can tracks library.names files l.cells library.cells) m i)
