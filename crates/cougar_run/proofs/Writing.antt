-- A netlist that was extracted can be written, as far as its pins go, and what follows of one that is.
use Rattle.std.proofs.Common.{◌≡◌, ◌⊎◌, inl, inr, ℕ, Bool, true, false, List, [], ◌∷◌, map, IfSome, Option, refl, sym, ◌∙◌, ap, subst}
use Rattle.vlsi_base.specs.declared.name.Port.{Port}
use Rattle.vlsi_base.specs.declared.name.Name.{Name}
use Rattle.vlsi_base.specs.Member.{In, here, there}
use Rattle.ap_io.specs.declared.figure.Figure.{Figure}
use Rattle.ap_io.specs.ApText.{IsApText}
use Rattle.vlsi_base.specs.declared.name.Terminal.{Terminal}
use Rattle.machine_core.specs.Named.{is_same_name}
use Rattle.machine_core.proofs.Names.{same_name-true, same_name-itself}
use Rattle.cell_model.specs.declared.cell.Pin.{Pin}
use Rattle.cell_model.specs.Cell.{Cell, Function}
use Rattle.cell_model.specs.Library.{Library}
use Rattle.cell_model.proofs.Members.{All-from}
use Rattle.cell_checks.specs.Checked.{IsChecked as HasPassed}
use Rattle.vbe_io.specs.declared.cell_text.GenericValue.{GenericValue}
use Rattle.cell_function.specs.Timing.{pin_of}
use Rattle.cell_lib.specs.Cells.{Source, sources, AreCells, none, next}
use Rattle.cell_lib.specs.Library.{IsCell, IsLibraryOf}
use Rattle.cell_lib.specs.Laws.{LibraryPasses}
use Rattle.cell_pins.specs.Pins.{all_ports}
use Rattle.cell_pins.specs.Table.{ArePins, no_pins, one_pin, AreModels, no_models, listed, left_out, IsTableOf, IsListed}
use Rattle.net_core.specs.declared.pins.ModelPin.{ModelPin}
use Rattle.net_core.specs.declared.pins.ModelPins.{ModelPins}
use Rattle.net_core.specs.Netlist.{Netlist, HasClass, port}
use Rattle.net_right.specs.Writable.{port_of, CanBePorts, CanBeNamed, PinsCanBeWritten}
use Rattle.vbe_writable.specs.Laws.{CellCanBeWritten, with_supplies}
use Rattle.spell_theory.specs.Layout.{text_of}
use Rattle.vst_print.specs.Written.{layout}
use Rattle.vst_print.specs.Placed.{file_of}
use Rattle.vst_print.specs.Says.{WrittenIsASentence, WrittenSaysTheNetlist}
use Rattle.vst_print.specs.Text.{IsTextOf}
use Rattle.cougar_extract.specs.Extracted.{IsExtracted}
use Rattle.cougar_extract.specs.Refused.{CanBeNumbered, NoShort}
use Rattle.cougar_extract.specs.Laws.{ExtractedFits, ExtractedIsGiven}
use Rattle.cougar_run.specs.declared.words.CougarCommand.{CougarCommand}
use Rattle.tool_drive.specs.declared.tool.Product.{Product}
use Rattle.cougar_run.specs.Cougar.{IsWritable, IsWrittenAs, IsExtraction}
use Rattle.cougar_run.specs.Laws.{ExtractionIsGiven, ExtractionIsSaid}

-- ---- cells of a library that was read

said_in : (all : List Source) (cells : List Cell) → AreCells (IsCell false) all cells → (c : Cell) → In c cells → (s : Source) × In s all × IsCell false s c
said_in _ _ none c i = elim i [ ]
said_in _ _ (next {source = s} {rest = all} {cell = d} {cells = cells} made rest) c here = (s, here, made)
said_in _ _ (next {source = s} {rest = all} {cell = d} {cells = cells} made rest) c (there i) = let x = said_in all cells rest c i in (x.0, there x.1, x.2)

ports_back : (g : List GenericValue) (ports : List Port) → map (λ (p : Pin). p.port) (map (pin_of g) ports) ≡ ports
ports_back g [] = refl
ports_back g (p ∷ ps) = ap (λ (r : List Port). p ∷ r) (ports_back g ps)

-- an entity can declare the pins of each cell
pub cell_written : CellCanBeWritten → (list : List ℕ) (files : List (List ℕ)) (l : Library) → IsLibraryOf false list files l → (c : Cell) → In c l.cells → CanBePorts (all_ports c)
cell_written law list files l library c i =
    let x = said_in (sources library.names files) l.cells library.cells c i in
    let said = x.2.said in
    subst (λ (ps : List Port). CanBePorts (with_supplies ps)) (sym (ap (map (λ (p : Pin). p.port)) said.does.pins ∙ ports_back said.text.generics said.text.ports))
    (law x.0.vbe said.text said.text_read)

-- ---- pins of models

one_port : (p : ModelPin) (x : Port) → p.name ≡ x.name → p.dir ≡ x.dir → port_of p ≡ x
one_port p x same way = λ i. record { name = same i; dir = way i }

model_ports : (f : Function) (ports xs : List Port) (ps : List ModelPin) → ArePins f ports xs ps → map port_of ps ≡ xs
model_ports f ports _ _ no_pins = refl
model_ports f ports _ _ (one_pin {port = x} {p = p} {rest = xs} {pins = ps} is rest) =
    ap (λ (y : Port). y ∷ map port_of ps) (one_port p x is.name is.dir) ∙ ap (λ (ys : List Port). x ∷ ys) (model_ports f ports xs ps rest)

model_written : (cells : List Cell) (table : List ModelPins) → AreModels (IsListed true) cells table → ((c : Cell) → In c cells → CanBePorts (all_ports c))
    → (m : ModelPins) → In m table → CanBePorts (map port_of m.pins)
model_written _ _ no_models can m i = elim i [ ]
model_written _ _ (left_out {c = c} {cells = cells} {models = table} out rest) can m i = model_written cells table rest (λ d j. can d (there j)) m i
model_written _ _ (listed {c = c} {m = n} {cells = cells} {models = table} among is rest) can m here =
    subst (λ (ps : List Port). CanBePorts ps) (sym (model_ports c.function (all_ports c) (all_ports c) n.pins is.pins)) (can c here)
model_written _ _ (listed {c = c} {m = n} {cells = cells} {models = table} among is rest) can m (there i) = model_written cells table rest (λ d j. can d (there j)) m i

pub pins_can : CellCanBeWritten → (list : List ℕ) (files : List (List ℕ)) (l : Library) → IsLibraryOf false list files l → (table : List ModelPins) → IsTableOf l true table
    → PinsCanBeWritten table
pins_can law list files l library table r =
    All-from (λ (m : ModelPins). CanBePorts (map port_of m.pins)) table (λ m i. model_written l.cells table r (cell_written law list files l library) m i)

-- ---- a netlist

pub writable : CellCanBeWritten → ExtractedFits → (list : List ℕ) (files : List (List ℕ)) (l : Library) (f : Figure) (n : Netlist) → IsLibraryOf false list files l
    → HasPassed false l → IsExtracted f l n → IsWritable l n
writable pins fits list files l f n library passed is table is_table sound = (fits f l false table n passed is_table sound is, pins_can pins list files l library table is_table)

pub extraction : (c : CougarCommand) (source list : List ℕ) (cells : List (List ℕ)) (l : Library) (f : Figure) (n : Netlist) (p : Product) → IsLibraryOf false list cells l
    → IsApText source f → IsExtracted f l n → CanBeNumbered f.items l → NoShort f.items l → CanBeNamed n → IsWrittenAs c.out l n p
    → IsExtraction c source list cells p
extraction c source list cells l f n p library figure is few apart named written = record {
  l = l;
  library = library;
  f = f;
  figure = figure;
  n = n;
  extracted = is;
  few = few;
  apart = apart;
  named = named;
  written = written;
}

-- ---- laws

same_or_not : (a b : Name) → (a ≡ b) ⊎ (a ≡ b → ⊥)
same_or_not a b = by (is_same_name a b) refl where
  by : (t : Bool) → is_same_name a b ≡ t → (a ≡ b) ⊎ (a ≡ b → ⊥)
  by true e = inl (same_name-true a b e)
  by false e = inr (λ same. let yes : is_same_name a b ≡ true = subst (λ (x : Name). is_same_name a x ≡ true) same (same_name-itself a) in let no : true ≡ false = sym yes ∙ e in absurd cc)

-- no two ports of it are in one class
pub ports_apart : (f : Figure) (l : Library) (n : Netlist) → IsExtracted f l n → NoShort f.items l → (a b : Name) (k : ℕ) → HasClass n (port a) k → HasClass n (port b) k → a ≡ b
ports_apart f l n is apart a b k p q = by (same_or_not a b) where
  by : (a ≡ b) ⊎ (a ≡ b → ⊥) → a ≡ b
  by (inl e) = e
  by (inr differ) = elim ((is.classes (port a) (port b) k k p q).0 refl) [
    | inl e ↦ ap (λ (t : Terminal). t.pin) e
    | inr tied ↦ absurd (apart a b (record { differ = differ; tied = tied }))
  ]

pub given : LibraryPasses → ExtractedIsGiven → ExtractionIsGiven
given passes law c source list cells p h k seen = law h.f h.l false h.n k (passes false list cells h.l h.library) h.extracted seen

pub said : LibraryPasses → CellCanBeWritten → ExtractedFits → WrittenIsASentence → WrittenSaysTheNetlist → ExtractionIsSaid
said passes pins fits sentence says c source list cells p h limits =
    let table = h.written.table in
    let can = writable pins fits list cells h.l h.f h.n h.library (passes false list cells h.l h.library) h.extracted table h.written.pins h.written.sound in
    let is = sentence h.n table h.extracted.sound can.0 can.1 h.named limits in
    let text : IsTextOf h.n table (text_of (layout h.n table)) =
    record {
      cut = is.0;
      file = file_of h.n table;
      structure = is.1;
      says = says h.n table h.extracted.sound can.0 can.1 h.named limits (ports_apart h.f h.l h.n h.extracted h.apart);
    } in
    subst (λ (file : Option (List ℕ)). IfSome file (λ bytes. IsTextOf h.n table bytes)) (sym h.written.file) text
