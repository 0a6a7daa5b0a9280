-- What `asimut` on a netlist reads and answers.
use Rattle.std.specs.Prelude.{◌≡◌, ℕ, ◌<◌, ◌^◌, true, false, List, [], ◌∷◌, get_or, None, Result, Ok, Err}
use Rattle.vlsi_base.specs.declared.fault.LimitKind.TheVariants.{Bits}
use Rattle.vlsi_base.specs.declared.name.Name.{Name}
use Rattle.cell_model.specs.Library.{Library}
use Rattle.cell_lib.specs.declared.error.LibError.{LibError}
use Rattle.cell_lib.specs.Files.{with_library}
use Rattle.cell_lib.specs.Library.{IsLibraryOf, IsRefusedLibrary, status_of}
use Rattle.cell_pins.specs.Table.{IsTableOf}
use Rattle.net_core.specs.declared.pins.ModelPins.{ModelPins}
use Rattle.net_core.specs.Netlist.{Netlist}
use Rattle.net_machine.specs.Signals.{signal_ports, HasBehaviour, IsFirstOpaque}
use Rattle.net_machine.specs.Bits.{bits_of}
use Rattle.net_machine.specs.Answers.{HasTooManyBits}
use Rattle.net_right.specs.Condition.{MeetsCondition}
use Rattle.net_sim.specs.declared.error.NetSimError.{NetSimError}
use Rattle.net_sim.specs.declared.error.NetSimError.TheVariants as net
use Rattle.net_sim.specs.Circuit.{IsFilledOn, DiffersOnNetlist}
use Rattle.pat_meaning.specs.declared.patterns.Pattern.{Pattern}
use Rattle.pat_meaning.specs.declared.patterns.Patterns.{Patterns}
use Rattle.pat_io.specs.PatternText.{IsPatternText, IsPatternRefusal}
use Rattle.pat_io.specs.Spelling.{text_of}
use Rattle.vst_io.specs.Text.{IsVst, IsVstRefusal}
use Rattle.asimut_run.specs.declared.words.AsimutNetlistCommand.{AsimutNetlistCommand}
use Rattle.tool_drive.specs.declared.status.Status.{Status}
use Rattle.tool_drive.specs.declared.status.Status.TheVariants as status
use Rattle.tool_drive.specs.declared.status.Verdict.TheVariants.{Differs, NoBehaviour}
use Rattle.tool_drive.specs.declared.tool.Product.{Product}
use Rattle.tool_drive.specs.declared.tool.Refusal.{Refusal}
use Rattle.tool_drive.specs.Plan.{Plan, Inputs, limited, large}
use Rattle.tool_drive.specs.Refusals.{OfFile}
use Rattle.asimut_run.specs.Asimut.{label_of}

-- SOURCE, PATTERNS, CATAL, and then the files of the cells that CATAL uses
abbrev pub netlist_plan : AsimutNetlistCommand → Plan
netlist_plan c = with_library (large c.source ∷ limited c.patterns ∷ []) c.library

-- what stands in the files
pub record Texts : Type 0 where
  pub source : List ℕ
  pub patterns : List ℕ
  pub catal : List ℕ
  pub cells : List (List ℕ)

-- CATAL and the cells' files are this library, and this is the table of the pins of all its cells
pub record AreCells (t : Texts) (l : Library) (table : List ModelPins) : Type 0 where
  pub library : IsLibraryOf false t.catal t.cells l
  pub pins : IsTableOf l true table

-- the source is this netlist of these cells, and the patterns are for its ports without vdd and vss
pub record AreRead (t : Texts) (l : Library) (table : List ModelPins) (n : Netlist) (p : Patterns) : Type 0 where
  pub cells : AreCells t l table
  pub netlist : IsVst t.source table n
  pub for_ports : IsPatternText t.patterns (signal_ports n.ports) p

-- No cell is opaque, the netlist's machine has fewer than 2^32 bits, the patterns come out as they expect, and this is their
-- text with every output filled in.
pub record IsSimulation (t : Texts) (text : List ℕ) : Type 0 where
  pub l : Library
  pub table : List ModelPins
  pub n : Netlist
  pub p : Patterns
  pub out : Patterns
  pub read : AreRead t l table n p
  pub known : HasBehaviour n l
  pub few : bits_of n l < 2 ^ 32
  pub filled : IsFilledOn n l table p out
  pub text_is : text ≡ text_of out

-- What is refused, in this order: the library, the netlist, the patterns, an instance of a cell of which nothing is known, a machine
-- of 2^32 bits or more, the first bit that isn't what the patterns expect.
pub data IsAsimutNetlistRefusal (c : AsimutNetlistCommand) (t : Texts) (s : Status) : Type 0 where
  no_library : (e : LibError) → IsRefusedLibrary false t.catal t.cells e → s ≡ status_of e → IsAsimutNetlistRefusal c t s
  bad_netlist : (l : Library) (table : List ModelPins) → AreCells t l table → OfFile c.source (IsVstRefusal t.source table) s → IsAsimutNetlistRefusal c t s
  bad_patterns : (l : Library) (table : List ModelPins) (n : Netlist) → AreCells t l table → IsVst t.source table n
      → OfFile c.patterns (IsPatternRefusal t.patterns (signal_ports n.ports)) s → IsAsimutNetlistRefusal c t s
  no_behaviour : (l : Library) (table : List ModelPins) (n : Netlist) (p : Patterns) (model : List ℕ) → AreRead t l table n p
      → IsFirstOpaque n l model → s ≡ status.No (NoBehaviour model) → IsAsimutNetlistRefusal c t s
  many_bits : (l : Library) (table : List ModelPins) (n : Netlist) (p : Patterns) (reached : ℕ) → AreRead t l table n p
      → HasBehaviour n l → HasTooManyBits n l reached → s ≡ status.Limit (record { which = Bits; reached = reached }) → IsAsimutNetlistRefusal c t s
  differs : (l : Library) (table : List ModelPins) (n : Netlist) (p : Patterns) (number : ℕ) (bit : Name) → AreRead t l table n p
      → HasBehaviour n l → bits_of n l < 2 ^ 32 → DiffersOnNetlist n l table p number bit
      → s ≡ status.No (Differs (label_of p.patterns number) bit) → IsAsimutNetlistRefusal c t s

-- The filled patterns are printed, and no file is written; or one of these refusals.
abbrev pub Simulates : AsimutNetlistCommand → Texts → Result Product Refusal → Type 0
Simulates c t (Ok p) = (p.name ≡ c.source) × (p.file ≡ None) × IsSimulation t p.text
Simulates c t (Err r) = (r.part ≡ None) × IsAsimutNetlistRefusal c t r.status

-- the texts of what was read
abbrev pub texts : List (List ℕ) → List (List ℕ) → Texts
texts first more = record { source = get_or first 0 []; patterns = get_or first 1 []; catal = get_or first 2 []; cells = more }

abbrev pub netlist_answers : AsimutNetlistCommand → Inputs → Result Product Refusal → Type 0
netlist_answers c i r = Simulates c (texts i.first i.more) r

-- so it is with all texts of these cells, of this netlist of them, and of these patterns, where the netlist meets what the stages ask
abbrev pub ForTexts : Library → Netlist → List ℕ → (Texts → Type 0) → Type 0
ForTexts l n patterns P =
    (t : Texts) (table : List ModelPins) → AreCells t l table → IsVst t.source table n → MeetsCondition table n → t.patterns ≡ patterns → P t

-- how a simulation's refusal is told
abbrev pub IsToldOf : List Pattern → NetSimError → Status → Type 0
IsToldOf patterns e status.Memory = Unit {0}
IsToldOf patterns (net.NoBehaviour model) (status.No (NoBehaviour cell)) = cell ≡ model
IsToldOf patterns (net.TooManyBits reached) (status.Limit limit) = limit ≡ record { which = Bits; reached = reached }
IsToldOf patterns (net.Differs number name) (status.No (Differs label n)) = (label ≡ label_of patterns number) × (n ≡ name)
IsToldOf patterns e s = ⊥
