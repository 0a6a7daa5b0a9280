-- The names of a netlist that was mapped of what was read are short.
use Rattle.std.proofs.Common.{◌≡◌, inl, inr, ℕ, ◌+◌, ◌^◌, ◌<◌, ◌≤◌, false, List, ◌∷◌, ◌++◌, map, filter, length, IfSome, sym, ◌∙◌, ap, subst, arith}
use Rattle.std.specs.Fmt.{decimal}
use Rattle.std.proofs.lemmas.Fmt.{length-decimal-le}
use Rattle.vlsi_base.specs.declared.name.Port.{Port}
use Rattle.vlsi_base.specs.declared.name.Name.{Name}
use Rattle.vlsi_base.specs.Names.{vdd, vss, comes_before}
use Rattle.vlsi_base.specs.Member.{In, here, there}
use Rattle.machine_core.specs.Machine.{Machine}
use Rattle.machine_core.specs.Size.{machine_size}
use Rattle.cell_model.specs.Access.{count_to}
use Rattle.cell_model.specs.Cell.{Cell}
use Rattle.cell_model.specs.Library.{Library}
use Rattle.cell_model.proofs.Members.{In-split, In-map, In-map_back, All-from}
use Rattle.cell_lib.specs.Cells.{sources}
use Rattle.cell_lib.specs.Library.{IsLibraryOf}
use Rattle.cell_pins.specs.Pins.{supply, with_supply}
use Rattle.cell_pins.proofs.Ports.{in_filter}
use Rattle.net_core.specs.Netlist.{Instance, Netlist}
use Rattle.net_meaning.specs.Netlist.{Member, AbstractNetlist as Seen}
use Rattle.net_meaning.specs.Agreement.{register_instance}
use Rattle.net_meaning.specs.Well.{gate_instance, buffer_instance}
use Rattle.net_theory.proofs.Basics.{length-map}
use Rattle.net_right.specs.Writable.{IsShort, HasShortNames}
use Rattle.net_meaning.specs.Order.{IsInNetlistOrder}
use Rattle.vbe_writable.specs.Laws.{CatalIsShort}
use Rattle.boog_run.specs.Boog.{IsNetlistFor}
use Rattle.boog_run.specs.Laws.{NetlistIsShort}
use Rattle.tool_drive.specs.declared.size.TheConstants.{MOST_SIZE}
use Rattle.vst_laws.proofs.Pins.{said_in, name_in}
use Rattle.boog_run.proofs.Naming.{counted, names_by, same_names, many}
use Rattle.boog_run.proofs.Cells.{model_cell}
use Rattle.boog_run.proofs.Sizes.{few_cells}

-- ---- ports, with the supplies among them

abbrev IsSmallPort : Port → Type 0
IsSmallPort p = IsShort p.name.text × IfSome p.name.bit (λ k. k < 2 ^ 32)

vdd_small : IsSmallPort (supply vdd)
vdd_small = (omega arith, tt)

vss_small : IsSmallPort (supply vss)
vss_small = (omega arith, tt)

with_small : (name : Name) (ps : List Port) → IsSmallPort (supply name) → ((p : Port) → In p ps → IsSmallPort p) → (p : Port) → In p (with_supply name ps) → IsSmallPort p
with_small name ps own each p i =
    elim (In-split p (filter (λ q. comes_before q.name name) ps) (supply name ∷ filter (λ q. comes_before name q.name) ps) i) [
      | inl before ↦ each p (in_filter (λ (q : Port). comes_before q.name name) ps p before).0
      | inr behind ↦ later p behind
    ]
  where
    later : (p : Port) → In p (supply name ∷ filter (λ q. comes_before name q.name) ps) → IsSmallPort p
    later p here = own
    later p (there j) = each p (in_filter (λ (q : Port). comes_before name q.name) ps p j).0

-- ---- instances

-- a letter with a number behind it
short_number : (letter k : ℕ) → k < 2 ^ 64 → IsShort (letter ∷ decimal k)
short_number letter k few =
    let digits : length (decimal k) ≤ 20 = length-decimal-le 20 k (omega arith) (omega (arith, few)) few in
    omega (arith, digits)

-- one of so many names of which each is short
short_by : (count : ℕ) (make : ℕ → List ℕ) (name : List ℕ) → ((k : ℕ) → k < count → IsShort (make k)) → In name (map make (count_to count)) → IsShort name
short_by count make name each i =
    let x = In-map_back make name (count_to count) i in subst (λ (t : List ℕ). IsShort t) x.2 (each x.0 (counted x.0 count x.1))

short_so : (r g b : ℕ) (name : List ℕ) → r + (g + b) < 2 ^ 64 → In name (names_by r g b) → IsShort name
short_so r g b name few i =
    elim (In-split name (map register_instance (count_to r)) (map gate_instance (count_to g) ++ map buffer_instance (count_to b)) i) [
      | inl p ↦ short_by r register_instance name (λ k less. short_number 113 k (omega (arith, few, less))) p
      | inr rest ↦ elim (In-split name (map gate_instance (count_to g)) (map buffer_instance (count_to b)) rest) [
        | inl p ↦ short_by g gate_instance name (λ k less. short_number 103 k (omega (arith, few, less))) p
        | inr p ↦ short_by b buffer_instance name (λ k less. short_number 98 k (omega (arith, few, less))) p
      ]
    ]

module _ (list : List ℕ) (files : List (List ℕ)) (l : Library) (library : IsLibraryOf false list files l) (m : Machine) (n : Netlist) (netlist : IsNetlistFor l m n)
    (small : machine_size m ≤ MOST_SIZE) where
  abbrev seen : Seen
  seen = netlist.right.sourced.netlist

  in_order : IsInNetlistOrder seen l m 0
  in_order = netlist.order seen netlist.right.seen

  names_are : map (λ (i : Instance). i.name) n.instances ≡ names_by (length m.registers) in_order.gates 0
  names_are = same_names n.instances ∙ sym (ap (λ (k : Seen). map (λ (i : Member). i.name) k.instances) netlist.right.seen.is) ∙ in_order.names

  name_short : (i : Instance) → In i n.instances → IsShort i.name
  name_short i at =
      let count = length-map (λ (x : Instance). x.name) n.instances in
      let same = ap (λ (names : List (List ℕ)). length names) names_are in
      let sum = many (length m.registers) in_order.gates 0 in
      let few = few_cells n m netlist.graph netlist.subject netlist.most in
      short_so (length m.registers) in_order.gates 0 i.name (omega (arith, few, small, count, same, sum))
      (subst (λ (ns : List (List ℕ)). In i.name ns) names_are (In-map (λ (x : Instance). x.name) i n.instances at))

  cell_short : CatalIsShort → (c : Cell) → In c l.cells → IsShort c.name
  cell_short lists c i =
      let x = said_in false (sources library.names files) l.cells library.cells c i in
      subst (λ (t : List ℕ). IsShort t) (sym x.2.said.name) (lists list library.names library.uses x.0.name (name_in library.names files x.0 x.1))

  model_short : CatalIsShort → (i : Instance) → In i n.instances → IsShort i.model
  model_short lists i at =
      let u = model_cell n l m netlist.right i at in
      subst (λ (t : List ℕ). IsShort t) u.2 (cell_short lists u.0 u.1)

  port_small : ((p : Port) → In p m.ports → IsSmallPort p) → (p : Port) → In p n.ports → IsSmallPort p
  port_small ports p i =
      with_small vss (with_supply vdd m.ports) vss_small (with_small vdd m.ports vdd_small ports) p
      (subst (λ (ps : List Port). In p ps) netlist.right.ports i)

  pub short_names : IsShort m.name → ((p : Port) → In p m.ports → IsSmallPort p) → CatalIsShort → HasShortNames n
  short_names name ports lists = record {
    name = subst (λ (t : List ℕ). IsShort t) (sym netlist.right.name) name;
    ports = All-from IsSmallPort n.ports (port_small ports);
    instances = All-from (λ (i : Instance). IsShort i.name × IsShort i.model) n.instances (λ i at. (name_short i at, model_short lists i at));
  }

pub is_short : CatalIsShort → NetlistIsShort
is_short lists list files l m n library declared small netlist =
    short_names list files l library m n netlist small declared.short_name declared.short_ports lists
