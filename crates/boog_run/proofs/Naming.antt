-- Nothing of its names stands against writing a netlist that was mapped of what was read.
use Rattle.std.proofs.Common.{◌≡◌, inl, inr, ℕ, zero, suc, ◌+◌, ◌^◌, ◌<◌, ◌≤◌, false, List, [], ◌∷◌, ◌++◌, map, length, refl, sym, ◌∙◌, ap, subst, arith, length-append}
use Rattle.vlsi_base.specs.declared.name.Port.{Port}
use Rattle.vlsi_base.specs.Member.{In, here, there}
use Rattle.machine_core.specs.Machine.{Machine}
use Rattle.machine_core.specs.Size.{machine_size}
use Rattle.text_names.specs.Words.{IsIdentifier, CanBePorts}
use Rattle.text_names.proofs.Numbered.{numbered}
use Rattle.cell_model.specs.Access.{count_to}
use Rattle.cell_model.specs.Cell.{Cell}
use Rattle.cell_model.specs.Library.{Library}
use Rattle.cell_model.proofs.Members.{In-split, In-map, In-map_back, All-from}
use Rattle.cell_lib.specs.Cells.{sources}
use Rattle.cell_lib.specs.Library.{IsLibraryOf}
use Rattle.cell_pins.specs.Table.{IsTableOf}
use Rattle.net_core.specs.declared.pins.ModelPins.{ModelPins}
use Rattle.net_core.specs.Netlist.{Instance, Netlist}
use Rattle.net_meaning.specs.Netlist.{Member, AbstractNetlist as Seen}
use Rattle.net_meaning.specs.Agreement.{register_instance}
use Rattle.net_meaning.specs.Well.{gate_instance, buffer_instance}
use Rattle.net_theory.proofs.Basics.{length-map}
use Rattle.net_right.specs.View.{member_of}
use Rattle.net_right.specs.Writable.{CanBeAnInstance, CanBeNamed, PinsCanBeWritten}
use Rattle.net_meaning.specs.Order.{IsInNetlistOrder}
use Rattle.vbe_writable.specs.Laws.{CatalIsNamed, CellCanBeWritten, with_supplies}
use Rattle.vst_laws.proofs.Pins.{said_in, name_in, table_written}
use Rattle.boog_run.specs.Boog.{IsNetlistFor, IsWritable}
use Rattle.tool_drive.specs.declared.size.TheConstants.{MOST_SIZE}
use Rattle.boog_run.proofs.Cells.{model_cell}
use Rattle.boog_run.proofs.Sizes.{few_cells}

-- ---- names of instances

last_is : (k n : ℕ) → In k (n ∷ []) → k < suc n
last_is k n here = omega arith
last_is k n (there i) = elim i [ ]

pub counted : (k n : ℕ) → In k (count_to n) → k < n
counted k zero i = elim i [ ]
counted k (suc n) i = elim (In-split k (count_to n) (n ∷ []) i) [ inl low ↦ let less = counted k n low in omega (arith, less) | inr last ↦ last_is k n last ]

pub length-count_to : (n : ℕ) → length (count_to n) ≡ n
length-count_to zero = refl
length-count_to (suc n) = let a = length-append (count_to n) (n ∷ []) in let b = length-count_to n in omega (arith, a, b)

-- the names of so many registers, gates and buffers
abbrev pub names_by : ℕ → ℕ → ℕ → List (List ℕ)
names_by r g b = map register_instance (count_to r) ++ (map gate_instance (count_to g) ++ map buffer_instance (count_to b))

pub many : (r g b : ℕ) → length (names_by r g b) ≡ r + (g + b)
many r g b =
    let x = length-append (map register_instance (count_to r)) (map gate_instance (count_to g) ++ map buffer_instance (count_to b)) in
    let y = length-append (map gate_instance (count_to g)) (map buffer_instance (count_to b)) in
    let i = length-map register_instance (count_to r) in
    let j = length-map gate_instance (count_to g) in
    let k = length-map buffer_instance (count_to b) in
    let p = length-count_to r in
    let q = length-count_to g in
    let s = length-count_to b in
    omega (arith, x, y, i, j, k, p, q, s)

-- one of so many names that are identifiers
pub named_by : (count : ℕ) (make : ℕ → List ℕ) (name : List ℕ) → ((k : ℕ) → k < count → IsIdentifier (make k)) → In name (map make (count_to count)) → IsIdentifier name
named_by count make name each i =
    let x = In-map_back make name (count_to count) i in subst (λ (t : List ℕ). IsIdentifier t) x.2 (each x.0 (counted x.0 count x.1))

register_named : (r : ℕ) → r < 2 ^ 64 → (k : ℕ) → k < r → IsIdentifier (register_instance k)
register_named r few k less = numbered 113 k refl refl (omega (arith, few, less))

gate_named : (g : ℕ) → g < 2 ^ 64 → (k : ℕ) → k < g → IsIdentifier (gate_instance k)
gate_named g few k less = numbered 103 k refl refl (omega (arith, few, less))

buffer_named : (b : ℕ) → b < 2 ^ 64 → (k : ℕ) → k < b → IsIdentifier (buffer_instance k)
buffer_named b few k less = numbered 98 k refl refl (omega (arith, few, less))

-- each is an identifier
named_so : (r g b : ℕ) (name : List ℕ) → r + (g + b) < 2 ^ 64 → In name (names_by r g b) → IsIdentifier name
named_so r g b name few i =
    let few_r : r < 2 ^ 64 = omega (arith, few) in
    let few_g : g < 2 ^ 64 = omega (arith, few) in
    let few_b : b < 2 ^ 64 = omega (arith, few) in
    elim (In-split name (map register_instance (count_to r)) (map gate_instance (count_to g) ++ map buffer_instance (count_to b)) i) [
      | inl p ↦ named_by r register_instance name (register_named r few_r) p
      | inr rest ↦ elim (In-split name (map gate_instance (count_to g)) (map buffer_instance (count_to b)) rest) [
        | inl p ↦ named_by g gate_instance name (gate_named g few_g) p
        | inr p ↦ named_by b buffer_instance name (buffer_named b few_b) p
      ]
    ]

-- ---- cells of a library that was read

-- ---- a netlist

pub same_names : (xs : List Instance) → map (λ (i : Instance). i.name) xs ≡ map (λ (i : Member). i.name) (map member_of xs)
same_names [] = refl
same_names (x ∷ xs) = ap (λ (r : List (List ℕ)). x.name ∷ r) (same_names xs)

module _ (lists : CatalIsNamed) (pins_written : CellCanBeWritten) (list : List ℕ) (files : List (List ℕ)) (l : Library) (library : IsLibraryOf false list files l) where
  cell_named : (c : Cell) → In c l.cells → IsIdentifier c.name
  cell_named c i =
      let x = said_in false (sources library.names files) l.cells library.cells c i in
      subst (λ (t : List ℕ). IsIdentifier t) (sym x.2.said.name) (lists list library.names library.uses x.0.name (name_in library.names files x.0 x.1))

  pub pins_can : (table : List ModelPins) → IsTableOf l false table → PinsCanBeWritten table
  pins_can table r = table_written pins_written false false list files l table library r

  module _ (m : Machine) (n : Netlist) (netlist : IsNetlistFor l m n) (small : machine_size m ≤ MOST_SIZE) where
    abbrev seen : Seen
    seen = netlist.right.sourced.netlist

    in_order : IsInNetlistOrder seen l m 0
    in_order = netlist.order seen netlist.right.seen

    names_are : map (λ (i : Instance). i.name) n.instances ≡ names_by (length m.registers) in_order.gates 0
    names_are = same_names n.instances ∙ sym (ap (λ (k : Seen). map (λ (i : Member). i.name) k.instances) netlist.right.seen.is) ∙ in_order.names

    instance_named : (i : Instance) → In i n.instances → IsIdentifier i.name
    instance_named i there_is =
        let count = length-map (λ (x : Instance). x.name) n.instances in
        let same = ap (λ (names : List (List ℕ)). length names) names_are in
        let sum = many (length m.registers) in_order.gates 0 in
        let few = few_cells n m netlist.graph netlist.subject netlist.most in
        named_so (length m.registers) in_order.gates 0 i.name (omega (arith, few, small, count, same, sum))
        (subst (λ (ns : List (List ℕ)). In i.name ns) names_are (In-map (λ (x : Instance). x.name) i n.instances there_is))

    model_named : (i : Instance) → In i n.instances → IsIdentifier i.model
    model_named i at =
        let u = model_cell n l m netlist.right i at in
        subst (λ (t : List ℕ). IsIdentifier t) u.2 (cell_named u.0 u.1)

    pub can_be_named : IsIdentifier m.name → CanBePorts (with_supplies m.ports) → CanBeNamed n
    can_be_named name ports = record {
      name = subst (λ (t : List ℕ). IsIdentifier t) (sym netlist.right.name) name;
      ports = subst (λ (ps : List Port). CanBePorts ps) (sym netlist.right.ports) ports;
      instances = All-from CanBeAnInstance n.instances (λ i at. (instance_named i at, model_named i at));
    }

    pub writable : IsIdentifier m.name → CanBePorts (with_supplies m.ports) → IsWritable l n
    writable name ports = record {
      condition = netlist.condition;
      named = can_be_named name ports;
      pins = pins_can;
    }
