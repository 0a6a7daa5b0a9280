-- The names of a mapped netlist with buffers and drives can be written, and they are short.
use Rattle.std.proofs.Common.{◌≡◌, inl, inr, ℕ, true, ◌+◌, ◌^◌, ◌<◌, ◌≤◌, false, List, ◌∷◌, ◌++◌, map, length, IfSome, refl, sym, ap, subst, arith}
use Rattle.std.specs.Fmt.{decimal}
use Rattle.std.specs.Prelude.{All}
use Rattle.std.proofs.lemmas.Fmt.{length-decimal-le}
use Rattle.vlsi_base.specs.declared.name.Port.{Port}
use Rattle.vlsi_base.specs.Member.{In}
use Rattle.machine_core.specs.Machine.{Machine}
use Rattle.spell_theory.specs.Words.{is_small_letter, is_in_small_word}
use Rattle.text_names.specs.Words.{IsIdentifier, CanBePorts}
use Rattle.text_names.proofs.Numbered.{numbered}
use Rattle.cell_model.specs.Access.{count_to}
use Rattle.cell_model.specs.Cell.{Cell}
use Rattle.cell_model.specs.Library.{Library}
use Rattle.cell_model.proofs.Members.{In-split, In-map, In-map_back, All-from}
use Rattle.cell_lib.specs.Cells.{Source, sources}
use Rattle.cell_lib.specs.Library.{IsCell, IsLibraryOf}
use Rattle.net_core.specs.Netlist.{Instance, Netlist}
use Rattle.net_meaning.specs.Agreement.{register_instance}
use Rattle.net_meaning.specs.Well.{gate_instance, buffer_instance}
use Rattle.net_theory.proofs.Basics.{length-map}
use Rattle.net_right.specs.Writable.{CanBeAnInstance, CanBeNamed, IsShort, HasShortNames}
use Rattle.net_right.proofs.Lists.{in_place}
use Rattle.net_right.proofs.Models.{named_cell}
use Rattle.vbe_writable.specs.Laws.{CatalIsNamed, CatalIsShort}
use Rattle.vst_laws.proofs.Pins.{said_in, name_in}
use Rattle.loon_fanout.specs.Limited.{IsOfCells}
use Rattle.loon_drive.specs.Driven.{IsDrivenFrom}
use Rattle.loon_drive.specs.Laws.{IsGrown, DrivenIsGrown}
use Rattle.boog_run.specs.Boog.{IsNetlistFor}
use Rattle.boog_run.proofs.Naming.{counted, many}
use Rattle.flow_netlist.proofs.Names.{names_by, registers_named, gates_named, buffers_named}
use Rattle.flow_netlist.proofs.Mapped.{in_order}
use Rattle.flow_netlist.proofs.Order.{all_names}

-- ---- names with numbers

-- one of so many names that are made of a number
numbered_so : (P : List ℕ → Type 0) (make : ℕ → List ℕ) (count : ℕ) (name : List ℕ) → ((k : ℕ) → k < count → P (make k)) → In name (map make (count_to count)) → P name
numbered_so P make count name each i = let x = In-map_back make name (count_to count) i in subst P x.2 (each x.0 (counted x.0 count x.1))

-- what is true of each letter with a number behind it is true of each name
each_name : (P : List ℕ → Type 0) (r g b : ℕ) (name : List ℕ) → r + (g + b) < 2 ^ 64
    → ((letter k : ℕ) → is_small_letter letter ≡ true → is_in_small_word letter ≡ true → k < 2 ^ 64 → P (letter ∷ decimal k)) → In name (names_by r g b) → P name
each_name P r g b name few each i =
    elim (In-split name (registers_named r) (gates_named g ++ buffers_named b) i) [
      | inl p ↦ numbered_so P register_instance r name (λ k less. each 113 k refl refl (omega (arith, few, less))) p
      | inr rest ↦ elim (In-split name (gates_named g) (buffers_named b) rest) [
        | inl p ↦ numbered_so P gate_instance g name (λ k less. each 103 k refl refl (omega (arith, few, less))) p
        | inr p ↦ numbered_so P buffer_instance b name (λ k less. each 98 k refl refl (omega (arith, few, less))) p
      ]
    ]

short_number : (letter k : ℕ) → k < 2 ^ 64 → IsShort (letter ∷ decimal k)
short_number letter k few =
    let digits : length (decimal k) ≤ 20 = length-decimal-le 20 k (omega arith) (omega (arith, few)) few in
    omega (arith, digits)

-- ---- a netlist of cells of a library that was read

module _ (list : List ℕ) (files : List (List ℕ)) (l : Library) (library : IsLibraryOf false list files l) where
  -- the name of a cell is that of a file
  said_at : (c : Cell) → In c l.cells → (s : Source) × In s (sources library.names files) × IsCell false s c
  said_at c i = said_in false (sources library.names files) l.cells library.cells c i

  cell_named : CatalIsNamed → (c : Cell) → In c l.cells → IsIdentifier c.name
  cell_named lists c i =
      let x = said_at c i in
      subst (λ (t : List ℕ). IsIdentifier t) (sym x.2.said.name) (lists list library.names library.uses x.0.name (name_in library.names files x.0 x.1))

  cell_short : CatalIsShort → (c : Cell) → In c l.cells → IsShort c.name
  cell_short lists c i =
      let x = said_at c i in
      subst (λ (t : List ℕ). IsShort t) (sym x.2.said.name) (lists list library.names library.uses x.0.name (name_in library.names files x.0 x.1))

  module _ (m : Machine) (n k : Netlist) (fanout delay : ℕ) (mapped : IsNetlistFor l m n) (made : IsDrivenFrom n l fanout k delay) (grown : DrivenIsGrown) (cells : IsOfCells k l)
      (few : length k.instances ≤ 65536) where
    abbrev growth : IsGrown n k
    growth = grown n l fanout k delay made

    abbrev gates : ℕ
    gates = (in_order l m n mapped).gates

    few_names : length m.registers + (gates + growth.buffers) < 2 ^ 64
    few_names =
        let count = length-map (λ (x : Instance). x.name) k.instances in
        let same = ap (λ (names : List (List ℕ)). length names) (all_names l m n k fanout delay mapped made grown) in
        let sum = many (length m.registers) gates growth.buffers in
        omega (arith, few, count, same, sum)

    name_among : (j : Instance) → In j k.instances → In j.name (names_by (length m.registers) gates growth.buffers)
    name_among j i =
        subst (λ (ns : List (List ℕ)). In j.name ns) (all_names l m n k fanout delay mapped made grown) (In-map (λ (x : Instance). x.name) j k.instances i)

    -- a model is a cell of the library
    model_is : (j : Instance) → In j k.instances → (c : Cell) × In c l.cells × (c.name ≡ j.model)
    model_is j i = let c = cells.found j (in_place j k.instances i) in let r = named_cell l.cells j.model c.0 c.1 in (c.0, r.0, r.1)

    instance_can : CatalIsNamed → (j : Instance) → In j k.instances → CanBeAnInstance j
    instance_can lists j i =
        let c = model_is j i in (
          each_name IsIdentifier (length m.registers) gates growth.buffers j.name few_names numbered (name_among j i),
          subst (λ (t : List ℕ). IsIdentifier t) c.2 (cell_named lists c.0 c.1),
        )

    instance_short : CatalIsShort → (j : Instance) → In j k.instances → IsShort j.name × IsShort j.model
    instance_short lists j i =
        let c = model_is j i in (
          each_name IsShort (length m.registers) gates growth.buffers j.name few_names (λ letter x small within less. short_number letter x less) (name_among j i),
          subst (λ (t : List ℕ). IsShort t) c.2 (cell_short lists c.0 c.1),
        )

    pub can_be_named : CatalIsNamed → CanBeNamed n → CanBeNamed k
    can_be_named lists old = record {
      name = subst (λ (t : List ℕ). IsIdentifier t) (sym growth.name) old.name;
      ports = subst (λ (ps : List Port). CanBePorts ps) (sym growth.ports) old.ports;
      instances = All-from CanBeAnInstance k.instances (instance_can lists);
    }

    pub has_short_names : CatalIsShort → HasShortNames n → HasShortNames k
    has_short_names lists old = record {
      name = subst (λ (t : List ℕ). IsShort t) (sym growth.name) old.name;
      ports = subst (λ (ps : List Port). All (λ p. IsShort p.name.text × IfSome p.name.bit (λ j. j < 2 ^ 32)) ps) (sym growth.ports) old.ports;
      instances = All-from (λ (i : Instance). IsShort i.name × IsShort i.model) k.instances (instance_short lists);
    }
