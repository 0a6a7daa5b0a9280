-- The path through the registers, and the names that are added.
use Rattle.std.specs.Prelude.{◌⊎◌, ℕ, ◌+◌, ◌*◌, ◌<◌, Bool, true, false, List, [], ◌∷◌, map, filter, length, codes, Option, None, Some, nat_eq, if◌then◌else◌}
use Rattle.vlsi_base.specs.declared.kind.Kind.{Kind}
use Rattle.vlsi_base.specs.declared.kind.Kind.TheVariants as kind
use Rattle.vlsi_base.specs.Member.{In, AllDifferent}
use Rattle.vlsi_base.specs.Range.{rising}
use Rattle.cell_model.specs.Cell.{Function, gate, flip_flop, other, opaque, Cell}
use Rattle.cell_model.specs.Library.{Library, cell_of}
use Rattle.cell_model.specs.Covering.{HasCellOf}
use Rattle.net_core.specs.Netlist.{Instance, Netlist}
use Rattle.net_core.specs.Places.{Stands}
use Rattle.scan_theory.specs.Scan.{gate_name}

-- ---- registers

abbrev pub is_flip_flop : Function → Bool
is_flip_flop (gate e) = false
is_flip_flop (flip_flop d ck) = true
is_flip_flop (other machine) = false
is_flip_flop opaque = false

abbrev pub holds_bit : Option Cell → Bool
holds_bit None = false
holds_bit (Some c) = is_flip_flop c.function

abbrev pub is_register : Library → Instance → Bool
is_register l i = holds_bit (cell_of l i.model)

-- the names of the register instances, in the order of instances
abbrev pub register_names : Library → Netlist → List (List ℕ)
register_names l n = map (λ i. i.name) (filter (is_register l) n.instances)

-- the path names each register instance once, and nothing else
pub record IsPath (l : Library) (n : Netlist) (path : List (List ℕ)) : Type 0 where
  pub known : (name : List ℕ) → In name path → In name (register_names l n)
  pub once : AllDifferent path
  pub complete : (name : List ℕ) → In name (register_names l n) → In name path

-- ---- names that are added

-- the numbers of the gates for so many registers: without registers there is no s0
abbrev pub gate_numbers : ℕ → List ℕ
gate_numbers many = if nat_eq many 0 then 1 ∷ 2 ∷ [] else rising 0 (3 * many + 3)

-- scin, test and scout, and then the names of the gates
abbrev pub added : ℕ → List (List ℕ)
added many = codes "scin" ∷ codes "test" ∷ codes "scout" ∷ map gate_name (gate_numbers many)

-- a port has the text, or an instance the name
abbrev pub IsTaken : Netlist → List ℕ → Type 0
IsTaken n text = In text (map (λ p. p.name.text) n.ports) ⊎ In text (map (λ i. i.name) n.instances)

abbrev pub NoneTaken : Library → Netlist → Type 0
NoneTaken l n = (text : List ℕ) → In text (added (length (register_names l n))) → IsTaken n text → ⊥

-- ---- cells

-- what the gates are made of
abbrev pub needed : List Kind
needed = kind.Inv ∷ kind.Nand2 ∷ []

abbrev pub IsCovered : Library → Type 0
IsCovered l = (k : Kind) → In k needed → HasCellOf l.cells k

-- ---- where a path is at fault

-- the first place at which a text stands that stood before
pub record IsFirstTwice (path : List (List ℕ)) (text : List ℕ) : Type 0 where
  pub place : ℕ
  pub stands : Stands path place text
  pub before : ℕ
  pub earlier : before < place
  pub stood : Stands path before text
  pub first : (i j : ℕ) (other : List ℕ) → i < j → j < place → Stands path i other → Stands path j other → ⊥
