-- Two libraries of the same files.
use Rattle.std.proofs.Common.{◌≡◌, ℕ, Bool, List, [], ◌∷◌, length, sym, ap, ◌∙◌, subst}
use Rattle.std.specs.Prelude.{◌↔◌, ◌==◌, not}
use Rattle.std.proofs.lemmas.List.{length-map}
use Rattle.vlsi_base.specs.Member.{In, here, there}
use Rattle.vlsi_base.specs.declared.name.Name.{Name}
use Rattle.machine_core.specs.Machine.{Machine, Register, register_names}
use Rattle.vbe_laws.specs.OneMachine.{MachinesHaveTheSameParts}
use Rattle.vlsi_base.specs.declared.kind.Kind.{Kind}
use Rattle.cell_model.specs.Cell.{Cell}
use Rattle.cell_model.specs.Library.{Library}
use Rattle.cell_model.specs.Covering.{HasCellOf, needed, IsFirstMissing, first, later}
use Rattle.boog_map.specs.Netlist.{has_registers, Covers}
use Rattle.cell_lib.specs.Cells.{Source, sources, AreCells, none, next}
use Rattle.cell_lib.specs.Library.{IsCell}
use Rattle.flow_run.specs.Same.{TextsAreSame, IsSameCell, AreSameCells}
use Rattle.flow_run.specs.OneLibrary.{LibrariesAreSame, LibrariesCoverTheSame, CoveredLacksNothing}
use Rattle.flow_run.proofs.Cells.{same_cells}
use Rattle.flow_run.proofs.Refusals.{names_once}

cells_same : TextsAreSame → (tracks others : Bool) (ss : List Source) (cs ds : List Cell) → AreCells (IsCell tracks) ss cs → AreCells (IsCell others) ss ds → AreSameCells cs ds
cells_same texts tracks others _ _ _ none none = tt
cells_same texts tracks others _ _ _ (next {source = s} {rest = ss} {cell = c} {cells = cs} h rest) (next {cell = d} {cells = ds} k more) =
    (same_cells texts s c d h.said k.said, cells_same texts tracks others ss cs ds rest more)

pub libraries_same : TextsAreSame → LibrariesAreSame
libraries_same texts tracks others catal files l k h g =
    cells_same texts tracks others (sources h.names files) l.cells k.cells h.cells
    (subst (λ (ns : List (List ℕ)). AreCells (IsCell others) (sources ns files) k.cells) (names_once catal g.names h.names g.uses h.uses) g.cells)

-- ---- what they cover

-- the cell that stands in the same place
partner : (cs ds : List Cell) → AreSameCells cs ds → (c : Cell) → In c cs → (d : Cell) × In d ds × IsSameCell c d
partner (c ∷ cs) (d ∷ ds) s _ here = (d, here, s.0)
partner (b ∷ cs) (d ∷ ds) s c (there i) = let r = partner cs ds s.1 c i in (r.0, there r.1, r.2)
partner (c ∷ cs) [] s _ i = absurd s
partner [] ds s c i = elim i [ ]

cell_moves : (cs ds : List Cell) → AreSameCells cs ds → (k : Kind) → HasCellOf cs k → HasCellOf ds k
cell_moves cs ds s k h =
    let r = partner cs ds s h.cell h.listed in
    record { cell = r.0; listed = r.1; usable = r.2.usable.0 h.usable; kind = (r.2.kind k).0 h.kind }

abbrev HaveSame : List Cell → List Cell → Type 0
HaveSame cs ds = (k : Kind) → HasCellOf cs k ↔ HasCellOf ds k

missing_moves : (cs ds : List Cell) → HaveSame cs ds → (k : Kind) (ks : List Kind) → IsFirstMissing cs k ks → IsFirstMissing ds k ks
missing_moves cs ds s k _ (first lacks) = first (λ h. lacks ((s k).1 h))
missing_moves cs ds s k _ (later {j = j} {ks = ks} has rest) = later ((s j).0 has) (missing_moves cs ds s k ks rest)

covers_moves : (l k : Library) → HaveSame l.cells k.cells → (m : Machine) → Covers l m → Covers k m
covers_moves l k s m h kind i = (s kind).0 (h kind i)

back_way : (cs ds : List Cell) → HaveSame cs ds → HaveSame ds cs
back_way cs ds s k = ((s k).1, (s k).0)

pub cover_same : TextsAreSame → LibrariesCoverTheSame
cover_same texts tracks others catal files l k h g =
    let there_is = libraries_same texts tracks others catal files l k h g in
    let back_is = libraries_same texts others tracks catal files k l g h in
    let s : HaveSame l.cells k.cells = λ kind. (cell_moves l.cells k.cells there_is kind, cell_moves k.cells l.cells back_is kind) in
    let t : HaveSame k.cells l.cells = back_way l.cells k.cells s in
    record {
      cell = s;
      missing = λ kind kinds. (missing_moves l.cells k.cells s kind kinds, missing_moves k.cells l.cells t kind kinds);
      machines = λ m. (covers_moves l k s m, covers_moves k l t m);
    }

-- ---- what is lacking

-- it stands in the list, and no usable cell has it
missing_in : (cs : List Cell) (k : Kind) (ks : List Kind) → IsFirstMissing cs k ks → In k ks × (HasCellOf cs k → ⊥)
missing_in cs k _ (first lacks) = (here, lacks)
missing_in cs k _ (later {ks = ks} has rest) = let r = missing_in cs k ks rest in (there r.0, r.1)

-- machines whose registers have the same names have registers, or have none
pub registers_same : (m n : Machine) → register_names m ≡ register_names n → has_registers m ≡ has_registers n
registers_same m n s =
    let many : length m.registers ≡ length n.registers =
    sym (length-map m.registers (λ (r : Register). r.name)) ∙ ap (λ (l : List Name). length l) s ∙ length-map n.registers (λ (r : Register). r.name) in
    ap (λ (x : ℕ). not (x == 0)) many

pub lacks_nothing : MachinesHaveTheSameParts → LibrariesCoverTheSame → CoveredLacksNothing
lacks_nothing parts cover tracks others catal files l k h g source m n im ik covered kind missing =
    let r = missing_in k.cells kind (needed (has_registers n)) missing in
    let same = registers_same m n (parts source m n im ik).registers in
    let needs : In kind (needed (has_registers m)) = subst (λ (b : Bool). In kind (needed b)) (sym same) r.0 in
    r.1 (((cover tracks others catal files l k h g).cell kind).0 (covered kind needs))
