-- Two machines of one text have the same bits, each over its own numbers: readings of a text differ in where expressions lie in memory
-- alone.
use Rattle.std.proofs.Common.{◌≡◌, ℕ, List, [], ◌∷◌, ◌++◌, map, Option, None, Some, refl, ap, ◌∙◌, subst}
use Rattle.std.specs.List.Sorted.{IsPermutation}
use Rattle.std.proofs.lemmas.List.Sorted.{IsPermutation-sym}
use Rattle.vlsi_base.specs.Tree.{Tree, view}
use Rattle.vlsi_base.specs.declared.name.Name.{Name}
use Rattle.machine_core.specs.Machine.{Machine, Equation, Register, register_names}
use Rattle.machine_core.specs.Checked.{AreInOrder, IsChecked}
use Rattle.source_checks.specs.declared.statement.Statement.{Statement}
use Rattle.source_checks.specs.declared.statement.Statement.TheVariants as statement
use Rattle.source_checks.specs.declared.statement.DesignFile.{DesignFile}
use Rattle.source_checks.specs.declared.symbol_table.Symbol.{Symbol}
use Rattle.source_checks.specs.Symbols.{symbols}
use Rattle.source_checks.specs.Places.{in_assignments, in_statements}
use Rattle.source_checks.specs.Formula.{numbered}
use Rattle.source_checks.specs.Clock.{statement_clocks, first_text, clock_text, enable_of}
use Rattle.source_checks.specs.Elaboration.{Definition, Storage, assignment_definitions, stored, statement_definitions, statement_storage, definitions, storage}
use Rattle.vbe_text.specs.Source.{SourceTree, BlockTree, assignment_view, block_view, statement_view, source_view, assigned}
use Rattle.vlsi_model.proofs.OneOrder.{one_order}
use Rattle.vbe_io.specs.Text.{IsVbe}
use Rattle.vbe_io.proofs.Views.{SeenBy, of_both, of_each}
use Rattle.vbe_io.proofs.AlikeStatements.{clocks_seen, definitions_seen}
use Rattle.vbe_io.proofs.AlikeSources.{symbols_alike}
use Rattle.vbe_io.proofs.Once.{written_once}
use Rattle.vbe_laws.specs.OneMachine.{HaveSameParts, MachinesHaveTheSameParts}
use Rattle.vbe_laws.proofs.Ordered.{Moved, moved_map}

-- an equation and a register of a machine with these names
abbrev pub equation_over : List Name → Definition → Equation
equation_over vars d = record { name = d.name; expr = numbered vars d.formula }

abbrev pub register_over : List Name → Storage → Register
register_over vars r = record { name = r.name; next = numbered vars r.next; enable = numbered vars r.enable }

-- ---- what readings of one tree drive

assignments_seen : (known : List Symbol) → SeenBy (map assignment_view) (in_assignments (assignment_definitions known))
assignments_seen known =
    of_each assignment_view (λ a xs. assignment_definitions known a ++ xs) (in_assignments (assignment_definitions known)) (λ a rest. refl)
    (λ a b e. ap (λ found. λ xs. found ++ xs) (definitions_seen known (statement.Assign a) (statement.Assign b) (ap assigned e)))

storage_seen : (known : List Symbol) (ck : Option (List ℕ)) → SeenBy statement_view (statement_storage known ck)
storage_seen known ck (statement.Assert a) (statement.Assert b) e = refl
storage_seen known ck (statement.Assert a) (statement.Assign b) e = absurd (cc)
storage_seen known ck (statement.Assert a) (statement.Block b) e = absurd (cc)
storage_seen known ck (statement.Assign a) (statement.Assert b) e = absurd (cc)
storage_seen known ck (statement.Assign a) (statement.Assign b) e = refl
storage_seen known ck (statement.Assign a) (statement.Block b) e = absurd (cc)
storage_seen known ck (statement.Block a) (statement.Assert b) e = absurd (cc)
storage_seen known ck (statement.Block a) (statement.Assign b) e = absurd (cc)
storage_seen known None (statement.Block a) (statement.Block b) e = refl
storage_seen known (Some text) (statement.Block a) (statement.Block b) e =
    let same : block_view a ≡ block_view b = cc in
    let guards : view a.guard ≡ view b.guard = ap (λ (t : BlockTree). t.guard) same in
    let all : in_assignments (assignment_definitions known) a.assignments ≡ in_assignments (assignment_definitions known) b.assignments =
    assignments_seen known a.assignments b.assignments (ap (λ (t : BlockTree). t.assignments) same) in
    ap (λ (g : Tree). stored (enable_of known text g) (in_assignments (assignment_definitions known) a.assignments)) guards
    ∙ ap (λ (ds : List Definition). stored (enable_of known text (view b.guard)) ds) all

in_source : {K A : Type 0} (key : DesignFile → K) (look : K → Statement → List A) → SeenBy source_view key
    → ((k : K) → SeenBy statement_view (look k)) → SeenBy source_view (λ design. in_statements (look (key design)) design.statements)
in_source key look keyed seen a b e =
    ap (λ k. in_statements (look k) a.statements) (keyed a b e)
    ∙ of_each statement_view (λ s xs. look (key b) s ++ xs) (in_statements (look (key b))) (λ s rest. refl)
    (λ s t same. ap (λ found. λ xs. found ++ xs) (seen (key b) s t same))
    a.statements b.statements (ap (λ (t : SourceTree). t.statements) e)

definitions_alike : SeenBy source_view definitions
definitions_alike = in_source symbols statement_definitions symbols_alike definitions_seen

clock_alike : SeenBy source_view clock_text
clock_alike a b e = ap first_text (in_source symbols statement_clocks symbols_alike clocks_seen a b e)

storage_alike : SeenBy source_view storage
storage_alike =
    in_source (λ design. (symbols design, clock_text design)) (λ (k : List Symbol × Option (List ℕ)). statement_storage k.0 k.1)
    (of_both source_view (λ known ck. (known, ck)) symbols clock_text symbols_alike clock_alike) (λ k. storage_seen k.0 k.1)

-- ---- the machines

-- Two machines with the same parts, whose equations are the same bits in two orders, and whose registers are the same bits in one
-- order, each over its own numbers.
pub record AreOfOne (m k : Machine) : Type 0 where
  pub parts : HaveSameParts m k
  pub first : IsChecked m
  pub second : IsChecked k
  pub driven : List Definition
  pub equations : IsPermutation m.equations (map (equation_over m.vars) driven)
  pub other_equations : IsPermutation k.equations (map (equation_over k.vars) driven)
  pub kept : List Storage
  pub registers : m.registers ≡ map (register_over m.vars) kept
  pub other_registers : k.registers ≡ map (register_over k.vars) kept

kept_names : (vars : List Name) (rs : List Storage) → map (λ (r : Register). r.name) (map (register_over vars) rs) ≡ map (λ (r : Storage). r.name) rs
kept_names vars [] = refl
kept_names vars (r ∷ rs) = ap (λ (ns : List Name). r.name ∷ ns) (kept_names vars rs)

kept_order : (m : Machine) (rs : List Storage) → m.registers ≡ map (register_over m.vars) rs → AreInOrder (register_names m)
    → AreInOrder (map (λ (r : Storage). r.name) rs)
kept_order m rs is order = subst AreInOrder (ap (map (λ (r : Register). r.name)) is ∙ kept_names m.vars rs) order

pub of_one : MachinesHaveTheSameParts → (bytes : List ℕ) (m k : Machine) → IsVbe bytes m → IsVbe bytes k → AreOfOne m k
of_one parts bytes m k is of =
    let same : source_view of.design ≡ source_view is.design = written_once bytes of.design is.design of.written is.written in
    let all : List Storage = storage is.design in
    let moved : IsPermutation k.registers (map (register_over k.vars) all) =
    subst (λ (rs : List Storage). IsPermutation k.registers (map (register_over k.vars) rs)) (storage_alike of.design is.design same) of.machine.registers in
    let p : Moved (register_over m.vars) all m.registers = moved_map (register_over m.vars) all m.registers is.machine.registers in
    let q : Moved (register_over k.vars) all k.registers = moved_map (register_over k.vars) all k.registers moved in
    let one : q.items ≡ p.items =
    one_order (λ (r : Storage). r.name) all q.items p.items (IsPermutation-sym all q.items q.order) (IsPermutation-sym all p.items p.order)
    (kept_order k q.items q.is of.machine.checked.registers) (kept_order m p.items p.is is.machine.checked.registers) in
    record {
      parts = parts bytes m k is of;
      first = is.machine.checked;
      second = of.machine.checked;
      driven = definitions is.design;
      equations = is.machine.equations;
      other_equations =
          subst (λ (ds : List Definition). IsPermutation k.equations (map (equation_over k.vars) ds)) (definitions_alike of.design is.design same)
          of.machine.equations;
      kept = p.items;
      registers = p.is;
      other_registers = q.is ∙ ap (map (register_over k.vars)) one;
    }
