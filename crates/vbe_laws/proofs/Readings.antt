-- Two readings of one text have the same machines: they differ in where the expressions lie in memory alone.
use Rattle.std.proofs.Common.{◌≡◌, ℕ, List, ◌++◌, map, Option, None, Some, refl, ap, ◌∙◌, subst}
use Rattle.std.specs.Prelude.{option_map}
use Rattle.std.specs.List.Sorted.{IsPermutation}
use Rattle.vlsi_base.specs.Tree.{Tree, view}
use Rattle.vlsi_base.specs.declared.name.Name.{Name}
use Rattle.machine_core.specs.Machine.{Machine, Equation, Register}
use Rattle.source_checks.specs.declared.statement.Statement.{Statement}
use Rattle.source_checks.specs.declared.statement.Statement.TheVariants as statement
use Rattle.source_checks.specs.declared.statement.DesignFile.{DesignFile}
use Rattle.source_checks.specs.declared.symbol_table.Symbol.{Symbol}
use Rattle.source_checks.specs.Symbols.{symbols, scalar}
use Rattle.source_checks.specs.Places.{in_assignments, in_statements}
use Rattle.source_checks.specs.Formula.{numbered}
use Rattle.source_checks.specs.Clock.{statement_clocks, first_text, clock_text, enable_of}
use Rattle.source_checks.specs.Elaboration.{Definition, Storage, assignment_definitions, stored, statement_definitions, statement_storage, definitions, storage, port_bits, IsMachineOf}
use Rattle.vbe_text.specs.Source.{SourceTree, BlockTree, assignment_view, block_view, statement_view, source_view, assigned}
use Rattle.vbe_io.specs.Text.{IsVbe}
use Rattle.vbe_io.proofs.Views.{SeenBy, of_both, of_each}
use Rattle.vbe_io.proofs.AlikeStatements.{clocks_seen, definitions_seen}
use Rattle.vbe_io.proofs.AlikeSources.{symbols_alike}
use Rattle.vbe_io.proofs.Once.{written_once}

-- an equation and a register of a machine with these names
abbrev pub equation_over : List Name → Definition → Equation
equation_over vars d = record { name = d.name; expr = numbered vars d.formula }

abbrev pub register_over : List Name → Storage → Register
register_over vars r = record { name = r.name; next = numbered vars r.next; enable = numbered vars r.enable }

-- ---- blocks

assignment_seen : (known : List Symbol) → SeenBy assignment_view (assignment_definitions known)
assignment_seen known a b e = definitions_seen known (statement.Assign a) (statement.Assign b) (ap assigned e)

assignments_seen : (known : List Symbol) → SeenBy (map assignment_view) (in_assignments (assignment_definitions known))
assignments_seen known =
    of_each assignment_view (λ a xs. assignment_definitions known a ++ xs) (in_assignments (assignment_definitions known)) (λ a rest. refl)
    (λ a b e. ap (λ found. λ xs. found ++ xs) (assignment_seen known a b e))

storage_seen : (known : List Symbol) (ck : Option (List ℕ)) → SeenBy statement_view (statement_storage known ck)
storage_seen known ck (statement.Assert a) (statement.Assert b) e = refl
storage_seen known ck (statement.Assert a) (statement.Assign b) e = absurd (cc)
storage_seen known ck (statement.Assert a) (statement.Block b) e = absurd (cc)
storage_seen known ck (statement.Assign a) (statement.Assert b) e = absurd (cc)
storage_seen known ck (statement.Assign a) (statement.Assign b) e = refl
storage_seen known ck (statement.Assign a) (statement.Block b) e = absurd (cc)
storage_seen known ck (statement.Block a) (statement.Assert b) e = absurd (cc)
storage_seen known ck (statement.Block a) (statement.Assign b) e = absurd (cc)
storage_seen known None (statement.Block a) (statement.Block b) e = refl
storage_seen known (Some text) (statement.Block a) (statement.Block b) e =
    let same : block_view a ≡ block_view b = cc in
    let guards : view a.guard ≡ view b.guard = ap (λ (t : BlockTree). t.guard) same in
    let all : in_assignments (assignment_definitions known) a.assignments ≡ in_assignments (assignment_definitions known) b.assignments =
    assignments_seen known a.assignments b.assignments (ap (λ (t : BlockTree). t.assignments) same) in
    ap (λ (g : Tree). stored (enable_of known text g) (in_assignments (assignment_definitions known) a.assignments)) guards
    ∙ ap (λ (ds : List Definition). stored (enable_of known text (view b.guard)) ds) all

-- ---- whole texts

in_source : {K A : Type 0} (key : DesignFile → K) (look : K → Statement → List A) → SeenBy source_view key → ((k : K) → SeenBy statement_view (look k))
    → SeenBy source_view (λ design. in_statements (look (key design)) design.statements)
in_source key look keyed seen a b e =
    ap (λ k. in_statements (look k) a.statements) (keyed a b e)
    ∙ of_each statement_view (λ s xs. look (key b) s ++ xs) (in_statements (look (key b))) (λ s rest. refl) (λ s t same. ap (λ found. λ xs. found ++ xs) (seen (key b) s t same))
    a.statements b.statements (ap (λ (t : SourceTree). t.statements) e)

definitions_alike : SeenBy source_view definitions
definitions_alike = in_source symbols statement_definitions symbols_alike definitions_seen

clock_alike : SeenBy source_view clock_text
clock_alike a b e = ap first_text (in_source symbols statement_clocks symbols_alike clocks_seen a b e)

storage_alike : SeenBy source_view storage
storage_alike =
    in_source (λ design. (symbols design, clock_text design)) (λ (k : List Symbol × Option (List ℕ)). statement_storage k.0 k.1)
    (of_both source_view (λ known ck. (known, ck)) symbols clock_text symbols_alike clock_alike) (λ k. storage_seen k.0 k.1)

pub machine_alike : (a b : DesignFile) → source_view a ≡ source_view b → (m : Machine) → IsMachineOf a m → IsMachineOf b m
machine_alike a b same m is = record {
  checked = is.checked;
  name = is.name ∙ ap (λ (t : SourceTree). t.entity.name) same;
  ports = subst (λ (known : List Symbol). IsPermutation m.ports (port_bits known)) (symbols_alike a b same) is.ports;
  clock = is.clock ∙ ap (option_map scalar) (clock_alike a b same);
  equations = subst (λ (ds : List Definition). IsPermutation m.equations (map (equation_over m.vars) ds)) (definitions_alike a b same) is.equations;
  registers = subst (λ (rs : List Storage). IsPermutation m.registers (map (register_over m.vars) rs)) (storage_alike a b same) is.registers;
}

-- two machines of one text are machines of one reading of it
pub of_one_reading : (bytes : List ℕ) (m k : Machine) → (is : IsVbe bytes m) → IsVbe bytes k → IsMachineOf is.design k
of_one_reading bytes m k is of = machine_alike of.design is.design (written_once bytes of.design is.design of.written is.written) k of.machine
