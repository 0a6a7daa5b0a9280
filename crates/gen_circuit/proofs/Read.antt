-- What the text of a circuit is read as.
use Rattle.std.proofs.Common.{◌≡◌, ℕ, ◌+◌, ◌*◌, ◌<◌, ◌≤◌, List, [], ◌∷◌, ◌++◌, map, filter, length, fold, not, codes, inl, inr, Option, refl, sym, ap, subst, ◌∙◌, arith}
use Rattle.std.specs.List.{All}
use Rattle.std.specs.List.Sorted.{IsPermutation}
use Rattle.std.proofs.lemmas.List.{length-map, map-append}
use Rattle.std.proofs.lemmas.List.Elements.{All-head, All-tail, All-nil, All-cons}
use Rattle.std.proofs.lemmas.List.Sorted.{All-permutation, length_permutation, IsPermutation-sym}
use Rattle.rand_core.specs.Pcg32Seed.{pcg32_seed}
use Rattle.rand_pcg.specs.Pcg.{pcg32, pcg32_of_seed}
use Rattle.vlsi_base.specs.declared.name.Name.{Name}
use Rattle.vlsi_base.specs.declared.name.Port.{Port}
use Rattle.vlsi_base.specs.declared.entity.PortGroup.{PortGroup}
use Rattle.bool_expr.specs.Expression.{Expression, size_of}
use Rattle.machine_core.specs.Machine.{Machine, Equation, Register, is_input, names_of, register_names}
use Rattle.machine_core.specs.Size.{machine_size}
use Rattle.machine_core.specs.Order.{held_names}
use Rattle.machine_core.specs.Alike.{IsAlike}
use Rattle.vlsi_base.specs.Range.{rising}
use Rattle.vhdl_lexer.specs.Listing.{tokens_in}
use Rattle.source_checks.specs.declared.statement.DesignFile.{DesignFile}
use Rattle.source_checks.specs.declared.statement.Statement.{Statement}
use Rattle.source_checks.specs.declared.symbol_table.Symbol.{Symbol}
use Rattle.source_checks.specs.Symbols.{symbols, port_symbols, signal_symbols}
use Rattle.source_checks.specs.Places.{in_statements}
use Rattle.source_checks.specs.Clock.{statement_clocks, first_text, clock_text}
use Rattle.source_checks.specs.Elaboration.{Definition, Storage, statement_definitions, statement_storage, definitions, storage, IsMachineOf}
use Rattle.source_checks.specs.Formula.{numbered}
use Rattle.spell_theory.specs.Layout.{line_behind}
use Rattle.vhdl_print.specs.Outline.{OnePort, placed_port, placed_ports}
use Rattle.vbe_text.specs.Source.{SourceTree, StatementTree, statement_view, source_view}
use Rattle.vbe_text.proofs.Laws as text_laws
use Rattle.vst_print.specs.Groups.{Group, grouped, declared, outline_of}
use Rattle.vbe_print.specs.Written.{with_supply_ports, signal_texts, written_names, written_vars}
use Rattle.vbe_print.specs.Placed.{placed_signals, placed_groups, placed_storage, source_of}
use Rattle.vbe_print.specs.Said.{IsLetter}
use Rattle.vbe_print.proofs.Sentence.{written_is_a_sentence}
use Rattle.vbe_print.proofs.Whole.{declared_on, stored_on, begun_on, blocks_on}
use Rattle.vbe_print.proofs.Supplied.{supply_groups, groups_supplied}
use Rattle.vbe_print.proofs.Machines.{parts_of, some_declared, no_port_supply}
use Rattle.vbe_laws.proofs.RenamedTrees.{in_each, statements_each, clocks_at, definitions_at, storage_at, clocks_are, definitions_are, storage_is}
use Rattle.vbe_laws.proofs.Formulas.{value_formula}
use Rattle.vbe_laws.proofs.Stated.{AreStated}
use Rattle.vbe_laws.proofs.Rings.{definitions_of}
use Rattle.vbe_laws.proofs.Copies.{equation_over, register_over, stored_as}
use Rattle.vbe_laws.proofs.Declared.{port_symbol, stored_symbol, signal_symbol, on_lines, entity_symbols, signals_both, signals_on, stored_on as symbols_stored}
use Rattle.vbe_laws.proofs.Named.{IsGiven, port_groups, stored_groups, symbols_on, clock_of_text}
use Rattle.vbe_laws.proofs.Passing.{Stores, machine_stated, all_stated}
use Rattle.vbe_laws.proofs.Reading.{read_again_by, itself, not_refused}
use Rattle.vbe_laws.specs.EachText.{EachText}
use Rattle.gen_circuit.specs.Generated.{register, circuit_by, words_of, generated}
use Rattle.gen_circuit.specs.Written.{text, CircuitsCanBeWritten, IsReadAgain, CircuitsAreReadAgain}
use Rattle.gen_circuit.proofs.Checking.{is_checked, words_each}
use Rattle.gen_circuit.proofs.Weight.{kind_weight}
use Rattle.gen_circuit.proofs.Named.{each_all, can_be_vbe}
use Rattle.gen_circuit.proofs.Lengths.{by_equations}
use Rattle.gen_circuit.proofs.Long.{length_equations, within_limits}
use Rattle.gen_circuit.proofs.Own.{own_names, plain}

-- ---- what a text declares

-- the lines of ports, signals, registers, equations and blocks
abbrev ports_line : ℕ
ports_line = line_behind (line_behind 1)

abbrev signals_line : List ℕ → Machine → ℕ
signals_line stem m = declared_on 1 (parts_of stem m)

abbrev registers_line : List ℕ → Machine → ℕ
registers_line stem m = stored_on 1 (parts_of stem m)

abbrev equations_line : List ℕ → Machine → ℕ
equations_line stem m = begun_on 1 (parts_of stem m)

abbrev blocks_line : List ℕ → Machine → ℕ
blocks_line stem m = blocks_on 1 (parts_of stem m)

abbrev symbols_of : List ℕ → Machine → List Symbol
symbols_of stem m = symbols_on stem ports_line (signals_line stem m) (registers_line stem m) m

abbrev entity_of : List ℕ → List Group → List PortGroup
entity_of name gs = placed_port ports_line (outline_of name (map declared gs)).first ∷ placed_ports ports_line (outline_of name (map declared gs)).others

some_groups : (m : Machine) → 0 < length (map declared (port_groups m))
some_groups m = subst (λ (ps : List OnePort). 0 < length ps) (sym (map-append declared (grouped m.ports) supply_groups)) (some_declared m)

symbols_are : (m : Machine) (given : IsGiven m) → port_symbols (source_of given.limits.stem m).entity.ports ++ signal_symbols (source_of given.limits.stem m).declarations.signals ≡ symbols_of given.limits.stem m
symbols_are m given =
    let S = placed_signals (signals_line given.limits.stem m) (signal_texts given.limits.stem m) in
    let R = placed_groups (registers_line given.limits.stem m) (stored_groups m) in
    let G = on_lines port_symbol ports_line (port_groups m) in
    let supplied : grouped (with_supply_ports m.ports) ≡ port_groups m = groups_supplied m.ports (no_port_supply m given.checked) in
    let ports : port_symbols (source_of given.limits.stem m).entity.ports ≡ G =
    ap (λ (gs : List Group). port_symbols (entity_of m.name gs)) supplied ∙ entity_symbols ports_line m.name (port_groups m) (some_groups m) in
    let signals : signal_symbols (S ++ R) ≡ on_lines signal_symbol (signals_line given.limits.stem m) (signal_texts given.limits.stem m) ++ on_lines stored_symbol (registers_line given.limits.stem m) (stored_groups m) =
    signals_both S R ∙ ap (λ (xs : List Symbol). xs ++ signal_symbols R) (signals_on (signals_line given.limits.stem m) (signal_texts given.limits.stem m))
    ∙ ap (λ (xs : List Symbol). on_lines signal_symbol (signals_line given.limits.stem m) (signal_texts given.limits.stem m) ++ xs) (symbols_stored (registers_line given.limits.stem m) (stored_groups m)) in
    ap (λ (xs : List Symbol). xs ++ signal_symbols (S ++ R)) ports ∙ ap (λ (xs : List Symbol). G ++ xs) signals

-- ---- what it drives

module _ (m : Machine) (given : IsGiven m) (design : DesignFile) (same : source_view design ≡ source_of given.limits.stem m) where
  abbrev vars : List Name
  vars = held_names m ++ written_names given.limits.stem m

  known_is : symbols design ≡ symbols_of given.limits.stem m
  known_is = ap (λ (t : SourceTree). port_symbols t.entity.ports ++ signal_symbols t.declarations.signals) same ∙ symbols_are m given

  found : {A : Type 0} (look : List Symbol → Statement → List A) (of : List Symbol → StatementTree → List A) → ((known : List Symbol) (s : Statement) → look known s ≡ of known (statement_view s))
      → in_statements (look (symbols design)) design.statements ≡ in_each (of (symbols_of given.limits.stem m)) (source_of given.limits.stem m).statements
  found look of seen =
      ap (λ (known : List Symbol). in_statements (look known) design.statements) known_is
      ∙ statements_each (look (symbols_of given.limits.stem m)) (of (symbols_of given.limits.stem m)) (seen (symbols_of given.limits.stem m)) design.statements
      ∙ ap (λ (t : SourceTree). in_each (of (symbols_of given.limits.stem m)) t.statements) same

  abbrev ck : Option (List ℕ)
  ck = clock_of_text ports_line (signals_line given.limits.stem m) (registers_line given.limits.stem m) m given

  stores : Stores (symbols_of given.limits.stem m) ck (placed_storage (written_vars given.limits.stem m) (blocks_line given.limits.stem m) m.clock m.registers) (map (stored_as (written_vars given.limits.stem m)) m.registers) (register_names m)
  stores = machine_stated ports_line (signals_line given.limits.stem m) (registers_line given.limits.stem m) (equations_line given.limits.stem m) (blocks_line given.limits.stem m) m given

  stated : AreStated (symbols_of given.limits.stem m) ck (source_of given.limits.stem m).statements (definitions_of vars (written_names given.limits.stem m) m.equations) (map (stored_as vars) m.registers) (written_names given.limits.stem m ++ register_names m) stores.clocks
  stated = all_stated ports_line (signals_line given.limits.stem m) (registers_line given.limits.stem m) (equations_line given.limits.stem m) (blocks_line given.limits.stem m) m given stores

  clock_is : clock_text design ≡ ck
  clock_is = ap first_text (found statement_clocks clocks_at clocks_are ∙ stated.clocks) ∙ stores.first

  definitions_is : definitions design ≡ definitions_of vars (written_names given.limits.stem m) m.equations
  definitions_is = found statement_definitions definitions_at definitions_are ∙ stated.definitions

  storage_are : storage design ≡ map (stored_as vars) m.registers
  storage_are =
      ap (λ (c : Option (List ℕ)). in_statements (statement_storage (symbols design) c) design.statements) clock_is
      ∙ found (λ known. statement_storage known ck) (λ known. storage_at known ck) (λ known. storage_is known ck) ∙ stated.storage

  -- ---- of each equation and register that is read

  equations_have : (P : Equation → Type 0) (k : Machine) → IsMachineOf design k → All P (map (equation_over k.vars) (definitions_of vars (written_names given.limits.stem m) m.equations)) → All P k.equations
  equations_have P k is h =
      let moved : IsPermutation k.equations (map (equation_over k.vars) (definitions_of vars (written_names given.limits.stem m) m.equations)) =
      subst (λ (ds : List Definition). IsPermutation k.equations (map (equation_over k.vars) ds)) definitions_is is.equations in
      All-permutation P (map (equation_over k.vars) (definitions_of vars (written_names given.limits.stem m) m.equations)) k.equations
      (IsPermutation-sym k.equations (map (equation_over k.vars) (definitions_of vars (written_names given.limits.stem m) m.equations)) moved) h

  equations_each : (k : Machine) → IsMachineOf design k → length k.equations ≡ length (map (equation_over k.vars) (definitions_of vars (written_names given.limits.stem m) m.equations))
  equations_each k is =
      sym (length_permutation k.equations (map (equation_over k.vars) (definitions_of vars (written_names given.limits.stem m) m.equations))
      (subst (λ (ds : List Definition). IsPermutation k.equations (map (equation_over k.vars) ds)) definitions_is is.equations))

  registers_have : (P : Register → Type 0) (k : Machine) → IsMachineOf design k → All P (map (register_over k.vars) (map (stored_as vars) m.registers)) → All P k.registers
  registers_have P k is h =
      let R = map (register_over k.vars) (map (stored_as vars) m.registers) in
      let moved : IsPermutation k.registers R = subst (λ (rs : List Storage). IsPermutation k.registers (map (register_over k.vars) rs)) storage_are is.registers in
      All-permutation P R k.registers (IsPermutation-sym k.registers R moved) h

-- ---- weights

light_sum : {X : Type 0} (f : X → ℕ) (n : ℕ) (xs : List X) → All (λ x. f x ≤ 4) xs → fold (λ a x. a + f x) n xs ≤ n + 4 * length xs
light_sum f n [] h = omega arith
light_sum f n (x ∷ xs) h =
    let own = All-head (λ x. f x ≤ 4) x xs h in
    let rest = light_sum f (n + f x) xs (All-tail (λ x. f x ≤ 4) x xs h) in
    omega (arith, own, rest)

no_sum : {X : Type 0} (f : X → ℕ) (n : ℕ) (xs : List X) → All (λ x. f x ≡ 0) xs → fold (λ a x. a + f x) n xs ≡ n
no_sum f n [] h = refl
no_sum f n (x ∷ xs) h =
    let own = All-head (λ x. f x ≡ 0) x xs h in
    let rest = no_sum f (n + f x) xs (All-tail (λ x. f x ≡ 0) x xs h) in
    omega (arith, own, rest)

-- what holds of each equation under every name holds of what it is defined as
all_defined : (P : Expression → Type 0) (numbers vars names : List Name) (es : List Equation) → All (λ (e : Equation). P (numbered numbers (value_formula vars e.expr))) es
    → All (λ (e : Equation). P e.expr) (map (equation_over numbers) (definitions_of vars names es))
all_defined P numbers vars [] es h = All-nil (λ (e : Equation). P e.expr)
all_defined P numbers vars (n ∷ names) [] h = All-nil (λ (e : Equation). P e.expr)
all_defined P numbers vars (n ∷ names) (e ∷ es) h =
    let Q : Equation → Type 0 = λ x. P (numbered numbers (value_formula vars x.expr)) in
    All-cons (λ (x : Equation). P x.expr) (record { name = n; expr = numbered numbers (value_formula vars e.expr) }) (map (equation_over numbers) (definitions_of vars names es))
    (All-head Q e es h) (all_defined P numbers vars names es (All-tail Q e es h))

few_defined : (vars names : List Name) (es : List Equation) → length (definitions_of vars names es) ≤ length es
few_defined vars [] es = omega arith
few_defined vars (n ∷ names) [] = omega arith
few_defined vars (n ∷ names) (e ∷ es) = let h = few_defined vars names es in omega (arith, h)

abbrev weight_of : Register → ℕ
weight_of r = size_of r.next + size_of r.enable

light : (ws : List ℕ) (size : ℕ) (design : DesignFile) (k : Machine) → length ws ≤ 4000 → (given : IsGiven (circuit_by ws size)) → source_view design ≡ source_of given.limits.stem (circuit_by ws size) → IsMachineOf design k
    → IsAlike (circuit_by ws size) k → machine_size k ≤ 16384
light ws size design k few given same is alike =
    let m = circuit_by ws size in
    let vars = held_names m ++ written_names given.limits.stem m in
    let D = definitions_of vars (written_names given.limits.stem m) m.equations in
    let P : Expression → Type 0 = λ e. size_of e ≤ 4 in
    let each : All (λ (e : Equation). size_of e.expr ≤ 4) k.equations = equations_have m given design same (λ (e : Equation). size_of e.expr ≤ 4) k is
    (all_defined P k.vars vars (written_names given.limits.stem m) m.equations
    (by_equations (λ e. P (numbered k.vars (value_formula vars e))) (λ w a b. (let h = kind_weight w in omega (arith, h))) (λ a. omega arith) ws size)) in
    let stored : All (λ (r : Register). weight_of r ≡ 0) k.registers = registers_have m given design same (λ (r : Register). weight_of r ≡ 0) k is
    (each_all (λ (r : Register). weight_of r ≡ 0) (map (register_over k.vars) (map (stored_as vars) (map (register size) (rising 0 4)))) (refl, (refl, (refl, (refl, tt))))) in
    let count = equations_each m given design same k is in
    let mapped = length-map D (equation_over k.vars) in
    let defined = few_defined vars (written_names given.limits.stem m) m.equations in
    let many = length_equations ws size in
    let sum = light_sum (λ (e : Equation). size_of e.expr) 0 k.equations each in
    let none = no_sum weight_of 0 k.registers stored in
    let outs : length (names_of (filter (λ (p : Port). not (is_input p.dir)) k.ports)) ≡ 4 = ap (λ (ps : List Port). length (names_of (filter (λ (p : Port). not (is_input p.dir)) ps))) alike.ports in
    let names : length (register_names k) ≡ 4 = ap (λ (ns : List Name). length ns) alike.registers in
    let registers = length-map k.registers (λ (r : Register). r.name) in
    omega (arith, count, mapped, defined, many, sum, none, outs, names, registers, few)

-- ---- the laws

letter_g : IsLetter (codes "g")
letter_g = record { letter = 103; is = refl; small = refl }

is_read_again : EachText → (ws : List ℕ) (size : ℕ) → length ws ≡ size → 8 ≤ size → size ≤ 4000 → IsReadAgain (circuit_by ws size)
is_read_again each_text ws size each least most =
    let m = circuit_by ws size in
    let checked = is_checked ws size each least most in
    let named = can_be_vbe ws size in
    let within = within_limits ws size (omega (arith, each, most)) in
    let given : IsGiven m = record { checked = checked; named = named; limits = record { stem = codes "g"; letter = letter_g; within = within } } in
    let again = read_again_by (codes "g") letter_g in
    let sentence = written_is_a_sentence (codes "g") m letter_g checked named within in
    record {
      itself = elim (each_text (text m)) [
        | inl k ↦ itself m k.0 given (own_names ws size) (plain ws size) k.1
        | inr e ↦ absurd (not_refused m e.0 given e.1)
      ];
      alike = λ k is. again.is m k checked named within is;
      light = λ k is.
          light ws size is.design k (omega (arith, each, most)) given
          (text_laws.one_source (tokens_in (text m)) (source_view is.design) (source_of (codes "g") m) is.written.source sentence.1) is.machine
          (again.is m k checked named within is);
      accepted = λ e r. again.accepted m e checked named within r;
    }

pub circuits_can_be_written : CircuitsCanBeWritten
unfolding generated
circuits_can_be_written seed size least most =
    let ws = words_of seed size in
    let each = words_each pcg32 size (pcg32_of_seed (pcg32_seed 16 seed)) in
    (can_be_vbe ws size, within_limits ws size (omega (arith, each, most)))

pub circuits_are_read_again : EachText → CircuitsAreReadAgain
unfolding generated
circuits_are_read_again each_text seed size least most = is_read_again each_text (words_of seed size) size (words_each pcg32 size (pcg32_of_seed (pcg32_seed 16 seed))) least most
