-- Texts that leave something free: none is both a machine and refused, and the names of each machine are few.
use Rattle.std.proofs.Common.{◌≡◌, ◌⊎◌, inl, inr, ℕ, ◌+◌, ◌≤◌, Bool, true, false, not, cond, List, [], ◌∷◌, ◌++◌, length, map, filter, Option, None, Some, refl, sym, ◌∙◌, ap, subst, arith, length-append}
use Rattle.std.proofs.lemmas.List.{length-map}
use Rattle.std.proofs.lemmas.List.Sorted.{length_permutation}
use Rattle.vlsi_base.specs.declared.name.Name.{Name}
use Rattle.vlsi_base.specs.declared.name.Port.{Port}
use Rattle.vlsi_base.specs.declared.fault.ReadError.{ReadError}
use Rattle.vlsi_base.specs.Member.{In, here, there, AllDifferent}
use Rattle.grammar_theory.specs.declared.limits.TheConstants.{BITS}
use Rattle.machine_core.specs.Machine.{Machine, Equation, Register, is_input, is_clock, input_ports, inputs, register_names}
use Rattle.machine_core.specs.Order.{held_names, equation_names}
use Rattle.source_checks.specs.Checks.{most_ports}
use Rattle.source_checks.specs.declared.statement.DesignFile.{DesignFile}
use Rattle.source_checks.specs.declared.symbol_table.Symbol.{Symbol}
use Rattle.source_checks.specs.Symbols.{symbols, port_symbols, signal_symbols, all_names}
use Rattle.source_checks.specs.Elaboration.{Definition, Storage, definitions, storage, port_bits}
use Rattle.vlsi_model.specs.Laid.{names_defined, names_stored}
use Rattle.vlsi_model.proofs.SourceBits.{sound}
use Rattle.vlsi_model.proofs.Assembly.{equation_of, register_of}
use Rattle.vlsi_model.proofs.Building.{defined_declared, stored_declared}
use Rattle.vhdl_lexer.specs.Listing.{tokens_in}
use Rattle.vbe_text.specs.Source.{SourceTree, source_view}
use Rattle.vbe_text.proofs.Counted.{declared_few}
use Rattle.vbe_text.proofs.Laws as text
use Rattle.vbe_io.proofs.Once.{pass_or_fail}
use Rattle.vbe_io.proofs.AlikeSources.{symbols_alike, refused_alike}
use Rattle.machine_free.specs.declared.machine.FreeMachine.{FreeMachine}
use Rattle.vbe_free.specs.Tokens.{with_operands}
use Rattle.vbe_free.specs.Filled.{filled, free_forms}
use Rattle.vbe_free.specs.Text.{IsFreeVbe, IsFaulty, placed, misplaced, RefusedFree, unwritten, faulty}
use Rattle.vbe_free.specs.Laws.{FreeSourceHasFewNames, FreeSourceHasFewPorts, NeverBothFree}

-- ---- machines and refusals

pub never_both : NeverBothFree
never_both bytes m e is (unwritten not) = text.never_both (with_operands (tokens_in bytes)) (source_view is.text) e is.written not
never_both bytes m e is (faulty source low written zeros why) = by why where
  same : source ≡ source_view is.text
  same = text.one_source (with_operands (tokens_in bytes)) source (source_view is.text) written is.written

  alike : source_view low ≡ source_view is.low
  alike = zeros ∙ ap (filled false) same ∙ sym is.zeros

  by : IsFaulty source low e → ⊥
  by (placed none refused) = pass_or_fail is.low e is.passes (refused_alike low is.low alike e refused)
  by (misplaced line more some found) =
      let none : free_forms (symbols low) source ≡ [] = ap (λ (k : List Symbol). free_forms k source) (symbols_alike low is.low alike) ∙ ap (free_forms (symbols is.low)) same ∙ is.placed in
      let both : line ∷ more ≡ [] = sym some ∙ none in absurd cc

-- ---- different names of a list

-- a list without one of its members
record Cut (x : Name) (ys : List Name) : Type 0 where
  pub rest : List Name
  pub many : length ys ≡ length rest + 1
  pub cases : (n : Name) → In n ys → (n ≡ x) ⊎ In n rest

head_cases : (n x : Name) (ys : List Name) → In n (x ∷ ys) → (n ≡ x) ⊎ In n ys
head_cases n x ys here = inl refl
head_cases n x ys (there i) = inr i

tail_cases : (n x y : Name) (rest ys : List Name) → ((m : Name) → In m ys → (m ≡ x) ⊎ In m rest) → In n (y ∷ ys) → (n ≡ x) ⊎ In n (y ∷ rest)
tail_cases n x y rest ys cases here = inr here
tail_cases n x y rest ys cases (there i) = elim (cases n i) [ inl e ↦ inl e | inr j ↦ inr (there j) ]

cut : (x : Name) (ys : List Name) → In x ys → Cut x ys
cut x [] i = elim i [ ]
cut x (y ∷ ys) here = record { rest = ys; many = omega arith; cases = λ n i. head_cases n x ys i }
cut x (y ∷ ys) (there i) =
    let r = cut x ys i in
    record { rest = y ∷ r.rest; many = omega (arith, r.many); cases = λ n j. tail_cases n x y r.rest ys r.cases j }

within : (xs ys : List Name) → AllDifferent xs → ((n : Name) → In n xs → In n ys) → length xs ≤ length ys
within [] ys d among = omega arith
within (x ∷ xs) ys d among =
    let r = cut x ys (among x here) in
    let rest = within xs r.rest d.1 (λ n i. elim (r.cases n (among n (there i))) [ inl is ↦ absurd (d.0 (subst (λ m. In m xs) is i)) | inr j ↦ j ]) in
    omega (arith, rest, r.many)

filter_less : {A : Type 0} (p : A → Bool) (xs : List A) → length (filter p xs) ≤ length xs
filter_less p [] = omega arith
filter_less p (x ∷ xs) = by (p x) (filter_less p xs) where
  by : (b : Bool) → length (filter p xs) ≤ length xs → length (cond b (x ∷ filter p xs) (filter p xs)) ≤ length (x ∷ xs)
  by true rest = omega (arith, rest)
  by false rest = omega (arith, rest)

-- ---- a machine that is read

few_declared : (bytes : List ℕ) (m : FreeMachine) (is : IsFreeVbe bytes m) → length (all_names (symbols is.low)) ≤ BITS
few_declared bytes m is =
    let few = declared_few (with_operands (tokens_in bytes)) is.text is.written in
    subst (λ (t : SourceTree). length (all_names (port_symbols t.entity.ports ++ signal_symbols t.declarations.signals)) ≤ BITS) (sym is.zeros) few

pub few_ports : FreeSourceHasFewPorts
few_ports bytes m is =
    let same = length_permutation m.low.ports (port_bits (symbols is.low)) is.first.ports in
    let few = is.passes.few_ports in
    omega (arith, same, few)

few_equations : (bytes : List ℕ) (m : FreeMachine) → IsFreeVbe bytes m → length m.low.equations ≤ BITS
few_equations bytes m is =
    let f = sound is.low is.passes.no_fault in
    let fit = within (names_defined (definitions is.low)) (all_names (symbols is.low)) f.defined_once (defined_declared is.low f) in
    let names = length-map (definitions is.low) (λ (d : Definition). d.name) in
    let all = length-map (definitions is.low) (equation_of m.low.vars) in
    let same = length_permutation m.low.equations (map (equation_of m.low.vars) (definitions is.low)) is.first.equations in
    let few = few_declared bytes m is in
    omega (arith, fit, names, all, same, few)

few_registers : (bytes : List ℕ) (m : FreeMachine) → IsFreeVbe bytes m → length m.low.registers ≤ BITS
few_registers bytes m is =
    let f = sound is.low is.passes.no_fault in
    let fit = within (names_stored (storage is.low)) (all_names (symbols is.low)) f.stored_once (stored_declared is.low f) in
    let names = length-map (storage is.low) (λ (r : Storage). r.name) in
    let all = length-map (storage is.low) (register_of m.low.vars) in
    let same = length_permutation m.low.registers (map (register_of m.low.vars) (storage is.low)) is.first.registers in
    let few = few_declared bytes m is in
    omega (arith, fit, names, all, same, few)

few_inputs : (m : Machine) → length (inputs m) ≤ length m.ports
few_inputs m =
    let a = filter_less (λ name. not (is_clock m.clock name)) (input_ports m) in
    let b = length-map (filter (λ (p : Port). is_input p.dir) m.ports) (λ (p : Port). p.name) in
    let c = filter_less (λ (p : Port). is_input p.dir) m.ports in
    omega (arith, a, b, c)

held_long : (m : Machine) → length (held_names m) ≡ length (inputs m) + length m.registers
held_long m = length-append (inputs m) (register_names m) ∙ ap (λ n. length (inputs m) + n) (length-map m.registers (λ (r : Register). r.name))

pub has_few : FreeSourceHasFewNames
has_few bytes m is =
    let ports = few_ports bytes m is in
    let equations = few_equations bytes m is in
    let registers = few_registers bytes m is in
    let inputs_few = few_inputs m.low in
    let held = held_long m.low in
    let named = length-map m.low.equations (λ (e : Equation). e.name) in
    let all = ap length is.first.checked.ordered.vars ∙ length-append (held_names m.low) (equation_names m.low) in
    omega (arith, ports, equations, registers, inputs_few, held, named, all)
