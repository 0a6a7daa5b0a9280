-- The names of a machine that is read are few.
use Rattle.std.proofs.Common.{◌≡◌, ◌⊎◌, inl, inr, ℕ, ◌+◌, ◌≤◌, Bool, true, false, not, cond, List, [], ◌∷◌, length, map, filter, refl, ◌∙◌, ap, subst, arith, length-append}
use Rattle.std.proofs.lemmas.List.{length-map}
use Rattle.std.proofs.lemmas.List.Sorted.{length_permutation}
use Rattle.vlsi_base.specs.declared.name.Name.{Name}
use Rattle.vlsi_base.specs.declared.name.Port.{Port}
use Rattle.vlsi_base.specs.Member.{In, here, there, AllDifferent}
use Rattle.grammar_theory.specs.declared.limits.TheConstants.{BITS}
use Rattle.machine_core.specs.Machine.{Machine, Equation, Register, is_input, is_clock, input_ports, inputs, register_names}
use Rattle.machine_core.specs.Order.{held_names, equation_names}
use Rattle.source_checks.specs.Checks.{most_ports}
use Rattle.source_checks.specs.Symbols.{symbols, all_names}
use Rattle.source_checks.specs.Elaboration.{Definition, Storage, definitions, storage, port_bits}
use Rattle.vlsi_model.specs.Laid.{names_defined, names_stored}
use Rattle.vlsi_model.proofs.Stages.{no_fault}
use Rattle.vlsi_model.proofs.Bits.{bit_all}
use Rattle.vlsi_model.proofs.FineSources.{facts}
use Rattle.vlsi_model.proofs.Assembly.{equation_of, register_of, defined_is, stored_is}
use Rattle.vbe_io.specs.Text.{IsVbe}
use Rattle.vbe_laws.specs.FewNames.{SourceHasFewNames}
use Rattle.vbe_text.proofs.Counted.{declared_few}

-- ---- different names of a list

-- a list without one of its members
record Cut (x : Name) (ys : List Name) : Type 0 where
  pub rest : List Name
  pub many : length ys ≡ length rest + 1
  pub cases : (n : Name) → In n ys → (n ≡ x) ⊎ In n rest

head_cases : (n x : Name) (ys : List Name) → In n (x ∷ ys) → (n ≡ x) ⊎ In n ys
head_cases n x ys here = inl refl
head_cases n x ys (there i) = inr i

tail_cases : (n x y : Name) (rest ys : List Name) → ((m : Name) → In m ys → (m ≡ x) ⊎ In m rest) → In n (y ∷ ys) → (n ≡ x) ⊎ In n (y ∷ rest)
tail_cases n x y rest ys cases here = inr here
tail_cases n x y rest ys cases (there i) = elim (cases n i) [ inl e ↦ inl e | inr j ↦ inr (there j) ]

cut : (x : Name) (ys : List Name) → In x ys → Cut x ys
cut x [] i = elim i [ ]
cut x (y ∷ ys) here = record { rest = ys; many = omega arith; cases = λ n i. head_cases n x ys i }
cut x (y ∷ ys) (there i) =
    let r = cut x ys i in
    record { rest = y ∷ r.rest; many = omega (arith, r.many); cases = λ n j. tail_cases n x y r.rest ys r.cases j }

within : (xs ys : List Name) → AllDifferent xs → ((n : Name) → In n xs → In n ys) → length xs ≤ length ys
within [] ys d among = omega arith
within (x ∷ xs) ys d among =
    let r = cut x ys (among x here) in
    let rest = within xs r.rest d.1 (λ n i. elim (r.cases n (among n (there i))) [ inl is ↦ absurd (d.0 (subst (λ m. In m xs) is i)) | inr j ↦ j ]) in
    omega (arith, rest, r.many)

filter_less : {A : Type 0} (p : A → Bool) (xs : List A) → length (filter p xs) ≤ length xs
filter_less p [] = omega arith
filter_less p (x ∷ xs) = by (p x) (filter_less p xs) where
  by : (b : Bool) → length (filter p xs) ≤ length xs → length (cond b (x ∷ filter p xs) (filter p xs)) ≤ length (x ∷ xs)
  by true rest = omega (arith, rest)
  by false rest = omega (arith, rest)

-- ---- a machine that is read

few_ports : (source : List ℕ) (m : Machine) → IsVbe source m → length m.ports ≤ most_ports
few_ports source m is =
    let same = length_permutation m.ports (port_bits (symbols is.design)) is.machine.ports in
    let few = is.passes.few_ports in
    omega (arith, same, few)

few_equations : (source : List ℕ) (m : Machine) → IsVbe source m → length m.equations ≤ BITS
few_equations source m is =
    let f = facts is.design (no_fault is.design is.passes.no_fault) in
    let known = symbols is.design in
    let fit = within (names_defined (definitions is.design)) (all_names (symbols is.design)) f.defined_once
    (λ n i. let d = defined_is is.design f n i in bit_all (symbols is.design) n d.symbol d.bit) in
    let names = length-map (definitions is.design) (λ (d : Definition). d.name) in
    let all = length-map (definitions is.design) (equation_of m.vars) in
    let same = length_permutation m.equations (map (equation_of m.vars) (definitions is.design)) is.machine.equations in
    let few = declared_few _ is.design is.written.source in
    omega (arith, fit, names, all, same, few)

few_registers : (source : List ℕ) (m : Machine) → IsVbe source m → length m.registers ≤ BITS
few_registers source m is =
    let f = facts is.design (no_fault is.design is.passes.no_fault) in
    let fit = within (names_stored (storage is.design)) (all_names (symbols is.design)) f.stored_once
    (λ n i. let d = stored_is is.design f n i in bit_all (symbols is.design) n d.symbol d.bit) in
    let names = length-map (storage is.design) (λ (r : Storage). r.name) in
    let all = length-map (storage is.design) (register_of m.vars) in
    let same = length_permutation m.registers (map (register_of m.vars) (storage is.design)) is.machine.registers in
    let few = declared_few _ is.design is.written.source in
    omega (arith, fit, names, all, same, few)

few_inputs : (m : Machine) → length (inputs m) ≤ length m.ports
few_inputs m =
    let a = filter_less (λ name. not (is_clock m.clock name)) (input_ports m) in
    let b = length-map (filter (λ (p : Port). is_input p.dir) m.ports) (λ (p : Port). p.name) in
    let c = filter_less (λ (p : Port). is_input p.dir) m.ports in
    omega (arith, a, b, c)

held_long : (m : Machine) → length (held_names m) ≡ length (inputs m) + length m.registers
held_long m = length-append (inputs m) (register_names m) ∙ ap (λ n. length (inputs m) + n) (length-map m.registers (λ (r : Register). r.name))

pub source_has_few : SourceHasFewNames
source_has_few source m is =
    let ports = few_ports source m is in
    let equations = few_equations source m is in
    let registers = few_registers source m is in
    let inputs_few = few_inputs m in
    let held = held_long m in
    let named = length-map m.equations (λ (e : Equation). e.name) in
    let all = ap length is.machine.checked.ordered.vars ∙ length-append (held_names m) (equation_names m) in
    omega (arith, ports, equations, registers, inputs_few, held, named, all)
