-- Sizes of machines of one reading: the numbers of names weigh nothing.
use Rattle.std.proofs.Common.{◌≡◌, ℕ, ◌+◌, ◌*◌, List, [], ◌∷◌, map, length, refl, sym, ap, ◌∙◌, arith}
use Rattle.std.specs.Prelude.{sum_by, filter, not}
use Rattle.std.proofs.lemmas.List.{length-map}
use Rattle.std.proofs.lemmas.List.Sums.{sum_by-cons}
use Rattle.std.proofs.lemmas.List.Sorted.{sum_by-IsPermutation}
use Rattle.vlsi_base.specs.declared.name.Name.{Name}
use Rattle.vlsi_base.specs.declared.name.Port.{Port}
use Rattle.bool_expr.specs.Expression.{size_of, gate_size}
use Rattle.machine_core.specs.Machine.{Machine, Equation, Register, names_of, is_input}
use Rattle.machine_core.specs.Size.{machine_size}
use Rattle.source_checks.specs.declared.statement.DesignFile.{DesignFile}
use Rattle.source_checks.specs.Formula.{Formula, fixed, named, opposite, joined, chosen, numbered}
use Rattle.source_checks.specs.Elaboration.{Definition, Storage, definitions, storage, IsMachineOf}
use Rattle.vbe_laws.proofs.Readings.{equation_over, register_over}
use Rattle.vbe_laws.proofs.Parts.{same_ports, same_storage, same_registers}

same_size : (vars others : List Name) (f : Formula) → size_of (numbered vars f) ≡ size_of (numbered others f)
same_size vars others (fixed b) = refl
same_size vars others (named n) = refl
same_size vars others (opposite e) = ap (λ n. 1 + n) (same_size vars others e)
same_size vars others (joined g a b) =
    ap (λ n. gate_size g + (n + size_of (numbered vars b))) (same_size vars others a)
    ∙ ap (λ n. gate_size g + (size_of (numbered others a) + n)) (same_size vars others b)
same_size vars others (chosen c a b) =
    let first = same_size vars others c in
    let second = same_size vars others a in
    let third = same_size vars others b in
    omega (arith, first, second, third)

sum_by_mapped : {A B : Type 0} (f : A → B) (w : B → ℕ) (v : A → ℕ) → ((x : A) → w (f x) ≡ v x) → (xs : List A) → sum_by w (map f xs) ≡ sum_by v xs
sum_by_mapped f w v same [] = refl
sum_by_mapped f w v same (x ∷ xs) =
    let one = same x in
    let rest = sum_by_mapped f w v same xs in
    sum_by-cons w (f x) (map f xs) ∙ ap (λ n. n + sum_by w (map f xs)) one ∙ ap (λ n. v x + n) rest ∙ sym (sum_by-cons v x xs)

abbrev definition_size : Definition → ℕ
definition_size d = size_of (numbered [] d.formula)

abbrev storage_size : Storage → ℕ
storage_size r = size_of (numbered [] r.next) + size_of (numbered [] r.enable)

abbrev equation_size : Equation → ℕ
equation_size e = size_of e.expr

abbrev register_size : Register → ℕ
register_size r = size_of r.next + size_of r.enable

equations_weigh : (design : DesignFile) (m : Machine) → IsMachineOf design m → sum_by equation_size m.equations ≡ sum_by definition_size (definitions design)
equations_weigh design m is =
    sym (sum_by-IsPermutation equation_size m.equations (map (equation_over m.vars) (definitions design)) is.equations)
    ∙ sum_by_mapped (equation_over m.vars) equation_size definition_size (λ d. same_size m.vars [] d.formula) (definitions design)

registers_weigh : (design : DesignFile) (m : Machine) → IsMachineOf design m → sum_by register_size m.registers ≡ sum_by storage_size (storage design)
registers_weigh design m is =
    sym (sum_by-IsPermutation register_size m.registers (map (register_over m.vars) (storage design)) is.registers)
    ∙ sum_by_mapped (register_over m.vars) register_size storage_size
    (λ r. ap (λ n. n + size_of (numbered m.vars r.enable)) (same_size m.vars [] r.next) ∙ ap (λ n. size_of (numbered [] r.next) + n) (same_size m.vars [] r.enable))
    (storage design)

weight : ℕ → ℕ → ℕ → ℕ → ℕ
weight a b c d = a + b + 2 * c + 5 * d

same_weight : {a b c d a' b' c' d' : ℕ} → a ≡ a' → b ≡ b' → c ≡ c' → d ≡ d' → weight a b c d ≡ weight a' b' c' d'
same_weight p q r s = cc

pub same_machine_size : (design : DesignFile) (m k : Machine) → IsMachineOf design m → IsMachineOf design k → machine_size m ≡ machine_size k
unfolding weight
same_machine_size design m k is of =
    let s = same_storage design m k is of in
    same_weight
    (equations_weigh design m is ∙ sym (equations_weigh design k of))
    (registers_weigh design m is ∙ sym (registers_weigh design k of))
    (ap (λ (ps : List Port). length (names_of (filter (λ p. not (is_input p.dir)) ps))) (same_ports design m k is of))
    (sym (length-map m.registers (λ (r : Register). r.name)) ∙ ap (λ (ns : List Name). length ns) (same_registers m k s) ∙ length-map k.registers (λ (r : Register). r.name))
