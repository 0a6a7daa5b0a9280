-- The text of every circuit is within the limits of texts.
use Rattle.std.proofs.Common.{◌≡◌, ℕ, suc, ◌+◌, ◌-◌, ◌≤◌, not, List, ◌++◌, map, length, codes, Option, None, Some, length-append, refl, arith}
use Rattle.std.specs.List.{All}
use Rattle.std.proofs.lemmas.List.{length-map}
use Rattle.std.proofs.lemmas.List.Elements.{All-append, All-map, All-weaker}
use Rattle.std.proofs.lemmas.List.Filters.{length-filter_both}
use Rattle.vlsi_base.specs.declared.name.Name.{Name}
use Rattle.vlsi_base.specs.Names.{scalar}
use Rattle.vlsi_base.specs.Range.{rising}
use Rattle.bool_expr.specs.declared.expr.Gate.{Gate}
use Rattle.bool_expr.specs.Expression.{variable, pair}
use Rattle.machine_core.specs.Machine.{Equation, outputs}
use Rattle.machine_core.specs.Order.{equation_names}
use Rattle.grammar_theory.specs.declared.limits.TheConstants.{DEPTH, CHAIN}
use Rattle.vhdl_print.specs.Outline.{entity_layout}
use Rattle.vst_print.specs.Groups.{outline}
use Rattle.vst_print.specs.Structure.{signals_layout, begin_layout}
use Rattle.text_names.proofs.Enough.{are_free}
use Rattle.vst_print.specs.Says.{IsShort, IsSmall, IsSmallPort}
use Rattle.vbe_print.specs.Expressions.{name_of}
use Rattle.vbe_print.specs.Written.{is_output, inner_count, taken_texts, signal_texts, written_names, written_vars, with_supply_ports, head_layout, registers_layout, equations_layout, storage_layout, last_layout, layout_by}
use Rattle.vbe_print.specs.Nesting.{bit_within, shape_of, operand_within, IsWithin, IsValueWithin}
use Rattle.vbe_print.specs.Said.{text_by, operators, IsFewValues, IsWithinLimitsBy}
use Rattle.vbe_print.proofs.Known.{all_in, any_in, renamed_all}
use Rattle.gen_circuit.specs.Generated.{clock, four_bits, ports, kind, gates, output, register, circuit_by}
use Rattle.gen_circuit.proofs.Named.{each_all}
use Rattle.gen_circuit.proofs.Checking.{length_gates}
use Rattle.gen_circuit.proofs.Lengths.{by_equations, by_registers, size, size_both, IsBrief, scalar_brief, four_brief, texts_brief, signals_size, IsShortValue, name_short, gate_short, equations_size, blocks_size, entity_size, stored_size}

-- ---- parentheses and operators

bit_fits : (o : Option ℕ) (n : ℕ) → bit_within o (suc n)
bit_fits None n = tt
bit_fits (Some k) n = tt

value_nested : (vars : List Name) (g : Gate) (a b : ℕ) → IsValueWithin vars (pair g (variable a) (variable b)) DEPTH
value_nested vars g a b = (bit_fits (name_of vars a).bit 255, bit_fits (name_of vars b).bit 255)

name_nested : (vars : List Name) (a : ℕ) → IsValueWithin vars (variable a) DEPTH
name_nested vars a = bit_fits (name_of vars a).bit 255

value_few : (g : Gate) (a b : ℕ) → IsFewValues (pair g (variable a) (variable b))
value_few g a b = (omega arith, omega arith)

name_few : (a : ℕ) → IsFewValues (variable a)
name_few a = (omega arith, omega arith)

-- ---- how many there are

pub length_equations : (ws : List ℕ) (size : ℕ) → length (circuit_by ws size).equations ≡ length ws + 4
length_equations ws size =
    let a = length-append (gates 0 ws) (map (output size) (rising 0 4)) in
    let b = length_gates 0 ws in
    omega (arith, a, b)

inner_few : (ws : List ℕ) (size : ℕ) → inner_count (circuit_by ws size) ≤ length ws + 4
inner_few ws size =
    let m = circuit_by ws size in
    let both = length-filter_both (λ name. not (is_output m name)) (λ name. not (not (is_output m name))) (λ x. refl) (equation_names m) in
    let names = length-map m.equations (λ (e : Equation). e.name) in
    let es = length_equations ws size in
    omega (arith, both, names, es)

taken_few : (ws : List ℕ) (size : ℕ) → length (taken_texts (circuit_by ws size)) ≡ 13
taken_few ws size = refl

signals_each : (ws : List ℕ) (size : ℕ) → length ws ≤ 4000 → length (signal_texts (codes "g") (circuit_by ws size)) ≡ inner_count (circuit_by ws size)
signals_each ws size few =
    let m = circuit_by ws size in
    let inner = inner_few ws size in
    let taken = taken_few ws size in
    (are_free (codes "g") (taken_texts m) (inner_count m) (omega (arith, inner, taken, few))).each

signals_brief : (ws : List ℕ) (size : ℕ) → length ws ≤ 4000 → All (λ t. length t ≤ 11) (signal_texts (codes "g") (circuit_by ws size))
signals_brief ws size few =
    let m = circuit_by ws size in
    let inner = inner_few ws size in
    let taken = taken_few ws size in
    texts_brief (taken_texts m) (inner_count m) (omega (arith, inner, taken, few))

names_brief : (ws : List ℕ) (size : ℕ) → length ws ≤ 4000 → All IsBrief (written_names (codes "g") (circuit_by ws size))
names_brief ws size few =
    let m = circuit_by ws size in
    let each = signals_each ws size few in
    let mapped = length-map (signal_texts (codes "g") m) scalar in
    renamed_all IsBrief (is_output m) (equation_names m) (map scalar (signal_texts (codes "g") m))
    (λ n e. all_in IsBrief (four_bits (codes "y")) (four_brief (codes "y") (omega arith)) n (any_in (outputs m) n e))
    (All-map IsBrief scalar (signal_texts (codes "g") m) (All-weaker (λ t. length t ≤ 11) (λ t. IsBrief (scalar t)) scalar_brief (signal_texts (codes "g") m) (signals_brief ws size few)))
    (omega (arith, each, mapped))

vars_brief : (ws : List ℕ) (size : ℕ) → length ws ≤ 4000 → All IsBrief (written_vars (codes "g") (circuit_by ws size))
vars_brief ws size few =
    All-append IsBrief (four_bits (codes "x")) (four_bits (codes "r") ++ written_names (codes "g") (circuit_by ws size)) (four_brief (codes "x") (omega arith))
    (All-append IsBrief (four_bits (codes "r")) (written_names (codes "g") (circuit_by ws size)) (four_brief (codes "r") (omega arith)) (names_brief ws size few))

-- ---- the whole text

text_short : (ws : List ℕ) (n : ℕ) → length ws ≤ 4000 → length (text_by (codes "g") (circuit_by ws n)) ≤ 1048576
unfolding layout_by
text_short ws n few =
    let m = circuit_by ws n in
    let vars = vars_brief ws n few in
    let A = entity_layout (outline (codes "gen") (with_supply_ports ports)) in
    let B = head_layout (codes "gen") in
    let C = signals_layout (signal_texts (codes "g") m) in
    let D = registers_layout (four_bits (codes "r")) in
    let F = equations_layout (written_vars (codes "g") m) (written_names (codes "g") m) m.equations in
    let G = storage_layout (written_vars (codes "g") m) (Some clock) (map (register n) (rising 0 4)) in
    let a = size_both A (B ++ (C ++ (D ++ (begin_layout ++ (F ++ (G ++ last_layout)))))) in
    let b = size_both B (C ++ (D ++ (begin_layout ++ (F ++ (G ++ last_layout))))) in
    let c = size_both C (D ++ (begin_layout ++ (F ++ (G ++ last_layout)))) in
    let d = size_both D (begin_layout ++ (F ++ (G ++ last_layout))) in
    let e = size_both begin_layout (F ++ (G ++ last_layout)) in
    let f = size_both F (G ++ last_layout) in
    let g = size_both G last_layout in
    let entity = entity_size in
    let stored = stored_size in
    let head : size B ≡ 34 = refl in
    let begin : size begin_layout ≡ 6 = refl in
    let last : size last_layout ≡ 15 = refl in
    let signals = signals_size (signal_texts (codes "g") m) (signals_brief ws n few) in
    let equations = equations_size (written_vars (codes "g") m) (written_names (codes "g") m) m.equations (names_brief ws n few)
    (by_equations (IsShortValue (written_vars (codes "g") m)) (λ w a b. gate_short (written_vars (codes "g") m) vars (kind w) a b) (name_short (written_vars (codes "g") m) vars) ws n) in
    let blocks = blocks_size (written_vars (codes "g") m) vars n in
    let inner = inner_few ws n in
    let each = signals_each ws n few in
    let many = length_equations ws n in
    let all : length (text_by (codes "g") m) ≡ size (A ++ (B ++ (C ++ (D ++ (begin_layout ++ (F ++ (G ++ last_layout))))))) = refl in
    omega (arith, a, b, c, d, e, f, g, entity, head, stored, begin, last, signals, equations, blocks, inner, each, many, all, few)

pub within_limits : (ws : List ℕ) (n : ℕ) → length ws ≤ 4000 → IsWithinLimitsBy (codes "g") (circuit_by ws n)
within_limits ws n few =
    let m = circuit_by ws n in
    let vars = written_vars (codes "g") m in
    record {
      name = omega arith;
      ports = each_all IsSmallPort ports (
        (omega arith, tt),
        (
          (omega arith, omega arith),
          (
            (omega arith, omega arith),
            (
              (omega arith, omega arith),
              (
                (omega arith, omega arith),
                ((omega arith, omega arith), ((omega arith, omega arith), ((omega arith, omega arith), ((omega arith, omega arith), tt)))),
              ),
            ),
          ),
        ),
      );
      registers = by_registers (λ r. IsShort r.name.text × IsSmall r.name.bit) (λ t small a. (omega arith, omega (arith, small))) n;
      bits = let inner = inner_few ws n in omega (arith, inner, few);
      nested = by_equations (λ e. IsValueWithin vars e DEPTH) (λ w a b. value_nested vars (kind w) a b) (name_nested vars) ws n;
      values = by_equations IsFewValues (λ w a b. value_few (kind w) a b) name_few ws n;
      loads_nested = by_registers (λ r. IsValueWithin vars r.next DEPTH) (λ t small a. name_nested vars a) n;
      loads = by_registers (λ r. IsFewValues r.next) (λ t small a. name_few a) n;
      guards_nested = by_registers (λ r. operand_within (shape_of vars r.enable) (IsWithin vars r.enable) (DEPTH - 2)) (λ t small a. tt) n;
      guards = by_registers (λ r. 4 + operators r.enable ≤ CHAIN) (λ t small a. omega arith) n;
      few_ports = omega arith;
      short = text_short ws n few;
    }
