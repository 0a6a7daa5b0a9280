-- How large a circuit is.
use Rattle.std.proofs.Common.{◌≡◌, ℕ, ◌+◌, ◌-◌, ◌*◌, ◌/◌, ◌%◌, ◌^◌, ◌==◌, ◌≤◌, Bool, true, false, List, [], ◌∷◌, ◌++◌, map, length, fold, nat_lt, refl, arith, if◌then◌else◌}
use Rattle.rand_core.specs.Pcg32Seed.{pcg32_seed}
use Rattle.rand_pcg.specs.Pcg.{pcg32, pcg32_of_seed}
use Rattle.vlsi_base.specs.Range.{rising}
use Rattle.bool_expr.specs.declared.expr.Gate.TheVariants as gate
use Rattle.bool_expr.specs.Expression.{variable, gate_size, size_of}
use Rattle.machine_core.specs.Machine.{Equation}
use Rattle.machine_core.specs.Size.{machine_size}
use Rattle.gen_circuit.specs.Generated.{of_gate, kind, choices, operand, gate_by, gates, output, circuit_by, words_of, generated}
use Rattle.gen_circuit.specs.Laws.{IsSmallFor, CircuitsAreSmall}
use Rattle.gen_circuit.proofs.Checking.{length_vars, words_each}

-- the weights of equations on top of some
abbrev pub weigh : ℕ → List Equation → ℕ
weigh n es = fold (λ a (e : Equation). a + size_of e.expr) n es

pub kind_weight : (w : ℕ) → gate_size (kind w) ≤ 4
kind_weight w = by (w % 4 == 0) (w % 4 == 1) (w % 4 == 2) where
  by : (a b c : Bool) → gate_size (if a then gate.Nand else if b then gate.Nor else if c then gate.Xor else gate.And) ≤ 4
  by true b c = omega arith
  by false true c = omega arith
  by false false true = omega arith
  by false false false = omega arith

-- an operand is a variable, and weighs nothing
operand_weight : (j n : ℕ) → size_of (operand j n) ≡ 0
operand_weight j n = by (nat_lt n 8) where
  by : (b : Bool) → size_of (if b then variable n else of_gate (j - 1 - (n - 8))) ≡ 0
  by true = refl
  by false = refl

gate_weight : (j w : ℕ) → size_of (gate_by j w).expr ≤ 4
gate_weight j w =
    let k = kind_weight w in
    let a = operand_weight j (w / 2 ^ 8 % choices j) in
    let b = operand_weight j (w / 2 ^ 20 % choices j) in
    omega (arith, k, a, b)

gates_weight : (j n : ℕ) (ws : List ℕ) (rest : List Equation) → ((k : ℕ) → weigh k rest ≡ k) → weigh n (gates j ws ++ rest) ≤ n + 4 * length ws
gates_weight j n [] rest none = let e = none n in omega (arith, e)
gates_weight j n (w ∷ ws) rest none =
    let h = gates_weight (j + 1) (n + size_of (gate_by j w).expr) ws rest none in
    let g = gate_weight j w in
    omega (arith, h, g)

outputs_weight : (size k : ℕ) → weigh k (map (output size) (rising 0 4)) ≡ k
outputs_weight size k = omega arith

small : (ws : List ℕ) (size : ℕ) → length ws ≡ size → IsSmallFor size (circuit_by ws size)
small ws size each = record {
  ports = refl;
  vars = let h = length_vars ws size in omega (arith, h, each);
  weight = let h = gates_weight 0 0 ws (map (output size) (rising 0 4)) (outputs_weight size) in weight h;
} where
  weight : weigh 0 (gates 0 ws ++ map (output size) (rising 0 4)) ≤ 0 + 4 * length ws → machine_size (circuit_by ws size) ≤ 4 * size + 28
  weight h = omega (arith, h, each)

pub circuits_are_small : CircuitsAreSmall
unfolding generated
circuits_are_small seed size least most = small (words_of seed size) size (words_each pcg32 size (pcg32_of_seed (pcg32_seed 16 seed)))
