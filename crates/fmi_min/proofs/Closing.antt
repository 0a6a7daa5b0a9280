-- The last partition of a machine's states is closed, and its tests tell states apart.
use Rattle.std.proofs.Common.{◌≡◌, ℕ, ◌<◌, ◌≤◌, ◌^◌, Bool, List, map, length, Some, sym, ap, subst, ◌∙◌, arith}
use Rattle.std.proofs.lemmas.Nat.{pow_below}
use Rattle.fsm_machine.specs.Fsm.{Fsm, walked_next}
use Rattle.fsm_core.specs.Checked.{IsCheckedFsm}
use Rattle.fsm_walk.specs.Reads.{inputs_read}
use Rattle.fsm_merge.specs.Numbering.{nth}
use Rattle.fsm_merge.proofs.Fewest.{IsClosed}
use Rattle.fmi_refine.specs.declared.round.Move.{Move}
use Rattle.fmi_refine.specs.declared.round.Partition.{Partition}
use Rattle.fmi_refine.specs.Rows.{move_at, vectors_of, AreRows}
use Rattle.fmi_refine.specs.Refined.{last_level, IsStable}
use Rattle.fmi_min.specs.Table.{vectors_read, step_under, IsTable}
use Rattle.fmi_min.proofs.Stepping.{some_number, outputs_under, next_under, step_below}

-- ---- rows

few_vectors : (n : ℕ) → n ≤ 12 → 2 ^ n < 2 ^ 32
few_vectors n l = pow_below n 32 (omega arith)

pub vectors_are : (f : Fsm) (rows : List (List Move)) → IsCheckedFsm f → IsTable f rows → vectors_of rows ≡ vectors_read f
vectors_are f rows checked table =
    let some = checked.some_state in
    let states = table.states in
    table.each 0 (omega arith)

pub are_rows : (f : Fsm) (rows : List (List Move)) → IsCheckedFsm f → IsTable f rows → inputs_read f ≤ 12 → AreRows rows
are_rows f rows checked table few =
    let some = checked.some_state in
    let most = checked.few_states in
    let states = table.states in
    let vectors = vectors_are f rows checked table in
    record {
      some = omega arith;
      few = omega arith;
      counted = subst (λ (n : ℕ). n < 2 ^ 32) (sym vectors) (few_vectors (inputs_read f) few);
      each = λ s l. table.each s l ∙ sym vectors;
      known = λ s v l m. (let below = step_below f checked s v (omega arith) in
          let to = table.next s v l (omega arith) in
          omega arith);
    }

-- ---- states of one class

goes : (f : Fsm) (i : List Bool) (s a b : ℕ) → walked_next f i (Some s) ≡ Some a → walked_next f i (Some s) ≡ Some b → a ≡ b
goes f i s a b e g = let same : Some a ≡ Some b = sym e ∙ g in cc

pub closed : (f : Fsm) (rows : List (List Move)) (levels : List Partition) → IsCheckedFsm f → IsTable f rows → IsStable rows levels
    → IsClosed f (last_level levels).state_of
closed f rows levels checked table stable = record {
  outputs = λ i s t l m one. (
      let states = table.states in
      let n = some_number f i in
      let vectors = vectors_are f rows checked table in
      let known : n.0 < vectors_of rows = subst (λ (k : ℕ). n.0 < k) (sym vectors) n.1 in
      let first : s < length rows = omega arith in
      let second : t < length rows = omega arith in
      let same = (table.outs s t n.0 n.0 first second n.1 n.1).0 ((stable s t first second one).alike n.0 known).outs in
      outputs_under f checked i n.0 s n.2 l ∙ ap (λ (y : List Bool). map (λ b. Some b) y) same ∙ sym (outputs_under f checked i n.0 t n.2 m));
  nexts = λ i s t a b l m one to_a to_b. (
      let states = table.states in
      let n = some_number f i in
      let vectors = vectors_are f rows checked table in
      let known : n.0 < vectors_of rows = subst (λ (k : ℕ). n.0 < k) (sym vectors) n.1 in
      let first : s < length rows = omega arith in
      let second : t < length rows = omega arith in
      let of = (last_level levels).state_of in
      let a_is : (move_at rows s n.0).next ≡ a = table.next s n.0 first n.1 ∙ goes f i s (step_under f s n.0).next a (next_under f checked i n.0 s n.2 l) to_a in
      let b_is : (move_at rows t n.0).next ≡ b = table.next t n.0 second n.1 ∙ goes f i t (step_under f t n.0).next b (next_under f checked i n.0 t n.2 m) to_b in
      ap (nth of) (sym a_is) ∙ ((stable s t first second one).alike n.0 known).next ∙ ap (nth of) b_is);
}
