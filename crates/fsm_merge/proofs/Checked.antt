-- The machine that is left passes the checks.
use Rattle.std.proofs.Common.{◌≡◌, ℕ, ◌<◌, ◌≤◌, Bool, true, List, [], ◌∷◌, length, refl, sym, ap, ◌∙◌, subst, arith}
use Rattle.vlsi_base.specs.declared.name.Name.{Name}
use Rattle.bool_expr.specs.Expression.{Expression, constant, variable, inverse, pair, choice}
use Rattle.fsm_machine.specs.Statements.{Assignment, output, next, Statements, finish, assign, choose, select, Parts, only, either, further, Branches, closed, others, listed}
use Rattle.fsm_machine.specs.Fsm.{Fsm}
use Rattle.fsm_machine.specs.MachineOf.{up}
use Rattle.fsm_machine.specs.Sound.{IsSound}
use Rattle.fsm_machine.specs.Assigned.{sets_next, sets_output, IsAssigned}
use Rattle.fsm_core.specs.Checked.{IsInput, ReadsInputs, IsAssignmentOf, IsBodyOf, ArePartsOf, AreBranchesOf, IsCheckedFsm}
use Rattle.fsm_merge.specs.Numbering.{nth, IsNumbering}
use Rattle.fsm_merge.specs.Merged.{kept_of, merged_assignment, with_branch, merged, merged_parts, merged_branches, names_at, merged_fsm}
use Rattle.fsm_merge.specs.Fewest.{MergedIsChecked}
use Rattle.fsm_merge.proofs.Kept.{fewer}
use Rattle.fsm_merge.proofs.Members.{rising_differ, names_differ, names_count}
use Rattle.fsm_merge.proofs.Walking.{sure_merged}
use Rattle.fsm_merge.proofs.Sound.{sound_merged, one_case, lists_merged}

reads_merged : (f : Fsm) (c k : List ℕ) (e : Expression) → ReadsInputs f e → ReadsInputs (merged_fsm f c k) e
reads_merged f c k (constant b) h = tt
reads_merged f c k (variable j) h = record { name = h.name; is = h.is; input = h.input }
reads_merged f c k (inverse e) h = reads_merged f c k e h
reads_merged f c k (pair g a b) h = (reads_merged f c k a h.0, reads_merged f c k b h.1)
reads_merged f c k (choice x a b) h = (reads_merged f c k x h.0, (reads_merged f c k a h.1.0, reads_merged f c k b h.1.1))

assignment_of : (f : Fsm) (c k : List ℕ) (a : Assignment) → IsAssignmentOf f a → IsAssignmentOf (merged_fsm f c k) (merged_assignment c a)
assignment_of f c k (output name e) h = (h.0, reads_merged f c k e h.1)
assignment_of f c k (next s) h = tt

branch_of : (f : Fsm) (here : List ℕ) (a : Statements) (more : Branches) → IsBodyOf f a → AreBranchesOf f more → AreBranchesOf f (with_branch here a more)
branch_of f [] a more x y = y
branch_of f (s ∷ here) a more x y = (x, y)

mutual
  body_of : (f : Fsm) (c k : List ℕ) (body : Statements) → IsBodyOf f body → IsBodyOf (merged_fsm f c k) (merged c k body)
  body_of f c k finish h = tt
  body_of f c k (assign a rest) h = (assignment_of f c k a h.0, body_of f c k rest h.1)
  body_of f c k (choose parts rest) h = (parts_of f c k parts h.0, body_of f c k rest h.1)
  body_of f c k (select branches rest) h = (branches_of f c k branches h.0, body_of f c k rest h.1)

  parts_of : (f : Fsm) (c k : List ℕ) (parts : Parts) → ArePartsOf f parts → ArePartsOf (merged_fsm f c k) (merged_parts c k parts)
  parts_of f c k (only e a) h = (reads_merged f c k e h.0, body_of f c k a h.1)
  parts_of f c k (either e a b) h = (reads_merged f c k e h.0, (body_of f c k a h.1.0, body_of f c k b h.1.1))
  parts_of f c k (further e a more) h = (reads_merged f c k e h.0, (body_of f c k a h.1.0, parts_of f c k more h.1.1))

  branches_of : (f : Fsm) (c k : List ℕ) (branches : Branches) → AreBranchesOf f branches → AreBranchesOf (merged_fsm f c k) (merged_branches c k branches)
  branches_of f c k closed h = tt
  branches_of f c k (others a) h = body_of f c k a h
  branches_of f c k (listed here a more) h =
      branch_of (merged_fsm f c k) (kept_of c k here) (merged c k a) (merged_branches c k more) (body_of f c k a h.0) (branches_of f c k more h.1)

pub states_count : (f : Fsm) (c k : List ℕ) → IsNumbering (length f.states) c k → length (merged_fsm f c k).states ≡ length k
states_count f c k h = names_count f.states k (λ p l. (h.own p l).0)

next_same : (c : List ℕ) (a : Assignment) → sets_next (merged_assignment c a) ≡ sets_next a
next_same c (output name e) = refl
next_same c (next s) = refl

output_same : (c : List ℕ) (name : Name) (a : Assignment) → sets_output name (merged_assignment c a) ≡ sets_output name a
output_same c name (output target e) = refl
output_same c name (next s) = refl

pub assigned_merged : (f : Fsm) (c k : List ℕ) → IsCheckedFsm f → IsNumbering (length f.states) c k → IsAssigned (merged_fsm f c k)
assigned_merged f c k checked h =
    let count = states_count f c k h in
    record {
      next_state = λ p l. let low : p < length k = omega arith in
          sure_merged sets_next (length f.states) c k h (next_same c) p low f.body ∙ checked.assigned.next_state (nth k p) (h.own p low).0;
      outputs = λ p l name i. let low : p < length k = omega arith in
          sure_merged (sets_output name) (length f.states) c k h (output_same c name) p low f.body ∙ checked.assigned.outputs (nth k p) (h.own p low).0 name i;
    }

pub merged_checked : MergedIsChecked
merged_checked f c k checked h =
    let count = states_count f c k h in
    let some = checked.some_state in
    let known = h.known 0 some in
    let few = checked.few_states in
    let less = fewer (length f.states) c k h in
    record {
      ports = checked.ports;
      supplies = checked.supplies;
      clock = checked.clock;
      scalar = checked.scalar;
      unobserved = checked.unobserved;
      some_state = omega arith;
      few_states = omega arith;
      different = names_differ f.states k checked.different (rising_differ k h.ordered);
      sound = (let P : ℕ → Type 0 = λ m. IsSound (up 0 m) (merged c k f.body) in subst P (sym count) (sound_merged (length f.states) c k h f.body checked.sound));
      one_case = one_case c k f.body (let e = checked.one_case in omega arith) ∙ checked.one_case;
      listed = lists_merged c k f.body checked.listed;
      reads = body_of f c k f.body checked.reads;
      assigned = assigned_merged f c k checked h;
    }
