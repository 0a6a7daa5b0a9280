-- Steps of a checked machine under numbered vectors, and steps of its runs.
use Rattle.std.proofs.Common.{◌≡◌, ℕ, ◌<◌, Bool, List, map, length, Some, sym, ap, subst, ◌∙◌}
use Rattle.fsm_machine.specs.Fsm.{Fsm, fsm_outputs, seen, walked_next, walked_output}
use Rattle.fsm_core.specs.Checked.{IsCheckedFsm}
use Rattle.fsm_walk.specs.declared.step.Step.{Step}
use Rattle.fsm_walk.specs.Step.{step_of}
use Rattle.fsm_walk.specs.Words.{word, SameAt}
use Rattle.fsm_walk.specs.Reads.{read_marks}
use Rattle.fsm_walk.proofs.Trailing.{step_walk}
use Rattle.fsm_walk.proofs.Reading.{alone}
use Rattle.fsm_walk.proofs.Wording.{words_all}
use Rattle.fsm_merge.proofs.Running.{walk_below, walk_known, next_known, outputs_known}
use Rattle.fmi_min.specs.Table.{vectors_read, step_under}

-- the vector has the bits of number v where the body reads them
abbrev pub IsUnder : Fsm → List Bool → ℕ → Type 0
IsUnder f i v = SameAt (read_marks f) (seen f i) (word (read_marks f) v)

pub some_number : (f : Fsm) (i : List Bool) → (v : ℕ) × (v < vectors_read f) × IsUnder f i v
some_number f i = words_all (read_marks f) (seen f i)

same_step : (f : Fsm) → IsCheckedFsm f → (i : List Bool) (v s : ℕ) → IsUnder f i v → step_of f.body (fsm_outputs f) (seen f i) s ≡ step_under f s v
same_step f checked i v s under = alone f (seen f i) (word (read_marks f) v) s checked under

-- what the machine gives under the vector
pub outputs_under : (f : Fsm) → IsCheckedFsm f → (i : List Bool) (v s : ℕ) → IsUnder f i v → s < length f.states
    → map (walked_output f i (Some s)) (fsm_outputs f) ≡ map (λ b. Some b) (step_under f s v).outs
outputs_under f checked i v s under l =
    let known = outputs_known f checked i s l in
    let outs = (step_walk f.body (fsm_outputs f) (seen f i) s).1 known.0 known.1 in
    known.1 ∙ ap (λ (y : List Bool). map (λ b. Some b) y) (sym outs ∙ ap (λ (x : Step). x.outs) (same_step f checked i v s under))

-- where it goes
pub next_under : (f : Fsm) → IsCheckedFsm f → (i : List Bool) (v s : ℕ) → IsUnder f i v → s < length f.states
    → walked_next f i (Some s) ≡ Some (step_under f s v).next
next_under f checked i v s under l =
    let known = next_known f checked i s l in
    let to = (step_walk f.body (fsm_outputs f) (seen f i) s).0 known.0 known.1 in
    known.1 ∙ ap (λ (t : ℕ). Some t) (sym to ∙ ap (λ (x : Step). x.next) (same_step f checked i v s under))

-- each step leads to a state of the machine
pub step_below : (f : Fsm) → IsCheckedFsm f → (s v : ℕ) → s < length f.states → (step_under f s v).next < length f.states
step_below f checked s v l =
    let w = word (read_marks f) v in
    let known = walk_known f checked w s l in
    let to = (step_walk f.body (fsm_outputs f) w s).0 known.0 known.1 in
    let below = walk_below f checked w (Some s) known.0 known.1 in
    subst (λ (t : ℕ). t < length f.states) (sym to) below
