use Rattle.std.proofs.Common.{◌≡◌, ℕ, Bool, List, length, sym, ap, ◌∙◌, subst}
use Rattle.fsm_machine.specs.Fsm.{Fsm}
use Rattle.fsm_merge.specs.Numbering.{IsNumbering}
use Rattle.fsm_merge.specs.Merged.{merged_fsm}
use Rattle.fsm_merge.specs.Fewest.{IsFewest}
use Rattle.fmi_refine.specs.declared.round.Move.{Move}
use Rattle.fmi_refine.specs.declared.round.Partition.{Partition}
use Rattle.fmi_refine.specs.Rows.{AreRows}
use Rattle.fmi_refine.specs.Refined.{last_level, AreLevels, IsStable}
use Rattle.fmi_min.specs.Tests.{vectors_of_test, AreAllTests}
use Rattle.fmi_min.proofs.Closing.{are_rows}
use Rattle.fmi_min.proofs.Telling.{minimal}
use Rattle.fmi_min.proofs.Keeping.{taken_last, last_numbering}
use Rattle.fmi_min.proofs.minimal.minimal_by.Goals as goal

pub levels-requires : goal.levels-requires
levels-requires c =
    let f = c.args.machine.now in
    let rows = c.args.table.rows.items in
    subst (λ (rs : List (List Move)). AreRows rs) (sym c.deref.ensures.value) (are_rows f rows c.name.ensures.checked c.requires.table c.requires.few)

pub hints-requires : goal.hints-requires
hints-requires c =
    let f = c.args.machine.now in
    let rows = c.args.table.rows.items in
    record { rows = subst (λ (rs : List (List Move)). AreRows rs) (sym c.deref-2.ensures.value) (are_rows f rows c.name.ensures.checked c.requires.table c.requires.few) }

pub all_tests-requires-clause-rows : goal.all_tests-requires-clause-rows
all_tests-requires-clause-rows c =
    let f = c.args.machine.now in
    let rows = c.args.table.rows.items in
    subst (λ (rs : List (List Move)). AreRows rs) (sym c.deref-4.ensures.value) (are_rows f rows c.name.ensures.checked c.requires.table c.requires.few)

pub merged_machine-requires : goal.merged_machine-requires
merged_machine-requires c =
    let f = c.args.machine.now in
    let rows = c.args.table.rows.items in
    let levels = c.in_ok-levels.levels.items in
    let of : AreLevels rows levels = subst (λ (rs : List (List Move)). AreLevels rs levels) c.deref.ensures.value c.in_ok-levels.ensures.levels in
    let last = taken_last levels c.pop.new.self.items c.in-Some.last c.in-Some.ensures.items in
    let n = length f.states in
    let numbered = last_numbering rows levels n of c.requires.table.states in
    subst (λ (s : List ℕ). IsNumbering n s c.as_slice-2.result.now) (sym (c.as_slice.ensures ∙ ap (λ (q : Partition). q.state_of) last))
    (subst (λ (k : List ℕ). IsNumbering n (last_level levels).state_of k) (sym (c.as_slice-2.ensures ∙ ap (λ (q : Partition). q.kept) last)) numbered)

pub returns : goal.returns
returns c =
    let f = c.args.machine.now in
    let rows = c.args.table.rows.items in
    let vectors = c.args.table.vectors.items in
    let levels = c.in_ok-levels.levels.items in
    let tests = c.in_ok-tests.tests in
    let of : AreLevels rows levels = subst (λ (rs : List (List Move)). AreLevels rs levels) c.deref.ensures.value c.in_ok-levels.ensures.levels in
    let stable : IsStable rows levels = subst (λ (rs : List (List Move)). IsStable rs levels) c.deref.ensures.value c.in_ok-levels.ensures.stable in
    let all : AreAllTests rows levels tests =
    subst (λ (rs : List (List Move)). AreAllTests rs levels tests) c.deref-4.ensures.value
    (subst (λ (ls : List Partition). AreAllTests c.deref-4.result.now ls tests) c.deref-5.ensures.value c.in_ok-tests.ensures) in
    let last = taken_last levels c.pop.new.self.items c.in-Some.last c.in-Some.ensures.items in
    let made : c.in_ok-fsm.fsm ≡ merged_fsm f c.in-Some.last.state_of c.in-Some.last.kept =
    c.in_ok-fsm.ensures
    ∙ ap (λ (s : List ℕ). merged_fsm f s c.as_slice-2.result.now) c.as_slice.ensures
    ∙ ap (λ (k : List ℕ). merged_fsm f c.in-Some.last.state_of k) c.as_slice-2.ensures in
    let fewest = minimal f rows levels vectors tests c.name.ensures.checked c.requires.table
    (are_rows f rows c.name.ensures.checked c.requires.table c.requires.few) c.requires.vectors of stable all in
    subst (λ (vs : List (List Bool)). IsFewest f c.in_ok-fsm.fsm c.in-Some.last.state_of (vectors_of_test vs tests)) (sym c.new.ensures)
    (subst (λ (g : Fsm). IsFewest f g c.in-Some.last.state_of (vectors_of_test vectors tests)) (sym made)
    (subst (λ (q : Partition). IsFewest f (merged_fsm f q.state_of q.kept) q.state_of (vectors_of_test vectors tests)) (sym last) fewest))
