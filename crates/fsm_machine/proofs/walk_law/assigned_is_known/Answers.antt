use Rattle.std.proofs.Common.{◌≡◌, Bool, true, false, ◌||◌, List, None, Some, is_some, refl, if◌then◌else◌}
use Rattle.vlsi_base.specs.declared.name.Name.{Name}
use Rattle.bool_expr.specs.Expression.{val}
use Rattle.machine_core.specs.Named.{is_same_name}
use Rattle.fsm_machine.specs.Statements.{Assignment, output, next}
use Rattle.fsm_machine.specs.Assigned.{sure, sets_next, sets_output}
use Rattle.fsm_machine.specs.Walk.{given_next, given_output}
use Rattle.fsm_machine.specs.Fsm.{seen}
use Rattle.fsm_machine.proofs.Known.{known_after}
use Rattle.fsm_machine.proofs.walk_law.assigned_is_known.Goals as goal

same_next : (a : Assignment) → sets_next a ≡ is_some (given_next a)
same_next (output name e) = refl
same_next (next s) = refl

same_output : (w : List Bool) (name : Name) (a : Assignment) → sets_output name a ≡ is_some (given_output w name a)
same_output w name (output target e) = elim (is_same_name target name) as (λ t. t ≡ is_some (if t then Some (val e w) else None)) [ true ↦ refl | false ↦ refl ]
same_output w name (next s) = refl

or_false : (a : Bool) → a ≡ true → (a || false) ≡ true
or_false true h = refl
or_false false h = h

pub returns : goal.returns
returns c = λ f i s assigned within. (
  known_after given_next sets_next same_next (seen f i) s f.body None (or_false (sure sets_next s f.body) (assigned.next_state s within)),
  λ name h.
      known_after (given_output (seen f i) name) (sets_output name) (same_output (seen f i) name) (seen f i) s f.body None
      (or_false (sure (sets_output name) s f.body) (assigned.outputs s within name h)),
)
