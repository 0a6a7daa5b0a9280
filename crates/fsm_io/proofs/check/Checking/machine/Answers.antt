use Rattle.std.proofs.Common.{map, ap, sym, subst, ◌∙◌}
use Rattle.vlsi_base.specs.declared.entity.NewName.{NewName}
use Rattle.source_checks.specs.Symbols.{scalar}
use Rattle.fsm_machine.specs.Fsm.{Fsm}
use Rattle.fsm_code.specs.View.{body_view}
use Rattle.fsm_io.specs.Elaboration.{IsMachineOf}
use Rattle.fsm_io.specs.Pieces.{tree_of, roles_of}
use Rattle.fsm_io.proofs.Checking.{checked, machine_is}
use Rattle.fsm_io.proofs.check.Checking.machine.Goals as goal

pub new-requires : goal.new-requires
new-requires c =
    let m = tree_of c.args.self.now in
    let n = roles_of c.args.self.now in
    let suits = c.requires.suits in
    checked m n _ suits.once suits.roles suits.some_state suits.listed c.requires.sound
    (machine_is m n c.in_ok-name.name c.args.ports.items c.new-ports.result c.scalar-clock.result c.new-states.result (body_view c.args.body) c.in_ok-name.ensures c.new-ports.ensures c.requires.moved c.requires.ordered
    (c.scalar-clock.ensures ∙ ap scalar c.in_ok-copy.ensures) (c.new-states.ensures ∙ c.in_ok-states.ensures ∙ ap (map (λ (s : NewName). scalar s.text)) c.as_slice.ensures) c.requires.body)

pub returns : goal.returns
returns c =
    let m = tree_of c.args.self.now in
    let n = roles_of c.args.self.now in
    subst (λ (f : Fsm). IsMachineOf m n f) (sym c.new.ensures)
    (machine_is m n c.in_ok-name.name c.args.ports.items c.new-ports.result c.scalar-clock.result c.new-states.result (body_view c.args.body) c.in_ok-name.ensures c.new-ports.ensures c.requires.moved c.requires.ordered
    (c.scalar-clock.ensures ∙ ap scalar c.in_ok-copy.ensures) (c.new-states.ensures ∙ c.in_ok-states.ensures ∙ ap (map (λ (s : NewName). scalar s.text)) c.as_slice.ensures) c.requires.body)
