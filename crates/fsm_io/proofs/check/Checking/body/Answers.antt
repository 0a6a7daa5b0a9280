use Rattle.std.proofs.Common.{ℕ, List, refl, sym, subst, ◌∙◌}
use Rattle.vlsi_base.specs.declared.name.Name.{Name}
use Rattle.source_checks.specs.Symbols.{all_names}
use Rattle.vlsi_model.specs.Numbered.{HasVars}
use Rattle.fsm_io.proofs.Suiting.{suits_different, vars_declared, vars_differ, frame_ok, fits_ok}
use Rattle.fsm_io.proofs.StateNames.{few_table}
use Rattle.fsm_io.proofs.check.Checking.body.Goals as goal

pub var_numbers-requires-clause-texts : goal.var_numbers-requires-clause-texts
var_numbers-requires-clause-texts c = suits_different c.args.self.now c.requires.suits

pub var_numbers-requires-clause-declared : goal.var_numbers-requires-clause-declared
var_numbers-requires-clause-declared c = vars_declared c.args.self.now c.requires.suits c.args.ports.now c.deref.result.now c.requires.moved (c.deref.ensures.value ∙ c.in_ok-vars.ensures)

pub var_numbers-requires-clause-different : goal.var_numbers-requires-clause-different
var_numbers-requires-clause-different c = vars_differ c.args.self.now c.requires.suits c.args.ports.now c.deref.result.now c.requires.moved (c.deref.ensures.value ∙ c.in_ok-vars.ensures)

pub body-requires-clause-frame : goal.body-requires-clause-frame
body-requires-clause-frame c =
    let all = all_names c.args.self.now.numbers.now in
    frame_ok c.args.self.now _ c.args.ports.now c.requires.suits refl (c.deref-2.ensures.value ∙ c.in_ok-vars.ensures)
    (subst (λ (ns : List Name). HasVars all ns c.deref-3.result.now) (c.deref.ensures.value ∙ sym c.deref-2.ensures.value)
    (subst (λ (ps : List ℕ). HasVars all c.deref.result.now ps) (sym c.deref-3.ensures.value) c.in_ok-places.ensures))
    c.requires.moved (few_table c.in_ok-states.states c.as_slice.result.now c.args.self.now.file.now.states.states c.in_ok-states.ensures c.as_slice.ensures c.requires.suits.few)

pub body-requires-clause-fits : goal.body-requires-clause-fits
body-requires-clause-fits c = fits_ok c.args.self.now _ c.args.ports.now c.requires.suits c.requires.sound refl (c.deref-2.ensures.value ∙ c.in_ok-vars.ensures) refl c.requires.moved
