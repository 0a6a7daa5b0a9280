use Rattle.std.proofs.Common.{◌≡◌, ◌++◌, ℕ, false, List, length, replicate, ap, sym, ◌∙◌, arith}
use Rattle.std.proofs.lemmas.List.{length-replicate}
use Rattle.fsm_machine.specs.Statements.{Statements}
use Rattle.fsm_code.specs.View.{body_view}
use Rattle.fsm_walk.specs.Reads.{reads}
use Rattle.fsm_walk.proofs.Marking.{marks_made, written_back}
use Rattle.fsm_walk.proofs.reads.marks.Goals as goal

pub returns : goal.returns
returns c =
    let zeros = c.in_ok-marks.ensures.items_if_clones_equal (λ y e. e) in
    let ports = ap length (c.as_slice.ensures ∙ c.ports.ensures.value) in
    let size : c.in_ok-marks.marks.len ≡ length c.in_ok-marks.marks.items = omega (arith, c.in_ok-marks.ensures.len, ap length zeros, length-replicate (length c.as_slice.result.now) false) in
    c.new.ensures
    ∙ written_back c.in_ok-marks.marks.len c.set_all.new.marks c.in_ok-marks.marks.items size (c.set_all.ensures.length ∙ ap length c.deref_mut.ensures.value)
    ∙ marks_made c.args.machine.now c.set_all.new.marks c.deref_mut.result.now c.deref.result.now
    (c.deref_mut.ensures.value ∙ zeros ∙ ap (λ (n : ℕ). replicate n false) ports)
    c.set_all.ensures.length c.set_all.ensures.set
    (c.deref.ensures.value ∙ c.in_ok-read.ensures ∙ ap (λ (xs : List ℕ). xs ++ reads (body_view c.body.result.now)) c.new-found.ensures.items ∙ ap (λ (b : Statements). reads b) c.body.ensures.value)
