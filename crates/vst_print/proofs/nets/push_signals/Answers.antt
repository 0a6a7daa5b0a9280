use Rattle.std.proofs.Common.{◌≡◌, ◌++◌, ◌∷◌, [], ◌∙◌, ℕ, List, is_none, true, false, ap, sym, arith}
use Rattle.vlsi_base.specs.declared.name.Name.{Name}
use Rattle.vlsi_base.specs.Names.{scalar}
use Rattle.net_core.specs.Places.{position_of}
use Rattle.vst_print.specs.Nets.{signal_text, is_free}
use Rattle.vst_print.proofs.Signals.{none_as, signals_none, signals_taken, signals_push}
use Rattle.vst_print.proofs.nets.push_signals.Goals.{then-left-gt0+in_ok-text+then-is_none+in_ok-push, then-left-gt0+in_ok-text+else-is_none, else-left-gt0}
use Rattle.vst_print.proofs.nets.push_signals.Goals as goal

pub loop-number-preserved : goal.loop-number-preserved
loop-number-preserved c =
    let ports = c.args.ports.now in
    let many = c.args.many in
    let number = c.loop-number.number in
    let inv = c.loop-number.invariant in
    let most = inv.most in
    let start = c.args.names.now.items in
    let taken = c.in_ok-taken.taken in
    elim c.if-left-gt0.branch [
      | then-left-gt0+in_ok-text+then-is_none+in_ok-push w ↦ rw (w.names-is, w.left-is) (
          let free : is_free ports number ≡ true =
          sym (c.in_ok-taken.ensures (signal_text number)) ∙ ap (λ (t : List ℕ). is_none (position_of taken t)) (sym w.in_ok-text.ensures) ∙ ap is_none (sym w.place.ensures) ∙ none_as w.place.result w.is_none.result w.is_none.ensures ∙ w.if-is_none.true in
          record {
            whole = signals_push start c.loop-number.names.items w.push.new.self.items ports many c.loop-number.left number (omega (arith, c.loop-number-test.true)) w.if-left-gt0.true free
                (w.in_ok-push.ensures.items ∙ ap (λ (n : Name). c.loop-number.names.items ++ n ∷ []) (w.scalar.ensures ∙ ap scalar w.in_ok-text.ensures)) inv.whole;
            most = omega (arith, most);
          })
      | then-left-gt0+in_ok-text+else-is_none w ↦ rw (w.names-is, w.left-is) (
          let taken_is : is_free ports number ≡ false =
          sym (c.in_ok-taken.ensures (signal_text number)) ∙ ap (λ (t : List ℕ). is_none (position_of taken t)) (sym w.in_ok-text.ensures) ∙ ap is_none (sym w.place.ensures) ∙ none_as w.place.result w.is_none.result w.is_none.ensures ∙ w.if-is_none.false in
          record {
            whole = signals_taken start c.loop-number.names.items ports many c.loop-number.left number (omega (arith, c.loop-number-test.true)) taken_is inv.whole;
            most = most;
          })
      | else-left-gt0 w ↦ rw (w.names-is, w.left-is) (
          record {
            whole = signals_none start c.loop-number.names.items ports many c.loop-number.left number (omega (arith, w.if-left-gt0.false)) inv.whole;
            most = most;
          })
    ]
