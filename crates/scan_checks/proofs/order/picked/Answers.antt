use Rattle.std.proofs.Common.{◌≡◌, ◌∙◌, ◌<◌, ℕ, List, [], ◌∷◌, ◌++◌, length, rules, sym, subst}
use Rattle.vlsi_base.specs.Member.{In}
use Rattle.cell_model.proofs.Members.{In-at}
use Rattle.scan_checks.specs.declared.registers.Register.{Register}
use Rattle.scan_checks.specs.Refused.{AreInOrder, done}
use Rattle.scan_checks.proofs.Firsts.{none_in}
use Rattle.scan_checks.proofs.Ordered.{register_low, picked_next}
use Rattle.scan_checks.proofs.order.picked.Goals as goal

pub loop-text-init : goal.loop-text-init
loop-text-init c = subst (λ (rs : List Register). AreInOrder c.args.registers.now [] rs) (sym c.new-picked.ensures.items) done

pub bounds-registers-place : goal.bounds-registers-place
bounds-registers-place c =
    register_low c.args.registers.now c.args.known.now c.in-Some.place c.text-item.result c.requires.known (sym c.place.ensures ∙ c.in-Some.is)

pub offset_bounds-registers-place : goal.offset_bounds-registers-place
offset_bounds-registers-place c =
    let low : c.in-Some.place < length c.args.registers.now =
    register_low c.args.registers.now c.args.known.now c.in-Some.place c.text-item.result c.requires.known (sym c.place.ensures ∙ c.in-Some.is) in
    search rules

pub unreachable-requires : goal.unreachable-requires
unreachable-requires c =
    none_in c.args.known.now c.text-item.result (sym c.place.ensures ∙ c.in-None.is)
    (c.requires.there c.text-item.result (subst (λ (t : List ℕ). In t c.args.path.now) (sym c.text-item.is) (In-at c.args.path.now c.loop-text.text-index c.text-item.result c.loop-text-test.true)))

pub loop-text-preserved : goal.loop-text-preserved
loop-text-preserved c =
    picked_next c.args.registers.now c.loop-text.picked.items c.push.new.self.items c.args.known.now c.args.path.now c.loop-text.text-index c.in-Some.place c.text-item.result
    c.index-registers-place.result c.loop-text-test.true c.text-item.is c.requires.known (sym c.place.ensures ∙ c.in-Some.is) c.index-registers-place.is
    (subst (λ (r : Register). c.push.new.self.items ≡ c.loop-text.picked.items ++ r ∷ []) c.in_ok-copied-in-Some.ensures c.in_ok-push-in-Some.ensures.items) c.loop-text.invariant
