use Rattle.std.proofs.Common.{◌≡◌, ℕ, false, get_or, sym, ap, arith}
use Rattle.std.specs.Ordering.{nat_cmp, is_eq}
use Rattle.std.specs.Map.{lookup}
use Rattle.std.specs.BTreeMap.{get, is_at}
use Rattle.std.proofs.lemmas.Bool.Decides.{nat_tests}
use Rattle.net_core.proofs.InTurns.{numbered_start, numbered_again, numbered_first}
use Rattle.net_core.proofs.turns.numbers.Goals.{in-Some+in_ok-push-in-Some, in-None+in_ok-insert-in-None+in_ok-push-in-None}
use Rattle.net_core.proofs.turns.numbers.Goals as goal

apart_test : (a b : ℕ) → (a ≡ b → ⊥) → is_eq (nat_cmp a b) ≡ false
apart_test a b d = grind (arith, nat_tests)

pub loop-label-init : goal.loop-label-init
loop-label-init c =
    rw (c.in_ok-classes.ensures.items)
    (numbered_start c.args.labels.now (get nat_cmp c.new-met.result) (λ l. ap (lookup (is_at (nat_cmp l))) c.new-met.ensures.empty))

pub loop-label-preserved : goal.loop-label-preserved
loop-label-preserved c = elim c.match-get.branch [
  | in-Some+in_ok-push-in-Some w ↦
      rw (w.met-is, w.classes-is, w.count-is, w.in_ok-push-in-Some.ensures.items)
      (numbered_again c.args.labels.now c.loop-label.label-index c.loop-label.classes.items c.loop-label.count w.in-Some.class.now (get nat_cmp c.loop-label.met) c.loop-label.invariant (sym w.in-Some.ensures.value))
  | in-None+in_ok-insert-in-None+in_ok-push-in-None w ↦
      rw (w.met-is, w.classes-is, w.count-is, w.in_ok-push-in-None.ensures.items)
      (numbered_first c.args.labels.now c.loop-label.label-index c.loop-label.classes.items c.loop-label.count (get nat_cmp c.loop-label.met) (get nat_cmp w.insert.new.self) c.loop-label.invariant (sym w.in-None.ensures.value)
      w.in_ok-insert-in-None.ensures.updates.1 (λ q d. w.in_ok-insert-in-None.ensures.updates.2 q (apart_test (get_or c.args.labels.now c.loop-label.label-index 0) q d)))
]
