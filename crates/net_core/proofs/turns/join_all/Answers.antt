use Rattle.std.proofs.Common.{◌≡◌, ◌∙◌, ℕ, List, take, length, get_or, sym, ap, subst, refl, arith}
use Rattle.std.proofs.lemmas.List.{take_more}
use Rattle.std.proofs.Math.Seq.{take-length}
use Rattle.net_core.proofs.Joining.{IsGrouped, grouped_start, grouped_step, grouped_done}
use Rattle.net_core.proofs.turns.join_all.Goals as goal

pub loop-a-init : goal.loop-a-init
loop-a-init c = record { many = refl; grouped = grouped_start c.args.groups.now c.requires.alone }

pub loop-a-preserved : goal.loop-a-preserved
loop-a-preserved c = record {
  many = sym c.join.ensures.joins.many ∙ c.loop-a.invariant.many;
  grouped = subst (λ (js : List (ℕ × ℕ)). IsGrouped js c.join.new.self) (sym (take_more c.args.joins.now c.loop-a.a-index (0, 0) c.loop-a-test.true))
      (grouped_step (take c.loop-a.a-index c.args.joins.now) c.loop-a.groups c.join.new.self (get_or c.args.joins.now c.loop-a.a-index (0, 0)).0 (get_or c.args.joins.now c.loop-a.a-index (0, 0)).1 c.loop-a.invariant.grouped c.join.ensures.joins);
}

pub returns-clause-joined : goal.returns-clause-joined
returns-clause-joined c =
    let ended : c.loop-a.a-index ≡ length c.args.joins.now = omega (arith, c.loop-a-test.false, c.loop-a.auto.a-index-end) in
    let all : take c.loop-a.a-index c.args.joins.now ≡ c.args.joins.now = ap (λ n. take n c.args.joins.now) ended ∙ take-length c.args.joins.now in
    let g : IsGrouped c.args.joins.now c.loop-a.groups = subst (λ (js : List (ℕ × ℕ)). IsGrouped js c.loop-a.groups) all c.loop-a.invariant.grouped in
    λ i j. (λ t. g.sound i j t, λ t. grouped_done c.args.joins.now c.loop-a.groups g t)
