use Rattle.std.proofs.Common.{◌≡◌, ◌<◌, ◌+◌, ℕ, List, length, get_or, take, sym, ap, subst, ◌∙◌, arith}
use Rattle.std.specs.List.{zip}
use Rattle.std.specs.Prelude.{slice_set}
use Rattle.std.proofs.lemmas.List.{length-take-le, length-set}
use Rattle.std.proofs.Math.Seq.{take-length}
use Rattle.net_core.specs.declared.tally.Role.{Role}
use Rattle.net_core.specs.declared.tally.Role.TheVariants as role
use Rattle.net_core.specs.declared.tally.Tally.{Tally}
use Rattle.net_core.specs.Checks.{AreTallies, with_one}
use Rattle.net_core.proofs.Counting.{few_of, zip_more, zip_length, tallied_step}
use Rattle.net_core.proofs.tally.tallies.Goals as goal

pub add-requires : goal.add-requires
add-requires c =
    let n = zip_length c.args.roles.now c.args.classes.now c.requires.each in
    let m : length (take c.loop-k.k (zip c.args.roles.now c.args.classes.now)) ≡ c.loop-k.k = length-take-le c.loop-k.k (zip c.args.roles.now c.args.classes.now) (omega (arith, n, c.loop-k-test.true)) in
    let l : get_or c.args.classes.now c.loop-k.k 0 < c.args.count = c.requires.inside c.loop-k.k 0 c.loop-k-test.true in
    few_of (take c.loop-k.k (zip c.args.roles.now c.args.classes.now)) c.loop-k.tallies.items c.loop-k.invariant.tallied (omega (arith, m, c.loop-k-test.true, c.requires.few))
    (get_or c.args.classes.now c.loop-k.k 0) c.index_mut.result.now (omega (arith, l, c.loop-k.invariant.many)) c.index_mut.ensures.value

pub loop-k-preserved : goal.loop-k-preserved
loop-k-preserved c =
    let l : get_or c.args.classes.now c.loop-k.k 0 < c.args.count = c.requires.inside c.loop-k.k 0 c.loop-k-test.true in
    record {
      many = length-set c.loop-k.tallies.items (get_or c.args.classes.now c.loop-k.k 0) c.add.new.self ∙ c.loop-k.invariant.many;
      tallied =
          subst (λ (t : Tally). AreTallies (take (c.loop-k.k + 1) (zip c.args.roles.now c.args.classes.now)) (slice_set c.loop-k.tallies.items (get_or c.args.classes.now c.loop-k.k 0) t)) (sym c.add.ensures)
          (subst (λ (ms : List (Role × ℕ)). AreTallies ms (slice_set c.loop-k.tallies.items (get_or c.args.classes.now c.loop-k.k 0) (with_one (get_or c.args.roles.now c.loop-k.k role.InputPort) c.index_mut.result.now)))
          (sym (zip_more c.args.roles.now c.args.classes.now c.loop-k.k role.InputPort c.requires.each c.loop-k-test.true))
          (tallied_step (take c.loop-k.k (zip c.args.roles.now c.args.classes.now)) (get_or c.args.roles.now c.loop-k.k role.InputPort, get_or c.args.classes.now c.loop-k.k 0) c.loop-k.tallies.items c.index_mut.result.now c.loop-k.invariant.tallied
          (omega (arith, l, c.loop-k.invariant.many)) c.index_mut.ensures.value));
    }

pub returns-clause-tallied : goal.returns-clause-tallied
returns-clause-tallied c =
    let n = zip_length c.args.roles.now c.args.classes.now c.requires.each in
    let e : c.loop-k.k ≡ length (zip c.args.roles.now c.args.classes.now) = omega (arith, n, c.loop-k-test.false, c.loop-k.auto.k-end) in
    subst (λ (ms : List (Role × ℕ)). AreTallies ms c.loop-k.tallies.items) (ap (λ k. take k (zip c.args.roles.now c.args.classes.now)) e ∙ take-length (zip c.args.roles.now c.args.classes.now)) c.loop-k.invariant.tallied
