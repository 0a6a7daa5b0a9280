use Rattle.std.proofs.Common.{◌≡◌, ◌+◌, ◌++◌, ◌∷◌, [], List, take, sym, ◌∙◌, ap, subst, append-nil, rules, arith}
use Rattle.std.proofs.lemmas.List.{take_all, take_more}
use Rattle.sym_shapes.specs.Shape.{Shape}
use Rattle.sym_near.specs.declared.near.Pair.{Pair}
use Rattle.druc_rules.proofs.Gaps.{AddsChosen, chosen_none, chosen_more, chosen_skip, gaps_are, pair_at, related_at}
use Rattle.druc_rules.proofs.breaking.put_gaps.Goals.{then-not-is_excused+in_ok-push, else-not-is_excused}
use Rattle.druc_rules.proofs.breaking.put_gaps.Goals as goal

pub loop-pair-init : goal.loop-pair-init
loop-pair-init c = chosen_none c.args.layout.now.shapes.now c.args.found.now.items c.args.found.now.items (sym (append-nil c.args.found.now.items))

pub is_excused-requires-clause-first : goal.is_excused-requires-clause-first
is_excused-requires-clause-first c =
    (related_at c.args.layout.now.shapes.now c.args.least c.args.near.now c.loop-pair.pair-index c.requires.near c.loop-pair-test.true).first

pub is_excused-requires-clause-second : goal.is_excused-requires-clause-second
is_excused-requires-clause-second c =
    (related_at c.args.layout.now.shapes.now c.args.least c.args.near.now c.loop-pair.pair-index c.requires.near c.loop-pair-test.true).second

pub is_excused-requires-clause-apart : goal.is_excused-requires-clause-apart
is_excused-requires-clause-apart c =
    (related_at c.args.layout.now.shapes.now c.args.least c.args.near.now c.loop-pair.pair-index c.requires.near c.loop-pair-test.true).is.1.0

pub loop-pair-preserved : goal.loop-pair-preserved
loop-pair-preserved c =
    let all : List Shape = c.args.layout.now.shapes.now in
    let near : List Pair = c.args.near.now in
    let k = c.loop-pair.pair-index in
    let p : Pair = pair_at near k in
    let next : take (k + 1) near ≡ take k near ++ p ∷ [] = take_more near k (record { first = 0; second = 0 }) c.loop-pair-test.true in
    let before = c.args.found.now.items in
    let olds = c.loop-pair.found.items in
    elim c.if-not-is_excused.branch [
      | then-not-is_excused+in_ok-push w ↦
          rw (w.found-is, next)
          (chosen_more all (take k near) p before olds w.push.new.self.items c.loop-pair.invariant (λ h. absurd (search (rules, w.if-not-is_excused, c.is_excused.ensures.1 h)))
          (w.in_ok-push.ensures.items ∙ ap (λ x. olds ++ x ∷ []) w.gap.ensures))
      | else-not-is_excused w ↦
          rw (w.found-is, next)
          (chosen_skip all (take k near) p before olds c.loop-pair.invariant (λ n. n (c.is_excused.ensures.0 (search (rules, w.if-not-is_excused)))))
    ]

pub returns : goal.returns
returns c =
    gaps_are c.args.layout.now.shapes.now c.args.least c.args.near.now c.requires.near c.args.found.now.items c.loop-pair.found.items
    (subst (λ (ps : List Pair). AddsChosen c.args.layout.now.shapes.now ps c.args.found.now.items c.loop-pair.found.items)
    (take_all c.loop-pair.pair-index c.args.near.now (omega (arith, c.loop-pair-test.false))) c.loop-pair.invariant)
