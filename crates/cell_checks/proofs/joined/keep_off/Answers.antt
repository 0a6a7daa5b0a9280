use Rattle.std.proofs.Common.{rules, arith}
use Rattle.cell_model.proofs.KindLemmas.{told, denied}
use Rattle.cell_checks.specs.Shapes.{KeepsOff}
use Rattle.cell_checks.proofs.Loops.{one_more, not_at}
use Rattle.cell_checks.proofs.Numbers.{Told, off_it, it_off}
use Rattle.cell_checks.proofs.joined.keep_off.Goals as goal

pub returns-then-not-is_tied_or_apart : goal.returns-then-not-is_tied_or_apart
returns-then-not-is_tied_or_apart c =
    let known : Told c.args.shapes.now c.args.numbers.now c.args.name.now c.number_of-tied.result =
    record { number = c.number_of-tied.ensures.number; none = c.number_of-tied.ensures.none } in (
      λ h. absurd (search (rules, h)),
      λ all. absurd (not_at (KeepsOff c.args.shapes.now c.args.name.now c.args.strip.now) c.args.shapes.now c.loop-i.i c.index-shapes-i.result (omega arith) c.index-shapes-i.is
          (λ keeps. denied c.is_tied_or_apart.result c.is_tied_or_apart.ensures (search rules)
          (it_off c.args.shapes.now c.args.numbers.now c.requires.numbered c.args.name.now c.number_of-tied.result c.args.strip.now c.loop-i.i c.index-shapes-i.result known (omega arith) c.index-shapes-i.is keeps)) all),
    )

pub loop-i-preserved : goal.loop-i-preserved
loop-i-preserved c =
    let known : Told c.args.shapes.now c.args.numbers.now c.args.name.now c.number_of-tied.result =
    record { number = c.number_of-tied.ensures.number; none = c.number_of-tied.ensures.none } in
    one_more (KeepsOff c.args.shapes.now c.args.name.now c.args.strip.now) c.args.shapes.now c.loop-i.i c.index-shapes-i.result c.loop-i.invariant (omega arith) c.index-shapes-i.is
    (off_it c.args.shapes.now c.args.numbers.now c.requires.numbered c.args.name.now c.number_of-tied.result c.args.strip.now c.loop-i.i c.index-shapes-i.result known (omega arith) c.index-shapes-i.is
    (told c.is_tied_or_apart.result c.is_tied_or_apart.ensures (search rules)))
