use Rattle.std.proofs.Common.{length, List, [], sym, ap, ◌∙◌, arith}
use Rattle.source_checks.specs.declared.symbol_table.Symbol.{Symbol}
use Rattle.source_checks.specs.Checks.{first_repeated}
use Rattle.source_checks.specs.Known.{position_of}
use Rattle.source_checks.proofs.Repeats.{goes_on, found_here, at_end}
use Rattle.source_checks.proofs.twice.repeated.Goals as goal

pub returns-then-ne : goal.returns-then-ne
returns-then-ne c =
    found_here c.args.table.now c.as_slice-symbols.result.now c.loop-k.k c.index-symbols-k.result c.place.result (first_repeated [] c.args.table.now) c.as_slice-symbols.ensures c.loop-k-test.true c.index-symbols-k.is
    (c.place.ensures ∙ ap (position_of c.args.table.now) c.as_bytes.ensures) c.if-ne.ensures c.loop-k.invariant

pub loop-k-preserved : goal.loop-k-preserved
loop-k-preserved c =
    goes_on c.args.table.now c.as_slice-symbols.result.now c.loop-k.k c.index-symbols-k.result c.place.result (first_repeated [] c.args.table.now) c.as_slice-symbols.ensures c.loop-k-test.true c.index-symbols-k.is
    (c.place.ensures ∙ ap (position_of c.args.table.now) c.as_bytes.ensures) c.if-ne.ensures c.loop-k.invariant

pub returns : goal.returns
returns c = sym (at_end c.args.table.now [] c.loop-k.k (omega (arith, ap (λ (xs : List Symbol). length xs) c.as_slice-symbols.ensures))) ∙ c.loop-k.invariant
