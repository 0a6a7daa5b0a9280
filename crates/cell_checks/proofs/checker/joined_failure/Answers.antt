use Rattle.std.proofs.Common.{rules}
use Rattle.cell_model.proofs.KindLemmas.{told, denied}
use Rattle.cell_checks.proofs.Firsts.{fails_gaps, fails_columns, passes_with}
use Rattle.cell_checks.proofs.checker.joined_failure.Goals as goal

pub returns-then-not-keeps_from_rails : goal.returns-then-not-keeps_from_rails
returns-then-not-keeps_from_rails c =
    fails_gaps c.args.tracks c.args.cell.now c.requires.mappable c.requires.before
    (told c.pins_are_apart.result c.pins_are_apart.ensures (search rules))
    (told c.keeps_to_box.result c.keeps_to_box.ensures (search rules))
    (denied c.keeps_from_rails.result c.keeps_from_rails.ensures (search rules))

pub returns-then-not-branch : goal.returns-then-not-branch
returns-then-not-branch c =
    fails_columns c.args.tracks c.args.cell.now c.requires.mappable c.requires.before
    (told c.pins_are_apart.result c.pins_are_apart.ensures (search rules))
    (told c.keeps_to_box.result c.keeps_to_box.ensures (search rules))
    (told c.keeps_from_rails.result c.keeps_from_rails.ensures (search rules))
    (search rules)
    (denied c.in_ok-columns_differ.field-0 c.in_ok-columns_differ.ensures (search rules))

pub returns : goal.returns
returns c =
    passes_with c.args.tracks c.args.cell.now c.requires.before
    (told c.pins_are_apart.result c.pins_are_apart.ensures (search rules))
    (told c.keeps_to_box.result c.keeps_to_box.ensures (search rules))
    (told c.keeps_from_rails.result c.keeps_from_rails.ensures (search rules))
    (told c.in_ok-columns_differ.field-0 c.in_ok-columns_differ.ensures (search rules))
