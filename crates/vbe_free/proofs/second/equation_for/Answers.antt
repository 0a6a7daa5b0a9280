use Rattle.std.proofs.Common.{rules, ◌≡◌}
use Rattle.source_checks.specs.Symbols.{all_names}
use Rattle.source_checks.specs.Formula.{place}
use Rattle.vbe_free.proofs.Found.{over_at}
use Rattle.vbe_free.proofs.second.equation_for.Goals as goal

pub renumbered-requires : goal.renumbered-requires
renumbered-requires c =
    let same : c.number-number.result ≡ place (all_names c.args.numbers.now) c.args.name.now = search rules in
    over_at (all_names c.args.numbers.now) c.args.driven.now c.args.places.now c.args.vars.now c.args.name.now c.number-number.result c.index-driven-place.result same
    c.requires.found c.requires.over
