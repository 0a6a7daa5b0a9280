use Rattle.std.proofs.Common.{map, ◌∙◌, ap, List}
use Rattle.vlsi_base.specs.declared.name.Name.{Name}
use Rattle.source_checks.specs.Symbols.{all_names}
use Rattle.source_checks.specs.Formula.{numbered, leaf}
use Rattle.source_bits.proofs.Leaves.{whole_name}
use Rattle.source_bits.proofs.formulas.name_bits.Goals as goal

pub returns-in_ok-made-in-Some : goal.returns-in_ok-made-in-Some
returns-in_ok-made-in-Some c =
    c.in_ok-made-in-Some.ensures ∙ ap (λ (ns : List Name). map (numbered (all_names c.args.numbers.now)) (map leaf ns)) (whole_name c.args.numbers.now c.args.text.now c.in-Some.declared c.in-Some.ensures.range)
