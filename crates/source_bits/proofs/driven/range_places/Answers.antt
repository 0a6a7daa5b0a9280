use Rattle.std.proofs.Common.{List, ℕ, Option, map, ap, ◌∙◌}
use Rattle.vlsi_base.specs.declared.name.Name.{Name}
use Rattle.source_checks.specs.Symbols.{all_names}
use Rattle.source_checks.specs.Formula.{place}
use Rattle.source_bits.specs.Numbering.{named_bit}
use Rattle.source_bits.proofs.driven.range_places.Goals as goal

pub returns : goal.returns
returns c =
    let vars = all_names c.args.numbers.now in
    let text = c.args.text.now in
    c.in_ok-made.ensures ∙ ap (λ (bs : List (Option ℕ)). map (place vars) (map (named_bit text) bs)) c.deref.ensures.value ∙ ap (λ (ns : List Name). map (place vars) ns) (c.in_ok-bits.ensures text)
