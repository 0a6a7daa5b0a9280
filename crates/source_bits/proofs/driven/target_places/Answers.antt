use Rattle.std.proofs.Common.{rules, ◌≡◌, List, ℕ, map, ap, ◌∙◌}
use Rattle.vlsi_base.specs.declared.name.Name.{Name}
use Rattle.source_checks.specs.Symbols.{all_names, find}
use Rattle.source_checks.specs.Formula.{place, names_of_found}
use Rattle.source_checks.specs.Drivers.{target_names}
use Rattle.source_bits.proofs.Leaves.{whole_name}
use Rattle.source_bits.proofs.driven.target_places.Goals as goal

pub returns-in_ok-made-in-Some : goal.returns-in_ok-made-in-Some
returns-in_ok-made-in-Some c =
    let known = c.args.numbers.now in
    let whole : names_of_found (find known c.args.target.now.name) ≡ target_names known c.args.target.now = search rules in
    c.in_ok-made-in-Some.ensures
    ∙ ap (λ (ns : List Name). map (place (all_names known)) ns)
    (whole_name known c.as_bytes-text.result.now c.in-Some.declared c.in-Some.ensures.range ∙ ap (λ (t : List ℕ). names_of_found (find known t)) c.as_bytes-text.ensures ∙ whole)
