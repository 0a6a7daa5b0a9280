use Rattle.std.proofs.Common.{rules, ◌≡◌, ◌∙◌, ◌≤◌, ◌+◌, List, length, None, Some, refl, sym, ap, subst}
use Rattle.vlsi_base.specs.declared.range.Range.{Range}
use Rattle.source_checks.specs.declared.statement.Selection.{Selection}
use Rattle.source_checks.specs.declared.statement.Selection.TheVariants as selection
use Rattle.source_checks.specs.Symbols.{all_names, find}
use Rattle.source_checks.specs.Drivers.{target_names}
use Rattle.fsm_text.specs.Chains.{counted_bits, range_found}
use Rattle.fsm_text.proofs.Clipped.{selecting, bits_selected, bit_selected, same_counted, neither_counted, few_bits, few_bit, few_other}
use Rattle.fsm_text.proofs.clipping.declared_part.Goals as goal
use Rattle.fsm_text.proofs.clipping.declared_part.Goals.{in-Some, in-None}

-- no range is selected
pub returns-in_default : goal.returns-in_default
returns-in_default c =
    let other : (r : Range) → c.args.target.selection ≡ bits_selected r → ⊥ = c.in_default.not-Bits in
    record { counted = refl; few = few_other c.args.table.now c.args.target other }

pub returns-clause-counted : goal.returns-clause-counted
returns-clause-counted c =
    let known = c.args.table.now in
    let name = c.args.target.name in
    let line = c.args.target.line in
    let counted = λ (s : Selection). counted_bits known (selecting name line s) in
    let bits = c.in-Bits.bits in
    let is : c.args.target.selection ≡ bits_selected bits = search rules in
    elim c.match-declared_range.branch [
      | in-Some w ↦
          let made : c.match-declared_range.selection ≡ bits_selected w.clipped.result = search rules in
          let found : range_found (find known name) ≡ Some w.in-Some.within = search rules in
          ap counted made ∙ same_counted known name line bits w.clipped.result w.in-Some.within c.requires.different found w.clipped.ensures.same ∙ ap counted (sym is)
      | in-None w ↦
          let made : c.match-declared_range.selection ≡ bit_selected bits.left = search rules in
          let found : range_found (find known name) ≡ None = search rules in
          ap counted made ∙ neither_counted known name line bits bits.left c.requires.different found ∙ ap counted (sym is)
    ]

pub returns-clause-few : goal.returns-clause-few
returns-clause-few c =
    let known = c.args.table.now in
    let name = c.args.target.name in
    let line = c.args.target.line in
    let Few = λ (s : Selection). length (target_names known (selecting name line s)) ≤ length (all_names known) + 1 in
    elim c.match-declared_range.branch [
      | in-Some w ↦
          let made : c.match-declared_range.selection ≡ bits_selected w.clipped.result = search rules in
          let found : range_found (find known name) ≡ Some w.in-Some.within = search rules in
          subst Few (sym made) (few_bits known name line w.clipped.result w.in-Some.within found w.clipped.ensures.few)
      | in-None w ↦
          let made : c.match-declared_range.selection ≡ bit_selected c.in-Bits.bits.left = search rules in
          subst Few (sym made) (few_bit known name line c.in-Bits.bits.left)
    ]
