use Rattle.std.proofs.Common.{◌≡◌, ℕ, map, ap, ◌∙◌, arith}
use Rattle.std.proofs.lemmas.Grind.{common_steps}
use Rattle.source_checks.specs.Symbols.{all_names}
use Rattle.source_bits.specs.Numbering.{named_bit, number_in}
use Rattle.source_bits.proofs.DrivenBits.{places_of}
use Rattle.source_bits.proofs.driven.places.Goals as goal

pub returns : goal.returns
returns c =
    let declared = c.declared-declared.result in
    let text = c.args.text.now in
    let total = c.total-total.result in
    let here : c.loop-bit.made.items ≡ map (λ b. number_in total declared (named_bit text b)) c.args.bits.now = grind (arith, common_steps) in
    here ∙ places_of (all_names c.args.numbers.now) total declared text c.args.bits.now (λ b. ap (λ (n : ℕ). number_in n declared (named_bit text b)) c.total-total.ensures ∙ c.declared-declared.ensures.number b)

pub loop-bit-preserved : goal.loop-bit-preserved
loop-bit-preserved c = grind (arith, common_steps, c.number_in.ensures c.args.text.now)
