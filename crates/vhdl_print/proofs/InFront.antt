-- An entity in front of other tokens.
use Rattle.std.proofs.Common.{◌≡◌, ◌-◌, false, List, [], ◌∷◌, refl, arith}
use Rattle.std.proofs.lemmas.Bool.{ne_eqb}
use Rattle.vhdl_token.specs.declared.token.PlacedToken.{PlacedToken}
use Rattle.vhdl_token.specs.declared.keyword.Keyword.TheVariants as word
use Rattle.grammar_theory.specs.declared.form.Form.TheVariants as form
use Rattle.grammar_theory.specs.Tokens.{among}
use Rattle.grammar_theory.specs.Marks.{uncounted}
use Rattle.grammar_theory.proofs.Unique as unique
use Rattle.vhdl_front.specs.Entity.{entity}
use Rattle.vhdl_front.specs.EntityReading.{entity_at}
use Rattle.vhdl_front.proofs.Language.{numbers}
use Rattle.vhdl_front.proofs.EntityLanguage.{entity_answers, exact_entity}
use Rattle.spell_theory.specs.Layout.{placed}
use Rattle.spell_theory.proofs.Before.{spelled_before}
use Rattle.vhdl_print.specs.Outline.{entity_layout, placed_entity, with_ports}
use Rattle.vhdl_print.specs.InFront.{EntityIsReadInFront}
use Rattle.vhdl_print.proofs.Entities.{spell_entity}
use Rattle.vhdl_print.proofs.NewNames.{new_ports, new_to_none}

none_goes_on : (rest : List PlacedToken) → among [] rest ≡ false
none_goes_on [] = refl
none_goes_on (t ∷ ts) = refl

pub entity_is_read_in_front : EntityIsReadInFront
entity_is_read_in_front room e line rest deep can =
    let within = can.bits in
    let all = e.first ∷ e.others in
    let new = new_ports all uncounted can.apart (new_to_none all) (omega (arith, within)) in
    let r = spell_entity room e line uncounted refl (ne_eqb room 0 (omega (arith, deep))) (ne_eqb (room - 1) 0 (omega (arith, deep))) new in
    let firsts = numbers (form.Keyword word.Entity ∷ []) in
    let one = unique.one_answer (entity room) false firsts [] (exact_entity room).shape (entity_at room) (entity_answers room) in
    spelled_before (entity room) false firsts [] (exact_entity room).shape one (placed_entity line e) (placed line (entity_layout e)) rest uncounted (with_ports all uncounted) r (none_goes_on rest)
