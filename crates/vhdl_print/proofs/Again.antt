-- The text of an entity is read again.
use Rattle.std.proofs.Common.{◌≡◌, ℕ, ◌-◌, ◌==◌, true, false, not, ◌&&◌, List, [], ◌∷◌, ◌++◌, Option, None, Some, refl, arith}
use Rattle.std.proofs.lemmas.Bool.{ne_eqb}
use Rattle.std.specs.List.{All}
use Rattle.std.proofs.lemmas.List.Elements.{All-head, All-tail}
use Rattle.vhdl_token.specs.declared.keyword.Keyword.TheVariants as word
use Rattle.vhdl_token.specs.declared.token.Sign.TheVariants as sign
use Rattle.lexer_base.specs.Bytes.{is_in_word}
use Rattle.vhdl_lexer.specs.Listing.{tokens_in, refusal_in}
use Rattle.grammar_theory.specs.declared.form.Form.TheVariants as form
use Rattle.grammar_theory.specs.Marks.{uncounted}
use Rattle.grammar_theory.specs.Unique.{OneAnswerToAll}
use Rattle.grammar_theory.proofs.Unique as unique
use Rattle.vhdl_front.specs.Entity.{entity}
use Rattle.vhdl_front.specs.EntityReading.{entity_at}
use Rattle.vhdl_front.proofs.Language.{numbers}
use Rattle.vhdl_front.proofs.EntityLanguage.{entity_answers, exact_entity}
use Rattle.spell_theory.specs.Layout.{turn}
use Rattle.spell_theory.proofs.Layouts.{first_byte}
use Rattle.spell_theory.proofs.Whole.{again}
use Rattle.vhdl_print.specs.Outline.{Bounds, OnePort, Outline, a_sign, type_layout, port_layout, ports_layout, end_layout, entity_layout, placed_entity, with_ports}
use Rattle.vhdl_print.specs.EntityAgain.{IsName, AreSmall, CanBeAPort, CanBeWritten, EntityIsReadAgain}
use Rattle.vhdl_print.proofs.VhdlLexer.{vhdl, Fit, fit_both}
use Rattle.vhdl_print.proofs.Entities.{spell_entity}
use Rattle.vhdl_print.proofs.NewNames.{new_ports, new_to_none}

-- a word may stand before this byte
abbrev pub EndsWord : ℕ → Type 0
EndsWord b = (not (is_in_word b) && not (b == 34)) ≡ true

pub fit_type : (o : Option Bounds) (next : ℕ) → AreSmall o → EndsWord next → Fit (type_layout o) next
fit_type None next small ends = ((tt, ends), tt)
fit_type (Some b) next small ends = ((tt, refl), ((tt, refl), ((small.0, refl), ((tt, refl), ((small.1, refl), ((tt, refl), tt))))))

pub fit_port : (p : OnePort) (next : ℕ) → CanBeAPort p → EndsWord next → Fit (port_layout p) next
fit_port p next can ends = ((can.0, refl), ((tt, refl), ((tt, refl), fit_type p.bounds next can.1 ends)))

pub ends_before : (ps : List OnePort) (next : ℕ) → EndsWord next → EndsWord (first_byte (ports_layout ps) next)
ends_before [] next ends = ends
ends_before (p ∷ ps) next ends = refl

pub fit_ports : (ps : List OnePort) (next : ℕ) → All CanBeAPort ps → EndsWord next → Fit (ports_layout ps) next
fit_ports [] next can ends = tt
fit_ports (p ∷ ps) next can ends =
    let behind = first_byte (ports_layout ps) next in
    fit_both (a_sign sign.Semicolon ∷ turn ∷ port_layout p) (ports_layout ps) next
    ((tt, refl), fit_port p behind (All-head CanBeAPort p ps can) (ends_before ps next ends))
    (fit_ports ps next (All-tail CanBeAPort p ps can) ends)

fit_end : (name : List ℕ) (next : ℕ) → IsName name → Fit (end_layout name) next
fit_end name next is = ((tt, refl), ((tt, refl), ((tt, refl), ((is, refl), ((tt, refl), tt)))))

fit_behind : (ps : List OnePort) (name : List ℕ) (next : ℕ) → All CanBeAPort ps → IsName name → Fit (ports_layout ps ++ end_layout name) next
fit_behind ps name next can is = fit_both (ports_layout ps) (end_layout name) next (fit_ports ps 41 can refl) (fit_end name next is)

behind_ports : (ps : List OnePort) (name : List ℕ) (next : ℕ) → EndsWord (first_byte (ports_layout ps ++ end_layout name) next)
behind_ports [] name next = refl
behind_ports (p ∷ ps) name next = refl

pub fit_entity : (e : Outline) (next : ℕ) → CanBeWritten e → Fit (entity_layout e) next
fit_entity e next can =
    let more = ports_layout e.others ++ end_layout e.name in (
      (tt, refl),
      (
        (can.name, refl),
        (
          (tt, refl),
          (
            (tt, refl),
            (
              (tt, refl),
              fit_both (port_layout e.first) more next (fit_port e.first (first_byte more next) can.first (behind_ports e.others e.name next)) (fit_behind e.others e.name next can.others can.name),
            ),
          ),
        ),
      ),
    )

one_answer : (room : ℕ) → OneAnswerToAll (entity room)
one_answer room = unique.one_answer_to_all (entity room) false (numbers (form.Keyword word.Entity ∷ [])) [] (exact_entity room).shape (entity_at room) (entity_answers room)

pub entity_is_read_again : EntityIsReadAgain
unfolding tokens_in refusal_in
entity_is_read_again room e deep can =
    let within = can.bits in
    let all = e.first ∷ e.others in
    let new = new_ports all uncounted can.apart (new_to_none all) (omega (arith, within)) in
    let r = spell_entity room e 1 uncounted refl (ne_eqb room 0 (omega (arith, deep))) (ne_eqb (room - 1) 0 (omega (arith, deep))) new in
    let a = again vhdl (entity room) (placed_entity 1 e) (entity_layout e) (with_ports all uncounted) (fit_entity e 0 can) r (one_answer room) in
    record { cut = a.cut; read = a.read }
