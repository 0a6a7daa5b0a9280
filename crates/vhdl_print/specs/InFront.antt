-- An entity in front of other tokens, as of an architecture.
use Rattle.std.specs.Prelude.{◌≡◌, ℕ, ◌≤◌, List, ◌∷◌, ◌++◌, Ok}
use Rattle.vlsi_base.specs.declared.entity.Entity.{Entity}
use Rattle.vhdl_token.specs.declared.token.PlacedToken.{PlacedToken}
use Rattle.grammar_theory.specs.Marks.{uncounted}
use Rattle.grammar_theory.specs.Outcome.{Outcome}
use Rattle.grammar_theory.specs.Answers.{Answers}
use Rattle.vhdl_front.specs.Entity.{entity}
use Rattle.spell_theory.specs.Layout.{placed}
use Rattle.vhdl_print.specs.Outline.{Outline, entity_layout, placed_entity, with_ports}
use Rattle.vhdl_print.specs.EntityAgain.{CanBeWritten}

-- Whatever tokens stand behind an entity that is laid out, one answer is right: this entity, and those tokens are left.
abbrev pub EntityIsReadInFront : Type 0
EntityIsReadInFront =
    (room : ℕ) (e : Outline) (line : ℕ) (rest : List PlacedToken) → 2 ≤ room → CanBeWritten e
    → (y : Outcome Entity)
    → Answers (entity room) (record { state = uncounted; rest = placed line (entity_layout e) ++ rest }) y
    → y ≡ Ok (placed_entity line e, record { state = with_ports (e.first ∷ e.others) uncounted; rest = rest })
