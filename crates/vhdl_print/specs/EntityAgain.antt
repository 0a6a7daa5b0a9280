-- An entity that is written is read again.
use Rattle.std.specs.Prelude.{◌≡◌, ℕ, ◌+◌, ◌^◌, ◌<◌, ◌≤◌, List, [], ◌∷◌, Option, None, Some, Ok}
use Rattle.std.specs.List.{All}
use Rattle.vlsi_base.specs.declared.entity.Entity.{Entity}
use Rattle.vhdl_token.specs.Keyword.{keyword_of}
use Rattle.vhdl_lexer.specs.Listing.{tokens_in, refusal_in}
use Rattle.grammar_theory.specs.Marks.{uncounted}
use Rattle.grammar_theory.specs.declared.limits.TheConstants.{BITS}
use Rattle.grammar_theory.specs.Outcome.{Outcome, start}
use Rattle.grammar_theory.specs.Answers.{AnswersAll}
use Rattle.vhdl_front.specs.Entity.{entity}
use Rattle.spell_theory.specs.Words.{IsSmallWord}
use Rattle.spell_theory.specs.Layout.{text_of}
use Rattle.vhdl_print.specs.Outline.{Bounds, OnePort, Outline, entity_layout, placed_entity, port_bits, with_ports}

-- a word in lower case that isn't reserved
abbrev pub IsName : List ℕ → Type 0
IsName name = IsSmallWord name × (keyword_of name ≡ None)

-- the bounds have 32 bits
abbrev pub AreSmall : Option Bounds → Type 0
AreSmall None = Unit {0}
AreSmall (Some b) = (b.left < 2 ^ 32) × (b.right < 2 ^ 32)

-- no name stands among these ports
abbrev pub IsApart : List ℕ → List OnePort → Type 0
IsApart name ps = All (λ q. name ≡ q.name → ⊥) ps

-- no two ports have one name
abbrev pub AreApart : List OnePort → Type 0
AreApart [] = Unit {0}
AreApart (p ∷ ps) = IsApart p.name ps × AreApart ps

-- the bits of all ports together
abbrev pub all_bits : List OnePort → ℕ
all_bits [] = 0
all_bits (p ∷ ps) = port_bits p.bounds + all_bits ps

-- a port that can be written, whatever the others are
abbrev pub CanBeAPort : OnePort → Type 0
CanBeAPort p = IsName p.name × AreSmall p.bounds

-- Names are words, none of them reserved; numbers have 32 bits; no two ports have one name; and the bits are within the limit.
pub record CanBeWritten (e : Outline) : Type 0 where
  pub name : IsName e.name
  pub first : CanBeAPort e.first
  pub others : All CanBeAPort e.others
  pub apart : AreApart (e.first ∷ e.others)
  pub bits : all_bits (e.first ∷ e.others) ≤ BITS

-- The text has no place without a token, and of its tokens one answer is right: this entity.
pub record IsReadAs (text : List ℕ) (room : ℕ) (e : Outline) : Type 0 where
  pub cut : refusal_in text ≡ None
  pub read : (y : Outcome Entity) → AnswersAll (entity room) (start (tokens_in text).items) y
      → y ≡ Ok (placed_entity 1 e, record { state = with_ports (e.first ∷ e.others) uncounted; rest = [] })

-- What is laid out of an entity is read as it, where at least two parentheses may be open.
abbrev pub EntityIsReadAgain : Type 0
EntityIsReadAgain = (room : ℕ) (e : Outline) → 2 ≤ room → CanBeWritten e → IsReadAs (text_of (entity_layout e)) room e
