-- Names that a text of VHDL can declare, and ports that its entity can declare.
use Rattle.std.specs.Prelude.{◌≡◌, ◌≤◌, ◌<◌, ℕ, ◌+◌, Bool, true, false, ◌&&◌, nat_eq, List, length, Option, None, Some, slice_index, slice_get}
use Rattle.std.specs.List.{All, list_all}
use Rattle.vlsi_base.specs.declared.name.Port.{Port}
use Rattle.vlsi_base.specs.Member.{In}
use Rattle.vhdl_token.specs.Keyword.{keyword_of}
use Rattle.spell_theory.specs.Words.{is_small_letter, is_in_small_word}

-- a letter in lower case, and behind it letters in lower case, digits and underscores, however many
abbrev pub is_word : List ℕ → Bool
is_word text = is_small_letter (slice_index text 0) && list_all is_in_small_word text

-- a word that isn't reserved
abbrev pub IsIdentifier : List ℕ → Type 0
IsIdentifier text = (is_word text ≡ true) × (keyword_of text ≡ None)

-- ---- in any order

-- a port bit of this text and number is among the ports
pub record HasBit (ports : List Port) (text : List ℕ) (k : ℕ) : Type 0 where
  pub port : Port
  pub declared : In port ports
  pub text_is : port.name.text ≡ text
  pub bit_is : port.name.bit ≡ Some k

-- Ports that an entity can declare: each text is an identifier, that of a scalar is no other port's, the bits of a text are all
-- numbers from the least to the greatest, and the ports of one text have one direction.
pub record ArePortsNamed (ports : List Port) : Type 0 where
  pub words : (p : Port) → In p ports → IsIdentifier p.name.text
  pub scalars : (p q : Port) → In p ports → In q ports → p.name.text ≡ q.name.text → p.name.bit ≡ None → q ≡ p
  pub whole : (p q : Port) (i j k : ℕ) → In p ports → In q ports → p.name.text ≡ q.name.text → p.name.bit ≡ Some i → q.name.bit ≡ Some j
      → i ≤ k → k ≤ j → HasBit ports p.name.text k
  pub directed : (p q : Port) → In p ports → In q ports → p.name.text ≡ q.name.text → p.dir ≡ q.dir

-- ---- in the order of names

-- both are bits, and the second has the next number
abbrev pub is_next_bit : Option ℕ → Option ℕ → Bool
is_next_bit (Some a) (Some b) = nat_eq b (a + 1)
is_next_bit (Some a) None = false
is_next_bit None b = false

-- the second is the next bit of the vector that the first is a bit of, and has its direction
pub record GoesOn (p q : Port) : Type 0 where
  pub bit : is_next_bit p.name.bit q.name.bit ≡ true
  pub dir : q.dir ≡ p.dir

-- Ports in the order of names that a text can declare. There are some; their texts are identifiers; and ports of one text, which
-- stand one behind the other, go on from one to the next: so a text is that of one scalar, or of the bits of one vector, which are
-- all numbers from the least to the greatest and have one direction.
pub record CanBePorts (ports : List Port) : Type 0 where
  pub some : 0 < length ports
  pub words : All (λ p. IsIdentifier p.name.text) ports
  pub runs : (k : ℕ) (p q : Port) → slice_get ports k ≡ Some p → slice_get ports (k + 1) ≡ Some q → p.name.text ≡ q.name.text → GoesOn p q
