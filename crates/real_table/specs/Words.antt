-- The words of a table: symbolic layers and contacts, and names of real layers.
use Rattle.std.specs.Prelude.{ℕ, ◌==◌, Bool, ◌&&◌, ◌||◌, nat_le, nat_eq, bytes_eq, List, [], ◌∷◌, length, drop, slice_index, codes}
use Rattle.std.specs.List.{list_all, list_any, starts_with}
use Rattle.std.specs.Char.{is_ascii_digit, is_ascii_alphabetic}
use Rattle.real_table.specs.declared.words.TheConstants.{MOST_NAME_BYTES}

-- one digit from 1 to 9
abbrev pub is_level : List ℕ → Bool
is_level text = length text == 1 && nat_le 49 (slice_index text 0) && nat_le (slice_index text 0) 57

-- this word, and a level behind it
abbrev pub is_level_of : List ℕ → List ℕ → Bool
is_level_of family word = starts_with nat_eq word family && is_level (drop (length family) word)

-- a well, or a tie
unfoldable pub is_well_layer : List ℕ → Bool
is_well_layer word = list_any (bytes_eq word) (codes "NWELL" ∷ codes "PWELL" ∷ codes "NTIE" ∷ codes "PTIE" ∷ [])

-- a diffusion
unfoldable pub is_diffusion_layer : List ℕ → Bool
is_diffusion_layer word = list_any (bytes_eq word) (codes "NDIF" ∷ codes "PDIF" ∷ [])

-- a transistor
unfoldable pub is_transistor_layer : List ℕ → Bool
is_transistor_layer word = bytes_eq word (codes "NTRANS") || bytes_eq word (codes "PTRANS")

-- polysilicon, or where it is kept out
unfoldable pub is_gate_layer : List ℕ → Bool
is_gate_layer word = list_any (bytes_eq word) (codes "POLY" ∷ codes "TPOLY" ∷ [])

-- a layer of a metal
unfoldable pub is_metal_layer : List ℕ → Bool
is_metal_layer word = is_level_of (codes "ALU") word || is_level_of (codes "CALU") word || is_level_of (codes "TALU") word

-- a symbolic layer, as ap files name it
abbrev pub is_layer : List ℕ → Bool
is_layer word = is_well_layer word || is_diffusion_layer word || is_transistor_layer word || is_gate_layer word || is_metal_layer word

-- a contact's word begins with CONT_ or C_X_
unfoldable pub is_contact : List ℕ → Bool
is_contact word = starts_with nat_eq word (codes "CONT_") || starts_with nat_eq word (codes "C_X_")

-- a letter, a digit or an underscore
abbrev pub is_in_word : ℕ → Bool
is_in_word b = is_ascii_alphabetic b || is_ascii_digit b || b == 95

-- a letter, and then letters, digits and underscores
abbrev pub is_identifier : List ℕ → Bool
is_identifier text = is_ascii_alphabetic (slice_index text 0) && list_all is_in_word text

-- the name of a real layer, or of a process: an identifier of at most 64 bytes
abbrev pub is_name : List ℕ → Bool
is_name word = is_identifier word && nat_le (length word) MOST_NAME_BYTES
