-- The lines of a table of a process.
use Rattle.std.specs.Prelude.{◌≡◌, ◌⊎◌, ℕ, ◌+◌, ◌*◌, ◌≤◌, IsTrue, Bool, nat_eq, ℤ, pos, List, [], length, codes}
use Rattle.std.specs.List.{starts_with}
use Rattle.real_table.specs.declared.table.TheConstants.{MOST_LENGTH, MOST_GDS, MOST_METAL}
use Rattle.real_table.specs.declared.table.Growth.{Growth}
use Rattle.real_table.specs.declared.table.Rule.{Rule}
use Rattle.real_table.specs.declared.table.Entry.{Entry}
use Rattle.real_table.specs.declared.table.Entry.TheVariants as entry
use Rattle.real_table.specs.Fields.{fields_of, at, IsNumberIn, IsSignedIn}
use Rattle.real_table.specs.Words.{is_layer, is_contact, is_name}

-- the field of a line
abbrev pub word_at : List ℕ → ℕ → List ℕ
word_at line k = at (fields_of line) k

-- a length in real units, which may be below 0
abbrev pub IsLengthAt : List ℕ → ℕ → ℤ → Type 0
IsLengthAt line k n = IsSignedIn MOST_LENGTH (word_at line k) n

-- the line ends before field k, and nothing is moved; or two lengths stand there, by which boxes move, and the line ends behind them
pub data IsMove (line : List ℕ) (k : ℕ) (x y : ℤ) : Type 0 where
  none : length (fields_of line) ≡ k → x ≡ pos 0 → y ≡ pos 0 → IsMove line k x y
  some : length (fields_of line) ≡ k + 2 → IsLengthAt line k x → IsLengthAt line (k + 1) y → IsMove line k x y

-- `segment LAYER REAL DL DW` or `segment LAYER REAL DL DW OX OY`: how the boxes on REAL of segments on LAYER grow and move
pub record IsSegmentHead (line : List ℕ) : Type 0 where
  pub word : word_at line 0 ≡ codes "segment"
  pub layer : IsTrue (is_layer (word_at line 1))
  pub real : IsTrue (is_name (word_at line 2))

pub record IsSegmentGrowth (line : List ℕ) (g : Growth) : Type 0 where
  pub along : IsLengthAt line 3 g.along
  pub across : IsLengthAt line 4 g.across
  pub move : IsMove line 5 g.x g.y

pub record IsSegmentLine (line : List ℕ) (r : Rule) : Type 0 where
  pub head : IsSegmentHead line
  pub growth : IsSegmentGrowth line r.growth
  pub word : r.word ≡ word_at line 1
  pub real : r.real ≡ word_at line 2

-- `contact WORD REAL SIZE` or `contact WORD REAL SIZE OX OY`: a contact's point grows by half of the size in all directions
pub record IsContactHead (line : List ℕ) : Type 0 where
  pub word : word_at line 0 ≡ codes "contact"
  pub contact : IsTrue (is_contact (word_at line 1))
  pub real : IsTrue (is_name (word_at line 2))

pub record IsContactGrowth (line : List ℕ) (g : Growth) : Type 0 where
  pub half : ℕ
  pub size : IsNumberIn 2 MOST_LENGTH (word_at line 3) (2 * half)
  pub along : g.along ≡ pos half
  pub across : g.across ≡ pos half
  pub move : IsMove line 4 g.x g.y

pub record IsContactLine (line : List ℕ) (r : Rule) : Type 0 where
  pub head : IsContactHead line
  pub growth : IsContactGrowth line r.growth
  pub word : r.word ≡ word_at line 1
  pub real : r.real ≡ word_at line 2

-- `metal M REAL`
pub record IsMetalLine (line : List ℕ) (metal : ℕ) (real : List ℕ) : Type 0 where
  pub count : length (fields_of line) ≡ 3
  pub word : word_at line 0 ≡ codes "metal"
  pub number : IsNumberIn 1 MOST_METAL (word_at line 1) metal
  pub name : IsTrue (is_name (word_at line 2))
  pub real_is : real ≡ word_at line 2

-- `space REAL GAP`
pub record IsSpaceLine (line : List ℕ) (real : List ℕ) (gap : ℕ) : Type 0 where
  pub count : length (fields_of line) ≡ 3
  pub word : word_at line 0 ≡ codes "space"
  pub name : IsTrue (is_name (word_at line 1))
  pub number : IsNumberIn 0 MOST_LENGTH (word_at line 2) gap
  pub real_is : real ≡ word_at line 1

-- `label LAYER REAL`
pub record IsLabelLine (line : List ℕ) (layer real : List ℕ) : Type 0 where
  pub count : length (fields_of line) ≡ 3
  pub word : word_at line 0 ≡ codes "label"
  pub known : IsTrue (is_layer (word_at line 1))
  pub name : IsTrue (is_name (word_at line 2))
  pub layer_is : layer ≡ word_at line 1
  pub real_is : real ≡ word_at line 2

-- `gds REAL LAYER DATATYPE`: the numbers of a real layer in a GDSII file, which others read
pub record IsGdsLine (line : List ℕ) : Type 0 where
  pub count : length (fields_of line) ≡ 4
  pub word : word_at line 0 ≡ codes "gds"
  pub name : IsTrue (is_name (word_at line 1))
  pub layer : (n : ℕ) × IsNumberIn 0 MOST_GDS (word_at line 2) n
  pub datatype : (n : ℕ) × IsNumberIn 0 MOST_GDS (word_at line 3) n

-- nothing, or a remark
abbrev pub IsRemark : List ℕ → Type 0
IsRemark line = (line ≡ []) ⊎ IsTrue (starts_with nat_eq line (codes "#"))

-- what a line says
pub data IsEntry (line : List ℕ) : Entry → Type 0 where
  segment : (r : Rule) → IsSegmentLine line r → IsEntry line (entry.Rule r)
  contact : (r : Rule) → IsContactLine line r → IsEntry line (entry.Rule r)
  metal : (m : ℕ) (real : List ℕ) → IsMetalLine line m real → IsEntry line (entry.Metal m real)
  space : (real : List ℕ) (gap : ℕ) → IsSpaceLine line real gap → IsEntry line (entry.Space real gap)
  label : (layer real : List ℕ) → IsLabelLine line layer real → IsEntry line (entry.Label layer real)
  gds : IsGdsLine line → IsEntry line entry.Nothing
  remark : IsRemark line → IsEntry line entry.Nothing

abbrev pub IsNoEntry : List ℕ → Type 0
IsNoEntry line = (e : Entry) → IsEntry line e → ⊥
