-- The cells of a library, each from its two files, and the first that is none.
use Rattle.std.specs.Prelude.{◌≡◌, ℕ, List, [], ◌∷◌, ◌++◌, drop, get_or}
use Rattle.cell_model.specs.declared.cell.Cell.{Cell}
use Rattle.cell_lib.specs.declared.error.LibError.{LibError}
use Rattle.cell_lib.specs.declared.error.LibError.TheVariants as errors

-- a cell's name, and what stands in its files
pub record Source : Type 0 where
  pub name : List ℕ
  pub vbe : List ℕ
  pub ap : List ℕ

-- the cells with these names, whose files stand one behind the other
abbrev pub sources : List (List ℕ) → List (List ℕ) → List Source
sources [] files = []
sources (name ∷ names) files = record { name = name; vbe = get_or files 0 []; ap = get_or files 1 [] } ∷ sources names (drop 2 files)

-- each of these is a cell in its place
pub data AreCells (Makes : Source → Cell → Type 0) : List Source → List Cell → Type 0 where
  none : AreCells Makes [] []
  next : {source : Source} {rest : List Source} {cell : Cell} {cells : List Cell}
      → Makes source cell → AreCells Makes rest cells → AreCells Makes (source ∷ rest) (cell ∷ cells)

-- the first that is no cell is refused so
pub record IsFirstRefused (Makes : Source → Cell → Type 0) (Refuses : Source → LibError → Type 0) (all : List Source) (e : LibError) : Type 0 where
  pub before : List Source
  pub source : Source
  pub behind : List Source
  pub cells : List Cell
  pub all_are : all ≡ before ++ source ∷ behind
  pub made : AreCells Makes before cells
  pub refused : Refuses source e

-- the refusal, or memory has run out
abbrev pub OrMemory : (LibError → Type 0) → LibError → Type 0
OrMemory P errors.Memory = Unit {0}
OrMemory P e = P e
