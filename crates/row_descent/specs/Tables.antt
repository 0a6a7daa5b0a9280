-- What is kept beside rows of cells.
use Rattle.std.specs.Prelude.{◌≡◌, ◌≤◌, ◌<◌, ◌^◌, ℕ, ◌+◌, List, [], true, length, map, slice_index, slice_index_or}
use Rattle.std.specs.List.{All}
use Rattle.std.specs.Global.{Vec}
use Rattle.row_meaning.specs.declared.Pin.{Pin}
use Rattle.row_meaning.specs.Rows.{x_of, times, row_at, cell_at, row_width, stands_in}
use Rattle.row_meaning.specs.Length.{Block}
use Rattle.row_descent.specs.declared.table.Table.{Table}
use Rattle.row_descent.specs.Spans.{limit, span_of, total_of}

-- rows, nets and lists of nets as lists
abbrev pub rows_of : List (Vec ℕ) → List (List ℕ)
rows_of rows = map (λ v. v.items) rows

abbrev pub nets_in : List (Vec Pin) → List (List Pin)
nets_in nets = map (λ v. v.items) nets

abbrev pub net_at : List (List Pin) → ℕ → List Pin
net_at nets k = slice_index_or nets k []

-- a pin of one of the cells, which doesn't stand outside it
abbrev pub IsPinOf : List ℕ → Pin → Type 0
IsPinOf widths p = (p.cell < length widths) × (p.x ≤ slice_index widths p.cell)

-- cells that can stand in rows: no pin lies outside its cell, and there are not too many nets
pub record IsBlock (b : Block) : Type 0 where
  pub few : length b.nets < 2 ^ 32
  pub pins : All (λ net. All (IsPinOf b.widths) net) b.nets

-- the rows hold cells of the block, and none twice
pub record AreRowsOf (b : Block) (rows : List (List ℕ)) : Type 0 where
  pub cells : (r k : ℕ) → k < length (row_at rows r) → cell_at rows r k < length b.widths
  pub once : (c : ℕ) → times rows c ≤ 1

-- where each cell begins, by number
pub record AreStarts (b : Block) (rows : List (List ℕ)) (starts : List ℕ) : Type 0 where
  pub many : length starts ≡ length b.widths
  pub each : (c : ℕ) → c < length b.widths → slice_index starts c ≡ x_of b.widths b.left rows c 0
  pub near : (c : ℕ) → c < length b.widths → slice_index starts c + slice_index b.widths c ≤ limit

-- for each cell at least the nets of its pins
pub record AreNetsOf (b : Block) (lists : List (List ℕ)) : Type 0 where
  pub many : length lists ≡ length b.widths
  pub inside : (c : ℕ) → c < length b.widths → All (λ k. k < length b.nets) (row_at lists c)
  pub listed : (k : ℕ) → k < length b.nets → All (λ p. stands_in (row_at lists p.cell) k ≡ true) (net_at b.nets k)

pub record IsTableOf (b : Block) (rows : List (List ℕ)) (t : Table) : Type 0 where
  pub starts : AreStarts b rows t.starts.items
  pub spans : t.spans.items ≡ map (span_of t.starts.items) b.nets
  pub total : t.total ≡ total_of t.spans.items
  pub nets : AreNetsOf b (rows_of t.nets_of.items)

pub record IsReady (b : Block) (rows : List (List ℕ)) (t : Table) : Type 0 where
  pub block : IsBlock b
  pub placed : AreRowsOf b rows
  pub table : IsTableOf b rows t

-- no row reaches far, and no cell is wide
pub record AreNarrow (b : Block) (rows : List (List ℕ)) : Type 0 where
  pub wide : All (λ w. w ≤ limit) b.widths
  pub narrow : All (λ row. b.left + row_width b.widths row ≤ limit) rows

-- one net is put into the lists of the cells of some pins
pub record Lists (net : ℕ) (pins : List Pin) (old new : List (List ℕ)) : Type 0 where
  pub kept : (c k : ℕ) → stands_in (row_at old c) k ≡ true → stands_in (row_at new c) k ≡ true
  pub listed : All (λ p. stands_in (row_at new p.cell) net ≡ true) pins
  pub inside : (most c : ℕ) → net < most → All (λ k. k < most) (row_at old c) → All (λ k. k < most) (row_at new c)

-- the nets so far are listed, and no others than there are
pub record AreListed (nets : List (List Pin)) (so_far : ℕ) (lists : List (List ℕ)) : Type 0 where
  pub inside : (c : ℕ) → All (λ k. k < length nets) (row_at lists c)
  pub listed : (k : ℕ) → k < so_far → All (λ p. stands_in (row_at lists p.cell) k ≡ true) (net_at nets k)
