-- The pins of placed cells stand in places of their own, within the rows.
use Rattle.std.proofs.Common.{◌≡◌, ℕ, ◌+◌, ◌*◌, ◌<◌, ◌≤◌, ⊎_elim, Bool, true, false, sym, ◌∙◌, subst, arith}
use Rattle.std.proofs.lemmas.Int.{ints}
use Rattle.block_geom.specs.Rect.{Meet}
use Rattle.block_geom.specs.Figure.{Bit}
use Rattle.block_geom.specs.Joined.{Linked, touching, Joined, same, link}
use Rattle.block_geom.specs.Block.{Block, Cell, cell_shapes, Passes, IsSound, flip_of, turned_row, pin_column, pin_row}
use Rattle.block_geom.proofs.Cells.{heights}
use Rattle.block_geom.proofs.Tracks.{pin_inside}

-- the square about an access node lies within the height of its cell
row_inside : (c : Cell) (p : ℕ) → Passes c → p < c.pins → (1 ≤ c.row p) × (c.row p ≤ 9)
row_inside c p ok lt =
    let a = ok.access p lt in let w = a.holds in let h = heights c a.pin ok a.within in let low = h.0 in let high = h.1 in
    (omega (arith, ints), omega (arith, ints))

turned_inside : (f : Bool) (r : ℕ) → 1 ≤ r → r ≤ 9 → (1 ≤ turned_row f r) × (turned_row f r ≤ 9)
turned_inside true r a b = (omega arith, omega arith)
turned_inside false r a b = (a, b)

turned_back : (f : Bool) (r s : ℕ) → r ≤ 9 → s ≤ 9 → turned_row f r ≡ turned_row f s → r ≡ s
turned_back true r s a b e = omega arith
turned_back false r s a b e = e

-- of one cell: rectangles over one access node are joined
one_pin : (c : Cell) (p q : ℕ) → Passes c → p < c.pins → q < c.pins → c.column p ≡ c.column q → c.row p ≡ c.row q → p ≡ q
one_pin c p q ok hp hq ec er =
    let a = ok.access p hp in let d = ok.access q hq in let wa = a.holds in let wd = d.holds in
    let m : Meet a.pin.rect d.pin.rect = omega (arith, ints) in
    let l : Linked a.pin d.pin = touching (ok.metal a.pin a.within ∙ sym (ok.metal d.pin d.within)) m in
    let j : Joined (cell_shapes c) a.pin d.pin = link d.within l same in
    let e = ok.apart d.pin (Bit p) (Bit q) (record { pin = a.pin; within = a.within; named = a.named; joined = j }) (record { pin = d.pin; within = d.within; named = d.named; joined = same }) in
    cc

module _ (b : Block) (ok : IsSound b) where
  -- within the rows and columns of the block
  pub pin_within : (i p : ℕ) → i < b.count → p < (b.cell i).pins → (3 ≤ pin_column b i p) × (pin_column b i p < 3 + b.columns) × (pin_row b i p < 10 * b.rows)
  pin_within i p hi hp =
      let x = pin_inside (b.cell i) p (ok.cells i hi) hp in
      let y = row_inside (b.cell i) p (ok.cells i hi) hp in
      let t = turned_inside (flip_of (b.row i)) ((b.cell i).row p) y.0 y.1 in
      let start = ok.start i hi in let end = ok.end i hi in let row = ok.row i hi in
      (omega arith, omega arith, omega arith)

  -- pins in one place are one
  pub pins_apart : (i p j q : ℕ) → i < b.count → p < (b.cell i).pins → j < b.count → q < (b.cell j).pins → pin_column b i p ≡ pin_column b j q
      → pin_row b i p ≡ pin_row b j q → (i ≡ j) × (p ≡ q)
  pins_apart i p j q hi hp hj hq ec er =
      let x = pin_inside (b.cell i) p (ok.cells i hi) hp in
      let y = pin_inside (b.cell j) q (ok.cells j hj) hq in
      let u = row_inside (b.cell i) p (ok.cells i hi) hp in
      let v = row_inside (b.cell j) q (ok.cells j hj) hq in
      let tu = turned_inside (flip_of (b.row i)) ((b.cell i).row p) u.0 u.1 in
      let tv = turned_inside (flip_of (b.row j)) ((b.cell j).row q) v.0 v.1 in
      let rows : b.row i ≡ b.row j = omega arith in
      ⊎_elim (λ s. (s, in_cell s hq ec er)) (⊎_elim (λ h. absurd (omega arith)) (λ h. absurd (omega arith))) (ok.abut i j hi hj rows)
    where
      same_cell : q < (b.cell i).pins → pin_column b i p ≡ pin_column b i q → pin_row b i p ≡ pin_row b i q → p ≡ q
      same_cell h c r =
          let u = row_inside (b.cell i) p (ok.cells i hi) hp in
          let v = row_inside (b.cell i) q (ok.cells i hi) h in
          one_pin (b.cell i) p q (ok.cells i hi) hp h (omega arith) (turned_back (flip_of (b.row i)) ((b.cell i).row p) ((b.cell i).row q) u.1 v.1 (omega arith))

      in_cell : i ≡ j → q < (b.cell j).pins → pin_column b i p ≡ pin_column b j q → pin_row b i p ≡ pin_row b j q → p ≡ q
      in_cell s = subst (λ k. q < (b.cell k).pins → pin_column b i p ≡ pin_column b k q → pin_row b i p ≡ pin_row b k q → p ≡ q) s same_cell
