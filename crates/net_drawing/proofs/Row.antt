-- The block by numbers of a netlist in one row that may be drawn by private tracks.
use Rattle.std.proofs.Common.{ℕ, ◌<◌, inl, inr, ⊎_elim, List, length, sym, subst, arith}
use Rattle.std.proofs.lemmas.Bool.{cases_lt}
use Rattle.vlsi_base.specs.declared.name.Name as name
use Rattle.cell_model.specs.Library.{Library}
use Rattle.net_meaning.specs.Netlist.{AbstractNetlist}
use Rattle.block_geom.specs.Block.{Block, HasOwnColumns, IsSound}
use Rattle.net_drawing.specs.Drawing.{Numbering, IsDrawable}
use Rattle.net_drawing.proofs.Coding.{In_get}
use Rattle.net_drawing.proofs.Cells.{own_columns}
use Rattle.net_drawing.proofs.Numbers.{column_at, all_columns, column_low, column_end, column_step, has_some, pin_xs}
use Rattle.net_drawing.proofs.Block.{Places, block_with, member_there, cell_is, cell_passes}

-- one row, from column 3 on; nets with pins have tracks
abbrev pub row_places : AbstractNetlist → Library → Numbering → List name.Name → Places
row_places n l net ports = record {
  column = λ i. column_at l 3 n.instances i;
  row = λ i. 0;
  many = λ k. has_some (pin_xs n l net k);
  rows = 1;
  columns = all_columns l n.instances;
}

abbrev pub block_of : AbstractNetlist → Library → Numbering → List name.Name → Block
block_of n l net ports = block_with n l net ports (row_places n l net ports)

module _ (n : AbstractNetlist) (l : Library) (net : Numbering) (ports : List name.Name) (ok : IsDrawable n l net ports) where
  pub sound : IsSound (block_of n l net ports)
  sound = record {
    cells = λ i lt. cell_passes n l net ports (row_places n l net ports) ok.nets i lt;
    start = λ i lt. column_low l 3 n.instances i;
    end = λ i lt. column_end l 3 n.instances i lt;
    row = λ i lt. omega arith;
    abut = λ i j hi hj e.
        ⊎_elim
        (λ lt. inr (inl (column_step l 3 n.instances i j lt hj)))
        (λ ge. ⊎_elim (λ gt. inr (inr (column_step l 3 n.instances j i gt hi))) (λ le. inl (omega arith)) (cases_lt j i))
        (cases_lt i j);
  }

  pub cells_own : (i : ℕ) → i < length n.instances → HasOwnColumns ((block_of n l net ports).cell i)
  cells_own i lt =
      let r = member_there n l net ports (row_places n l net ports) ok.nets i lt in
      let differ = ok.columns r.0 r.2.cell (In_get n.instances i r.0 r.1) r.2.found in
      subst HasOwnColumns (sym (cell_is n l net ports (row_places n l net ports) ok.nets i r.0 r.2 r.1)) (own_columns r.2.cell r.2.usable r.2.clean differ)
