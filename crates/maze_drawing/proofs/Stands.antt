-- The block by numbers of a placed netlist is sound.
use Rattle.std.proofs.Common.{◌≡◌, ℕ, ◌+◌, ◌*◌, ◌<◌, ◌≤◌, ◌⊎◌, inl, inr, ⊎_elim, Bool, true, false, List, [], length, Option, Some, None, refl, sym, ap, ◌∙◌, subst, arith, max, if◌then◌else◌}
use Rattle.std.specs.Prelude.{pos, slice_get, flat_map, ◌/◌}
use Rattle.std.specs.Int.{int_max}
use Rattle.std.proofs.lemmas.Int.{ints, int_max_is}
use Rattle.std.proofs.lemmas.List.{length-map}
use Rattle.std.proofs.lemmas.Option.{slice_get_within}
use Rattle.std.proofs.lemmas.List.Sorted.{IsPermutation-sym}
use Rattle.std.proofs.Math.Nat.{mul-div_cancel_left}
use Rattle.vlsi_base.specs.Member.{In}
use Rattle.sym_geom.specs.declared.rect.Transform.TheVariants.{NoSym}
use Rattle.sym_geom.specs.declared.item.Instance.{Instance}
use Rattle.cell_model.specs.Library.{Library, cell_of}
use Rattle.net_meaning.specs.Netlist.{Member, AbstractNetlist}
use Rattle.ocp_rows.specs.Placement.{Placement, natural, standing, standing_rows, turn_of, rows_width, block_width, block_columns}
use Rattle.block_geom.specs.Block.{Block, IsSound, flip_of}
use Rattle.net_drawing.specs.Drawing.{Numbering}
use Rattle.net_drawing.proofs.Coding.{In_get, get_there, columns_of}
use Rattle.net_drawing.proofs.Numbers.{columns_wide, member_or, cell_or, IsModel}
use Rattle.grid_core.specs.Routes.{NetRoutes}
use Rattle.maze_drawing.specs.Wiring.{Wiring}
use Rattle.maze_drawing.specs.Law.{IsRouted}
use Rattle.net_drawing.proofs.Block.{Places, block_with, model_of, own_is, cell_passes}
use Rattle.net_drawing.proofs.Showing.{owners_apart}
use Rattle.maze_drawing.proofs.Rows.{permuted_in, In_flat, get_map, member_of, IsInRow, in_row, beside, in_rows, widest, widest_is, widest_holds}

abbrev pub instance_or : Option Instance → Instance
instance_or None = record { x = pos 0; y = pos 0; model = []; name = []; transform = NoSym }
instance_or (Some i) = i

abbrev pub put_of : Library → Placement → List Instance → Places
put_of l p instances = record {
  column = λ i. natural (instance_or (slice_get instances i)).x / 500;
  row = λ i. natural (instance_or (slice_get instances i)).y / 5000;
  many = λ k. true;
  rows = length p.rows;
  columns = block_columns l p;
}

abbrev pub block_at : AbstractNetlist → Library → Numbering → Placement → List Instance → Block
block_at n l net p instances = block_with n l net p.ports (put_of l p instances)

pub rows_of : (k : ℕ) → natural (pos (5000 * k)) / 5000 ≡ k
rows_of k = mul-div_cancel_left k (omega arith)

module _ (n : AbstractNetlist) (l : Library) (net : Numbering) (p : Placement) (instances : List Instance) (metals : ℕ) (routes : NetRoutes) (w : Wiring) (ok : IsRouted n l net p instances metals routes w) where
  pub models : (one : Member) → In one n.instances → IsModel l one
  models one h = model_of n l net p.ports (put_of l p instances) ok.nets one h

  pub row_models : (row : List Member) → In row p.rows → (m : Member) → In m row → IsModel l m
  row_models row h m g = models m (permuted_in n.instances (flat_map (λ r. r) p.rows) m (IsPermutation-sym _ _ ok.each_once) (In_flat (λ r. r) p.rows row m h g))

  pub as_many : length instances ≡ length n.instances
  as_many = sym (length-map instances member_of) ∙ ap length ok.listed

  -- the instance of number i, and where it stands
  pub record Site (i : ℕ) (one : Instance) : Type 0 where
    pub at : slice_get instances i ≡ Some one
    pub listed : slice_get n.instances i ≡ Some (member_of one)
    pub model : IsModel l (member_of one)
    pub row : ℕ
    pub members : List Member
    pub row_at : slice_get p.rows row ≡ Some members
    pub within : In one (standing l (turn_of (flip_of row)) (pos (5000 * row)) (pos 1500) members)
    pub spot : IsInRow l (turn_of (flip_of row)) (pos (5000 * row)) 3 members one

  pub site_of : (i : ℕ) (one : Instance) → slice_get instances i ≡ Some one → Site i one
  site_of i one e =
      let r = in_rows l p.rows 0 false (pos 0) refl refl one (permuted_in (standing_rows l false (pos 0) p.rows) instances one ok.stands (In_get instances i one e)) in
      let z : 0 + r.row ≡ r.row = omega arith in
      let here = subst (λ v. In one (standing l (turn_of (flip_of v)) (pos (5000 * v)) (pos 1500) r.members)) z r.within in
      let all = row_models r.members (In_get p.rows r.row r.members r.listed) in
      let m : slice_get n.instances i ≡ Some (member_of one) = subst (λ v. slice_get v i ≡ Some (member_of one)) ok.listed (get_map member_of instances i one e) in
      record {
        at = e;
        listed = m;
        model = models (member_of one) (In_get n.instances i (member_of one) m);
        row = r.row;
        members = r.members;
        row_at = r.listed;
        within = here;
        spot = in_row l (turn_of (flip_of r.row)) (pos (5000 * r.row)) r.members (pos 1500) 3 refl all one here;
      }

  pub site : (i : ℕ) → i < length n.instances → (one : Instance) × Site i one
  site i lt = let a = as_many in let r = get_there instances i (omega arith) in (r.0, site_of i r.0 r.1)

  pub column_is : (i : ℕ) (one : Instance) (s : Site i one) → (block_at n l net p instances).column i ≡ s.spot.column
  column_is i one s = ap (λ o. natural (instance_or o).x / 500) s.at ∙ ap (λ v. natural v / 500) s.spot.x ∙ columns_of s.spot.column

  pub row_is : (i : ℕ) (one : Instance) (s : Site i one) → (block_at n l net p instances).row i ≡ s.row
  row_is i one s = ap (λ o. natural (instance_or o).y / 5000) s.at ∙ ap (λ v. natural v / 5000) s.spot.y_is ∙ rows_of s.row

  pub width_is : (i : ℕ) (one : Instance) (s : Site i one) → ((block_at n l net p instances).cell i).width ≡ columns_wide l (member_of one)
  width_is i one s = ap (λ o. (cell_or (cell_of l (member_or o).model)).width) s.listed

  -- ---- how wide the block is
  pub width_of_block : block_width l p ≡ pos (500 * max (widest l p.rows) (length p.ports + 1))
  width_of_block =
      let a : block_width l p ≡ int_max (rows_width l p.rows) (pos (500 * (length p.ports + 1))) = ap (λ (v : Bool). if v then rows_width l p.rows else int_max (rows_width l p.rows) (pos (500 * (length p.ports + 1)))) ok.no_tracks in
      let b = widest_is l p.rows row_models in
      let c = int_max_is (rows_width l p.rows) (pos (500 * (length p.ports + 1))) in
      omega (arith, ints)

  pub columns_are : block_columns l p ≡ max (widest l p.rows) (length p.ports + 1)
  columns_are = ap (λ v. natural v / 500) width_of_block ∙ columns_of (max (widest l p.rows) (length p.ports + 1))

  pub sound : IsSound (block_at n l net p instances)
  sound = record { cells = λ i lt. cell_passes n l net p.ports (put_of l p instances) ok.nets i lt; start = start; end = end; row = row; abut = abut }
    where
      start : (i : ℕ) → i < length n.instances → 3 ≤ (block_at n l net p instances).column i
      start i lt = let r = site i lt in let s = r.1 in let e = column_is i r.0 s in let a = s.spot.start in omega arith

      end : (i : ℕ) → i < length n.instances → (block_at n l net p instances).column i + ((block_at n l net p instances).cell i).width ≤ 3 + block_columns l p
      end i lt =
          let r = site i lt in let s = r.1 in let e = column_is i r.0 s in let f = width_is i r.0 s in let a = s.spot.end in
          let g = widest_holds l p.rows s.members (In_get p.rows s.row s.members s.row_at) in let h = columns_are in omega arith

      row : (i : ℕ) → i < length n.instances → (block_at n l net p instances).row i < length p.rows
      row i lt = let r = site i lt in let s = r.1 in let e = row_is i r.0 s in let a = slice_get_within p.rows s.row s.members s.row_at in omega arith

      abut : (i j : ℕ) → i < length n.instances → j < length n.instances → (block_at n l net p instances).row i ≡ (block_at n l net p instances).row j
          → (i ≡ j) ⊎ ((block_at n l net p instances).column i + ((block_at n l net p instances).cell i).width ≤ (block_at n l net p instances).column j)
          ⊎ ((block_at n l net p instances).column j + ((block_at n l net p instances).cell j).width ≤ (block_at n l net p instances).column i)
      abut i j hi hj e =
          let si = site i hi in let tj = site j hj in let s = si.1 in let t = tj.1 in
          let r : t.row ≡ s.row = sym (row_is j tj.0 t) ∙ sym e ∙ row_is i si.0 s in
          let f = ap (slice_get p.rows) r in
          let ms : t.members ≡ s.members = same_some (sym t.row_at ∙ f ∙ s.row_at) in
          let within1 = subst (λ v. In tj.0 (standing l (turn_of (flip_of v)) (pos (5000 * v)) (pos 1500) t.members)) r t.within in
          let within2 = subst (λ v. In tj.0 (standing l (turn_of (flip_of s.row)) (pos (5000 * s.row)) (pos 1500) v)) ms within1 in
          let ci = column_is i si.0 s in let cj = column_is j tj.0 t in let wi = width_is i si.0 s in let wj = width_is j tj.0 t in
          ⊎_elim
          (λ q. inl (owners_apart n l net p.ports (put_of l p instances) ok.nets i j hi hj
          (own_is n l net p.ports (put_of l p instances) ok.nets i (member_of si.0) s.listed ∙ ap (λ (v : Instance). v.name) q ∙ sym (own_is n l net p.ports (put_of l p instances) ok.nets j (member_of tj.0) t.listed))))
          (λ g. ⊎_elim (λ q. inr (inl (omega arith))) (λ q. inr (inr (omega arith))) g)
          (beside l (turn_of (flip_of s.row)) (pos (5000 * s.row)) s.members (pos 1500) 3 refl (row_models s.members (In_get p.rows s.row s.members s.row_at)) si.0 tj.0 s.spot.column t.spot.column s.within within2 s.spot.x t.spot.x)
        where
          same_some : {A : Type 0} {x y : A} → Some x ≡ Some y → x ≡ y
          same_some e = cc
