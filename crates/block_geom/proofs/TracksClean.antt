-- The drawing by private tracks has no breach.
use Rattle.std.proofs.Common.{◌≡◌, ℕ, ◌<◌, subst, arith}
use Rattle.block_geom.specs.Figure.{Supply, Vss, Vdd, In}
use Rattle.block_geom.specs.Block.{Block, IsSound, shapes}
use Rattle.block_geom.specs.Breach.{HasNoBreach}
use Rattle.block_geom.specs.Tracks.{block_lines, HasTracks}
use Rattle.block_geom.proofs.Bridges.{Bridge}
use Rattle.block_geom.proofs.Tracks.{TrackPlan, is_plan}
use Rattle.block_geom.proofs.TracksAll.{rail_in, on_rail}
use Rattle.block_geom.proofs.Gaps.{IsSupplied, rail_line_at, rail_point, no_breach_at_all}

module _ (b : Block) (lo hi : ℕ → ℕ) (sound : IsSound b) (tracks : HasTracks b lo hi) where
  row_is_zero : (r : ℕ) → r < b.rows → 0 ≡ r
  row_is_zero r lt = let a = tracks.one_row in omega arith

  rail : (u : Supply) → In (rail_line_at b 0 u) (block_lines b lo hi)
  rail Vss = rail_in b lo hi sound tracks Vss
  rail Vdd = rail_in b lo hi sound tracks Vdd

  one : (u : Supply) → Bridge (shapes b (block_lines b lo hi)) (rail_point 0 u) (rail_point 0 u)
  one Vss = on_rail b lo hi sound tracks Vss 500 (omega arith) (omega arith)
  one Vdd = on_rail b lo hi sound tracks Vdd 500 (omega arith) (omega arith)

  supplied : IsSupplied b (block_lines b lo hi)
  supplied = record {
    rail = λ r u lt. subst (λ v. In (rail_line_at b v u) (block_lines b lo hi)) (row_is_zero r lt) (rail u);
    one = λ r k u hr hk. subst (λ v. Bridge (shapes b (block_lines b lo hi)) (rail_point v u) (rail_point k u)) (row_is_zero r hr) (subst (λ v. Bridge (shapes b (block_lines b lo hi)) (rail_point 0 u) (rail_point v u)) (row_is_zero k hk) (one u));
  }

  pub tracks_clean : HasNoBreach (shapes b (block_lines b lo hi))
  tracks_clean = no_breach_at_all b (TrackPlan b) (block_lines b lo hi) sound (is_plan b lo hi sound tracks) supplied
