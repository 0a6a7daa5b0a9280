-- Products by a scale.
use Rattle.std.proofs.Common.{◌≡◌, ℕ, zero, suc, ◌+◌, ◌*◌, ◌/◌, ◌<◌, ◌≤◌, List, [], ◌∷◌, length, get_or, All, arith, sym, ◌∙◌}
use Rattle.std.specs.Prelude.{ℤ, pos, ◌+ℤ◌, ◌*ℤ◌, ◌≤ℤ◌, ◌<ℤ◌}
use Rattle.std.proofs.Math.IntN.{suc_ℤ-*ℤ, zero-*ℤ}
use Rattle.std.proofs.Math.Nat.{suc-mul, lt-mul-div-succ}
use Rattle.std.proofs.lemmas.Int.{ints, by_lt_z}
use Rattle.std.proofs.lemmas.List.Elements.{All-tail}
use Rattle.sym_geom.specs.Rect.{Near}
use Rattle.sym_geom.specs.declared.rect.Rect.{Rect}
use Rattle.s2r_cif.specs.declared.table.RealTable.{RealTable}
use Rattle.s2r_cif.specs.Real.{IsWithinGrow, AreClose, grow_of, AllWithinGap}

pub scale_more : (s : ℕ) (c : ℤ) → pos (suc s) *ℤ c ≡ (pos s *ℤ c) +ℤ c
scale_more s c = suc_ℤ-*ℤ (pos s) c

-- scaling keeps the order
pub scale_keeps : (s : ℕ) (a b : ℤ) → a ≤ℤ b → (pos s *ℤ a) ≤ℤ (pos s *ℤ b)
scale_keeps zero a b h = let p = zero-*ℤ a in let q = zero-*ℤ b in omega (arith, ints, p, q)
scale_keeps (suc s) a b h =
    let p = scale_more s a in
    let q = scale_more s b in
    let before = scale_keeps s a b h in
    omega (arith, ints, p, q, before, h)

pub scale_moved : (s : ℕ) (a : ℤ) (d : ℕ) → pos s *ℤ (a +ℤ pos d) ≡ (pos s *ℤ a) +ℤ pos (s * d)
scale_moved zero a d = let p = zero-*ℤ (a +ℤ pos d) in let q = zero-*ℤ a in omega (arith, ints, p, q)
scale_moved (suc s) a d =
    let p = scale_more s (a +ℤ pos d) in
    let q = scale_more s a in
    let before = scale_moved s a d in
    let r = suc-mul s d in
    omega (arith, ints, p, q, r, before)

-- what is so close has a small gap
pub near_axis : (s grow most : ℕ) (a b : ℤ) → 1 ≤ s → grow ≤ most → IsWithinGrow s grow a b → a <ℤ (b +ℤ pos (2 * most / s + 1))
near_axis s grow most a b least few h =
    by_lt_z a (b +ℤ pos (2 * most / s + 1)) (λ lt. lt)
    (λ ge.
    let far = scale_keeps s (b +ℤ pos (2 * most / s + 1)) a ge in
    let moved = scale_moved s b (2 * most / s + 1) in
    let over = lt-mul-div-succ (2 * most) {b = s} (omega arith) in
    absurd (omega (arith, ints, far, moved, over, h, few)))

grow_most : (xs : List ℕ) (most k : ℕ) → All (λ n. n ≤ most) xs → get_or xs k 0 ≤ most
grow_most [] most k all = omega arith
grow_most (x ∷ xs) most zero all = all 0 0 (omega arith)
grow_most (x ∷ xs) most (suc k) all = grow_most xs most k (All-tail (λ n. n ≤ most) x xs all)

pub all_within_gap : (t : RealTable) (most : ℕ) → 1 ≤ t.scale → All (λ n. n ≤ most) t.grow → AllWithinGap t (2 * most / t.scale + 1)
all_within_gap t most least all metal a b h =
    let few : grow_of t metal ≤ most = grow_most t.grow most _ all in
    record {
      left = near_axis t.scale (grow_of t metal) most a.x1 b.x2 least few h.left;
      right = near_axis t.scale (grow_of t metal) most b.x1 a.x2 least few h.right;
      low = near_axis t.scale (grow_of t metal) most a.y1 b.y2 least few h.low;
      high = near_axis t.scale (grow_of t metal) most b.y1 a.y2 least few h.high;
    }
