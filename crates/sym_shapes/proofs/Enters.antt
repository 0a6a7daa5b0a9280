-- Entries of all shapes in their bands, sorted: each two touching shapes share one.
use Rattle.std.proofs.Common.{◌≡◌, ℕ, ◌≤◌, ◌≤ℤ◌, inl, inr, ℤ, true, false, Bool, min, List, length, get_or, sym, ◌∙◌, ap, subst, arith}
use Rattle.std.specs.List.{Contains}
use Rattle.std.specs.List.Sorted.{IsPermutation}
use Rattle.std.proofs.lemmas.Bool.{cases_lt}
use Rattle.std.proofs.lemmas.Grind.{get_or_moved}
use Rattle.std.proofs.lemmas.Int.{ints}
use Rattle.std.proofs.lemmas.List.Sorted.{Contains-permutation}
use Rattle.std.proofs.Math.Pow.{shr_mono}
use Rattle.sym_geom.specs.Rect.{Meet}
use Rattle.sym_groups.specs.Ties.{Tied}
use Rattle.sym_geom.specs.declared.rect.Rect.{Rect}
use Rattle.sym_shapes.specs.Shape.{Shape}
use Rattle.sym_shapes.specs.declared.bands.Cut.{Cut}
use Rattle.sym_shapes.specs.declared.sweep.Entry.{Entry}
use Rattle.sym_shapes.specs.Bands.{laid, IsLevel, band_of, entry_of, IsEntered, EntersAll, uncut, cut_for}
use Rattle.sym_shapes.specs.Sweep.{PlacesWithin, Ordered, Touch, CoversRuns}
use Rattle.sym_shapes.proofs.Sweeps.{none, any_entry, Share, covers_touching}

-- entries that are moved are of shapes as before
pub places_moved : (shapes : List Shape) (xs ys : List Entry) → PlacesWithin shapes xs → IsPermutation xs ys → PlacesWithin shapes ys
places_moved shapes xs ys places w p e hp =
    let r = get_or_moved xs w.moves p e w.below (rw (← w.is) hp) in
    let is : get_or ys p e ≡ get_or xs r.1.0 e = rw w.is r.1.2 in
    rw is (places r.1.0 e r.1.1)

-- rectangles that meet still meet once both are laid
laid_meet : (upright : Bool) (shift : ℕ) (a b : Rect) → Meet a b → Meet (laid (record { upright = upright; shift = shift }) a) (laid (record { upright = upright; shift = shift }) b)
laid_meet true shift a b m = record { left = m.low; right = m.high; low = m.left; high = m.right }
laid_meet false shift a b m = m

-- a higher coordinate has no lower level
level_rises : (a b : ℤ) (x y : ℕ) → IsLevel a x → IsLevel b y → a ≤ℤ b → x ≤ y
level_rises a b x y is_x is_y le = omega (arith, ints, is_x, is_y, le)

-- the entry of one shape stands in the band of the other's low edge, or the other way round
share_from : (xs : List Entry) (cut : Cut) (a b : Shape) (i j : ℕ) (e : IsEntered cut a i xs) (f : IsEntered cut b j xs) → Meet (laid cut a.rect) (laid cut b.rect)
    → (k : ℕ) × Contains xs (entry_of cut a i k) × Contains xs (entry_of cut b j k)
share_from xs cut a b i j e f m =
    let a_in : band_of cut f.low ≤ band_of cut e.high =
    shr_mono (min cut.shift 63) (level_rises (laid cut b.rect).y1 (laid cut a.rect).y2 f.low e.high f.low_is e.high_is m.high) in
    let b_in : band_of cut e.low ≤ band_of cut f.high =
    shr_mono (min cut.shift 63) (level_rises (laid cut a.rect).y1 (laid cut b.rect).y2 e.low f.high e.low_is f.high_is m.low) in
    elim (cases_lt (band_of cut e.low) (band_of cut f.low)) [
      | inl lt ↦ (band_of cut f.low, e.each (band_of cut f.low) (omega arith) a_in, f.first)
      | inr ge ↦ (band_of cut e.low, e.first, f.each (band_of cut e.low) ge b_in)
    ]

-- both stand among the sorted entries
shared : (xs ys : List Entry) (cut : Cut) (a b : Shape) (i j k : ℕ) → IsPermutation xs ys → a.metal ≡ b.metal → Meet (laid cut a.rect) (laid cut b.rect)
    → Contains xs (entry_of cut a i k) → Contains xs (entry_of cut b j k) → Share ys i j
shared xs ys cut a b i j k w same m first second =
    let p = Contains-permutation xs ys (entry_of cut a i k) w first in
    let q = Contains-permutation xs ys (entry_of cut b j k) w second in
    let p_is : get_or ys p.0 none ≡ entry_of cut a i k = any_entry ys p.0 none (entry_of cut a i k) p.1 ∙ p.2 in
    let q_is : get_or ys q.0 none ≡ entry_of cut b j k = any_entry ys q.0 none (entry_of cut b j k) q.1 ∙ q.2 in
    record {
      p = p.0;
      q = q.0;
      p_within = p.1;
      q_within = q.1;
      p_is = ap (λ (x : Entry). x.place) p_is;
      q_is = ap (λ (x : Entry). x.place) q_is;
      metal = ap (λ (x : Entry). x.metal) p_is ∙ same ∙ sym (ap (λ (x : Entry). x.metal) q_is);
      band = ap (λ (x : Entry). x.band) p_is ∙ sym (ap (λ (x : Entry). x.band) q_is);
      left_q = rw (p_is, q_is) m.right;
      left_p = rw (p_is, q_is) m.left;
    }

-- the sweep covers what touches among the shapes that were entered
pub covers_entered : (shapes : List Shape) (places : List ℕ) (cuts : List Cut) (xs ys : List Entry) (ps : List ℕ) → EntersAll shapes places cuts xs
    → IsPermutation xs ys → Ordered ys → CoversRuns shapes ys ps (length ys)
    → (i j : ℕ) (d : Shape) → Contains places i → Contains places j → Touch (get_or shapes i d) (get_or shapes j d) → Tied ps i j
covers_entered shapes places cuts xs ys ps each w ordered runs i j d hi hj t =
    let a = get_or shapes i d in
    let b = get_or shapes j d in
    let cut = cut_for cuts a in
    let same : cut_for cuts b ≡ cut = ap (λ (k : ℕ). get_or cuts k uncut) (sym t.0) in
    let f : IsEntered cut b j xs = subst (λ (x : Cut). IsEntered x b j xs) same (each j d hj) in
    let m : Meet (laid cut a.rect) (laid cut b.rect) = laid_meet cut.upright cut.shift a.rect b.rect t.1 in
    let k = share_from xs cut a b i j (each i d hi) f m in
    covers_touching shapes ys ps ordered runs i j d t (shared xs ys cut a b i j k.0 w t.0 m k.1 k.2)
