-- The hulls of trees that grow.
use Rattle.std.proofs.Common.{ℕ, ◌≡◌, ◌≢◌, ◌<◌, List, length, set, slice_index, Some, arith, ap, sym, ◌∙◌, subst, inl, inr, length-set, get_or-set_same, get_or-set_other}
use Rattle.std.specs.Prelude.{slice_get}
use Rattle.std.proofs.lemmas.Option.{slice_get_within, get_or_from_slice_get, slice_get-get_or}
use Rattle.std.proofs.lemmas.Bool.{cases_eq}
use Rattle.grid_core.specs.declared.grid.Grid.{Grid}
use Rattle.nero_maze.specs.declared.hull.Hull.{Hull}
use Rattle.nero_maze.specs.Search.{IsOwn}
use Rattle.nero_maze.specs.Hulls.{far, Holds, AreHulls}

pub holds_more : (g : Grid) (hull hull' : Hull) (o l : List ℕ) (net at link : ℕ) → Holds g hull o l net → far g hull' at ≡ 0
    → ((v : ℕ) → far g hull v ≡ 0 → far g hull' v ≡ 0) → Holds g hull' (set o at net) (set l at link) net
holds_more g hull hull' o l net at link h new kept v own = elim (cases_eq v at) [
  | inl e ↦ subst (λ (w : ℕ). far g hull' w ≡ 0) (sym e) new
  | inr ne ↦ (
      let eo = get_or-set_other o at v net 0 ne in
      let el = get_or-set_other l at v link 0 ne in
      kept v (h v ((λ z. own.0 (el ∙ z)), sym eo ∙ own.1)))
]

-- ---- one of several hulls becomes another
get_set_same : (hulls : List Hull) (k : ℕ) (new h : Hull) → slice_get (set hulls k new) k ≡ Some h → h ≡ new
get_set_same hulls k new h is =
    let within = slice_get_within (set hulls k new) k h is in
    let size = length-set hulls k new in
    let lt : k < length hulls = omega arith in
    sym (get_or_from_slice_get (set hulls k new) k h new is) ∙ get_or-set_same hulls k new new lt

get_set_other : (hulls : List Hull) (k j : ℕ) (new h : Hull) → j ≢ k → slice_get (set hulls k new) j ≡ Some h → slice_get hulls j ≡ Some h
get_set_other hulls k j new h ne is =
    let within = slice_get_within (set hulls k new) j h is in
    let size = length-set hulls k new in
    let lt : j < length hulls = omega arith in
    let at = sym (get_or-set_other hulls k j new h ne) ∙ get_or_from_slice_get (set hulls k new) j h h is in
    slice_get-get_or hulls j h lt ∙ ap Some at

pub hulls_with : (g : Grid) (hulls : List Hull) (new : Hull) (o l o' l' : List ℕ) (net : ℕ) → AreHulls g hulls o l → Holds g new o' l' net
    → ((k v : ℕ) → k ≢ net → IsOwn o' l' k v → IsOwn o l k v) → AreHulls g (set hulls net new) o' l'
hulls_with g hulls new o l o' l' net old own others k h is = elim (cases_eq k net) [
  | inl e ↦ (
      let is' = subst (λ (j : ℕ). slice_get (set hulls net new) j ≡ Some h) e is in
      let same = get_set_same hulls net new h is' in
      subst (λ (j : ℕ). Holds g h o' l' j) (sym e) (subst (λ (x : Hull). Holds g x o' l' net) (sym same) own))
  | inr ne ↦ λ v mine. old k h (get_set_other hulls net k new h ne is) v (others k v ne mine)
]

-- a node that a net gets is no other net's own
pub other_own : (o l : List ℕ) (net at link k v : ℕ) → at < length o → k ≢ net → IsOwn (set o at net) (set l at link) k v → IsOwn o l k v
other_own o l net at link k v lt ne own = elim (cases_eq v at) [
  | inl e ↦ absurd (ne (sym own.1 ∙ (ap (λ (w : ℕ). slice_index (set o at net) w) e ∙ get_or-set_same o at net 0 lt)))
  | inr off ↦ (
      let eo = get_or-set_other o at v net 0 off in
      let el = get_or-set_other l at v link 0 off in
      ((λ z. own.0 (el ∙ z)), sym eo ∙ own.1))
]
