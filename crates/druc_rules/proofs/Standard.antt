-- By the standard rules the list is that of the rules of symbolic layouts.
use Rattle.std.proofs.Common.{◌≡◌, ℕ, List, sym, subst}
use Rattle.vlsi_base.specs.Member.{Picks, pairs}
use Rattle.sym_geom.specs.declared.grid.TheConstants.{LEAST_WIDTH, LEAST_GAP}
use Rattle.sym_geom.specs.declared.item.Item.{Item}
use Rattle.sym_shapes.specs.Shape.{Shape}
use Rattle.cell_model.specs.Library.{Library}
use Rattle.cell_model.specs.Layout.{shapes}
use Rattle.net_meaning.specs.Breaches.{Breach, IsNarrow, AreTooNear, Breaches}
use Rattle.druc_rules.specs.declared.breach.Rules.{Rules}
use Rattle.druc_rules.specs.Breaches.{IsNarrowBy, AreTooNearBy, BreachesBy, StandardIsMeant}
use Rattle.druc_rules.proofs.Picked.{picks_same}

narrow_to : (s : Shape) → IsNarrowBy LEAST_WIDTH s → IsNarrow s
narrow_to s h = record { drawn = h.drawn; narrow = h.narrow }

narrow_from : (s : Shape) → IsNarrow s → IsNarrowBy LEAST_WIDTH s
narrow_from s h = record { drawn = h.drawn; narrow = h.narrow }

near_to : (all : List Shape) (a b : Shape) → AreTooNearBy LEAST_GAP all a b → AreTooNear all a b
near_to all a b h = record { metal = h.metal; apart = h.apart; near = h.near; unexcused = h.unexcused }

near_from : (all : List Shape) (a b : Shape) → AreTooNear all a b → AreTooNearBy LEAST_GAP all a b
near_from all a b h = record { metal = h.metal; apart = h.apart; near = h.near; unexcused = h.unexcused }

module _ (r : Rules) (items : List Item) (l : Library) (listed : List Breach) (width_is : r.width ≡ LEAST_WIDTH) (gap_is : r.gap ≡ LEAST_GAP) where
  abbrev all : List Shape
  all = shapes items l

  abbrev NearBy : ℕ → Shape × Shape → Type 0
  NearBy least p = AreTooNearBy least all p.0 p.1

  abbrev NearPair : Shape × Shape → Type 0
  NearPair p = AreTooNear all p.0 p.1

  pub meant : BreachesBy r items l listed → Breaches items l listed
  meant b = record {
    narrow = b.narrow;
    near = b.near;
    widths = picks_same (IsNarrowBy LEAST_WIDTH) IsNarrow all b.narrow (λ s i h. narrow_to s h) (λ s i h. narrow_from s h)
        (subst (λ (w : ℕ). Picks (IsNarrowBy w) all b.narrow) width_is b.widths);
    gaps = picks_same (NearBy LEAST_GAP) NearPair (pairs all) b.near (λ p i h. near_to all p.0 p.1 h) (λ p i h. near_from all p.0 p.1 h)
        (subst (λ (g : ℕ). Picks (NearBy g) (pairs all) b.near) gap_is b.gaps);
    listed = b.are;
  }

  pub meant_back : Breaches items l listed → BreachesBy r items l listed
  meant_back b = record {
    narrow = b.narrow;
    near = b.near;
    widths = subst (λ (w : ℕ). Picks (IsNarrowBy w) all b.narrow) (sym width_is)
        (picks_same IsNarrow (IsNarrowBy LEAST_WIDTH) all b.narrow (λ s i h. narrow_from s h) (λ s i h. narrow_to s h) b.widths);
    gaps = subst (λ (g : ℕ). Picks (NearBy g) (pairs all) b.near) (sym gap_is)
        (picks_same NearPair (NearBy LEAST_GAP) (pairs all) b.near (λ p i h. near_from all p.0 p.1 h) (λ p i h. near_to all p.0 p.1 h) b.gaps);
    are = b.listed;
  }

pub standard_is_meant : StandardIsMeant
standard_is_meant r items l listed width_is gap_is = (meant r items l listed width_is gap_is, meant_back r items l listed width_is gap_is)
