-- A visit of a neighbour.
use Rattle.std.proofs.Common.{ℕ, ◌≡◌, ◌+◌, ◌<◌, List, Some, None, slice_index, arith, sym, ◌∙◌, ap, subst}
use Rattle.grid_core.specs.declared.grid.Grid.{Grid}
use Rattle.grid_core.specs.Numbers.{nodes}
use Rattle.nero_maze.specs.declared.frontier.Field.{Field}
use Rattle.nero_maze.specs.declared.frontier.Source.{Source}
use Rattle.nero_maze.specs.declared.way.Place.{Place}
use Rattle.nero_maze.specs.Ways.{next, next_at, number_at, weight, opposite, IsPlace}
use Rattle.nero_maze.specs.Hulls.{far, far_at}
use Rattle.nero_maze.specs.Levels.{IsSource}
use Rattle.nero_maze.proofs.Neighbours.{facts}
use Rattle.nero_maze.proofs.Slope.{far-number, next-place}

pub same_next : (g : Grid) (u k v to : ℕ) → next g u k ≡ Some v → next g u k ≡ Some to → v ≡ to
same_next g u k v to a b = cc

source_next : (f : Field) (ord : List ℕ) (s : Source) (way : ℕ) → IsSource f ord s
    → next f.grid (slice_index ord s.at) way ≡ next_at f.grid s.place.layer s.place.row s.place.column way
source_next f ord s way src =
    ap (λ (u : ℕ). next f.grid u way) src.at ∙ next-place f.grid s.node s.place.layer s.place.row s.place.column way src.layer src.row src.column

pub record IsVisit (f : Field) (ord : List ℕ) (s : Source) (way to : ℕ) : Type 0 where
  pub there : next f.grid (slice_index ord s.at) way ≡ Some to
  pub back : next f.grid to (opposite way) ≡ Some (slice_index ord s.at)
  pub sum : weight way + far f.grid f.hull to ≡ s.rise + far f.grid f.hull (slice_index ord s.at)

pub visit_of : (f : Field) (ord : List ℕ) (s : Source) (p : Place) (way to away cost : ℕ) → IsSource f ord s → way < 4 → IsPlace f.grid p
    → next_at f.grid s.place.layer s.place.row s.place.column way ≡ Some (number_at f.grid p.layer p.row p.column)
    → to ≡ number_at f.grid p.layer p.row p.column → away ≡ far_at f.hull p.layer p.row p.column → cost ≡ weight way → cost + away ≡ s.reach
    → IsVisit f ord s way to
visit_of f ord s p way to away cost src w4 pl is at far_is paid sum =
    let there = source_next f ord s way src ∙ (is ∙ ap Some (sym at)) in
    let from = src.at in
    let within = src.within in
    let inside : slice_index ord s.at < nodes f.grid = subst (λ (u : ℕ). u < nodes f.grid) (sym from) within in
    let far_to : far f.grid f.hull to ≡ away = ap (far f.grid f.hull) at ∙ (far-number f.grid f.hull p.layer p.row p.column pl.row pl.column ∙ sym far_is) in
    let far_from : far f.grid f.hull (slice_index ord s.at) ≡ far f.grid f.hull s.node = ap (far f.grid f.hull) from in
    let reach = src.reach in
    record {
      there = there;
      back = (facts f.grid (slice_index ord s.at) way to inside w4 there).1;
      sum = omega arith;
    }

pub visit_none : (f : Field) (ord : List ℕ) (s : Source) (way v : ℕ) → IsSource f ord s → next_at f.grid s.place.layer s.place.row s.place.column way ≡ None
    → next f.grid (slice_index ord s.at) way ≡ Some v → ⊥
visit_none f ord s way v src none is = let e = source_next f ord s way src in let no : ⊥ = cc in no

pub visit_other : (f : Field) (ord : List ℕ) (s : Source) (p : Place) (way v away cost : ℕ) → IsSource f ord s → IsPlace f.grid p
    → next_at f.grid s.place.layer s.place.row s.place.column way ≡ Some (number_at f.grid p.layer p.row p.column)
    → away ≡ far_at f.hull p.layer p.row p.column → cost ≡ weight way
    → next f.grid (slice_index ord s.at) way ≡ Some v → weight way + far f.grid f.hull v ≡ s.rise + far f.grid f.hull (slice_index ord s.at)
    → cost + away ≡ s.reach
visit_other f ord s p way v away cost src pl is far_is paid there sum =
    let at = same_next f.grid (slice_index ord s.at) way v (number_at f.grid p.layer p.row p.column) there (source_next f ord s way src ∙ is) in
    let far_to : far f.grid f.hull v ≡ away = ap (far f.grid f.hull) at ∙ (far-number f.grid f.hull p.layer p.row p.column pl.row pl.column ∙ sym far_is) in
    let far_from : far f.grid f.hull (slice_index ord s.at) ≡ far f.grid f.hull s.node = ap (far f.grid f.hull) src.at in
    let reach = src.reach in
    omega arith
