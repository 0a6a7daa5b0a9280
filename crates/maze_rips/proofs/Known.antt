-- Rips that were made, and the net for which the last one was.
use Rattle.std.proofs.Common.{◌≡◌, ℕ, ◌<◌, ◌-◌, ⊎_elim, List, [], ◌∷◌, length, Option, Some, None, refl, sym, ap, subst, arith}
use Rattle.std.specs.Prelude.{slice_get}
use Prim.Native.Nat.{suc}
use Rattle.vlsi_base.specs.Member.{In, here, there}
use Rattle.grid_core.specs.declared.grid.Node.{Node}
use Rattle.grid_core.specs.Routes.{Tree, NetRoutes}
use Rattle.grid_core.specs.Trees.{next_point}
use Rattle.grid_core.proofs.Lists.{In_either}
use Rattle.grid_core.proofs.Owners.{first_or}
use Rattle.maze_nets.proofs.Lists.{get_below}
use Rattle.maze_rips.specs.declared.rip.PointRip.{PointRip}
use Rattle.maze_rips.specs.Run.{Problem, Move, Begins, Joins, Rips, routes_after, rips_among, last_stuck, IsStuck, AreMoves}

-- ---- rips that were made

-- the last one is among them
pub last_among : (rips : List PointRip) (k : ℕ) → last_stuck rips ≡ Some k → (r : PointRip) × In r rips × (r.net ≡ k)
last_among [] k e = absurd (cc e)
last_among (r ∷ []) k e = (let same : r.net ≡ k = cc e in (r, here, same))
last_among (r ∷ s ∷ more) k e = let x = last_among (s ∷ more) k e in (x.0, there x.1, x.2)

-- each is for a point that its net has
pub record IsKnown (p : Problem) (r : PointRip) : Type 0 where
  pub net : r.net < p.nets
  pub point : r.point < length (p.points r.net)

pub stuck_known : (p : Problem) (rips : List PointRip) (routes : NetRoutes) (k at : ℕ) (q : Node) → IsStuck p rips routes k at q → at < length (p.points k)
stuck_known p rips routes k at q s =
    let lacks = subst (λ (t : Option Tree). next_point (p.points k) t ≡ Some q) s.begun s.due.lacks in
    subst (λ (n : ℕ). n < length (p.points k)) s.number (get_below (p.points k) (suc (length s.tree.paths)) q lacks)

pub rips_known : (p : Problem) (moves : List Move) → AreMoves p moves → (r : PointRip) → In r (rips_among moves) → IsKnown p r
rips_known p [] h r i = elim i [ ]
rips_known p (Begins k q ∷ before) h r i = rips_known p before h.1 r i
rips_known p (Joins k path ∷ before) h r i = rips_known p before h.1 r i
rips_known p (Rips x ∷ before) h r i = ⊎_elim
    (λ a. rips_known p before h.1 r a)
    (λ a. ⊎_elim
    (λ e. subst (λ (y : PointRip). IsKnown p y) (sym e)
    (record { net = h.0.1.due.known; point = stuck_known p (rips_among before) (routes_after before) x.net x.point h.0.0 h.0.1 }))
    (λ none. elim none [ ])
    (first_or r x [] a))
    (In_either (rips_among before) (x ∷ []) r i)

-- the last one of a list
last_one : (r : PointRip) → length (r ∷ []) - 1 ≡ 0
last_one r = omega arith

last_more : (r s : PointRip) (more : List PointRip) → length (r ∷ s ∷ more) - 1 ≡ suc (length more)
last_more r s more = omega arith

last_next : (s : PointRip) (more : List PointRip) → length more ≡ length (s ∷ more) - 1
last_next s more = omega arith

pub last_none : (rips : List PointRip) → slice_get rips (length rips - 1) ≡ None → last_stuck rips ≡ None
last_none [] e = refl
last_none (r ∷ []) e =
    let at : slice_get (r ∷ []) 0 ≡ None = subst (λ (n : ℕ). slice_get (r ∷ []) n ≡ None) (last_one r) e in
    absurd (cc at)
last_none (r ∷ s ∷ more) e =
    let at : slice_get (r ∷ s ∷ more) (suc (length more)) ≡ None = subst (λ (n : ℕ). slice_get (r ∷ s ∷ more) n ≡ None) (last_more r s more) e in
    last_none (s ∷ more) (subst (λ (n : ℕ). slice_get (s ∷ more) n ≡ None) (last_next s more) at)

pub last_some : (rips : List PointRip) (r : PointRip) → slice_get rips (length rips - 1) ≡ Some r → last_stuck rips ≡ Some r.net
last_some [] r e = absurd (cc e)
last_some (x ∷ []) r e =
    let at : slice_get (x ∷ []) 0 ≡ Some r = subst (λ (n : ℕ). slice_get (x ∷ []) n ≡ Some r) (last_one x) e in
    let same : x ≡ r = cc at in
    ap (λ (y : PointRip). Some y.net) same
last_some (x ∷ s ∷ more) r e =
    let at : slice_get (x ∷ s ∷ more) (suc (length more)) ≡ Some r = subst (λ (n : ℕ). slice_get (x ∷ s ∷ more) n ≡ Some r) (last_more x s more) e in
    last_some (s ∷ more) r (subst (λ (n : ℕ). slice_get (s ∷ more) n ≡ Some r) (last_next s more) at)
