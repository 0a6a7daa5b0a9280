-- The four ways by number are the steps and vias between nodes.
use Rattle.std.proofs.Common.{ℕ, zero, suc, ◌≡◌, ◌≢◌, ◌+◌, ◌-◌, ◌/◌, ◌%◌, ◌<◌, ◌≤◌, Bool, true, false, cond, Some, None, arith, sym, ◌∙◌, ap, refl, nat_eq, nat_lt}
use Rattle.std.proofs.lemmas.Bool.{ltb-true, lt-ltb, eqb-true, eq-eqb}
use Rattle.std.proofs.lemmas.Nat.{div-mul-add, mod-mul-add}
use Rattle.grid_core.specs.declared.grid.Grid.{Grid}
use Rattle.grid_core.specs.declared.grid.Node.{Node}
use Rattle.grid_core.specs.Grid.{is_level, ahead, above, IsNext, forth, back, up, down, IsInGrid, move_cost}
use Rattle.grid_core.specs.Numbers.{plane, nodes, number, node_of}
use Rattle.grid_core.proofs.Numbers.{layer_of, rest_of, lies, number_below}
use Rattle.nero_maze.specs.Ways.{next, next_at, number_at, weight, opposite}
use Rattle.nero_maze.proofs.Geometry.{next-number, step_facts}

-- ---- what moves cost
pub cost_level : (p q : Node) → p.metal ≡ q.metal → move_cost p q ≡ 1
cost_level p q e = rw (eq-eqb p.metal q.metal e) refl

pub cost_via : (p q : Node) → p.metal ≢ q.metal → move_cost p q ≡ 3
cost_via p q ne = by (nat_eq p.metal q.metal) refl
  where
    by : (b : Bool) → nat_eq p.metal q.metal ≡ b → move_cost p q ≡ 3
    by true e = absurd (ne (eqb-true p.metal q.metal e))
    by false e = rw e refl

-- ---- from a way to a move

-- a way that is a step or via leads so
pub record IsMove (g : Grid) (u k v : ℕ) : Type 0 where
  pub next : IsNext (node_of g u) (node_of g v)
  pub cost : move_cost (node_of g v) (node_of g u) ≡ weight k

node_at_place : (g : Grid) (l r c : ℕ) → r < g.rows → c < g.columns → (let q : Node = record { metal = l + 2; column = c; row = r } in node_of g (number_at g l r c) ≡ q)
node_at_place g l r c hr hc =
    rw (layer_of g l r c hr hc, rest_of g l r c hr hc, div-mul-add r g.columns c hc, mod-mul-add r g.columns c hc) refl

cond_some : (b : Bool) (x v : ℕ) → cond b (Some x) None ≡ Some v → (b ≡ true) × (x ≡ v)
cond_some true x v h = (refl, cc)
cond_some false x v h = absurd (let impossible : ⊥ = cc in impossible)

parity : (l : ℕ) → (l + 2) % 2 ≡ l % 2
parity l = omega arith

ahead_of : (b : Bool) (g : Grid) (l r c v : ℕ) → nat_eq (l % 2) 0 ≡ b → r < g.rows → c < g.columns → next_at g l r c 0 ≡ Some v
    → (let p : Node = record { metal = l + 2; column = c; row = r } in node_of g v ≡ ahead p 1)
unfolding next_at
ahead_of true g l r c v e hr hc h =
    let h' = rw e at h in
    let got = cond_some (nat_lt (c + 1) g.columns) (number_at g l r (c + 1)) v h' in
    let lt = ltb-true (c + 1) g.columns got.0 in
    let at = node_at_place g l r (c + 1) hr lt in
    rw (← got.1, parity l, e) at
ahead_of false g l r c v e hr hc h =
    let h' = rw e at h in
    let got = cond_some (nat_lt (r + 1) g.rows) (number_at g l (r + 1) c) v h' in
    let lt = ltb-true (r + 1) g.rows got.0 in
    let at = node_at_place g l (r + 1) c lt hc in
    rw (← got.1, parity l, e) at

above_of : (g : Grid) (l r c v : ℕ) → r < g.rows → c < g.columns → next_at g l r c 2 ≡ Some v
    → (let p : Node = record { metal = l + 2; column = c; row = r } in node_of g v ≡ above p)
unfolding next_at
above_of g l r c v hr hc h =
    let got = cond_some (nat_lt (l + 1) (g.metals - 1)) (number_at g (l + 1) r c) v h in
    let at = node_at_place g (l + 1) r c hr hc in
    let same : l + 1 + 2 ≡ l + 2 + 1 = omega arith in
    rw (← got.1, ← same) at

forward : (g : Grid) (u v : ℕ) → u < nodes g → next g u 0 ≡ Some v → node_of g v ≡ ahead (node_of g u) 1
unfolding next
forward g u v hu h = let w = lies g u hu in ahead_of (nat_eq (u / plane g % 2) 0) g (u / plane g) (u % plane g / g.columns) (u % plane g % g.columns) v refl w.row w.column h

upward : (g : Grid) (u v : ℕ) → u < nodes g → next g u 2 ≡ Some v → node_of g v ≡ above (node_of g u)
unfolding next
upward g u v hu h = let w = lies g u hu in above_of g (u / plane g) (u % plane g / g.columns) (u % plane g % g.columns) v w.row w.column h

-- a way leads to a node of the grid, and back
pub facts : (g : Grid) (u k v : ℕ) → u < nodes g → k < 4 → next g u k ≡ Some v → (v < nodes g) × (next g v (opposite k) ≡ Some u)
facts g u k v hu hk h = let f = step_facts g u k (Some v) hu hk (sym h) in (f.0, f.1)

pub move_of : (g : Grid) (u k v : ℕ) → u < nodes g → k < 4 → next g u k ≡ Some v → IsMove g u k v
move_of g u zero v hu hk h =
    let e = forward g u v hu h in
    record { next = forth e; cost = cost_level (node_of g v) (node_of g u) (ap (λ (p : Node). p.metal) e) }
move_of g u (suc zero) v hu hk h =
    let f = facts g u 1 v hu hk h in
    let e = forward g v u f.0 f.1 in
    record { next = back e; cost = cost_level (node_of g v) (node_of g u) (sym (ap (λ (p : Node). p.metal) e)) }
move_of g u (suc (suc zero)) v hu hk h =
    let e = upward g u v hu h in
    let m = ap (λ (p : Node). p.metal) e in
    record { next = up e; cost = cost_via (node_of g v) (node_of g u) (omega arith) }
move_of g u (suc (suc (suc zero))) v hu hk h =
    let f = facts g u 3 v hu hk h in
    let e = upward g v u f.0 f.1 in
    let m = ap (λ (p : Node). p.metal) e in
    record { next = down e; cost = cost_via (node_of g v) (node_of g u) (omega arith) }
move_of g u (suc (suc (suc (suc k)))) v hu hk h = absurd (let impossible : ⊥ = omega arith in impossible)

-- ---- from a move to a way
pub record HasWay (g : Grid) (p q : Node) : Type 0 where
  pub way : ℕ
  pub few : way < 4
  pub leads : next g (number g p) way ≡ Some (number g q)
  pub cost : move_cost q p ≡ weight way

at_right : (g : Grid) (l r c : ℕ) → nat_eq (l % 2) 0 ≡ true → c + 1 < g.columns → next_at g l r c 0 ≡ Some (number_at g l r (c + 1))
unfolding next_at
at_right g l r c e lt = rw (e, lt-ltb (c + 1) g.columns lt) refl

at_up : (g : Grid) (l r c : ℕ) → nat_eq (l % 2) 0 ≡ false → r + 1 < g.rows → next_at g l r c 0 ≡ Some (number_at g l (r + 1) c)
unfolding next_at
at_up g l r c e lt = rw (e, lt-ltb (r + 1) g.rows lt) refl

at_above : (g : Grid) (l r c : ℕ) → l + 1 < g.metals - 1 → next_at g l r c 2 ≡ Some (number_at g (l + 1) r c)
unfolding next_at
at_above g l r c lt = rw (lt-ltb (l + 1) (g.metals - 1) lt) refl

parity_below : (m : ℕ) → 2 ≤ m → (m - 2) % 2 ≡ m % 2
parity_below m h = omega arith

way_ahead : (b : Bool) (g : Grid) (p q : Node) → is_level p.metal ≡ b → IsInGrid g p → IsInGrid g q → q ≡ ahead p 1 → next g (number g p) 0 ≡ Some (number g q)
way_ahead true g p q e hp hq is =
    let is' = rw e at is in
    let level : nat_eq ((p.metal - 2) % 2) 0 ≡ true = rw (parity_below p.metal hp.low) e in
    let col = ap (λ (n : Node). n.column) is' in
    let lt : p.column + 1 < g.columns = (let h = hq.column in omega arith) in
    next-number g (p.metal - 2) p.row p.column 0 hp.row hp.column ∙ (at_right g (p.metal - 2) p.row p.column level lt ∙ ap (λ (n : Node). Some (number g n)) (sym is'))
way_ahead false g p q e hp hq is =
    let is' = rw e at is in
    let level : nat_eq ((p.metal - 2) % 2) 0 ≡ false = rw (parity_below p.metal hp.low) e in
    let col = ap (λ (n : Node). n.row) is' in
    let lt : p.row + 1 < g.rows = (let h = hq.row in omega arith) in
    next-number g (p.metal - 2) p.row p.column 0 hp.row hp.column ∙ (at_up g (p.metal - 2) p.row p.column level lt ∙ ap (λ (n : Node). Some (number g n)) (sym is'))

way_above : (g : Grid) (p q : Node) → IsInGrid g p → IsInGrid g q → q ≡ above p → next g (number g p) 2 ≡ Some (number g q)
way_above g p q hp hq is =
    let m = ap (λ (n : Node). n.metal) is in
    let low = hp.low in
    let lt : p.metal - 2 + 1 < g.metals - 1 = (let h = hq.high in omega arith) in
    let same : p.metal - 2 + 1 ≡ p.metal + 1 - 2 = omega arith in
    let there : number_at g (p.metal - 2 + 1) p.row p.column ≡ number g q = rw (same, is) refl in
    next-number g (p.metal - 2) p.row p.column 2 hp.row hp.column ∙ (at_above g (p.metal - 2) p.row p.column lt ∙ ap Some there)

pub way_of : (g : Grid) (p q : Node) → IsInGrid g p → IsInGrid g q → IsNext p q → HasWay g p q
way_of g p q hp hq (forth e) =
    record { way = 0; few = omega arith; leads = way_ahead (is_level p.metal) g p q refl hp hq e; cost = cost_level q p (ap (λ (n : Node). n.metal) e) }
way_of g p q hp hq (back e) =
    let w = way_ahead (is_level q.metal) g q p refl hq hp e in
    let f = facts g (number g q) 0 (number g p) (number_below g q hq) (omega arith) w in
    record { way = 1; few = omega arith; leads = f.1; cost = cost_level q p (sym (ap (λ (n : Node). n.metal) e)) }
way_of g p q hp hq (up e) =
    let m = ap (λ (n : Node). n.metal) e in
    record { way = 2; few = omega arith; leads = way_above g p q hp hq e; cost = cost_via q p (omega arith) }
way_of g p q hp hq (down e) =
    let w = way_above g q p hq hp e in
    let f = facts g (number g q) 2 (number g p) (number_below g q hq) (omega arith) w in
    let m = ap (λ (n : Node). n.metal) e in
    record { way = 3; few = omega arith; leads = f.1; cost = cost_via q p (omega arith) }
