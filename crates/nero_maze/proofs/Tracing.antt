-- A walk along the way that a search found, up to the first node that isn't free.
use Rattle.std.proofs.Common.{ℕ, ◌≡◌, ◌≢◌, ◌+◌, ◌-◌, ◌<◌, ◌≤◌, inl, inr, List, [], ◌∷◌, Some, slice_index, arith, sym, ◌∙◌, ap, subst}
use Rattle.grid_core.specs.declared.grid.Grid.{Grid}
use Rattle.grid_core.specs.Numbers.{nodes}
use Rattle.nero_maze.specs.declared.board.Board.{Board}
use Rattle.nero_maze.specs.Ways.{weight, next, opposite}
use Rattle.nero_maze.specs.Search.{IsFree, Trace}
use Rattle.nero_maze.specs.Board.{reserved_of}
use Rattle.nero_maze.specs.Ripping.{AreFree, FirstTaken}

-- the walk has come to a node, and a node ahead isn't free
pub record Goes (b : Board) (net target start cost node left : ℕ) : Type 0 where
  pub within : node < nodes b.room.grid
  pub back : List ℕ
  pub trace : Trace b.room.grid (reserved_of b) net b.frontier.marks.items target node back left
  pub some : AreFree b.room.owners.items net (node ∷ back) → ⊥
  pub whole : List ℕ
  pub first : Trace b.room.grid (reserved_of b) net b.frontier.marks.items target start whole cost
  pub onward : (other : ℕ) → FirstTaken b.room.owners.items net other (node ∷ back) → FirstTaken b.room.owners.items net other (start ∷ whole)

pub goes_begin : (b : Board) (net target start cost : ℕ) → start < nodes b.room.grid
    → ((back : List ℕ) × Trace b.room.grid (reserved_of b) net b.frontier.marks.items target start back cost × (AreFree b.room.owners.items net (start ∷ back) → ⊥))
    → Goes b net target start cost start cost
goes_begin b net target start cost lt (back, trace, some) =
    record { within = lt; back = back; trace = trace; some = some; whole = back; first = trace; onward = λ other h. h }

-- where it goes on to
pub record Ahead (b : Board) (net target start cost node left : ℕ) : Type 0 where
  pub way : ℕ
  pub mark : slice_index b.frontier.marks.items node ≡ way + 1
  pub few : way < 4
  pub on : ℕ
  pub ahead : next b.room.grid node (opposite way) ≡ Some on
  pub enough : weight way ≤ left
  pub goes : IsFree b.room.owners.items net node → on < nodes b.room.grid → Goes b net target start cost on (left - weight way)

pub ahead_of : (b : Board) (net target start cost node left : ℕ) → Goes b net target start cost node left → node ≢ target → Ahead b net target start cost node left
ahead_of b net target start cost node left inv ne = by inv.back inv.trace inv.some inv.onward
  where
    by : (back : List ℕ) → Trace b.room.grid (reserved_of b) net b.frontier.marks.items target node back left → (AreFree b.room.owners.items net (node ∷ back) → ⊥)
        → ((other : ℕ) → FirstTaken b.room.owners.items net other (node ∷ back) → FirstTaken b.room.owners.items net other (start ∷ inv.whole))
        → Ahead b net target start cost node left
    by [] trace some onward = absurd (ne trace.1)
    by (u ∷ q) (free, (k, k4, is, mark, from_is, (c, more, e))) some onward =
        let rest : c ≡ left - weight k = omega arith in
        record {
          way = k;
          mark = mark;
          few = k4;
          on = u;
          ahead = from_is;
          enough = omega arith;
          goes = λ open_here lt. record {
            within = lt;
            back = q;
            trace = subst (λ (n : ℕ). Trace b.room.grid (reserved_of b) net b.frontier.marks.items target u q n) rest more;
            some = λ all. some (open_here, all);
            whole = inv.whole;
            first = inv.first;
            onward = λ other h. onward other (inr (open_here, h));
          };
        }

-- a node that isn't free is the first
pub taken_here : (b : Board) (net target start cost node left word : ℕ) → Goes b net target start cost node left → slice_index b.room.owners.items node ≡ word
    → (IsFree b.room.owners.items net node → ⊥)
    → (back : List ℕ) × Trace b.room.grid (reserved_of b) net b.frontier.marks.items target start back cost × FirstTaken b.room.owners.items net word (start ∷ back)
taken_here b net target start cost node left word inv is taken = (inv.whole, inv.first, inv.onward word (inl (taken, is)))

trace_ends : (g : Grid) (f : List ℕ) (net : ℕ) (ms : List ℕ) (target v : ℕ) (back : List ℕ) (c : ℕ) → Trace g f net ms target v back c → slice_index ms target ≡ 5
trace_ends g f net ms target v [] c t = ap (λ (n : ℕ). slice_index ms n) (sym t.1) ∙ t.0
trace_ends g f net ms target v (u ∷ back) c (free, (k, k4, is, mark, from_is, (b, t, e))) = trace_ends g f net ms target u back b t

-- and at the target there is no other
pub last_taken : (b : Board) (net target start cost node left : ℕ) → Goes b net target start cost node left → node ≡ target → IsFree b.room.owners.items net node → ⊥
last_taken b net target start cost node left inv at free = by inv.back inv.trace inv.some
  where
    by : (back : List ℕ) → Trace b.room.grid (reserved_of b) net b.frontier.marks.items target node back left → (AreFree b.room.owners.items net (node ∷ back) → ⊥) → ⊥
    by [] trace some = some (free, tt)
    by (u ∷ q) (open_here, (k, k4, is, mark, from_is, (c, more, e))) some =
        let five = trace_ends b.room.grid (reserved_of b) net b.frontier.marks.items target u q c more in
        let same : slice_index b.frontier.marks.items node ≡ slice_index b.frontier.marks.items target = ap (λ (n : ℕ). slice_index b.frontier.marks.items n) at in
        omega arith
