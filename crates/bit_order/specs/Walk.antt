-- A walk from node to node along what they read: what is in order, and the path to where it has come.
use Rattle.std.specs.Prelude.{◌≡◌, ◌≢◌, ℕ, ◌+◌, ◌-◌, ◌<◌, ◌≤◌, List, [], ◌∷◌, ◌++◌, length, slice_index, slice_set, drop}
use Rattle.std.specs.List.{slice_index_or, sum_by}
use Rattle.bit_order.specs.declared.walk.Walk.{Walk}
use Rattle.bit_order.specs.declared.walk.Mark.{Mark}
use Rattle.bit_order.specs.declared.walk.Mark.TheVariants as mark
use Rattle.bit_order.specs.Order.{reads_of, Reads, StandsBefore, IsRing}

abbrev pub mark_of : List Mark → ℕ → Mark
mark_of marks node = slice_index_or marks node mark.New

-- what holds between the turns of a walk
pub record IsWalk (reads : List (List ℕ)) (marks : List Mark) (nexts path sorted : List ℕ) : Type 0 where
  pub marked : length marks ≡ length reads
  pub counted : length nexts ≡ length reads
  -- a mark tells the place, on the path or in the order
  pub path_marks : (place : ℕ) → place < length path → mark_of marks (slice_index path place) ≡ mark.Open place
  pub open_places : (node place : ℕ) → mark_of marks node ≡ mark.Open place
      → (place < length path) × (slice_index path place ≡ node)
  pub sorted_marks : (place : ℕ) → place < length sorted → mark_of marks (slice_index sorted place) ≡ mark.Done place
  pub done_places : (node place : ℕ) → mark_of marks node ≡ mark.Done place
      → (place < length sorted) × (slice_index sorted place ≡ node)
  -- each node on the path reads the next
  pub links : (place : ℕ) → place + 1 < length path
      → Reads reads (slice_index path place) (slice_index path (place + 1))
  -- of what a node reads, so many are in order
  pub passed : (node k : ℕ) → k < slice_index nexts node
      → StandsBefore sorted (length sorted) (slice_index (reads_of reads node) k)
  -- what a node in order reads stands before it
  pub behind : (place k : ℕ) → place < length sorted → k < length (reads_of reads (slice_index sorted place))
      → StandsBefore sorted place (slice_index (reads_of reads (slice_index sorted place)) k)

abbrev pub IsWalkOf : List (List ℕ) → Walk → Type 0
IsWalkOf reads w = IsWalk reads w.marks.items w.nexts.items w.path.items w.sorted.items

-- a node was put at the end of the path
pub record Entered (old new : Walk) (node : ℕ) : Type 0 where
  pub marks : new.marks.items ≡ slice_set old.marks.items node (mark.Open (length old.path.items))
  pub nexts : new.nexts.items ≡ old.nexts.items
  pub path : new.path.items ≡ old.path.items ++ node ∷ []
  pub sorted : new.sorted.items ≡ old.sorted.items

-- the last node of the path was put behind those in order
pub record Finished (old new : Walk) (node : ℕ) : Type 0 where
  pub marks : new.marks.items ≡ slice_set old.marks.items node (mark.Done (length old.sorted.items))
  pub nexts : new.nexts.items ≡ old.nexts.items
  pub path : (last : ℕ) × (old.path.items ≡ new.path.items ++ last ∷ [])
  pub sorted : new.sorted.items ≡ old.sorted.items ++ node ∷ []

-- one more of what a node reads is in order
pub record Passed (old new : Walk) (node : ℕ) : Type 0 where
  pub marks : new.marks.items ≡ old.marks.items
  pub nexts : new.nexts.items ≡ slice_set old.nexts.items node (slice_index old.nexts.items node + 1)
  pub path : new.path.items ≡ old.path.items
  pub sorted : new.sorted.items ≡ old.sorted.items

-- what the walk has met stays met
abbrev pub Keeps : Walk → Walk → Type 0
Keeps old new = (node : ℕ) → mark_of old.marks.items node ≢ mark.New → mark_of new.marks.items node ≢ mark.New

abbrev pub new_weight : Mark → ℕ
new_weight mark.New = 2
new_weight (mark.Open place) = 0
new_weight (mark.Done place) = 0

-- how much of what is read wasn't passed yet
abbrev pub unread : List (List ℕ) → List ℕ → ℕ
unread [] nexts = 0
unread (nodes ∷ reads) [] = 0
unread (nodes ∷ reads) (next ∷ nexts) = (length nodes - next) + unread reads nexts

-- at most so many turns are left
abbrev pub turns_left : List (List ℕ) → Walk → ℕ
turns_left reads w = sum_by new_weight w.marks.items + (unread reads w.nexts.items + length w.path.items)

-- a turn of a walk
pub record Goes (reads : List (List ℕ)) (old new : Walk) : Type 0 where
  pub walk : IsWalkOf reads new
  pub keeps : Keeps old new
  pub nearer : turns_left reads new < turns_left reads old

-- the walk has come to no path, and what it had met stays met
pub record Followed (reads : List (List ℕ)) (old new : Walk) : Type 0 where
  pub walk : IsWalkOf reads new
  pub keeps : Keeps old new
  pub ended : new.path.items ≡ []

-- the node was met, or it is put at the end of the path
abbrev pub BegunAt : Walk → Walk → ℕ → Mark → Type 0
BegunAt old new node mark.New = Entered old new node
BegunAt old new node (mark.Open place) = new ≡ old
BegunAt old new node (mark.Done place) = new ≡ old

abbrev pub Begun : Walk → Walk → ℕ → Type 0
Begun old new node = BegunAt old new node (mark_of old.marks.items node)

-- the last node of the list
pub record IsLast (nodes : List ℕ) (node : ℕ) : Type 0 where
  pub some : 0 < length nodes
  pub is : slice_index nodes (length nodes - 1) ≡ node

-- the node reads this one, at this place of what it reads
pub record IsReadAt (reads : List (List ℕ)) (node place read : ℕ) : Type 0 where
  pub inside : place < length (reads_of reads node)
  pub is : slice_index (reads_of reads node) place ≡ read

-- the path from a place on is a ring
pub record IsRingFrom (reads : List (List ℕ)) (w : Walk) (first : ℕ) : Type 0 where
  pub inside : first ≤ length w.path.items
  pub ring : IsRing reads (drop first w.path.items)
