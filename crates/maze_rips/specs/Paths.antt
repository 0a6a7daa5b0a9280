-- Paths of nets that are kept under keys.
use Rattle.std.specs.Prelude.{◌≡◌, ◌≢◌, ℕ, List, [], ◌∷◌, ◌++◌, Option, None, Some, length, map, slice_get}
use Rattle.std.specs.Global.{Vec}
use Rattle.slab.specs.Slab.{Slab, get, ContainsKey, Updates}
use Rattle.grid_core.specs.declared.grid.Node.{Node}
use Rattle.grid_core.specs.Routes.{Tree}

-- ---- as they are seen

-- the paths of a net, by its number
abbrev pub paths_or_none : Option (List (List Node)) → List (List Node)
paths_or_none None = []
paths_or_none (Some paths) = paths

abbrev pub paths_in : List (List (List Node)) → ℕ → List (List Node)
paths_in paths net = paths_or_none (slice_get paths net)

-- the net has these paths now, and every other has those that it had
pub record HasNow (net : ℕ) (paths : List (List Node)) (old new : List (List (List Node))) : Type 0 where
  pub size : length new ≡ length old
  pub mine : paths_in new net ≡ paths
  pub others : (k : ℕ) → k ≢ net → paths_in new k ≡ paths_in old k

-- what is kept of a tree: its first point alone, then its paths
abbrev pub laid : Option Tree → List (List Node)
laid None = []
laid (Some t) = (t.start ∷ []) ∷ t.paths

-- ---- as they are kept

-- the nodes under a key
abbrev pub nodes_of : Option (Vec Node) → List Node
nodes_of None = []
nodes_of (Some path) = path.items

abbrev pub path_under : Slab (Vec Node) → ℕ → List Node
path_under kept key = nodes_of (get kept key)

abbrev pub paths_under : Slab (Vec Node) → Vec ℕ → List (List Node)
paths_under kept keys = map (path_under kept) keys.items

-- the keys of a net, by its number
abbrev pub keys_or_none : Option (Vec ℕ) → List ℕ
keys_or_none None = []
keys_or_none (Some keys) = keys.items

abbrev pub keys_of : List (Vec ℕ) → ℕ → List ℕ
keys_of keys net = keys_or_none (slice_get keys net)

-- the one in this place among them
abbrev pub key_at : List (Vec ℕ) → ℕ → ℕ → Option ℕ
key_at keys net at = slice_get (keys_of keys net) at

-- Each key leads to a path and stands in one place alone, and each path that is kept is under one of them.
pub record AreKeys (kept : Slab (Vec Node)) (keys : List (Vec ℕ)) : Type 0 where
  pub lead : (net at key : ℕ) → key_at keys net at ≡ Some key → ContainsKey kept key
  pub apart : (j k a b key : ℕ) → key_at keys j a ≡ Some key → key_at keys k b ≡ Some key → (j ≡ k) × (a ≡ b)
  pub known : (key : ℕ) → ContainsKey kept key → (net : ℕ) × (at : ℕ) × (key_at keys net at ≡ Some key)

-- no key for so many nets
pub record HaveNone (nets : ℕ) (keys : List (Vec ℕ)) : Type 0 where
  pub size : length keys ≡ nets
  pub none : (net : ℕ) → keys_of keys net ≡ []

-- a path more is kept, under a key that led to none, and this is the last of the net's keys
pub record IsOneMore (old new : Slab (Vec Node)) (before now : List ℕ) (path : Vec Node) : Type 0 where
  pub key : ℕ
  pub vacant : get old key ≡ None
  pub updates : Updates old new key (Some path)
  pub listed : now ≡ before ++ key ∷ []
