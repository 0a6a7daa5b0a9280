-- A layout that shows a block of instances, nets and ports by numbers.
use Rattle.std.specs.Prelude.{◌≡◌, ◌↔◌, ℕ, ◌<◌, List, [], map, Option, None, Some}
use Rattle.vlsi_base.specs.declared.name.Name as name
use Rattle.vlsi_base.specs.declared.name.Terminal as terminal
use Rattle.sym_geom.specs.declared.item.Item.{Item}
use Rattle.sym_shapes.specs.Shape as shape
use Rattle.sym_shapes.specs.Joined as joined
use Rattle.cell_model.specs.Layout as layout
use Rattle.cell_model.specs.Library.{Library}
use Rattle.net_meaning.specs.Netlist as netlist
use Rattle.net_meaning.specs.Breaches.{Breaches}
use Rattle.block_geom.specs.Figure.{Shape, Name}
use Rattle.block_geom.specs.Block.{Block, IsSound, Terminal, AtPort, AtPin, Exists, net_of, shapes, terminal_at}
use Rattle.block_geom.specs.Tracks.{HasTracks, block_lines}

-- f of the value, if there is one
abbrev pub option_map : {A B : Type 0} → (A → B) → Option A → Option B
option_map f None = None
option_map f (Some x) = Some (f x)

-- the shape with the instance's name in place of its number, and the names in place of theirs
abbrev pub shown : (ℕ → List ℕ) → (Option ℕ → Name → name.Name) → Shape → shape.Shape
shown own call s = record {
  metal = s.metal;
  rect = s.rect;
  owner = option_map own s.owner;
  line = s.line;
  name = option_map (call s.owner) s.name;
}

-- the terminal of these names
abbrev pub terminal_of : (ℕ → List ℕ) → (Option ℕ → Name → name.Name) → Terminal → terminal.Terminal
terminal_of own call (AtPort m) = netlist.port (call None m)
terminal_of own call (AtPin i m) = netlist.pin_of (own i) (call (Some i) m)

-- different instances and terminals have different names
pub record AreApart (b : Block) (own : ℕ → List ℕ) (call : Option ℕ → Name → name.Name) : Type 0 where
  pub owners : (i k : ℕ) → i < b.count → k < b.count → own i ≡ own k → i ≡ k
  pub names : (o : Option ℕ) (m d : Name) → Exists b (terminal_at o m) → Exists b (terminal_at o d)
      → call o m ≡ call o d → m ≡ d

-- The lines show the block.
pub record IsPictureOf (items : List Item) (l : Library) (b : Block) (lo hi : ℕ → ℕ) (own : ℕ → List ℕ)
    (call : Option ℕ → Name → name.Name) : Type 0 where
  pub sound : IsSound b
  pub tracks : HasTracks b lo hi
  pub apart : AreApart b own call
  pub shapes : layout.shapes items l ≡ map (shown own call) (shapes b (block_lines b lo hi))

-- two terminals of the block are joined in the lines exactly where they have one net
abbrev pub JoinsNets : List Item → Library → Block → (ℕ → List ℕ) → (Option ℕ → Name → name.Name) → Type 0
JoinsNets items l b own call =
    (t u : Terminal) → Exists b t → Exists b u
    → (net_of b t ≡ net_of b u) ↔ joined.AreJoined (layout.shapes items l) (terminal_of own call t) (terminal_of own call u)

-- lines that show a block join exactly its nets, and break no rule
abbrev pub PicturesJoin : Type 0
PicturesJoin =
    (items : List Item) (l : Library) (b : Block) (lo hi : ℕ → ℕ) (own : ℕ → List ℕ) (call : Option ℕ → Name → name.Name)
    → IsPictureOf items l b lo hi own call → JoinsNets items l b own call × Breaches items l []
