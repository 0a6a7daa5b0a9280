-- Terminals that are joined pair by pair.
use Rattle.std.specs.Prelude.{◌≡◌, ◌↔◌, ℕ, ◌<◌, List, [], ◌∷◌, ◌++◌, map, length, None, slice_get, slice_index_or, unwrap_or}
use Rattle.std.specs.List.{All}
use Rattle.vlsi_base.specs.declared.name.Port.{Port}
use Rattle.vlsi_base.specs.declared.name.Terminal.{Terminal}
use Rattle.vlsi_base.specs.Member.{In}
use Rattle.net_core.specs.declared.error.BuildError.{BuildError}
use Rattle.net_core.specs.declared.error.BuildError.TheVariants as error
use Rattle.net_core.specs.Places.{IsThere}
use Rattle.net_core.specs.Netlist.{Instance, Netlist, InTurn, port, terminals_of, HasClass}
use Rattle.net_core.specs.Frame.{Frame, frame_terminals}

-- one is reached from the other along the pairs, each in either direction: they are in one class of the least equivalence
-- that holds of each pair
pub data Joined {X : Type 0} (joins : List (X × X)) : X → X → Type 0 where
  same : {a : X} → Joined joins a a
  along : {a b c : X} → In (a, b) joins → Joined joins b c → Joined joins a c
  against : {a b c : X} → In (a, b) joins → Joined joins a c → Joined joins b c

-- numbers, each labelled, of which two have one label exactly where the pairs join them
abbrev pub LabelsJoined : List (ℕ × ℕ) → List ℕ → Type 0
LabelsJoined joins labels =
    (i j : ℕ) → i < length labels → j < length labels → (slice_index_or labels i 0 ≡ slice_index_or labels j 0) ↔ Joined joins i j

-- two have one number exactly where they have one label, and numbers are given in turn
pub record NumbersLabels (labels classes : List ℕ) (count : ℕ) : Type 0 where
  pub each : length classes ≡ length labels
  pub alike : (i j : ℕ) → i < length labels → j < length labels
      → (slice_index_or classes i 0 ≡ slice_index_or classes j 0) ↔ (slice_index_or labels i 0 ≡ slice_index_or labels j 0)
  pub turns : InTurn 0 classes count

-- a netlist that is being built: its parts, and the pairs of terminals that were joined, in the order of calls
pub record Draft : Type 0 where
  pub name : List ℕ
  pub ports : List Port
  pub instances : List Instance
  pub joins : List (Terminal × Terminal)

-- a terminal by its place; past the end the port of no name
abbrev pub terminal_at : List Terminal → ℕ → Terminal
terminal_at terminals k = unwrap_or (slice_get terminals k) (port (record { text = []; bit = None }))

abbrev pub pairs_at : List Terminal → List (ℕ × ℕ) → List (Terminal × Terminal)
pairs_at terminals joins = map (λ p. (terminal_at terminals p.0, terminal_at terminals p.1)) joins

abbrev pub draft_of : List ℕ → Frame → List (ℕ × ℕ) → Draft
draft_of name frame joins = record {
  name = name;
  ports = frame.ports;
  instances = frame.instances;
  joins = pairs_at (frame_terminals frame) joins;
}

abbrev pub AreWithin : ℕ → List (ℕ × ℕ) → Type 0
AreWithin count joins = All (λ p. (p.0 < count) × (p.1 < count)) joins

abbrev pub draft_terminals : Draft → List Terminal
draft_terminals d = terminals_of d.ports d.instances

-- the same draft with one more instance behind the others
abbrev pub with_instance : Draft → Instance → Draft
with_instance d i = record d { instances = d.instances ++ i ∷ [] }

-- the same draft with one more pair
abbrev pub with_join : Draft → Terminal → Terminal → Draft
with_join d a b = record d { joins = d.joins ++ (a, b) ∷ [] }

-- why two terminals aren't joined, if memory hasn't run out: one of them isn't there
abbrev pub IsNoJoin : Draft → Terminal → Terminal → BuildError → Type 0
IsNoJoin d a b error.Memory = Unit {0}
IsNoJoin d a b error.Twice = ⊥
IsNoJoin d a b error.Unknown = IsThere (draft_terminals d) a → IsThere (draft_terminals d) b → ⊥

-- The netlist of a draft: two terminals have one class exactly where the draft's pairs join them. Its models are those of its
-- instances.
pub record IsFinished (d : Draft) (n : Netlist) : Type 0 where
  pub name : n.name ≡ d.name
  pub ports : n.ports ≡ d.ports
  pub instances : n.instances ≡ d.instances
  pub models : (model : List ℕ) → IsThere n.models model ↔ IsThere (map (λ i. i.model) d.instances) model
  pub classes : (a b : Terminal) (j k : ℕ) → HasClass n a j → HasClass n b k → (j ≡ k) ↔ Joined d.joins a b
