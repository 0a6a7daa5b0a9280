-- A netlist with gates behind its instances, by a wiring.
use Rattle.std.specs.Prelude.{◌≡◌, ◌↔◌, ℕ, ◌^◌, ◌<◌, List, [], ◌++◌, codes, map, length, Option, None, Some}
use Rattle.std.specs.List.{All}
use Rattle.vlsi_base.specs.declared.name.Terminal.{Terminal}
use Rattle.net_core.specs.Netlist.{Instance, Netlist as InMemory, terminals_of, AreInOrder, HasClass}
use Rattle.net_core.specs.Places.{NoneTwice}
use Rattle.text_names.specs.Free.{free_texts}
use Rattle.loon_wiring.specs.declared.repeater.Repeater.{Repeater as Parts}
use Rattle.loon_wiring.specs.declared.wiring.Wiring.{Wiring}
use Rattle.loon_fanout.specs.Sinks.{class_among}
use Rattle.loon_fanout.specs.Building.{gate_by}
use Rattle.loon_wiring.specs.Stages.{next_class}

-- the names that so many gates are given
abbrev pub gate_names : InMemory → ℕ → List (List ℕ)
gate_names n many = free_texts (codes "b") (map (λ i. i.name) n.instances) many

-- gates of these names; none where there is nothing to put in
abbrev pub gates_by : Option Parts → List (List ℕ) → List Instance
gates_by None names = []
gates_by (Some r) names = map (gate_by r) names

-- the instances, and behind them the gates that were put in
abbrev pub gated : InMemory → Option Parts → Wiring → List Instance
gated n r v = n.instances ++ gates_by r (gate_names n (length v.reads.items))

abbrev pub gated_terminals : InMemory → Option Parts → Wiring → List Terminal
gated_terminals n r v = terminals_of n.ports (gated n r v)

-- such a netlist can be built
pub record IsGatable (n : InMemory) (r : Option Parts) (v : Wiring) : Type 0 where
  pub order : AreInOrder (map (λ p. p.name) n.ports)
  pub pins : All (λ i. AreInOrder i.pins) (gated n r v)
  pub names : NoneTwice (map (λ i. i.name) (gated n r v))
  pub many : length (gated n r v) < 2 ^ 32
  pub few : length (gated_terminals n r v) < 2 ^ 32
  pub gates : length v.reads.items < 2 ^ 32
  pub each : length v.classes.items ≡ length (gated_terminals n r v)
  pub inside : All (λ class. class < next_class v) v.classes.items

-- two terminals have one class exactly where they have one in the wiring
pub record IsGated (n : InMemory) (r : Option Parts) (v : Wiring) (k : InMemory) : Type 0 where
  pub name : k.name ≡ n.name
  pub ports : k.ports ≡ n.ports
  pub instances : k.instances ≡ gated n r v
  pub classes : (a b : Terminal) (i j : ℕ) → HasClass k a i → HasClass k b j
      → (i ≡ j) ↔ (class_among (gated_terminals n r v) v.classes.items a ≡ class_among (gated_terminals n r v) v.classes.items b)
