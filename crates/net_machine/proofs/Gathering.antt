-- The bits of a netlist, one instance after the other.
use Rattle.std.proofs.Common.{◌≡◌, ℕ, ◌+◌, ◌-◌, ◌<◌, ◌^◌, min, List, ◌∷◌, ◌++◌, map, length, drop, Option, sym, ap, ◌∙◌, subst, arith, append_assoc}
use Rattle.std.specs.Prelude.{slice_index_or}
use Rattle.std.specs.List.{flat_map}
use Rattle.std.proofs.lemmas.List.{length-map, get_or-map}
use Rattle.vlsi_base.specs.declared.name.Name.{Name}
use Rattle.vlsi_base.specs.declared.name.Terminal.{Terminal}
use Rattle.vlsi_base.specs.Range.{rising}
use Rattle.source_bits.specs.Driven.{Numbered, NumberedStorage, driven_view, stored_view}
use Rattle.cell_model.specs.Library.{Library, cell_of}
use Rattle.net_core.specs.declared.frame.Node.{Node}
use Rattle.net_core.specs.Frame.{instance_of}
use Rattle.net_core.specs.Netlist.{Instance, Netlist as InMemory, IsClassFunction}
use Rattle.bit_machine.specs.System.{System, system_of}
use Rattle.bit_machine.specs.declared.system.BitSystem.{BitSystem}
use Rattle.net_machine.specs.declared.known.Known.{Known as KnownParts}
use Rattle.net_machine.specs.Body.{Body, body_view, body_at, width}
use Rattle.net_machine.specs.Known.{Known}
use Rattle.net_machine.specs.Bits.{Placed, own_name, port_names, port_inputs, port_driven, classes_driven, placed_from, placed_stored, placed_driven, widths, body_stored, body_driven, first_base, net_system}
use Rattle.net_machine.specs.Gathered.{KnowsModels, AreKnown, HasPins, IsBodyOver, IsLonger, AreBitsOf}
use Rattle.net_machine.proofs.Turns.{drop_next, piece_turn}
use Rattle.net_machine.proofs.Knowing.{AreNodes, known_is}
use Rattle.net_machine.proofs.Clocks.{node_there}

-- the instances from the k-th node on
pub node_next : (n : InMemory) (nodes : List Node) (k : ℕ) (d : Node) → AreNodes n nodes → k < length nodes → d ≡ slice_index_or nodes k d
    → drop k n.instances ≡ instance_of n.models d ∷ drop (k + 1) n.instances
node_next n nodes k d are low is =
    let f = instance_of n.models in
    let many : length nodes ≡ length n.instances = sym (length-map nodes f) ∙ ap (λ (is : List Instance). length is) are.seen in
    let at : f d ≡ slice_index_or n.instances k (f d) = ap f is ∙ sym (get_or-map f nodes k d (f d) low) ∙ ap (λ (is : List Instance). slice_index_or is k (f d)) are.seen in
    drop_next n.instances k (f d) (omega (arith, low, many)) at

pub body_here : (n : InMemory) (l : Library) (known : List KnownParts) (nodes : List Node) (k : ℕ) (d : Node) (m : KnownParts) → AreNodes n nodes → KnowsModels n l known
    → k < length nodes → d ≡ slice_index_or nodes k d → m ≡ slice_index_or known d.model m → body_view m.body ≡ body_at (cell_of l (instance_of n.models d).model)
body_here n l known nodes k d m are knows low is known_at_is =
    let inside : d.model < length n.models = subst (λ (x : Node). x.model < length n.models) (sym is) (are.inside k d low) in
    ap (λ (x : Known). x.body) (known_is n l known d.model m knows inside known_at_is)

pub pins_here : (n : InMemory) (known : List KnownParts) (nodes : List Node) (k : ℕ) (d : Node) (m : KnownParts) → AreNodes n nodes → AreKnown n known
    → k < length nodes → d ≡ slice_index_or nodes k d → m ≡ slice_index_or known d.model m → HasPins n d.name (body_view m.body)
pins_here n known nodes k d m are h low is known_at_is =
    subst (HasPins n d.name) (sym (body_here n h.library known nodes k d m are h.knows low is known_at_is)) (h.fine.pins (instance_of n.models d) (node_there n nodes k d are low is))

pub over_here : (n : InMemory) (known : List KnownParts) (nodes : List Node) (k : ℕ) (d : Node) (m : KnownParts) → AreNodes n nodes → AreKnown n known
    → k < length nodes → d ≡ slice_index_or nodes k d → m ≡ slice_index_or known d.model m → IsBodyOver (body_view m.body)
over_here n known nodes k d m are h low is known_at_is =
    subst IsBodyOver (sym (body_here n h.library known nodes k d m are h.knows low is known_at_is)) (h.fine.over (instance_of n.models d) (node_there n nodes k d are low is))

-- ---- one instance more

pub widths_next : (n : InMemory) (l : Library) (k base next total : ℕ) (b : Body) (i : Instance) → drop k n.instances ≡ i ∷ drop (k + 1) n.instances → b ≡ body_at (cell_of l i.model) → next ≡ base + width b
    → base + widths l (drop k n.instances) ≡ total → next + widths l (drop (k + 1) n.instances) ≡ total
widths_next n l k base next total b i e body is h =
    let w = ap (widths l) e in
    let v = ap width body in
    omega (arith, w, v, is, h)

-- where all that are left have numbers of 32 bits, so has the first of them
pub width_few : (n : InMemory) (l : Library) (k base total : ℕ) (b : Body) (i : Instance) → drop k n.instances ≡ i ∷ drop (k + 1) n.instances → b ≡ body_at (cell_of l i.model)
    → base + widths l (drop k n.instances) ≡ total → total < 2 ^ 32 → base + width b < 2 ^ 32
width_few n l k base total b i e body h few =
    let w = ap (widths l) e in
    let v = ap width body in
    omega (arith, w, v, h, few)

-- what was counted and what is left, up to the greatest number of 64 bits
pub count_next : (n : InMemory) (l : Library) (k count next total : ℕ) (b : Body) (i : Instance) → drop k n.instances ≡ i ∷ drop (k + 1) n.instances → b ≡ body_at (cell_of l i.model)
    → next ≡ min (count + width b) (2 ^ 64 - 1) → min (count + widths l (drop k n.instances)) (2 ^ 64 - 1) ≡ min total (2 ^ 64 - 1)
    → min (next + widths l (drop (k + 1) n.instances)) (2 ^ 64 - 1) ≡ min total (2 ^ 64 - 1)
count_next n l k count next total b i e body is h =
    let w = ap (widths l) e in
    let v = ap width body in
    omega (arith, w, v, is, h)

-- all instances that are left, with the first of them apart
pub placed_next : {A : Type 0} (n : InMemory) (l : Library) (f : Placed → List A) (k base next : ℕ) (b : Body) (i : Instance) → drop k n.instances ≡ i ∷ drop (k + 1) n.instances
    → b ≡ body_at (cell_of l i.model) → next ≡ base + width b
    → flat_map f (placed_from l base (drop k n.instances)) ≡ f (record { name = i.name; cell = cell_of l i.model; base = base }) ++ flat_map f (placed_from l next (drop (k + 1) n.instances))
placed_next {A} n l f k base next b i e body is =
    ap (λ (is : List Instance). flat_map f (placed_from l base is)) e
    ∙ ap (λ (at : ℕ). f (record { name = i.name; cell = cell_of l i.model; base = base }) ++ flat_map f (placed_from l at (drop (k + 1) n.instances))) (ap (λ (x : Body). base + width x) (sym body) ∙ sym is)

pub stored_next : (n : InMemory) (l : Library) (class : Terminal → ℕ) (k base next : ℕ) (b : Body) (i : Instance) (old now total : List NumberedStorage) → drop k n.instances ≡ i ∷ drop (k + 1) n.instances
    → b ≡ body_at (cell_of l i.model) → next ≡ base + width b → now ≡ old ++ body_stored class i.name b base
    → old ++ flat_map (placed_stored class) (placed_from l base (drop k n.instances)) ≡ total → now ++ flat_map (placed_stored class) (placed_from l next (drop (k + 1) n.instances)) ≡ total
stored_next n l class k base next b i old now total e body is put h =
    piece_turn old now (body_stored class i.name (body_at (cell_of l i.model)) base) (flat_map (placed_stored class) (placed_from l next (drop (k + 1) n.instances))) total
    (put ∙ ap (λ (x : Body). old ++ body_stored class i.name x base) body)
    (ap (λ (xs : List NumberedStorage). old ++ xs) (sym (placed_next n l (placed_stored class) k base next b i e body is)) ∙ h)

pub driven_next : (n : InMemory) (l : Library) (class : Terminal → ℕ) (k base next : ℕ) (b : Body) (i : Instance) (old now total : List Numbered) → drop k n.instances ≡ i ∷ drop (k + 1) n.instances
    → b ≡ body_at (cell_of l i.model) → next ≡ base + width b → now ≡ old ++ body_driven class i.name b base
    → old ++ flat_map (placed_driven class) (placed_from l base (drop k n.instances)) ≡ total → now ++ flat_map (placed_driven class) (placed_from l next (drop (k + 1) n.instances)) ≡ total
driven_next n l class k base next b i old now total e body is put h =
    piece_turn old now (body_driven class i.name (body_at (cell_of l i.model)) base) (flat_map (placed_driven class) (placed_from l next (drop (k + 1) n.instances))) total
    (put ∙ ap (λ (x : Body). old ++ body_driven class i.name x base) body)
    (ap (λ (xs : List Numbered). old ++ xs) (sym (placed_next n l (placed_driven class) k base next b i e body is)) ∙ h)

-- ---- all bits

made : List Name → List ℕ → List NumberedStorage → List Numbered → System
made names inputs stored driven = record { names = names; inputs = inputs; stored = stored; driven = driven }

pub same_system : (s : BitSystem) (t : System) → s.names ≡ t.names → s.inputs.items ≡ t.inputs → map stored_view s.stored.items ≡ t.stored → map driven_view s.driven.items ≡ t.driven → system_of s ≡ t
unfolding made
same_system s t a b c d =
    ap (λ (ns : List Name). made ns s.inputs.items (map stored_view s.stored.items) (map driven_view s.driven.items)) a
    ∙ ap (λ (ks : List ℕ). made t.names ks (map stored_view s.stored.items) (map driven_view s.driven.items)) b
    ∙ ap (λ (xs : List NumberedStorage). made t.names t.inputs xs (map driven_view s.driven.items)) c
    ∙ ap (λ (xs : List Numbered). made t.names t.inputs t.stored xs) d

-- the names of the bits, with the first number of an instance's bits and the number behind the last
abbrev pub AreNames : InMemory → Option Name → ℕ → ℕ → List Name → Type 0
AreNames n clock first end names =
    (text : List ℕ) × IsLonger n.ports text × ((many : ℕ) → first + many ≡ end → names
    ≡ map (own_name text) (rising 0 n.count) ++ (port_names text clock n.count n.ports ++ map (own_name text) (rising first many)))

pub bits_are : (n : InMemory) (l : Library) (clock : Option Name) (s : BitSystem) (first end : ℕ) → first ≡ first_base n → end ≡ first + widths l n.instances → AreNames n clock first end s.names
    → s.inputs.items ≡ port_inputs clock n.count n.ports
    → ((class : Terminal → ℕ) → IsClassFunction n class → map stored_view s.stored.items ≡ flat_map (placed_stored class) (placed_from l first n.instances))
    → ((class : Terminal → ℕ) → IsClassFunction n class → map driven_view s.driven.items
    ≡ (port_driven class clock n.count n.ports ++ classes_driven class n.count n.ports) ++ flat_map (placed_driven class) (placed_from l first n.instances))
    → AreBitsOf n l clock s
bits_are n l clock s first end start size names inputs stored driven = record {
  text = names.0;
  longer = names.1;
  is = λ class function. same_system s (net_system names.0 class n l clock)
      (names.2 (widths l n.instances) (sym size)
      ∙ ap (λ (k : ℕ). map (own_name names.0) (rising 0 n.count) ++ (port_names names.0 clock n.count n.ports ++ map (own_name names.0) (rising k (widths l n.instances)))) start)
      inputs
      (stored class function ∙ ap (λ (k : ℕ). flat_map (placed_stored class) (placed_from l k n.instances)) start)
      (driven class function ∙ append_assoc (port_driven class clock n.count n.ports) (classes_driven class n.count n.ports) (flat_map (placed_driven class) (placed_from l first n.instances))
      ∙ ap (λ (k : ℕ). port_driven class clock n.count n.ports ++ (classes_driven class n.count n.ports ++ flat_map (placed_driven class) (placed_from l k n.instances))) start);
}
