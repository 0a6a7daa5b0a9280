-- The netlist of a figure from the stages that make it, where each reads what another has made.
use Rattle.std.proofs.Common.{◌≡◌, ◌↔◌, ℕ, ◌+◌, ◌<◌, ◌^◌, List, [], length, map, All, sym, ap, subst, ◌∙◌, arith}
use Rattle.std.proofs.lemmas.List.Sorted.{length_permutation}
use Rattle.vlsi_base.specs.declared.name.Name.{Name}
use Rattle.vlsi_base.specs.declared.name.Port.{Port}
use Rattle.vlsi_base.specs.Member.{In}
use Rattle.ap_io.specs.declared.figure.Figure.{Figure}
use Rattle.sym_geom.specs.declared.item.Item.{Item}
use Rattle.sym_shapes.specs.Shape.{connector_names}
use Rattle.cell_model.specs.Library.{Library}
use Rattle.cell_model.specs.Layout.{instances_of}
use Rattle.net_core.specs.Places.{IsThere}
use Rattle.net_core.specs.Netlist.{Netlist, IsNetlist}
use Rattle.net_core.specs.Joins.{Draft, draft_terminals, IsFinished}
use Rattle.cougar_extract.specs.declared.links.Link.{Link}
use Rattle.cougar_extract.specs.Extracted.{figure_text, instance_of}
use Rattle.cougar_extract.specs.Stages.{AreTerminals, AreLeaders, ArePortsBy, IsBuilt, port_by, join_of, with_instances, with_joins}
use Rattle.cougar_extract.specs.Refused.{pin_count}
use Rattle.net_theory.proofs.Basics.{length-map}
use Rattle.cougar_extract.proofs.Adding.{all_there, built}

-- ports alone
abbrev pub bare : List ℕ → List Port → Draft
bare text ports = record { name = text; ports = ports; instances = []; joins = [] }

abbrev pub SameNames : List Name → List Item → Type 0
SameNames names items = (name : Name) → In name names ↔ In name (connector_names items)

-- the terminals of all connectors are there once the instances are
pub ends_there : (f : Figure) (l : Library) (links : List Link) (placed_of : List Item) (names : List Name) (text : List ℕ) (ports given : List Port) (begun placed : Draft)
    → placed_of ≡ f.items → given ≡ ports → SameNames names f.items → ArePortsBy names links ports
    → begun ≡ bare text given → placed ≡ with_instances begun (map (instance_of l) (instances_of placed_of)) → AreTerminals f.items l links
    → All (λ (x : Link). IsThere (draft_terminals placed) x.terminal) links
ends_there f l links placed_of names text ports given begun placed same_placed same_ports same by is_begun is_placed are =
    let whole : placed ≡ with_instances (bare text ports) (map (instance_of l) (instances_of f.items)) =
    is_placed
    ∙ ap (λ (d : Draft). with_instances d (map (instance_of l) (instances_of placed_of))) (is_begun ∙ ap (bare text) same_ports)
    ∙ ap (λ (items : List Item). with_instances (bare text ports) (map (instance_of l) (instances_of items))) same_placed in
    all_there f.items l names links placed (subst (λ (ps : List Port). ArePortsBy names links ps) (sym (ap (λ (d : Draft). d.ports) whole)) by) same
    (ap (λ (d : Draft). d.instances) whole) are

-- what was built
pub built_of : (f : Figure) (l : Library) (links : List Link) (placed_of : List Item) (names : List Name) (places placed_at : List ℕ) (text : List ℕ) (ports given : List Port)
    (begun placed last : Draft) (n : Netlist)
    → placed_of ≡ f.items → placed_at ≡ places → text ≡ figure_text f.name → given ≡ ports → SameNames names f.items → ArePortsBy names links ports
    → AreLeaders links places → begun ≡ bare text given → placed ≡ with_instances begun (map (instance_of l) (instances_of placed_of))
    → last ≡ with_joins placed (map (join_of links placed_at) links) → IsFinished last n → IsNetlist n → IsBuilt f l links n
built_of f l links placed_of names places placed_at text ports given begun placed last n same_placed same_places same_text same_ports same by led
    is_begun is_placed is_last done sound =
    built f l names links places ports begun placed last n same by led
    (is_begun ∙ ap (λ (t : List ℕ). bare t given) same_text ∙ ap (bare (figure_text f.name)) same_ports)
    (is_placed ∙ ap (λ (items : List Item). with_instances begun (map (instance_of l) (instances_of items))) same_placed)
    (is_last ∙ ap (λ (ps : List ℕ). with_joins placed (map (join_of links ps) links)) same_places) done sound

-- a port for each name
ports_many : (names : List Name) (links : List Link) (ports : List Port) → ArePortsBy names links ports → length ports ≡ length names
ports_many names links ports by =
    length_permutation (map (port_by by.texts) names) ports by.moved ∙ length-map (port_by by.texts) names

pub begin_few : (names : List Name) (links : List Link) (ports given : List Port) (pins : ℕ) → given ≡ ports → ArePortsBy names links ports
    → length names + pins < 2 ^ 32 → length given < 2 ^ 32
begin_few names links ports given pins same by room =
    let own = ap (λ (ps : List Port). length ps) same ∙ ports_many names links ports by in omega (arith, own, room)

-- so that there is room for the pins
pub room_begun : (f : Figure) (l : Library) (links : List Link) (placed_of : List Item) (names : List Name) (text : List ℕ) (ports given : List Port) (begun : Draft)
    → placed_of ≡ f.items → given ≡ ports → ArePortsBy names links ports → begun ≡ bare text given → length names + pin_count f.items l < 2 ^ 32
    → length begun.ports + pin_count placed_of l < 2 ^ 32
room_begun f l links placed_of names text ports given begun same_placed same_ports by is_begun room =
    let own = ap (λ (d : Draft). length d.ports) is_begun ∙ ap (λ (ps : List Port). length ps) same_ports ∙ ports_many names links ports by in
    let pins = ap (λ (xs : List Item). pin_count xs l) same_placed in
    omega (arith, own, pins, room)
