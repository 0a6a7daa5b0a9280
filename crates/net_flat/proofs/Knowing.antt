-- What the instances of a netlist are, by a list of what its models are.
use Rattle.std.proofs.Common.{◌≡◌, ℕ, ◌<◌, Bool, true, false, List, [], ◌∷◌, ◌++◌, map, length, get_or, Option, None, Some, refl, sym, ap, ◌∙◌, subst, arith}
use Rattle.std.specs.Prelude.{slice_index_or}
use Rattle.std.specs.List.{All, flat_map}
use Rattle.std.proofs.lemmas.List.{length-map, get_or-map}
use Rattle.std.proofs.lemmas.Option.{get_or_from_slice_get, slice_get_within}
use Rattle.vlsi_base.specs.declared.name.Name.{Name}
use Rattle.vlsi_base.specs.declared.name.Port.{Port}
use Rattle.vlsi_base.specs.Names.{scalar}
use Rattle.vlsi_base.specs.Member.{In, here, there}
use Rattle.vlsi_model.proofs.Sorting.{In-at, place_of_In}
use Rattle.vlsi_model.proofs.Members.{In-map_back}
use Rattle.vlsi_model.proofs.Naming.{same_default}
use Rattle.cell_model.specs.Cell.{Function, gate, flip_flop, other, opaque, Cell}
use Rattle.cell_checks.specs.Checked.{library_of}
use Rattle.cell_model.specs.Library.{Library, cell_of, cell_named}
use Rattle.net_core.specs.declared.frame.Node.{Node}
use Rattle.net_core.specs.Places.{Stands, IsThere}
use Rattle.net_core.specs.Frame.{instance_of}
use Rattle.net_core.specs.Netlist.{Instance, Netlist as InMemory}
use Rattle.net_core.proofs.Frames.{mapped, unmapped}
use Rattle.net_machine.specs.Signals.{HasBehaviour, IsFirstOpaque}
use Rattle.net_machine.proofs.Knowing.{AreNodes, stands_of}
use Rattle.net_flat.specs.declared.parts.Part.{Part}
use Rattle.net_flat.specs.declared.parts.Part.TheVariants as part
use Rattle.net_flat.specs.Parts.{part_of, part_at, names_if, registers_of}
use Rattle.net_flat.specs.Nodes.{is_other, is_register, IsOtherAt, IsFirstOther as IsFirstNode, HasNoOther, name_if, names_by}
use Rattle.net_flat.specs.Flat.{IsOther, IsPlain, IsFirstOther, HasText, AreApart, IsFirstTwice}
use Rattle.net_flat.specs.Taken.{is_taken, IsFirst, port_texts}
use Rattle.net_flat.proofs.Taking.{any_in, in_any}

-- what is known of the models is what the library's cells say
abbrev pub KnowsParts : InMemory → Library → List Part → Type 0
KnowsParts n l parts = parts ≡ map (λ m. part_at (cell_of l m)) n.models

pub parts_many : (n : InMemory) (l : Library) (parts : List Part) → KnowsParts n l parts → length parts ≡ length n.models
parts_many n l parts h = ap (λ (ps : List Part). length ps) h ∙ length-map n.models (λ (t : List ℕ). part_at (cell_of l t))

pub part_here : (n : InMemory) (l : Library) (parts : List Part) → KnowsParts n l parts → (j : ℕ) → j < length n.models
    → slice_index_or parts j part.Gate ≡ part_at (cell_of l (slice_index_or n.models j []))
part_here n l parts h j low =
    ap (λ (ps : List Part). slice_index_or ps j part.Gate) h ∙ get_or-map (λ (t : List ℕ). part_at (cell_of l t)) n.models j [] part.Gate low

pub knows_parts : (n : InMemory) (l : Library) (models : List (List ℕ)) (cells : List Cell) (parts : List Part) → parts ≡ map (λ m. part_at (cell_named cells m)) models → models ≡ n.models → library_of cells ≡ l
    → KnowsParts n l parts
knows_parts n l models cells parts h is of =
    h ∙ ap (λ (ms : List (List ℕ)). map (λ m. part_at (cell_named cells m)) ms) is ∙ ap (λ (x : Library). map (λ m. part_at (cell_of x m)) n.models) of

-- ---- instances that are neither

other_tested : (l : Library) (model : List ℕ) → IsOther l model → part_at (cell_of l model) ≡ part.Other
other_tested l model h = ap part_at h.found ∙ h.is

tested_other : (l : Library) (model : List ℕ) → is_other (part_at (cell_of l model)) ≡ true → IsOther l model
tested_other l model h = by (cell_of l model) refl h where
  is_it : (p : Part) → is_other p ≡ true → p ≡ part.Other
  is_it part.Gate e = absurd cc
  is_it part.Register e = absurd cc
  is_it part.Other e = refl

  by : (o : Option Cell) → cell_of l model ≡ o → is_other (part_at o) ≡ true → IsOther l model
  by None e t = absurd cc
  by (Some c) e t = record { cell = c; found = e; is = is_it (part_of c.function) t }

-- an instance, as a node
record IsNode (n : InMemory) (nodes : List Node) (k : ℕ) (i : Instance) : Type 0 where
  node : Node
  stands : Stands nodes k node
  is : instance_of n.models node ≡ i

node_at : (n : InMemory) (nodes : List Node) → AreNodes n nodes → (k : ℕ) (i : Instance) → Stands n.instances k i → IsNode n nodes k i
node_at n nodes are k i h =
    let r = unmapped (instance_of n.models) nodes k i (subst (λ (is : List Instance). Stands is k i) (sym are.seen) h) in
    record { node = r.0; stands = r.1; is = r.2 }

other_here : (n : InMemory) (l : Library) (parts : List Part) (nodes : List Node) → AreNodes n nodes → KnowsParts n l parts → (k : ℕ) (i : Instance) (b : Bool)
    → Stands n.instances k i → IsOtherAt nodes parts k b → is_other (part_at (cell_of l i.model)) ≡ b
other_here n l parts nodes are knows k i b h told =
    let p = node_at n nodes are k i h in
    let low = slice_get_within nodes k p.node p.stands in
    let at : slice_index_or nodes k p.node ≡ p.node = get_or_from_slice_get nodes k p.node p.node p.stands in
    let inside : p.node.model < length n.models = subst (λ (d : Node). d.model < length n.models) at (are.inside k p.node low) in
    ap (λ (i : Instance). is_other (part_at (cell_of l i.model))) (sym p.is) ∙ ap is_other (sym (part_here n l parts knows p.node.model inside))
    ∙ subst (λ (d : Node). is_other (slice_index_or parts d.model part.Gate) ≡ b) at (told p.node)

not_both : (a : Bool) → a ≡ true → a ≡ false → ⊥
not_both a h g = let no : true ≡ false = sym h ∙ g in absurd cc

pub is_plain : (n : InMemory) (l : Library) (parts : List Part) (nodes : List Node) → AreNodes n nodes → KnowsParts n l parts → HasNoOther nodes parts → IsPlain n l
is_plain n l parts nodes are knows none i h is =
    let p = node_at n nodes are h.0 i h.1 in
    not_both (is_other (part_at (cell_of l i.model))) (ap is_other (other_tested l i.model is))
    (other_here n l parts nodes are knows h.0 i false h.1 (none h.0 (slice_get_within nodes h.0 p.node p.stands)))

-- the model of the first instance that is neither
pub first_is : (n : InMemory) (l : Library) (models : List (List ℕ)) (parts : List Part) (nodes : List Node) (k : ℕ) (node : Node) (model : List ℕ) → models ≡ n.models → AreNodes n nodes
    → KnowsParts n l parts → IsFirstNode nodes parts k → node ≡ slice_index_or nodes k node → model ≡ slice_index_or models node.model model → IsFirstOther n l model
first_is n l models parts nodes k node model of are knows h is named =
    let i = instance_of n.models node in
    let inside : node.model < length n.models = subst (λ (d : Node). d.model < length n.models) (sym is) (are.inside k node h.inside) in
    let same : slice_index_or n.models node.model [] ≡ model =
    same_default n.models node.model [] model inside ∙ ap (λ (ms : List (List ℕ)). slice_index_or ms node.model model) (sym of) ∙ sym named in
    let there : Stands n.instances k i = subst (λ (is : List Instance). Stands is k i) are.seen (mapped (instance_of n.models) nodes k node (stands_of nodes k node h.inside is)) in
    record {
      place = k;
      owner = i;
      stands = there;
      is = same;
      other = subst (IsOther l) same (tested_other l i.model (other_here n l parts nodes are knows k i true there h.is));
      first = λ j o low at is. not_both (is_other (part_at (cell_of l o.model))) (ap is_other (other_tested l o.model is)) (other_here n l parts nodes are knows j o false at (h.first j low));
    }

-- ---- the names of the registers

if_same : (p : Part) (models : List (List ℕ)) (i : Node) → name_if (is_register p) i ≡ names_if p (instance_of models i)
if_same part.Gate models i = refl
if_same part.Register models i = refl
if_same part.Other models i = refl

names_from : (n : InMemory) (l : Library) (parts : List Part) → KnowsParts n l parts → (nodes : List Node) → ((i : Node) → In i nodes → i.model < length n.models)
    → names_by parts nodes ≡ registers_of l (map (instance_of n.models) nodes)
names_from n l parts knows [] inside = refl
names_from n l parts knows (i ∷ nodes) inside =
    ap (λ (xs : List Name). xs ++ names_by parts nodes)
    (ap (λ (p : Part). name_if (is_register p) i) (part_here n l parts knows i.model (inside i here)) ∙ if_same (part_at (cell_of l (slice_index_or n.models i.model []))) n.models i)
    ∙ ap (λ (xs : List Name). names_if (part_at (cell_of l (slice_index_or n.models i.model []))) (instance_of n.models i) ++ xs) (names_from n l parts knows nodes (λ j h. inside j (there h)))

pub names_are : (n : InMemory) (l : Library) (parts : List Part) (nodes : List Node) → AreNodes n nodes → KnowsParts n l parts → names_by parts nodes ≡ registers_of l n.instances
names_are n l parts nodes are knows =
    names_from n l parts knows nodes
    (λ i j. let r = place_of_In nodes i j in subst (λ (d : Node). d.model < length n.models) (r.2 i) (are.inside r.0 i r.1))
    ∙ ap (registers_of l) are.seen

-- ---- registers with the text of a port

has_text : (ports : List Port) (name : Name) → is_taken ports name ≡ true → HasText ports name.text
has_text ports name h =
    let r = In-map_back (λ (p : Port). scalar p.name.text) (scalar name.text) ports (any_in (port_texts ports) (scalar name.text) h) in
    let p = place_of_In ports r.0 r.1 in
    record { port = r.0; listed = (p.0, stands ports p.0 r.0 p.1 (p.2 r.0)); is = ap (λ (x : Name). x.text) r.2 } where
      stands : (ports : List Port) (k : ℕ) (p : Port) → k < length ports → get_or ports k p ≡ p → Stands ports k p
      stands ports k p low e = stands_of ports k p low (sym e)

text_taken : (ports : List Port) (name : Name) → HasText ports name.text → is_taken ports name ≡ true
text_taken ports name h =
    let i : In h.port ports = at ports h.listed.0 h.port h.listed.1 in
    in_any (port_texts ports) (scalar name.text) (subst (λ (t : List ℕ). In (scalar t) (port_texts ports)) h.is (mapped_in ports h.port i)) where
      at : (ports : List Port) (k : ℕ) (p : Port) → Stands ports k p → In p ports
      at ports k p s = subst (λ (x : Port). In x ports) (get_or_from_slice_get ports k p p s) (In-at ports k p (slice_get_within ports k p s))

      mapped_in : (ports : List Port) (p : Port) → In p ports → In (scalar p.name.text) (port_texts ports)
      mapped_in (q ∷ ports) _ here = here
      mapped_in (q ∷ ports) p (there i) = there (mapped_in ports p i)
      mapped_in [] p i = elim i [ ]

pub are_apart : (n : InMemory) (l : Library) (names : List Name) → names ≡ registers_of l n.instances → IsFirst (is_taken n.ports) names None → AreApart n l
are_apart n l names e none name i taken =
    let r = place_of_In names name (subst (λ (ns : List Name). In name ns) (sym e) i) in
    not_both (is_taken n.ports name) (text_taken n.ports name taken) (subst (λ (x : Name). is_taken n.ports x ≡ false) (r.2 name) (none r.0 name r.1))

pub first_twice : (n : InMemory) (l : Library) (names : List Name) (k : ℕ) (name : Name) (text : List ℕ) → names ≡ registers_of l n.instances → IsFirst (is_taken n.ports) names (Some k)
    → name ≡ slice_index_or names k name → text ≡ name.text → IsFirstTwice n l text
first_twice n l names k name text e h is named = record {
  place = k;
  name = name;
  stands = subst (λ (ns : List Name). Stands ns k name) e (stands_of names k name h.0 is);
  is = sym named;
  twice = subst (HasText n.ports) (sym named) (has_text n.ports name (subst (λ (x : Name). is_taken n.ports x ≡ true) (sym is) (h.1 name)));
  first = λ j before low at taken.
      let s = subst (λ (ns : List Name). Stands ns j before) (sym e) at in
      not_both (is_taken n.ports before) (text_taken n.ports before taken)
      (subst (λ (x : Name). is_taken n.ports x ≡ false) (get_or_from_slice_get names j before before s) (h.2 j before low));
}

-- a plain netlist has no opaque cell
pub never_opaque : (n : InMemory) (l : Library) (model : List ℕ) → IsPlain n l → IsFirstOpaque n l model → ⊥
never_opaque n l model plain h =
    plain h.owner (h.place, h.stands)
    (record { cell = h.unknown.cell; found = ap (cell_of l) h.is ∙ h.unknown.found; is = ap part_of h.unknown.unknown })
