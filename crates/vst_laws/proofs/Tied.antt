-- What the text of a netlist links: terminals of one class stand for one bit of a net.
use Rattle.std.proofs.Common.{◌≡◌, ◌↔◌, ◌⊎◌, inl, inr, ℕ, List, [], ◌∷◌, map, Option, sym, ap, subst, ◌∙◌}
use Rattle.std.specs.List.{flat_map, zip}
use Rattle.vlsi_base.specs.declared.name.Name.{Name}
use Rattle.vlsi_base.specs.declared.name.Terminal.{Terminal}
use Rattle.vlsi_base.specs.Member.{In}
use Rattle.machine_core.proofs.Values.{In-split}
use Rattle.vlsi_model.proofs.Members.{In-cases, In-map_back}
use Rattle.source_checks.specs.declared.symbol_table.Symbol.{Symbol}
use Rattle.net_core.specs.declared.pins.ModelPins.{ModelPins}
use Rattle.net_core.specs.Netlist.{Netlist, port, pin_of, HasClass}
use Rattle.net_core.specs.Checks.{pins_named}
use Rattle.net_core.proofs.Finishing.{class_once}
use Rattle.vst_text.specs.declared.file.Association.{Association}
use Rattle.vst_text.specs.declared.file.InstanceStatement.{InstanceStatement}
use Rattle.vst_print.specs.Placed.{file_of}
use Rattle.vst_print.specs.Says.{pin_name, net_name, Joins}
use Rattle.vst_io.specs.Nets.{nets, components, pins, port_bits, pin_names, net_names, links_of, map_links, instance_links, links}
use Rattle.vst_io.specs.Text.{ClassesAreNets}
use Rattle.vst_io.proofs.Places.{in_stands}
use Rattle.vst_io.proofs.Fine.{in_flat}
use Rattle.vst_io.proofs.Linked.{port_link}
use Rattle.vst_laws.specs.Again.{CanBeSaid}
use Rattle.vst_laws.proofs.Modelled.{is_named}
use Rattle.vst_laws.proofs.Shown.{IsPlaced, model_names, name_alone, net_name_alone}
use Rattle.vst_laws.proofs.Made.{IsMade}

-- a link of a port to itself, or of a pin to its net
abbrev pub IsLink : Netlist → List ModelPins → Terminal → Name → Type 0
IsLink n table t x = (t ≡ port x) ⊎ Joins (file_of n table) t x

-- an association of one pin with one bit links them
one_link : (known known_nets : List Symbol) (label : List ℕ) (a : Association) → pin_names known a ≡ pin_name a ∷ [] → net_names known_nets a ≡ net_name a ∷ [] → links_of known known_nets label a ≡ (pin_of label (pin_name a), net_name a) ∷ []
one_link known known_nets label a e f =
    ap (λ (ns : List Name). zip (map (pin_of label) ns) (net_names known_nets a)) e ∙ ap (λ (ns : List Name). zip (pin_of label (pin_name a) ∷ []) ns) f

link_joins : (n : Netlist) (table : List ModelPins) → IsMade n table → (s : InstanceStatement) → In s (file_of n table).instances → IsPlaced table (file_of n table) s
    → (t : Terminal) (x : Name) → In (t, x) (instance_links (file_of n table) s) → Joins (file_of n table) t x
link_joins n table m s listed p t x h =
    let f = file_of n table in
    let c = is_named (components f.declarations) s.component p.declared in
    let model = m.models c.component c.listed in
    let known = pins c.component in
    let has = model_names table c.component s.component c.named model in
    let i : In (t, x) (flat_map (links_of known (nets f) s.label) s.associations) = subst (λ (o : Option (List Symbol)). In (t, x) (map_links f s o)) c.found h in
    let a = in_flat (links_of known (nets f) s.label) s.associations (t, x) i in
    let shown = p.shown a.0 a.1 in
    let one = one_link known (nets f) s.label a.0 (name_alone known a.0 model.apart (has (pin_name a.0) shown.pin)) (net_name_alone (nets f) (pins_named table s.component) a.0 m.apart shown) in
    let j = In-cases (t, x) (pin_of s.label (pin_name a.0), net_name a.0) [] (subst (λ (ls : List (Terminal × Name)). In (t, x) ls) one a.2) in
    elim j [
      | inl e ↦ record {
        statement = s;
        listed = in_stands f.instances s listed;
        association = a.0;
        there = in_stands s.associations a.0 a.1;
        pin_is = ap (λ (l : Terminal × Name). l.0) (sym e);
        net_is = ap (λ (l : Terminal × Name). l.1) (sym e);
      }
      | inr g ↦ elim g [ ]
    ]

link_is : (n : Netlist) (table : List ModelPins) → IsMade n table → ((s : InstanceStatement) → In s (file_of n table).instances → IsPlaced table (file_of n table) s) → (t : Terminal) (x : Name) → In (t, x) (links (file_of n table)) → IsLink n table t x
link_is n table m placed t x h =
    let f = file_of n table in
    elim (In-split (t, x) (map port_link (port_bits (nets f))) (flat_map (instance_links f) f.instances) h) [
      | inl left ↦
          let p = In-map_back port_link (t, x) (port_bits (nets f)) left in
          inl (sym (ap (λ (l : Terminal × Name). l.0) p.2) ∙ ap (λ (l : Terminal × Name). port l.1) p.2)
      | inr right ↦
          let s = in_flat (instance_links f) f.instances (t, x) right in
          inr (link_joins n table m s.0 s.1 (placed s.0 s.1) t x s.2)
    ]

-- two ports
ports_tell : (n : Netlist) (table : List ModelPins) → CanBeSaid n table → (x y : Name) (j k : ℕ) → HasClass n (port x) j → HasClass n (port y) k → (j ≡ k) ↔ (x ≡ y)
ports_tell n table r x y j k p q = (
  λ e. r.apart x y k (subst (λ (i : ℕ). HasClass n (port x) i) e p) q,
  λ e. class_once n r.sound (port y) j k (subst (λ (z : Name). HasClass n (port z) j) e p) q,
)

pub classes_are_nets : (n : Netlist) (table : List ModelPins) → CanBeSaid n table → IsMade n table → ((s : InstanceStatement) → In s (file_of n table).instances → IsPlaced table (file_of n table) s) → ClassesAreNets (file_of n table) n
classes_are_nets n table r m placed a b x y j k g h p q = by (link_is n table m placed a x g) (link_is n table m placed b y h) where
  at : (t : Terminal) (z : Name) (i : ℕ) → t ≡ port z → HasClass n t i → HasClass n (port z) i
  at t z i e c = subst (λ (u : Terminal). HasClass n u i) e c

  by : IsLink n table a x → IsLink n table b y → (j ≡ k) ↔ (x ≡ y)
  by (inl e) (inl f) = ports_tell n table r x y j k (at a x j e p) (at b y k f q)
  by (inr e) (inr f) = let w = m.says.nets a b x y j k e f p q in (w.1, w.0)
  by (inr e) (inl f) = let w = m.says.to_ports a y x j k e p (at b y k f q) in (w.1, w.0)
  by (inl e) (inr f) = let w = m.says.to_ports b x y k j f q (at a x j e p) in (λ s. sym (w.1 (sym s)), λ s. sym (w.0 (sym s)))
