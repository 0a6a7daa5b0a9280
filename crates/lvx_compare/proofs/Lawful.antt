-- Laws of netlists that are the same.
use Rattle.std.proofs.Common.{◌≡◌, ◌↔◌, ℕ, Bool, List, map, sym, ap, subst, ◌∙◌}
use Rattle.vlsi_base.specs.declared.name.Name.{Name}
use Rattle.vlsi_base.specs.declared.name.Port.{Port}
use Rattle.vlsi_base.specs.declared.name.Terminal.{Terminal}
use Rattle.vlsi_base.specs.Member.{In}
use Rattle.sym_geom.specs.declared.item.Item.{Item}
use Rattle.net_core.specs.declared.pins.ModelPins.{ModelPins}
use Rattle.net_core.specs.Places.{IsThere}
use Rattle.net_core.specs.Netlist.{Netlist as InMemory, IsNetlist, terminals, HasClass}
use Rattle.net_core.specs.Checks.{Fits}
use Rattle.net_core.proofs.Frames.{mapped, unmapped}
use Rattle.cell_model.specs.Library.{Library}
use Rattle.cell_model.proofs.Members.{In-map, In-map_back}
use Rattle.cell_checks.specs.Checked.{IsChecked as HasPassed}
use Rattle.cell_pins.specs.Table.{IsTableOf}
use Rattle.cell_pins.proofs.Sound.{member_at as in_from_place}
use Rattle.net_meaning.specs.Netlist.{Member, AbstractNetlist, IsTerminal, a_port, a_pin, Extracts}
use Rattle.net_right.specs.View.{member_of, IsSeenAs}
use Rattle.net_right.specs.Same.{HasInstance, AreJoined}
use Rattle.net_right.proofs.Lists.{in_place}
use Rattle.net_right.proofs.Places.{has_class}
use Rattle.net_right.proofs.Terminals.{seen_ports, seen_instances, terminals_are_there}
use Rattle.lvx_compare.specs.Compared.{HasPort}
use Rattle.lvx_compare.specs.Laws.{SameIsEquivalence, SameByNameIsSame, OneLayoutIsSame}

turn : {P Q : Type 0} → (P ↔ Q) → (Q ↔ P)
turn h = (h.1, h.0)

chain : {P Q R : Type 0} → (P ↔ Q) → (Q ↔ R) → (P ↔ R)
chain h g = (λ p. g.0 (h.0 p), λ r. h.1 (g.1 r))

pub same_is_equivalence : SameIsEquivalence
same_is_equivalence = record {
  itself = λ n. record { ports = λ p. (λ h. h, λ h. h); instances = λ name model. (λ h. h, λ h. h); classes = λ a b. (λ h. h, λ h. h) };
  turned = λ n k h. record { ports = λ p. turn (h.ports p); instances = λ name model. turn (h.instances name model); classes = λ a b. turn (h.classes a b) };
  through = λ n k j h g. record {
    ports = λ p. chain (h.ports p) (g.ports p);
    instances = λ name model. chain (h.instances name model) (g.instances name model);
    classes = λ a b. chain (h.classes a b) (g.classes a b);
  };
}

same_port : (a b : InMemory) → ((p : Port) → IsThere a.ports p → IsThere b.ports p) → (name : Name) → HasPort a name → HasPort b name
same_port a b across name h =
    let u = unmapped (λ (p : Port). p.name) a.ports h.0 name h.1 in
    let t = across u.0 (h.0, u.1) in
    subst (λ (x : Name). HasPort b x) u.2 (t.0, mapped (λ (p : Port). p.name) b.ports t.0 u.0 t.1)

pub same_by_name_is_same : SameByNameIsSame
same_by_name_is_same a b same = record {
  ports = λ name. (same_port a b (λ p. (same.ports p).0) name, same_port b a (λ p. (same.ports p).1) name);
  instances = same.instances;
  classes = same.classes;
}

module _ (items : List Item) (l : Library) (tracks all : Bool) (table : List ModelPins) (a b : InMemory) (k j : AbstractNetlist) (passed : HasPassed tracks l) (is_table : IsTableOf l all table)
    (is_b : IsNetlist b) (fits_a : Fits a table) (fits_b : Fits b table) (seen_a : IsSeenAs a k) (seen_b : IsSeenAs b j) (first : Extracts items l k) (second : Extracts items l j) where
  port_across : (name : Name) → In name k.ports → In name j.ports
  port_across name h = (second.ports name).1 ((first.ports name).0 h)

  instances_across : k.instances ≡ j.instances
  instances_across = first.instances ∙ sym second.instances

  terminal_across : (t : Terminal) → IsTerminal k l t → IsTerminal j l t
  terminal_across t (a_port {name = name} h) = a_port (port_across name h)
  terminal_across t (a_pin {name = name} i c h found g) = a_pin i c (subst (λ (ms : List Member). In i ms) instances_across h) found g

  there_a : (t : Terminal) → IsThere (terminals a) t → IsTerminal k l t
  there_a t h = (terminals_are_there a l tracks all table k fits_a is_table passed seen_a t).1 h

  there_b : (t : Terminal) → IsTerminal j l t → IsThere (terminals b) t
  there_b t h = (terminals_are_there b l tracks all table j fits_b is_table passed seen_b t).0 h

  ports_across : (name : Name) → HasPort a name → HasPort b name
  ports_across name h =
      let i : In name k.ports = subst (λ (ns : List Name). In name ns) (sym (seen_ports a k seen_a)) (in_from_place (map (λ (p : Port). p.name) a.ports) h.0 name h.1) in
      in_place name (map (λ (p : Port). p.name) b.ports) (subst (λ (ns : List Name). In name ns) (seen_ports b j seen_b) (port_across name i))

  instance_across : (name model : List ℕ) → HasInstance a name model → HasInstance b name model
  instance_across name model h =
      let own : In (member_of h.instance) (map member_of a.instances) = In-map member_of h.instance a.instances (in_from_place a.instances h.listed.0 h.instance h.listed.1) in
      let there : In (member_of h.instance) (map member_of b.instances) =
      subst (λ (ms : List Member). In (member_of h.instance) ms) (sym (seen_instances a k seen_a) ∙ instances_across ∙ seen_instances b j seen_b) own in
      let r = In-map_back member_of (member_of h.instance) b.instances there in record {
        instance = r.0;
        listed = in_place r.0 b.instances r.1;
        named = ap (λ (m : Member). m.name) r.2 ∙ h.named;
        modelled = ap (λ (m : Member). m.model) r.2 ∙ h.modelled;
      }

  joined_across : (s t : Terminal) → AreJoined a s t → AreJoined b s t
  joined_across s t h =
      let s_k = there_a s (h.first.0, h.first.1) in
      let t_k = there_a t (h.second.0, h.second.1) in
      let s_j = terminal_across s s_k in
      let t_j = terminal_across t t_k in
      let one : k.class s ≡ k.class t = seen_a.classes.each s h.class h.first ∙ sym (seen_a.classes.each t h.class h.second) in
      let same : j.class s ≡ j.class t = (second.classes s t s_j t_j).1 ((first.classes s t s_k t_k).0 one) in
      let x = has_class b is_b s (there_b s s_j) in
      let y = has_class b is_b t (there_b t t_j) in
      let both : x.0 ≡ y.0 = sym (seen_b.classes.each s x.0 x.1) ∙ same ∙ seen_b.classes.each t y.0 y.1 in
      record { class = y.0; first = subst (λ c. HasClass b s c) both x.1; second = y.1 }

pub one_layout_is_same : OneLayoutIsSame
one_layout_is_same items l tracks all table a b k j passed is_table is_a is_b fits_a fits_b seen_a seen_b first second = record {
  ports = λ name. (
    ports_across items l tracks all table a b k j passed is_table is_b fits_a fits_b seen_a seen_b first second name,
    ports_across items l tracks all table b a j k passed is_table is_a fits_b fits_a seen_b seen_a second first name,
  );
  instances = λ name model. (
    instance_across items l tracks all table a b k j passed is_table is_b fits_a fits_b seen_a seen_b first second name model,
    instance_across items l tracks all table b a j k passed is_table is_a fits_b fits_a seen_b seen_a second first name model,
  );
  classes = λ s t. (
    joined_across items l tracks all table a b k j passed is_table is_b fits_a fits_b seen_a seen_b first second s t,
    joined_across items l tracks all table b a j k passed is_table is_a fits_b fits_a seen_b seen_a second first s t,
  );
}
