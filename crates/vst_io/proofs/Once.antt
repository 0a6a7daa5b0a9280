-- Of a text one answer is right.
use Rattle.std.proofs.Common.{◌≡◌, ◌↔◌, ℕ, ◌<◌, List, [], get_or, ◌++◌, map, length, None, Some, inl, inr, sym, ap, subst, ◌∙◌, arith}
use Rattle.std.specs.List.{flat_map}
use Rattle.std.proofs.lemmas.Option.{slice_get_within, slice_get-get_or}
use Rattle.std.proofs.lemmas.List.Sorted.{IsPermutation-sym}
use Rattle.vlsi_base.specs.declared.name.Name.{Name}
use Rattle.vlsi_base.specs.declared.name.Port.{Port}
use Rattle.vlsi_base.specs.declared.name.Terminal.{Terminal}
use Rattle.vlsi_base.specs.Member.{In}
use Rattle.machine_core.proofs.Values.{In-split, In-left, In-right, In-map}
use Rattle.vhdl_lexer.specs.Listing.{tokens_in}
use Rattle.vlsi_model.proofs.Members.{In-map_back}
use Rattle.vlsi_model.proofs.Assembly.{In-permutation}
use Rattle.net_core.specs.declared.pins.ModelPin.{ModelPin}
use Rattle.net_core.specs.declared.pins.ModelPins.{ModelPins}
use Rattle.net_core.specs.Places.{Stands}
use Rattle.net_core.specs.Netlist.{Instance, Netlist, port, pin_of, pins_of, terminals}
use Rattle.net_core.specs.Checks.{pins_named}
use Rattle.vst_text.specs.declared.file.StructuralFile.{StructuralFile}
use Rattle.vst_text.proofs.Laws as text
use Rattle.vst_io.specs.Nets.{nets, pin_names, port_bits, instance_of, instance_links, links}
use Rattle.vst_io.specs.Faults.{first_fault}
use Rattle.vst_io.specs.Checked.{IsChecked}
use Rattle.vst_io.specs.Text.{IsWritten, IsNetlistOf, IsVst, long, uncut, unwritten, faulty, unsound, wide, signal_ports}
use Rattle.vst_io.specs.Laws.{AreAlike, OneNetlist, NeverBoth}
use Rattle.vst_io.proofs.Places.{stands_in}
use Rattle.vst_io.proofs.Fine.{instance_ends, in_flat, flat_in}
use Rattle.vst_io.proofs.Linked.{end_of, port_link}
use Rattle.vst_io.proofs.Drafted.{all_mapped}
use Rattle.vst_io.proofs.First.{faultless}
use Rattle.vst_io.proofs.Alike.{ports_same, turns_same, AreEqualTogether, passes_or_fails}

-- ---- each terminal of a netlist is linked

-- a terminal, and the bit of a net that it stands for
pub record IsLinked (f : StructuralFile) (t : Terminal) : Type 0 where
  pub net : Name
  pub link : In (t, net) (links f)

pub is_linked : (table : List ModelPins) (f : StructuralFile) (n : Netlist) → IsChecked table f → IsNetlistOf table f n → (t : Terminal) → In t (terminals n) → IsLinked f t
is_linked table f n checked of t h = elim (In-split t (map (λ (p : Port). port p.name) n.ports) (flat_map pins_of n.instances) h) [
  | inl left ↦
      let p = In-map_back (λ (p : Port). port p.name) t n.ports left in
      let link = In-left (port p.0.name, p.0.name) (map port_link (port_bits (nets f))) (flat_map (instance_links f) f.instances)
      (In-map port_link p.0 (port_bits (nets f)) (In-permutation n.ports (port_bits (nets f)) p.0 of.ports p.1)) in
      record { net = p.0.name; link = subst (λ (u : Terminal). In (u, p.0.name) (links f)) p.2 link }
  | inr right ↦
      let i = in_flat pins_of n.instances t right in
      let s = In-map_back (instance_of table) i.0 f.instances (subst (λ (is : List Instance). In i.0 is) of.instances i.1) in
      let m = all_mapped table f checked.maps s.0 s.1 in
      let own : In t (pins_of (instance_of table s.0)) = subst (λ (j : Instance). In t (pins_of j)) (sym s.2) i.2 in
      let p = In-map_back (pin_of s.0.label) t (map (λ (q : ModelPin). q.name) (pins_named table s.0.component)) own in
      let q = In-map_back (λ (q : ModelPin). q.name) p.0 (pins_named table s.0.component) p.1 in
      let mapped : In p.0 (flat_map (pin_names m.known) s.0.associations) = subst (λ (x : Name). In x (flat_map (pin_names m.known) s.0.associations)) q.2 (m.all q.0 q.1) in
      let end : In t (map (pin_of s.0.label) (flat_map (pin_names m.known) s.0.associations)) =
      subst (λ (u : Terminal). In u (map (pin_of s.0.label) (flat_map (pin_names m.known) s.0.associations))) p.2 (In-map (pin_of s.0.label) p.0 (flat_map (pin_names m.known) s.0.associations) mapped) in
      let l = In-map_back end_of t (instance_links f s.0) (subst (λ (ts : List Terminal). In t ts) (sym (instance_ends table f s.0 m)) end) in
      let link : In (l.0.0, l.0.1) (links f) =
      In-right l.0 (map port_link (port_bits (nets f))) (flat_map (instance_links f) f.instances) (flat_in (instance_links f) f.instances s.0 l.0 s.1 l.1) in
      record { net = l.0.1; link = subst (λ (u : Terminal). In (u, l.0.1) (links f)) l.2 link }
]

-- ---- two netlists of one text

pub alike : (table : List ModelPins) (f : StructuralFile) (n k : Netlist) → IsChecked table f → IsNetlistOf table f n → IsNetlistOf table f k → AreAlike n k
alike table f n k checked of to = made where
  ports : k.ports ≡ n.ports
  ports = ports_same k.ports n.ports to.sound.ports of.sound.ports
      (λ p h. In-permutation (port_bits (nets f)) n.ports p (IsPermutation-sym n.ports (port_bits (nets f)) of.ports) (In-permutation k.ports (port_bits (nets f)) p to.ports h))
      (λ p h. In-permutation (port_bits (nets f)) k.ports p (IsPermutation-sym k.ports (port_bits (nets f)) to.ports) (In-permutation n.ports (port_bits (nets f)) p of.ports h))

  instances : k.instances ≡ n.instances
  instances = to.instances ∙ sym of.instances

  ends : terminals k ≡ terminals n
  ends = ap (λ (ps : List Port). map (λ (p : Port). port p.name) ps ++ flat_map pins_of k.instances) ports ∙ ap (λ (is : List Instance). map (λ (p : Port). port p.name) n.ports ++ flat_map pins_of is) instances

  many : length k.classes ≡ length n.classes
  many = to.sound.each ∙ ap (λ (ts : List Terminal). length ts) ends ∙ sym of.sound.each

  -- the terminal of a class at a place
  at : (i c : ℕ) → Stands n.classes i c → (t : Terminal) × Stands (terminals n) i t
  at i c r =
      let low : i < length n.classes = slice_get_within n.classes i c r in
      let inside : i < length (terminals n) = omega (arith, low, of.sound.each) in
      let none : Terminal = port (record { text = []; bit = None }) in
      (get_or (terminals n) i none, slice_get-get_or (terminals n) i none inside)

  in_k : (i : ℕ) (t : Terminal) → Stands (terminals n) i t → Stands (terminals k) i t
  in_k i t s = subst (λ (ts : List Terminal). Stands ts i t) (sym ends) s

  together : AreEqualTogether k.classes n.classes
  together i j a b c d p q r s =
      let x = at i c r in
      let y = at j d s in
      let l = is_linked table f n checked of x.0 (stands_in (terminals n) i x.0 x.1) in
      let m = is_linked table f n checked of y.0 (stands_in (terminals n) j y.0 y.1) in
      let one : (c ≡ d) ↔ (l.net ≡ m.net) = of.classes x.0 y.0 l.net m.net c d l.link m.link (i, x.1, r) (j, y.1, s) in
      let two : (a ≡ b) ↔ (l.net ≡ m.net) = to.classes x.0 y.0 l.net m.net a b l.link m.link (i, in_k i x.0 x.1, p) (j, in_k j y.0 y.1, q) in
      (λ e. one.1 (two.0 e), λ e. two.1 (one.0 e))

  made : AreAlike n k
  made =
      let turns = turns_same k.classes n.classes k.count n.count to.sound.turns of.sound.turns many together in
      let build : List ℕ → List Port → List Instance → List ℕ → ℕ → Netlist = λ name ps is cs c. record { name = name; ports = ps; models = k.models; instances = is; classes = cs; count = c } in
      ap (λ (x : List ℕ). build x k.ports k.instances k.classes k.count) (to.name ∙ sym of.name) ∙ ap (λ (x : List Port). build n.name x k.instances k.classes k.count) ports
      ∙ ap (λ (x : List Instance). build n.name n.ports x k.classes k.count) instances ∙ ap (λ (x : List ℕ). build n.name n.ports n.instances x k.count) turns.0 ∙ ap (λ (x : ℕ). build n.name n.ports n.instances n.classes x) turns.1

-- ---- whole texts

same_file : (bytes : List ℕ) (f g : StructuralFile) → IsWritten bytes f → IsWritten bytes g → f ≡ g
same_file bytes f g a b = text.one_structure (tokens_in bytes) f g a.structure b.structure

-- what a text is read as, as of another reading of it
alike_of : (bytes : List ℕ) (table : List ModelPins) (n k : Netlist) (f : StructuralFile) (is : IsVst bytes table n) → IsWritten bytes f → IsNetlistOf table f k → AreAlike n k
alike_of bytes table n k f is written of =
    alike table is.file n k (faultless table is.file is.no_fault) is.netlist (subst (λ (g : StructuralFile). IsNetlistOf table g k) (same_file bytes f is.file written is.written) of)

pub one_netlist : OneNetlist
one_netlist bytes table n k a b = alike_of bytes table n k b.file a b.written b.netlist

pub never_both : NeverBoth
never_both bytes table n e is (long many same) = let few = is.written.few in absurd (omega (arith, few, many))
never_both bytes table n e is (uncut few refused) = let both : None ≡ Some e = sym is.written.cut ∙ refused in absurd cc
never_both bytes table n e is (unwritten few cut refused) = text.never_both (tokens_in bytes) is.file e is.written.structure refused
never_both bytes table n e is (faulty f written fault) =
    let both : None ≡ Some e = sym is.no_fault ∙ ap (first_fault table) (same_file bytes is.file f is.written written) ∙ fault in absurd cc
never_both bytes table n e is (unsound f k kind names says fault same) = passes_or_fails table n k kind names (alike_of bytes table n k f is says.0 says.2) is.passes fault
never_both bytes table n e is (wide f k says passes many same) =
    let equal : length (signal_ports k) ≡ length (signal_ports n) = ap (λ (m : Netlist). length (signal_ports m)) (alike_of bytes table n k f is says.0 says.2) in
    let few = is.few_ports in
    absurd (omega (arith, equal, few, many))
