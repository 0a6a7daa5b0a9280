-- The links of a text without a fault: their terminals are different, and those of its netlist.
use Rattle.std.proofs.Common.{◌≡◌, inl, inr, ℕ, zero, suc, ◌≤◌, min, length, drop, arith, Bool, true, false, cond, ◌||◌, List, [], ◌∷◌, ◌++◌, map, None, Some, refl, sym, ap, subst, ◌∙◌, bytes_eq}
use Rattle.std.specs.List.{flat_map, list_any, zip}
use Rattle.std.specs.List.Sorted.{IsPermutation}
use Rattle.vlsi_base.specs.declared.name.Name.{Name}
use Rattle.vlsi_base.specs.declared.name.Port.{Port}
use Rattle.vlsi_base.specs.declared.name.Terminal.{Terminal}
use Rattle.vlsi_base.specs.Member.{In, here, there, AllDifferent}
use Rattle.machine_core.proofs.Values.{In-split, In-left, In-right, In-map}
use Rattle.source_checks.proofs.Lookups.{itself}
use Rattle.vlsi_model.proofs.Members.{In-map_back, different_append, different_map}
use Rattle.vlsi_model.proofs.Assembly.{In-permutation}
use Rattle.net_core.specs.declared.pins.ModelPin.{ModelPin}
use Rattle.net_core.specs.declared.pins.ModelPins.{ModelPins}
use Rattle.net_core.specs.Places.{IsThere}
use Rattle.net_core.specs.Netlist.{port, pin_of, pins_of, terminals_of}
use Rattle.net_core.specs.Checks.{pins_named}
use Rattle.vst_text.specs.declared.file.InstanceStatement.{InstanceStatement}
use Rattle.vst_text.specs.declared.file.StructuralFile.{StructuralFile}
use Rattle.vst_io.specs.Nets.{nets, pin_names, port_bits, instance_of, instance_links, links}
use Rattle.vst_io.specs.Faults.{first_label_again}
use Rattle.vst_io.proofs.Places.{in_stands}
use Rattle.vst_io.proofs.Fine.{IsMapped, instance_ends, in_flat, flat_in, map_append, map_twice}

-- ---- labels

any_label : (t : List ℕ) (before : List (List ℕ)) → In t before → list_any (bytes_eq t) before ≡ true
any_label t (b ∷ before) here = ap (λ x. x || list_any (bytes_eq t) before) (itself t)
any_label t (b ∷ before) (there h) = by (any_label t before h) (bytes_eq t b) where
  by : list_any (bytes_eq t) before ≡ true → (x : Bool) → (x || list_any (bytes_eq t) before) ≡ true
  by rest true = refl
  by rest false = rest
any_label t [] h = elim h [ ]

abbrev pub labels : List InstanceStatement → List (List ℕ)
labels is = map (λ i. i.label) is

labels_apart : (before : List (List ℕ)) (is : List InstanceStatement) → first_label_again before is ≡ None → AllDifferent (labels is) × ((t : List ℕ) → In t before → In t (labels is) → ⊥)
labels_apart before [] e = (tt, λ t h g. elim g [ ])
labels_apart before (i ∷ is) e = by (list_any (bytes_eq i.label) before) refl e (labels_apart (i.label ∷ before) is) where
  apart_from : (list_any (bytes_eq i.label) before ≡ false) → ((t : List ℕ) → In t (i.label ∷ before) → In t (labels is) → ⊥) → (t : List ℕ) → In t before → In t (i.label ∷ labels is) → ⊥
  apart_from none apart t h here = let both : true ≡ false = sym (any_label t before h) ∙ none in absurd cc
  apart_from none apart t h (there g) = apart t (there h) g

  by : (b : Bool) → list_any (bytes_eq i.label) before ≡ b → cond b (Some i) (first_label_again (i.label ∷ before) is) ≡ None
      → (first_label_again (i.label ∷ before) is ≡ None → AllDifferent (labels is) × ((t : List ℕ) → In t (i.label ∷ before) → In t (labels is) → ⊥))
      → AllDifferent (labels (i ∷ is)) × ((t : List ℕ) → In t before → In t (labels (i ∷ is)) → ⊥)
  by true is e rest = absurd cc
  by false is e rest = let r = rest e in ((λ h. r.1 i.label here h, r.0), apart_from is r.1)

pub different_labels : (is : List InstanceStatement) → first_label_again [] is ≡ None → AllDifferent (labels is)
different_labels is e = (labels_apart [] is e).0

-- ---- terminals of links

abbrev pub end_of : Terminal × Name → Terminal
end_of l = l.0

abbrev Mapped : List ModelPins → StructuralFile → List InstanceStatement → Type 0
Mapped table f is = (i : InstanceStatement) → In i is → IsMapped table f i

owner_of : (table : List ModelPins) (f : StructuralFile) (i : InstanceStatement) → IsMapped table f i → (t : Terminal) → In t (map end_of (instance_links f i)) → t.instance ≡ Some i.label
owner_of table f i m t h =
    let r = In-map_back (pin_of i.label) t (flat_map (pin_names m.known) i.associations) (subst (λ (ts : List Terminal). In t ts) (instance_ends table f i m) h) in
    ap (λ (u : Terminal). u.instance) (sym r.2)

end_from : (f : StructuralFile) (is : List InstanceStatement) (t : Terminal) → In t (map end_of (flat_map (instance_links f) is)) → (i : InstanceStatement) × In i is × In t (map end_of (instance_links f i))
end_from f is t h =
    let r = In-map_back end_of t (flat_map (instance_links f) is) h in
    let s = in_flat (instance_links f) is r.0 r.1 in
    (s.0, s.1, subst (λ (u : Terminal). In u (map end_of (instance_links f s.0))) r.2 (In-map end_of r.0 (instance_links f s.0) s.2))

different_pin_ends : (table : List ModelPins) (f : StructuralFile) (is : List InstanceStatement) → Mapped table f is → AllDifferent (labels is) → AllDifferent (map end_of (flat_map (instance_links f) is))
different_pin_ends table f [] m d = tt
different_pin_ends table f (i ∷ is) m d =
    let own = m i here in
    let pins = flat_map (pin_names own.known) i.associations in
    subst (λ (ts : List Terminal). AllDifferent ts) (sym (map_append end_of (instance_links f i) (flat_map (instance_links f) is)))
    (different_append (map end_of (instance_links f i)) (map end_of (flat_map (instance_links f) is))
    (subst (λ (ts : List Terminal). AllDifferent ts) (sym (instance_ends table f i own)) (different_map (pin_of i.label) pins (λ x y p q e. ap (λ (t : Terminal). t.pin) e) own.fine.once))
    (different_pin_ends table f is (λ j h. m j (there h)) d.1)
    (λ t h g.
    let r = end_from f is t g in
    let same : Some i.label ≡ Some r.0.label = sym (owner_of table f i own t h) ∙ owner_of table f r.0 (m r.0 (there r.1)) t r.2 in
    let text : i.label ≡ r.0.label = cc in
    d.0 (subst (λ (x : List ℕ). In x (labels is)) (sym text) (In-map (λ (j : InstanceStatement). j.label) r.0 is r.1))))

abbrev pub port_link : Port → Terminal × Name
port_link p = (port p.name, p.name)

abbrev pub key : Port → Name
key p = p.name

port_ends : (bits : List Port) → map end_of (map port_link bits) ≡ map port (map key bits)
port_ends bits = map_twice end_of port_link bits ∙ sym (map_twice port key bits)

pub different_ends : (table : List ModelPins) (f : StructuralFile) → Mapped table f f.instances → AllDifferent (labels f.instances) → AllDifferent (map key (port_bits (nets f))) → AllDifferent (map end_of (links f))
different_ends table f m d names =
    let bits = port_bits (nets f) in
    subst (λ (ts : List Terminal). AllDifferent ts) (sym (map_append end_of (map port_link bits) (flat_map (instance_links f) f.instances)))
    (different_append (map end_of (map port_link bits)) (map end_of (flat_map (instance_links f) f.instances))
    (subst (λ (ts : List Terminal). AllDifferent ts) (sym (port_ends bits)) (different_map port (map key bits) (λ x y p q e. ap (λ (t : Terminal). t.pin) e) names))
    (different_pin_ends table f f.instances m d)
    (λ t h g.
    let p = In-map_back port t (map key bits) (subst (λ (ts : List Terminal). In t ts) (port_ends bits) h) in
    let none : None ≡ t.instance = ap (λ (u : Terminal). u.instance) p.2 in
    let r = end_from f f.instances t g in
    let some : t.instance ≡ Some r.0.label = owner_of table f r.0 (m r.0 r.1) t r.2 in
    let both : None ≡ Some r.0.label = none ∙ some in
    absurd cc))

-- ---- they are terminals of the netlist

pub end_there : (table : List ModelPins) (f : StructuralFile) (ports : List Port) → Mapped table f f.instances → IsPermutation (port_bits (nets f)) ports → (t : Terminal) → In t (map end_of (links f))
    → IsThere (terminals_of ports (map (instance_of table) f.instances)) t
end_there table f ports m p t h =
    let bits = port_bits (nets f) in
    let both = map_append end_of (map port_link bits) (flat_map (instance_links f) f.instances) in
    let firsts = map (λ (q : Port). port q.name) ports in
    let seconds = flat_map pins_of (map (instance_of table) f.instances) in
    in_stands (firsts ++ seconds) t (elim (In-split t (map end_of (map port_link bits)) (map end_of (flat_map (instance_links f) f.instances)) (subst (λ (ts : List Terminal). In t ts) both h)) [
      | inl left ↦
          let r = In-map_back (λ (q : Port). port q.name) t bits (subst (λ (ts : List Terminal). In t ts) (map_twice end_of port_link bits) left) in
          In-left t firsts seconds (subst (λ (u : Terminal). In u firsts) r.2 (In-map (λ (q : Port). port q.name) r.0 ports (In-permutation bits ports r.0 p r.1)))
      | inr right ↦
          let r = end_from f f.instances t right in
          let own = m r.0 r.1 in
          let n = In-map_back (pin_of r.0.label) t (flat_map (pin_names own.known) r.0.associations) (subst (λ (ts : List Terminal). In t ts) (instance_ends table f r.0 own) r.2) in
          let pin : In n.0 (map (λ (q : ModelPin). q.name) (pins_named table r.0.component)) = own.fine.pins n.0 n.1 in
          let at : In t (pins_of (instance_of table r.0)) = subst (λ (u : Terminal). In u (pins_of (instance_of table r.0))) n.2 (In-map (pin_of r.0.label) n.0 (map (λ (q : ModelPin). q.name) (pins_named table r.0.component)) pin) in
          In-right t firsts seconds (flat_in pins_of (map (instance_of table) f.instances) (instance_of table r.0) t (In-map (instance_of table) r.0 f.instances r.1) at)
    ])

-- ---- pairs of bits

zip_nothing : {X Y : Type 0} (xs : List X) → zip {K = X} {X = Y} xs [] ≡ []
zip_nothing [] = refl
zip_nothing (x ∷ xs) = refl

zip_end : {A B X Y : Type 0} (f : A → X) (g : B → Y) (xs : List A) (ys : List B) (k : ℕ) → min (length xs) (length ys) ≤ k → zip (map f (drop k xs)) (map g (drop k ys)) ≡ []
zip_end f g [] ys zero h = refl
zip_end f g [] ys (suc k) h = refl
zip_end f g (x ∷ xs) [] zero h = refl
zip_end f g (x ∷ xs) [] (suc k) h = zip_nothing (map f (drop k xs))
zip_end f g (x ∷ xs) (y ∷ ys) zero h = absurd (omega (arith, h))
zip_end f g (x ∷ xs) (y ∷ ys) (suc k) h = zip_end f g xs ys k (omega (arith, h))

-- none are left behind the end of either list
pub pairs_end : {A B X Y Z : Type 0} (e : X → Y) (f : A → X) (g : B → Z) (xs : List A) (ys : List B) (k : ℕ) → min (length xs) (length ys) ≤ k → zip (map e (map f (drop k xs))) (map g (drop k ys)) ≡ []
pairs_end {Y = Y} {Z = Z} e f g xs ys k h = ap (λ (zs : List Y). zip zs (map g (drop k ys))) (map_twice e f (drop k xs)) ∙ zip_end (λ x. e (f x)) g xs ys k h
