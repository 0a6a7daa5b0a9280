-- Components that are declared with the pins of their models.
use Rattle.std.proofs.Common.{◌≡◌, ℕ, Bool, true, ◌&&◌, nat_eq, List, [], ◌∷◌, ◌++◌, map, length, Option, None, Some, refl, sym, ap, subst, ◌∙◌, arith}
use Rattle.std.specs.Prelude.{option_map}
use Rattle.std.specs.List.{flat_map, list_all, slice_index_or}
use Rattle.std.specs.List.Sorted.{IsPermutation}
use Rattle.std.proofs.lemmas.Bool.{eq-eqb}
use Rattle.std.proofs.lemmas.List.{length-map}
use Rattle.std.proofs.lemmas.List.Sorted.{length_permutation}
use Rattle.vlsi_base.specs.declared.name.Name.{Name}
use Rattle.vlsi_base.specs.declared.name.Port.{Port}
use Rattle.vlsi_base.specs.declared.range.Range.{Range}
use Rattle.vlsi_base.specs.Member.{In, here, there, AllDifferent}
use Rattle.vlsi_base.specs.Names.{scalar}
use Rattle.vlsi_base.specs.NamePlaces.{last_place}
use Rattle.machine_core.proofs.Values.{In-map}
use Rattle.vlsi_model.proofs.Members.{In-map_back}
use Rattle.vlsi_model.proofs.Assembly.{In-permutation}
use Rattle.vlsi_model.proofs.Bits.{texts}
use Rattle.source_checks.specs.declared.symbol_table.Symbol.{Symbol}
use Rattle.source_checks.specs.Symbols.{find}
use Rattle.net_core.specs.declared.pins.ModelPin.{ModelPin}
use Rattle.net_core.specs.declared.pins.ModelPins.{ModelPins}
use Rattle.net_core.specs.Checks.{pins_named}
use Rattle.net_right.specs.Writable.{port_of}
use Rattle.vst_text.specs.declared.file.Component.{Component}
use Rattle.vst_print.specs.Says.{ports_of}
use Rattle.vst_io.specs.Nets.{pins, port_bits}
use Rattle.vst_io.specs.Faults.{lies_in, goes, declares_pin, is_declared_pin, has_pins}
use Rattle.vst_io.proofs.Places.{last_there, stands_in, index_stands, stands_map, map_stands}
use Rattle.vst_laws.proofs.Symbols.{IsNameOf, IsPortOf, found, port_is}
use Rattle.vst_laws.proofs.Plain.{ArePlain, plain_bits}

-- ---- tests of all members

pub both : (a b : Bool) → a ≡ true → b ≡ true → (a && b) ≡ true
both a b e f = ap (λ x. x && b) e ∙ f

pub all_pass : {X : Type 0} (test : X → Bool) (xs : List X) → ((x : X) → In x xs → test x ≡ true) → list_all test xs ≡ true
all_pass test [] h = refl
all_pass test (x ∷ xs) h = both (test x) (list_all test xs) (h x here) (all_pass test xs (λ y g. h y (there g)))

pub no_lines : {X Y : Type 0} (f : X → List Y) (xs : List X) → ((x : X) → In x xs → f x ≡ []) → flat_map f xs ≡ []
no_lines f [] h = refl
no_lines {X} {Y} f (x ∷ xs) h = ap (λ (ys : List Y). ys ++ flat_map f xs) (h x here) ∙ no_lines f xs (λ y g. h y (there g))

-- ---- a component

pub record IsModel (table : List ModelPins) (c : Component) : Type 0 where
  pub plain : ArePlain c.ports
  pub apart : AllDifferent (texts (pins c))
  pub pins_are : flat_map ports_of c.ports ≡ map port_of (pins_named table c.name)

bits_are : (table : List ModelPins) (c : Component) → IsModel table c → IsPermutation (map port_of (pins_named table c.name)) (port_bits (pins c))
bits_are table c m = subst (λ (ps : List Port). IsPermutation ps (port_bits (pins c))) m.pins_are (plain_bits c.ports m.plain)

-- a pin of the model is a port of the component
pub pin_is : (table : List ModelPins) (c : Component) → IsModel table c → (p : ModelPin) → In p (pins_named table c.name) → IsPortOf (pins c) (port_of p)
pin_is table c m p h = port_is (pins c) (port_of p) (In-permutation (map port_of (pins_named table c.name)) (port_bits (pins c)) (port_of p) (bits_are table c m) (In-map port_of p (pins_named table c.name) h))

pub name_is : (table : List ModelPins) (c : Component) → IsModel table c → (n : Name) → In n (map (λ p. p.name) (pins_named table c.name)) → IsNameOf (pins c) n
name_is table c m n h =
    let p = In-map_back (λ (q : ModelPin). q.name) n (pins_named table c.name) h in
    subst (λ (x : Name). IsNameOf (pins c) x) p.2 (pin_is table c m p.0 p.1).name

declared_pin : (table : List ModelPins) (c : Component) → IsModel table c → (p : ModelPin) → In p (pins_named table c.name) → is_declared_pin (pins c) p ≡ true
declared_pin table c m p h =
    let i = pin_is table c m p h in
    ap (λ (o : Option Symbol). declares_pin o p) (found (pins c) p.name m.apart i.name) ∙ both (lies_in i.name.symbol.range p.name.bit) (goes i.name.symbol.role p.dir) i.name.bit i.goes

pub model_fits : (table : List ModelPins) (c : Component) → IsModel table c → has_pins (pins c) (pins_named table c.name) ≡ true
model_fits table c m =
    let model = pins_named table c.name in
    let a = length_permutation (map port_of model) (port_bits (pins c)) (bits_are table c m) in
    let b : length (map port_of model) ≡ length model = length-map model port_of in
    let many : length (port_bits (pins c)) ≡ length model = omega (arith, a, b) in
    both (nat_eq (length (port_bits (pins c))) (length model)) (list_all (is_declared_pin (pins c)) model) (eq-eqb (length (port_bits (pins c))) (length model) many) (all_pass (is_declared_pin (pins c)) model (λ p h. declared_pin table c m p h))

-- ---- the component of a name

-- a component among these, by its name
pub record IsNamed (cs : List Component) (name : List ℕ) : Type 0 where
  pub component : Component
  pub listed : In component cs
  pub named : component.name ≡ name
  pub found : option_map (λ k. slice_index_or (map pins cs) k []) (last_place (map (λ c. scalar c.name) cs) (scalar name)) ≡ Some (pins component)

pub is_named : (cs : List Component) (name : List ℕ) → In name (map (λ c. c.name) cs) → IsNamed cs name
is_named cs name h =
    let key : Component → Name = λ c. scalar c.name in
    let r = In-map_back (λ (c : Component). c.name) name cs h in
    let among : In (scalar name) (map key cs) = subst (λ (t : List ℕ). In (scalar t) (map key cs)) r.2 (In-map key r.0 cs r.1) in
    let l = last_there (map key cs) (scalar name) among in
    let c = stands_map key cs l.0 (scalar name) l.2 in
    record {
      component = c.0;
      listed = stands_in cs l.0 c.0 c.1;
      named = ap (λ (n : Name). n.text) c.2;
      found = ap (option_map (λ k. slice_index_or (map pins cs) k [])) l.1 ∙ ap Some (index_stands (map pins cs) l.0 (pins c.0) [] (map_stands pins cs l.0 c.0 c.1));
    }

-- ---- scalars

no_range : (range : Option Range) → lies_in range None ≡ true → range ≡ None
no_range None h = refl
no_range (Some r) h = absurd cc

no_bit : (b : Option ℕ) → lies_in None b ≡ true → b ≡ None
no_bit None h = refl
no_bit (Some k) h = absurd cc

-- where a name without a bit is declared, its text has no bits
pub scalar_alone : (known : List Symbol) (m n : Name) → AllDifferent (texts known) → IsNameOf known m → IsNameOf known n → m.text ≡ n.text → m.bit ≡ None → n.bit ≡ None
scalar_alone known m n different a b text none =
    let both : Some a.symbol ≡ Some b.symbol = sym (found known m different a) ∙ ap (find known) text ∙ found known n different b in
    let same : a.symbol ≡ b.symbol = cc in
    let range : a.symbol.range ≡ None = no_range a.symbol.range (ap (lies_in a.symbol.range) (sym none) ∙ a.bit) in
    no_bit n.bit (subst (λ (o : Option Range). lies_in o n.bit ≡ true) (ap (λ (s : Symbol). s.range) (sym same) ∙ range) b.bit)
