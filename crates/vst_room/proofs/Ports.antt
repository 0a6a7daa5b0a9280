-- There are few ports: two at most are supplies, and few are not.
use Rattle.std.proofs.Common.{◌≡◌, ℕ, ◌+◌, ◌≤◌, Bool, true, false, cond, not, ◌||◌, List, [], ◌∷◌, map, filter, length, codes, Option, None, refl, sym, ap, subst, ◌∙◌, bytes_eq, arith}
use Rattle.std.proofs.lemmas.List.{length-map}
use Rattle.vlsi_base.specs.declared.name.Name.{Name}
use Rattle.vlsi_base.specs.declared.name.Port.{Port}
use Rattle.vlsi_base.specs.Member.{In, here, there, AllDifferent}
use Rattle.vlsi_base.specs.Name.{is_supply}
use Rattle.vlsi_base.specs.Names.{scalar, vdd, vss}
use Rattle.source_checks.specs.Checks.{most_ports}
use Rattle.source_checks.proofs.Lookups.{same_of}
use Rattle.vlsi_model.proofs.Members.{In-map_back}
use Rattle.vlsi_model.proofs.Counted.{no_more}
use Rattle.cell_pins.proofs.Ports.{in_filter}
use Rattle.net_core.specs.Netlist.{Netlist, IsNetlist}
use Rattle.net_core.specs.declared.pins.ModelPins.{ModelPins}
use Rattle.net_right.specs.Condition.{MeetsCondition}
use Rattle.vst_io.specs.Text.{signal_ports}
use Rattle.vst_io.proofs.Places.{in_stands}
use Rattle.vst_room.proofs.Mapped.{different_names}

abbrev is_power : Port → Bool
is_power p = is_supply p.name.text

abbrev name_of_port : Port → Name
name_of_port p = p.name

-- a list is as long as two parts of it together
both_kinds : {X : Type 0} (t : X → Bool) (xs : List X) → length xs ≡ length (filter t xs) + length (filter (λ x. not (t x)) xs)
both_kinds t [] = refl
both_kinds t (x ∷ xs) = by (t x) (both_kinds t xs) where
  by : (b : Bool) → length xs ≡ length (filter t xs) + length (filter (λ y. not (t y)) xs)
      → length (x ∷ xs) ≡ length (cond b (x ∷ filter t xs) (filter t xs)) + length (cond (not b) (x ∷ filter (λ y. not (t y)) xs) (filter (λ y. not (t y)) xs))
  by true h = omega (arith, h)
  by false h = omega (arith, h)

unmap_different : {A B : Type 0} (f : A → B) (x : A) (xs ys : List A) → ((y : A) → In y ys → In y xs) → (In (f x) (map f xs) → ⊥) → In (f x) (map f ys) → ⊥
unmap_different f x xs ys within apart i = let y = In-map_back f (f x) ys i in apart (subst (λ z. In z (map f xs)) y.2 (in_map f y.0 xs (within y.0 y.1))) where
  in_map : {A B : Type 0} (f : A → B) (y : A) (xs : List A) → In y xs → In (f y) (map f xs)
  in_map f y [] h = elim h [ ]
  in_map f y (z ∷ zs) here = here
  in_map f y (z ∷ zs) (there h) = there (in_map f y zs h)

different_filtered : {A B : Type 0} (f : A → B) (t : A → Bool) (xs : List A) → AllDifferent (map f xs) → AllDifferent (map f (filter t xs))
different_filtered f t [] d = tt
different_filtered f t (x ∷ xs) d = by (t x) (different_filtered f t xs d.1) where
  by : (b : Bool) → AllDifferent (map f (filter t xs)) → AllDifferent (map f (cond b (x ∷ filter t xs) (filter t xs)))
  by true h = (unmap_different f x xs (filter t xs) (λ y i. (in_filter t xs y i).0) d.0, h)
  by false h = h

-- the name of a supply
supply_name : (n : Name) → n.bit ≡ None → is_supply n.text ≡ true → In n (vdd ∷ vss ∷ [])
supply_name n b e = by_text (bytes_eq n.text (codes "vdd")) (bytes_eq n.text (codes "vss")) refl refl e where
  made : List ℕ → Option ℕ → Name
  made t x = record { text = t; bit = x }

  named : (t : List ℕ) → n.text ≡ t → scalar t ≡ n
  named t e = sym (ap (λ (x : List ℕ). made x n.bit) e ∙ ap (made t) b)

  by_text : (p q : Bool) → bytes_eq n.text (codes "vdd") ≡ p → bytes_eq n.text (codes "vss") ≡ q → (p || q) ≡ true → In n (vdd ∷ vss ∷ [])
  by_text true q f g h = subst (λ (m : Name). In m (vdd ∷ vss ∷ [])) (named (codes "vdd") (same_of n.text (codes "vdd") f)) here
  by_text false true f g h = subst (λ (m : Name). In m (vdd ∷ vss ∷ [])) (named (codes "vss") (same_of n.text (codes "vss") g)) (there here)
  by_text false false f g h = absurd cc

two_supplies : (table : List ModelPins) (n : Netlist) → IsNetlist n → MeetsCondition table n → length (filter is_power n.ports) ≤ 2
two_supplies table n sound met =
    let powers = filter is_power n.ports in
    let differ = different_filtered name_of_port is_power n.ports (different_names (map name_of_port n.ports) sound.ports) in
    let few = no_more (map name_of_port powers) (vdd ∷ vss ∷ []) differ (λ m i.
    let p = In-map_back name_of_port m powers i in
    let f = in_filter is_power n.ports p.0 p.1 in
    let known = met.supplies p.0 (in_stands n.ports p.0 f.0) f.1 in
    subst (λ (x : Name). In x (vdd ∷ vss ∷ [])) p.2 (supply_name p.0.name known.0 f.1)) in
    let long = length-map powers name_of_port in
    omega (arith, few, long)

-- the bits of ports, with the supplies
pub ports_few : (table : List ModelPins) (n : Netlist) → IsNetlist n → MeetsCondition table n → length (signal_ports n) ≤ most_ports → length n.ports ≤ most_ports + 2
ports_few table n sound met few =
    let two = two_supplies table n sound met in
    let both = both_kinds is_power n.ports in
    omega (arith, two, both, few)
