-- The new names of a machine that was made smaller are no outputs.
use Rattle.std.proofs.Common.{◌≡◌, ℕ, Bool, true, false, ◌||◌, List, [], ◌∷◌, ◌++◌, filter, not, Some, refl, sym, ◌∙◌, ap, subst}
use Rattle.std.specs.List.{list_any}
use Rattle.vlsi_base.specs.declared.name.Name.{Name}
use Rattle.vlsi_base.specs.declared.name.Port.{Port}
use Rattle.vlsi_base.specs.Range.{rising}
use Rattle.vlsi_base.specs.Member.{In, here, there}
use Rattle.machine_core.specs.Named.{is_same_name}
use Rattle.machine_core.specs.Machine.{Machine, is_input, outputs, names_of}
use Rattle.machine_core.proofs.Names.{same_name-true}
use Rattle.machine_core.proofs.Values.{In-map, In-left}
use Rattle.vlsi_model.proofs.Members.{In-map_back}
use Rattle.vlsi_model.proofs.PortBits.{In-filter}
use Rattle.boom_opt.specs.Optimised.{is_output}
use Rattle.boom_muxes.specs.Names.{new_names}

-- none of these names has the text
none_same : (names : List Name) (name : Name) → ((n : Name) → In n names → n ≡ name → ⊥) → list_any (λ n. is_same_name n name) names ≡ false
none_same [] name apart = refl
none_same (n ∷ names) name apart = by (is_same_name n name) refl (none_same names name (λ x i. apart x (there i))) where
  by : (b : Bool) → is_same_name n name ≡ b → list_any (λ x. is_same_name x name) names ≡ false → (b || list_any (λ x. is_same_name x name) names) ≡ false
  by true e rest = absurd (apart n here (same_name-true n name e))
  by false e rest = rest

pub is_no_output : (m : Machine) (text : List ℕ) (count : ℕ) → ((name : Name) → In name (names_of m.ports ++ m.vars) → name.text ≡ text → ⊥)
    → (n : Name) → In n (new_names text count) → is_output m n ≡ false
is_no_output m text count fresh n i =
    let b = In-map_back (λ k. record { text = text; bit = Some k }) n (rising 0 count) i in
    none_same (outputs m) n (λ x j same.
    let p = In-map_back (λ (q : Port). q.name) x (filter (λ q. not (is_input q.dir)) m.ports) j in
    let q = In-filter (λ (r : Port). not (is_input r.dir)) m.ports p.0 p.1 in
    let among = In-map (λ (r : Port). r.name) p.0 m.ports q.0 in
    fresh x (In-left x (names_of m.ports) m.vars (subst (λ (y : Name). In y (names_of m.ports)) p.2 among))
    (ap (λ (y : Name). y.text) (same ∙ sym b.2)))
