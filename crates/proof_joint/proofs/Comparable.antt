-- Machines that agree by name have the same names in each role as they are compared.
use Rattle.std.proofs.Common.{◌≡◌, ◌⊎◌, inl, inr, suc, ◌+◌, ◌<◌, ◌≤◌, Bool, true, false, List, [], ◌∷◌, length, map, filter, Option, None, Some, option_to_list, refl, sym, ap, ◌∙◌, arith, length-append, if◌then◌else◌}
use Rattle.std.proofs.lemmas.List.{length-map}
use Rattle.vlsi_base.specs.declared.name.Name.{Name}
use Rattle.vlsi_base.specs.declared.name.Port.{Port}
use Rattle.machine_core.specs.Machine.{Machine, Register, names_of, is_input, input_ports, outputs, register_names}
use Rattle.machine_core.specs.Order.{held_names, equation_names, IsOrdered}
use Rattle.machine_core.specs.Checked.{IsChecked}
use Rattle.proof_joint.specs.declared.naming.Role.TheVariants.{Input, Output, Clock, Register as Stored}
use Rattle.proof_joint.specs.Naming.{AgreeByName, HaveSameNames}
use Rattle.proof_joint.specs.Clock.{compared_by, as_compared}
use Rattle.proof_joint.proofs.Clocks.{no_longer}

inputs_stay : (m : Machine) (rs : List Register) (c : Option Name) → input_ports (compared_by rs c m) ≡ input_ports m
inputs_stay m [] (Some clock) = refl
inputs_stay m [] None = refl
inputs_stay m (r ∷ rs) c = refl

outputs_stay : (m : Machine) (rs : List Register) (c : Option Name) → outputs (compared_by rs c m) ≡ outputs m
outputs_stay m [] (Some clock) = refl
outputs_stay m [] None = refl
outputs_stay m (r ∷ rs) c = refl

stored_stay : (m : Machine) (rs : List Register) (c : Option Name) → rs ≡ m.registers → register_names (compared_by rs c m) ≡ register_names m
stored_stay m [] (Some clock) e = ap (map (λ (r : Register). r.name)) e
stored_stay m [] None e = refl
stored_stay m (r ∷ rs) c e = refl

no_clock : (m : Machine) (rs : List Register) (c : Option Name) → c ≡ m.clock → rs ≡ [] → (compared_by rs c m).clock ≡ None
no_clock m [] (Some clock) e none = refl
no_clock m [] None e none = sym e
no_clock m (r ∷ rs) c e none = absurd (cc none)

kept : (m : Machine) (rs : List Register) (c : Option Name) → 0 < length rs → compared_by rs c m ≡ m
kept m [] c some = absurd (omega (arith, some))
kept m (r ∷ rs) c some = refl

none_or_some : (rs : List Register) → (rs ≡ []) ⊎ (0 < length rs)
none_or_some [] = inl refl
none_or_some (r ∷ rs) = inr (omega arith)

no_names : (rs : List Register) → map (λ (r : Register). r.name) rs ≡ [] → rs ≡ []
no_names [] e = refl
no_names (r ∷ rs) e = absurd (cc e)

module _ (a b : Machine) (agree : AgreeByName a b) where
  same_clocks : (a.registers ≡ []) ⊎ (0 < length a.registers) → option_to_list (as_compared b).clock ≡ option_to_list (as_compared a).clock
  same_clocks (inl none) =
      let other : b.registers ≡ [] = no_names b.registers (agree Stored tt ∙ ap (map (λ (r : Register). r.name)) none) in
      ap option_to_list (no_clock b b.registers b.clock refl other ∙ sym (no_clock a a.registers a.clock refl none))
  same_clocks (inr some) =
      let long = ap length (agree Stored tt) in
      let first = length-map a.registers (λ (r : Register). r.name) in
      let second = length-map b.registers (λ (r : Register). r.name) in
      let also : 0 < length b.registers = omega (arith, some, long, first, second) in
      ap (λ (m : Machine). option_to_list m.clock) (kept b b.registers b.clock also)
      ∙ agree Clock (some, also)
      ∙ sym (ap (λ (m : Machine). option_to_list m.clock) (kept a a.registers a.clock some))

  pub names_agree : HaveSameNames (as_compared a) (as_compared b)
  names_agree Input = inputs_stay b b.registers b.clock ∙ agree Input tt ∙ sym (inputs_stay a a.registers a.clock)
  names_agree Output = outputs_stay b b.registers b.clock ∙ agree Output tt ∙ sym (outputs_stay a a.registers a.clock)
  names_agree Clock = same_clocks (none_or_some a.registers)
  names_agree Stored = stored_stay b b.registers b.clock refl ∙ agree Stored tt ∙ sym (stored_stay a a.registers a.clock refl)

-- ---- how many names there are

pub fewer : (m : Machine) → IsChecked m → length m.vars ≤ length (as_compared m).vars
fewer m checked = by m.registers m.clock refl refl where
  by : (rs : List Register) (c : Option Name) → m.registers ≡ rs → m.clock ≡ c → length m.vars ≤ length (compared_by rs c m).vars
  by [] (Some clock) none is = no_longer m clock checked none is
  by [] None none is = omega arith
  by (r ∷ rs) c some is = omega arith

ports_short : (ports : List Port) → length (names_of (filter (λ p. is_input p.dir) ports)) ≤ length ports
ports_short [] = omega arith
ports_short (p ∷ ports) = by (is_input p.dir) (ports_short ports) where
  by : (b : Bool) → length (names_of (filter (λ p. is_input p.dir) ports)) ≤ length ports
      → length (names_of (if b then p ∷ filter (λ p. is_input p.dir) ports else filter (λ p. is_input p.dir) ports)) ≤ suc (length ports)
  by true r = omega (arith, r)
  by false r = omega (arith, r)

-- at most the ports are more
pub few_more : (m : Machine) → IsOrdered m → length (as_compared m).vars ≤ length m.vars + length m.ports
few_more m ordered = by m.registers m.clock where
  by : (rs : List Register) (c : Option Name) → length (compared_by rs c m).vars ≤ length m.vars + length m.ports
  by [] (Some clock) =
      let all = ap length ordered.vars in
      let old = length-append (held_names m) (equation_names m) in
      let new = length-append (input_ports m) (equation_names m) in
      let short = ports_short m.ports in
      omega (arith, all, old, new, short)
  by [] None = omega arith
  by (r ∷ rs) c = omega arith
