-- A machine with other equations has passed the checks, where these differ in what is left free alone.
use Rattle.std.proofs.Common.{◌≡◌, ◌⊎◌, inl, inr, ℕ, ◌+◌, not, List, [], ◌∷◌, ◌++◌, length, map, filter, Option, refl, sym, ap, subst, ◌∙◌}
use Rattle.std.specs.List.{AllZip}
use Rattle.std.specs.List.Sorted.{IsPermutation}
use Rattle.vlsi_base.specs.declared.name.Name.{Name}
use Rattle.vlsi_base.specs.declared.name.Port.{Port}
use Rattle.vlsi_base.specs.Member.{In}
use Rattle.bool_expr.specs.Expression.{Expression, constant, variable, inverse, pair, choice, IsOver}
use Rattle.machine_core.specs.Machine.{Machine, Equation, Register}
use Rattle.machine_core.specs.Order.{EachReadsBelow, held_names, equation_names}
use Rattle.machine_core.specs.Checked.{IsChecked}
use Rattle.source_checks.specs.declared.statement.DesignFile.{DesignFile}
use Rattle.source_checks.specs.declared.symbol_table.Symbol.{Symbol}
use Rattle.source_checks.specs.Symbols.{symbols, scalar}
use Rattle.source_checks.specs.Elaboration.{Storage, storage, port_bits, clock_name, IsMachineOf}
use Rattle.std.specs.Prelude.{option_map}
use Rattle.vbe_text.specs.Source.{SourceTree}
use Rattle.vlsi_model.proofs.Assembly.{register_of}
use Rattle.machine_free.specs.Free.{AreFreed, MayDiffer, AreFree}
use Rattle.vbe_free.specs.Second.{IsFirstOf, AreOnes}
use Rattle.vbe_free.proofs.Agree.{same_symbols, same_clock, same_storage}

freed_over : (e f : Expression) (n : ℕ) → AreFreed e f → IsOver e n → IsOver f n
freed_over (constant b) f n (inl h) o = subst (λ x. IsOver x n) (sym h) tt
freed_over (constant b) f n (inr h) o = subst (λ x. IsOver x n) (sym h.1) tt
freed_over (variable k) f n h o = subst (λ x. IsOver x n) (sym h) o
freed_over (inverse e) f n h o = subst (λ x. IsOver x n) (sym h) o
freed_over (pair g a b) f n h o = subst (λ x. IsOver x n) (sym h) o
freed_over (choice c a b) f n h o = subst (λ x. IsOver x n) (sym h.2) (o.0, (freed_over a h.0 n h.3.0 o.1.0, freed_over b h.1 n h.3.1 o.1.1))

differs_over : (m : Machine) (e f : Equation) (n : ℕ) → MayDiffer m e f → IsOver e.expr n → IsOver f.expr n
differs_over m e f n (same, inl h) o = subst (λ x. IsOver x n) (sym h) o
differs_over m e f n (same, inr h) o = freed_over e.expr f.expr n h.freed o

below : (m : Machine) (n : ℕ) (es fs : List Equation) → AllZip (MayDiffer m) es fs → EachReadsBelow n es → EachReadsBelow n fs
below m n [] [] h o = tt
below m n [] (f ∷ fs) h o = absurd h
below m n (e ∷ es) [] h o = absurd h
below m n (e ∷ es) (f ∷ fs) h o = (differs_over m e f n h.0 o.0, below m (n + 1) es fs h.1 o.1)

same_names : (m : Machine) (es fs : List Equation) → AllZip (MayDiffer m) es fs → map (λ (e : Equation). e.name) fs ≡ map (λ (e : Equation). e.name) es
same_names m [] [] h = refl
same_names m [] (f ∷ fs) h = absurd h
same_names m (e ∷ es) [] h = absurd h
same_names m (e ∷ es) (f ∷ fs) h = let rest = same_names m es fs h.1 in λ j. h.0.0 j ∷ rest j

module _ (low : Machine) (high : DesignFile) (first : IsFirstOf low high) (gs : List Equation) (ones : AreOnes low high gs) where
  abbrev pub put : Machine
  put = record low { equations = gs }

  checked : IsChecked low
  checked = first.machine.checked

  names : equation_names put ≡ equation_names low
  names = same_names low low.equations gs ones.agree

  pub put_checked : IsChecked put
  put_checked = record {
    ports = checked.ports;
    registers = checked.registers;
    supplies = checked.supplies;
    driven = λ name h. subst (λ (l : List Name). In name l) (sym names) (checked.driven name h);
    clock = λ name is. let c = checked.clock name is in record { port = c.port; apart = c.apart };
    clocked = checked.clocked;
    ordered = record {
      vars = checked.ordered.vars ∙ ap (λ (l : List Name). held_names low ++ l) (sym names);
      different = checked.ordered.different;
      below = below low (length (held_names low)) low.equations gs ones.agree checked.ordered.below;
    };
    loads = checked.loads;
  }

  entity_same : high.entity ≡ first.low.entity
  entity_same = ap (λ (t : SourceTree). t.entity) first.ones ∙ sym (ap (λ (t : SourceTree). t.entity) first.zeros)

  clock_same : clock_name high ≡ clock_name first.low
  clock_same = ap (option_map scalar) (same_clock low high first)

  pub put_machine : IsMachineOf high put
  put_machine = record {
    checked = put_checked;
    name = first.machine.name ∙ ap (λ e. e.name) (sym entity_same);
    ports = subst (λ (k : List Symbol). IsPermutation low.ports (port_bits k)) (sym (same_symbols low high first)) first.machine.ports;
    clock = first.machine.clock ∙ sym clock_same;
    equations = ones.all;
    registers = subst (λ (rs : List Storage). IsPermutation low.registers (map (register_of low.vars) rs)) (sym (same_storage low high first)) first.machine.registers;
  }

  pub put_free : AreFree low put
  put_free = record { name = refl; ports = refl; clock = refl; vars = refl; registers = refl; equations = ones.agree }

  -- in parts that were copied
  module _ (name : List ℕ) (ports : List Port) (clock : Option Name) (vars : List Name) (registers : List Register) (en : name ≡ low.name) (ep : ports ≡ low.ports)
      (ec : clock ≡ low.clock) (ev : vars ≡ low.vars) (er : registers ≡ low.registers) where
    abbrev pub parts : Machine
    parts = record { name = name; ports = ports; clock = clock; vars = vars; equations = gs; registers = registers }

    parts_are : parts ≡ put
    parts_are = λ j. record { name = en j; ports = ep j; clock = ec j; vars = ev j; equations = gs; registers = er j }

    pub parts_checked : IsChecked parts
    parts_checked = subst IsChecked (sym parts_are) put_checked

    pub parts_machine : (made : Machine) → made ≡ parts → IsMachineOf high made
    parts_machine made is = subst (IsMachineOf high) (sym (is ∙ parts_are)) put_machine

    pub parts_free : (made : Machine) → made ≡ parts → AreFree low made
    parts_free made is = subst (AreFree low) (sym (is ∙ parts_are)) put_free
