-- What stands for each name in expansions: the same in two machines of one text, whatever numbers their names have.
use Rattle.std.proofs.Common.{◌≡◌, ◌⊎◌, inl, inr, ℕ, zero, suc, ◌+◌, ◌<◌, ◌≤◌, List, ◌++◌, map, length, slice_get, Some, sym, ap, ◌∙◌, subst, arith}
use Rattle.std.specs.Prelude.{filter, not, Option}
use Rattle.std.proofs.lemmas.List.Sorted.{IsPermutation-sym}
use Rattle.vlsi_base.specs.declared.name.Name.{Name}
use Rattle.vlsi_base.specs.declared.name.Port.{Port}
use Rattle.vlsi_base.specs.Member.{In}
use Rattle.bool_expr.specs.Expression.{Expression, variable, IsOver}
use Rattle.machine_core.specs.Machine.{Machine, Equation, names_of, is_input, is_clock, inputs, outputs, register_names}
use Rattle.machine_core.specs.Order.{held_names, equation_names, IsOrdered}
use Rattle.machine_core.proofs.Values.{In-split, In-right, In-map}
use Rattle.source_checks.specs.Formula.{Formula, place, numbered}
use Rattle.source_checks.specs.Elaboration.{Definition}
use Rattle.vlsi_model.proofs.Members.{In-map_back}
use Rattle.vlsi_model.proofs.Assembly.{In-permutation}
use Rattle.vlsi_model.proofs.Numbering.{place_In, place_within, place_front}
use Rattle.machine_walk.specs.Expansion.{expansions, expansion, held_count}
use Rattle.machine_roots.specs.Roots.{expression_of}
use Rattle.machine_walk.proofs.Names.{name_of, expansion_held, expansion_at}
use Rattle.machine_walk.proofs.Reaching.{equation_below}
use Rattle.vbe_roots.proofs.Readings.{equation_over, AreOfOne}
use Rattle.vbe_roots.proofs.Numbers.{in_at, stands_at, has_place, place_of_equation, place_in_front, expression_is, same_put}

-- what stands for a name in a machine's expansions
abbrev meaning : Machine → Name → Expression
meaning m n = name_of (expansions m) (place m.vars n)

-- an equation's name means what the equation says, with expansions put in
meaning_at : (m : Machine) → IsOrdered m → (j : ℕ) (x : Equation) → slice_get m.equations j ≡ Some x → meaning m x.name ≡ expansion m x.expr
meaning_at m ordered j x at = ap (name_of (expansions m)) (place_of_equation m ordered j x at) ∙ expansion_at m ordered j x at

-- the expansion of what the equation of a name says is what the name means
expansion_of_named : (m : Machine) → IsOrdered m → (n : Name) → In n (equation_names m) → expansion m (expression_of m.equations n) ≡ meaning m n
expansion_of_named m ordered n i =
    let p = has_place m.equations n i in
    ap (expansion m) (expression_is m ordered n p) ∙ sym (meaning_at m ordered p.number p.equation p.at) ∙ ap (meaning m) p.name_is

abbrev inputs_of : Option Name → List Port → List Name
inputs_of clock ports = filter (λ name. not (is_clock clock name)) (names_of (filter (λ p. is_input p.dir) ports))

module _ (m k : Machine) (one : AreOfOne m k) where
  held_same : held_names m ≡ held_names k
  held_same =
      ap (λ (c : Option Name). inputs_of c m.ports ++ register_names m) one.parts.clock
      ∙ ap (λ (ps : List Port). inputs_of k.clock ps ++ register_names m) one.parts.ports
      ∙ ap (λ (ns : List Name). inputs k ++ ns) one.parts.registers

  -- an input or register is itself, and has one number in both
  held_means : (n : Name) → In n (held_names m) → meaning m n ≡ meaning k n
  held_means n i =
      let count : held_count m ≡ held_count k = ap length held_same in
      let at : place m.vars n ≡ place k.vars n =
      ap (λ (ns : List Name). place ns n) one.first.ordered.vars ∙ place_in_front (held_names m) (equation_names m) (equation_names k) n i
      ∙ ap (λ (ns : List Name). place (ns ++ equation_names k) n) held_same ∙ ap (λ (ns : List Name). place ns n) (sym one.second.ordered.vars) in
      let low : place m.vars n < held_count m =
      subst (λ (ns : List Name). place ns n < held_count m) (sym one.first.ordered.vars) (place_front (held_names m) (equation_names m) n i) in
      expansion_held m (place m.vars n) low ∙ ap variable at ∙ sym (expansion_held k (place k.vars n) (omega (arith, low, at, count)))

  -- the names below a number mean the same
  abbrev MeanTheSameBelow : ℕ → Type 0
  MeanTheSameBelow b = (n : Name) → place m.vars n < b → meaning m n ≡ meaning k n

  -- so does that of an equation behind them, which reads no others
  equation_means : (j : ℕ) (x : Equation) → slice_get m.equations j ≡ Some x → MeanTheSameBelow (held_count m + j) → meaning m x.name ≡ meaning k x.name
  equation_means j x at below =
      let bits : List Definition = one.driven in
      let listed : In x (map (equation_over m.vars) bits) =
      In-permutation m.equations (map (equation_over m.vars) bits) x one.equations (in_at m.equations j x at) in
      let d = In-map_back (equation_over m.vars) x bits listed in
      let other : Equation = equation_over k.vars d.0 in
      let found = stands_at k.equations other
      (In-permutation (map (equation_over k.vars) bits) k.equations other
      (IsPermutation-sym k.equations (map (equation_over k.vars) bits) one.other_equations) (In-map (equation_over k.vars) d.0 bits d.1)) in
      let over : IsOver (numbered m.vars d.0.formula) (held_count m + j) =
      subst (λ (y : Equation). IsOver y.expr (held_count m + j)) (sym d.2) (equation_below m.equations (held_count m) j x one.first.ordered.below at) in
      let put : expansion m (numbered m.vars d.0.formula) ≡ expansion k (numbered k.vars d.0.formula) =
      same_put m.vars k.vars (name_of (expansions m)) (name_of (expansions k)) (held_count m + j) d.0.formula over below in
      meaning_at m one.first.ordered j x at ∙ ap (λ (y : Equation). expansion m y.expr) (sym d.2) ∙ put
      ∙ sym (meaning_at k one.second.ordered found.0 other found.1) ∙ ap (λ (y : Equation). meaning k y.name) d.2

  -- by induction along the first machine's numbers, all names mean the same
  all_mean : (b : ℕ) → b ≤ length m.vars → MeanTheSameBelow b
  all_mean zero within n low = absurd (omega (arith, low))
  all_mean (suc b) within n low =
      by (all_mean b (omega (arith, within)))
      (In-split n (held_names m) (equation_names m)
      (subst (λ (ns : List Name). In n ns) one.first.ordered.vars (place_In m.vars n (omega (arith, low, within)))))
    where
      by : MeanTheSameBelow b → In n (held_names m) ⊎ In n (equation_names m) → meaning m n ≡ meaning k n
      by below (inl i) = held_means n i
      by below (inr i) =
          let p = has_place m.equations n i in
          let at : place m.vars n ≡ held_count m + p.number =
          ap (place m.vars) (sym p.name_is) ∙ place_of_equation m one.first.ordered p.number p.equation p.at in
          subst (λ (y : Name). meaning m y ≡ meaning k y) p.name_is
          (equation_means p.number p.equation p.at (λ y less. below y (omega (arith, less, at, low))))

  -- a formula over each machine's numbers has one expansion
  pub formula_means : (f : Formula) → IsOver (numbered m.vars f) (length m.vars) → expansion m (numbered m.vars f) ≡ expansion k (numbered k.vars f)
  formula_means f over =
      same_put m.vars k.vars (name_of (expansions m)) (name_of (expansions k)) (length m.vars) f over (all_mean (length m.vars) (omega arith))

  pub outputs_same : outputs m ≡ outputs k
  outputs_same = ap (λ (ps : List Port). names_of (filter (λ p. not (is_input p.dir)) ps)) one.parts.ports

  -- so has what the equation of an output says
  pub output_means : (n : Name) → In n (outputs m) → expansion m (expression_of m.equations n) ≡ expansion k (expression_of k.equations n)
  output_means n i =
      let own : In n (equation_names m) = one.first.driven n i in
      let other : In n (equation_names k) = one.second.driven n (subst (λ (ns : List Name). In n ns) outputs_same i) in
      let within : place m.vars n < length m.vars =
      place_within m.vars n (subst (λ (ns : List Name). In n ns) (sym one.first.ordered.vars) (In-right n (held_names m) (equation_names m) own)) in
      expansion_of_named m one.first.ordered n own ∙ all_mean (length m.vars) (omega arith) n within
      ∙ sym (expansion_of_named k one.second.ordered n other)
