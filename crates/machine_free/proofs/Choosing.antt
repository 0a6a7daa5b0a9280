-- Each run of a machine that is chosen among what is left free is one that is left free.
--
-- The machine in which each free bit is 0 has one valuation under the same vector. It agrees with that of the chosen machine on all
-- names but free outputs; since no equation reads these, every expression has one value under both. So what is never fixed under the
-- one isn't fixed under the other.
use Rattle.std.proofs.Common.{◌≡◌, ◌⊎◌, inl, inr, ℕ, Bool, true, false, not, List, [], ◌∷◌, ◌++◌, length, map, filter, Some, refl, sym, ap, subst, ◌∙◌, if◌then◌else◌}
use Rattle.std.specs.List.{slice_index_or, All, AllZip}
use Rattle.std.proofs.lemmas.List.{length-map}
use Rattle.std.proofs.lemmas.Option.{slice_get-get_or}
use Rattle.std.proofs.lemmas.List.Elements.{All-head, All-tail}
use Rattle.vlsi_base.specs.declared.name.Name.{Name}
use Rattle.bool_expr.specs.Expression.{Expression, constant, variable, inverse, pair, choice, variables, val}
use Rattle.machine_core.specs.Named.{value_at, values_at}
use Rattle.machine_core.specs.Machine.{Machine, Equation, Register, is_input, is_clock, names_of, inputs, outputs, register_names}
use Rattle.machine_core.specs.Runs.{Trace}
use Rattle.machine_core.specs.Cycles.{Settles, outs, next, RunOf}
use Rattle.machine_core.specs.Order.{In, here, there, held_names}
use Rattle.machine_core.specs.Checked.{IsChecked}
use Rattle.machine_core.proofs.Known.{ReadsKnown, EachReadsKnown, known}
use Rattle.machine_core.proofs.Values.{In-split, In-left, In-right, bit-value_at, val-agrees}
use Rattle.machine_core.proofs.Solve.{agree_from_values, settles_once_known}
use Rattle.machine_free.specs.Free.{AreFreed, IsFreeOutput, MayDiffer, AreFree}
use Rattle.machine_free.specs.Cycles.{May, FreeSettles, FreeRunOf}
use Rattle.machine_free.specs.Between.{IsAmong, AreAmong, IsBetween, EachRunMay}
use Rattle.machine_free.proofs.Same.{each_trace}

-- ---- what is read

-- where each part of a choice reads no more than that of another one, the choice doesn't
reads_choice : (c a b x y : Expression) → ((k : ℕ) → In k (variables x) → In k (variables a)) → ((k : ℕ) → In k (variables y) → In k (variables b))
    → (k : ℕ) → In k (variables (choice c x y)) → In k (variables (choice c a b))
reads_choice c a b x y first second k g = both (In-split k (variables c) (variables x ++ variables y) g) where
  rest : In k (variables x) ⊎ In k (variables y) → In k (variables a ++ variables b)
  rest (inl left) = In-left k (variables a) (variables b) (first k left)
  rest (inr right) = In-right k (variables a) (variables b) (second k right)

  both : In k (variables c) ⊎ In k (variables x ++ variables y) → In k (variables c ++ (variables a ++ variables b))
  both (inl left) = In-left k (variables c) (variables a ++ variables b) left
  both (inr right) = In-right k (variables c) (variables a ++ variables b) (rest (In-split k (variables x) (variables y) right))

-- with each free bit 1 no more is read than with each 0
pub freed_reads : (e f : Expression) → AreFreed e f → (k : ℕ) → In k (variables f) → In k (variables e)
freed_reads (constant b) f (inl h) k g = subst (λ x. In k (variables x)) h g
freed_reads (constant b) f (inr h) k g = absurd (elim (subst (λ x. In k (variables x)) h.1 g) [ ])
freed_reads (variable j) f h k g = subst (λ x. In k (variables x)) h g
freed_reads (inverse e) f h k g = subst (λ x. In k (variables x)) h g
freed_reads (pair o a b) f h k g = subst (λ x. In k (variables x)) h g
freed_reads (choice c a b) f h k g =
    reads_choice c a b h.0 h.1 (freed_reads a h.0 h.3.0) (freed_reads b h.1 h.3.1) k (subst (λ x. In k (variables x)) h.2 g)

-- ---- in one cycle

module _ (low high : Machine) (checked : IsChecked low) (s i w v : List Bool) (lw : length w ≡ length low.vars) (settled : Settles low s i v) where
  -- an output that is left free
  abbrev IsFreeName : Name → Type 0
  IsFreeName n = (e : Equation) × (f : Equation) × IsFreeOutput low e f × (e.name ≡ n)

  -- the valuations agree on the names that are known, but for free outputs
  abbrev Agree : List Name → Type 0
  Agree names = (n : Name) → In n names → (IsFreeName n → ⊥) → value_at low.vars w n ≡ value_at low.vars v n

  one_value : (names : List Name) (e : Equation) → In e low.equations → ReadsKnown low.vars names e → Agree names
      → (x : Expression) → ((k : ℕ) → In k (variables x) → In k (variables e.expr)) → val x w ≡ val x v
  one_value names e among reads agree x covers =
      let different = (known low checked.ordered).different in
      val-agrees x w v (λ k h.
      let r = reads k (covers k h) in
      let n = slice_index_or low.vars k e.name in
      bit-value_at low.vars w k e.name different lw r.0
      ∙ agree n (r.1 e.name) (λ p. p.2.unread e among (k, covers k h, slice_get-get_or low.vars k e.name r.0 ∙ ap Some (sym p.3)))
      ∙ sym (bit-value_at low.vars v k e.name different settled.each r.0))

  -- a bit that isn't the opposite of it is one
  opposite : (a b : Bool) → (a ≡ b) ⊎ (a ≡ not b)
  opposite true true = inl refl
  opposite true false = inr refl
  opposite false true = inr refl
  opposite false false = inl refl

  may_be : (e f : Expression) (b : Bool) → (val e w ≡ not b → val f w ≡ not b → ⊥) → May e f w b
  may_be e f b never = by (opposite (val e w) b) (opposite (val f w) b) where
    by : (val e w ≡ b) ⊎ (val e w ≡ not b) → (val f w ≡ b) ⊎ (val f w ≡ not b) → May e f w b
    by (inl h) g = inl (sym h)
    by (inr h) (inl g) = inr (sym g)
    by (inr h) (inr g) = absurd (never h g)

  -- what is known after an equation: its name has one bit in both, or is left free
  abbrev Known : Equation → Type 0
  Known e = (IsFreeName e.name → ⊥) → value_at low.vars w e.name ≡ value_at low.vars v e.name

  step : (names : List Name) (e f g : Equation) → In e low.equations → ReadsKnown low.vars names e → Agree names → MayDiffer low e f
      → g.name ≡ e.name → IsAmong low e f g.expr → value_at low.vars w g.name ≡ val g.expr w → value_at low.vars v e.name ≡ val e.expr v
      → May e.expr f.expr w (value_at low.vars w e.name) × Known e
  step names e f g among reads agree differ named chosen gw ev = by chosen where
    same : val e.expr w ≡ val e.expr v
    same = one_value names e among reads agree e.expr (λ k h. h)

    has : value_at low.vars w e.name ≡ val g.expr w
    has = ap (value_at low.vars w) (sym named) ∙ gw

    first : value_at low.vars w e.name ≡ val e.expr w → Known e
    first h free = h ∙ same ∙ sym ev

    second : value_at low.vars w e.name ≡ val f.expr w → (f.expr ≡ e.expr) ⊎ IsFreeOutput low e f → Known e
    second h (inl is) = first (h ∙ ap (λ x. val x w) is)
    second h (inr out) = λ free. absurd (free (e, f, out, refl))

    by : IsAmong low e f g.expr → May e.expr f.expr w (value_at low.vars w e.name) × Known e
    by (inl is) = let h = has ∙ ap (λ x. val x w) is in (inl h, first h)
    by (inr (inl is)) = let h = has ∙ ap (λ x. val x w) is in (inr h, second h differ.1)
    by (inr (inr c)) =
        let b = c.1.0 in
        let other : val f.expr w ≡ val f.expr v = one_value names e among reads agree f.expr (freed_reads e.expr f.expr c.0.freed) in
        let may = may_be e.expr f.expr b (λ p q. c.1.2 s i v settled (sym same ∙ p) (sym other ∙ q)) in
        let is : value_at low.vars w e.name ≡ b = has ∙ ap (λ x. val x w) c.1.1 in
        (subst (May e.expr f.expr w) (sym is) may, λ free. absurd (free (e, f, c.0, refl)))

  more : (names : List Name) (e : Equation) → Agree names → Known e → Agree (e.name ∷ names)
  more names e agree new n here free = new free
  more names e agree new n (there h) free = agree n h free

  each : (names : List Name) (es fs gs : List Equation) → ((e : Equation) → In e es → In e low.equations) → EachReadsKnown low.vars names es → Agree names
      → AllZip (MayDiffer low) es fs → AreAmong low es fs gs → All (λ g. value_at low.vars w g.name ≡ val g.expr w) gs
      → All (λ e. value_at low.vars v e.name ≡ val e.expr v) es → AllZip (λ e f. May e.expr f.expr w (value_at low.vars w e.name)) es fs
  each names [] [] gs inside reads agree differ chosen gw ev = tt
  each names [] (f ∷ fs) gs inside reads agree differ chosen gw ev = absurd differ
  each names (e ∷ es) [] gs inside reads agree differ chosen gw ev = absurd differ
  each names (e ∷ es) (f ∷ fs) [] inside reads agree differ chosen gw ev = absurd chosen
  each names (e ∷ es) (f ∷ fs) (g ∷ gs) inside reads agree differ chosen gw ev =
      let made = step names e f g (inside e here) reads.0 agree differ.0 chosen.0 chosen.1.0
      (All-head (λ x. value_at low.vars w x.name ≡ val x.expr w) g gs gw) (All-head (λ x. value_at low.vars v x.name ≡ val x.expr v) e es ev) in (
        made.0,
        each (e.name ∷ names) es fs gs (λ x h. inside x (there h)) reads.1 (more names e agree made.1) differ.1 chosen.1.1
            (All-tail (λ x. value_at low.vars w x.name ≡ val x.expr w) g gs gw) (All-tail (λ x. value_at low.vars v x.name ≡ val x.expr v) e es ev),
      )

-- ---- in all cycles

module _ (low high m : Machine) (checked : IsChecked low) (free : AreFree low high) (between : IsBetween low high m) where
  inputs_same : inputs m ≡ inputs low
  inputs_same = λ j. filter (λ (name : Name). not (is_clock (between.clock j) name)) (names_of (filter (λ p. is_input p.dir) (between.ports j)))

  outputs_same : outputs m ≡ outputs low
  outputs_same = λ j. names_of (filter (λ p. not (is_input p.dir)) (between.ports j))

  settles : (s i w : List Bool) → Settles m s i w → FreeSettles low high s i w
  settles s i w h =
      let lw : length w ≡ length low.vars = h.each ∙ ap length between.vars in
      let ins : values_at low.vars w (inputs low) ≡ i = sym (λ j. values_at (between.vars j) w (inputs_same j)) ∙ h.inputs in
      let regs : values_at low.vars w (register_names low) ≡ s = sym (λ j. values_at (between.vars j) w (map (λ r. r.name) (between.registers j))) ∙ h.registers in
      let found = settles_once_known low s i (known low checked.ordered)
      (ap length (sym regs) ∙ length-map (register_names low) (value_at low.vars w) ∙ length-map low.registers (λ (r : Register). r.name))
      (ap length (sym ins) ∙ length-map (inputs low) (value_at low.vars w)) in
      let v = found.0 in
      let vw = found.1 in
      let start : Agree low high checked s i w v lw vw (held_names low) = λ n h _.
      at_start w v n (In-split n (inputs low) (register_names low) h) (ins ∙ sym vw.inputs) (regs ∙ sym vw.registers) in
      record {
        each = lw;
        inputs = ins;
        registers = regs;
        equations = each low high checked s i w v lw vw (held_names low) low.equations high.equations m.equations (λ e h. h) (known low checked.ordered).ordered start
            free.equations between.equations (subst (λ (names : List Name). All (λ g. value_at names w g.name ≡ val g.expr w) m.equations) between.vars h.equations) vw.equations;
      } where
        at_start : (w v : List Bool) (n : Name) → In n (inputs low) ⊎ In n (register_names low) → values_at low.vars w (inputs low) ≡ values_at low.vars v (inputs low)
            → values_at low.vars w (register_names low) ≡ values_at low.vars v (register_names low) → value_at low.vars w n ≡ value_at low.vars v n
        at_start w v n (inl h) ins regs = agree_from_values low.vars w v (inputs low) ins n h
        at_start w v n (inr h) ins regs = agree_from_values low.vars w v (register_names low) regs n h

  next_same : next m ≡ next low
  next_same = λ j w. map (λ (r : Register). if val r.enable w then val r.next w else value_at (between.vars j) w r.name) (between.registers j)

  outs_same : outs m ≡ outs low
  outs_same = λ j w. values_at (between.vars j) w (outputs_same j)

  runs : (s : List Bool) (v y : List (List Bool)) → RunOf m s v y → FreeRunOf low high s v y
  runs s v y r =
      let t = each_trace (Settles m) (FreeSettles low high) (next m) settles v s r.0 r.1 in (
        r.0,
        subst (λ (n : List Bool → List Bool). Trace (FreeSettles low high) n s v r.0) next_same t,
        r.2 ∙ ap (λ (f : List Bool → List Bool). map f r.0) outs_same,
      )

pub each_run_may : EachRunMay
each_run_may low high m s v y checked free between = runs low high m checked free between s v y
