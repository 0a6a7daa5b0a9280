-- The machine that is chosen has passed the checks.
use Rattle.std.proofs.Common.{◌≡◌, ℕ, ◌+◌, not, List, [], ◌∷◌, ◌++◌, length, map, filter, Option, refl, sym, ap, subst, ◌∙◌}
use Rattle.vlsi_base.specs.declared.name.Name.{Name}
use Rattle.vlsi_base.specs.declared.name.Port.{Port}
use Rattle.vlsi_base.specs.Member.{In}
use Rattle.bool_expr.specs.Expression.{Expression, IsOver}
use Rattle.machine_core.specs.Machine.{Machine, Equation, Register, is_input, is_clock, names_of}
use Rattle.machine_core.specs.Order.{EachReadsBelow, held_names, equation_names}
use Rattle.machine_core.specs.Checked.{IsChecked}
use Rattle.machine_free.specs.Free.{AreFree}
use Rattle.boom_choose.specs.Choice.{IsChoice, kept, zero, one, first, second, AreChosen, IsChosen}

choice_over : (m : Machine) (lo hi x : Expression) (n : ℕ) → IsChoice m lo hi x → IsOver lo n → IsOver hi n → IsOver x n
choice_over m lo hi x n (kept same is) l h = subst (λ (e : Expression). IsOver e n) (sym is) l
choice_over m lo hi x n (zero apart p is) l h = subst (λ (e : Expression). IsOver e n) (sym is) tt
choice_over m lo hi x n (one apart p q is) l h = subst (λ (e : Expression). IsOver e n) (sym is) tt
choice_over m lo hi x n (first apart p q j k a b less is) l h = subst (λ (e : Expression). IsOver e n) (sym is) l
choice_over m lo hi x n (second apart p q j k a b less is) l h = subst (λ (e : Expression). IsOver e n) (sym is) h

below : (m : Machine) (n : ℕ) (es fs gs : List Equation) → AreChosen m es fs gs → EachReadsBelow n es → EachReadsBelow n fs → EachReadsBelow n gs
below m n [] [] [] all l h = tt
below m n [] [] (g ∷ gs) all l h = absurd all
below m n [] (f ∷ fs) gs all l h = absurd all
below m n (e ∷ es) [] gs all l h = absurd all
below m n (e ∷ es) (f ∷ fs) [] all l h = absurd all
below m n (e ∷ es) (f ∷ fs) (g ∷ gs) all l h = (choice_over m e.expr f.expr g.expr n all.1.0 l.0 h.0, below m (n + 1) es fs gs all.1.1 l.1 h.1)

same_names : (m : Machine) (es fs gs : List Equation) → AreChosen m es fs gs → map (λ (e : Equation). e.name) gs ≡ map (λ (e : Equation). e.name) es
same_names m [] [] [] all = refl
same_names m [] [] (g ∷ gs) all = absurd all
same_names m [] (f ∷ fs) gs all = absurd all
same_names m (e ∷ es) [] gs all = absurd all
same_names m (e ∷ es) (f ∷ fs) [] all = absurd all
same_names m (e ∷ es) (f ∷ fs) (g ∷ gs) all = let rest = same_names m es fs gs all.1.1 in λ j. all.0 j ∷ rest j

module _ (low high : Machine) (cl : IsChecked low) (ch : IsChecked high) (free : AreFree low high) (gs : List Equation)
    (all : AreChosen low low.equations high.equations gs) where
  abbrev pub put : Machine
  put = record low { equations = gs }

  held_same : length (held_names high) ≡ length (held_names low)
  held_same = λ j. length (filter (λ (name : Name). not (is_clock (free.clock j) name)) (names_of (filter (λ p. is_input p.dir) (free.ports j)))
      ++ map (λ (r : Register). r.name) (free.registers j))

  names : equation_names put ≡ equation_names low
  names = same_names low low.equations high.equations gs all

  pub put_checked : IsChecked put
  put_checked = record {
    ports = cl.ports;
    registers = cl.registers;
    supplies = cl.supplies;
    driven = λ name h. subst (λ (l : List Name). In name l) (sym names) (cl.driven name h);
    clock = λ name is. let c = cl.clock name is in record { port = c.port; apart = c.apart };
    clocked = cl.clocked;
    ordered = record {
      vars = cl.ordered.vars ∙ ap (λ (l : List Name). held_names low ++ l) (sym names);
      different = cl.ordered.different;
      below = below low (length (held_names low)) low.equations high.equations gs all cl.ordered.below
          (subst (λ (n : ℕ). EachReadsBelow n high.equations) held_same ch.ordered.below);
    };
    loads = cl.loads;
  }

  -- in parts that were copied
  module _ (name : List ℕ) (ports : List Port) (clock : Option Name) (vars : List Name) (registers : List Register) (en : name ≡ low.name) (ep : ports ≡ low.ports)
      (ec : clock ≡ low.clock) (ev : vars ≡ low.vars) (er : registers ≡ low.registers) where
    abbrev pub parts : Machine
    parts = record { name = name; ports = ports; clock = clock; vars = vars; equations = gs; registers = registers }

    parts_are : parts ≡ put
    parts_are = λ j. record { name = en j; ports = ep j; clock = ec j; vars = ev j; equations = gs; registers = er j }

    pub parts_checked : IsChecked parts
    parts_checked = subst IsChecked (sym parts_are) put_checked

    pub parts_chosen : (made : Machine) → made ≡ parts → IsChosen low high made
    parts_chosen made is = subst (IsChosen low high) (sym (is ∙ parts_are)) (record {
      name = refl;
      ports = refl;
      clock = refl;
      vars = refl;
      registers = refl;
      equations = all;
    })
