-- Equations that are chosen one after another.
use Rattle.std.proofs.Common.{◌≡◌, inl, inr, ℕ, zero, suc, ◌+◌, ◌<◌, ◌≤◌, Bool, true, false, List, [], ◌∷◌, ◌++◌, length, map, take, get_or, refl, sym, ap, subst, ◌∙◌, arith, if◌then◌else◌}
use Rattle.std.specs.List.{All, AllZip}
use Rattle.std.proofs.lemmas.List.{length-map, take_more, take_all}
use Rattle.vlsi_base.specs.declared.name.Name.{Name}
use Rattle.vlsi_base.specs.Member.{In, here, there, AllDifferent}
use Rattle.bool_expr.specs.Expression.{Expression, constant, variable, inverse, pair, choice, IsOver}
use Rattle.bdd_core.specs.Truths.{IsOver as IsOverBudget}
use Rattle.machine_core.specs.declared.equation.Equation.{Equation as EquationParts}
use Rattle.machine_core.specs.Named.{is_same_name}
use Rattle.machine_core.specs.Machine.{Machine, Equation, outputs}
use Rattle.machine_core.specs.Order.{EachReadsBelow, held_names, equation_names}
use Rattle.machine_core.specs.View.{equation_view}
use Rattle.machine_core.specs.Checked.{IsChecked}
use Rattle.machine_core.proofs.Names.{same_name-true, same_name-itself}
use Rattle.machine_walk.specs.Expansion.{held_count}
use Rattle.machine_walk.proofs.Names.{length-vars}
use Rattle.machine_roots.specs.Roots.{expression_of}
use Rattle.proof_joint.proofs.Clocks.{over_more}
use Rattle.proof_joint.specs.Together.{joint_lists}
use Rattle.machine_free.specs.Free.{AreFreed, MayDiffer, AreFree}
use Rattle.boom_choose.specs.Choice.{IsChoice, AreChosen, IsOverBoth}

-- ---- places

pub map_at : {A C : Type 0} (f : A → C) (xs : List A) (k : ℕ) (x : A) → k < length xs → x ≡ get_or xs k x → get_or (map f xs) k (f x) ≡ f x
map_at f [] k x within is = absurd (omega arith)
map_at f (y ∷ xs) zero x within is = ap f (sym is)
map_at f (y ∷ xs) (suc k) x within is = map_at f xs k x (omega arith) is

pub zip_long : {A C : Type 0} (R : A → C → Type 0) (xs : List A) (ys : List C) → AllZip R xs ys → length ys ≡ length xs
zip_long R [] [] all = refl
zip_long R [] (y ∷ ys) all = absurd all
zip_long R (x ∷ xs) [] all = absurd all
zip_long R (x ∷ xs) (y ∷ ys) all = ap suc (zip_long R xs ys all.1)

pub zip_at : {A C : Type 0} (R : A → C → Type 0) (xs : List A) (ys : List C) (k : ℕ) (x : A) (y : C) → AllZip R xs ys → k < length xs → R (get_or xs k x) (get_or ys k y)
zip_at R [] ys k x y all within = absurd (omega arith)
zip_at R (a ∷ xs) [] k x y all within = absurd all
zip_at R (a ∷ xs) (b ∷ ys) zero x y all within = all.0
zip_at R (a ∷ xs) (b ∷ ys) (suc k) x y all within = zip_at R xs ys k x y all.1 (omega arith)

in_place : {A : Type 0} (xs : List A) (k : ℕ) (d : A) → k < length xs → In (get_or xs k d) xs
in_place [] k d within = absurd (omega arith)
in_place (x ∷ xs) zero d within = here
in_place (x ∷ xs) (suc k) d within = there (in_place xs k d (omega arith))

pub each_name : (xs : List Name) (P : Name → Type 0) (n : Name) → In n xs → All P xs → P n
each_name (x ∷ xs) P n here all = all 0 x (omega arith)
each_name (x ∷ xs) P n (there h) all = each_name xs P n h (λ j d w. all (suc j) d (omega arith))
each_name [] P n h all = elim h [ ]

-- ---- what an equation reads

over_at : (n total : ℕ) (es : List Equation) → EachReadsBelow n es → n + length es ≤ total → (k : ℕ) (d : Equation) → k < length es → IsOver (get_or es k d).expr total
over_at n total [] reads room k d within = absurd (omega arith)
over_at n total (e ∷ es) reads room zero d within = over_more e.expr n total (omega (arith, room)) reads.0
over_at n total (e ∷ es) reads room (suc k) d within = over_at (n + 1) total es reads.1 (omega (arith, room)) k d (omega arith)

pub machine_over : (m : Machine) → IsChecked m → (k : ℕ) (d : Equation) → k < length m.equations → IsOver (get_or m.equations k d).expr (length m.vars)
machine_over m checked k d within =
    over_at (held_count m) (length m.vars) m.equations checked.ordered.below (let t = length-vars m checked.ordered in omega (arith, t)) k d within

-- what the equation of a name says is what stands at its place
pub expression_at : (es : List Equation) (k : ℕ) (d : Equation) → AllDifferent (map (λ (e : Equation). e.name) es) → k < length es
    → expression_of es (get_or es k d).name ≡ (get_or es k d).expr
expression_at [] k d different within = absurd (omega arith)
expression_at (e ∷ es) zero d different within = rw (same_name-itself e.name) refl
expression_at (e ∷ es) (suc k) d different within = by (is_same_name e.name (get_or es k d).name) refl (expression_at es k d different.1 (omega arith)) where
  names : (xs : List Equation) (j : ℕ) → j < length xs → In (get_or xs j d).name (map (λ (x : Equation). x.name) xs)
  names [] j w = absurd (omega arith)
  names (x ∷ xs) zero w = here
  names (x ∷ xs) (suc j) w = there (names xs j (omega arith))

  by : (b : Bool) → is_same_name e.name (get_or es k d).name ≡ b → expression_of es (get_or es k d).name ≡ (get_or es k d).expr
      → (if b then e.expr else expression_of es (get_or es k d).name) ≡ (get_or es k d).expr
  by true same rest = absurd (different.0 (subst (λ (n : Name). In n (map (λ (x : Equation). x.name) es)) (sym (same_name-true e.name (get_or es k d).name same)) (names es k (omega arith))))
  by false same rest = rest

different_right : (xs ys : List Name) → AllDifferent (xs ++ ys) → AllDifferent ys
different_right [] ys h = h
different_right (x ∷ xs) ys h = different_right xs ys h.1

pub equations_differ : (m : Machine) → IsChecked m → AllDifferent (equation_names m)
equations_differ m checked = different_right (held_names m) (equation_names m) (subst AllDifferent checked.ordered.vars checked.ordered.different)

-- ---- two equations of one name

pub freed_itself : (e : Expression) → AreFreed e e
freed_itself (constant b) = inl refl
freed_itself (variable k) = refl
freed_itself (inverse e) = refl
freed_itself (pair g a b) = refl
freed_itself (choice c a b) = (a, b, refl, (freed_itself a, freed_itself b))

module _ (low high : Machine) (cl : IsChecked low) (ch : IsChecked high) (free : AreFree low high) (es fs : List EquationParts)
    (el : map equation_view es ≡ low.equations) (eh : map equation_view fs ≡ high.equations) where
  pub as_long : length fs ≡ length es
  as_long =
      sym (length-map fs equation_view) ∙ ap (λ (l : List Equation). length l) eh ∙ zip_long (MayDiffer low) low.equations high.equations free.equations
      ∙ sym (ap (λ (l : List Equation). length l) el) ∙ length-map es equation_view

  module _ (k : ℕ) (e f : EquationParts) (within : k < length es) (is_e : e ≡ get_or es k e) (is_f : f ≡ get_or fs k f) where
    inside : k < length low.equations
    inside = let l : length low.equations ≡ length es = sym (ap (λ (l : List Equation). length l) el) ∙ length-map es equation_view in omega (arith, within, l)

    inside_high : k < length high.equations
    inside_high = let l = zip_long (MayDiffer low) low.equations high.equations free.equations in let i = inside in omega (arith, i, l)

    pub e_is : get_or low.equations k (equation_view e) ≡ equation_view e
    e_is = ap (λ (l : List Equation). get_or l k (equation_view e)) (sym el) ∙ map_at equation_view es k e within is_e

    pub f_is : get_or high.equations k (equation_view f) ≡ equation_view f
    f_is = ap (λ (l : List Equation). get_or l k (equation_view f)) (sym eh) ∙ map_at equation_view fs k f (let l = as_long in omega (arith, within, l)) is_f

    pub may_differ : MayDiffer low (equation_view e) (equation_view f)
    may_differ = subst (λ (x : Equation). MayDiffer low x (equation_view f)) e_is
        (subst (λ (y : Equation). MayDiffer low (get_or low.equations k (equation_view e)) y) f_is
        (zip_at (MayDiffer low) low.equations high.equations k (equation_view e) (equation_view f) free.equations inside))

    pub e_over : IsOver (equation_view e).expr (length low.vars)
    e_over = subst (λ (x : Equation). IsOver x.expr (length low.vars)) e_is (machine_over low cl k (equation_view e) inside)

    pub f_over : IsOver (equation_view f).expr (length low.vars)
    f_over = subst (λ (n : ℕ). IsOver (equation_view f).expr n) (ap (λ (l : List Name). length l) free.vars)
        (subst (λ (x : Equation). IsOver x.expr (length high.vars)) f_is (machine_over high ch k (equation_view f) inside_high))

    pub are_freed : AreFreed (equation_view e).expr (equation_view f).expr
    are_freed = elim may_differ.1 [
      | inl same ↦ subst (λ (x : Expression). AreFreed (equation_view e).expr x) (sym same) (freed_itself (equation_view e).expr)
      | inr out ↦ out.freed
    ]

    pub e_said : expression_of low.equations (equation_view e).name ≡ (equation_view e).expr
    e_said = subst (λ (x : Equation). expression_of low.equations x.name ≡ x.expr) e_is (expression_at low.equations k (equation_view e) (equations_differ low cl) inside)

    pub f_said : expression_of high.equations (equation_view e).name ≡ (equation_view f).expr
    f_said = ap (expression_of high.equations) (sym may_differ.0)
        ∙ subst (λ (x : Equation). expression_of high.equations x.name ≡ x.expr) f_is (expression_at high.equations k (equation_view f) (equations_differ high ch) inside_high)

    -- a free output is within the budget
    pub e_within : (budget : ℕ) → All (λ n. IsOverBoth low high budget n → ⊥) (outputs low) → ((equation_view f).expr ≡ (equation_view e).expr → ⊥)
        → IsOverBudget (joint_lists low low (equation_view e).expr (equation_view f).expr) budget → ⊥
    e_within budget all apart over = elim may_differ.1 [
      | inl same ↦ apart same
      | inr out ↦ each_name (outputs low) (λ n. IsOverBoth low high budget n → ⊥) (equation_view e).name out.output all
          (subst (λ (x : Expression). IsOverBudget (joint_lists low low x (expression_of high.equations (equation_view e).name)) budget) (sym e_said)
          (subst (λ (x : Expression). IsOverBudget (joint_lists low low (equation_view e).expr x) budget) (sym f_said) over))
    ]

    -- one more equation is chosen
    pub chosen_more : (made : List EquationParts) (g : EquationParts) → AreChosen low (take k low.equations) (take k high.equations) (map equation_view made)
        → (equation_view g).name ≡ (equation_view e).name → IsChoice low (equation_view e).expr (equation_view f).expr (equation_view g).expr
        → AreChosen low (take (k + 1) low.equations) (take (k + 1) high.equations) (map equation_view (made ++ g ∷ []))
    chosen_more made g before named is =
        let a : take (k + 1) low.equations ≡ take k low.equations ++ equation_view e ∷ [] =
        take_more low.equations k (equation_view e) inside ∙ ap (λ (x : Equation). take k low.equations ++ x ∷ []) e_is in
        let b : take (k + 1) high.equations ≡ take k high.equations ++ equation_view f ∷ [] =
        take_more high.equations k (equation_view f) inside_high ∙ ap (λ (x : Equation). take k high.equations ++ x ∷ []) f_is in
        let c : map equation_view (made ++ g ∷ []) ≡ map equation_view made ++ equation_view g ∷ [] = map_last made g in
        subst (λ (l : List Equation). AreChosen low (take (k + 1) low.equations) (take (k + 1) high.equations) l) (sym c)
        (subst (λ (l : List Equation). AreChosen low (take (k + 1) low.equations) l (map equation_view made ++ equation_view g ∷ [])) (sym b)
        (subst (λ (l : List Equation). AreChosen low l (take k high.equations ++ equation_view f ∷ []) (map equation_view made ++ equation_view g ∷ [])) (sym a)
        (pushed (take k low.equations) (take k high.equations) (map equation_view made) (equation_view e) (equation_view f) (equation_view g) before named is))) where
          map_last : (xs : List EquationParts) (x : EquationParts) → map equation_view (xs ++ x ∷ []) ≡ map equation_view xs ++ equation_view x ∷ []
          map_last [] x = refl
          map_last (y ∷ xs) x = ap (λ (l : List Equation). equation_view y ∷ l) (map_last xs x)

          pushed : (xs ys zs : List Equation) (x y z : Equation) → AreChosen low xs ys zs → z.name ≡ x.name → IsChoice low x.expr y.expr z.expr
              → AreChosen low (xs ++ x ∷ []) (ys ++ y ∷ []) (zs ++ z ∷ [])
          pushed [] [] [] x y z all n c = (n, (c, tt))
          pushed [] [] (z' ∷ zs) x y z all n c = absurd all
          pushed [] (y' ∷ ys) zs x y z all n c = absurd all
          pushed (x' ∷ xs) [] zs x y z all n c = absurd all
          pushed (x' ∷ xs) (y' ∷ ys) [] x y z all n c = absurd all
          pushed (x' ∷ xs) (y' ∷ ys) (z' ∷ zs) x y z all n c = (all.0, (all.1.0, pushed xs ys zs x y z all.1.1 n c))

  -- all equations are chosen
  pub chosen_all : (k : ℕ) (made : List EquationParts) → length es ≤ k → AreChosen low (take k low.equations) (take k high.equations) (map equation_view made)
      → AreChosen low low.equations high.equations (map equation_view made)
  chosen_all k made end all =
      let l : length low.equations ≡ length es = sym (ap (λ (l : List Equation). length l) el) ∙ length-map es equation_view in
      let h : length high.equations ≡ length low.equations = zip_long (MayDiffer low) low.equations high.equations free.equations in
      subst (λ (x : List Equation). AreChosen low x high.equations (map equation_view made)) (take_all k low.equations (omega (arith, end, l)))
      (subst (λ (x : List Equation). AreChosen low (take k low.equations) x (map equation_view made)) (take_all k high.equations (omega (arith, end, l, h))) all)
