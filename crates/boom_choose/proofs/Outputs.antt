-- Outputs whose budgets are looked at one after another.
use Rattle.std.proofs.Common.{◌≡◌, ◌⊎◌, inl, inr, ℕ, zero, suc, ◌+◌, ◌*◌, ◌<◌, ◌≤◌, Bool, true, false, List, [], ◌∷◌, ◌++◌, length, map, take, drop, get_or, replicate, slice_get, Option, Some, refl, sym, ap, subst, ◌∙◌, arith, length-append}
use Rattle.std.specs.Prelude.{is_some, IfSome}
use Rattle.std.specs.List.{All}
use Rattle.std.proofs.lemmas.List.{length-map, length-replicate, take_more, take_all}
use Rattle.std.proofs.lemmas.List.Elements.{All-push}
use Rattle.std.proofs.lemmas.Option.{slice_get_within, get_or_from_slice_get}
use Rattle.vlsi_base.specs.declared.name.Name.{Name}
use Rattle.bool_expr.specs.Expression.{Expression, IsOver}
use Rattle.bool_expr.specs.View.{view}
use Rattle.bdd_core.specs.Truths.{IsOver as IsOverBudget}
use Rattle.machine_core.specs.declared.equation.Equation.{Equation as EquationParts}
use Rattle.machine_core.specs.Machine.{Machine, Equation, outputs}
use Rattle.machine_core.specs.View.{equation_view}
use Rattle.machine_core.specs.Checked.{IsChecked}
use Rattle.machine_roots.specs.declared.listing.RootExpr.{RootExpr}
use Rattle.machine_roots.specs.Listing.{root_view, IsPlaced, AreRoots}
use Rattle.machine_roots.specs.Roots.{Root, expression_of, register_roots}
use Rattle.proof_joint.specs.Together.{joint_lists}
use Rattle.machine_free.specs.Free.{MayDiffer, AreFree}
use Rattle.boom_choose.specs.Choice.{IsOverBoth, IsFirstOver}
use Rattle.boom_choose.proofs.Listing.{map_at, zip_at, zip_long, machine_over, expression_at, equations_differ}

-- ---- lists in two parts

first_part : {A C : Type 0} (f : A → C) (xs : List A) (ys : List C) (i : ℕ) (x : A) (d : C) → i < length xs → get_or (map f xs ++ ys) i d ≡ f (get_or xs i x)
first_part f [] ys i x d within = absurd (omega arith)
first_part f (a ∷ xs) ys zero x d within = refl
first_part f (a ∷ xs) ys (suc i) x d within = first_part f xs ys i x d (omega arith)

marked_first : (n k i : ℕ) (d : Bool) → i < n → get_or (replicate n true ++ replicate k false) i d ≡ true
marked_first zero k i d within = absurd (omega arith)
marked_first (suc n) k zero d within = refl
marked_first (suc n) k (suc i) d within = marked_first n k i d (omega arith)

marked_last : (k i : ℕ) (d : Bool) → i < k → get_or (replicate k false) i d ≡ false
marked_last zero i d within = absurd (omega arith)
marked_last (suc k) zero d within = refl
marked_last (suc k) (suc i) d within = marked_last k i d (omega arith)

marked_behind : (n k i : ℕ) (d : Bool) → n ≤ i → i < n + k → get_or (replicate n true ++ replicate k false) i d ≡ false
marked_behind zero k i d from within = marked_last k i d (omega (arith, within))
marked_behind (suc n) k zero d from within = absurd (omega (arith, from))
marked_behind (suc n) k (suc i) d from within = marked_behind n k i d (omega (arith, from)) (omega (arith, within))

split_at : {A : Type 0} (xs : List A) (i : ℕ) (d : A) → i < length xs → xs ≡ take i xs ++ get_or xs i d ∷ drop (suc i) xs
split_at [] i d within = absurd (omega arith)
split_at (x ∷ xs) zero d within = refl
split_at (x ∷ xs) (suc i) d within = ap (λ l. x ∷ l) (split_at xs i d (omega arith))

below_or : (i n : ℕ) → (i < n) ⊎ (n ≤ i)
below_or i zero = inr (omega arith)
below_or zero (suc n) = inl (omega arith)
below_or (suc i) (suc n) = elim (below_or i n) [ inl h ↦ inl (omega (arith, h)) | inr h ↦ inr (omega (arith, h)) ]

-- ---- roots by their places

abbrev shown : Machine → Name → Root
shown m name = record { name = name; expr = expression_of m.equations name }

module _ (low : Machine) (listed : List RootExpr) (are : AreRoots low listed) where
  abbrev names : List Name
  names = outputs low

  long : length listed ≡ length names + 2 * length low.registers
  long =
      sym (length-map listed (λ (r : RootExpr). is_some r.equation)) ∙ ap length are.shown
      ∙ length-append (replicate (length names) true) (replicate (2 * length low.registers) false)
      ∙ (λ j. length-replicate (length names) true j + length-replicate (2 * length low.registers) false j)

  pub all_names : (i : ℕ) → length listed ≤ i → take i names ≡ names
  all_names i end = take_all i names (let l = long in omega (arith, end, l))

  module _ (i : ℕ) (r : RootExpr) (within : i < length listed) (is : r ≡ get_or listed i r) where
    mark : get_or (replicate (length names) true ++ replicate (2 * length low.registers) false) i (is_some r.equation) ≡ is_some r.equation
    mark = ap (λ (l : List Bool). get_or l i (is_some r.equation)) (sym are.shown) ∙ map_at (λ (r : RootExpr). is_some r.equation) listed i r within is

    pub shown_below : is_some r.equation ≡ true → i < length names
    shown_below some = elim (below_or i (length names)) [
      | inl h ↦ h
      | inr h ↦ absurd (let none : is_some r.equation ≡ false = sym mark ∙ marked_behind (length names) (2 * length low.registers) i (is_some r.equation) h (let l = long in omega (arith, within, l)) in cc (some, none))
    ]

    pub hidden_above : is_some r.equation ≡ false → length names ≤ i
    hidden_above none = elim (below_or i (length names)) [
      | inl h ↦ absurd (let some : is_some r.equation ≡ true = sym mark ∙ marked_first (length names) (2 * length low.registers) i (is_some r.equation) h in cc (some, none))
      | inr h ↦ h
    ]

    view_is : i < length names → root_view r ≡ shown low (get_or names i r.name.now)
    view_is h =
        sym (map_at root_view listed i r within is) ∙ ap (λ (l : List Root). get_or l i (root_view r)) are.all
        ∙ first_part (shown low) names (register_roots low.registers) i r.name.now (root_view r) h

    pub name_is : i < length names → get_or names i r.name.now ≡ r.name.now
    name_is h = sym (ap (λ (x : Root). x.name) (view_is h))

    pub low_said : i < length names → expression_of low.equations r.name.now ≡ view r.expr.now
    low_said h = ap (expression_of low.equations) (sym (name_is h)) ∙ sym (ap (λ (x : Root). x.expr) (view_is h))

    pub placed_at : (k : ℕ) → r.equation ≡ Some k → slice_get low.equations k ≡ Some (record { name = r.name.now; expr = view r.expr.now })
    placed_at k e =
        let p : IsPlaced low.equations r = subst (IsPlaced low.equations) (sym is) (are.placed i r within) in
        subst (λ (o : Option ℕ). IfSome o (λ k. slice_get low.equations k ≡ Some (record { name = r.name.now; expr = view r.expr.now }))) e p

    module _ (high : Machine) (cl : IsChecked low) (ch : IsChecked high) (free : AreFree low high) (fs : List EquationParts) (eh : map equation_view fs ≡ high.equations)
        (k : ℕ) (e : r.equation ≡ Some k) where
      d : Equation
      d = record { name = r.name.now; expr = view r.expr.now }

      inside : k < length low.equations
      inside = slice_get_within low.equations k (record { name = r.name.now; expr = view r.expr.now }) (placed_at k e)

      there_is : get_or low.equations k (record { name = r.name.now; expr = view r.expr.now }) ≡ record { name = r.name.now; expr = view r.expr.now }
      there_is = get_or_from_slice_get low.equations k (record { name = r.name.now; expr = view r.expr.now }) (record { name = r.name.now; expr = view r.expr.now }) (placed_at k e)

      long_high : length high.equations ≡ length low.equations
      long_high = zip_long (MayDiffer low) low.equations high.equations free.equations

      pub other_inside : k < length fs
      other_inside = let i = inside in let h = long_high in let l : length high.equations ≡ length fs = sym (ap length eh) ∙ length-map fs equation_view in omega (arith, i, h, l)

      pub root_over : IsOver (view r.expr.now) (length low.vars)
      root_over = subst (λ (x : Equation). IsOver x.expr (length low.vars)) there_is (machine_over low cl k (record { name = r.name.now; expr = view r.expr.now }) inside)

      module _ (f : EquationParts) (is_f : f ≡ get_or fs k f) where
        f_is : get_or high.equations k (equation_view f) ≡ equation_view f
        f_is = ap (λ (l : List Equation). get_or l k (equation_view f)) (sym eh) ∙ map_at equation_view fs k f other_inside is_f

        inside_high : k < length high.equations
        inside_high = let i = inside in let h = long_high in omega (arith, i, h)

        pub other_over : IsOver (view f.expr) (length low.vars)
        other_over = subst (λ (n : ℕ). IsOver (view f.expr) n) (ap (λ (l : List Name). length l) free.vars)
            (subst (λ (x : Equation). IsOver x.expr (length high.vars)) f_is (machine_over high ch k (equation_view f) inside_high))

        same_name : f.name ≡ r.name.now
        same_name =
            let m : MayDiffer low (get_or low.equations k (record { name = r.name.now; expr = view r.expr.now })) (get_or high.equations k (equation_view f)) =
            zip_at (MayDiffer low) low.equations high.equations k (record { name = r.name.now; expr = view r.expr.now }) (equation_view f) free.equations inside in
            ap (λ (x : Equation). x.name) (sym f_is) ∙ m.0 ∙ ap (λ (x : Equation). x.name) there_is

        high_said : expression_of high.equations r.name.now ≡ view f.expr
        high_said = ap (expression_of high.equations) (sym same_name)
            ∙ subst (λ (x : Equation). expression_of high.equations x.name ≡ x.expr) f_is (expression_at high.equations k (equation_view f) (equations_differ high ch) inside_high)

        module _ (budget : ℕ) where
          below : i < length names
          below = shown_below (ap is_some e)

          over_is : IsOverBudget (joint_lists low low (view r.expr.now) (view f.expr)) budget → IsOverBoth low high budget r.name.now
          over_is over = subst (λ (x : Expression). IsOverBudget (joint_lists low low x (expression_of high.equations r.name.now)) budget) (sym (low_said below))
              (subst (λ (x : Expression). IsOverBudget (joint_lists low low (view r.expr.now) x) budget) (sym high_said) over)

          is_over : IsOverBoth low high budget r.name.now → IsOverBudget (joint_lists low low (view r.expr.now) (view f.expr)) budget
          is_over over = subst (λ (x : Expression). IsOverBudget (joint_lists low low (view r.expr.now) x) budget) high_said
              (subst (λ (x : Expression). IsOverBudget (joint_lists low low x (expression_of high.equations r.name.now)) budget) (low_said below) over)

          pub within_more : (IsOverBudget (joint_lists low low (view r.expr.now) (view f.expr)) budget → ⊥)
              → All (λ n. IsOverBoth low high budget n → ⊥) (take i names) → All (λ n. IsOverBoth low high budget n → ⊥) (take (i + 1) names)
          within_more not all = subst (λ (l : List Name). All (λ n. IsOverBoth low high budget n → ⊥) l)
              (sym (take_more names i r.name.now below ∙ ap (λ (n : Name). take i names ++ n ∷ []) (name_is below)))
              (All-push (λ n. IsOverBoth low high budget n → ⊥) (take i names) r.name.now all (λ over. not (is_over over)))

          pub over_here : IsOverBudget (joint_lists low low (view r.expr.now) (view f.expr)) budget → All (λ n. IsOverBoth low high budget n → ⊥) (take i names)
              → IsFirstOver low high budget r.name.now
          over_here over all = record {
            before = take i names;
            after = drop (suc i) names;
            all = split_at names i r.name.now below ∙ ap (λ (n : Name). take i names ++ n ∷ drop (suc i) names) (name_is below);
            over = over_is over;
            first = all;
          }

    pub within_still : (P : Name → Type 0) → is_some r.equation ≡ false → All P (take i names) → All P (take (i + 1) names)
    within_still P none all =
        let h = hidden_above none in
        subst (All P) (take_all i names h ∙ sym (take_all (i + 1) names (omega (arith, h)))) all
