-- The roots of two machines of one text, place by place.
use Rattle.std.proofs.Common.{ℕ, suc, List, [], ◌∷◌, ◌++◌, map, length, refl, sym, subst, arith}
use Rattle.std.specs.List.{All, AllZip}
use Rattle.std.proofs.lemmas.List.Elements.{All-nil, All-cons}
use Rattle.vlsi_base.specs.declared.name.Name.{Name}
use Rattle.vlsi_base.specs.Member.{In, here, there}
use Rattle.bool_expr.specs.Expression.{Expression, variables, IsOver}
use Rattle.bool_expr.specs.Support.{first_meetings}
use Rattle.bdd_core.specs.Truths.{IsCountOf, IsOver as IsLarge}
use Rattle.machine_core.specs.Machine.{Machine, Register, outputs}
use Rattle.machine_core.proofs.Values.{In-map}
use Rattle.source_checks.specs.Elaboration.{Storage}
use Rattle.vlsi_model.proofs.Sorting.{place_of_In}
use Rattle.machine_walk.specs.Expansion.{subexpressions}
use Rattle.machine_roots.specs.Roots.{Root, expression_of, register_roots, roots, list_by, IsDcount, IsDag, IsOverBudget, IsGreatestDcount}
use Rattle.vbe_roots.specs.Law.{HaveOneExpansion}
use Rattle.vbe_roots.proofs.Readings.{register_over, AreOfOne}
use Rattle.vbe_roots.proofs.Meanings.{formula_means, outputs_same, output_means}

-- ---- lists beside lists

zip_append : {A B : Type 0} (R : A → B → Type 0) (xs us : List A) (ys vs : List B) → AllZip R xs ys → AllZip R us vs → AllZip R (xs ++ us) (ys ++ vs)
zip_append R [] us [] vs p q = q
zip_append R [] us (y ∷ ys) vs p q = absurd p
zip_append R (x ∷ xs) us [] vs p q = absurd p
zip_append R (x ∷ xs) us (y ∷ ys) vs p q = (p.0, zip_append R xs us ys vs p.1 q)

-- what holds beside one list holds beside another one, where it goes over from each item to the other one
zip_over : {A B : Type 0} (S : A → A → Type 0) (P Q : A → B → Type 0) → ((x y : A) → S x y → (b : B) → P x b → Q y b)
    → (xs ys : List A) (bs : List B) → AllZip S xs ys → AllZip P xs bs → AllZip Q ys bs
zip_over S P Q f [] [] [] s p = tt
zip_over S P Q f [] [] (b ∷ bs) s p = absurd p
zip_over S P Q f [] (y ∷ ys) bs s p = absurd s
zip_over S P Q f (x ∷ xs) [] bs s p = absurd s
zip_over S P Q f (x ∷ xs) (y ∷ ys) [] s p = absurd p
zip_over S P Q f (x ∷ xs) (y ∷ ys) (b ∷ bs) s p = (f x y s.0 b p.0, zip_over S P Q f xs ys bs s.1 p.1)

-- what holds of each item of one list holds of each of another one, where it goes over from each item to the other one
all_over : {A : Type 0} (S : A → A → Type 0) (P Q : A → Type 0) → ((x y : A) → S x y → P x → Q y) → (xs ys : List A) → AllZip S xs ys → All P xs → All Q ys
all_over S P Q f [] [] s p = All-nil Q
all_over S P Q f [] (y ∷ ys) s p = absurd s
all_over S P Q f (x ∷ xs) [] s p = absurd s
all_over S P Q f (x ∷ xs) (y ∷ ys) s p = All-cons Q y ys (f x y s.0 (p 0 x (omega arith))) (all_over S P Q f xs ys s.1 (λ k d h. p (suc k) d (omega arith)))

all_in : {A : Type 0} (P : A → Type 0) (xs : List A) → All P xs → (x : A) → In x xs → P x
all_in P xs all x h = let r = place_of_In xs x h in let l = r.1 in subst P (r.2 x) (all r.0 x l)

-- ---- roots

abbrev output_root : Machine → Name → Root
output_root m n = record { name = n; expr = expression_of m.equations n }

module _ (m k : Machine) (one : AreOfOne m k) where
  output_roots : (ns : List Name) → ((n : Name) → In n ns → In n (outputs m))
      → AllZip (HaveOneExpansion m k) (map (output_root m) ns) (map (output_root k) ns)
  output_roots [] inside = tt
  output_roots (n ∷ ns) inside = ((refl, output_means m k one n (inside n here)), output_roots ns (λ x i. inside x (there i)))

  -- what a register loads reads the machine's names
  abbrev Loads : Register → Type 0
  Loads r = IsOver r.next (length m.vars) × IsOver r.enable (length m.vars)

  loads : (s : Storage) → In s one.kept → Loads (register_over m.vars s)
  loads s i =
      all_in Loads (map (register_over m.vars) one.kept) (subst (λ (rs : List Register). All Loads rs) one.registers one.first.loads)
      (register_over m.vars s) (In-map (register_over m.vars) s one.kept i)

  loaded_roots : (rs : List Storage) → ((s : Storage) → In s rs → In s one.kept)
      → AllZip (HaveOneExpansion m k) (register_roots (map (register_over m.vars) rs)) (register_roots (map (register_over k.vars) rs))
  loaded_roots [] inside = tt
  loaded_roots (s ∷ rs) inside =
      let over = loads s (inside s here) in
      ((refl, formula_means m k one s.next over.0), ((refl, formula_means m k one s.enable over.1), loaded_roots rs (λ x i. inside x (there i))))

  pub same_roots : AllZip (HaveOneExpansion m k) (roots m) (roots k)
  same_roots =
      zip_append (HaveOneExpansion m k) (map (output_root m) (outputs m)) (register_roots m.registers) (map (output_root k) (outputs k))
      (register_roots k.registers)
      (subst (λ (ns : List Name). AllZip (HaveOneExpansion m k) (map (output_root m) (outputs m)) (map (output_root k) ns)) (outputs_same m k one)
      (output_roots (outputs m) (λ n i. i)))
      (subst (λ (rs : List Register). AllZip (HaveOneExpansion m k) (register_roots rs) (register_roots k.registers)) (sym one.registers)
      (subst (λ (rs : List Register). AllZip (HaveOneExpansion m k) (register_roots (map (register_over m.vars) one.kept)) (register_roots rs))
      (sym one.other_registers) (loaded_roots one.kept (λ s i. i))))

  -- ---- their diagrams are those of the expansions

  same_dag : (r q : Root) → HaveOneExpansion m k r q → (n : ℕ) → IsDag m r n → IsDag k q n
  same_dag r q same n h = subst (λ (x : Expression). IsCountOf (list_by (first_meetings (variables x)) x ∷ []) n) same.1 h

  same_dcount : (r q : Root) → HaveOneExpansion m k r q → (n : ℕ) → IsDcount m r n → IsDcount k q n
  same_dcount r q same n h = subst (λ (x : Expression). IsCountOf (map (list_by (first_meetings (variables x))) (subexpressions x)) n) same.1 h

  pub same_dags : (dags : List ℕ) → AllZip (IsDag m) (roots m) dags → AllZip (IsDag k) (roots k) dags
  same_dags dags each = zip_over (HaveOneExpansion m k) (IsDag m) (IsDag k) same_dag (roots m) (roots k) dags same_roots each

  pub same_greatest : (n : ℕ) → IsGreatestDcount m n → IsGreatestDcount k n
  same_greatest n g = record {
    counts = g.counts;
    each = zip_over (HaveOneExpansion m k) (IsDcount m) (IsDcount k) same_dcount (roots m) (roots k) g.counts same_roots g.each;
    greatest = g.greatest;
  }

  same_over : (budget : ℕ) (r q : Root) → HaveOneExpansion m k r q → (IsOverBudget m budget r → ⊥) → IsOverBudget k budget q → ⊥
  same_over budget r q same none h =
      none (subst (λ (x : Expression). IsLarge (map (list_by (first_meetings (variables x))) (subexpressions x)) budget) (sym same.1) h)

  pub same_within : (budget : ℕ) → All (λ r. IsOverBudget m budget r → ⊥) (roots m) → All (λ r. IsOverBudget k budget r → ⊥) (roots k)
  same_within budget all =
      all_over (HaveOneExpansion m k) (λ r. IsOverBudget m budget r → ⊥) (λ r. IsOverBudget k budget r → ⊥) (same_over budget) (roots m) (roots k) same_roots all
