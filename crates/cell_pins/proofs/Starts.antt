-- The inputs stand first among a machine's names, and the marks that are put first.
use Rattle.std.proofs.Common.{◌≡◌, ℕ, ◌<◌, ◌≤◌, Bool, true, false, ◌||◌, List, [], ◌∷◌, ◌++◌, map, length, take, refl, sym, ◌∙◌, ap, subst, arith, append_assoc, length-append, if◌then◌else◌}
use Rattle.std.specs.List.{list_any, slice_index_or}
use Rattle.std.specs.Prelude.{◌==◌}
use Rattle.std.proofs.Math.Seq.{take-append_seam}
use Rattle.std.specs.Prelude.{◌↔◌}
use Rattle.std.proofs.lemmas.Bool.Decides.{nat_tests}
use Rattle.std.proofs.lemmas.List.Folds.{list_any-append, list_any_at}
use Rattle.bool_expr.specs.Expression.{Expression, variables, IsOver}
use Rattle.machine_core.proofs.Known.{IsOver-In}
use Rattle.machine_core.proofs.Names.{same_name-itself, same_name-false}
use Rattle.cell_pins.proofs.Marked.{any_member}
use Rattle.vlsi_base.specs.declared.name.Name.{Name}
use Rattle.bool_expr.specs.Support.{among, first_meetings, meetings_after}
use Rattle.machine_core.specs.declared.equation.Register.{Register as RegisterParts}
use Rattle.machine_core.specs.Machine.{Machine, Register, inputs, register_names}
use Rattle.machine_core.specs.Named.{is_same_name}
use Rattle.machine_core.specs.Checked.{IsChecked}
use Rattle.machine_core.specs.Order.{equation_names}
use Rattle.machine_core.specs.View.{register_view}
use Rattle.cell_pins.specs.Marks.{starts}

vars_split : (m : Machine) → IsChecked m → m.vars ≡ inputs m ++ (register_names m ++ equation_names m)
vars_split m c = c.ordered.vars ∙ append_assoc (inputs m) (register_names m) (equation_names m)

pub inputs_first : (m : Machine) → IsChecked m → take (length (inputs m)) m.vars ≡ inputs m
inputs_first m c = rw (vars_split m c) (take-append_seam (inputs m) (register_names m ++ equation_names m))

pub inputs_fit : (m : Machine) → IsChecked m → length (inputs m) ≤ length m.vars
inputs_fit m c = rw (vars_split m c) (omega (arith, length-append (inputs m) (register_names m ++ equation_names m)))

no_marks : (rs : List RegisterParts) → map (λ r. false) rs ≡ map (λ r. false) (map register_view rs)
no_marks [] = refl
no_marks (r ∷ rs) = ap (λ (bs : List Bool). false ∷ bs) (no_marks rs)

pub started : (m : Machine) (input : Name) (vars : List Name) (count : ℕ) (rs : List RegisterParts) → IsChecked m → vars ≡ m.vars → count ≡ length (inputs m)
    → map register_view rs ≡ m.registers
    → map (λ name. is_same_name name input) (take count vars) ++ map (λ r. false) rs ≡ starts m input
started m input vars count rs c is size regs =
    ap (λ (ns : List Name). map (λ name. is_same_name name input) ns ++ map (λ r. false) rs) (ap (λ (ns : List Name). take count ns) is ∙ ap (λ n. take n m.vars) size ∙ inputs_first m c)
    ∙ ap (λ (bs : List Bool). map (λ name. is_same_name name input) (inputs m) ++ bs) (no_marks rs ∙ ap (λ (xs : List Register). map (λ r. false) xs) regs)

-- ---- variables that are met once each

seen_is_false : (p : ℕ → Bool) (x : ℕ) (seen : List ℕ) → among x seen ≡ true → list_any p seen ≡ false → p x ≡ true → ⊥
seen_is_false p x [] e h t = absurd cc
seen_is_false p x (y ∷ seen) e h t = by (y == x) refl e (p y) refl h (λ a b. seen_is_false p x seen a b t) where
  by : (b : Bool) → (y == x) ≡ b → (b || among x seen) ≡ true → (c : Bool) → p y ≡ c → (c || list_any p seen) ≡ false
      → (among x seen ≡ true → list_any p seen ≡ false → ⊥) → ⊥
  by b is e true at h later = absurd cc
  by true is e false at h later = let same : y ≡ x = grind (arith, nat_tests) in let no : p y ≡ true = ap p same ∙ t in absurd cc
  by false is e false at h later = later e h

any_after : (p : ℕ → Bool) (seen xs : List ℕ) → list_any p seen ≡ false → list_any p (meetings_after seen xs) ≡ list_any p xs
any_after p seen [] h = refl
any_after p seen (x ∷ xs) h = by (among x seen) refl (p x) refl (any_after p seen xs h) (λ g. any_after p (seen ++ x ∷ []) xs g) where
  by : (b : Bool) → among x seen ≡ b → (c : Bool) → p x ≡ c → list_any p (meetings_after seen xs) ≡ list_any p xs
      → (list_any p (seen ++ x ∷ []) ≡ false → list_any p (meetings_after (seen ++ x ∷ []) xs) ≡ list_any p xs)
      → list_any p (if b then meetings_after seen xs else x ∷ meetings_after (seen ++ x ∷ []) xs) ≡ (p x || list_any p xs)
  by true is true at same later = absurd (seen_is_false p x seen is h at)
  by true is false at same later = rw at same
  by false is true at same later = rw at refl
  by false is false at same later = rw at (later (list_any-append p seen (x ∷ []) ∙ rw (h, at) refl))

pub any_met : (p : ℕ → Bool) (xs : List ℕ) → list_any p (first_meetings xs) ≡ list_any p xs
any_met p xs = any_after p [] xs refl

-- ---- of one variable, and of one name

pub met_low : (e : Expression) (n : ℕ) (vars : List ℕ) (i : ℕ) → IsOver e n → vars ≡ first_meetings (variables e) → i < length vars → slice_index_or vars i 0 < n
met_low e n vars i over is h =
    let k : ℕ = slice_index_or vars i 0 in
    let found : list_any (λ x. x == k) vars ≡ true = list_any_at (λ x. x == k) vars i 0 h (let t : (k == k) ≡ true = grind (arith, nat_tests) in t) in
    let r = any_member (λ x. x == k) (variables e) (sym (any_met (λ x. x == k) (variables e)) ∙ ap (list_any (λ x. x == k)) (sym is) ∙ found) in
    let same : r.0 ≡ k = (let t : (r.0 == k) ≡ true = r.2 in grind (arith, nat_tests)) in
    subst (λ x. x < n) same (IsOver-In e n over r.0 r.1)

pub same_test : (a b : Name) (r : Bool) → ((r ≡ true) ↔ (a ≡ b)) → r ≡ is_same_name a b
same_test a b true h = sym (ap (is_same_name a) (sym (h.0 refl)) ∙ same_name-itself a)
same_test a b false h = sym (same_name-false a b (λ e. let t : false ≡ true = h.1 e in absurd cc))
