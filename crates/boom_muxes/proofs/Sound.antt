-- A machine that is made anew of choices passes its checks.
use Rattle.std.proofs.Common.{◌≡◌, ℕ, zero, suc, ◌+◌, ◌*◌, ◌<◌, ◌≤◌, Bool, true, false, List, [], ◌∷◌, ◌++◌, length, map, Option, None, Some, refl, sym, ap, subst, ◌∙◌, arith, length-append, if◌then◌else◌}
use Rattle.std.specs.Prelude.{nat_lt, slice_index, IfSome}
use Rattle.std.specs.List.{All, slice_index_or}
use Rattle.std.proofs.lemmas.List.{length-map, get_or_past}
use Rattle.vlsi_base.specs.declared.name.Name.{Name}
use Rattle.vlsi_base.specs.Range.{rising}
use Rattle.bool_expr.specs.Expression.{Expression, constant, variable, inverse, pair, choice, size_of, IsOver}
use Rattle.bool_expr.specs.Renumbering.{renumbered}
use Rattle.machine_core.specs.Machine.{Machine, Equation, Register, inputs, outputs, register_names}
use Rattle.machine_core.specs.Order.{held_names, equation_names, EachReadsBelow, IsOrdered}
use Rattle.machine_core.specs.Checked.{IsChecked}
use Rattle.machine_walk.specs.Expansion.{held_count}
use Rattle.boom_literal.specs.declared.literal.Literal.{Literal}
use Rattle.boom_literal.specs.declared.literal.Literal.TheVariants.{Constant, Name as AName}
use Rattle.boom_muxes.specs.declared.mux.Mux.{Mux}
use Rattle.boom_muxes.specs.declared.plan.Plan.{Plan}
use Rattle.boom_literal.specs.Literals.{literal_expression, said}
use Rattle.boom_muxes.specs.Muxes.{IsLiteralBelow}
use Rattle.boom_muxes.specs.Names.{new_names}
use Rattle.boom_muxes.specs.Anew.{IsAnew}
use Rattle.boom_muxes.specs.Building.{numbers_behind, literal_for, load_for, or_zero, equations_said, registers_said, mux_equations, IsPlanFor, MayBeBuilt, IsBuilt}
use Rattle.boom_muxes.proofs.Weighing.{muxes_below}
use Rattle.boom_muxes.proofs.Numbered.{index-rising}
use Rattle.boom_muxes.proofs.Anew as anew

-- ---- the names

pub names_said : (numbers : List ℕ) (plan : Option Plan) (k : ℕ) (es : List Equation) → map (λ (e : Equation). e.name) (equations_said numbers plan k es) ≡ map (λ (e : Equation). e.name) es
names_said numbers plan k [] = refl
names_said numbers plan k (e ∷ es) = ap (λ (l : List Name). e.name ∷ l) (names_said numbers plan (suc k) es)

pub registers_same : (numbers : List ℕ) (plan : Option Plan) (k : ℕ) (rs : List Register) → map (λ (r : Register). r.name) (registers_said numbers plan k rs) ≡ map (λ (r : Register). r.name) rs
registers_same numbers plan k [] = refl
registers_same numbers plan k (r ∷ rs) = ap (λ (l : List Name). r.name ∷ l) (registers_same numbers plan (suc k) rs)

pub names_new : (text : List ℕ) (k : ℕ) (xs : List Mux) → map (λ (e : Equation). e.name) (mux_equations text k xs) ≡ map (λ (j : ℕ). record { text = text; bit = Some j }) (rising k (length xs))
names_new text k [] = refl
names_new text k (x ∷ xs) =
    ap (λ (l : List Name). record { text = text; bit = Some k } ∷ l)
    (names_new text (suc k) xs ∙ ap (λ (j : ℕ). map (λ (i : ℕ). record { text = text; bit = Some i }) (rising j (length xs))) (let e : suc k ≡ k + 1 = omega arith in e))

map_append : {A B : Type 0} (f : A → B) (xs ys : List A) → map f (xs ++ ys) ≡ map f xs ++ map f ys
map_append f [] ys = refl
map_append f (x ∷ xs) ys = ap (λ (l : List _). f x ∷ l) (map_append f xs ys)

-- ---- what is read

-- the new number of a name that stands among the first ones, and of a later one
pub number_at : (held count total k : ℕ) → k < total → slice_index (numbers_behind held count total) k ≡ (if nat_lt k held then k else k + count)
number_at held count total k less =
    index-rising (λ (x : ℕ). if nat_lt x held then x else x + count) 0 total k less ∙ ap (λ (x : ℕ). if nat_lt x held then x else x + count) (let e : 0 + k ≡ k = omega arith in e)

behind_below : (held count k n : ℕ) → held ≤ n → k < n → (if nat_lt k held then k else k + count) < n + count
behind_below held count k n first less = by (nat_lt k held) where
  by : (b : Bool) → (if b then k else k + count) < n + count
  by true = omega (arith, less)
  by false = omega (arith, less)

pub over_renumbered : (held count total n : ℕ) (e : Expression) → held ≤ n → n ≤ total → IsOver e n → IsOver (renumbered (numbers_behind held count total) e) (n + count)
over_renumbered held count total n (constant b) first less h = tt
over_renumbered held count total n (variable k) first less h =
    subst (λ (x : ℕ). x < n + count) (sym (number_at held count total k (omega (arith, h, less)))) (behind_below held count k n first h)
over_renumbered held count total n (inverse e) first less h = over_renumbered held count total n e first less h
over_renumbered held count total n (pair g a b) first less h = (over_renumbered held count total n a first less h.0, over_renumbered held count total n b first less h.1)
over_renumbered held count total n (choice c a b) first less h = (
  over_renumbered held count total n c first less h.0,
  (over_renumbered held count total n a first less h.1.0, over_renumbered held count total n b first less h.1.1),
)

-- a literal of inputs, registers and choices, or none
abbrev pub IsLow : ℕ → Option Literal → Type 0
IsLow n None = Unit {0}
IsLow n (Some l) = IsLiteralBelow n l

over_literal : (l : Literal) (n k : ℕ) → n ≤ k → IsLiteralBelow n l → IsOver (literal_expression l) k
over_literal (Constant b) n k less h = tt
over_literal (AName x) n k less h = omega (arith, h, less)

pub over_said : (held count total n : ℕ) (l : Option Literal) (e : Expression) → held ≤ n → n ≤ total → IsLow (held + count) l → IsOver e n
    → IsOver (said (numbers_behind held count total) l e) (n + count)
over_said held count total n None e first less low h = over_renumbered held count total n e first less h
over_said held count total n (Some l) e first less low h = by (nat_lt 0 (size_of e)) where
  by : (b : Bool) → IsOver (if b then literal_expression l else renumbered (numbers_behind held count total) e) (n + count)
  by true = over_literal l (held + count) (n + count) (omega (arith, first)) low
  by false = over_renumbered held count total n e first less h

pub said_below : (held count total n k : ℕ) (plan : Option Plan) (es : List Equation) → held ≤ n → n + length es ≤ total → ((j : ℕ) → IsLow (held + count) (literal_for plan j)) → EachReadsBelow n es
    → EachReadsBelow (n + count) (equations_said (numbers_behind held count total) plan k es)
said_below held count total n k plan [] first room low reads = tt
said_below held count total n k plan (e ∷ es) first room low reads = (
  over_said held count total n (literal_for plan k) e.expr first (omega (arith, room)) (low k) reads.0,
  subst (λ (m : ℕ). EachReadsBelow m (equations_said (numbers_behind held count total) plan (suc k) es)) (let e : n + 1 + count ≡ n + count + 1 = omega arith in e)
      (said_below held count total (n + 1) (suc k) plan es (omega (arith, first)) (omega (arith, room)) low reads.1),
)

pub reads_append : (n : ℕ) (xs ys : List Equation) → EachReadsBelow n xs → EachReadsBelow (n + length xs) ys → EachReadsBelow n (xs ++ ys)
reads_append n [] ys a b = subst (λ (k : ℕ). EachReadsBelow k ys) (let e : n + 0 ≡ n = omega arith in e) b
reads_append n (x ∷ xs) ys a b = (
  a.0,
  reads_append (n + 1) xs ys a.1 (subst (λ (k : ℕ). EachReadsBelow k ys) (let e : n + suc (length xs) ≡ n + 1 + length xs = omega arith in e) b),
)

pub length-mux_equations : (text : List ℕ) (k : ℕ) (xs : List Mux) → length (mux_equations text k xs) ≡ length xs
length-mux_equations text k [] = refl
length-mux_equations text k (x ∷ xs) = let a = length-mux_equations text (suc k) xs in omega (arith, a)

-- what registers load
abbrev pub LoadsBelow : ℕ → List Register → Type 0
LoadsBelow n [] = Unit {0}
LoadsBelow n (r ∷ rs) = (IsOver r.next n × IsOver r.enable n) × LoadsBelow n rs

pub loads_from : (n : ℕ) (rs : List Register) → All (λ (r : Register). IsOver r.next n × IsOver r.enable n) rs → LoadsBelow n rs
loads_from n [] all = tt
loads_from n (r ∷ rs) all = (all 0 r (omega arith), loads_from n rs (λ k d h. all (suc k) d (omega arith)))

pub loads_to : (n : ℕ) (rs : List Register) → LoadsBelow n rs → All (λ (r : Register). IsOver r.next n × IsOver r.enable n) rs
loads_to n [] all k d h = absurd (omega arith)
loads_to n (r ∷ rs) all zero d h = all.0
loads_to n (r ∷ rs) all (suc k) d h = loads_to n rs all.1 k d (omega arith)

pub loads_said : (held count total k : ℕ) (plan : Option Plan) (rs : List Register) → held ≤ total → ((j : ℕ) → IsLow (held + count) (load_for plan j)) → LoadsBelow total rs
    → LoadsBelow (total + count) (registers_said (numbers_behind held count total) plan k rs)
loads_said held count total k plan [] first low all = tt
loads_said held count total k plan (r ∷ rs) first low all = (
  (
    over_said held count total total (load_for plan (2 * k)) r.next first (omega arith) (low (2 * k)) all.0.0,
    over_said held count total total (load_for plan (2 * k + 1)) r.enable first (omega arith) (low (2 * k + 1)) all.0.1,
  ),
  loads_said held count total (suc k) plan rs first low all.1,
)

-- ---- what a plan says

pub plan_low : (m : Machine) (muxes : List Mux) (plan : Option Plan) → IfSome plan (λ p. IsPlanFor m muxes p) → (k : ℕ) → IsLow (held_count m + length muxes) (literal_for plan k)
plan_low m muxes None planned k = tt
plan_low m muxes (Some p) planned k = by (slice_index_or p.equations.items k None) refl where
  by : (o : Option Literal) → slice_index_or p.equations.items k None ≡ o → IsLow (held_count m + length muxes) (or_zero o)
  by None e = tt
  by (Some l) e = planned.below k l e

pub plan_loads_low : (m : Machine) (muxes : List Mux) (plan : Option Plan) → IfSome plan (λ p. IsPlanFor m muxes p) → (k : ℕ) → IsLow (held_count m + length muxes) (load_for plan k)
plan_loads_low m muxes None planned k = tt
plan_loads_low m muxes (Some p) planned k = by (nat_lt k (length p.loads.items)) refl where
  by : (b : Bool) → nat_lt k (length p.loads.items) ≡ b → IsLiteralBelow (held_count m + length muxes) (slice_index_or p.loads.items k (Constant false))
  by true t = planned.loads_below k (search (arith, t))
  by false t =
      let past : length p.loads.items ≤ k = search (arith, t) in
      subst (λ (l : Literal). IsLiteralBelow (held_count m + length muxes) l) (sym (get_or_past p.loads.items k (Constant false) past)) tt

-- ---- the machine

module _ (m : Machine) (muxes : List Mux) (plan : Option Plan) (may : MayBeBuilt m muxes plan) (o : Machine) (b : IsBuilt m muxes plan o) where
  pub same_registers : register_names o ≡ register_names m
  same_registers =
      ap (map (λ (r : Register). r.name)) b.registers
      ∙ registers_same (numbers_behind (held_count m) (length muxes) (length m.vars)) plan 0 m.registers

  all_equations : equation_names o ≡ new_names b.text (length muxes) ++ equation_names m
  all_equations =
      ap (map (λ (e : Equation). e.name)) b.equations
      ∙ map_append (λ (e : Equation). e.name) (mux_equations b.text 0 muxes) (equations_said (numbers_behind (held_count m) (length muxes) (length m.vars)) plan 0 m.equations)
      ∙ (λ j. names_new b.text 0 muxes j ++ names_said (numbers_behind (held_count m) (length muxes) (length m.vars)) plan 0 m.equations j)

  pub total : length m.vars ≡ held_count m + length m.equations
  total = ap length may.checked.ordered.vars ∙ length-append (held_names m) (equation_names m) ∙ ap (λ (n : ℕ). held_count m + n) (length-map m.equations (λ (e : Equation). e.name))

  long : length o.vars ≡ length m.vars + length muxes
  long =
      let a = ap length b.vars in
      let x = length-append (held_names m) (new_names b.text (length muxes) ++ equation_names m) in
      let y = length-append (new_names b.text (length muxes)) (equation_names m) in
      let z = anew.length-new_names b.text (length muxes) in
      let n = length-map m.equations (λ (e : Equation). e.name) in
      let t = total in
      omega (arith, a, x, y, z, n, t)

  reads : EachReadsBelow (held_count m) o.equations
  reads = subst (λ (es : List Equation). EachReadsBelow (held_count m) es) (sym b.equations)
      (reads_append (held_count m) (mux_equations b.text 0 muxes) (equations_said (numbers_behind (held_count m) (length muxes) (length m.vars)) plan 0 m.equations)
      (muxes_below b.text (held_count m) 0 (held_count m) muxes (omega arith) may.below)
      (subst (λ (n : ℕ). EachReadsBelow (held_count m + n) (equations_said (numbers_behind (held_count m) (length muxes) (length m.vars)) plan 0 m.equations)) (sym (length-mux_equations b.text 0 muxes))
      (said_below (held_count m) (length muxes) (length m.vars) (held_count m) 0 plan m.equations (omega arith) (let t = total in omega (arith, t)) (plan_low m muxes plan may.planned) may.checked.ordered.below)))

  pub built_anew : IsAnew m o
  built_anew = record {
    text = b.text;
    count = length muxes;
    fresh = b.fresh;
    name = b.name;
    ports = b.ports;
    clock = b.clock;
    vars = b.vars;
    equations = all_equations;
    registers = same_registers;
    reads = reads;
    loads = loads_to (length o.vars) o.registers
        (subst (λ (n : ℕ). LoadsBelow n o.registers) (sym long)
        (subst (λ (rs : List Register). LoadsBelow (length m.vars + length muxes) rs) (sym b.registers)
        (loads_said (held_count m) (length muxes) (length m.vars) 0 plan m.registers (let t = total in omega (arith, t)) (plan_loads_low m muxes plan may.planned)
        (loads_from (length m.vars) m.registers may.checked.loads))));
  }

  pub same_inputs : inputs o ≡ inputs m
  same_inputs = anew.same_inputs m may.checked o built_anew

  pub same_outputs : outputs o ≡ outputs m
  same_outputs = anew.same_outputs m may.checked o built_anew

  pub built_ordered : IsOrdered o
  built_ordered = anew.anew_ordered m may.checked o built_anew

  pub built_checked : IsChecked o
  built_checked = anew.anew_checked m may.checked o built_anew
