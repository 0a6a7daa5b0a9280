-- What is known of a machine's roots.
use Rattle.std.proofs.Common.{◌≡◌, ◌⊎◌, inl, inr, ℕ, zero, suc, ◌+◌, ◌*◌, ◌<◌, ◌≤◌, Bool, true, false, List, [], ◌∷◌, ◌++◌, length, map, take, drop, get_or, Some, slice_get, refl, sym, ap, subst, ◌∙◌, arith, if◌then◌else◌}
use Rattle.std.specs.Prelude.{nat_lt, is_some, replicate}
use Rattle.std.specs.List.{All}
use Rattle.std.proofs.lemmas.List.{length-map, length-take, take_more}
use Rattle.vlsi_base.specs.declared.name.Name.{Name}
use Rattle.vlsi_base.specs.Member.{In, here, there}
use Rattle.std.proofs.lemmas.Bool.Decides.{nat_tests}
use Rattle.bool_expr.specs.Expression.{Expression, IsOver}
use Rattle.bool_expr.specs.View.{view}
use Rattle.machine_core.specs.Named.{is_same_name}
use Rattle.machine_core.specs.Machine.{Machine, Equation, Register, outputs}
use Rattle.machine_core.specs.Order.{EachReadsBelow}
use Rattle.machine_core.specs.Checked.{IsChecked}
use Rattle.machine_core.proofs.Values.{In-split}
use Rattle.machine_walk.specs.Expansion.{held_count}
use Rattle.machine_roots.specs.Roots.{Root, roots, register_roots, expression_of, IsOverBudget}
use Rattle.machine_roots.specs.Listing.{root_view, IsPlaced, AreRoots}
use Rattle.machine_roots.specs.declared.listing.RootExpr.{RootExpr}
use Rattle.boom_opt.specs.declared.error.BoomError.{BoomError}
use Rattle.boom_opt.specs.declared.error.BoomError.TheVariants as error
use Rattle.boom_opt.specs.Optimised.{IsOverIn}
use Rattle.boom_muxes.specs.Planning.{EachLeadsBack}
use Rattle.boom_opt.specs.Rebuilt.{IsRootOf, IsOverRoot, IsNext}
use Rattle.boom_muxes.proofs.Numbered.{over_more, all_names}

-- ---- what roots read

expression_over : (n total : ℕ) (es : List Equation) (name : Name) → EachReadsBelow n es → n + length es ≤ total → IsOver (expression_of es name) total
expression_over n total [] name reads room = tt
expression_over n total (e ∷ es) name reads room = by (is_same_name e.name name) (expression_over (n + 1) total es name reads.1 (omega (arith, room))) where
  by : (b : Bool) → IsOver (expression_of es name) total → IsOver (if b then e.expr else expression_of es name) total
  by true rest = over_more e.expr n total (omega (arith, room)) reads.0
  by false rest = rest

outputs_over : (total : ℕ) (es : List Equation) (names : List Name) → ((name : Name) → IsOver (expression_of es name) total) → (r : Root)
    → In r (map (λ (name : Name). record { name = name; expr = expression_of es name }) names) → IsOver r.expr total
outputs_over total es [] each r i = elim i [ ]
outputs_over total es (n ∷ names) each r here = each n
outputs_over total es (n ∷ names) each r (there i) = outputs_over total es names each r i

registers_over : (total : ℕ) (rs : List Register) → All (λ (r : Register). IsOver r.next total × IsOver r.enable total) rs → (q : Root) → In q (register_roots rs) → IsOver q.expr total
registers_over total [] all q i = elim i [ ]
registers_over total (r ∷ rs) all q here = (all 0 r (omega arith)).0
registers_over total (r ∷ rs) all q (there here) = (all 0 r (omega arith)).1
registers_over total (r ∷ rs) all q (there (there i)) = registers_over total rs (λ k d h. all (suc k) d (omega arith)) q i

pub root_over : (m : Machine) → IsChecked m → (r : Root) → In r (roots m) → IsOver r.expr (length m.vars)
root_over m checked r i = by (In-split r (map (λ (name : Name). record { name = name; expr = expression_of m.equations name }) (outputs m)) (register_roots m.registers) i) where
  each : (name : Name) → IsOver (expression_of m.equations name) (length m.vars)
  each name = expression_over (held_count m) (length m.vars) m.equations name checked.ordered.below (let t = all_names m checked in omega (arith, t))

  by : In r (map (λ (name : Name). record { name = name; expr = expression_of m.equations name }) (outputs m)) ⊎ In r (register_roots m.registers) → IsOver r.expr (length m.vars)
  by (inl p) = outputs_over (length m.vars) m.equations (outputs m) each r p
  by (inr p) = registers_over (length m.vars) m.registers checked.loads r p

reads_at : (n : ℕ) (es : List Equation) → EachReadsBelow n es → (j : ℕ) (x : Equation) → slice_get es j ≡ Some x → IsOver x.expr (n + j)
reads_at n [] reads j x at = absurd (cc at)
reads_at n (e ∷ es) reads zero x at =
    let same : e ≡ x = cc at in
    subst (λ (y : Equation). IsOver y.expr (n + zero)) same (subst (λ (k : ℕ). IsOver e.expr k) (let q : n ≡ n + zero = omega arith in q) reads.0)
reads_at n (e ∷ es) reads (suc j) x at = subst (λ (k : ℕ). IsOver x.expr k) (let q : n + 1 + j ≡ n + suc j = omega arith in q) (reads_at (n + 1) es reads.1 j x at)

pub leads_back : (m : Machine) → IsChecked m → (e : Expression) → IsOver e (length m.vars) → EachLeadsBack (held_count m) m.equations e
leads_back m checked e over = record {
  first = λ k is. let low : k < length m.vars = subst (λ (f : Expression). IsOver f (length m.vars)) is over in let t = all_names m checked in omega (arith, low, t);
  back = λ j k x at is. subst (λ (f : Expression). IsOver f (held_count m + j)) is (reads_at (held_count m) m.equations checked.ordered.below j x at);
}

-- ---- one root of the list

in_at : {A : Type 0} (xs : List A) (i : ℕ) (d : A) → i < length xs → In (get_or xs i d) xs
in_at [] i d h = absurd (omega arith)
in_at (x ∷ xs) zero d h = here
in_at (x ∷ xs) (suc i) d h = there (in_at xs i d (omega arith))

in_map : {A B : Type 0} (f : A → B) (x : A) (xs : List A) → In x xs → In (f x) (map f xs)
in_map f x (y ∷ xs) here = here
in_map f x (y ∷ xs) (there h) = there (in_map f x xs h)
in_map f x [] h = elim h [ ]

pub root_of : (m : Machine) → IsChecked m → (listed : List RootExpr) → AreRoots m listed → (i : ℕ) (root : RootExpr) → i < length listed → root ≡ get_or listed i root → IsRootOf m root
root_of m checked listed are i root inside is =
    let stands : In (root_view root) (roots m) = subst (λ (l : List Root). In (root_view root) l) are.all
    (in_map root_view root listed (subst (λ (r : RootExpr). In r listed) (sym is) (in_at listed i root inside))) in
    let over = root_over m checked (root_view root) stands in
    record {
      placed = subst (λ (r : RootExpr). IsPlaced m.equations r) (sym is) (are.placed i root inside);
      over = over;
      back = leads_back m checked (view root.expr.now) over;
    }

-- roots of outputs come first
marks_at : (n k i : ℕ) (bs : List Bool) → bs ≡ replicate n true ++ replicate k false → i < length bs → (d : Bool) → get_or bs i d ≡ nat_lt i n
marks_at n k i bs e h d = ap (λ (l : List Bool). get_or l i d) e ∙ by n i (let q = ap length e in omega (arith, h, q)) where
  falses : (k i : ℕ) → i < length (replicate k false) → get_or (replicate k false) i d ≡ false
  falses zero i h = absurd (omega arith)
  falses (suc k) zero h = refl
  falses (suc k) (suc i) h = falses k i (omega arith)

  by : (n i : ℕ) → i < length (replicate n true ++ replicate k false) → get_or (replicate n true ++ replicate k false) i d ≡ nat_lt i n
  by zero i h = falses k i h ∙ sym (let q : nat_lt i 0 ≡ false = search arith in q)
  by (suc n) zero h = sym (let q : nat_lt 0 (suc n) ≡ true = search arith in q)
  by (suc n) (suc i) h = by n i (omega arith) ∙ (let q : nat_lt i n ≡ nat_lt (suc i) (suc n) = grind (arith, nat_tests) in q)

map_at : {A : Type 0} (f : A → Bool) (xs : List A) (i : ℕ) (d : A) → i < length xs → get_or (map f xs) i true ≡ f (get_or xs i d)
map_at f [] i d h = absurd (omega arith)
map_at f (x ∷ xs) zero d h = refl
map_at f (x ∷ xs) (suc i) d h = map_at f xs i d (omega arith)

pub root_next : (m : Machine) (listed : List RootExpr) → AreRoots m listed → (i : ℕ) (root : RootExpr) → i < length listed → root ≡ get_or listed i root → IsNext m (map root_view (take i listed)) root
root_next m listed are i root inside is =
    let long : length (map root_view (take i listed)) ≡ i = length-map (take i listed) root_view ∙ (let l = length-take i listed in omega (arith, l, inside)) in
    let marks = length-map listed (λ (r : RootExpr). is_some r.equation) in
    ap (λ (r : RootExpr). is_some r.equation) is
    ∙ sym (map_at (λ (r : RootExpr). is_some r.equation) listed i root inside)
    ∙ marks_at (length (outputs m)) (2 * length m.registers) i (map (λ (r : RootExpr). is_some r.equation) listed) are.shown (omega (arith, inside, marks)) true
    ∙ ap (λ (n : ℕ). nat_lt n (length (outputs m))) (sym long)

pub views_more : (listed : List RootExpr) (i : ℕ) (root : RootExpr) → i < length listed → root ≡ get_or listed i root
    → map root_view (take (i + 1) listed) ≡ map root_view (take i listed) ++ root_view root ∷ []
views_more listed i root inside is =
    ap (map root_view) (take_more listed i root inside ∙ ap (λ (r : RootExpr). take i listed ++ r ∷ []) (sym is)) ∙ map_push (take i listed) root where
      map_push : (xs : List RootExpr) (x : RootExpr) → map root_view (xs ++ x ∷ []) ≡ map root_view xs ++ root_view x ∷ []
      map_push [] x = refl
      map_push (y ∷ xs) x = ap (λ (l : List Root). root_view y ∷ l) (map_push xs x)

split_at : (listed : List RootExpr) (i : ℕ) (root : RootExpr) → i < length listed → root ≡ get_or listed i root
    → map root_view listed ≡ map root_view (take i listed) ++ root_view root ∷ map root_view (drop (i + 1) listed)
split_at [] i root inside is = absurd (omega arith)
split_at (x ∷ listed) zero root inside is = ap (λ (r : RootExpr). root_view r ∷ map root_view listed) (sym is)
split_at (x ∷ listed) (suc i) root inside is =
    ap (λ (l : List Root). root_view x ∷ l) (split_at listed i root (omega arith) is)
    ∙ ap (λ (n : ℕ). root_view x ∷ (map root_view (take i listed) ++ root_view root ∷ map root_view (drop n (x ∷ listed)))) (let e : suc (i + 1) ≡ suc i + 1 = omega arith in e)

-- the root at which the budget is passed is the first
pub over_first : (m : Machine) (budget : ℕ) (listed : List RootExpr) → AreRoots m listed → (i : ℕ) (root : RootExpr) → i < length listed → root ≡ get_or listed i root
    → All (λ r. IsOverBudget m budget r → ⊥) (map root_view (take i listed)) → (e : BoomError) → IsOverRoot m budget (root_view root) e → IsOverIn m budget e
over_first m budget listed are i root inside is first error.Memory over = tt
over_first m budget listed are i root inside is first (error.Budget name) over = record {
  before = map root_view (take i listed);
  root = root_view root;
  after = map root_view (drop (i + 1) listed);
  all = sym are.all ∙ split_at listed i root inside is;
  named = over.0;
  over = over.1;
  first = first;
}
