-- Roots, one pair after another.
use Rattle.std.proofs.Common.{◌≡◌, ◌⊎◌, inl, inr, ℕ, zero, suc, ◌+◌, ◌<◌, ◌≤◌, Bool, true, false, List, [], ◌∷◌, ◌++◌, length, map, take, drop, get_or, Option, None, Some, refl, sym, ap, subst, ◌∙◌, arith, append_assoc, length-append, if◌then◌else◌}
use Rattle.std.specs.Prelude.{zip, is_some, ◌^◌}
use Rattle.std.specs.List.{All, slice_index_or}
use Rattle.std.proofs.lemmas.List.{length-map, take_more}
use Rattle.std.proofs.lemmas.List.Elements.{All-push, All-nil}
use Rattle.vlsi_base.specs.declared.name.Name.{Name}
use Rattle.vlsi_base.specs.Member.{In, here, there, AllDifferent}
use Rattle.bool_expr.specs.Expression.{Expression, variable, variables, val, bit, IsOver}
use Rattle.bool_expr.specs.View.{view}
use Rattle.bdd_core.specs.Truths.{Truths, truths}
use Rattle.bdd_core.specs.Branching.{truth_at}
use Rattle.bdd_core.specs.Diagram.{function_of}
use Rattle.bdd_core.proofs.Held.{truths_value}
use Rattle.machine_core.specs.Named.{is_same_name, values_at}
use Rattle.machine_core.specs.Machine.{Machine, Equation, Register, outputs}
use Rattle.machine_core.specs.Order.{EachReadsBelow, held_names}
use Rattle.machine_core.specs.Checked.{IsChecked}
use Rattle.machine_core.proofs.Values.{In-split}
use Rattle.machine_walk.specs.Expansion.{held_count, expansion, in_order, place_among}
use Rattle.machine_roots.specs.Roots.{Root, roots, register_roots, expression_of}
use Rattle.machine_walk.specs.Walk.{order_of}
use Rattle.machine_roots.specs.Listing.{root_view, AreRoots}
use Rattle.machine_roots.specs.declared.listing.RootExpr.{RootExpr}
use Rattle.machine_walk.proofs.Names.{length-vars}
use Rattle.machine_roots.proofs.Expanding.{val-with_variables, val-in_order, first_meetings-all}
use Rattle.proof_cmp.specs.declared.verdict.ProveError.{ProveError}
use Rattle.proof_cmp.specs.declared.verdict.ProveError.TheVariants as error
use Rattle.proof_cmp.specs.declared.proving.Difference.{Difference}
use Rattle.proof_joint.specs.declared.joint.JointDiagram.{JointDiagram}
use Rattle.proof_joint.specs.declared.naming.Role.TheVariants.{Input, Output, Register as Stored}
use Rattle.proof_joint.specs.Naming.{HaveSameNames}
use Rattle.proof_joint.proofs.Clocks.{over_more}
use Rattle.proof_joint.specs.Together.{root_pairs, IsOverTogether, IsOneFunction, given_names, value_on}
use Rattle.proof_cmp.specs.Verdict.{AreComparable}
use Rattle.proof_joint.specs.Joint.{IsJointDiagram, AreTwoRoots, JoinsRoots}
use Rattle.proof_joint.specs.Bits.{Computes, AreSpread}
use Rattle.proof_cmp.specs.Comparing.{IsOverPair, IsOverFirst, DifferOn, IsFound}
use Rattle.proof_joint.proofs.Joining.{has_first, has_second, same_held, joint_few, joint_different, joint_within}
use Rattle.proof_joint.proofs.Both.{at_in_list}

-- ---- two functions of one diagram

reads_first : (a : Machine) (x : Expression) (k : ℕ) → In k (variables (expansion a x)) → In k (order_of a x)
reads_first a x k h = first_meetings-all (variables (expansion a x)) k h

module _ (a b : Machine) (x y : Expression) (d : JointDiagram) (two : AreTwoRoots a b x y) (w : IsJointDiagram a b x y d) where
  abbrev pub first_value : List Bool → Bool
  first_value v = val (in_order d.order.items (expansion a x)) v

  abbrev pub second_value : List Bool → Bool
  second_value v = val (in_order d.order.items (expansion b y)) v

  in_first : (k : ℕ) → In k (variables (expansion a x)) → In k d.order.items
  in_first k h = subst (λ (o : List ℕ). In k o) (sym w.order) (has_first a b two.names two.first.ordered two.second.ordered x y two.over two.other k (reads_first a x k h))

  in_second : (k : ℕ) → In k (variables (expansion b y)) → In k d.order.items
  in_second k h = subst (λ (o : List ℕ). In k o) (sym w.order) (has_second a b two.names two.first.ordered two.second.ordered x y two.over two.other k (reads_first b y k h))

  pub first_computes : Computes d.diagrams d.first first_value
  first_computes = record { node = w.first_node; is = w.first_is ∙ ap (λ (n : ℕ). truths n first_value) (sym w.vars) }

  pub second_computes : Computes d.diagrams d.second second_value
  second_computes = record { node = w.second_node; is = w.second_is ∙ ap (λ (n : ℕ). truths n second_value) (sym w.vars) }

  -- one node is one function
  pub one_function : function_of d.diagrams d.first ≡ function_of d.diagrams d.second → (v : List Bool) → val (expansion a x) v ≡ val (expansion b y) v
  one_function same v =
      let order = d.order.items in
      let bits = map (bit v) order in
      let n = length order in
      let long : length bits ≡ n = length-map order (bit v) in
      sym (val-in_order order v (expansion a x) in_first)
      ∙ sym (truths_value n first_value bits long)
      ∙ ap (λ (t : Truths). truth_at t bits) (sym w.first_is ∙ same ∙ w.second_is)
      ∙ truths_value n second_value bits long
      ∙ val-in_order order v (expansion b y) in_second

  -- bits on which they differ, among all that are given
  pub differ_on : (bits spread given : List Bool) → (first_value bits ≡ second_value bits → ⊥) → AreSpread d.order.items bits spread → length given ≡ length (given_names a)
      → values_at (given_names a) given (held_names a) ≡ spread → DifferOn a b x y given
  differ_on bits spread given apart spreads each values = record { each = each; differ = λ e. apart (first_is ∙ sym (one e) ∙ sym second_is) }
    where
      first_is : first_value bits ≡ val (expansion a x) spread
      first_is = val-with_variables (λ k. variable (place_among d.order.items k)) (expansion a x) bits spread (λ k h. sym (spreads k (in_first k h)))

      second_is : second_value bits ≡ val (expansion b y) spread
      second_is = val-with_variables (λ k. variable (place_among d.order.items k)) (expansion b y) bits spread (λ k h. sym (spreads k (in_second k h)))

      same_values : values_at (given_names b) given (held_names b) ≡ spread
      same_values = (λ j. values_at (two.names Input j ++ two.names Stored j) given (same_held a b two.names j)) ∙ values

      one : value_on a x given ≡ value_on b y given → val (expansion b y) spread ≡ val (expansion a x) spread
      one e = ap (val (expansion b y)) (sym same_values) ∙ sym e ∙ ap (val (expansion a x)) values

-- ---- what roots read

expression_over : (n total : ℕ) (es : List Equation) (name : Name) → EachReadsBelow n es → n + length es ≤ total → IsOver (expression_of es name) total
expression_over n total [] name reads room = tt
expression_over n total (e ∷ es) name reads room = by (is_same_name e.name name) (expression_over (n + 1) total es name reads.1 (omega (arith, room))) where
  by : (b : Bool) → IsOver (expression_of es name) total → IsOver (if b then e.expr else expression_of es name) total
  by true rest = over_more e.expr n total (omega (arith, room)) reads.0
  by false rest = rest

outputs_over : (total : ℕ) (es : List Equation) (names : List Name) → ((name : Name) → IsOver (expression_of es name) total) → (r : Root)
    → In r (map (λ (name : Name). record { name = name; expr = expression_of es name }) names) → IsOver r.expr total
outputs_over total es [] each r i = elim i [ ]
outputs_over total es (n ∷ names) each r here = each n
outputs_over total es (n ∷ names) each r (there i) = outputs_over total es names each r i

registers_over : (total : ℕ) (rs : List Register) → All (λ (r : Register). IsOver r.next total × IsOver r.enable total) rs → (q : Root) → In q (register_roots rs) → IsOver q.expr total
registers_over total [] all q i = elim i [ ]
registers_over total (r ∷ rs) all q here = (all 0 r (omega arith)).0
registers_over total (r ∷ rs) all q (there here) = (all 0 r (omega arith)).1
registers_over total (r ∷ rs) all q (there (there i)) = registers_over total rs (λ k d h. all (suc k) d (omega arith)) q i

root_over : (m : Machine) → IsChecked m → (r : Root) → In r (roots m) → IsOver r.expr (length m.vars)
root_over m checked r i = by (In-split r (map (λ (name : Name). record { name = name; expr = expression_of m.equations name }) (outputs m)) (register_roots m.registers) i) where
  each : (name : Name) → IsOver (expression_of m.equations name) (length m.vars)
  each name = expression_over (held_count m) (length m.vars) m.equations name checked.ordered.below (let t = length-vars m checked.ordered in omega (arith, t))

  by : In r (map (λ (name : Name). record { name = name; expr = expression_of m.equations name }) (outputs m)) ⊎ In r (register_roots m.registers) → IsOver r.expr (length m.vars)
  by (inl p) = outputs_over (length m.vars) m.equations (outputs m) each r p
  by (inr p) = registers_over (length m.vars) m.registers checked.loads r p

in_at : {A : Type 0} (xs : List A) (i : ℕ) (d : A) → i < length xs → In (get_or xs i d) xs
in_at [] i d h = absurd (omega arith)
in_at (x ∷ xs) zero d h = here
in_at (x ∷ xs) (suc i) d h = there (in_at xs i d (omega arith))

in_map : (x : RootExpr) (xs : List RootExpr) → In x xs → In (root_view x) (map root_view xs)
in_map x (y ∷ xs) here = here
in_map x (y ∷ xs) (there h) = there (in_map x xs h)
in_map x [] h = elim h [ ]

pub listed_over : (m : Machine) → IsChecked m → (listed : List RootExpr) → AreRoots m listed → (i : ℕ) (root : RootExpr) → i < length listed → root ≡ get_or listed i root
    → IsOver (view root.expr.now) (length m.vars)
listed_over m checked listed are i root inside is =
    root_over m checked (root_view root) (subst (λ (l : List Root). In (root_view root) l) are.all
    (in_map root listed (subst (λ (r : RootExpr). In r listed) (sym is) (in_at listed i root inside))))

-- ---- pairs by their places

view_at : (listed : List RootExpr) (i : ℕ) (d : RootExpr) → get_or (map root_view listed) i (root_view d) ≡ root_view (get_or listed i d)
view_at [] i d = refl
view_at (x ∷ listed) zero d = refl
view_at (x ∷ listed) (suc i) d = view_at listed i d

pair_at : (xs ys : List Root) (i : ℕ) (d e : Root) → i < length xs → i < length ys → get_or (zip xs ys) i (d, e) ≡ (get_or xs i d, get_or ys i e)
pair_at [] ys i d e h g = absurd (omega arith)
pair_at (x ∷ xs) [] i d e h g = absurd (omega arith)
pair_at (x ∷ xs) (y ∷ ys) zero d e h g = refl
pair_at (x ∷ xs) (y ∷ ys) (suc i) d e h g = pair_at xs ys i d e (omega arith) (omega arith)

length-pairs : (xs ys : List Root) → length xs ≡ length ys → length (zip xs ys) ≡ length xs
length-pairs [] ys e = refl
length-pairs (x ∷ xs) [] e = absurd (omega arith)
length-pairs (x ∷ xs) (y ∷ ys) e = ap suc (length-pairs xs ys (omega arith))

split_pairs : (xs : List (Root × Root)) (i : ℕ) (x : Root × Root) → i < length xs → x ≡ get_or xs i x → xs ≡ take i xs ++ x ∷ drop (suc i) xs
split_pairs [] i x h is = absurd (omega arith)
split_pairs (y ∷ xs) zero x h is = ap (λ (z : Root × Root). z ∷ xs) (sym is)
split_pairs (y ∷ xs) (suc i) x h is = ap (λ (l : List (Root × Root)). y ∷ l) (split_pairs xs i x (omega arith) is)

take_next : (xs : List (Root × Root)) (i : ℕ) (x : Root × Root) → i < length xs → x ≡ get_or xs i x → take (i + 1) xs ≡ take i xs ++ x ∷ []
take_next xs i x h is = take_more xs i x h ∙ ap (λ (z : Root × Root). take i xs ++ z ∷ []) (sym is)

take_whole : (xs : List (Root × Root)) (i : ℕ) → length xs ≤ i → take i xs ≡ xs
take_whole [] zero h = refl
take_whole [] (suc i) h = refl
take_whole (x ∷ xs) zero h = absurd (omega arith)
take_whole (x ∷ xs) (suc i) h = ap (λ (l : List (Root × Root)). x ∷ l) (take_whole xs i (omega arith))

length_register_roots : (rs : List Register) → length (register_roots rs) ≡ length rs + length rs
length_register_roots [] = refl
length_register_roots (r ∷ rs) = let a = length_register_roots rs in omega (arith, a)

length_roots : (m : Machine) → length (roots m) ≡ length (outputs m) + (length m.registers + length m.registers)
length_roots m =
    length-append (map (λ (name : Name). record { name = name; expr = expression_of m.equations name }) (outputs m)) (register_roots m.registers)
    ∙ (λ j. length-map {B = Root} (outputs m) (λ (name : Name). record { name = name; expr = expression_of m.equations name }) j + length_register_roots m.registers j)

same_long : (a b : Machine) → HaveSameNames a b → length (roots b) ≡ length (roots a)
same_long a b same =
    let o : length (outputs b) ≡ length (outputs a) = ap length (same Output) in
    let r : length b.registers ≡ length a.registers =
    sym (length-map b.registers (λ (r : Register). r.name)) ∙ ap length (same Stored) ∙ length-map a.registers (λ (r : Register). r.name) in
    length_roots b ∙ (λ j. o j + (r j + r j)) ∙ sym (length_roots a)

-- ---- the loop

-- the first k pairs are compared
pub record IsComparing (a b : Machine) (budget k : ℕ) (found : Option Difference) : Type 0 where
  pub within : All (λ p. IsOverTogether a b budget p → ⊥) (take k (root_pairs a b))
  pub found_is : IsFound a b (take k (root_pairs a b)) found

pub none_compared : (a b : Machine) (budget : ℕ) → IsComparing a b budget 0 None
none_compared a b budget = record { within = All-nil (λ p. IsOverTogether a b budget p → ⊥); found_is = All-nil (IsOneFunction a b) }

module _ (a b : Machine) (same : HaveSameNames a b) (firsts seconds : List RootExpr) (ra : AreRoots a firsts) (rb : AreRoots b seconds) where
  pub as_long : length seconds ≡ length firsts
  as_long =
      sym (length-map seconds root_view) ∙ ap length rb.all ∙ same_long a b same ∙ sym (ap length ra.all) ∙ length-map firsts root_view

  pairs_long : length (root_pairs a b) ≡ length firsts
  pairs_long = length-pairs (roots a) (roots b) (sym (same_long a b same)) ∙ sym (ap length ra.all) ∙ length-map firsts root_view

  module _ (budget k : ℕ) (first second : RootExpr) (inside : k < length firsts) (is_first : first ≡ get_or firsts k first) (is_second : second ≡ get_or seconds k second) where
    abbrev pub the_pair : Root × Root
    the_pair = (root_view first, root_view second)

    here_is : the_pair ≡ get_or (root_pairs a b) k the_pair
    here_is =
        let one : root_view first ≡ get_or (roots a) k (root_view first) = ap root_view is_first ∙ sym (view_at firsts k first) ∙ ap (λ (l : List Root). get_or l k (root_view first)) ra.all in
        let two : root_view second ≡ get_or (roots b) k (root_view second) = ap root_view is_second ∙ sym (view_at seconds k second) ∙ ap (λ (l : List Root). get_or l k (root_view second)) rb.all in
        let la : length (roots a) ≡ length firsts = sym (ap length ra.all) ∙ length-map firsts root_view in
        let lb : length (roots b) ≡ length (roots a) = same_long a b same in
        (λ j. (one j, two j)) ∙ sym (pair_at (roots a) (roots b) k (root_view first) (root_view second) (omega (arith, inside, la)) (omega (arith, inside, la, lb)))

    pub compared_more : (old new : Option Difference) → IsComparing a b budget k old → (IsOverTogether a b budget the_pair → ⊥)
        → (IsFound a b (take k (root_pairs a b)) old → IsFound a b (take k (root_pairs a b) ++ the_pair ∷ []) new) → IsComparing a b budget (k + 1) new
    compared_more old new w within found =
        let more = take_next (root_pairs a b) k the_pair (let l = pairs_long in omega (arith, inside, l)) here_is in
        record {
          within = subst (λ (l : List (Root × Root)). All (λ p. IsOverTogether a b budget p → ⊥) l) (sym more)
              (All-push (λ p. IsOverTogether a b budget p → ⊥) (take k (root_pairs a b)) the_pair w.within within);
          found_is = subst (λ (l : List (Root × Root)). IsFound a b l new) (sym more) (found w.found_is);
        }

    pub refused_here : (old : Option Difference) → IsComparing a b budget k old → (e : ProveError) → IsOverPair a b budget the_pair e → IsOverFirst a b budget e
    refused_here old w error.Memory over = tt
    refused_here old w (error.Budget name) over = record {
      before = take k (root_pairs a b);
      pair = the_pair;
      after = drop (suc k) (root_pairs a b);
      all = split_pairs (root_pairs a b) k the_pair (let l = pairs_long in omega (arith, inside, l)) here_is;
      named = over.0;
      over = over.1;
      first = w.within;
    }

  pub all_compared : (budget k : ℕ) (found : Option Difference) → length firsts ≤ k → IsComparing a b budget k found → AreComparable a b budget × IsFound a b (root_pairs a b) found
  all_compared budget k found end w =
      let whole = take_whole (root_pairs a b) k (let l = pairs_long in omega (arith, end, l)) in (
        record { names = same; within = subst (λ (l : List (Root × Root)). All (λ p. IsOverTogether a b budget p → ⊥) l) whole w.within },
        subst (λ (l : List (Root × Root)). IsFound a b l found) whole w.found_is,
      )

-- ---- what is found

module _ (a b : Machine) (pairs : List (Root × Root)) (p : Root × Root) where
  pub found_before : (d : Difference) → IsFound a b pairs (Some d) → IsFound a b (pairs ++ p ∷ []) (Some d)
  found_before d w = record {
    before = w.before;
    pair = w.pair;
    after = w.after ++ p ∷ [];
    all = ap (λ (l : List (Root × Root)). l ++ p ∷ []) w.all ∙ append_assoc w.before (w.pair ∷ w.after) (p ∷ []);
    named = w.named;
    first = w.first;
    each = w.each;
    differ = w.differ;
  }

  pub found_now : (d : Difference) → d.name.now ≡ p.0.name → DifferOn a b p.0.expr p.1.expr d.bits.items → IsFound a b pairs None → IsFound a b (pairs ++ p ∷ []) (Some d)
  found_now d named differ w = record {
    before = pairs;
    pair = p;
    after = [];
    all = refl;
    named = named;
    first = w;
    each = differ.each;
    differ = differ.differ;
  }

  pub none_found : IsOneFunction a b p → IsFound a b pairs None → IsFound a b (pairs ++ p ∷ []) None
  none_found one w = All-push (IsOneFunction a b) pairs p w one

  pub kept_found : (o : Option Difference) → is_some o ≡ true → IsFound a b pairs o → IsFound a b (pairs ++ p ∷ []) o
  kept_found None e w = absurd (cc e)
  kept_found (Some d) e w = found_before d w

-- ---- the order of a diagram

module _ (a b : Machine) (x y : Expression) (d : JointDiagram) (j : JoinsRoots a b x y d) where
  pub order_short : length d.order.items ≤ held_count a
  order_short =
      let few = joint_few a b j.roots.names j.roots.first.ordered j.roots.second.ordered x y j.roots.over j.roots.other in
      omega (arith, few, ap length j.diagram.order)

  pub order_fits : length a.vars < 2 ^ 32 → length d.order.items < 2 ^ 32
  order_fits few = let long = length-vars a j.roots.first.ordered in omega (arith, few, long, order_short)

  pub order_apart : (order : List ℕ) → order ≡ d.order.items → AllDifferent order
  order_apart order is =
      subst AllDifferent (sym (is ∙ j.diagram.order)) (joint_different a b j.roots.names j.roots.first.ordered j.roots.second.ordered x y j.roots.over j.roots.other)

  pub order_inside : (order : List ℕ) (n : ℕ) → order ≡ d.order.items → n ≡ held_count a → All (λ k. k < n) order
  order_inside order n is held k e w =
      let low = joint_within a b j.roots.names j.roots.first.ordered j.roots.second.ordered x y j.roots.over j.roots.other (slice_index_or order k e)
      (subst (λ (o : List ℕ). In (slice_index_or order k e) o) (is ∙ j.diagram.order) (at_in_list order k e w)) in
      omega (arith, low, held)
