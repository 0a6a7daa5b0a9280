-- Inverters and gates that a table makes.
use Rattle.std.proofs.Common.{◌≡◌, ◌≢◌, ◌⊎◌, inl, inr, ℕ, zero, suc, ◌+◌, ◌<◌, ◌≤◌, Bool, true, false, not, ◌||◌, List, [], ◌∷◌, ◌++◌, length, map, refl, sym, ◌∙◌, ap, subst, arith, length-append, if◌then◌else◌, cond}
use Rattle.std.specs.List.{list_any, position_or_len}
use Rattle.indexmap.specs.IndexSet.{insert_key}
use Rattle.vlsi_base.specs.Member.{In, here}
use Rattle.net_theory.specs.Sources.{IsNumber}
use Rattle.graph_theory.specs.Graph.{Node, fixed, inv, nand}
use Rattle.subject_table.specs.declared.table.Node.{Node as Kind}
use Rattle.subject_table.specs.declared.table.Table.{Table}
use Rattle.subject_table.specs.View.{node_view, kinds, end_of}
use Rattle.subject_table.specs.Grows.{IsNode}
use Rattle.subject_table.specs.Rules.{OneNode, Stands, IsSignal, IsNoConstant, IsInverse, of_inverter, of_constant, of_signal, IsNand, of_one_node, after_one, before_one, after_zero, before_zero, of_two}
use Rattle.subject_table.specs.Makes.{Makes}
use Rattle.subject_table.proofs.Making.{makes_also, makes_here}

number_left : {A : Type 0} (xs ys : List A) (k : ℕ) (x : A) → IsNumber xs k x → IsNumber (xs ++ ys) k x
number_left [] ys k x h = absurd h
number_left (z ∷ xs) ys zero x h = h
number_left (z ∷ xs) ys (suc k) x h = number_left xs ys k x h

-- a node stays where it stands
pub stands : (t : Table) (a : ℕ) (kind : Node) → IsNode t a kind → (later : List Node) → Stands t.held (kinds t ++ later) a kind
stands t a kind is later = record { place = is.place; is_place = is.is_place; is_node = number_left (kinds t) later is.place kind is.is_node }

pub signal_stays : (n : ℕ) (nodes later : List Node) (a : ℕ) → IsSignal n nodes a → IsSignal n (nodes ++ later) a
signal_stays n nodes later a (inl h) = inl h
signal_stays n nodes later a (inr h) =
    let s = h.1.1 in inr (h.0, (h.1.0, record { place = s.place; is_place = s.is_place; is_node = number_left nodes later s.place (nand h.0 h.1.0) s.is_node }))

pub no_constant_stays : (n : ℕ) (nodes later : List Node) (a : ℕ) → IsNoConstant n nodes a → IsNoConstant n (nodes ++ later) a
no_constant_stays n nodes later a (inl h) = inl (signal_stays n nodes later a h)
no_constant_stays n nodes later a (inr h) =
    let s = h.1 in inr (h.0, record { place = s.place; is_place = s.is_place; is_node = number_left nodes later s.place (inv h.0) s.is_node })

-- a node that is found stands among the nodes
pub found_stands : (t : Table) (a : ℕ) (kind : Node) → IsNode t a kind → Stands t.held (kinds t) a kind
found_stands t a kind is = record { place = is.place; is_place = is.is_place; is_node = is.is_node }

-- where there is no node of a number below the end, it is an input or a register
pub held_signal : (t : Table) (a : ℕ) → ((a < t.held) ⊎ (end_of t ≤ a)) → a < end_of t → IsSignal t.held (kinds t) a
held_signal t a (inl low) within = inl low
held_signal t a (inr high) within = absurd (omega (arith, high, within))

-- a key that is added is the last one
last_place : (p : Kind → Bool) (keys : List Kind) → list_any p keys ≡ false → position_or_len p keys ≡ length keys
last_place p [] h = refl
last_place p (x ∷ keys) h = by (p x) refl h (λ none. last_place p keys none) where
  by : (b : Bool) → p x ≡ b → (p x || list_any p keys) ≡ false → (list_any p keys ≡ false → position_or_len p keys ≡ length keys) → position_or_len p (x ∷ keys) ≡ suc (length keys)
  by true e g later = absurd (cc (ap (λ (b : Bool). b || list_any p keys) e, g))
  by false e g later =
      let none : list_any p keys ≡ false = sym (ap (λ (b : Bool). b || list_any p keys) e) ∙ g in
      let rest = later none in
      let one : position_or_len p (x ∷ keys) ≡ 1 + position_or_len p keys = ap (λ (b : Bool). cond (not b) (1 + position_or_len p keys) 0) e in
      omega (arith, rest, one)

length-views : (keys : List Kind) → length (map node_view keys) ≡ length keys
length-views [] = refl
length-views (x ∷ keys) = let h = length-views keys in omega (arith, h)

pub only_last : (eq : Kind → Kind → Bool) (held : ℕ) (keys new : List Kind) (k : Kind) (place : ℕ) → new ≡ insert_key eq keys k → place ≡ position_or_len (eq k) keys
    → (x : ℕ) → held + length (map node_view keys) ≤ x → x < held + length (map node_view new) → x ≡ held + place
only_last eq held keys new k place is at x low high = by (list_any (eq k) keys) refl is where
  by : (b : Bool) → list_any (eq k) keys ≡ b → new ≡ (if b then keys else keys ++ k ∷ []) → x ≡ held + place
  by true e g = let same = ap (λ (ks : List Kind). length (map node_view ks)) g in absurd (omega (arith, low, high, same))
  by false e g =
      let last = last_place (eq k) keys e in
      let all = ap (λ (ks : List Kind). length ks) g ∙ length-append keys (k ∷ []) in
      let a = length-views keys in
      let b = length-views new in
      omega (arith, low, high, last, all, a, b, at)

-- what `add` makes
pub one_made : (t u : Table) (r : ℕ) (k : Node) (more : List Node) → u.held ≡ t.held → kinds u ≡ kinds t ++ more → IsNode u r k
    → ((x : ℕ) → end_of t ≤ x → x < end_of u → x ≡ r) → Makes t u (OneNode k) r
one_made t u r k more held nodes is only = record {
  held = held;
  more = more;
  nodes = nodes;
  is = λ later. record {
    parts = r ∷ [];
    is = (subst (λ (n : ℕ). Stands n (kinds u ++ later) r k) held (stands u r k is later), refl);
    only = λ x low high. subst (λ (y : ℕ). In y (r ∷ [])) (sym (only x low high)) here;
  };
}

-- the inverse of an inverter, of a constant, and of anything else
pub inverse_inverter : (t : Table) (a b : ℕ) → IsNode t a (inv b) → Makes t t (IsInverse a) b
inverse_inverter t a b is = makes_here t (IsInverse a) b [] (λ later. of_inverter (stands t a (inv b) is later))

pub inverse_constant : (t u : Table) (a r : ℕ) (b : Bool) → IsNode t a (fixed b) → Makes t u (OneNode (fixed (not b))) r → Makes t u (IsInverse a) r
inverse_constant t u a r b is m =
    makes_also t u (OneNode (fixed (not b))) (IsInverse a) r m
    (λ later made h. subst (λ (xs : List ℕ). IsInverse a t.held (kinds t ++ later) r xs) (sym h.1) (of_constant b (stands t a (fixed b) is later) h.0))

pub inverse_signal : (t u : Table) (a r : ℕ) → IsSignal t.held (kinds t) a → Makes t u (OneNode (inv a)) r → Makes t u (IsInverse a) r
inverse_signal t u a r is m =
    makes_also t u (OneNode (inv a)) (IsInverse a) r m
    (λ later made h. subst (λ (xs : List ℕ). IsInverse a t.held (kinds t ++ later) r xs) (sym h.1) (of_signal (signal_stays t.held (kinds t) later a is) h.0))

-- the nand of a node with itself, with constants, and of two others
pub nand_itself : (t u : Table) (a b r : ℕ) → a ≡ b → Makes t u (IsInverse a) r → Makes t u (IsNand a b) r
nand_itself t u a b r same m = makes_also t u (IsInverse a) (IsNand a b) r m (λ later made h. of_one_node same h)

pub nand_after_one : (t u : Table) (a b r : ℕ) → IsNode t a (fixed true) → Makes t u (IsInverse b) r → Makes t u (IsNand a b) r
nand_after_one t u a b r is m = makes_also t u (IsInverse b) (IsNand a b) r m (λ later made h. after_one (stands t a (fixed true) is later) h)

pub nand_before_one : (t u : Table) (a b r : ℕ) → IsNode t b (fixed true) → Makes t u (IsInverse a) r → Makes t u (IsNand a b) r
nand_before_one t u a b r is m = makes_also t u (IsInverse a) (IsNand a b) r m (λ later made h. before_one (stands t b (fixed true) is later) h)

pub nand_after_zero : (t u : Table) (a b r : ℕ) → IsNode t a (fixed false) → Makes t u (OneNode (fixed true)) r → Makes t u (IsNand a b) r
nand_after_zero t u a b r is m =
    makes_also t u (OneNode (fixed true)) (IsNand a b) r m
    (λ later made h. subst (λ (xs : List ℕ). IsNand a b t.held (kinds t ++ later) r xs) (sym h.1) (after_zero (stands t a (fixed false) is later) h.0))

pub nand_before_zero : (t u : Table) (a b r : ℕ) → IsNode t b (fixed false) → Makes t u (OneNode (fixed true)) r → Makes t u (IsNand a b) r
nand_before_zero t u a b r is m =
    makes_also t u (OneNode (fixed true)) (IsNand a b) r m
    (λ later made h. subst (λ (xs : List ℕ). IsNand a b t.held (kinds t ++ later) r xs) (sym h.1) (before_zero (stands t b (fixed false) is later) h.0))

pub nand_sorted : (t u : Table) (a b r : ℕ) → a ≢ b → IsNoConstant t.held (kinds t) a → IsNoConstant t.held (kinds t) b → Makes t u (OneNode (nand a b)) r → Makes t u (IsNand a b) r
nand_sorted t u a b r differ first second m =
    makes_also t u (OneNode (nand a b)) (IsNand a b) r m
    (λ later made h.
    subst (λ (xs : List ℕ). IsNand a b t.held (kinds t ++ later) r xs) (sym h.1)
    (of_two differ (no_constant_stays t.held (kinds t) later a first) (no_constant_stays t.held (kinds t) later b second) (inl h.0)))

pub nand_turned : (t u : Table) (a b r : ℕ) → a ≢ b → IsNoConstant t.held (kinds t) a → IsNoConstant t.held (kinds t) b → Makes t u (OneNode (nand b a)) r → Makes t u (IsNand a b) r
nand_turned t u a b r differ first second m =
    makes_also t u (OneNode (nand b a)) (IsNand a b) r m
    (λ later made h.
    subst (λ (xs : List ℕ). IsNand a b t.held (kinds t ++ later) r xs) (sym h.1)
    (of_two differ (no_constant_stays t.held (kinds t) later a first) (no_constant_stays t.held (kinds t) later b second) (inr h.0)))
