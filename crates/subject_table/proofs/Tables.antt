-- Lists of nodes that grow by a key.
use Rattle.std.proofs.Common.{◌≡◌, ℕ, zero, suc, ◌+◌, ◌<◌, ◌≤◌, Bool, true, false, List, [], ◌∷◌, ◌++◌, length, map, slice_get, None, Some, refl, sym, ◌∙◌, ap, subst, arith, append-nil, append_assoc, length-append, count_by, not, ◌≤◌, ◌&&◌, ◌==◌, eqb-true, if◌then◌else◌}
use Rattle.std.proofs.Common.{Result, Ok, Err, IfOk}
use Rattle.std.specs.List.{list_any}
use Rattle.indexmap.specs.IndexSet.{insert_key}
use Rattle.bool_expr.specs.Expression.{bit}
use Rattle.net_theory.specs.Sources.{IsNumber}
use Rattle.net_theory.proofs.Basics.{number_below}
use Rattle.graph_theory.proofs.Values.{grown_at, grown_keeps, reads_at}
use Rattle.graph_theory.proofs.Ordered.{count_by-append}
use Rattle.graph_theory.specs.Graph.{Node, fixed, inv, nand, node_bit, grown, is_logic, ReadsBelow, EachReadsEarlier}
use Rattle.subject_table.specs.declared.table.Node.{Node as Kind}
use Rattle.subject_table.specs.declared.table.Node.TheVariants as kind
use Rattle.subject_table.specs.contracts.table.NodePartialEq.TheImpl as the_eq
use Rattle.std.specs.contracts.prelude.BoolPartialEq.TheImpl as bool_eq
use Rattle.subject_table.specs.declared.table.Table.{Table}
use Rattle.subject_table.specs.View.{node_view, kinds, end_of}
use Rattle.subject_table.specs.Grows.{IsSound, HasSortedSons, AreSorted, IsNode, IsKnown, value, node_value, logic_cost, Adds}

pub number_from_get : {A B : Type 0} (f : A → B) (xs : List A) (k : ℕ) (x : A) → slice_get xs k ≡ Some x → IsNumber (map f xs) k (f x)
number_from_get f [] k x h = absurd (cc h)
number_from_get {A} f (y ∷ xs) zero x h = let same : y ≡ x = cc h in ap f (sym same)
number_from_get f (y ∷ xs) (suc k) x h = number_from_get f xs k x h

-- where nothing is found, the list has ended
pub ended : {A B : Type 0} (f : A → B) (xs : List A) (k : ℕ) → slice_get xs k ≡ None → length (map f xs) ≤ k
ended f [] k h = omega arith
ended f (y ∷ xs) zero h = absurd (cc h)
ended f (y ∷ xs) (suc k) h = let rest = ended f xs k h in omega (arith, rest)

reads_append : (n : ℕ) (xs : List Node) (k : Node) → EachReadsEarlier n xs → ReadsBelow (n + length xs) k → EachReadsEarlier n (xs ++ k ∷ [])
reads_append n [] k each reads = let e : n + 0 ≡ n = omega arith in (let P : ℕ → Type 0 = λ c. ReadsBelow c k in subst P e reads, tt)
reads_append n (x ∷ xs) k each reads =
    let e : n + suc (length xs) ≡ n + 1 + length xs = omega arith in
    (each.0, reads_append (n + 1) xs k each.1 (let P : ℕ → Type 0 = λ c. ReadsBelow c k in subst P e reads))

sorted_append : (xs : List Node) (k : Node) → AreSorted xs → HasSortedSons k → AreSorted (xs ++ k ∷ [])
sorted_append [] k each sons = (sons, tt)
sorted_append (x ∷ xs) k each sons = (each.0, sorted_append xs k each.1 sons)

map-append : {A B : Type 0} (f : A → B) (xs ys : List A) → map f (xs ++ ys) ≡ map f xs ++ map f ys
map-append f [] ys = refl
map-append {B = B} f (x ∷ xs) ys = ap (λ (zs : List B). f x ∷ zs) (map-append f xs ys)

pub sound_empty : (t : Table) → kinds t ≡ [] → IsSound t
sound_empty t none = record {
  earlier = let P : List Node → Type 0 = λ xs. EachReadsEarlier t.held xs in subst P (sym none) tt;
  sorted = subst AreSorted (sym none) tt;
}

pub record IsGrown (held : ℕ) (old new : List Node) (k : Node) : Type 0 where
  pub more : List Node
  pub nodes : new ≡ old ++ more
  pub sound : EachReadsEarlier held new
  pub sorted : AreSorted new
  pub cost : count_by is_logic new ≤ count_by is_logic old + logic_cost k

count_one : (k : Node) (xs : List Node) → count_by is_logic (xs ++ k ∷ []) ≡ count_by is_logic xs + logic_cost k
count_one k xs = count_by-append is_logic xs (k ∷ []) ∙ ap (λ (c : ℕ). count_by is_logic xs + c) (alone k) where
  alone : (k : Node) → count_by is_logic (k ∷ []) ≡ logic_cost k
  alone (fixed b) = refl
  alone (inv a) = refl
  alone (nand a b) = refl

pub grown_keys : (eq : Kind → Kind → Bool) (held : ℕ) (keys new : List Kind) (k : Kind) → new ≡ insert_key eq keys k → EachReadsEarlier held (map node_view keys)
    → AreSorted (map node_view keys) → ReadsBelow (held + length (map node_view keys)) (node_view k) → HasSortedSons (node_view k) → IsGrown held (map node_view keys) (map node_view new) (node_view k)
grown_keys eq held keys new k is sound sorted below sons = by (list_any (eq k) keys) is where
  by : (b : Bool) → new ≡ (if b then keys else keys ++ k ∷ []) → IsGrown held (map node_view keys) (map node_view new) (node_view k)
  by true e =
      let same : map node_view new ≡ map node_view keys = ap (map node_view) e in
      record {
        more = [];
        nodes = same ∙ sym (append-nil (map node_view keys));
        sound = let P : List Node → Type 0 = λ xs. EachReadsEarlier held xs in subst P (sym same) sound;
        sorted = subst AreSorted (sym same) sorted;
        cost = let all = ap (count_by is_logic) same in omega (arith, all);
      }
  by false e =
      let same : map node_view new ≡ map node_view keys ++ node_view k ∷ [] = ap (map node_view) e ∙ map-append node_view keys (k ∷ []) in
      record {
        more = node_view k ∷ [];
        nodes = same;
        sound = let P : List Node → Type 0 = λ xs. EachReadsEarlier held xs in subst P (sym same) (reads_append held (map node_view keys) (node_view k) sound below);
        sorted = subst AreSorted (sym same) (sorted_append (map node_view keys) (node_view k) sorted sons);
        cost = let all = ap (count_by is_logic) same in let one = count_one (node_view k) (map node_view keys) in omega (arith, all, one);
      }

-- what was there keeps its value
pub kept : (held : ℕ) (old new more : List Node) (w : List Bool) (a : ℕ) → length w ≡ held → new ≡ old ++ more → a < held + length old → bit (grown w new) a ≡ bit (grown w old) a
kept held old new more w a size is below =
    ap (λ (xs : List Node). bit (grown w xs) a) is ∙ ap (λ (x : List Bool). bit x a) (grown_append w old more)
    ∙ grown_keeps (grown w old) more a (let long = length-grown w old in omega (arith, long, size, below)) where
      grown_append : (w : List Bool) (xs ys : List Node) → grown w (xs ++ ys) ≡ grown (grown w xs) ys
      grown_append w [] ys = refl
      grown_append w (x ∷ xs) ys = grown_append (w ++ node_bit x w ∷ []) xs ys

      length-grown : (w : List Bool) (xs : List Node) → length (grown w xs) ≡ length w + length xs
      length-grown w [] = omega arith
      length-grown w (x ∷ xs) = let h = length-grown (w ++ node_bit x w ∷ []) xs in let one = length-append w (node_bit x w ∷ []) in omega (arith, h, one)

by_values : (k : Node) (w : List Bool) → node_bit k w ≡ node_value k (bit w)
by_values (fixed b) w = refl
by_values (inv a) w = refl
by_values (nand a b) w = refl

same_values : (k : Node) (n : ℕ) (v u : ℕ → Bool) → ReadsBelow n k → ((a : ℕ) → a < n → v a ≡ u a) → node_value k v ≡ node_value k u
same_values (fixed b) n v u reads same = refl
same_values (inv a) n v u reads same = ap not (same a reads)
same_values (nand a b) n v u reads same = rw (same a reads.0, same b reads.1) refl

-- a node's value, from those of its sons
pub node_at : (t : Table) (r : ℕ) (k : Node) (w : List Bool) → IsSound t → IsNode t r k → length w ≡ t.held → value t w r ≡ node_value k (value t w)
node_at t r k w sound is size =
    let place : r ≡ length w + is.place = let e = is.is_place in omega (arith, e, size) in
    ap (value t w) place
    ∙ grown_at w (kinds t) is.place k (let P : ℕ → Type 0 = λ c. EachReadsEarlier c (kinds t) in subst P (sym size) sound.earlier) is.is_node ∙ by_values k (grown w (kinds t))

pub number_below_end : (t : Table) (r : ℕ) (k : Node) → IsNode t r k → r < end_of t
number_below_end t r k is = let e = is.is_place in let low = number_below (kinds t) is.place k is.is_node in omega (arith, e, low)

-- what `add` does
pub added : (t u : Table) (r : ℕ) (k : Node) → u.held ≡ t.held → IsGrown t.held (kinds t) (kinds u) k → ReadsBelow (end_of t) k → IsNode u r k → Adds t u (logic_cost k) (node_value k) r
added t u r k held g reads is =
    let earlier : EachReadsEarlier u.held (kinds u) = let P : ℕ → Type 0 = λ c. EachReadsEarlier c (kinds u) in subst P (sym held) g.sound in
    let sound : IsSound u = record { earlier = earlier; sorted = g.sorted } in
    record {
      held = held;
      more = g.more;
      nodes = g.nodes;
      sound = sound;
      cost = g.cost;
      within = number_below_end u r k is;
      gives = λ w size.
          node_at u r k w sound is (size ∙ sym held)
          ∙ same_values k (end_of t) (value u w) (value t w) reads (λ a below. kept t.held (kinds t) (kinds u) g.more w a size g.nodes below);
    }

-- nothing is added
pub stays : (t : Table) (n : ℕ) (f : (ℕ → Bool) → Bool) (r : ℕ) → IsSound t → r < end_of t → ((w : List Bool) → length w ≡ t.held → value t w r ≡ f (value t w)) → Adds t t n f r
stays t n f r sound within gives = record { held = refl; more = []; nodes = sym (append-nil (kinds t)); sound = sound; cost = omega arith; within = within; gives = gives }

-- a step after another
pub follow : (t u v : Table) (n j q : ℕ) (f g h : (ℕ → Bool) → Bool) (r s : ℕ) → Adds t u n f r → Adds u v j g s → n + j ≤ q
    → ((w : List Bool) → length w ≡ t.held → value u w r ≡ f (value t w) → ((a : ℕ) → a < end_of t → value u w a ≡ value t w a) → g (value u w) ≡ h (value t w))
    → Adds t v q h s
follow t u v n j q f g h r s first second cost same = record {
  held = second.held ∙ first.held;
  more = first.more ++ second.more;
  nodes = second.nodes ∙ ap (λ (xs : List Node). xs ++ second.more) first.nodes ∙ append_assoc (kinds t) first.more second.more;
  sound = second.sound;
  cost = let a = first.cost in let b = second.cost in omega (arith, a, b, cost);
  within = second.within;
  gives = λ w size.
      second.gives w (size ∙ sym first.held) ∙ same w size (first.gives w size) (λ a below. kept t.held (kinds t) (kinds u) first.more w a size first.nodes below);
}

-- the same, said otherwise
pub also : (t u : Table) (n q : ℕ) (f h : (ℕ → Bool) → Bool) (r : ℕ) → Adds t u n f r → n ≤ q → ((w : List Bool) → length w ≡ t.held → f (value t w) ≡ h (value t w)) → Adds t u q h r
also t u n q f h r a cost same = record {
  held = a.held;
  more = a.more;
  nodes = a.nodes;
  sound = a.sound;
  cost = let c = a.cost in omega (arith, c, cost);
  within = a.within;
  gives = λ w size. a.gives w size ∙ same w size;
}

pub on_ok : {A E : Type 0} (r : Result A E) (P Q : A → Type 0) → ((a : A) → P a → Q a) → IfOk r P → IfOk r Q
on_ok (Ok a) P Q f h = f a h
on_ok (Err e) P Q f h = tt

not_not : (a b : Bool) → a ≡ not b → b ≡ not a
not_not true true h = absurd (cc h)
not_not true false h = refl
not_not false true h = refl
not_not false false h = absurd (cc h)

-- the inverse of an inverse
pub inverse_back : (t : Table) (a b : ℕ) → IsSound t → IsNode t a (inv b) → Adds t t 1 (λ v. not (v a)) b
inverse_back t a b sound is =
    let below : b < t.held + is.place = reads_at t.held (kinds t) is.place (inv b) sound.earlier is.is_node in
    let low = number_below (kinds t) is.place (inv b) is.is_node in
    stays t 1 (λ v. not (v a)) b sound (omega (arith, below, low)) (λ w size. not_not (value t w a) (value t w b) (node_at t a (inv b) w sound is size))

pub known_node : (t : Table) (a : ℕ) (b : Bool) → IsSound t → IsNode t a (fixed b) → IsKnown t a b
known_node t a b sound is w size = node_at t a (fixed b) w sound is size

pub inverse_known : (t u : Table) (a r : ℕ) (b : Bool) → IsKnown t a b → Adds t u 0 (λ v. not b) r → Adds t u 1 (λ v. not (v a)) r
inverse_known t u a r b known h = also t u 0 1 (λ v. not b) (λ v. not (v a)) r h (omega arith) (λ w size. ap not (sym (known w size)))

abbrev neither : ℕ → ℕ → (ℕ → Bool) → Bool
neither a b v = not (v a && v b)

swap_and : (x y : Bool) → not (x && y) ≡ not (y && x)
swap_and true true = refl
swap_and true false = refl
swap_and false true = refl
swap_and false false = refl

twice : (x : Bool) → not x ≡ not (x && x)
twice true = refl
twice false = refl

-- the derived test of nodes
abbrev pub node_eq : Kind → Kind → Bool
node_eq = the_eq.ghosts.eq

both : (a b : Bool) → (a && b) ≡ true → (a ≡ true) × (b ≡ true)
both true b h = (refl, h)
both false b h = absurd (cc h)

same_bool : (a b : Bool) → bool_eq.ghosts.eq a b ≡ true → a ≡ b
same_bool true true h = refl
same_bool false false h = refl
same_bool true false h = absurd (cc h)
same_bool false true h = absurd (cc h)

pub node_same : (x y : Kind) → node_eq x y ≡ true → x ≡ y
node_same (kind.Fixed a) (kind.Fixed b) h = ap kind.Fixed (same_bool a b h)
node_same (kind.Inv a) (kind.Inv b) h = ap kind.Inv (eqb-true a b h)
node_same (kind.Nand a b) (kind.Nand d e) h =
    let p = both (a == d) (b == e) h in ap (λ (x : ℕ). kind.Nand x b) (eqb-true a d p.0) ∙ ap (λ (y : ℕ). kind.Nand d y) (eqb-true b e p.1)
node_same (kind.Fixed a) (kind.Inv b) h = absurd (cc h)
node_same (kind.Fixed a) (kind.Nand b d) h = absurd (cc h)
node_same (kind.Inv a) (kind.Fixed b) h = absurd (cc h)
node_same (kind.Inv a) (kind.Nand b d) h = absurd (cc h)
node_same (kind.Nand a b) (kind.Fixed d) h = absurd (cc h)
node_same (kind.Nand a b) (kind.Inv d) h = absurd (cc h)

-- what is a number stays one
pub end_grows : (t u : Table) (n a r : ℕ) (f : (ℕ → Bool) → Bool) → Adds t u n f r → a < end_of t → a < end_of u
end_grows t u n a r f h below =
    let held = h.held in
    let nodes = ap (λ (xs : List Node). length xs) h.nodes in
    let all = length-append (kinds t) h.more in
    omega (arith, held, nodes, all, below)
