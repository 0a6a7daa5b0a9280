-- What registers load, one after another.
use Rattle.std.proofs.Common.{◌≡◌, ◌⊎◌, inl, inr, ℕ, zero, suc, ◌+◌, ◌<◌, ◌≤◌, Bool, true, List, [], ◌∷◌, ◌++◌, map, length, refl, sym, ◌∙◌, ap, subst, arith, append_assoc, append-nil, length-append, if◌then◌else◌}
use Rattle.bool_expr.specs.Expression.{Expression, constant, val, size_of}
use Rattle.vlsi_base.specs.Member.{In, here, there}
use Rattle.machine_core.specs.Machine.{Register}
use Rattle.net_theory.specs.Sources.{IsNumber}
use Rattle.net_theory.proofs.Basics.{number_below, number_in}
use Rattle.graph_theory.specs.Graph.{Node}
use Rattle.graph_theory.proofs.Shown.{In-split}
use Rattle.subject_table.specs.declared.table.Table.{Table}
use Rattle.subject_table.specs.View.{kinds, end_of}
use Rattle.subject_table.specs.Grows.{IsSound, AreBelow, value, Adds}
use Rattle.subject_table.proofs.Tables.{also, follow, kept}
use Rattle.subject_table.proofs.Operators.{still, still_value, below_grows, same_numbers}
use Rattle.subject_graph.specs.Stages.{load_value, load_weight, Loads}

-- a register that always loads
pub always_loads : (t u : Table) (r : Register) (numbers : List ℕ) (own a : ℕ) → r.enable ≡ constant true → Adds t u (size_of r.next) (λ v. val r.next (map v numbers)) a
    → Adds t u (4 + (size_of r.next + size_of r.enable)) (λ v. load_value r (map v numbers) (v own)) a
always_loads t u r numbers own a is h =
    also t u (size_of r.next) (4 + (size_of r.next + size_of r.enable)) (λ v. val r.next (map v numbers)) (λ v. load_value r (map v numbers) (v own)) a h (omega arith)
    (λ w size. sym (ap (λ (e : Expression). if val e (map (value t w) numbers) then val r.next (map (value t w) numbers) else value t w own) is))

-- a register that loads by its enable
pub chooses : (t u v x : Table) (r : Register) (numbers : List ℕ) (own c a s : ℕ) → AreBelow (end_of t) numbers → own < end_of t
    → Adds t u (size_of r.enable) (λ y. val r.enable (map y numbers)) c → Adds u v (size_of r.next) (λ y. val r.next (map y numbers)) a
    → Adds v x 4 (λ y. if y c then y a else y own) s
    → Adds t x (4 + (size_of r.next + size_of r.enable)) (λ y. load_value r (map y numbers) (y own)) s
chooses t u v x r numbers own c a s below low first second third =
    let e = r.enable in
    let d = r.next in
    let two : Adds t v (size_of e + size_of d) (λ y. val d (map y numbers)) a =
    follow t u v (size_of e) (size_of d) (size_of e + size_of d) (λ y. val e (map y numbers)) (λ y. val d (map y numbers)) (λ y. val d (map y numbers)) c a first second (omega arith)
    (λ w size gives same. still_value t u (size_of e) c (λ y. val e (map y numbers)) d numbers w first size below) in
    follow t v x (size_of e + size_of d) 4 (4 + (size_of d + size_of e)) (λ y. val d (map y numbers)) (λ y. if y c then y a else y own) (λ y. load_value r (map y numbers) (y own)) a s two third
    (omega arith)
    (λ w size gives same.
    let is_c : value v w c ≡ val e (map (value t w) numbers) = still u v (size_of d) a c (λ y. val d (map y numbers)) w second (size ∙ sym first.held) first.within ∙ first.gives w size in
    ap (λ (k : Bool). if k then value v w a else value v w own) is_c
    ∙ ap (λ (k : Bool). if val e (map (value t w) numbers) then k else value v w own) gives
    ∙ ap (λ (k : Bool). if val e (map (value t w) numbers) then val d (map (value t w) numbers) else k) (same own low))

-- an element of a list with one more behind it
pub number_more : {A : Type 0} (xs : List A) (x y : A) (k : ℕ) → IsNumber (xs ++ x ∷ []) k y → IsNumber xs k y ⊎ ((k ≡ length xs) × (y ≡ x))
number_more [] x y zero h = inr (refl, h)
number_more [] x y (suc k) h = absurd h
number_more (z ∷ xs) x y zero h = inl h
number_more (z ∷ xs) x y (suc k) h = elim (number_more xs x y k h) [ inl g ↦ inl g | inr g ↦ inr (let e = g.0 in omega (arith, e), g.1) ]

number_last : {A : Type 0} (xs : List A) (x y : A) → IsNumber (xs ++ x ∷ []) (length xs) y → y ≡ x
number_last [] x y h = h
number_last (z ∷ xs) x y h = number_last xs x y h

weight_more : (rs : List Register) (r : Register) → load_weight (rs ++ r ∷ []) ≡ load_weight rs + (4 + (size_of r.next + size_of r.enable))
weight_more [] r = omega arith
weight_more (x ∷ rs) r = let h = weight_more rs r in omega (arith, h)

pub starts : (t : Table) (numbers : List ℕ) (first : ℕ) → IsSound t → Loads t t numbers first [] []
starts t numbers first sound = record {
  held = refl;
  more = [];
  nodes = sym (append-nil (kinds t));
  sound = sound;
  cost = omega arith;
  known = λ a h. elim h [ ];
  count = refl;
  each = λ k r a p q. absurd p;
}

grows : (t u : Table) (numbers : List ℕ) (first : ℕ) (rs : List Register) (loads : List ℕ) → Loads t u numbers first rs loads → end_of t ≤ end_of u
grows t u numbers first rs loads l =
    let same = l.held in
    let nodes = ap (λ (xs : List Node). length xs) l.nodes in
    let all = length-append (kinds t) l.more in
    omega (arith, same, nodes, all)

-- what was known before is known
pub still_below : (t u : Table) (numbers : List ℕ) (first : ℕ) (rs : List Register) (loads : List ℕ) → Loads t u numbers first rs loads → AreBelow (end_of t) numbers
    → AreBelow (end_of u) numbers
still_below t u numbers first rs loads l below a h = let low = below a h in let up = grows t u numbers first rs loads l in omega (arith, low, up)

pub own_below : (t u : Table) (numbers : List ℕ) (first : ℕ) (rs : List Register) (loads : List ℕ) (own : ℕ) → Loads t u numbers first rs loads → own < t.held → own < end_of u
own_below t u numbers first rs loads own l low = let up = grows t u numbers first rs loads l in omega (arith, low, up)

pub one_more : (t u v : Table) (numbers : List ℕ) (first own : ℕ) (rs : List Register) (loads : List ℕ) (r : Register) (a : ℕ) → AreBelow (end_of t) numbers → own < t.held
    → own ≡ first + length rs → Loads t u numbers first rs loads
    → Adds u v (4 + (size_of r.next + size_of r.enable)) (λ y. load_value r (map y numbers) (y own)) a
    → Loads t v numbers first (rs ++ r ∷ []) (loads ++ a ∷ [])
one_more t u v numbers first own rs loads r a below low is l added = record {
  held = added.held ∙ l.held;
  more = l.more ++ added.more;
  nodes = added.nodes ∙ ap (λ (xs : List Node). xs ++ added.more) l.nodes ∙ append_assoc (kinds t) l.more added.more;
  sound = added.sound;
  cost = let x = added.cost in let y = l.cost in let z = weight_more rs r in omega (arith, x, y, z);
  known = λ x h. elim (In-split x loads (a ∷ []) h) [
    | inl g ↦ below_grows u v _ a _ loads added l.known x g
    | inr g ↦ only x g added.within
  ];
  count = let x = l.count in let y = length-append loads (a ∷ []) in let z = length-append rs (r ∷ []) in omega (arith, x, y, z);
  each = λ k s b p q w size. by k s b w size (number_more rs r s k p) q;
} where
  n : ℕ
  n = 4 + (size_of r.next + size_of r.enable)

  only : (x : ℕ) → In x (a ∷ []) → a < end_of v → x < end_of v
  only x here h = h
  only x (there g) h = elim g [ ]

  -- an earlier register's number, and the last one's
  by : (k : ℕ) (s : Register) (b : ℕ) (w : List Bool) → length w ≡ t.held → IsNumber rs k s ⊎ ((k ≡ length rs) × (s ≡ r)) → IsNumber (loads ++ a ∷ []) k b
      → value v w b ≡ load_value s (map (value t w) numbers) (value t w (first + k))
  by k s b w size (inl p) q = elim (number_more loads a b k q) [
    | inl g ↦
        still u v n a b (λ y. load_value r (map y numbers) (y own)) w added (size ∙ sym l.held) (l.known b (number_in loads k b g)) ∙ l.each k s b p g w size
    | inr g ↦ let x = g.0 in let y = number_below rs k s p in let z = l.count in absurd (omega (arith, x, y, z))
  ]
  by k s b w size (inr p) q =
      let up = grows t u numbers first rs loads l in
      let place : own ≡ first + k = let x = p.0 in omega (arith, x, is) in
      let at_end : k ≡ length loads = let x = p.0 in let y = l.count in omega (arith, x, y) in
      let last : b ≡ a = number_last loads a b (subst (λ (j : ℕ). IsNumber (loads ++ a ∷ []) j b) at_end q) in
      let numbers_still : map (value u w) numbers ≡ map (value t w) numbers =
      same_numbers (value u w) (value t w) numbers (λ x h. kept t.held (kinds t) (kinds u) l.more w x size l.nodes (below x h)) in
      let own_still : value u w own ≡ value t w own = kept t.held (kinds t) (kinds u) l.more w own size l.nodes (omega (arith, low)) in
      ap (value v w) last ∙ added.gives w (size ∙ sym l.held)
      ∙ ap (λ (bs : List Bool). load_value r bs (value u w own)) numbers_still
      ∙ ap (load_value r (map (value t w) numbers)) (own_still ∙ ap (value t w) place)
      ∙ ap (λ (z : Register). load_value z (map (value t w) numbers) (value t w (first + k))) (sym p.1)
