-- Equations from one of them on.
use Rattle.std.proofs.Common.{◌≡◌, ℕ, suc, ◌+◌, ◌<◌, ◌≤◌, Bool, List, [], ◌∷◌, ◌++◌, map, length, drop, refl, sym, ◌∙◌, ap, subst, arith, add-one, drop-cons, length-append, append_assoc, count_by}
use Rattle.std.specs.List.{slice_index_or}
use Rattle.bool_expr.specs.Expression.{val, size_of}
use Rattle.bool_expr.specs.View.{view}
use Rattle.machine_core.specs.declared.equation.Equation.{Equation}
use Rattle.machine_core.specs.Built.{built}
use Rattle.machine_core.specs.Order.{EachReadsBelow}
use Rattle.machine_core.specs.View.{equation_view}
use Rattle.vlsi_base.specs.Member.{In, here, there}
use Rattle.graph_theory.specs.Graph.{Node, is_logic}
use Rattle.graph_theory.proofs.Shown.{In-split}
use Rattle.subject_table.specs.declared.table.Table.{Table}
use Rattle.subject_table.specs.View.{kinds, end_of}
use Rattle.subject_table.specs.Grows.{IsSound, AreBelow, value, Adds, weight}
use Rattle.subject_table.proofs.Operators.{still, same_numbers, below_grows}
use Rattle.std.proofs.Common.{inl, inr}
use Rattle.machine_core.specs.Machine.{Equation as AbstractEquation}
use Rattle.subject_table.specs.Rules.{Then, Becomes, Solve}
use Rattle.subject_table.specs.Makes.{Makes, Leads}
use Rattle.subject_table.proofs.Making.{goes_on as leads_on, arrived}

-- what is left of the equations from number i on gives the whole
pub record Goes (t u : Table) (start numbers : List ℕ) (equations : List Equation) (i : ℕ) : Type 0 where
  pub held : u.held ≡ t.held
  pub more : List Node
  pub nodes : kinds u ≡ kinds t ++ more
  pub sound : IsSound u
  pub cost : count_by is_logic (kinds u) + weight (map equation_view (drop i equations)) ≤ count_by is_logic (kinds t) + weight (map equation_view equations)
  pub known : AreBelow (end_of u) numbers
  pub below : EachReadsBelow (length numbers) (map equation_view (drop i equations))
  pub same : (w : List Bool) → length w ≡ t.held
      → built (map (value u w) numbers) (map equation_view (drop i equations)) ≡ built (map (value t w) start) (map equation_view equations)

rest-cons : (equations : List Equation) (i : ℕ) (e : Equation) → i < length equations → e ≡ slice_index_or equations i e
    → map equation_view (drop i equations) ≡ equation_view e ∷ map equation_view (drop (i + 1) equations)
rest-cons equations i e h is =
    ap (map equation_view) (drop-cons equations i e h) ∙ ap (λ x. equation_view x ∷ map equation_view (drop (suc i) equations)) (sym is)
    ∙ ap (λ k. equation_view e ∷ map equation_view (drop k equations)) (sym (add-one i))

map-append : {A B : Type 0} (f : A → B) (xs ys : List A) → map f (xs ++ ys) ≡ map f xs ++ map f ys
map-append f [] ys = refl
map-append {B = B} f (x ∷ xs) ys = ap (λ (zs : List B). f x ∷ zs) (map-append f xs ys)

one_more : (n r : ℕ) (numbers : List ℕ) → AreBelow n numbers → r < n → AreBelow n (numbers ++ r ∷ [])
one_more n r numbers below low a is = elim (In-split a numbers (r ∷ []) is) [ inl x ↦ below a x | inr y ↦ only a r y low ] where
  only : (a r : ℕ) → In a (r ∷ []) → r < n → a < n
  only a r here low = low
  only a r (there k) low = elim k [ ]

pub goes_on : (t u v : Table) (start numbers : List ℕ) (equations : List Equation) (i r : ℕ) (e : Equation) → i < length equations → e ≡ slice_index_or equations i e
    → Goes t u start numbers equations i → Adds u v (size_of (view e.expr)) (λ y. val (view e.expr) (map y numbers)) r → Goes t v start (numbers ++ r ∷ []) equations (i + 1)
goes_on t u v start numbers equations i r e h is c added =
    let P : List _ → Type 0 = λ x. EachReadsBelow (length numbers) x in
    let Q : ℕ → Type 0 = λ n. EachReadsBelow n (map equation_view (drop (i + 1) equations)) in
    record {
      held = added.held ∙ c.held;
      more = c.more ++ added.more;
      nodes = added.nodes ∙ ap (λ (xs : List Node). xs ++ added.more) c.nodes ∙ append_assoc (kinds t) c.more added.more;
      sound = added.sound;
      cost = let a = added.cost in let b = c.cost in let d = ap weight (rest-cons equations i e h is) in omega (arith, a, b, d);
      known = one_more (end_of v) r numbers (below_grows u v (size_of (view e.expr)) r (λ y. val (view e.expr) (map y numbers)) numbers added c.known) added.within;
      below = subst Q (sym (length-append numbers (r ∷ []))) (subst P (rest-cons equations i e h is) c.below).1;
      same = λ w size.
          let size_u : length w ≡ u.held = size ∙ sym c.held in
          let kept : map (value v w) numbers ≡ map (value u w) numbers =
          same_numbers (value v w) (value u w) numbers (λ a listed. still u v (size_of (view e.expr)) r a (λ y. val (view e.expr) (map y numbers)) w added size_u (c.known a listed)) in
          let all : map (value v w) (numbers ++ r ∷ []) ≡ map (value u w) numbers ++ val (view e.expr) (map (value u w) numbers) ∷ [] =
          map-append (value v w) numbers (r ∷ []) ∙ ap (λ (xs : List Bool). xs ++ value v w r ∷ []) kept ∙ ap (λ (b : Bool). map (value u w) numbers ++ b ∷ []) (added.gives w size_u) in
          ap (λ (x : List Bool). built x (map equation_view (drop (i + 1) equations))) all ∙ sym (ap (built (map (value u w) numbers)) (rest-cons equations i e h is)) ∙ c.same w size;
    }

-- the rule of what is left
pub solves_on : (t u v : Table) (start numbers : List ℕ) (equations : List Equation) (i r : ℕ) (e : Equation) → i < length equations → e ≡ slice_index_or equations i e
    → Leads t u (Solve (map equation_view equations) start) (Solve (map equation_view (drop i equations)) numbers) → Makes u v (Becomes (view e.expr) numbers) r
    → Leads t v (Solve (map equation_view equations) start) (Solve (map equation_view (drop (i + 1) equations)) (numbers ++ r ∷ []))
solves_on t u v start numbers equations i r e h is k m =
    let w = Solve (map equation_view equations) start in
    let rest = map equation_view (drop (i + 1) equations) in
    let first : Leads t u w (Then (Becomes (view e.expr) numbers) (λ x. Solve rest (numbers ++ x ∷ []))) =
    subst (λ (xs : List AbstractEquation). Leads t u w (Solve xs numbers)) (rest-cons equations i e h is) k in
    leads_on t u v w (Becomes (view e.expr) numbers) (λ x. Solve rest (numbers ++ x ∷ [])) r first m

pub solves_end : (t u : Table) (start numbers : List ℕ) (equations : List Equation) (i : ℕ) → drop i equations ≡ []
    → Leads t u (Solve (map equation_view equations) start) (Solve (map equation_view (drop i equations)) numbers) → Makes t u (Solve (map equation_view equations) start) numbers
solves_end t u start numbers equations i none k =
    let w = Solve (map equation_view equations) start in
    arrived t u w numbers (subst (λ (xs : List Equation). Leads t u w (Solve (map equation_view xs) numbers)) none k)
