-- Values of targets, and where a name stands among them.
use Rattle.std.proofs.Common.{◌≡◌, ◌≢◌, ℕ, ◌+◌, ◌<◌, ◌≤◌, Bool, true, false, inl, inr, List, length, get_or, Option, Some, refl, sym, ap, ◌∙◌, subst, arith, if◌then◌else◌}
use Rattle.std.specs.Prelude.{◌==◌}
use Rattle.std.specs.List.Sorted.{IsPartitionedBy}
use Rattle.std.specs.Ordering.{is_lt}
use Rattle.std.specs.declared.cmp.Ordering.{Ordering}
use Rattle.std.specs.declared.cmp.Ordering.TheVariants.{Less, Equal, Greater}
use Rattle.std.proofs.lemmas.Bool.{cases_lt, eqb-true, eq-eqb}
use Rattle.std.proofs.lemmas.Cmp.{tied_itself}
use Rattle.vlsi_base.specs.declared.name.Name.{Name}
use Rattle.vlsi_base.specs.Name.{name_cmp}
use Rattle.vlsi_base.proofs.NameOrder.{name_total}
use Rattle.bool_expr.specs.declared.expr.Expr.{Expr}
use Rattle.bool_expr.specs.Expression.{Expression}
use Rattle.bool_expr.specs.View.{view}
use Rattle.machine_core.specs.Checked.{AreInOrder}
use Rattle.fsm_machine.specs.Statements.{output}
use Rattle.fsm_machine.specs.MachineOf.{output_given}
use Rattle.fsm_machine.specs.Signals.{assigned}
use Rattle.fsm_code.specs.Sought.{nameless, Stands, IsNowhere, EachBecomes}
use Rattle.fsm_code.proofs.SameName.{given_where, given_elsewhere}

-- a name that stands before another one that is below a third is below that too
pub parted : (names : List Name) (name : Name) → AreInOrder names → IsPartitionedBy (λ n. is_lt (name_cmp n name)) names
parted names name ordered i j d upto below holds = elim (cases_lt i j) [
  | inl lt ↦ by (name_cmp (get_or names j d) name) refl holds (λ less. ap is_lt (name_total.trans (get_or names i d) (get_or names j d) name (ordered i j d lt below) less))
  | inr ge ↦ let at : j ≡ i = omega (arith, upto, ge) in subst (λ (k : ℕ). is_lt (name_cmp (get_or names k d) name) ≡ true) at holds
] where
  by : (o : Ordering) → name_cmp (get_or names j d) name ≡ o → is_lt (name_cmp (get_or names j d) name) ≡ true
      → (name_cmp (get_or names j d) name ≡ Less → is_lt (name_cmp (get_or names i d) name) ≡ true) → is_lt (name_cmp (get_or names i d) name) ≡ true
  by Less e h f = f e
  by Equal e h f = absurd (let g : is_lt (name_cmp (get_or names j d) name) ≡ false = ap is_lt e in cc (g, h))
  by Greater e h f = absurd (let g : is_lt (name_cmp (get_or names j d) name) ≡ false = ap is_lt e in cc (g, h))

-- what stands before the place is below the name, and what stands there isn't: then the name stands there or nowhere
pub nowhere : (names : List Name) (name : Name) (place : ℕ) → AreInOrder names
    → ((k : ℕ) (d : Name) → k < place → is_lt (name_cmp (get_or names k d) name) ≡ true)
    → ((k : ℕ) (d : Name) → place ≤ k → k < length names → is_lt (name_cmp (get_or names k d) name) ≡ false)
    → (place < length names → (d : Name) → get_or names place d ≢ name) → IsNowhere names name
nowhere names name place ordered before behind apart k d within is = elim (cases_lt k place) [
  | inl lt ↦ same (before k d lt)
  | inr ge ↦ elim (cases_lt place k) [
    | inl lt ↦
        let less : name_cmp (get_or names place d) name ≡ Less = subst (λ (n : Name). name_cmp (get_or names place d) n ≡ Less) is (ordered place k d lt within) in
        let low : is_lt (name_cmp (get_or names place d) name) ≡ true = ap is_lt less in
        let high : is_lt (name_cmp (get_or names place d) name) ≡ false = behind place d (omega arith) (omega (arith, lt, within)) in
        cc (low, high)
    | inr ge2 ↦ let at : k ≡ place = omega (arith, ge, ge2) in apart (omega (arith, at, within)) d (subst (λ (x : ℕ). get_or names x d ≡ name) at is)
  ]
] where
  same : is_lt (name_cmp (get_or names k d) name) ≡ true → ⊥
  same h =
      let tied : is_lt (name_cmp (get_or names k d) name) ≡ false = subst (λ (n : Name). is_lt (name_cmp n name) ≡ false) (sym is) (ap is_lt (tied_itself name_total name)) in
      cc (h, tied)

-- the test of one place
pub at_place : (k : ℕ) (x y : Expression) → (if k == k then x else y) ≡ x
at_place k x y = rw (eq-eqb k k refl) refl

pub elsewhere : (j k : ℕ) (x y : Expression) → j ≢ k → (if j == k then x else y) ≡ y
elsewhere j k x y apart = by (j == k) refl where
  by : (r : Bool) → (j == k) ≡ r → (if j == k then x else y) ≡ y
  by true e = absurd (apart (eqb-true j k e))
  by false e = rw e refl

-- the values below k are made, and the others are as they were
pub record MadeBelow (made : ℕ → Expression → Expression) (olds news : List Expr) (k : ℕ) : Type 0 where
  pub count : length news ≡ length olds
  pub below : (j : ℕ) (d : Expr) → j < length olds → j < k → view (get_or news j d) ≡ made j (view (get_or olds j d))
  pub behind : (j : ℕ) (d : Expr) → j < length olds → k ≤ j → view (get_or news j d) ≡ view (get_or olds j d)

pub made_none : (made : ℕ → Expression → Expression) (olds : List Expr) → MadeBelow made olds olds 0
made_none made olds = record { count = refl; below = λ j d low none. absurd (omega (arith, none)); behind = λ j d low from. refl }

pub made_more : (made : ℕ → Expression → Expression) (olds mids news : List Expr) (k : ℕ) (one : Expression → Expression)
    → ((v : Expression) → one v ≡ made k v) → EachBecomes (λ j v. if j == k then one v else v) mids news → MadeBelow made olds mids k → MadeBelow made olds news (k + 1)
made_more made olds mids news k one same put m = record {
  count = put.0 ∙ m.count;
  below = λ j d low upto.
      let w : view (get_or news j d) ≡ (if j == k then one (view (get_or mids j d)) else view (get_or mids j d)) = put.1 j d (omega (arith, low, m.count)) in
      elim (cases_lt j k) [
        | inl lt ↦ w ∙ elsewhere j k (one (view (get_or mids j d))) (view (get_or mids j d)) (λ e. omega (arith, e, lt)) ∙ m.below j d low lt
        | inr ge ↦
            let at : k ≡ j = omega (arith, upto, ge) in
            let here : view (get_or news k d) ≡ one (view (get_or mids k d)) =
            subst (λ (x : ℕ). view (get_or news x d) ≡ (if x == k then one (view (get_or mids x d)) else view (get_or mids x d))) (sym at) w
            ∙ at_place k (one (view (get_or mids k d))) (view (get_or mids k d)) in
            let before : view (get_or mids k d) ≡ view (get_or olds k d) = m.behind k d (omega (arith, at, low)) (omega arith) in
            subst (λ (x : ℕ). view (get_or news x d) ≡ made x (view (get_or olds x d))) at (here ∙ ap one before ∙ same (view (get_or olds k d)))
      ];
  behind = λ j d low from.
      put.1 j d (omega (arith, low, m.count))
      ∙ elsewhere j k (one (view (get_or mids j d))) (view (get_or mids j d)) (λ e. omega (arith, e, from))
      ∙ m.behind j d low (omega (arith, from));
}

-- once all are made
pub made_all : (made : ℕ → Expression → Expression) (olds news : List Expr) (k : ℕ) → length olds ≤ k → MadeBelow made olds news k → EachBecomes made olds news
made_all made olds news k all m = (m.count, λ j d low. m.below j d low (omega (arith, low, all)))

-- nothing is made of the values
pub made_same : (made : ℕ → Expression → Expression) (olds : List Expr) → ((k : ℕ) (v : Expression) → k < length olds → made k v ≡ v) → EachBecomes made olds olds
made_same made olds same = (refl, λ k d low. sym (same k (view (get_or olds k d)) low))

-- one value is made, and it alone
pub made_one : (made : ℕ → Expression → Expression) (olds news : List Expr) (k : ℕ) (one : Expression → Expression) → ((v : Expression) → one v ≡ made k v)
    → ((j : ℕ) (v : Expression) → j < length olds → j ≢ k → made j v ≡ v) → EachBecomes (λ j v. if j == k then one v else v) olds news → EachBecomes made olds news
made_one made olds news k one same others put = (put.0, λ j d low. by j d low (j == k) refl) where
  by : (j : ℕ) (d : Expr) → j < length olds → (r : Bool) → (j == k) ≡ r → view (get_or news j d) ≡ made j (view (get_or olds j d))
  by j d low true e =
      let at : k ≡ j = sym (eqb-true j k e) in
      put.1 j d low ∙ (rw e refl) ∙ same (view (get_or olds j d)) ∙ ap (λ (x : ℕ). made x (view (get_or olds j d))) at
  by j d low false e =
      let apart : j ≢ k = λ is. absurd (let h : (j == k) ≡ true = eq-eqb j k is in cc (h, e)) in
      put.1 j d low ∙ elsewhere j k (one (view (get_or olds j d))) (view (get_or olds j d)) apart ∙ sym (others j (view (get_or olds j d)) low apart)

-- names in order are different ones
pub differ : (names : List Name) (j k : ℕ) → AreInOrder names → j < length names → k < length names → j ≢ k → get_or names j nameless ≢ get_or names k nameless
differ names j k ordered hj hk apart is = elim (cases_lt j k) [
  | inl lt ↦ by (get_or names j nameless) (get_or names k nameless) is (ordered j k nameless lt hk)
  | inr ge ↦ elim (cases_lt k j) [
    | inl lt ↦ by (get_or names k nameless) (get_or names j nameless) (sym is) (ordered k j nameless lt hj)
    | inr ge2 ↦ apart (omega (arith, ge, ge2))
  ]
] where
  by : (a b : Name) → a ≡ b → name_cmp a b ≡ Less → ⊥
  by a b e less =
      let tied : name_cmp a b ≡ Equal = subst (λ (n : Name). name_cmp a n ≡ Equal) e (tied_itself name_total a) in
      let no : Less ≡ Equal = sym less ∙ tied in
      cc no

-- an output's value is put in its place
pub put_output : (names : List Name) (place : ℕ) (target : Name) (value e : Expression) (p : Option ℕ) (olds news : List Expr)
    → AreInOrder names → Stands names place target → value ≡ e → length olds ≡ length names
    → EachBecomes (λ k v. if k == place then assigned (Some value) p v else v) olds news
    → EachBecomes (λ k v. assigned (output_given (get_or names k nameless) (output target e)) p v) olds news
put_output names place target value e p olds news ordered stands value_is many put =
    made_one (λ k v. assigned (output_given (get_or names k nameless) (output target e)) p v) olds news place (λ v. assigned (Some value) p v)
    (λ v. ap (λ (x : Expression). assigned (Some x) p v) value_is
    ∙ ap (λ (o : Option Expression). assigned o p v) (sym (given_where target (get_or names place nameless) e (sym (stands.1 nameless)))))
    (λ j v low apart. ap (λ (o : Option Expression). assigned o p v) (given_elsewhere target (get_or names j nameless) e
    (λ is. differ names j place ordered (omega (arith, low, many)) stands.0 apart (sym is ∙ sym (stands.1 nameless)))))
    put
