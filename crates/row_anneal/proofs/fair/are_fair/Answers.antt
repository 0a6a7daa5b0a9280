use Rattle.std.proofs.Common.{ℕ, List, ◌≡◌, ◌↔◌, Bool, IsTrue, Result, Ok, Err, IfOk, length, map, refl, sym, ap, subst, ◌∙◌, rules, arith}
use Rattle.row_meaning.specs.First.{AreEven}
use Rattle.row_fill.specs.Law.{HoldsEachOnce}
use Rattle.row_fill.proofs.Filling.{items}
use Rattle.row_anneal.proofs.Counted.{each_within, even_within}
use Rattle.row_anneal.proofs.fair.are_fair.Goals as goal

-- where the rows are even it is asked whether they hold each cell once
fair_so : {E : Type 0} (r : Result Bool E) (n many count : ℕ) (columns : List ℕ) (rows : List (List ℕ)) → count ≡ many → AreEven columns rows
    → IfOk r (λ each. IsTrue each ↔ HoldsEachOnce n count rows) → IfOk r (λ fair. IsTrue fair ↔ (HoldsEachOnce n many rows × AreEven columns rows))
fair_so (Ok b) n many count columns rows same even h = (
  λ t. (subst (λ (m : ℕ). HoldsEachOnce n m rows) same (h.0 t), even),
  λ p. h.1 (subst (λ (m : ℕ). HoldsEachOnce n m rows) (sym same) p.0),
)
fair_so (Err e) n many count columns rows same even h = tt

pub returns-then-not-are_within : goal.returns-then-not-are_within
returns-then-not-are_within c = (
  λ t. absurd (search (rules, t)),
  λ h. (let all = each_within c.args.columns.now c.args.rows.now c.bound.result h.1 c.bound.ensures in
      let said = c.are_within.ensures.1 all in
      absurd (search (rules, said, c.if-not-are_within.true))),
)

pub returns : goal.returns
returns c =
    fair_so c.hold_each_once.result (length c.args.columns.now) c.args.many (length c.args.rows.now) c.args.columns.now (map items c.args.rows.now) (search (rules, c.if-rows-many.false))
    (even_within c.args.columns.now c.args.rows.now c.bound.result (c.are_within.ensures.0 (search (rules, c.if-not-are_within.false))) c.bound.ensures) c.hold_each_once.ensures
