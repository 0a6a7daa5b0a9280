use Rattle.std.proofs.Common.{◌≡◌, ◌<◌, ◌+◌, ◌++◌, ◌∷◌, [], inl, inr, ℕ, Bool, true, false, IsTrue, List, nat_eq, length, ap, sym, subst, ◌∙◌, arith, rules, length-append}
use Rattle.std.proofs.lemmas.Bool.{cases_lt}
use Rattle.std.specs.HashMap.{get}
use Rattle.cell_match.specs.Places.{times}
use Rattle.cell_match.specs.Cells.{inputs_of}
use Rattle.cell_match.specs.Matches.{IsBegun, KnowsEach}
use Rattle.cell_match.proofs.Filling.{begun_more, below_all, Fills, fills_more, fills_skipped}
use Rattle.cell_match.proofs.table.+fill.Goals as goal
use Rattle.cell_match.proofs.table.+fill.Goals.{then-not-has+in_ok-fill, else-not-has}

none_there : (n : ℕ) (b : Bool) → b ≡ false → (0 < n → IsTrue b) → n ≡ 0
none_there n true e h = cc
none_there n false e h = elim (cases_lt 0 n) [
  | inl some ↦ let f = h some in cc
  | inr none ↦ omega arith
]

some_there : (n : ℕ) (b : Bool) → b ≡ true → (IsTrue b → 0 < n) → 0 < n
some_there n true e h = h (search rules)
some_there n false e h = cc

pub fill-requires : goal.fill-requires
fill-requires t c =
    let begun = c.args.order.now in
    let n = inputs_of c.args.cells.now c.args.k in
    let new = none_there (times c.loop-place.place begun) c.has.result c.if-not-has.true c.has.ensures.1 in
    let more : IsBegun n (begun ++ c.loop-place.place ∷ []) = begun_more n begun c.loop-place.place c.requires.begun c.if-order-inputs.false c.loop-place-test.true new in
    let is = c.as_slice.ensures.value ∙ c.more-longer.ensures in
    let many = ap (λ (xs : List ℕ). length xs) is in
    let longer = length-append begun (c.loop-place.place ∷ []) in
    let most = more.many in (
      omega (arith, many, longer, most, c.decreases),
      (c.requires.few, (c.requires.there, (subst (λ (xs : List ℕ). IsBegun n xs) (sym is) more, c.loop-place.invariant.found))),
    )

pub loop-place-preserved : goal.loop-place-preserved
loop-place-preserved t c =
    let cells = c.args.cells.now in
    let begun = c.args.order.now in
    let many = c.requires.begun.many in
    let other = c.if-order-inputs.false in
    let short : length begun < inputs_of cells c.args.k = omega (arith, many, other) in
    let i = c.loop-place.invariant in
    let old = λ (q : ℕ). get nat_eq c.args.map.now q in
    elim c.if-not-has.branch [
      | then-not-has+in_ok-fill w ↦
          let is = w.as_slice.ensures.value ∙ w.more-longer.ensures in
          let every = subst (λ (xs : List ℕ). KnowsEach cells c.args.k xs (λ q. get nat_eq w.fill.new.map q)) is w.in_ok-fill.ensures.every in
          subst (λ m. Fills cells c.args.k begun (c.loop-place.place + 1) old (λ q. get nat_eq m q)) (sym w.map-is)
          (fills_more cells c.args.k begun c.loop-place.place old (λ q. get nat_eq c.loop-place.map q) (λ q. get nat_eq w.fill.new.map q) short i
          w.in_ok-fill.ensures.found w.in_ok-fill.ensures.grows every)
      | else-not-has w ↦
          let there = some_there (times c.loop-place.place begun) c.has.result w.if-not-has.false c.has.ensures.0 in
          subst (λ m. Fills cells c.args.k begun (c.loop-place.place + 1) old (λ q. get nat_eq m q)) (sym w.map-is)
          (fills_skipped cells c.args.k begun c.loop-place.place old (λ q. get nat_eq c.loop-place.map q) short i there)
    ]

pub returns-clause-every : goal.returns-clause-every
returns-clause-every t c =
    let many = c.requires.begun.many in
    let other = c.if-order-inputs.false in
    below_all c.args.cells.now c.args.k c.args.order.now c.loop-place.place (λ w. get nat_eq c.loop-place.map w) c.loop-place-test.false
    (omega (arith, many, other)) c.loop-place.invariant.every
