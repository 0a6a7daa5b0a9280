use Rattle.std.proofs.Common.{◌≡◌, map, length, Option, None, Some, IfSome, IfNone, ap, sym, subst, ◌∙◌, arith}
use Rattle.net_theory.specs.Sources.{IsNumber}
use Rattle.net_theory.proofs.Basics.{number_once}
use Rattle.cell_match.specs.declared.gate.Gate.{Gate}
use Rattle.boog_cuts.proofs.Growing.{list_at}
use Rattle.boog_cuts.proofs.Sizes.{cut_fits}
use Rattle.boog_cuts.proofs.Whole.{map_long}
use Rattle.boog_cover.specs.Choices.{IsOfCut, NoneOfCuts}
use Rattle.boog_cover.proofs.Standing.{chosen_more, chosen_whole, stands_of_cut}
use Rattle.boog_cover.proofs.choice.choices.Goals as goal
use Rattle.boog_cover.proofs.choice.choices.Goals.{then-number-held, else-number-held}

if_some : (P : Gate → Type 0) (o : Option Gate) (g : Gate) → IfSome o P → o ≡ Some g → P g
if_some P None g h e = cc
if_some P (Some x) g h e = let same : x ≡ g = (cc) in subst P same h

if_none : (P : Type 0) (o : Option Gate) → IfNone o P → o ≡ None → P
if_none P None h e = h
if_none P (Some x) h e = cc

pub best-gate-requires : goal.best-gate-requires
best-gate-requires g c =
    let here = list_at (λ v. v.items) c.as_slice-lists.result.now c.loop-number.number c.index-lists-number.result c.loop-number-test.true c.index-lists-number.is in
    let at = subst (λ xs. IsNumber (map (λ v. v.items) xs) c.loop-number.number c.index-lists-number.result.items) c.as_slice-lists.ensures.value here in
    let once = (c.requires.cuts.cuts c.loop-number.number c.index-lists-number.result.items at).once in (
      cut_fits g.row.K c.requires.few,
      (
        c.requires.few,
        (
          c.requires.table,
          λ i d h. once i d (subst (λ xs. IsNumber xs i d) c.as_slice.ensures.value h),
        ),
      ),
    )

pub loop-number-preserved : goal.loop-number-preserved
loop-number-preserved g c =
    let cells = c.args.cells.now in
    let held = c.args.held in
    let nodes = c.args.graph.now.nodes in
    let lists = map (λ v. v.items) c.args.cuts.now.cuts.items in
    let n = c.loop-number.number in
    let more = c.in_ok-push-2.ensures.items in
    elim c.if-number-held.branch [
      | then-number-held w ↦
          let below = w.if-number-held.true in
          chosen_more cells held nodes lists c.loop-number.gates.items c.push-in-loop-number.new.self.items n c.if-number-held.gate c.loop-number.invariant more
          (λ low. w.gate-is)
          (λ gate e. let f : None ≡ Some gate = sym w.gate-is ∙ e in cc)
          (λ gate e. let f : None ≡ Some gate = sym w.gate-is ∙ e in cc)
          (λ list above at e. absurd (omega (arith, below, above)))
      | else-number-held w ↦
          let above = w.if-number-held.false in
          let here = list_at (λ v. v.items) c.as_slice-lists.result.now n w.index-lists-number.result c.loop-number-test.true w.index-lists-number.is in
          let at = subst (λ xs. IsNumber (map (λ v. v.items) xs) n w.index-lists-number.result.items) c.as_slice-lists.ensures.value here in
          let is = w.as_slice.ensures.value in
          chosen_more cells held nodes lists c.loop-number.gates.items c.push-in-loop-number.new.self.items n c.if-number-held.gate c.loop-number.invariant more
          (λ low. absurd (omega (arith, above, low)))
          (λ gate e. stands_of_cut cells held nodes lists n w.index-lists-number.result.items gate c.requires.cuts at
          (subst (λ xs. IsOfCut cells xs gate) is (if_some (λ x. IsOfCut cells w.as_slice.result.now x) w.best-gate.result gate w.best-gate.ensures.some (sym w.gate-is ∙ e))))
          (λ gate e. (if_some (λ x. IsOfCut cells w.as_slice.result.now x) w.best-gate.result gate w.best-gate.ensures.some (sym w.gate-is ∙ e)).few)
          (λ list above_n at_list e.
          let same = number_once lists n w.index-lists-number.result.items list at at_list in
          subst (λ xs. NoneOfCuts cells xs) (is ∙ same) (if_none (NoneOfCuts cells w.as_slice.result.now) w.best-gate.result w.best-gate.ensures.none (sym w.gate-is ∙ e)))
    ]

pub returns : goal.returns
returns g c =
    let lists = map (λ v. v.items) c.args.cuts.now.cuts.items in
    let over = c.loop-number-test.false in
    let end = c.loop-number.auto.number-end in
    let many = ap (λ xs. length xs) c.as_slice-lists.ensures.value in
    let long = map_long (λ v. v.items) c.args.cuts.now.cuts.items in
    chosen_whole c.args.cells.now c.args.held c.args.graph.now.nodes lists c.loop-number.gates.items c.loop-number.number (omega (arith, over, end, many, long)) c.loop-number.invariant
