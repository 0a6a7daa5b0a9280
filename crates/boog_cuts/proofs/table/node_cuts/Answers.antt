use Rattle.std.proofs.Common.{◌≡◌, ◌<◌, ℕ, List, map, length, ap, sym, subst, arith}
use Rattle.net_theory.specs.Sources.{IsNumber}
use Rattle.graph_theory.specs.Graph.{Node, ReadsBelow}
use Rattle.subject_table.specs.View.{node_view}
use Rattle.cell_match.specs.declared.cut.Cut.{Cut}
use Rattle.boog_cuts.specs.Cuts.{AreCuts, AreNodeCuts}
use Rattle.boog_cuts.specs.Lists.{AreMade, FromOne, FromTwo, BeginsOne, BeginsTwo}
use Rattle.boog_cuts.proofs.Growing.{list_at, if_ok}
use Rattle.boog_cuts.proofs.Sizes.{cut_fits}
use Rattle.boog_cuts.proofs.Tabling.{inv_node, nand_node}
use Rattle.boog_cuts.proofs.table.node_cuts.Goals as goal

long_one : {K : ℕ} (a : ℕ) (first : List (Cut K)) → AreCuts a first → (c : Cut K) → IsNumber first 0 c → length c.leaves.items ≡ 1
long_one a first are c at = ap (λ (xs : List ℕ). length xs) (are.first c at)

pub inv_cuts-requires : goal.inv_cuts-requires
inv_cuts-requires g c =
    let low : c.in-Inv.a < c.args.number = subst (λ (n : Node). ReadsBelow c.args.number n) (ap node_view c.in-Inv.is) c.requires.reads in
    let next = c.requires.next in
    let at = list_at (λ v. v.items) c.args.cuts.now c.in-Inv.a c.index-cuts-a.result (omega arith) c.index-cuts-a.is in
    let there = (c.requires.sound c.in-Inv.a c.index-cuts-a.result.items at).there in
    let many = ap (λ xs. length xs) c.as_slice.ensures.value in
    let some = c.requires.some in
    (cut_fits g.row.K c.requires.few, (omega (arith, some), (c.requires.few, omega (arith, there, many))))

pub returns-in-Inv : goal.returns-in-Inv
returns-in-Inv g c =
    let low : c.in-Inv.a < c.args.number = subst (λ (n : Node). ReadsBelow c.args.number n) (ap node_view c.in-Inv.is) c.requires.reads in
    let next = c.requires.next in
    let lists = map (λ v. v.items) c.args.cuts.now in
    let first = c.index-cuts-a.result.items in
    let at = list_at (λ v. v.items) c.args.cuts.now c.in-Inv.a c.index-cuts-a.result (omega arith) c.index-cuts-a.is in
    let is = c.as_slice.ensures.value in
    if_ok (λ own. AreMade (FromOne c.as_slice.result.now) c.args.number own.items) (λ own. BeginsOne c.as_slice.result.now own.items)
    (λ own. AreNodeCuts (node_view c.args.node.now) c.args.number lists own.items) c.inv_cuts.result
    (λ own made begins.
    subst (λ (n : Node). AreNodeCuts n c.args.number lists own.items) (sym (ap node_view c.in-Inv.is))
    (inv_node c.args.number c.in-Inv.a lists first own.items low at (c.requires.sound c.in-Inv.a first at)
    (subst (λ xs. AreMade (FromOne xs) c.args.number own.items) is made) (subst (λ xs. BeginsOne xs own.items) is begins)))
    c.inv_cuts.ensures.made c.inv_cuts.ensures.begins

pub nand_cuts-requires : goal.nand_cuts-requires
nand_cuts-requires g c =
    let low : (c.in-Nand.a < c.args.number) × (c.in-Nand.b < c.args.number) =
    subst (λ (n : Node). ReadsBelow c.args.number n) (ap node_view c.in-Nand.is) c.requires.reads in
    let low_a = low.0 in
    let low_b = low.1 in
    let next = c.requires.next in
    let first = c.index-cuts-a-in-Nand.result.items in
    let second = c.index-cuts-b.result.items in
    let at = list_at (λ v. v.items) c.args.cuts.now c.in-Nand.a c.index-cuts-a-in-Nand.result (omega arith) c.index-cuts-a-in-Nand.is in
    let at_too = list_at (λ v. v.items) c.args.cuts.now c.in-Nand.b c.index-cuts-b.result (omega arith) c.index-cuts-b.is in
    let are = c.requires.sound c.in-Nand.a first at in
    let are_too = c.requires.sound c.in-Nand.b second at_too in
    let there = are.there in
    let there_too = are_too.there in
    let is = c.as_slice-first.ensures.value in
    let is_too = c.as_slice-second.ensures.value in
    let many = ap (λ xs. length xs) is in
    let many_too = ap (λ xs. length xs) is_too in (
      cut_fits g.row.K c.requires.few,
      (
        c.requires.some,
        (
          c.requires.few,
          (
            omega (arith, there, many),
            (
              omega (arith, there_too, many_too),
              (
                λ a b h k.
                    let e = long_one c.in-Nand.a first are a (subst (λ xs. IsNumber xs 0 a) is h) in
                    let f = long_one c.in-Nand.b second are_too b (subst (λ xs. IsNumber xs 0 b) is_too k) in
                    omega arith,
                λ i d h. are.once i d (subst (λ xs. IsNumber xs i d) is h),
              ),
            ),
          ),
        ),
      ),
    )

pub returns-in_ok-pairs-in-Nand : goal.returns-in_ok-pairs-in-Nand
returns-in_ok-pairs-in-Nand g c =
    let low : (c.in-Nand.a < c.args.number) × (c.in-Nand.b < c.args.number) =
    subst (λ (n : Node). ReadsBelow c.args.number n) (ap node_view c.in-Nand.is) c.requires.reads in
    let low_a = low.0 in
    let low_b = low.1 in
    let next = c.requires.next in
    let lists = map (λ v. v.items) c.args.cuts.now in
    let first = c.index-cuts-a-in-Nand.result.items in
    let second = c.index-cuts-b.result.items in
    let at = list_at (λ v. v.items) c.args.cuts.now c.in-Nand.a c.index-cuts-a-in-Nand.result (omega arith) c.index-cuts-a-in-Nand.is in
    let at_too = list_at (λ v. v.items) c.args.cuts.now c.in-Nand.b c.index-cuts-b.result (omega arith) c.index-cuts-b.is in
    let is = c.as_slice-first.ensures.value in
    let is_too = c.as_slice-second.ensures.value in
    if_ok (λ own. AreMade (FromTwo c.as_slice-first.result.now c.as_slice-second.result.now) c.args.number own.items)
    (λ own. BeginsTwo c.as_slice-first.result.now c.as_slice-second.result.now own.items)
    (λ own. AreNodeCuts (node_view c.args.node.now) c.args.number lists own.items) c.nand_cuts.result
    (λ own made begins.
    subst (λ (n : Node). AreNodeCuts n c.args.number lists own.items) (sym (ap node_view c.in-Nand.is))
    (nand_node c.args.number c.in-Nand.a c.in-Nand.b lists first second own.items low.0 low.1 at at_too (c.requires.sound c.in-Nand.a first at) (c.requires.sound c.in-Nand.b second at_too)
    (subst (λ xs. AreMade (FromTwo first xs) c.args.number own.items) is_too (subst (λ xs. AreMade (FromTwo xs c.as_slice-second.result.now) c.args.number own.items) is made))
    (subst (λ xs. BeginsTwo first xs own.items) is_too (subst (λ xs. BeginsTwo xs c.as_slice-second.result.now own.items) is begins))))
    c.nand_cuts.ensures.made c.nand_cuts.ensures.begins
