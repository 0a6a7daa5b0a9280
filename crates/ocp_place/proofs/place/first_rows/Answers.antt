use Rattle.std.proofs.Common.{◌≡◌, ◌/◌, ◌<◌, ℕ, List, All, length, map, take, sum, sym, subst, ap, ◌∙◌, arith}
use Rattle.std.proofs.Math.Seq.{take-length}
use Rattle.std.proofs.lemmas.List.{length-map}
use Rattle.row_meaning.specs.First.{first_rows}
use Rattle.ocp_place.specs.Stood.{instance_columns}
use Rattle.ocp_place.proofs.Classes.{known, known_seen}
use Rattle.ocp_place.proofs.Seen.{orderly}
use Rattle.ocp_place.proofs.Widths.{columns_all, columns_of, columns_sum}
use Rattle.ocp_place.proofs.place.first_rows.Goals as goal

pub fill_rows-requires-clause-few : goal.fill_rows-requires-clause-few
fill_rows-requires-clause-few c =
    let l = c.args.library.now in
    let n = c.args.netlist.now in
    let k = known n in
    let seen = known_seen n c.requires.netlist.sound in
    let whole : c.deref.result.now ≡ map (λ w. w / 500) c.args.cells.now.widths.items =
    c.deref.ensures.value ∙ c.loop-width.invariant
    ∙ ap (λ ws. map (λ w. w / 500) ws) (ap (λ j. take j c.deref-width-items.result.now) (let e : c.loop-width.width-index ≡ length c.deref-width-items.result.now = omega arith in e)
    ∙ take-length c.deref-width-items.result.now ∙ c.deref-width-items.ensures.value) in
    let few = c.requires.cells.few in
    let a = ap length whole in
    let b = length-map c.args.cells.now.widths.items (λ (w : ℕ). w / 500) in
    omega (arith, few, a, b)

pub fill_rows-requires-clause-wide : goal.fill_rows-requires-clause-wide
fill_rows-requires-clause-wide c =
    let l = c.args.library.now in
    let n = c.args.netlist.now in
    let k = known n in
    let seen = known_seen n c.requires.netlist.sound in
    let whole : c.deref.result.now ≡ map (λ w. w / 500) c.args.cells.now.widths.items =
    c.deref.ensures.value ∙ c.loop-width.invariant
    ∙ ap (λ ws. map (λ w. w / 500) ws) (ap (λ j. take j c.deref-width-items.result.now) (let e : c.loop-width.width-index ≡ length c.deref-width-items.result.now = omega arith in e)
    ∙ take-length c.deref-width-items.result.now ∙ c.deref-width-items.ensures.value) in
    let all = columns_all k l c.requires.library (orderly l n c.requires.library c.requires.netlist k seen) in
    let is : c.deref.result.now ≡ instance_columns l k.instances = whole ∙ columns_of l k.instances c.args.cells.now.widths.items (c.requires.cells.widths k seen) in
    subst (λ (ws : List ℕ). All (λ w. 0 < w) ws) (sym is) (λ j d low. (all j d low).0)

pub fill_rows-requires-clause-narrow : goal.fill_rows-requires-clause-narrow
fill_rows-requires-clause-narrow c =
    let l = c.args.library.now in
    let n = c.args.netlist.now in
    let k = known n in
    let seen = known_seen n c.requires.netlist.sound in
    let whole : c.deref.result.now ≡ map (λ w. w / 500) c.args.cells.now.widths.items =
    c.deref.ensures.value ∙ c.loop-width.invariant
    ∙ ap (λ ws. map (λ w. w / 500) ws) (ap (λ j. take j c.deref-width-items.result.now) (let e : c.loop-width.width-index ≡ length c.deref-width-items.result.now = omega arith in e)
    ∙ take-length c.deref-width-items.result.now ∙ c.deref-width-items.ensures.value) in
    let total = columns_sum k l c.requires.library (orderly l n c.requires.library c.requires.netlist k seen) in
    let is : c.deref.result.now ≡ instance_columns l k.instances = whole ∙ columns_of l k.instances c.args.cells.now.widths.items (c.requires.cells.widths k seen) in
    let few = c.requires.cells.few in
    let a = ap length whole in
    let b = length-map c.args.cells.now.widths.items (λ (w : ℕ). w / 500) in
    let d = ap length is in
    let e = ap sum is in
    omega (arith, total, few, a, b, d, e)

pub returns : goal.returns
returns c = record {
  rows = λ j listed.
      let l = c.args.library.now in
      let n = c.args.netlist.now in
      let whole : c.deref.result.now ≡ map (λ w. w / 500) c.args.cells.now.widths.items =
      c.deref.ensures.value ∙ c.loop-width.invariant
      ∙ ap (λ ws. map (λ w. w / 500) ws) (ap (λ j. take j c.deref-width-items.result.now) (let e : c.loop-width.width-index ≡ length c.deref-width-items.result.now = omega arith in e)
      ∙ take-length c.deref-width-items.result.now ∙ c.deref-width-items.ensures.value) in
      c.in_ok-made.ensures ∙ ap (λ ws. first_rows ws c.args.rows) (whole ∙ columns_of l j.instances c.args.cells.now.widths.items (c.requires.cells.widths j listed));
}
