use Rattle.std.proofs.Common.{◌≡◌, ◌++◌, ◌+◌, ◌∙◌, ℕ, List, [], ◌∷◌, map, length, ap, sym, refl, subst, arith}
use Rattle.std.proofs.lemmas.List.{map_push, length-append, length-map}
use Rattle.std.proofs.lemmas.Grind.{common_steps}
use Rattle.vlsi_base.specs.declared.name.Name.{Name}
use Rattle.vlsi_base.specs.Member.{In, here}
use Rattle.vlsi_base.specs.Tree.{view as tree}
use Rattle.machine_core.proofs.Values.{In-left, In-right}
use Rattle.bool_expr.specs.Expression.{Expression}
use Rattle.bool_expr.specs.View.{view}
use Rattle.source_checks.specs.Symbols.{all_names}
use Rattle.source_checks.specs.Drivers.{target_names}
use Rattle.source_checks.specs.Formula.{formulas, place}
use Rattle.vlsi_model.proofs.Naming.{name_is}
use Rattle.fsm_machine.specs.Statements.{Statements as Meaning, assign, output}
use Rattle.fsm_code.specs.View.{body_view}
use Rattle.fsm_io.specs.Pieces.{assign_places}
use Rattle.fsm_io.proofs.OverPorts.{places_equal, places_below, assign_push, assign_named, nothing_left}
use Rattle.fsm_io.proofs.bits.Frame.assign.Goals as goal

same_places : (x : Meaning) → x ≡ x
same_places x = refl

pub loop-value-init : goal.loop-value-init
loop-value-init c =
    let f = c.args.self.now in
    let known = f.numbers.now in
    record {
      equal = places_equal (all_names known) f.vars.now (target_names known c.args.target.now) (formulas known (tree c.args.e.now)) c.in_ok-places.places.items c.in_ok-values.values.items c.in_ok-places.ensures c.in_ok-values.ensures c.requires.fits.equal;
      below = places_below (all_names known) (target_names known c.args.target.now) c.in_ok-places.places.items c.in_ok-places.ensures c.requires.fits.declared;
      whole = same_places (assign_places (all_names known) c.in_ok-places.places.items (map view c.in_ok-values.values.items) (body_view c.args.rest));
    }

pub name-requires : goal.name-requires
name-requires c =
    let p = c.in-Some-pop.place in
    let popped : c.loop-value.places.items ≡ c.pop-in-Some.new.self.items ++ p ∷ [] = c.in-Some-pop.ensures.items in
    c.loop-value.invariant.below p (subst (λ (l : List ℕ). In p l) (sym popped) (In-right p c.pop-in-Some.new.self.items (p ∷ []) here))

pub loop-value-preserved : goal.loop-value-preserved
loop-value-preserved c =
    let all = all_names c.args.self.now.numbers.now in
    let p = c.in-Some-pop.place in
    let v = c.in-Some.value in
    let ps = c.pop-in-Some.new.self.items in
    let vs = c.pop.new.self.items in
    let places : c.loop-value.places.items ≡ ps ++ p ∷ [] = c.in-Some-pop.ensures.items in
    let values : c.loop-value.values.items ≡ vs ++ v ∷ [] = c.in-Some.ensures.items in
    let inv = c.loop-value.invariant in
    let n1 : length c.loop-value.places.items ≡ length ps + 1 = ap length places ∙ length-append ps (p ∷ []) in
    let n2 : length c.loop-value.values.items ≡ length vs + 1 = ap length values ∙ length-append vs (v ∷ []) in
    let same = inv.equal in
    let equal : length ps ≡ length vs = omega (arith, n1, n2, same) in
    let count : length ps ≡ length (map view vs) = equal ∙ sym (length-map vs view) in
    record {
      equal = equal;
      below = λ k i. inv.below k (subst (λ (l : List ℕ). In k l) (sym places) (In-left k ps (p ∷ []) i));
      whole =
          ap (assign_places all ps (map view vs)) c.in_ok-made.ensures
          ∙ ap (λ (n : Name). assign_places all ps (map view vs) (assign (output n (view v)) (body_view c.loop-value.made))) (sym (name_is all p c.in_ok-name.name c.in_ok-name.ensures))
          ∙ sym (assign_push all ps (map view vs) p (view v) (body_view c.loop-value.made) count)
          ∙ ap (λ (l : List ℕ). assign_places all l (map view vs ++ view v ∷ []) (body_view c.loop-value.made)) (sym places)
          ∙ ap (λ (l : List Expression). assign_places all c.loop-value.places.items l (body_view c.loop-value.made)) (sym (ap (map view) values ∙ map_push view vs v))
          ∙ inv.whole;
    }

pub returns : goal.returns
returns c =
    let f = c.args.self.now in
    let known = f.numbers.now in
    let all = all_names known in
    let empty : c.loop-value.values.items ≡ [] = grind (arith, common_steps) in
    let rest = body_view c.args.rest in
    nothing_left all c.loop-value.places.items c.loop-value.values.items (body_view c.loop-value.made) c.loop-value.invariant.equal empty
    ∙ c.loop-value.invariant.whole
    ∙ ap (λ (l : List ℕ). assign_places all l (map view c.in_ok-values.values.items) rest) c.in_ok-places.ensures
    ∙ ap (λ (l : List Expression). assign_places all (map (place all) (target_names known c.args.target.now)) l rest) c.in_ok-values.ensures
    ∙ assign_named all f.vars.now (target_names known c.args.target.now) (formulas known (tree c.args.e.now)) rest c.requires.fits.declared
