use Rattle.std.proofs.Common.{◌≡◌, ◌∙◌, ◌-◌, ℕ, ◌<◌, Some, List, length, get_or, refl, ap, sym, subst}
use Rattle.std.specs.List.{Contains, slice_get}
use Rattle.std.specs.Option.{option_copied}
use Rattle.std.proofs.lemmas.List.Elements.{All-contains, Contains-push}
use Rattle.sym_shapes.specs.Shape.{Shape}
use Rattle.sym_shapes.specs.Joined.{Linked, touching}
use Rattle.sym_shapes.proofs.Joins.{grows_by}
use Rattle.sym_shapes.proofs.Sweeps.{touch_at}
use Rattle.sym_shapes.proofs.Held.{last_kept, holds_itself, held_by}
use Rattle.sym_shapes.proofs.holders.hold_or_keep.Goals as goal

pub returns-then-lies_in-clause-grows : goal.returns-then-lies_in-clause-grows
returns-then-lies_in-clause-grows c =
    let shapes = c.args.shapes.now in
    let i = c.args.place in
    let j = c.in-Some.last.now in
    let kept : List ℕ = c.args.kept.now.items in
    let at = sym c.last.ensures.value ∙ ap option_copied c.in-Some.is in
    let is_kept : Contains kept j = last_kept kept j (subst (λ (ks : List ℕ). slice_get ks (length ks - 1) ≡ Some j) c.deref.ensures.value at) in
    let hj : j < length shapes = All-contains (λ (k : ℕ). k < length shapes) kept j c.requires.places is_kept in
    let meets = touch_at shapes i j c.index-shapes-place.result c.index-shapes-holder.result c.requires.within hj c.index-shapes-place.is c.index-shapes-holder.is in
    let truly : (d : Shape) → Linked (get_or shapes i d) (get_or shapes j d) = λ d. let t = (meets d).0 (c.if-lies_in.ensures.touch refl) in touching t.0 t.1 in
    grows_by shapes c.args.forest.now c.link.new.self i j c.requires.within hj truly c.in_ok-link.ensures.joins c.in_ok-link.ensures.adds c.in_ok-link.ensures.leads

pub returns-then-lies_in-clause-holder : goal.returns-then-lies_in-clause-holder
returns-then-lies_in-clause-holder c =
    let shapes = c.args.shapes.now in
    let i = c.args.place in
    let j = c.in-Some.last.now in
    let kept : List ℕ = c.args.kept.now.items in
    let at = sym c.last.ensures.value ∙ ap option_copied c.in-Some.is in
    let is_kept : Contains kept j = last_kept kept j (subst (λ (ks : List ℕ). slice_get ks (length ks - 1) ≡ Some j) c.deref.ensures.value at) in
    let hj : j < length shapes = All-contains (λ (k : ℕ). k < length shapes) kept j c.requires.places is_kept in
    held_by shapes kept c.link.new.self.groups i j c.index-shapes-place.result c.index-shapes-holder.result c.requires.within hj is_kept
    c.index-shapes-place.is c.index-shapes-holder.is (c.if-lies_in.ensures.within refl) c.in_ok-link.ensures.joins.added

pub returns-clause-holder : goal.returns-clause-holder
returns-clause-holder c =
    holds_itself c.args.shapes.now c.push.new.self.items c.args.forest.now.groups c.args.place (rw c.in_ok-push.ensures.items (Contains-push c.args.kept.now.items c.args.place))
