use Rattle.std.proofs.Common.{◌≡◌, ◌∙◌, ℕ, List, Some, None, length, map, sym, ap, refl, arith}
use Rattle.std.proofs.lemmas.Option.{slice_get_read, slice_get_within}
use Rattle.net_core.specs.declared.pins.ModelPins.{ModelPins}
use Rattle.net_core.specs.Places.{Stands, position_of}
use Rattle.net_core.proofs.Standing.{stands_same}
use Rattle.net_core.proofs.Tables.{pins_found, pins_absent}
use Rattle.net_core.proofs.roles.pins_of.Goals as goal

pub returns-in-Some-get : goal.returns-in-Some-get
returns-in-Some-get c =
    let e : position_of (map (λ (m : ModelPins). m.model) c.args.table.now) c.args.model.now ≡ Some c.in-Some.place = ap (λ (xs : List (List ℕ)). position_of xs c.args.model.now) (sym c.requires) ∙ sym c.in-Some.ensures in
    let r = pins_found c.args.table.now c.args.model.now c.in-Some.place e in
    let l = slice_get_within c.args.table.now c.in-Some.place r.0 r.1 in
    let s : Stands c.args.table.now c.in-Some.place c.in-Some-get.model.now = slice_get_read c.args.table.now (length c.args.table.now) c.in-Some.place c.in-Some-get.model.now refl l c.in-Some-get.ensures.lookup.1 in
    let same : r.0 ≡ c.in-Some-get.model.now = stands_same c.args.table.now c.in-Some.place r.0 c.in-Some-get.model.now r.1 s in
    c.as_slice.ensures ∙ ap (λ (m : ModelPins). m.pins) (sym same) ∙ r.2

pub returns-in-None-get : goal.returns-in-None-get
returns-in-None-get c =
    let e : position_of (map (λ (m : ModelPins). m.model) c.args.table.now) c.args.model.now ≡ Some c.in-Some.place = ap (λ (xs : List (List ℕ)). position_of xs c.args.model.now) (sym c.requires) ∙ sym c.in-Some.ensures in
    let r = pins_found c.args.table.now c.args.model.now c.in-Some.place e in
    let l = slice_get_within c.args.table.now c.in-Some.place r.0 r.1 in
    absurd (omega (arith, l, c.in-None-get.ensures.lookup.3))

pub returns-in-None : goal.returns-in-None
returns-in-None c =
    let e : position_of (map (λ (m : ModelPins). m.model) c.args.table.now) c.args.model.now ≡ None = ap (λ (xs : List (List ℕ)). position_of xs c.args.model.now) (sym c.requires) ∙ sym c.in-None.ensures in
    sym (pins_absent c.args.table.now c.args.model.now e)
