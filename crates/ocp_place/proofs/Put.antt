-- The pins of instances that stand in rows, instance by instance.
use Rattle.std.proofs.Common.{◌≡◌, ℕ, zero, suc, ◌<◌, List, [], ◌∷◌, ◌++◌, length, take, Option, Some, None, refl, sym, ap, ap₂, ◌∙◌, arith, append-nil}
use Rattle.std.specs.Prelude.{pos, flat_map, slice_index, slice_get, option_map}
use Rattle.std.proofs.lemmas.Int.{ints}
use Rattle.std.proofs.lemmas.List.Concat.{flat_map-append}
use Rattle.vlsi_base.specs.declared.name.Name.{Name}
use Rattle.vlsi_base.specs.declared.name.Port.{Port}
use Rattle.machine_core.specs.Machine.{names_of}
use Rattle.sym_geom.specs.declared.item.Instance.{Instance}
use Rattle.cell_model.specs.Cell.{Cell, cell_height}
use Rattle.cell_model.specs.Library.{Library, cell_of}
use Rattle.cell_model.specs.Access.{Point, access_point}
use Rattle.cell_checks.specs.Checks.{StandsInRow}
use Rattle.cell_checks.specs.Points.{point_of}
use Rattle.cell_checks.specs.declared.points.GridPoint.{GridPoint}
use Rattle.net_meaning.specs.Netlist.{Member, AbstractNetlist, pin_of}
use Rattle.ocp_rows.specs.Length.{shown_point}
use Rattle.ocp_place.specs.declared.reach.PinReach.{PinReach}
use Rattle.ocp_place.specs.Sites.{Site}
use Rattle.ocp_place.specs.Reaches.{ArePinReaches, no_pins, one_pin, spot_point, spot_sites}
use Rattle.ocp_place.specs.Stood.{stood, stood_all, point_site, shown_sites, stood_sites}
use Rattle.ocp_place.proofs.Boxed.{access_within}
use Rattle.ocp_place.proofs.RowSteps.{HasClasses}
use Rattle.ocp_place.proofs.Turned.{shown}

-- one more instance
pub stood_more : (ms : List Member) (xs rows : List ℕ) (i : ℕ) (m : Member) → slice_get ms i ≡ Some m → i < length xs → i < length rows
    → stood_all (take (suc i) ms) xs rows ≡ stood_all (take i ms) xs rows ++ stood m (slice_index xs i) (slice_index rows i) ∷ []
stood_more [] xs rows i m e a b = absurd (cc e)
stood_more (n ∷ ms) [] rows i m e a b = absurd (omega arith)
stood_more (n ∷ ms) (x ∷ xs) [] i m e a b = absurd (omega arith)
stood_more (n ∷ ms) (x ∷ xs) (r ∷ rows) zero m e a b = let s : n ≡ m = cc e in ap (λ (v : Member). stood v x r ∷ []) s
stood_more (n ∷ ms) (x ∷ xs) (r ∷ rows) (suc i) m e a b =
    ap (λ (is : List Instance). stood n x r ∷ is) (stood_more ms xs rows i m e (omega arith) (omega arith))

pub sites_more : (n : AbstractNetlist) (l : Library) (is : List Instance) (i : Instance) → stood_sites n l (is ++ i ∷ []) ≡ stood_sites n l is ++ shown_sites n i (cell_of l i.model)
sites_more n l is i =
    flat_map-append (λ (j : Instance). shown_sites n j (cell_of l j.model)) is (i ∷ [])
    ∙ ap (λ (ss : List Site). stood_sites n l is ++ ss) (append-nil (shown_sites n i (cell_of l i.model)))

module _ (n : AbstractNetlist) (one : Member) (c : Cell) (x r : ℕ) (row : StandsInRow c) where
  point_is : (name : Name) (o : Option GridPoint) (p : Option Point) → option_map point_of o ≡ p → access_point c name ≡ p → spot_point x r o ≡ shown_point c (stood one x r) p
  point_is name None p e f = ap (shown_point c (stood one x r)) e
  point_is name (Some g) p e f =
      let at = access_within c name (pos g.x, pos g.y) row (f ∙ sym e) in
      let is_y : pos g.y ≡ pos at.y = ap (λ (q : Point). q.1) at.is in
      let h = at.high in
      let low = row.box.low in let top = row.box.high in
      let height : cell_height c ≡ pos 5000 = omega (arith, ints) in
      sym (shown c r x one g.x g.y height (omega (arith, ints, is_y, h))) ∙ ap (shown_point c (stood one x r)) e

  -- where they all lie
  pub shown_are : (classes : List ℕ) → HasClasses n one.name c classes → (ports : List Port) (pins : List PinReach) → ArePinReaches c ports pins
      → spot_sites x r classes pins ≡ flat_map (λ pin. point_site (n.class (pin_of one.name pin)) (shown_point c (stood one x r) (access_point c pin))) (names_of ports)
  shown_are classes has [] [] no_pins = refl
  shown_are classes has [] (p ∷ pins) are = elim are [ ]
  shown_are classes has (q ∷ ports) [] are = elim are [ ]
  shown_are classes has (q ∷ ports) (p ∷ pins) (one_pin is rest) =
      ap₂ (λ (k : ℕ) (o : Option Point). point_site k o ++ spot_sites x r classes pins) (has p.place q.name is.place)
      (point_is q.name p.point (access_point c q.name) is.point refl)
      ∙ ap (λ (ss : List Site). point_site (n.class (pin_of one.name q.name)) (shown_point c (stood one x r) (access_point c q.name)) ++ ss) (shown_are classes has ports pins rest)
