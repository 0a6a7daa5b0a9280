-- The drawing of a netlist by private tracks shows it, and breaks no rule.
use Rattle.std.proofs.Common.{◌≡◌, List, [], ◌∷◌, map, refl, sym, ap, ◌∙◌, subst}
use Rattle.std.specs.Prelude.{ℤ, pos, ◌+ℤ◌}
use Rattle.std.specs.List.Sorted.{IsPermutation}
use Rattle.std.proofs.lemmas.List.{append-nil}
use Rattle.std.proofs.lemmas.List.Sorted.{IsPermutation-refl}
use Rattle.vlsi_base.specs.declared.name.Name as name
use Rattle.sym_geom.specs.declared.rect.Transform.TheVariants.{NoSym}
use Rattle.sym_geom.specs.declared.item.Instance.{Instance}
use Rattle.cell_model.specs.Library.{Library}
use Rattle.net_meaning.specs.Netlist.{Member, AbstractNetlist}
use Rattle.ocp_rows.specs.Placement.{model_width, standing, IsPlaced}
use Rattle.net_drawing.specs.Picture.{IsPictureOf, JoinsNets}
use Rattle.net_drawing.specs.Drawing.{Numbering, wiring, track_items, IsDrawable}
use Rattle.net_drawing.specs.Law.{one_row, track_box, DrawingsAreRight}
use Rattle.net_drawing.proofs.Bridge.{pictures_join}
use Rattle.net_drawing.proofs.Numbers.{low, high, own, call}
use Rattle.net_drawing.proofs.Pieces.{wires_all}
use Rattle.net_drawing.proofs.Row.{row_places, block_of, sound}
use Rattle.net_drawing.proofs.Showing.{owners_apart, names_apart, IsFigureOf, shows}
use Rattle.net_drawing.proofs.Tracked.{has_tracks}
use Rattle.net_drawing.proofs.Wired.{wiring_drawn, its_instances, its_names, its_shapes}

standing_back : (l : Library) (x : ℤ) (ms : List Member) → ms ≡ map (λ (i : Instance). record { name = i.name; model = i.model }) (standing l NoSym (pos 0) x ms)
standing_back l x [] = refl
standing_back l x (one ∷ rest) = ap (λ v. one ∷ v) (standing_back l (x +ℤ model_width l one.model) rest)

pub picture : (n : AbstractNetlist) (l : Library) (net : Numbering) (ports : List name.Name) → IsDrawable n l net ports → IsPictureOf (track_items n l net ports) l (block_of n l net ports) (low n l net ports) (high n l net ports) (own n) (call n l ports)
picture n l net ports ok = record {
  sound = sound n l net ports ok;
  tracks = has_tracks n l net ports ok;
  apart = record { owners = owners_apart n l net ports (row_places n l net ports) ok.nets; names = names_apart n l net ports (row_places n l net ports) ok.nets };
  shapes = its_shapes n l net ports ok;
}

joins : (n : AbstractNetlist) (l : Library) (net : Numbering) (ports : List name.Name) → IsDrawable n l net ports → JoinsNets (track_items n l net ports) l (block_of n l net ports) (own n) (call n l ports)
joins n l net ports ok = (pictures_join (track_items n l net ports) l (block_of n l net ports) (low n l net ports) (high n l net ports) (own n) (call n l ports) (picture n l net ports ok)).0

figure_is : (n : AbstractNetlist) (l : Library) (net : Numbering) (ports : List name.Name) → IsDrawable n l net ports → IsFigureOf (track_items n l net ports) n l net ports (row_places n l net ports)
figure_is n l net ports ok = record {
  names = its_names n l net ports ok;
  members = standing_back l (pos 1500) n.instances ∙ ap (map (λ (i : Instance). record { name = i.name; model = i.model })) (sym (its_instances n l net ports ok));
  only = λ t u ht hu j. (joins n l net ports ok t u ht hu).1 j;
  supplies = λ t u s ht hu e f. (joins n l net ports ok t u ht hu).0 (e ∙ sym f);
}

its_place : (n : AbstractNetlist) (l : Library) (net : Numbering) (ports : List name.Name) → IsDrawable n l net ports → IsPlaced (track_box n l) (track_items n l net ports) n l (one_row n ports)
its_place n l net ports ok = record {
  order = ok.nets.order;
  ports = ok.nets.port_names;
  each_once = subst (λ (ms : List Member). IsPermutation ms n.instances) (sym (append-nil n.instances)) (IsPermutation-refl n.instances);
  instances = standing l NoSym (pos 0) (pos 1500) n.instances;
  rows = subst (λ (xs : List Instance). IsPermutation xs (standing l NoSym (pos 0) (pos 1500) n.instances)) (sym (append-nil (standing l NoSym (pos 0) (pos 1500) n.instances))) (IsPermutation-refl (standing l NoSym (pos 0) (pos 1500) n.instances));
  wiring = wiring n l net ports;
  wires = wires_all (wiring n l net ports) (wiring_drawn n l net ports ok).wires;
  lines = refl;
  box = refl;
}

pub drawings_are_right : DrawingsAreRight
drawings_are_right n l net ports ok =
    let r = pictures_join (track_items n l net ports) l (block_of n l net ports) (low n l net ports) (high n l net ports) (own n) (call n l ports) (picture n l net ports ok) in (
      shows n l net ports (row_places n l net ports) ok.nets (track_items n l net ports) (figure_is n l net ports ok) (λ t u ht hu e. (joins n l net ports ok t u ht hu).0 e),
      r.1,
      its_place n l net ports ok,
    )
