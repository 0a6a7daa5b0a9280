-- One more instance of a draft that is being built.
use Rattle.std.proofs.Common.{◌≡◌, ℕ, ◌+◌, ◌^◌, ◌<◌, List, length, map, take, get_or, sym, subst}
use Rattle.net_core.specs.declared.error.BuildError.{BuildError}
use Rattle.net_core.specs.declared.error.BuildError.TheVariants as error
use Rattle.net_core.specs.Netlist.{AreInOrder}
use Rattle.net_core.specs.Frame.{IsNoPlaceFor}
use Rattle.net_core.specs.Joins.{Draft, draft_terminals}
use Rattle.boog_map.specs.declared.part.Part.{Part}
use Rattle.boog_map.specs.declared.choice.Parts.{Parts}
use Rattle.boog_map.specs.declared.place.Spot.{Spot}
use Rattle.boog_map.specs.Tied.{part_of}
use Rattle.boog_map.specs.Draft.{instance_of, with_instances, IsPlaceable}
use Rattle.boog_map.proofs.Building.{in_get, room_for_one, only_memory_left}

module _ (d now : Draft) (ps : Parts) (spots : List Spot) (i : ℕ) (s : Spot) (can : IsPlaceable d ps spots)
    (so_far : now ≡ with_instances d (map (instance_of ps) (take i spots))) (low : i < length spots) (is : s ≡ get_or spots i s) where
  pub order_now : (p : Part) → p ≡ part_of ps s.role → AreInOrder p.pins
  order_now p same = subst (λ (x : Part). AreInOrder x.pins) (sym same) (can.pins s (in_get spots i s low is))

  pub room_now : (p : Part) → p ≡ part_of ps s.role → length (draft_terminals now) + length p.pins < 2 ^ 32
  room_now p same =
      subst (λ (x : Draft). length (draft_terminals x) + length p.pins < 2 ^ 32) (sym so_far)
      (subst (λ (x : Part). length (draft_terminals (with_instances d (map (instance_of ps) (take i spots)))) + length x.pins < 2 ^ 32) (sym same)
      (room_for_one d ps spots i s can low is))

  pub memory_now : (e : BuildError) → IsNoPlaceFor now.instances s.name e → e ≡ error.Memory
  memory_now e h = only_memory_left d ps spots i s e can low is (subst (λ (x : Draft). IsNoPlaceFor x.instances s.name e) so_far h)
