-- What the parts of a draft are lent when they are joined.
use Rattle.std.proofs.Common.{◌≡◌, ℕ, ◌<◌, List, [], ◌∷◌, length, map, take, get_or, sym, ◌∙◌, ap, subst}
use Rattle.std.specs.List.{flat_map}
use Rattle.vlsi_base.specs.declared.name.Port.{Port}
use Rattle.vlsi_base.specs.declared.name.Terminal.{Terminal}
use Rattle.vlsi_base.specs.Member.{In, here, there}
use Rattle.cell_model.proofs.Members.{In-left, In-right}
use Rattle.net_core.specs.Places.{IsThere}
use Rattle.net_core.specs.Netlist.{pin_of}
use Rattle.net_core.specs.Joins.{Draft, draft_terminals}
use Rattle.net_theory.proofs.Basics.{In-map}
use Rattle.boog_map.specs.declared.choice.Parts.{Parts}
use Rattle.boog_map.specs.declared.part.TiedPin.{TiedPin}
use Rattle.boog_map.specs.declared.place.Signal.{Signal}
use Rattle.boog_map.specs.declared.place.Spot.{Spot}
use Rattle.boog_map.specs.declared.drivers.Drivers.{Drivers}
use Rattle.boog_map.specs.declared.build.Sketch.{Sketch}
use Rattle.boog_map.specs.Draft.{instance_of, port_signals, spot_signals, tied_signal, driver, IsNumbered, join_of, with_instances, with_joins, CanJoin, IsDrawable}
use Rattle.boog_map.specs.Tied.{part_of}
use Rattle.boog_map.proofs.Building.{in_get}
use Rattle.boog_map.proofs.Pins.{pin_signals}

-- what one of a list is lent
abbrev pub Lent : List Terminal → Drivers → Terminal → Signal → Type 0
Lent terminals d t s = IsThere terminals t × IsThere terminals (driver d s) × IsNumbered d s

pub lent_one : {A : Type 0} (b now : Draft) (more : List (Terminal × Terminal)) (d : Drivers) (f : A → Terminal × Signal) (xs : List A) (i : ℕ) (x : A)
    → CanJoin (draft_terminals b) d (map f xs) → now ≡ with_joins b more → i < length xs → x ≡ get_or xs i x → Lent (draft_terminals now) d (f x).0 (f x).1
lent_one b now more d f xs i x can so_far low is =
    subst (λ (ts : List Terminal). Lent ts d (f x).0 (f x).1) (sym (ap draft_terminals so_far)) (can (f x) (In-map f x xs (in_get xs i x low is)))

pub lent_pin : (b now : Draft) (d : Drivers) (ps : Parts) (s : Spot) (i : ℕ) (p : TiedPin) (ties : List TiedPin) → CanJoin (draft_terminals b) d (spot_signals ps s)
    → now ≡ with_joins b (map (join_of d) (pin_signals s (take i (part_of ps s.role).ties.items))) → ties ≡ (part_of ps s.role).ties.items → i < length ties → p ≡ get_or ties i p
    → Lent (draft_terminals now) d (pin_of s.name p.name) (tied_signal s p.tie)
lent_pin b now d ps s i p ties can so_far same low is =
    lent_one b now (map (join_of d) (pin_signals s (take i (part_of ps s.role).ties.items))) d (λ (q : TiedPin). (pin_of s.name q.name, tied_signal s q.tie)) (part_of ps s.role).ties.items i p can
    so_far (subst (λ (xs : List TiedPin). i < length xs) same low) (subst (λ (xs : List TiedPin). p ≡ get_or xs i p) same is)

In-flat : {A B : Type 0} (g : A → List B) (x : A) (xs : List A) (y : B) → In x xs → In y (g x) → In y (flat_map g xs)
In-flat g x [] y h k = elim h [ ]
In-flat g x (z ∷ xs) y here k = In-left y (g z) (flat_map g xs) k
In-flat g x (z ∷ xs) y (there h) k = In-right y (g z) (flat_map g xs) (In-flat g x xs y h k)

pub lent_some : {A : Type 0} (b now : Draft) (more : List (Terminal × Terminal)) (d : Drivers) (g : A → List (Terminal × Signal)) (xs : List A) (i : ℕ) (x : A)
    → CanJoin (draft_terminals b) d (flat_map g xs) → now ≡ with_joins b more → i < length xs → x ≡ get_or xs i x → CanJoin (draft_terminals now) d (g x)
lent_some b now more d g xs i x can so_far low is =
    subst (λ (ts : List Terminal). CanJoin ts d (g x)) (sym (ap draft_terminals so_far)) (λ t h. can t (In-flat g x xs t (in_get xs i x low is) h))

-- ---- the whole draft

module _ (name : List ℕ) (ports : List Port) (k : Sketch) (can : IsDrawable ports k) where
  abbrev begun : Draft
  begun = record { name = name; ports = ports; instances = []; joins = [] }

  abbrev placed : Draft
  placed = with_instances begun (map (instance_of k.parts) k.spots.items)

  pub placed_is : (b c : Draft) → b ≡ begun → c ≡ with_instances b (map (instance_of k.parts) k.spots.items) → c ≡ placed
  placed_is b c is then = then ∙ ap (λ (x : Draft). with_instances x (map (instance_of k.parts) k.spots.items)) is

  pub ports_lent : (c : Draft) → c ≡ placed → CanJoin (draft_terminals c) k.drivers (port_signals k.ports.items)
  ports_lent c is =
      subst (λ (x : Draft). CanJoin (draft_terminals x) k.drivers (port_signals k.ports.items)) (sym is)
      (λ t h. can.joins t (In-left t (port_signals k.ports.items) (flat_map (spot_signals k.parts) k.spots.items) h))

  pub spots_lent : (c e : Draft) → c ≡ placed → e ≡ with_joins c (map (join_of k.drivers) (port_signals k.ports.items))
      → CanJoin (draft_terminals e) k.drivers (flat_map (spot_signals k.parts) k.spots.items)
  spots_lent c e is then =
      subst (λ (x : Draft). CanJoin (draft_terminals x) k.drivers (flat_map (spot_signals k.parts) k.spots.items)) (sym then)
      (subst (λ (x : Draft). CanJoin (draft_terminals x) k.drivers (flat_map (spot_signals k.parts) k.spots.items)) (sym is)
      (λ t h. can.joins t (In-right t (port_signals k.ports.items) (flat_map (spot_signals k.parts) k.spots.items) h)))
