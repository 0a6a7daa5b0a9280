-- Instances that are put into a draft one by one.
use Rattle.std.proofs.Common.{◌≡◌, ℕ, zero, suc, ◌+◌, ◌^◌, ◌<◌, ◌≤◌, List, [], ◌∷◌, ◌++◌, length, map, take, get_or, refl, sym, ◌∙◌, ap, subst, arith, append_assoc, length-append}
use Rattle.std.specs.List.{flat_map}
use Rattle.std.proofs.lemmas.Grind.{flat_map-append}
use Rattle.std.proofs.lemmas.List.{map-append}
use Rattle.vlsi_base.specs.declared.name.Port.{Port}
use Rattle.net_core.specs.declared.error.BuildError.{BuildError}
use Rattle.net_core.specs.declared.error.BuildError.TheVariants as error
use Rattle.net_core.specs.Places.{Stands, IsThere}
use Rattle.net_core.specs.Netlist.{Instance, pin_of, pins_of, terminals_of, port, AreInOrder}
use Rattle.net_core.specs.Frame.{IsNoPlaceFor}
use Rattle.net_core.specs.Joins.{Draft, draft_terminals, with_instance}
use Rattle.net_core.proofs.Frames.{mapped, unmapped}
use Rattle.net_theory.proofs.Basics.{length-map}
use Rattle.loon_fanout.specs.Building.{with_instances}
use Rattle.loon_fanout.proofs.Adding.{stands_get, take_next}
use Rattle.scan_build.specs.declared.sketch.Entry.{Entry}
use Rattle.scan_build.specs.Sketched.{instance_by, IsAddable}

stands_take : {A : Type 0} (xs : List A) (i k : ℕ) (x : A) → Stands (take i xs) k x → (k < i) × Stands xs k x
stands_take xs zero k x h = absurd cc
stands_take [] (suc i) k x h = absurd cc
stands_take (y ∷ xs) (suc i) zero x h = (omega arith, h)
stands_take (y ∷ xs) (suc i) (suc k) x h = let r = stands_take xs i k x h in (let low = r.0 in omega (arith, low), r.1)

abbrev put_in : List Entry → List Instance
put_in entries = map instance_by entries

front_pins : (entries : List Entry) (i : ℕ) → length (flat_map pins_of (put_in (take i entries))) ≤ length (flat_map pins_of (put_in entries))
front_pins entries zero = omega arith
front_pins [] (suc i) = omega arith
front_pins (e ∷ entries) (suc i) =
    let rest = front_pins entries i in
    let a = length-append (pins_of (instance_by e)) (flat_map pins_of (put_in (take i entries))) in
    let b = length-append (pins_of (instance_by e)) (flat_map pins_of (put_in entries)) in
    omega (arith, rest, a, b)

room_for_one : (d : Draft) (entries : List Entry) (i : ℕ) (e : Entry) → IsAddable d entries → i < length entries → e ≡ get_or entries i e
    → length (draft_terminals (with_instances d (put_in (take i entries)))) + length e.pins < 2 ^ 32
room_for_one d entries i e can low is =
    let here_is = ap (λ (xs : List Instance). length (terminals_of d.ports (xs ++ put_in (take i entries)))) can.none in
    let now = length-append (map (λ (p : Port). port p.name) d.ports) (flat_map pins_of (put_in (take i entries))) in
    let all = length-append (map (λ (p : Port). port p.name) d.ports) (flat_map pins_of (put_in entries)) in
    let few = can.few in
    let more = front_pins entries (i + 1) in
    let next =
    ap (λ (xs : List Entry). length (flat_map pins_of (put_in xs))) (take_next entries i e low is)
    ∙ ap (λ (xs : List Instance). length (flat_map pins_of xs)) (map-append instance_by (take i entries) (e ∷ []))
    ∙ ap length (flat_map-append pins_of (put_in (take i entries)) (instance_by e ∷ [])) in
    let split = length-append (flat_map pins_of (put_in (take i entries))) (flat_map pins_of (instance_by e ∷ [])) in
    let one = length-append (pins_of (instance_by e)) [] in
    let pins : length (pins_of (instance_by e)) ≡ length e.pins = length-map (pin_of e.name) e.pins in
    omega (arith, here_is, now, all, few, more, next, split, one, pins)

only_memory_left : (d : Draft) (entries : List Entry) (i : ℕ) (e : Entry) (fault : BuildError) → IsAddable d entries → i < length entries → e ≡ get_or entries i e
    → IsNoPlaceFor (d.instances ++ put_in (take i entries)) e.name fault → fault ≡ error.Memory
only_memory_left d entries i e error.Memory can low is h = refl
only_memory_left d entries i e error.Unknown can low is h = absurd h
only_memory_left d entries i e error.Twice can low is h =
    let own = subst (λ (xs : List Instance). IsThere (map (λ (x : Instance). x.name) (xs ++ put_in (take i entries))) e.name) can.none h in
    let a = unmapped (λ (x : Instance). x.name) (put_in (take i entries)) own.0 e.name own.1 in
    let b = unmapped instance_by (take i entries) own.0 a.0 a.1 in
    let c = stands_take entries i own.0 b.0 b.1 in
    let name : b.0.name ≡ e.name = ap (λ (x : Instance). x.name) b.2 ∙ a.2 in
    let before : Stands (map (λ (x : Entry). x.name) entries) own.0 e.name =
    subst (λ (t : List ℕ). Stands (map (λ (x : Entry). x.name) entries) own.0 t) name (mapped (λ (x : Entry). x.name) entries own.0 b.0 c.1) in
    let now = mapped (λ (x : Entry). x.name) entries i e (stands_get entries i e low is) in
    let twice : own.0 ≡ i = can.names own.0 i e.name before now in
    absurd (let less = c.0 in omega (arith, less, twice))

module _ (d now : Draft) (entries : List Entry) (i : ℕ) (e : Entry) (can : IsAddable d entries) (so_far : now ≡ with_instances d (map instance_by (take i entries)))
    (low : i < length entries) (is : e ≡ get_or entries i e) where
  pub order_now : AreInOrder e.pins
  order_now = subst (λ (x : Entry). AreInOrder x.pins) (sym is) (can.pins i e low)

  pub room_now : length (draft_terminals now) + length e.pins < 2 ^ 32
  room_now = subst (λ (x : Draft). length (draft_terminals x) + length e.pins < 2 ^ 32) (sym so_far) (room_for_one d entries i e can low is)

  pub memory_now : (fault : BuildError) → IsNoPlaceFor now.instances e.name fault → fault ≡ error.Memory
  memory_now fault h = only_memory_left d entries i e fault can low is (subst (λ (x : Draft). IsNoPlaceFor x.instances e.name fault) so_far h)

  pub added_now : (next : Draft) → next ≡ with_instance now (instance_by e) → next ≡ with_instances d (map instance_by (take (i + 1) entries))
  added_now next step =
      step
      ∙ ap (λ (x : Draft). with_instance x (instance_by e)) so_far
      ∙ ap (λ (xs : List Instance). record d { instances = xs })
      (append_assoc d.instances (put_in (take i entries)) (instance_by e ∷ [])
      ∙ ap (λ (xs : List Instance). d.instances ++ xs)
      (sym (map-append instance_by (take i entries) (e ∷ [])) ∙ ap (map instance_by) (sym (take_next entries i e low is))))
