-- Cells by their names, and pins by theirs.
use Rattle.std.proofs.Common.{◌≡◌, ℕ, ◌+◌, ◌<◌, ◌≤◌, Bool, true, false, cond, List, [], ◌∷◌, ◌++◌, map, length, get_or, drop, Some, refl, sym, ap, ◌∙◌, subst, arith, replicate}
use Rattle.std.specs.Prelude.{slice_get}
use Rattle.std.specs.List.{flat_map}
use Rattle.std.specs.Cmp.Lexicographic.{bytes_decides}
use Rattle.std.proofs.lemmas.List.{drop_more, drop_all, length_push, get_or_append_left, get_or_push}
use Rattle.std.proofs.lemmas.Bool.{cases_lt}
use Rattle.std.proofs.lemmas.Option.{slice_get_within, slice_get_read, slice_get_past, get_or_from_slice_get}
use Rattle.std.proofs.Common.{append_assoc, append-nil, ◌⊎◌, inl, inr}
use Rattle.vlsi_base.specs.declared.name.Name.{Name}
use Rattle.vlsi_base.specs.declared.name.Port.{Port}
use Rattle.vlsi_base.specs.declared.name.Dir.{Dir}
use Rattle.machine_core.specs.Named.{is_same_text}
use Rattle.cell_model.specs.declared.cell.Pin.{Pin}
use Rattle.cell_model.specs.Cell.{Cell}
use Rattle.cell_model.specs.Library.{Library, cell_named, cell_of}
use Rattle.cell_checks.specs.Arcs.{HasPin}
use Rattle.net_core.specs.declared.frame.Node.{Node}
use Rattle.net_core.specs.Places.{Stands}
use Rattle.net_core.specs.Frame.{instance_of}
use Rattle.net_core.specs.Netlist.{Instance, Netlist}
use Rattle.net_core.proofs.Standing.{stands_same}
use Rattle.delay_sta.specs.Loads.{input_capacitance, pins_at, capacitances}
use Rattle.delay_sta.specs.Graph.{AreFound}
use Rattle.delay_sta.proofs.Gathering.{AtNode}

-- ---- cells

next_cell : (cells : List Cell) (model : List ℕ) (k : ℕ) (c : Cell) → k < length cells → c ≡ get_or cells k c → cell_named (drop k cells) model ≡ cond (is_same_text c.name model) (Some c) (cell_named (drop (k + 1) cells) model)
next_cell cells model k c l at = ap (λ (cs : List Cell). cell_named cs model) (drop_more cells k c l ∙ ap (λ (d : Cell). d ∷ drop (k + 1) cells) (sym at))

pub found_at : (cells : List Cell) (model : List ℕ) (k : ℕ) (c : Cell) → k < length cells → c ≡ get_or cells k c → cell_named (drop k cells) model ≡ cell_named cells model → c.name ≡ model
    → slice_get cells k ≡ cell_named cells model
found_at cells model k c l at before same =
    let test : is_same_text c.name model ≡ true = (bytes_decides c.name model).1 same in
    slice_get_read cells (length cells) k c refl l at
    ∙ sym (next_cell cells model k c l at ∙ ap (λ b. cond b (Some c) (cell_named (drop (k + 1) cells) model)) test) ∙ before

pub passed_at : (cells : List Cell) (model : List ℕ) (k : ℕ) (c : Cell) → k < length cells → c ≡ get_or cells k c → cell_named (drop k cells) model ≡ cell_named cells model → (c.name ≡ model → ⊥)
    → cell_named (drop (k + 1) cells) model ≡ cell_named cells model
passed_at cells model k c l at before apart = by (is_same_text c.name model) refl where
  by : (b : Bool) → is_same_text c.name model ≡ b → cell_named (drop (k + 1) cells) model ≡ cell_named cells model
  by true e = absurd (apart ((bytes_decides c.name model).0 e))
  by false e = sym (next_cell cells model k c l at ∙ ap (λ b. cond b (Some c) (cell_named (drop (k + 1) cells) model)) e) ∙ before

pub absent_at : (cells : List Cell) (model : List ℕ) (k m : ℕ) → length cells ≤ k → length cells ≤ m → cell_named (drop k cells) model ≡ cell_named cells model → slice_get cells m ≡ cell_named cells model
absent_at cells model k m l g before = slice_get_past cells m g ∙ sym (ap (λ (cs : List Cell). cell_named cs model) (drop_all k cells l)) ∙ before

pub found_next : (cells : List Cell) (models : List (List ℕ)) (places : List ℕ) (model : List ℕ) (place : ℕ) → AreFound cells models places → slice_get cells place ≡ cell_named cells model
    → AreFound cells (models ++ model ∷ []) (places ++ place ∷ [])
found_next cells models places model place before is = record { many = many; each = each } where
  many : length (places ++ place ∷ []) ≡ length (models ++ model ∷ [])
  many = let a = length_push places place in let b = length_push models model in let c = before.many in omega (arith, a, b, c)

  each : (k : ℕ) → k < length (models ++ model ∷ []) → slice_get cells (get_or (places ++ place ∷ []) k 0) ≡ cell_named cells (get_or (models ++ model ∷ []) k [])
  each k l = by (cases_lt k (length models)) where
    by : (k < length models) ⊎ (length models ≤ k) → slice_get cells (get_or (places ++ place ∷ []) k 0) ≡ cell_named cells (get_or (models ++ model ∷ []) k [])
    by (inl m) =
        let c = before.many in
        ap (slice_get cells) (get_or_append_left places (place ∷ []) 0 k (omega (arith, m, c))) ∙ before.each k m ∙ ap (cell_named cells) (sym (get_or_append_left models (model ∷ []) [] k m))
    by (inr m) =
        let c = before.many in
        let b = length_push models model in
        let e : length models ≡ k = omega (arith, l, m, b) in
        ap (slice_get cells) (get_or_push places place 0 k (c ∙ e)) ∙ is ∙ ap (cell_named cells) (sym (get_or_push models model [] k e))

-- ---- pins

pub pin_found : (pins : List Pin) (way : Dir) (name : Name) (k : ℕ) (p : Pin) → k < length pins → p ≡ get_or pins k p → p.port.dir ≡ way → p.port.name ≡ name → HasPin pins way name
pin_found pins way name k p l at is named = record { pin = p; listed = (k, slice_get_read pins (length pins) k p refl l at); named = named; is = is }

-- none of the first k pins is one
abbrev pub LacksPin : List Pin → Dir → Name → ℕ → Type 0
LacksPin pins way name k = (j : ℕ) (p : Pin) → j < k → Stands pins j p → p.port.dir ≡ way → p.port.name ≡ name → ⊥

pub pin_passed : (pins : List Pin) (way : Dir) (name : Name) (k : ℕ) (p : Pin) → k < length pins → p ≡ get_or pins k p → LacksPin pins way name k → (p.port.dir ≡ way → p.port.name ≡ name → ⊥) → LacksPin pins way name (k + 1)
pin_passed pins way name k p l at before apart j q m s d e = by (cases_lt j k) where
  by : (j < k) ⊎ (k ≤ j) → ⊥
  by (inl less) = before j q less s d e
  by (inr more) =
      let same : j ≡ k = omega (arith, m, more) in
      let as_pin : q ≡ p = stands_same pins k q p (subst (λ i. Stands pins i q) same s) (slice_get_read pins (length pins) k p refl l at) in
      apart (ap (λ (r : Pin). r.port.dir) (sym as_pin) ∙ d) (ap (λ (r : Pin). r.port.name) (sym as_pin) ∙ e)

pub pin_absent : (pins : List Pin) (way : Dir) (name : Name) (k : ℕ) → length pins ≤ k → LacksPin pins way name k → HasPin pins way name → ⊥
pin_absent pins way name k l before h =
    let w = slice_get_within pins h.listed.0 h.pin h.listed.1 in
    before h.listed.0 h.pin (omega (arith, w, l)) h.listed.1 h.is h.named

-- ---- capacitances

abbrev pub instance_capacitances : Library → Instance → List ℕ
instance_capacitances l i = map (input_capacitance (pins_at (cell_of l i.model))) i.pins

pub capacitances_start : (n : Netlist) (l : Library) (xs : List ℕ) → xs ≡ replicate {A = ℕ} (length n.ports) 0 → xs ++ flat_map (instance_capacitances l) (drop 0 n.instances) ≡ capacitances n l
capacitances_start n l xs e = ap (λ (ys : List ℕ). ys ++ flat_map (instance_capacitances l) n.instances) (e ∙ zeros n.ports) where
  zeros : (ps : List Port) → replicate {A = ℕ} (length ps) 0 ≡ map {B = ℕ} (λ (p : Port). 0) ps
  zeros [] = refl
  zeros (p ∷ ps) = ap (λ (ys : List ℕ). 0 ∷ ys) (zeros ps)

pub capacitances_next : (n : Netlist) (l : Library) (k : ℕ) (node : Node) (pins : List Pin) (old new : List ℕ) → AtNode n l k node (cell_of l (instance_of n.models node).model)
    → pins ≡ pins_at (cell_of l (instance_of n.models node).model) → new ≡ old ++ map (input_capacitance pins) node.pins
    → old ++ flat_map (instance_capacitances l) (drop k n.instances) ≡ capacitances n l → new ++ flat_map (instance_capacitances l) (drop (k + 1) n.instances) ≡ capacitances n l
capacitances_next n l k node pins old new at is pushed before =
    let low = slice_get_within n.instances k (instance_of n.models node) at.stands in
    let here : get_or n.instances k (instance_of n.models node) ≡ instance_of n.models node = get_or_from_slice_get n.instances k (instance_of n.models node) (instance_of n.models node) at.stands in
    let rest : drop k n.instances ≡ instance_of n.models node ∷ drop (k + 1) n.instances =
    drop_more n.instances k (instance_of n.models node) low ∙ ap (λ (i : Instance). i ∷ drop (k + 1) n.instances) here in
    let own : map (input_capacitance pins) node.pins ≡ instance_capacitances l (instance_of n.models node) = ap (λ (ps : List Pin). map (input_capacitance ps) node.pins) is in
    ap (λ (ys : List ℕ). ys ++ flat_map (instance_capacitances l) (drop (k + 1) n.instances)) (pushed ∙ ap (λ (ys : List ℕ). old ++ ys) own)
    ∙ append_assoc old (instance_capacitances l (instance_of n.models node)) (flat_map (instance_capacitances l) (drop (k + 1) n.instances))
    ∙ ap (λ (is : List Instance). old ++ flat_map (instance_capacitances l) is) (sym rest) ∙ before

pub capacitances_end : (n : Netlist) (l : Library) (k : ℕ) (xs : List ℕ) → length n.instances ≤ k → xs ++ flat_map (instance_capacitances l) (drop k n.instances) ≡ capacitances n l → xs ≡ capacitances n l
capacitances_end n l k xs all e =
    sym (append-nil xs) ∙ ap (λ (is : List Instance). xs ++ flat_map (instance_capacitances l) is) (sym (drop_all k n.instances all)) ∙ e
