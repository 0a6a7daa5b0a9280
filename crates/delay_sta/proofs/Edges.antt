-- Where paths start and end, and the greatest of their times.
use Rattle.std.proofs.Common.{◌≡◌, ◌⊎◌, inl, inr, ℕ, zero, suc, ◌+◌, ◌<◌, ◌≤◌, Bool, true, false, List, [], ◌∷◌, ◌++◌, map, length, get_or, nat_eq, Option, Some, None, refl, sym, ap, ◌∙◌, subst, arith, max}
use Rattle.std.specs.Prelude.{◌↔◌, slice_set}
use Rattle.std.specs.List.{All}
use Rattle.std.proofs.lemmas.List.{get_or-set_same, get_or-set_other, length-set}
use Rattle.std.proofs.lemmas.Bool.{cases_lt, eqb-true, eq-eqb}
use Rattle.std.proofs.lemmas.Option.{slice_get_within, slice_get-get_or}
use Rattle.vlsi_base.specs.declared.name.Name.{Name}
use Rattle.vlsi_base.specs.declared.name.Port.{Port}
use Rattle.vlsi_base.specs.declared.name.Dir.TheVariants as dir
use Rattle.cell_model.specs.Cell.{Function, gate, flip_flop, other, opaque, Cell}
use Rattle.cell_model.specs.Library.{Library, cell_of}
use Rattle.net_core.specs.declared.frame.Node.{Node}
use Rattle.net_core.specs.Places.{Stands, IsThere}
use Rattle.net_core.specs.Frame.{instance_of}
use Rattle.net_core.specs.Netlist.{Instance, Netlist, IsNetlist, port, pin_of, terminals, HasClass}
use Rattle.net_core.proofs.Frames.{mapped}
use Rattle.net_core.proofs.Finishing.{class_once}
use Rattle.net_core.proofs.Rings.{class_below}
use Rattle.net_core.proofs.Namings.{turn_below}
use Rattle.net_core.proofs.Standing.{stands_left, stands_same}
use Rattle.delay_sta.specs.declared.arrivals.Delays.{Delays}
use Rattle.delay_sta.specs.Paths.{IsStart, IsEnd, at_port, at_data, Arrives, Ends, IsGreatest, IsWorst}
use Rattle.delay_sta.specs.Timed.{AreDelaysOf}
use Rattle.delay_sta.specs.Graph.{AreStartsOf, IsStartPort, data_pin, IsDataClass, IsOutputBefore}
use Rattle.delay_sta.proofs.Gathering.{AtNode}
use Rattle.delay_sta.proofs.Grouping.{nothing_there, there_more}

-- ---- ports

-- a port stands with its class
pub port_class : (n : Netlist) → IsNetlist n → (k : ℕ) (p : Port) (class : ℕ) → Stands n.ports k p → Stands n.classes k class → HasClass n (port p.name) class
port_class n sound k p class s c =
    (k, stands_left (map (λ (q : Port). port q.name) n.ports) _ k (port p.name) (mapped (λ (q : Port). port q.name) n.ports k p s), c)

pub ports_few : (n : Netlist) → IsNetlist n → length n.ports ≤ length n.classes
ports_few n sound = by (cases_lt (length n.classes) (length n.ports)) where
  last : (xs : List Port) (k : ℕ) → k < length xs → (p : Port) × Stands xs k p
  last [] k l = absurd (omega (arith, l))
  last (x ∷ xs) zero l = (x, refl)
  last (x ∷ xs) (suc k) l = last xs k (omega (arith, l))

  by : (length n.classes < length n.ports) ⊎ (length n.ports ≤ length n.classes) → length n.ports ≤ length n.classes
  by (inr h) = h
  by (inl h) =
      let p = last n.ports (length n.classes) h in
      let s = stands_left (map (λ (q : Port). port q.name) n.ports) _ (length n.classes) (port p.0.name) (mapped (λ (q : Port). port q.name) n.ports (length n.classes) p.0 p.1) in
      let w = slice_get_within (terminals n) (length n.classes) (port p.0.name) s in
      let e = sound.each in
      absurd (omega (arith, w, e))

pub classes_low : (n : Netlist) → IsNetlist n → All (λ class. class < n.count) n.classes
classes_low n sound = turn_below 0 n.count n.classes sound.turns

pub class_low : (n : Netlist) → IsNetlist n → (k : ℕ) → k < length n.ports → get_or n.classes k 0 < n.count
class_low n sound k l = let few = ports_few n sound in classes_low n sound k 0 (omega (arith, l, few))

-- ---- where paths start

-- so many ports are looked at
pub record StartedSoFar (n : Netlist) (arrivals : List (Option ℕ)) (k : ℕ) : Type 0 where
  pub many : length arrivals ≡ n.count
  pub zero : (class time : ℕ) → get_or arrivals class None ≡ Some time → (time ≡ 0) × IsStart n class
  pub each : (j : ℕ) (p : Port) (class : ℕ) → j < k → Stands n.ports j p → Stands n.classes j class → IsStartPort p → get_or arrivals class None ≡ Some 0

-- no class has an arrival yet
pub started_none : (n : Netlist) (arrivals : List (Option ℕ)) → length arrivals ≡ n.count → ((class : ℕ) → get_or arrivals class None ≡ None) → StartedSoFar n arrivals 0
started_none n arrivals many never = record {
  many = many;
  zero = λ class time e. let no : None ≡ Some time = sym (never class) ∙ e in absurd cc;
  each = λ j p class l s c h. absurd (omega (arith, l));
}

pub started_then : (n : Netlist) → IsNetlist n → (arrivals : List (Option ℕ)) (k : ℕ) (p : Port) (class : ℕ) → StartedSoFar n arrivals k → Stands n.ports k p → Stands n.classes k class → IsStartPort p
    → StartedSoFar n (slice_set arrivals class (Some 0)) (k + 1)
started_then n sound arrivals k p class before s c h = record { many = length-set arrivals class (Some 0) ∙ before.many; zero = zero_now; each = each } where
  joined : HasClass n (port p.name) class
  joined = port_class n sound k p class s c

  low : class < length arrivals
  low = let l = class_below n sound (port p.name) class joined in let m = before.many in omega (arith, l, m)

  put : get_or (slice_set arrivals class (Some 0)) class None ≡ Some 0
  put = get_or-set_same arrivals class (Some 0) None low

  kept : (d : ℕ) → nat_eq d class ≡ false → get_or (slice_set arrivals class (Some 0)) d None ≡ get_or arrivals d None
  kept d e = get_or-set_other arrivals class d (Some 0) None (λ q. let no : true ≡ false = sym (eq-eqb d class q) ∙ e in absurd cc)

  zero_now : (d time : ℕ) → get_or (slice_set arrivals class (Some 0)) d None ≡ Some time → (time ≡ 0) × IsStart n d
  zero_now d time e = by (nat_eq d class) refl where
    by : (b : Bool) → nat_eq d class ≡ b → (time ≡ 0) × IsStart n d
    by true t =
        let same : d ≡ class = eqb-true d class t in
        let is : Some 0 ≡ Some time = sym put ∙ ap (λ j. get_or (slice_set arrivals class (Some 0)) j None) (sym same) ∙ e in
        let at : IsStart n class = record { input = p; listed = (k, s); takes = h.0; signal = h.1; joined = joined } in
        (let z : 0 ≡ time = cc in sym z, subst (IsStart n) (sym same) at)
    by false t = before.zero d time (sym (kept d t) ∙ e)

  each : (j : ℕ) (q : Port) (d : ℕ) → j < k + 1 → Stands n.ports j q → Stands n.classes j d → IsStartPort q → get_or (slice_set arrivals class (Some 0)) d None ≡ Some 0
  each j q d l t u g = by (nat_eq d class) refl where
    by : (b : Bool) → nat_eq d class ≡ b → get_or (slice_set arrivals class (Some 0)) d None ≡ Some 0
    by true e = ap (λ m. get_or (slice_set arrivals class (Some 0)) m None) (eqb-true d class e) ∙ put
    by false e = kept d e ∙ before.each j q d (from (cases_lt j k)) t u g where
      from : (j < k) ⊎ (k ≤ j) → j < k
      from (inl m) = m
      from (inr m) =
          let same : j ≡ k = omega (arith, l, m) in
          let as_class : d ≡ class = stands_same n.classes k d class (subst (λ i. Stands n.classes i d) same u) c in
          let no : true ≡ false = sym (eq-eqb d class as_class) ∙ e in absurd cc

pub started_else : (n : Netlist) (arrivals : List (Option ℕ)) (k : ℕ) (p : Port) → StartedSoFar n arrivals k → Stands n.ports k p → (IsStartPort p → ⊥) → StartedSoFar n arrivals (k + 1)
started_else n arrivals k p before s never = record {
  many = before.many;
  zero = before.zero;
  each = λ j q d l t u g. elim (cases_lt j k) [
    | inl m ↦ before.each j q d m t u g
    | inr m ↦
        let same : j ≡ k = omega (arith, l, m) in
        let as_port : q ≡ p = stands_same n.ports k q p (subst (λ i. Stands n.ports i q) same t) s in
        absurd (never (subst IsStartPort as_port g))
  ];
}

pub started_all : (n : Netlist) → IsNetlist n → (arrivals : List (Option ℕ)) (k : ℕ) → length n.ports ≤ k → StartedSoFar n arrivals k → AreStartsOf n arrivals
started_all n sound arrivals k all h = record {
  many = h.many;
  zero = λ class time e. (h.zero class time e).0;
  each = λ class. (
    (λ e. (h.zero class 0 e).1),
    (λ g.
        let w = slice_get_within n.ports g.listed.0 g.input g.listed.1 in
        let l = ports_few n sound in
        let s : Stands n.classes g.listed.0 (get_or n.classes g.listed.0 0) = slice_get-get_or n.classes g.listed.0 0 (omega (arith, w, l)) in
        let own = port_class n sound g.listed.0 g.input (get_or n.classes g.listed.0 0) g.listed.1 s in
        let same : get_or n.classes g.listed.0 0 ≡ class = class_once n sound (port g.input.name) (get_or n.classes g.listed.0 0) class own g.joined in
        subst (λ c. get_or arrivals c None ≡ Some 0) same (h.each g.listed.0 g.input (get_or n.classes g.listed.0 0) (omega (arith, w, all)) g.listed.1 s (g.takes, g.signal))),
  );
}

-- ---- where paths end

pub outputs_none : (ports : List Port) (classes : List ℕ) (class : ℕ) → IsThere [] class ↔ IsOutputBefore ports classes 0 class
outputs_none ports classes class = ((λ t. absurd (nothing_there class t)), (λ h. let l = h.before in absurd (omega (arith, l))))

pub outputs_then : (ports : List Port) (classes : List ℕ) (k : ℕ) (p : Port) (c : ℕ) (old new : List ℕ) → Stands ports k p → Stands classes k c → p.dir ≡ dir.Out → new ≡ old ++ c ∷ []
    → ((class : ℕ) → IsThere old class ↔ IsOutputBefore ports classes k class) → (class : ℕ) → IsThere new class ↔ IsOutputBefore ports classes (k + 1) class
outputs_then ports classes k p c old new s t gives pushed before class = (one, two) where
  one : IsThere new class → IsOutputBefore ports classes (k + 1) class
  one u = elim ((there_more old c class).0 (subst (λ (xs : List ℕ). IsThere xs class) pushed u)) [
    | inl v ↦ let h = (before class).0 v in record { place = h.place; before = let l = h.before in omega (arith, l); output = h.output; stands = h.stands; gives = h.gives; joined = h.joined }
    | inr e ↦ record { place = k; before = omega arith; output = p; stands = s; gives = gives; joined = subst (λ d. Stands classes k d) e t }
  ]

  two : IsOutputBefore ports classes (k + 1) class → IsThere new class
  two h = subst (λ (xs : List ℕ). IsThere xs class) (sym pushed) ((there_more old c class).1 (by (cases_lt h.place k))) where
    by : (h.place < k) ⊎ (k ≤ h.place) → IsThere old class ⊎ (c ≡ class)
    by (inl l) = inl ((before class).1 (record { place = h.place; before = l; output = h.output; stands = h.stands; gives = h.gives; joined = h.joined }))
    by (inr l) =
        let b = h.before in
        let same : h.place ≡ k = omega (arith, b, l) in
        inr (stands_same classes k c class t (subst (λ i. Stands classes i class) same h.joined))

pub outputs_else : (ports : List Port) (classes : List ℕ) (k : ℕ) (p : Port) (old : List ℕ) → Stands ports k p → (p.dir ≡ dir.Out → ⊥)
    → ((class : ℕ) → IsThere old class ↔ IsOutputBefore ports classes k class) → (class : ℕ) → IsThere old class ↔ IsOutputBefore ports classes (k + 1) class
outputs_else ports classes k p old s never before class = (one, two) where
  one : IsThere old class → IsOutputBefore ports classes (k + 1) class
  one v = let h = (before class).0 v in record { place = h.place; before = let l = h.before in omega (arith, l); output = h.output; stands = h.stands; gives = h.gives; joined = h.joined }

  two : IsOutputBefore ports classes (k + 1) class → IsThere old class
  two h = by (cases_lt h.place k) where
    by : (h.place < k) ⊎ (k ≤ h.place) → IsThere old class
    by (inl l) = (before class).1 (record { place = h.place; before = l; output = h.output; stands = h.stands; gives = h.gives; joined = h.joined })
    by (inr l) =
        let b = h.before in
        let same : h.place ≡ k = omega (arith, b, l) in
        let as_port : h.output ≡ p = stands_same ports k h.output p (subst (λ i. Stands ports i h.output) same h.stands) s in
        absurd (never (ap (λ (q : Port). q.dir) (sym as_port) ∙ h.gives))

-- the data pin's class, where it is found
pub data_some : (n : Netlist) → IsNetlist n → (owner : List ℕ) (c : Cell) (pin : Name) (class : ℕ) (old new : List ℕ) → data_pin c.function ≡ Some pin → HasClass n (pin_of owner pin) class → new ≡ old ++ class ∷ []
    → (d : ℕ) → IsThere new d ↔ (IsThere old d ⊎ IsDataClass n owner c d)
data_some n sound owner c pin class old new is joined pushed d = (one, two) where
  one : IsThere new d → IsThere old d ⊎ IsDataClass n owner c d
  one t = elim ((there_more old class d).0 (subst (λ (xs : List ℕ). IsThere xs d) pushed t)) [
    | inl u ↦ inl u
    | inr e ↦ inr (record { pin = pin; is = is; joined = subst (λ k. HasClass n (pin_of owner pin) k) e joined })
  ]

  two : IsThere old d ⊎ IsDataClass n owner c d → IsThere new d
  two h = subst (λ (xs : List ℕ). IsThere xs d) (sym pushed) ((there_more old class d).1 (by h)) where
    by : IsThere old d ⊎ IsDataClass n owner c d → IsThere old d ⊎ (class ≡ d)
    by (inl t) = inl t
    by (inr g) =
        let same : g.pin ≡ pin = let f : Some g.pin ≡ Some pin = sym g.is ∙ is in cc in
        inr (class_once n sound (pin_of owner pin) class d joined (subst (λ (m : Name). HasClass n (pin_of owner m) d) same g.joined))

pub data_never : (n : Netlist) (owner : List ℕ) (c : Cell) (old : List ℕ) → ((d : ℕ) → IsDataClass n owner c d → ⊥) → (d : ℕ) → IsThere old d ↔ (IsThere old d ⊎ IsDataClass n owner c d)
data_never n owner c old never d = ((λ t. inl t), two) where
  two : IsThere old d ⊎ IsDataClass n owner c d → IsThere old d
  two (inl t) = t
  two (inr g) = absurd (never d g)

pub data_none : (n : Netlist) (owner : List ℕ) (c : Cell) (d : ℕ) → data_pin c.function ≡ None → IsDataClass n owner c d → ⊥
data_none n owner c d e g = let f : None ≡ Some g.pin = sym e ∙ g.is in absurd cc

pub data_absent : (n : Netlist) (owner : List ℕ) (c : Cell) (pin : Name) (d : ℕ) → data_pin c.function ≡ Some pin → (IsThere (terminals n) (pin_of owner pin) → ⊥) → IsDataClass n owner c d → ⊥
data_absent n owner c pin d is lacks g =
    let same : g.pin ≡ pin = let f : Some g.pin ≡ Some pin = sym g.is ∙ is in cc in
    let j = subst (λ (m : Name). HasClass n (pin_of owner m) d) same g.joined in
    lacks (j.0, j.1)

-- so many instances are looked at
pub record EndedSoFar (n : Netlist) (l : Library) (ends : List ℕ) (k : ℕ) : Type 0 where
  pub sound : (class : ℕ) → IsThere ends class → IsEnd n l class
  pub ports : (output : Port) (class : ℕ) → IsThere n.ports output → output.dir ≡ dir.Out → HasClass n (port output.name) class → IsThere ends class
  pub data_pins : (j : ℕ) (i : Instance) (c : Cell) (class : ℕ) → j < k → Stands n.instances j i → cell_of l i.model ≡ Some c → IsDataClass n i.name c class → IsThere ends class

pub ended_ports : (n : Netlist) → IsNetlist n → (l : Library) (ends : List ℕ) → ((class : ℕ) → IsThere ends class ↔ IsOutputBefore n.ports n.classes (length n.ports) class) → EndedSoFar n l ends 0
ended_ports n sound l ends are = record {
  sound = λ class t. let h = (are class).0 t in at_port h.output (h.place, h.stands) h.gives (port_class n sound h.place h.output class h.stands h.joined);
  ports = λ output class t gives joined.
      let w = slice_get_within n.ports t.0 output t.1 in
      let few = ports_few n sound in
      let s : Stands n.classes t.0 (get_or n.classes t.0 0) = slice_get-get_or n.classes t.0 0 (omega (arith, w, few)) in
      let own = port_class n sound t.0 output (get_or n.classes t.0 0) t.1 s in
      let same : get_or n.classes t.0 0 ≡ class = class_once n sound (port output.name) (get_or n.classes t.0 0) class own joined in
      (are class).1 (record { place = t.0; before = w; output = output; stands = t.1; gives = gives; joined = subst (λ c. Stands n.classes t.0 c) same s });
  data_pins = λ j i c class low s f h. absurd (omega (arith, low));
}

function_of_data : (f : Function) (pin : Name) → data_pin f ≡ Some pin → (clock : Name) × (f ≡ flip_flop pin clock)
function_of_data (gate e) pin h = absurd cc
function_of_data (flip_flop d c) pin h = let same : d ≡ pin = cc in (c, ap (λ (m : Name). flip_flop m c) same)
function_of_data (other m) pin h = absurd cc
function_of_data opaque pin h = absurd cc

data_end : (n : Netlist) (l : Library) (i : Instance) (c : Cell) (class : ℕ) → IsThere n.instances i → cell_of l i.model ≡ Some c → IsDataClass n i.name c class → IsEnd n l class
data_end n l i c class t found h = let f = function_of_data c.function h.pin h.is in at_data i c h.pin f.0 t found f.1 h.joined

pub ended_some : (n : Netlist) (l : Library) (old new : List ℕ) (k : ℕ) (node : Node) (c : Cell) → AtNode n l k node (Some c) → ((d : ℕ) → IsThere new d ↔ (IsThere old d ⊎ IsDataClass n node.name c d))
    → EndedSoFar n l old k → EndedSoFar n l new (k + 1)
ended_some n l old new k node c at more before = record {
  sound = λ class t. elim ((more class).0 t) [
    | inl u ↦ before.sound class u
    | inr h ↦ data_end n l (instance_of n.models node) c class (k, at.stands) at.cell h
  ];
  ports = λ output class t gives joined. (more class).1 (inl (before.ports output class t gives joined));
  data_pins = λ j i d class low s f h. elim (cases_lt j k) [
    | inl less ↦ (more class).1 (inl (before.data_pins j i d class less s f h))
    | inr last ↦
        let e : j ≡ k = omega (arith, low, last) in
        let same_owner : i ≡ instance_of n.models node = stands_same n.instances k i (instance_of n.models node) (subst (λ m. Stands n.instances m i) e s) at.stands in
        let same_cell : d ≡ c = let g : Some d ≡ Some c = sym f ∙ ap (λ (p : Instance). cell_of l p.model) same_owner ∙ at.cell in cc in
        (more class).1 (inr (subst (λ (b : Cell). IsDataClass n node.name b class) same_cell (subst (λ (p : Instance). IsDataClass n p.name d class) same_owner h)))
  ];
}

pub ended_none : (n : Netlist) (l : Library) (ends : List ℕ) (k : ℕ) (node : Node) → AtNode n l k node None → EndedSoFar n l ends k → EndedSoFar n l ends (k + 1)
ended_none n l ends k node at before = record {
  sound = before.sound;
  ports = before.ports;
  data_pins = λ j i d class low s f h. elim (cases_lt j k) [
    | inl less ↦ before.data_pins j i d class less s f h
    | inr last ↦
        let e : j ≡ k = omega (arith, low, last) in
        let same_owner : i ≡ instance_of n.models node = stands_same n.instances k i (instance_of n.models node) (subst (λ m. Stands n.instances m i) e s) at.stands in
        let g : Some d ≡ None = sym f ∙ ap (λ (p : Instance). cell_of l p.model) same_owner ∙ at.cell in absurd cc
  ];
}

pub ended_all : (n : Netlist) (l : Library) (ends : List ℕ) (k : ℕ) → length n.instances ≤ k → EndedSoFar n l ends k → (class : ℕ) → IsThere ends class ↔ IsEnd n l class
ended_all n l ends k all h class = (h.sound class, two) where
  two : IsEnd n l class → IsThere ends class
  two (at_port output t gives joined) = h.ports output class t gives joined
  two (at_data i c data_name clock_name t found is joined) =
      let w = slice_get_within n.instances t.0 i t.1 in
      h.data_pins t.0 i c class (omega (arith, w, all)) t.1 found (record { pin = data_name; is = ap data_pin is; joined = joined })

-- ---- the greatest time

-- of so many ends
pub record WorstSoFar (arrivals : List (Option ℕ)) (ends : List ℕ) (k worst : ℕ) : Type 0 where
  pub is : ((class : ℕ) × IsThere ends class × (get_or arrivals class None ≡ Some worst)) ⊎ (worst ≡ 0)
  pub most : (j class time : ℕ) → j < k → Stands ends j class → get_or arrivals class None ≡ Some time → time ≤ worst

pub worst_none : (arrivals : List (Option ℕ)) (ends : List ℕ) → WorstSoFar arrivals ends 0 0
worst_none arrivals ends = record { is = inr refl; most = λ j class time l s e. absurd (omega (arith, l)) }

max_cases : (a b : ℕ) → (max a b ≡ a) ⊎ (max a b ≡ b)
max_cases a b = elim (cases_lt a b) [ inl l ↦ inr (omega (arith, l)) | inr l ↦ inl (omega (arith, l)) ]

pub worst_some : (arrivals : List (Option ℕ)) (ends : List ℕ) (k class time worst : ℕ) → Stands ends k class → get_or arrivals class None ≡ Some time → WorstSoFar arrivals ends k worst → WorstSoFar arrivals ends (k + 1) (max worst time)
worst_some arrivals ends k class time worst s e before = record { is = is_now; most = most } where
  is_now : ((c : ℕ) × IsThere ends c × (get_or arrivals c None ≡ Some (max worst time))) ⊎ (max worst time ≡ 0)
  is_now = by (max_cases worst time) before.is where
    by : (max worst time ≡ worst) ⊎ (max worst time ≡ time) → ((c : ℕ) × IsThere ends c × (get_or arrivals c None ≡ Some worst)) ⊎ (worst ≡ 0)
        → ((c : ℕ) × IsThere ends c × (get_or arrivals c None ≡ Some (max worst time))) ⊎ (max worst time ≡ 0)
    by (inl q) (inl w) = inl (w.0, w.1, w.2 ∙ ap Some (sym q))
    by (inl q) (inr z) = inr (q ∙ z)
    by (inr q) w = inl (class, (k, s), e ∙ ap Some (sym q))

  most : (j c t : ℕ) → j < k + 1 → Stands ends j c → get_or arrivals c None ≡ Some t → t ≤ max worst time
  most j c t l u f = by (cases_lt j k) where
    by : (j < k) ⊎ (k ≤ j) → t ≤ max worst time
    by (inl less) = let m = before.most j c t less u f in omega (arith, m)
    by (inr last) =
        let same : j ≡ k = omega (arith, l, last) in
        let as_class : c ≡ class = stands_same ends k c class (subst (λ i. Stands ends i c) same u) s in
        let g : Some t ≡ Some time = sym f ∙ ap (λ d. get_or arrivals d None) as_class ∙ e in
        let q : t ≡ time = cc in omega (arith, q)

pub worst_else : (arrivals : List (Option ℕ)) (ends : List ℕ) (k class worst : ℕ) → Stands ends k class → get_or arrivals class None ≡ None → WorstSoFar arrivals ends k worst → WorstSoFar arrivals ends (k + 1) worst
worst_else arrivals ends k class worst s e before = record { is = before.is; most = most } where
  most : (j c t : ℕ) → j < k + 1 → Stands ends j c → get_or arrivals c None ≡ Some t → t ≤ worst
  most j c t l u f = by (cases_lt j k) where
    by : (j < k) ⊎ (k ≤ j) → t ≤ worst
    by (inl less) = before.most j c t less u f
    by (inr last) =
        let same : j ≡ k = omega (arith, l, last) in
        let as_class : c ≡ class = stands_same ends k c class (subst (λ i. Stands ends i c) same u) s in
        let g : Some t ≡ None = sym f ∙ ap (λ d. get_or arrivals d None) as_class ∙ e in absurd cc

end_low : (n : Netlist) → IsNetlist n → (l : Library) (class : ℕ) → IsEnd n l class → class < n.count
end_low n sound l class (at_port output t gives joined) = class_below n sound (port output.name) class joined
end_low n sound l class (at_data i c data_name clock_name t found is joined) = class_below n sound (pin_of i.name data_name) class joined

pub worst_all : (n : Netlist) (l : Library) (d : Delays) (k worst : ℕ) → IsNetlist n → AreDelaysOf n l d → length d.ends.items ≤ k → WorstSoFar d.arrivals.items d.ends.items k worst → IsWorst n l worst
worst_all n l d k worst sound are all h = record { is = is_now h.is; most = most } where
  greatest_at : (class : ℕ) → IsEnd n l class → IsGreatest (Arrives n l class) (get_or d.arrivals.items class None)
  greatest_at class g = are.arrivals class (end_low n sound l class g)

  is_now : ((c : ℕ) × IsThere d.ends.items c × (get_or d.arrivals.items c None ≡ Some worst)) ⊎ (worst ≡ 0) → Ends n l worst ⊎ (worst ≡ 0)
  is_now (inr z) = inr z
  is_now (inl w) =
      let g = (are.ends w.0).0 w.1 in
      let r = subst (λ (o : Option ℕ). IsGreatest (Arrives n l w.0) o) w.2 (greatest_at w.0 g) in
      inl (w.0, g, r.0)

  most : (other_time : ℕ) → Ends n l other_time → other_time ≤ worst
  most other_time e = by (get_or d.arrivals.items e.0 None) refl (greatest_at e.0 e.1) where
    by : (o : Option ℕ) → get_or d.arrivals.items e.0 None ≡ o → IsGreatest (Arrives n l e.0) o → other_time ≤ worst
    by None q g = absurd (g other_time e.2)
    by (Some t) q g =
        let p = (are.ends e.0).1 e.1 in
        let w = slice_get_within d.ends.items p.0 e.0 p.1 in
        let a = h.most p.0 e.0 t (omega (arith, w, all)) p.1 q in
        let b = g.1 other_time e.2 in
        omega (arith, a, b)
