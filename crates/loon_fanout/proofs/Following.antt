-- A wiring follows a netlist whose classes are a function of terminals, gate by gate and group by group.
use Rattle.std.proofs.Common.{◌≡◌, inl, inr, ℕ, zero, suc, ◌+◌, ◌<◌, ◌≤◌, Bool, true, false, List, [], ◌∷◌, ◌++◌, map, length, Some, refl, sym, ◌∙◌, ap, subst, arith, append-nil, append_assoc, length-append, nat_eq, if◌then◌else◌}
use Rattle.std.proofs.lemmas.Grind.{flat_map-append}
use Rattle.std.proofs.lemmas.List.{map-append}
use Rattle.std.specs.List.{flat_map, list_any}
use Rattle.vlsi_base.specs.declared.name.Name.{Name}
use Rattle.vlsi_base.specs.declared.name.Terminal.{Terminal}
use Rattle.vlsi_base.specs.Names.{vdd, vss}
use Rattle.vlsi_base.specs.Member.{In, here, AllDifferent}
use Rattle.machine_core.specs.Machine.{names_of}
use Rattle.machine_core.specs.Named.{is_same_name}
use Rattle.cell_model.specs.Cell.{Cell, cell_inputs}
use Rattle.cell_model.specs.Library.{Library}
use Rattle.cell_model.proofs.Members.{In-split, In-left, In-map, In-map_back}
use Rattle.cell_model.proofs.Texts.{text_itself}
use Rattle.cell_pins.specs.Pins.{all_ports}
use Rattle.cell_pins.proofs.Sound.{member_at}
use Rattle.net_core.specs.Netlist.{Instance, port, pin_of, pins_of}
use Rattle.net_core.specs.Places.{Stands}
use Rattle.net_core.proofs.Standing.{stands_right}
use Rattle.net_theory.proofs.Basics.{length-map}
use Rattle.loon_wiring.specs.declared.repeater.Tie.{Tie}
use Rattle.loon_wiring.specs.declared.wiring.Wiring.{Wiring}
use Rattle.loon_fanout.specs.Sinks.{Wired, is_supply_class, sinks, is_same_owner}
use Rattle.loon_fanout.specs.Wired.{pin_class, with_gate}
use Rattle.loon_fanout.specs.Laws.{gate_named}
use Rattle.loon_wiring.specs.Stages.{tie_of, next_class, ends_of, tied_class, read_place, PutsGate}
use Rattle.loon_fanout.proofs.Picking.{filter_none, map_same, different_append, different_apart, different_map, only_one}
use Rattle.loon_fanout.proofs.Supplies.{eq_not, apart_net, readers}
use Rattle.loon_fanout.proofs.Gates.{IsGate}
use Rattle.loon_fanout.proofs.Sinking.{all_terminals, all_sinks, names_in, sink_there, not_new, its_input, own_class, old_class, sinks_gate}

-- The classes by places are those of the terminals, and the names that are left can be given to gates.
pub record Follows (l : Library) (left : List (List ℕ)) (v : Wiring) (w : Wired) : Type 0 where
  pub classes : v.classes.items ≡ map w.class (all_terminals w)
  pub count : w.count ≡ next_class v
  pub high : w.class (port vdd) ≡ v.high
  pub low : w.class (port vss) ≡ v.low
  pub below : (t : Terminal) → In t (all_terminals w) → w.class t < w.count
  pub differ : AllDifferent (all_terminals w)
  pub sinks_differ : AllDifferent (all_sinks l w)
  pub names : AllDifferent (names_in w ++ left)
  pub on_vdd : In (port vdd) (all_terminals w)
  pub on_vss : In (port vss) (all_terminals w)

-- ---- one gate

terminals_more : (c : Cell) (w : Wired) (read : ℕ) (name : List ℕ)
    → all_terminals (with_gate c w read name) ≡ all_terminals w ++ map (pin_of name) (names_of (all_ports c))
terminals_more c w read name =
    ap (λ (ts : List Terminal). map (λ p. port p.name) w.ports ++ ts) (flat_map-append pins_of w.instances (gate_named c name ∷ []))
    ∙ ap (λ (ts : List Terminal). map (λ p. port p.name) w.ports ++ (flat_map pins_of w.instances ++ ts)) (append-nil (map (pin_of name) (names_of (all_ports c))))
    ∙ sym (append_assoc (map (λ p. port p.name) w.ports) (flat_map pins_of w.instances) (map (pin_of name) (names_of (all_ports c))))

sinks_more : (l : Library) (c : Cell) (input : Name) → IsGate l c input → (w : Wired) (read : ℕ) (name : List ℕ)
    → all_sinks l (with_gate c w read name) ≡ all_sinks l w ++ pin_of name input ∷ []
sinks_more l c input g w read name =
    flat_map-append _ w.instances (gate_named c name ∷ [])
    ∙ ap (λ (ns : List Name). all_sinks l w ++ (map (pin_of name) ns ++ [])) g.sinks

no_new_name : (w : Wired) (name : List ℕ) (left : List (List ℕ)) → AllDifferent (names_in w ++ name ∷ left) → In name (names_in w) → ⊥
no_new_name w name left d i = different_apart (names_in w) (name ∷ left) d name i here

map_pins : (f : Terminal → ℕ) (name : List ℕ) (ns : List Name) → map f (map (pin_of name) ns) ≡ map (λ n. f (pin_of name n)) ns
map_pins f name [] = refl
map_pins f name (n ∷ ns) = ap (λ (ks : List ℕ). f (pin_of name n) ∷ ks) (map_pins f name ns)

pub pin_below : (w : Wired) (c : Cell) (read : ℕ) (pin : Name) → read < w.count → w.class (port vdd) < w.count → w.class (port vss) < w.count → pin_class w c read pin < suc w.count
pin_below w c read pin r high low = by (is_same_name pin vdd) (is_same_name pin vss) (list_any (λ x. is_same_name x pin) (cell_inputs c)) where
  by : (a b x : Bool) → (if a then w.class (port vdd) else if b then w.class (port vss) else if x then read else w.count) < suc w.count
  by true b x = omega (arith, high)
  by false true x = omega (arith, low)
  by false false true = omega (arith, r)
  by false false false = omega arith

stands_map : {A B : Type 0} (f : A → B) (xs : List A) (k : ℕ) (x : A) → Stands xs k x → Stands (map f xs) k (f x)
stands_map f [] k x e = absurd cc
stands_map f (y ∷ xs) zero x e = let same : y ≡ x = cc in ap (λ z. Some (f z)) same
stands_map f (y ∷ xs) (suc k) x e = stands_map f xs k x e

module _ (l : Library) (c : Cell) (input : Name) (g : IsGate l c input) (left : List (List ℕ)) (name : List ℕ) (v u : Wiring) (w : Wired) (read place : ℕ) (ties : List Tie)
    (f : Follows l (name ∷ left) v w) (are : ties ≡ map tie_of (all_ports c)) (puts : PutsGate ties v u read place) (reads : read < w.count) where
  abbrev after : Wired
  after = with_gate c w read name

  abbrev pins : List Terminal
  pins = map (pin_of name) (names_of (all_ports c))

  new : In name (names_in w) → ⊥
  new = no_new_name w name left f.names

  more : all_terminals after ≡ all_terminals w ++ pins
  more = terminals_more c w read name

  old_same : (t : Terminal) → In t (all_terminals w) → after.class t ≡ w.class t
  old_same t i = old_class c w read name new t i

  pins_same : map after.class pins ≡ map (pin_class w c read) (names_of (all_ports c))
  pins_same =
      map_pins after.class name (names_of (all_ports c))
      ∙ map_same (λ n. after.class (pin_of name n)) (pin_class w c read) (names_of (all_ports c)) (λ n i. own_class c w read name n)

  classes : u.classes.items ≡ map after.class (all_terminals after)
  classes =
      puts.classes
      ∙ ap (λ (ks : List ℕ). ks ++ map (tied_class (ends_of v read)) ties) f.classes
      ∙ ap (λ (ts : List Tie). map w.class (all_terminals w) ++ map (tied_class (ends_of v read)) ts) are
      ∙ ap (λ (ks : List ℕ). map w.class (all_terminals w) ++ ks) (g.ties w v read f.high f.low f.count ∙ sym pins_same)
      ∙ ap (λ (ks : List ℕ). ks ++ map after.class pins) (map_same w.class after.class (all_terminals w) (λ t i. sym (old_same t i)))
      ∙ sym (map-append after.class (all_terminals w) pins)
      ∙ ap (map after.class) (sym more)

  foreign : (t : Terminal) → In t (all_terminals w) → In t pins → ⊥
  foreign t i j =
      let r = In-map_back (pin_of name) t (names_of (all_ports c)) j in
      let a = not_new w name t new i in
      let b : is_same_owner t.instance (Some name) ≡ is_same_owner (Some name) (Some name) = ap (λ (x : Terminal). is_same_owner x.instance (Some name)) (sym r.2) in
      same_text (sym a ∙ b) where
        same_text : false ≡ is_same_owner (Some name) (Some name) → ⊥
        same_text e = let y = text_itself name in let wrong : false ≡ true = e ∙ y in cc wrong

  differ : AllDifferent (all_terminals after)
  differ = subst (λ (ts : List Terminal). AllDifferent ts) (sym more)
      (different_append (all_terminals w) pins f.differ
      (different_map (pin_of name) (names_of (all_ports c)) (λ x y e. ap (λ (t : Terminal). t.pin) e) g.different)
      foreign)

  sinks_differ : AllDifferent (all_sinks l after)
  sinks_differ = subst (λ (ts : List Terminal). AllDifferent ts) (sym (sinks_more l c input g w read name))
      (different_append (all_sinks l w) (pin_of name input ∷ []) f.sinks_differ ((λ i. elim i [ ]), tt) apart) where
        apart : (t : Terminal) → In t (all_sinks l w) → In t (pin_of name input ∷ []) → ⊥
        apart t i j = foreign t (sink_there l w t i) (only j) where
          in_pins : In input (names_of (all_ports c))
          in_pins = let r = g.place 0 0 in member_at (names_of (all_ports c)) r.0 input r.2

          only : In t (pin_of name input ∷ []) → In t pins
          only k = subst (λ (x : Terminal). In x pins) (sym (only_one t (pin_of name input) k)) (In-map (pin_of name) input (names_of (all_ports c)) in_pins)

  below : (t : Terminal) → In t (all_terminals after) → after.class t < after.count
  below t i = elim (In-split t (all_terminals w) pins (subst (λ (ts : List Terminal). In t ts) more i)) [
    | inl a ↦ let b = f.below t a in let e = old_same t a in omega (arith, b, e)
    | inr b ↦
        let r = In-map_back (pin_of name) t (names_of (all_ports c)) b in
        let h = pin_below w c read r.0 reads (f.below (port vdd) f.on_vdd) (f.below (port vss) f.on_vss) in
        let e = own_class c w read name r.0 in
        subst (λ (x : Terminal). after.class x < after.count) r.2 (subst (λ (k : ℕ). k < suc w.count) (sym e) h)
  ]

  there_still : (t : Terminal) → In t (all_terminals w) → In t (all_terminals after)
  there_still t i = subst (λ (ts : List Terminal). In t ts) (sym more) (In-left t (all_terminals w) pins i)

  pub gate_follows : Follows l left u after
  gate_follows = record {
    classes = classes;
    count = let a = f.count in let b = puts.reads in let d = puts.first in let n = ap length b ∙ length-append v.reads.items (read ∷ []) in
        (let e : suc w.count ≡ u.first + length u.reads.items = omega (arith, a, d, n) in e);
    high = f.high ∙ sym puts.high;
    low = f.low ∙ sym puts.low;
    below = below;
    differ = differ;
    sinks_differ = sinks_differ;
    names = subst (λ (ns : List (List ℕ)). AllDifferent ns)
        (sym (ap (λ (ns : List (List ℕ)). ns ++ left) (map-append (λ (i : Instance). i.name) w.instances (gate_named c name ∷ []))
        ∙ append_assoc (names_in w) (name ∷ []) left))
        f.names;
    on_vdd = there_still (port vdd) f.on_vdd;
    on_vss = there_still (port vss) f.on_vss;
  }

  pub gate_grows : all_terminals after ≡ all_terminals w ++ pins
  gate_grows = more

  -- the input stands at the place that is answered
  pub gate_place : Stands (all_terminals after) place (pin_of name input)
  gate_place =
      let r = g.place (length v.classes.items) (length v.classes.items) in
      let many : length v.classes.items ≡ length (all_terminals w) = ap length f.classes ∙ length-map w.class (all_terminals w) in
      let is : place ≡ length (all_terminals w) + r.0 =
      puts.place
      ∙ ap (λ (ts : List Tie). read_place (length v.classes.items) (length v.classes.items) ts) are
      ∙ r.1
      ∙ ap (λ (n : ℕ). n + r.0) many in
      subst (λ (ts : List Terminal). Stands ts place (pin_of name input)) (sym more)
      (subst (λ (n : ℕ). Stands (all_terminals w ++ pins) n (pin_of name input)) (sym is)
      (stands_right (all_terminals w) pins r.0 (pin_of name input) (stands_map (pin_of name) (names_of (all_ports c)) r.0 input r.2)))

  pub gate_sinks : is_supply_class w read ≡ false → (k : ℕ) → sinks l after k ≡ sinks l w k ++ its_input name input read k
  gate_sinks net k = sinks_gate l c input g w read name new net k

-- ---- behind the classes

pub none_behind : (l : Library) (left : List (List ℕ)) (v : Wiring) (w : Wired) → Follows l left v w → (k : ℕ) → w.count ≤ k → sinks l w k ≡ []
none_behind l left v w f k over = by (is_supply_class w k) where
  by : (b : Bool) → (if b then [] else readers l w k) ≡ []
  by true = refl
  by false = filter_none (λ t. nat_eq (w.class t) k) (all_sinks l w) (λ t i.
      eq_not (w.class t) k (λ e. let b = f.below t (sink_there l w t i) in absurd (omega (arith, b, e, over))))

-- a class that is new is a net
pub behind_net : (l : Library) (left : List (List ℕ)) (v : Wiring) (w : Wired) → Follows l left v w → (k : ℕ) → w.count ≤ k → is_supply_class w k ≡ false
behind_net l left v w f k over =
    apart_net w k (λ e. let b = f.below (port vdd) f.on_vdd in absurd (omega (arith, b, e, over))) (λ e. let b = f.below (port vss) f.on_vss in absurd (omega (arith, b, e, over)))
