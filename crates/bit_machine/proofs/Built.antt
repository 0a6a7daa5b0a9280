-- The machine of numbered bits is checked, and settles as they do.
use Rattle.std.proofs.Common.{◌≡◌, inl, inr, ℕ, suc, ◌+◌, ◌<◌, Bool, true, cond, not, List, [], ◌∷◌, ◌++◌, map, length, get_or, Option, None, refl, sym, ap, ◌∙◌, subst, arith}
use Rattle.std.specs.Prelude.{slice_index, filter}
use Rattle.std.specs.List.{All}
use Rattle.std.proofs.lemmas.List.{length-map, get_or-map, map-append}
use Rattle.vlsi_base.specs.declared.name.Name.{Name}
use Rattle.vlsi_base.specs.declared.name.Port.{Port}
use Rattle.vlsi_base.specs.declared.name.Dir.{Dir}
use Rattle.vlsi_base.specs.declared.name.Dir.TheVariants as dir
use Rattle.bool_expr.specs.Expression.{Expression, IsOver, bit, val}
use Rattle.bool_expr.specs.Renumbering.{renumbered}
use Rattle.machine_core.specs.Named.{value_at, values_at}
use Rattle.machine_core.specs.Machine.{Machine, Equation, Register, is_input, names_of, inputs, input_ports, outputs, register_names}
use Rattle.machine_core.specs.Cycles.{Settles, next}
use Rattle.machine_core.specs.Order.{In, AllDifferent, held_names, equation_names, EachReadsBelow, IsOrdered}
use Rattle.machine_core.specs.Checked.{AreInOrder, IsNoSupply, IsChecked}
use Rattle.machine_core.proofs.Values.{In-split, In-left, In-right, In-map}
use Rattle.machine_core.proofs.Known.{IsOver-In}
use Rattle.source_bits.specs.Driven.{Numbered, NumberedStorage}
use Rattle.vlsi_model.specs.Numbered.{name_at, driven_at, equation_from, register_from}
use Rattle.vlsi_model.specs.Nodes.{HasNodes}
use Rattle.vlsi_model.specs.Laid.{inputs_of}
use Rattle.vlsi_model.proofs.Members.{In-map_back}
use Rattle.vlsi_model.proofs.PortBits.{In-filter, filter-In}
use Rattle.vlsi_model.proofs.Sorting.{In-at, place_of_In}
use Rattle.vlsi_model.proofs.Building.{map-then, map_same}
use Rattle.vlsi_model.proofs.Assembly.{All-from_In}
use Rattle.bit_machine.specs.System.{System, stored_bits, driven_bits, held_bits, IsSystem, FitsPorts, BitsSettle, bits_next, bits_shown, IsMachineOfBits}
use Rattle.bit_machine.specs.Laid.{IsLaid, var_bits}
use Rattle.bit_machine.proofs.Laying.{no_bit, bits_laid, place_below, place_there, In_laid, bits_different, bits_complete, bits_inside, read_before}
use Rattle.bit_machine.proofs.Showing.{IsTabled, vars_different, placed, shown_at, shown_bit, val_renumbered, over_renumbered, gathered}

pub All_In : {A : Type 0} (P : A → Type 0) (xs : List A) → All P xs → (x : A) → In x xs → P x
All_In P xs all x i = let r = place_of_In xs x i in subst P (r.2 x) (all r.0 x r.1)

-- a machine that is made of numbered bits
pub record Made : Type 0 where
  pub ports : List Port
  pub clock : Option Name
  pub s : System
  pub places : List ℕ
  pub table : List ℕ
  pub m : Machine
  pub is : IsSystem s
  pub laid : IsLaid s places
  pub has : HasNodes (var_bits s places) table (length s.names)
  pub fits : FitsPorts ports clock s
  pub ports_are : m.ports ≡ ports
  pub clock_is : m.clock ≡ clock
  pub vars : m.vars ≡ map (name_at s.names) (var_bits s places)
  pub equations : m.equations ≡ map (λ k. equation_from s.names table (driven_at s.driven k)) places
  pub registers : m.registers ≡ map (λ r. register_from s.names table r) s.stored

no_input : (d : Dir) → not (is_input d) ≡ true → d ≡ dir.Out
no_input dir.In e = absurd cc
no_input dir.Out e = refl

-- each equation reads only what stands before it, where it does at each place
below_all : (n : ℕ) (es : List Equation) (d : Equation) → ((j : ℕ) → j < length es → IsOver (get_or es j d).expr (n + j)) → EachReadsBelow n es
below_all n [] d all = tt
below_all n (e ∷ es) d all =
    let z : n + 0 ≡ n = omega arith in (
      subst (λ k. IsOver e.expr k) z (all 0 (omega arith)),
      below_all (n + 1) es d (λ j l. let k : n + suc j ≡ n + 1 + j = omega arith in subst (λ i. IsOver (get_or es j d).expr i) k (all (suc j) (omega (arith, l)))),
    )

-- ---- names

abbrev names : Made → List Name
names b = b.s.names

abbrev bits : Made → List ℕ
bits b = var_bits b.s b.places

tabled : (b : Made) → IsTabled (names b) (bits b) b.table
tabled b = record {
  names_differ = b.is.names;
  different = bits_different b.s b.places b.is b.laid;
  complete = bits_complete b.s b.places b.is b.laid;
  inside = bits_inside b.s b.places b.is b.laid;
  has = b.has;
}

inputs_are : (b : Made) → inputs b.m ≡ map (name_at (names b)) b.s.inputs
inputs_are b = ap (λ (c : Option Name). inputs_of c b.m.ports) b.clock_is ∙ ap (inputs_of b.clock) b.ports_are ∙ sym b.fits.inputs

registers_are : (b : Made) → register_names b.m ≡ map (name_at (names b)) (stored_bits b.s)
registers_are b =
    ap (map (λ (r : Register). r.name)) b.registers
    ∙ map-then (λ (r : Register). r.name) (λ (r : NumberedStorage). register_from (names b) b.table r) b.s.stored
    ∙ sym (map-then (name_at (names b)) (λ (r : NumberedStorage). r.bit) b.s.stored)

equations_are : (b : Made) → equation_names b.m ≡ map (name_at (names b)) (bits_laid b.s b.places)
equations_are b =
    ap (map (λ (e : Equation). e.name)) b.equations
    ∙ map-then (λ (e : Equation). e.name) (λ k. equation_from (names b) b.table (driven_at b.s.driven k)) b.places
    ∙ sym (map-then (name_at (names b)) (λ k. (driven_at b.s.driven k).bit) b.places)

held_are : (b : Made) → held_names b.m ≡ map (name_at (names b)) (held_bits b.s)
held_are b =
    ap (λ (ns : List Name). ns ++ register_names b.m) (inputs_are b) ∙ ap (λ (ns : List Name). map (name_at (names b)) b.s.inputs ++ ns) (registers_are b)
    ∙ sym (map-append (name_at (names b)) b.s.inputs (stored_bits b.s))

vars_are : (b : Made) → b.m.vars ≡ held_names b.m ++ equation_names b.m
vars_are b =
    b.vars ∙ map-append (name_at (names b)) (held_bits b.s) (bits_laid b.s b.places)
    ∙ ap (λ (ns : List Name). ns ++ map (name_at (names b)) (bits_laid b.s b.places)) (sym (held_are b))
    ∙ ap (λ (ns : List Name). held_names b.m ++ ns) (sym (equations_are b))

vars_count : (b : Made) → length b.m.vars ≡ length (bits b)
vars_count b = ap length b.vars ∙ length-map (bits b) (name_at (names b))

-- ---- it is checked

table_below : (b : Made) (v : ℕ) → v < length (names b) → slice_index b.table v < length b.m.vars
table_below b v low = let p = (placed (names b) (bits b) b.table (tabled b) v low).0 in omega (arith, p, vars_count b)

over_vars : (b : Made) (e : Expression) → IsOver e (length (names b)) → IsOver (renumbered b.table e) (length b.m.vars)
over_vars b e over = over_renumbered e b.table (length b.m.vars) (λ v i. table_below b v (IsOver-In e (length (names b)) over v i))

ordered : (b : Made) → IsOrdered b.m
ordered b = record {
  vars = vars_are b;
  different = subst (λ (ns : List Name). AllDifferent ns) (sym b.vars) (vars_different (names b) (bits b) b.table (tabled b));
  below = subst (λ (es : List Equation). EachReadsBelow (length (held_names b.m)) es) (sym b.equations) (below_all (length (held_names b.m)) made (at_place 0) below);
} where
  at_place : ℕ → Equation
  at_place k = equation_from (names b) b.table (driven_at b.s.driven k)

  made : List Equation
  made = map (λ k. equation_from (names b) b.table (driven_at b.s.driven k)) b.places

  below : (j : ℕ) → j < length (map (λ k. equation_from (names b) b.table (driven_at b.s.driven k)) b.places) → IsOver (get_or (map (λ k. equation_from (names b) b.table (driven_at b.s.driven k)) b.places) j (equation_from (names b) b.table (driven_at b.s.driven 0))).expr (length (held_names b.m) + j)
  below j l =
      let f = λ (k : ℕ). equation_from (names b) b.table (driven_at b.s.driven k) in
      let n = length-map b.places f in
      let low : j < length b.places = omega (arith, l, n) in
      let at : get_or (map f b.places) j (f 0) ≡ f (slice_index b.places j) = get_or-map f b.places j 0 (f 0) low in
      let h : length (held_names b.m) ≡ length (held_bits b.s) = ap length (held_are b) ∙ length-map (held_bits b.s) (name_at (names b)) in
      subst (λ (e : Equation). IsOver e.expr (length (held_names b.m) + j)) (sym at)
      (over_renumbered (driven_at b.s.driven (slice_index b.places j)).expr b.table (length (held_names b.m) + j)
      (λ v i. let r = read_before b.s b.places b.table b.is b.laid b.has j v low i in omega (arith, r, h)))

pub checked : (b : Made) → IsChecked b.m
checked b = record {
  ports = subst (λ (ps : List Port). AreInOrder (names_of ps)) (sym b.ports_are) b.fits.order;
  registers = subst (λ (ns : List Name). AreInOrder ns) (sym (registers_are b)) b.fits.registers;
  supplies = All-from_In IsNoSupply (names_of b.m.ports ++ b.m.vars) supplies;
  driven = driven;
  clock = λ name e. record {
    port = port name (b.fits.listed name (sym b.clock_is ∙ e));
    apart = λ i. b.fits.apart name (sym b.clock_is ∙ e) (in_names name i);
  };
  clocked = λ e. b.registers ∙ ap (map (λ (r : NumberedStorage). register_from (names b) b.table r)) (b.fits.clocked (sym b.clock_is ∙ e));
  ordered = ordered b;
  loads = subst (λ (rs : List Register). All (λ r. IsOver r.next (length b.m.vars) × IsOver r.enable (length b.m.vars)) rs) (sym b.registers)
      (All-from_In (λ (r : Register). IsOver r.next (length b.m.vars) × IsOver r.enable (length b.m.vars)) (map (λ (r : NumberedStorage). register_from (names b) b.table r) b.s.stored) loads);
} where
  in_names : (name : Name) → In name b.m.vars → In name (names b)
  in_names name i =
      let r = In-map_back (name_at (names b)) name (bits b) (subst (λ (ns : List Name). In name ns) b.vars i) in
      subst (λ (n : Name). In n (names b)) r.2 (In-at (names b) r.0 (record { text = []; bit = None }) (bits_inside b.s b.places b.is b.laid r.0 r.1))

  supplies : (name : Name) → In name (names_of b.m.ports ++ b.m.vars) → IsNoSupply name
  supplies name i = elim (In-split name (names_of b.m.ports) b.m.vars i) [
    | inl p ↦ b.fits.signals name (In-left name (names_of b.ports) (names b) (subst (λ (ps : List Port). In name (names_of ps)) b.ports_are p))
    | inr v ↦ b.fits.signals name (In-right name (names_of b.ports) (names b) (in_names name v))
  ]

  driven : (name : Name) → In name (outputs b.m) → In name (equation_names b.m)
  driven name i =
      let r = In-map_back (λ (p : Port). p.name) name (filter (λ (p : Port). not (is_input p.dir)) b.m.ports) i in
      let f = In-filter (λ (p : Port). not (is_input p.dir)) b.m.ports r.0 r.1 in
      let o = b.fits.outputs r.0 (subst (λ (ps : List Port). In r.0 ps) b.ports_are f.0) (no_input r.0.dir f.1) in
      let u = In-map_back (name_at (names b)) r.0.name (driven_bits b.s) o in
      let n : name_at (names b) u.0 ≡ name = u.2 ∙ r.2 in
      subst (λ (ns : List Name). In name ns) (sym (equations_are b))
      (subst (λ (x : Name). In x (map (name_at (names b)) (bits_laid b.s b.places))) n (In-map (name_at (names b)) u.0 (bits_laid b.s b.places) (In_laid b.s b.places b.laid u.0 u.1)))

  port : (name : Name) → In (record { name = name; dir = dir.In }) b.ports → In name (input_ports b.m)
  port name i =
      subst (λ (ps : List Port). In name (names_of (filter (λ p. is_input p.dir) ps))) (sym b.ports_are)
      (In-map (λ (p : Port). p.name) (record { name = name; dir = dir.In }) (filter (λ p. is_input p.dir) b.ports) (filter-In (λ (p : Port). is_input p.dir) b.ports (record { name = name; dir = dir.In }) i refl))

  loads : (r : Register) → In r (map (λ (r : NumberedStorage). register_from (names b) b.table r) b.s.stored) → IsOver r.next (length b.m.vars) × IsOver r.enable (length b.m.vars)
  loads r i =
      let u = In-map_back (λ (r : NumberedStorage). register_from (names b) b.table r) r b.s.stored i in
      let l = b.is.loads u.0 u.1 in
      subst (λ (x : Register). IsOver x.next (length b.m.vars) × IsOver x.enable (length b.m.vars)) u.2 (over_vars b u.0.next l.0, over_vars b u.0.enable l.1)

-- ---- it settles as the bits do

shown_is : (b : Made) (x : List Bool) → length x ≡ length b.m.vars → (v : ℕ) → v < length (names b) → bit (bits_shown b.s b.m x) v ≡ bit x (slice_index b.table v)
shown_is b x n v low =
    subst (λ (ns : List Name). bit (values_at ns x (names b)) v ≡ bit x (slice_index b.table v)) (sym b.vars)
    (shown_bit (names b) (bits b) b.table x (tabled b) (n ∙ vars_count b) v low)

value_is : (b : Made) (x : List Bool) → length x ≡ length b.m.vars → (e : Expression) → IsOver e (length (names b)) → val (renumbered b.table e) x ≡ val e (bits_shown b.s b.m x)
value_is b x n e over = val_renumbered e (length (names b)) b.table x (bits_shown b.s b.m x) over (λ v low. sym (shown_is b x n v low))

-- values by names and by numbers
named_values : (b : Made) (x : List Bool) (vs : List ℕ) → ((v : ℕ) → In v vs → v < length (names b)) → values_at b.m.vars x (map (name_at (names b)) vs) ≡ map (bit (bits_shown b.s b.m x)) vs
named_values b x vs low =
    map-then (value_at b.m.vars x) (name_at (names b)) vs
    ∙ map_same (λ v. value_at b.m.vars x (name_at (names b) v)) (bit (bits_shown b.s b.m x)) vs (λ v i. sym (shown_at (names b) b.m.vars x v (low v i)))

input_low : (b : Made) (v : ℕ) → In v b.s.inputs → v < length (names b)
input_low b v i = b.is.inside v (In-left v (held_bits b.s) (driven_bits b.s) (In-left v b.s.inputs (stored_bits b.s) i))

stored_low : (b : Made) (v : ℕ) → In v (stored_bits b.s) → v < length (names b)
stored_low b v i = b.is.inside v (In-left v (held_bits b.s) (driven_bits b.s) (In-right v b.s.inputs (stored_bits b.s) i))

driven_low : (b : Made) (d : Numbered) → In d b.s.driven → d.bit < length (names b)
driven_low b d i = b.is.inside d.bit (In-right d.bit (held_bits b.s) (driven_bits b.s) (In-map (λ (d : Numbered). d.bit) d b.s.driven i))

input_values : (b : Made) (x : List Bool) → values_at b.m.vars x (inputs b.m) ≡ map (bit (bits_shown b.s b.m x)) b.s.inputs
input_values b x = ap (values_at b.m.vars x) (inputs_are b) ∙ named_values b x b.s.inputs (input_low b)

stored_values : (b : Made) (x : List Bool) → values_at b.m.vars x (register_names b.m) ≡ map (bit (bits_shown b.s b.m x)) (stored_bits b.s)
stored_values b x = ap (values_at b.m.vars x) (registers_are b) ∙ named_values b x (stored_bits b.s) (stored_low b)

abbrev HoldsIn : Machine → List Bool → Equation → Type 0
HoldsIn m x e = value_at m.vars x e.name ≡ val e.expr x

-- an equation holds where the driven bit has its value
holds_as : (b : Made) (x : List Bool) → length x ≡ length b.m.vars → (d : Numbered) → In d b.s.driven
    → (value_at b.m.vars x (name_at (names b) d.bit) ≡ bit (bits_shown b.s b.m x) d.bit) × (val (renumbered b.table d.expr) x ≡ val d.expr (bits_shown b.s b.m x))
holds_as b x n d i = (sym (shown_at (names b) b.m.vars x d.bit (driven_low b d i)), value_is b x n d.expr (b.is.over d i))

pub forth : (b : Made) (held i x : List Bool) → Settles b.m held i x → BitsSettle b.s held i (bits_shown b.s b.m x)
forth b held i x h = record {
  each = length-map (names b) (value_at b.m.vars x);
  inputs = sym (input_values b x) ∙ h.inputs;
  stored = sym (stored_values b x) ∙ h.registers;
  driven = λ d j.
      let r = place_of_In b.s.driven d j in
      let f = λ (k : ℕ). equation_from (names b) b.table (driven_at b.s.driven k) in
      let among : In (f r.0) (map f b.places) = In-map f r.0 b.places (place_there b.s b.places b.laid r.0 r.1) in
      let e = All_In (HoldsIn b.m x) b.m.equations h.equations (f r.0) (subst (λ (es : List Equation). In (f r.0) es) (sym b.equations) among) in
      let e2 = subst (λ (d : Numbered). value_at b.m.vars x (name_at (names b) d.bit) ≡ val (renumbered b.table d.expr) x) (r.2 no_bit) e in
      let a = holds_as b x h.each d j in sym a.0 ∙ e2 ∙ a.1;
}

pub back : (b : Made) (held i y : List Bool) → BitsSettle b.s held i y → (x : List Bool) × Settles b.m held i x × (bits_shown b.s b.m x ≡ y)
back b held i y h = (map (bit y) (bits b), settles, shown) where
  n : length (map (bit y) (bits b)) ≡ length b.m.vars
  n = length-map (bits b) (bit y) ∙ sym (vars_count b)

  shown : bits_shown b.s b.m (map (bit y) (bits b)) ≡ y
  shown = subst (λ (ns : List Name). values_at ns (map (bit y) (bits b)) (names b) ≡ y) (sym b.vars) (gathered (names b) (bits b) b.table y (tabled b) h.each)

  equation : (e : Equation) → In e (map (λ k. equation_from (names b) b.table (driven_at b.s.driven k)) b.places) → HoldsIn b.m (map (bit y) (bits b)) e
  equation e j =
      let f = λ (k : ℕ). equation_from (names b) b.table (driven_at b.s.driven k) in
      let r = In-map_back f e b.places j in
      let d = driven_at b.s.driven r.0 in
      let there_is : In d b.s.driven = In-at b.s.driven r.0 no_bit (place_below b.s b.places b.laid r.0 r.1) in
      let a = holds_as b (map (bit y) (bits b)) n d there_is in
      let v : bit (bits_shown b.s b.m (map (bit y) (bits b))) d.bit ≡ val d.expr (bits_shown b.s b.m (map (bit y) (bits b))) =
      subst (λ (z : List Bool). bit z d.bit ≡ val d.expr z) (sym shown) (h.driven d there_is) in
      subst (HoldsIn b.m (map (bit y) (bits b))) r.2 (a.0 ∙ v ∙ sym a.1)

  settles : Settles b.m held i (map (bit y) (bits b))
  settles = record {
    each = n;
    inputs = input_values b (map (bit y) (bits b)) ∙ ap (λ (z : List Bool). map (bit z) b.s.inputs) shown ∙ h.inputs;
    registers = stored_values b (map (bit y) (bits b)) ∙ ap (λ (z : List Bool). map (bit z) (stored_bits b.s)) shown ∙ h.stored;
    equations = subst (λ (es : List Equation). All (HoldsIn b.m (map (bit y) (bits b))) es) (sym b.equations)
        (All-from_In (HoldsIn b.m (map (bit y) (bits b))) (map (λ k. equation_from (names b) b.table (driven_at b.s.driven k)) b.places) equation);
  }

pub loads : (b : Made) (held i x : List Bool) → Settles b.m held i x → next b.m x ≡ bits_next b.s (bits_shown b.s b.m x)
loads b held i x h =
    ap (map (λ (r : Register). cond (val r.enable x) (val r.next x) (value_at b.m.vars x r.name))) b.registers
    ∙ map-then (λ (r : Register). cond (val r.enable x) (val r.next x) (value_at b.m.vars x r.name)) (λ (r : NumberedStorage). register_from (names b) b.table r) b.s.stored
    ∙ map_same (λ (r : NumberedStorage). cond (val (renumbered b.table r.enable) x) (val (renumbered b.table r.next) x) (value_at b.m.vars x (name_at (names b) r.bit)))
    (λ (r : NumberedStorage). cond (val r.enable y) (val r.next y) (bit y r.bit)) b.s.stored
    (λ r j.
    let l = b.is.loads r j in
    let low = stored_low b r.bit (In-map (λ (r : NumberedStorage). r.bit) r b.s.stored j) in
    ap (λ c. cond c (val (renumbered b.table r.next) x) (value_at b.m.vars x (name_at (names b) r.bit))) (value_is b x h.each r.enable l.1)
    ∙ ap (λ c. cond (val r.enable y) c (value_at b.m.vars x (name_at (names b) r.bit))) (value_is b x h.each r.next l.0)
    ∙ ap (cond (val r.enable y) (val r.next y)) (sym (shown_at (names b) b.m.vars x r.bit low))) where
      y : List Bool
      y = bits_shown b.s b.m x

pub is_machine : (b : Made) (text : List ℕ) → b.m.name ≡ text → IsMachineOfBits text b.ports b.clock b.s b.m
is_machine b text e = record {
  text = e;
  ports_are = b.ports_are;
  clock_is = b.clock_is;
  checked = checked b;
  registers = ap length b.registers ∙ length-map b.s.stored (λ (r : NumberedStorage). register_from (names b) b.table r);
  named = registers_are b;
  forth = forth b;
  back = back b;
  loads = loads b;
}
