-- Machines of one reading have by name the same equations and registers, settle in the same bits, and run alike.
use Rattle.std.proofs.Common.{◌≡◌, Bool, List, [], ◌∷◌, ◌++◌, map, length, Option, refl, sym, ap, ◌∙◌, subst, inl, inr, cond, if◌then◌else◌}
use Rattle.std.specs.Prelude.{filter, not}
use Rattle.std.specs.List.{All}
use Rattle.std.specs.List.Sorted.{IsPermutation}
use Rattle.std.proofs.lemmas.List.{length-map}
use Rattle.std.proofs.lemmas.List.Sorted.{IsPermutation-sym, IsPermutation-map}
use Rattle.vlsi_base.specs.declared.name.Name.{Name}
use Rattle.vlsi_base.specs.declared.name.Port.{Port}
use Rattle.vlsi_base.specs.Member.{In}
use Rattle.bool_expr.specs.Expression.{val}
use Rattle.machine_core.specs.Named.{value_at, values_at}
use Rattle.machine_core.specs.Machine.{Machine, Equation, Register, names_of, is_input, is_clock, inputs, outputs, register_names}
use Rattle.machine_core.specs.Cycles.{Settles, outs, next, RunOf}
use Rattle.machine_core.specs.Runs.{Trace}
use Rattle.machine_core.specs.Order.{held_names, equation_names}
use Rattle.machine_core.proofs.Values.{In-split, In-left, In-right, In-map}
use Rattle.machine_core.proofs.Known.{known}
use Rattle.machine_core.proofs.Solve.{settles_once_known}
use Rattle.source_checks.specs.declared.statement.DesignFile.{DesignFile}
use Rattle.source_checks.specs.Elaboration.{Definition, Storage, definitions, storage, IsMachineOf}
use Rattle.vlsi_model.proofs.Members.{In-map_back}
use Rattle.vlsi_model.proofs.Sorting.{place_of_In}
use Rattle.vlsi_model.proofs.Assembly.{In-permutation, All-from_In}
use Rattle.vbe_laws.specs.OneMachine.{HaveSameParts, HasEquation, HasRegister, HasAllOf, AreOneByName}
use Rattle.vbe_laws.proofs.Readings.{equation_over, register_over}
use Rattle.vbe_laws.proofs.Parts.{StoreTheSame, same_storage, same_parts}
use Rattle.vbe_laws.proofs.Values.{same_value, AreSameNames, same_assigned, carried, carried_value, same_values}

-- two machines of one reading
pub record AreTwoOf (design : DesignFile) (m k : Machine) : Type 0 where
  pub first : IsMachineOf design m
  pub second : IsMachineOf design k

turned : (design : DesignFile) (m k : Machine) → AreTwoOf design m k → AreTwoOf design k m
turned design m k two = record { first = two.second; second = two.first }

-- ---- names

abbrev inputs_of : Option Name → List Port → List Name
inputs_of clock ports = filter (λ name. not (is_clock clock name)) (names_of (filter (λ p. is_input p.dir) ports))

abbrev outputs_of : List Port → List Name
outputs_of ports = names_of (filter (λ p. not (is_input p.dir)) ports)

same_inputs : (m k : Machine) → HaveSameParts m k → inputs m ≡ inputs k
same_inputs m k p = ap (λ (c : Option Name). inputs_of c m.ports) p.clock ∙ ap (λ (ps : List Port). inputs_of k.clock ps) p.ports

same_outputs : (m k : Machine) → HaveSameParts m k → outputs m ≡ outputs k
same_outputs m k p = ap (λ (ps : List Port). outputs_of ps) p.ports

same_held : (m k : Machine) → HaveSameParts m k → held_names m ≡ held_names k
same_held m k p = ap (λ (ns : List Name). ns ++ register_names m) (same_inputs m k p) ∙ ap (λ (ns : List Name). inputs k ++ ns) p.registers

names_over : (vars : List Name) (ds : List Definition) → map (λ (e : Equation). e.name) (map (equation_over vars) ds) ≡ map (λ (d : Definition). d.name) ds
names_over vars [] = refl
names_over vars (d ∷ ds) = ap (λ (ns : List Name). d.name ∷ ns) (names_over vars ds)

equation_order : (design : DesignFile) (m : Machine) → IsMachineOf design m → IsPermutation (equation_names m) (map (λ (d : Definition). d.name) (definitions design))
equation_order design m is =
    subst (λ (ns : List Name). IsPermutation (equation_names m) ns) (names_over m.vars (definitions design))
    (IsPermutation-map (λ (e : Equation). e.name) m.equations (map (equation_over m.vars) (definitions design)) is.equations)

among_others : (design : DesignFile) (m k : Machine) → AreTwoOf design m k → (n : Name) → In n m.vars → In n k.vars
among_others design m k two n h =
    let all = map (λ (d : Definition). d.name) (definitions design) in
    subst (λ (ns : List Name). In n ns) (sym two.second.checked.ordered.vars)
    (elim (In-split n (held_names m) (equation_names m) (subst (λ (ns : List Name). In n ns) two.first.checked.ordered.vars h)) [
      | inl i ↦
          In-left n (held_names k) (equation_names k) (subst (λ (ns : List Name). In n ns) (same_held m k (same_parts design m k two.first two.second)) i)
      | inr i ↦
          In-right n (held_names k) (equation_names k)
          (In-permutation all (equation_names k) n (IsPermutation-sym (equation_names k) all (equation_order design k two.second))
          (In-permutation (equation_names m) all n (equation_order design m two.first) i))
    ])

same_names : (design : DesignFile) (m k : Machine) → AreTwoOf design m k → AreSameNames m.vars k.vars
same_names design m k two = record {
  first = among_others design m k two;
  second = among_others design k m (turned design m k two);
}

-- ---- equations and registers

own_equation : (design : DesignFile) (m : Machine) → IsMachineOf design m → (d : Definition) → In d (definitions design) → In (equation_over m.vars d) m.equations
own_equation design m is d i =
    In-permutation (map (equation_over m.vars) (definitions design)) m.equations (equation_over m.vars d)
    (IsPermutation-sym m.equations (map (equation_over m.vars) (definitions design)) is.equations)
    (In-map (equation_over m.vars) d (definitions design) i)

own_register : (design : DesignFile) (m : Machine) → IsMachineOf design m → (r : Storage) → In r (storage design) → In (register_over m.vars r) m.registers
own_register design m is r i =
    In-permutation (map (register_over m.vars) (storage design)) m.registers (register_over m.vars r)
    (IsPermutation-sym m.registers (map (register_over m.vars) (storage design)) is.registers)
    (In-map (register_over m.vars) r (storage design) i)

has_definition : (design : DesignFile) (m k : Machine) → AreTwoOf design m k → (d : Definition) → In d (definitions design) → HasEquation m k.vars (equation_over k.vars d)
has_definition design m k two d i = record {
  own = equation_over m.vars d;
  stands = own_equation design m two.first d i;
  name = refl;
  expr = λ bit_of. same_value m.vars k.vars (map bit_of m.vars) (map bit_of k.vars) d.formula (length-map m.vars bit_of) (length-map k.vars bit_of)
      (same_assigned bit_of m.vars k.vars (same_names design m k two));
}

has_storage : (design : DesignFile) (m k : Machine) → AreTwoOf design m k → (r : Storage) → In r (storage design) → HasRegister m k.vars (register_over k.vars r)
has_storage design m k two r i = record {
  own = register_over m.vars r;
  stands = own_register design m two.first r i;
  name = refl;
  next = λ bit_of. same_value m.vars k.vars (map bit_of m.vars) (map bit_of k.vars) r.next (length-map m.vars bit_of) (length-map k.vars bit_of)
      (same_assigned bit_of m.vars k.vars (same_names design m k two));
  enable = λ bit_of. same_value m.vars k.vars (map bit_of m.vars) (map bit_of k.vars) r.enable (length-map m.vars bit_of) (length-map k.vars bit_of)
      (same_assigned bit_of m.vars k.vars (same_names design m k two));
}

-- each equation of a machine is a definition over its numbers
definition_of : (design : DesignFile) (k : Machine) → IsMachineOf design k → (e : Equation) → In e k.equations
    → (d : Definition) × In d (definitions design) × (equation_over k.vars d ≡ e)
definition_of design k is e h =
    In-map_back (equation_over k.vars) e (definitions design) (In-permutation k.equations (map (equation_over k.vars) (definitions design)) e is.equations h)

storage_of : (design : DesignFile) (k : Machine) → IsMachineOf design k → (r : Register) → In r k.registers
    → (s : Storage) × In s (storage design) × (register_over k.vars s ≡ r)
storage_of design k is r h =
    In-map_back (register_over k.vars) r (storage design) (In-permutation k.registers (map (register_over k.vars) (storage design)) r is.registers h)

pub has_all : (design : DesignFile) (m k : Machine) → AreTwoOf design m k → HasAllOf m k
has_all design m k two = record {
  equations = λ e h. let d = definition_of design k two.second e h in subst (λ (x : Equation). HasEquation m k.vars x) d.2 (has_definition design m k two d.0 d.1);
  registers = λ r h. let s = storage_of design k two.second r h in subst (λ (x : Register). HasRegister m k.vars x) s.2 (has_storage design m k two s.0 s.1);
}

-- ---- cycles

-- two valuations that give each name one bit
record AgreeByName (m k : Machine) (w v : List Bool) : Type 0 where
  first : length w ≡ length m.vars
  second : length v ≡ length k.vars
  names : (n : Name) → value_at m.vars w n ≡ value_at k.vars v n

-- what a register holds after the clock's rise
abbrev loaded : List Name → List Bool → Register → Bool
loaded vars w r = if val r.enable w then val r.next w else value_at vars w r.name

same_loaded : (m k : Machine) (w v : List Bool) → AgreeByName m k w v → (r : Storage) → loaded m.vars w (register_over m.vars r) ≡ loaded k.vars v (register_over k.vars r)
same_loaded m k w v a r =
    let enable = same_value m.vars k.vars w v r.enable a.first a.second a.names in
    let next = same_value m.vars k.vars w v r.next a.first a.second a.names in
    let old = a.names r.name in
    choose enable next old where
      choose : {c d x y p q : Bool} → c ≡ d → x ≡ y → p ≡ q → cond c x p ≡ cond d y q
      choose e f g = cc

all_loaded : (m k : Machine) (w v : List Bool) → AgreeByName m k w v → (rs : List Storage)
    → map (loaded m.vars w) (map (register_over m.vars) rs) ≡ map (loaded k.vars v) (map (register_over k.vars) rs)
all_loaded m k w v a [] = refl
all_loaded m k w v a (r ∷ rs) =
    ap (λ b. b ∷ map (loaded m.vars w) (map (register_over m.vars) rs)) (same_loaded m k w v a r)
    ∙ ap (λ bs. loaded k.vars v (register_over k.vars r) ∷ bs) (all_loaded m k w v a rs)

same_next : (m k : Machine) (w v : List Bool) → AgreeByName m k w v → StoreTheSame m k → next m w ≡ next k v
same_next m k w v a s =
    ap (map (loaded m.vars w)) s.first ∙ all_loaded m k w v a s.bits ∙ sym (ap (map (loaded k.vars v)) s.second)

same_outs : (m k : Machine) (w v : List Bool) → ((n : Name) → value_at m.vars w n ≡ value_at k.vars v n) → HaveSameParts m k → outs m w ≡ outs k v
same_outs m k w v names p = same_values m.vars k.vars w v names (outputs m) ∙ ap (values_at k.vars v) (same_outputs m k p)

one_by_name : (design : DesignFile) (m k : Machine) → AreTwoOf design m k → (w v : List Bool) → AgreeByName m k w v → AreOneByName m k w v
one_by_name design m k two w v a = record {
  names = a.names;
  outputs = same_outs m k w v a.names (same_parts design m k two.first two.second);
  next = same_next m k w v a (same_storage design m k two.first two.second);
}

-- the valuation over the other machine's numbers
abbrev over : Machine → Machine → List Bool → List Bool
over m k w = carried m.vars w k.vars

carried_agrees : (design : DesignFile) (m k : Machine) → AreTwoOf design m k → (w : List Bool) → length w ≡ length m.vars → AgreeByName m k w (over m k w)
carried_agrees design m k two w each = record {
  first = each;
  second = length-map k.vars (value_at m.vars w);
  names = carried_value m.vars k.vars w (same_names design m k two);
}

all_in : {A : Type 0} (P : A → Type 0) (xs : List A) → All P xs → (x : A) → In x xs → P x
all_in P xs all x h = let r = place_of_In xs x h in let l = r.1 in subst P (r.2 x) (all r.0 x l)

settled_equation : (design : DesignFile) (m k : Machine) → AreTwoOf design m k → (s i w : List Bool) → Settles m s i w → (e : Equation) → In e k.equations
    → value_at k.vars (over m k w) e.name ≡ val e.expr (over m k w)
settled_equation design m k two s i w settles e h =
    let a = carried_agrees design m k two w settles.each in
    let d = definition_of design k two.second e h in
    let own : In (equation_over m.vars d.0) m.equations = own_equation design m two.first d.0 d.1 in
    let holds : value_at m.vars w d.0.name ≡ val (equation_over m.vars d.0).expr w =
    all_in (λ (x : Equation). value_at m.vars w x.name ≡ val x.expr w) m.equations settles.equations (equation_over m.vars d.0) own in
    subst (λ (x : Equation). value_at k.vars (over m k w) x.name ≡ val x.expr (over m k w)) d.2
    (sym (a.names d.0.name) ∙ holds ∙ same_value m.vars k.vars w (over m k w) d.0.formula a.first a.second a.names)

carried_settles : (design : DesignFile) (m k : Machine) → AreTwoOf design m k → (s i w : List Bool) → Settles m s i w → Settles k s i (over m k w)
carried_settles design m k two s i w settles =
    let p = same_parts design m k two.first two.second in
    let a = carried_agrees design m k two w settles.each in
    record {
      each = a.second;
      inputs = sym (same_values m.vars k.vars w (over m k w) a.names (inputs k)) ∙ ap (values_at m.vars w) (sym (same_inputs m k p)) ∙ settles.inputs;
      registers = sym (same_values m.vars k.vars w (over m k w) a.names (register_names k)) ∙ ap (values_at m.vars w) (sym p.registers) ∙ settles.registers;
      equations = All-from_In (λ (e : Equation). value_at k.vars (over m k w) e.name ≡ val e.expr (over m k w)) k.equations
          (settled_equation design m k two s i w settles);
    }

-- a machine's valuations from the same contents and inputs are one
one_valuation : (k : Machine) (design : DesignFile) → IsMachineOf design k → (s i w v : List Bool) → Settles k s i w → Settles k s i v → w ≡ v
one_valuation k design is s i w v h g =
    let ls : length s ≡ length k.registers =
    ap (λ (bs : List Bool). length bs) (sym h.registers) ∙ length-map (register_names k) (value_at k.vars w) ∙ length-map k.registers (λ (r : Register). r.name) in
    let li : length i ≡ length (inputs k) = ap (λ (bs : List Bool). length bs) (sym h.inputs) ∙ length-map (inputs k) (value_at k.vars w) in
    let once = settles_once_known k s i (known k is.checked.ordered) ls li in
    once.2 w h ∙ sym (once.2 v g)

pub settle_the_same : (design : DesignFile) (m k : Machine) → AreTwoOf design m k → (s i w v : List Bool) → Settles m s i w → Settles k s i v → AreOneByName m k w v
settle_the_same design m k two s i w v h g =
    let same : over m k w ≡ v = one_valuation k design two.second s i (over m k w) v (carried_settles design m k two s i w h) g in
    subst (λ (u : List Bool). AreOneByName m k w u) same (one_by_name design m k two w (over m k w) (carried_agrees design m k two w h.each))

-- ---- runs

carried_trace : (design : DesignFile) (m k : Machine) → AreTwoOf design m k → (s : List Bool) (v ws : List (List Bool))
    → Trace (Settles m) (next m) s v ws → Trace (Settles k) (next k) s v (map (over m k) ws)
carried_trace design m k two s [] ws t = ap (map (over m k)) t
carried_trace design m k two s (i ∷ v) ws t =
    let later = t.2 in
    let a = carried_agrees design m k two t.0 t.1.each in
    let same : next m t.0 ≡ next k (over m k t.0) = same_next m k t.0 (over m k t.0) a (same_storage design m k two.first two.second) in (
      over m k t.0,
      carried_settles design m k two s i t.0 t.1,
      (
        map (over m k) later.0,
        ap (map (over m k)) later.1,
        subst (λ (x : List Bool). Trace (Settles k) (next k) x v (map (over m k) later.0)) same (carried_trace design m k two (next m t.0) v later.0 later.2),
      ),
    )

carried_outs : (design : DesignFile) (m k : Machine) → AreTwoOf design m k → (ws : List (List Bool)) → map (outs m) ws ≡ map (outs k) (map (over m k) ws)
carried_outs design m k two [] = refl
carried_outs design m k two (w ∷ ws) =
    let same : outs m w ≡ outs k (over m k w) =
    same_outs m k w (over m k w) (carried_value m.vars k.vars w (same_names design m k two)) (same_parts design m k two.first two.second) in
    ap (λ (o : List Bool). o ∷ map (outs m) ws) same ∙ ap (λ (os : List (List Bool)). outs k (over m k w) ∷ os) (carried_outs design m k two ws)

pub run_the_same : (design : DesignFile) (m k : Machine) → AreTwoOf design m k → (s : List Bool) (v y : List (List Bool)) → RunOf m s v y → RunOf k s v y
run_the_same design m k two s v y r =
    (map (over m k) r.0, carried_trace design m k two s v r.0 r.1, r.2 ∙ carried_outs design m k two r.0)
