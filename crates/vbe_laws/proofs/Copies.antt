-- A machine with the same equations and registers under other names of inner signals, in any order, is alike.
use Rattle.std.proofs.Common.{◌≡◌, inl, inr, ℕ, ◌+◌, ◌<◌, Bool, true, false, cond, not, List, [], ◌∷◌, ◌++◌, map, length, get_or, filter, refl, sym, ap, subst, ◌∙◌, arith, length-append, append_assoc, if◌then◌else◌}
use Rattle.std.specs.List.{All}
use Rattle.std.proofs.lemmas.List.{length-map, get_or-map}
use Rattle.std.proofs.lemmas.List.Elements.{All-head, All-tail}
use Rattle.vlsi_base.specs.declared.name.Name.{Name}
use Rattle.vlsi_base.specs.Names.{scalar}
use Rattle.vlsi_base.specs.Member.{In, here, there, AllDifferent}
use Rattle.bool_expr.specs.Expression.{Expression, IsOver, bit, val}
use Rattle.machine_core.specs.Named.{is_same_name, value_at, values_at}
use Rattle.machine_core.specs.Machine.{Machine, Equation, Register, names_of, is_input, is_clock, inputs, outputs, register_names}
use Rattle.machine_core.specs.Cycles.{Settles, outs, next}
use Rattle.machine_core.specs.Order.{IsOrdered, held_names, equation_names}
use Rattle.machine_core.proofs.Values.{In-split, In-left, In-right, In-map, bit-value_at}
use Rattle.machine_core.proofs.Names.{same_name-itself}
use Rattle.machine_core.proofs.Known.{known}
use Rattle.machine_core.proofs.Solve.{settles_once_known}
use Rattle.machine_core.specs.Alike.{IsAlike}
use Rattle.source_checks.specs.Formula.{place, numbered}
use Rattle.source_checks.specs.Clock.{all_of}
use Rattle.source_checks.specs.Elaboration.{Definition, Storage}
use Rattle.vlsi_model.proofs.Members.{In-cases, In-map_back}
use Rattle.vlsi_model.proofs.Sorting.{In-at}
use Rattle.vlsi_model.proofs.Numbering.{place_within, place_at}
use Rattle.vlsi_model.proofs.Assembly.{All-from_In}
use Rattle.vbe_laws.proofs.Values.{AreSameNames, carried, carried_value, same_values}
use Rattle.vbe_print.specs.Expressions.{name_of}
use Rattle.vbe_laws.proofs.Formulas.{value_formula}
use Rattle.vbe_laws.proofs.Guards.{enables_of}
use Rattle.vbe_laws.proofs.Rings.{definitions_of, seam}
use Rattle.vbe_laws.proofs.Alike.{Agree, whole_value, enable_value}

-- definitions and storage over the numbers of names
abbrev pub equation_over : List Name → Definition → Equation
equation_over vars d = record { name = d.name; expr = numbered vars d.formula }

abbrev pub register_over : List Name → Storage → Register
register_over vars r = record { name = r.name; next = numbered vars r.next; enable = numbered vars r.enable }

-- what registers are stored as
abbrev pub stored_as : List Name → Register → Storage
stored_as vars r = record { name = r.name; next = value_formula vars r.next; enable = all_of (enables_of vars r.enable) }

-- the names of a machine, where its equations have these
abbrev pub names_with : Machine → List Name → List Name
names_with m names = held_names m ++ names

-- a machine with the parts of this one, its equations under these names and its registers as they are stored
pub record IsCopy (m k : Machine) (names : List Name) : Type 0 where
  pub name : k.name ≡ m.name
  pub ports : k.ports ≡ m.ports
  pub clock : k.clock ≡ m.clock
  pub registers : k.registers ≡ map (register_over k.vars) (map (stored_as (names_with m names)) m.registers)
  pub has : (d : Definition) → In d (definitions_of (names_with m names) names m.equations) → In (equation_over k.vars d) k.equations
  pub only : (e : Equation) → In e k.equations → (d : Definition) × In d (definitions_of (names_with m names) names m.equations) × (equation_over k.vars d ≡ e)

-- what is known of the machine and of the names that its equations get
pub record CanBeCopied (m : Machine) (names : List Name) : Type 0 where
  pub ordered : IsOrdered m
  pub each : length names ≡ length m.equations
  pub different : AllDifferent (held_names m ++ names)
  pub equations : All (λ e. IsOver e.expr (length m.vars)) m.equations
  pub registers : All (λ r. IsOver r.next (length m.vars) × IsOver r.enable (length m.vars)) m.registers
  -- the outputs keep their names
  pub outputs : (n : Name) → In n (outputs m) → (w : List Bool) → value_at names w n ≡ value_at (equation_names m) w n

-- ---- values behind the same names

value_behind : (front xs ys : List Name) (w : List Bool) (n : Name) → ((u : List Bool) → value_at xs u n ≡ value_at ys u n) → value_at (front ++ xs) w n ≡ value_at (front ++ ys) w n
value_behind [] xs ys w n same = same w
value_behind (m ∷ front) xs ys [] n same = refl
value_behind (m ∷ front) xs ys (b ∷ w) n same = ap (λ c. cond (is_same_name m n) b c) (value_behind front xs ys w n same)

value_front : (front xs ys : List Name) (w : List Bool) (n : Name) → In n front → value_at (front ++ xs) w n ≡ value_at (front ++ ys) w n
value_front [] xs ys w n h = elim h [ ]
value_front (m ∷ front) xs ys [] n h = refl
value_front (m ∷ front) xs ys (b ∷ w) n h = by (is_same_name m n) refl (value_front front xs ys w n) where
  by : (r : Bool) → is_same_name m n ≡ r → (In n front → value_at (front ++ xs) w n ≡ value_at (front ++ ys) w n) → cond r b (value_at (front ++ xs) w n) ≡ cond r b (value_at (front ++ ys) w n)
  by true e rest = refl
  by false e rest = elim (In-cases n m front h) [
    | inl same ↦ let one : is_same_name m n ≡ true = subst (λ x. is_same_name m x ≡ true) same (same_name-itself m) in let never : true ≡ false = sym one ∙ e in absurd cc
    | inr i ↦ rest i
  ]

-- ---- names

inputs_alike : (m k : Machine) → k.ports ≡ m.ports → k.clock ≡ m.clock → inputs k ≡ inputs m
inputs_alike m k ports clock = λ j. filter (λ (name : Name). not (is_clock (clock j) name)) (names_of (filter (λ p. is_input p.dir) (ports j)))

outputs_alike : (m k : Machine) → k.ports ≡ m.ports → outputs k ≡ outputs m
outputs_alike m k ports = λ j. names_of (filter (λ p. not (is_input p.dir)) (ports j))

pub names_over : (vars others : List Name) (rs : List Register) → map (λ (r : Register). r.name) (map (register_over vars) (map (stored_as others) rs)) ≡ map (λ (r : Register). r.name) rs
names_over vars others [] = refl
names_over vars others (r ∷ rs) = ap (λ (ns : List Name). r.name ∷ ns) (names_over vars others rs)

pub registers_alike : (m k : Machine) (names : List Name) → IsCopy m k names → register_names k ≡ register_names m
registers_alike m k names c = ap (map (λ (r : Register). r.name)) c.registers ∙ names_over k.vars (names_with m names) m.registers

held_alike : (m k : Machine) (names : List Name) → IsCopy m k names → held_names k ≡ held_names m
held_alike m k names c =
    ap (λ (ns : List Name). ns ++ register_names k) (inputs_alike m k c.ports c.clock) ∙ ap (λ (ns : List Name). inputs m ++ ns) (registers_alike m k names c)

-- a definition for each name
named_definition : (vars names : List Name) (es : List Equation) → length names ≡ length es → (n : Name) → In n names → (d : Definition) × In d (definitions_of vars names es) × (d.name ≡ n)
named_definition vars [] es each n h = elim h [ ]
named_definition vars (x ∷ names) [] each n h = absurd (omega (arith, each))
named_definition vars (x ∷ names) (e ∷ es) each n h =
    elim (In-cases n x names h) [
      | inl same ↦ (record { name = x; formula = value_formula vars e.expr }, here, same)
      | inr i ↦ let r = named_definition vars names es (omega (arith, each)) n i in (r.0, there r.1, r.2)
    ]

-- and a name for each definition
definition_named : (vars names : List Name) (es : List Equation) (d : Definition) → In d (definitions_of vars names es) → In d.name names
definition_named vars [] es d h = elim h [ ]
definition_named vars (x ∷ names) [] d h = elim h [ ]
definition_named vars (x ∷ names) (e ∷ es) d h = elim (In-cases d (record { name = x; formula = value_formula vars e.expr }) (definitions_of vars names es) h) [
  | inl same ↦ subst (λ (n : Name). In n (x ∷ names)) (ap (λ (y : Definition). y.name) same) here
  | inr i ↦ there (definition_named vars names es d i)
]

-- the value of the name at a place
value_of : (all : List Name) (w : List Bool) (front : List Name) (n : Name) (back : List Name) → AllDifferent all → length w ≡ length all → all ≡ front ++ n ∷ back → value_at all w n ≡ bit w (length front)
value_of all w front n back different each is =
    let size : length (front ++ n ∷ back) ≡ length front + length (n ∷ back) = length-append front (n ∷ back) in
    let same : length all ≡ length (front ++ n ∷ back) = ap (λ (ns : List Name). length ns) is in
    let at : get_or all (length front) n ≡ n = ap (λ (ns : List Name). get_or ns (length front) n) is ∙ seam front n back in
    ap (value_at all w) (sym at) ∙ sym (bit-value_at all w (length front) n different each (omega (arith, size, same)))

mapped_same : (p q : Name → Bool) (names : List Name) → ((n : Name) → In n names → p n ≡ q n) → map p names ≡ map q names
mapped_same p q [] same = refl
mapped_same p q (n ∷ names) same = ap (λ b. b ∷ map p names) (same n here) ∙ ap (λ bs. q n ∷ bs) (mapped_same p q names (λ x h. same x (there h)))

-- what a register holds after the clock's rise
abbrev loaded : List Name → List Bool → Register → Bool
loaded vars w r = if val r.enable w then val r.next w else value_at vars w r.name

choose : {c d x y p q : Bool} → c ≡ d → x ≡ y → p ≡ q → cond c x p ≡ cond d y q
choose e f g = cc

module _ (m k : Machine) (names : List Name) (can : CanBeCopied m names) (c : IsCopy m k names) (ordered : IsOrdered k) where
  abbrev vars : List Name
  vars = names_with m names

  there_too : (n : Name) → In n vars → In n k.vars
  there_too n h =
      subst (λ (ns : List Name). In n ns) (sym ordered.vars)
      (elim (In-split n (held_names m) names h) [
        | inl i ↦ In-left n (held_names k) (equation_names k) (subst (λ (ns : List Name). In n ns) (sym (held_alike m k names c)) i)
        | inr j ↦
            let d = named_definition vars names m.equations can.each n j in
            In-right n (held_names k) (equation_names k)
            (subst (λ (x : Name). In x (equation_names k)) d.2 (In-map (λ (e : Equation). e.name) (equation_over k.vars d.0) k.equations (c.has d.0 d.1)))
      ])

  here_too : (n : Name) → In n k.vars → In n vars
  here_too n h =
      elim (In-split n (held_names k) (equation_names k) (subst (λ (ns : List Name). In n ns) ordered.vars h)) [
        | inl i ↦ In-left n (held_names m) names (subst (λ (ns : List Name). In n ns) (held_alike m k names c) i)
        | inr j ↦
            let e = In-map_back (λ (e : Equation). e.name) n k.equations j in
            let d = c.only e.0 e.1 in
            In-right n (held_names m) names
            (subst (λ (x : Name). In x names) (ap (λ (y : Equation). y.name) d.2 ∙ e.2) (definition_named vars names m.equations d.0 d.1))
      ]

  same_names : AreSameNames vars k.vars
  same_names = record { first = there_too; second = here_too }

  many : length vars ≡ length m.vars
  many =
      let a : length (held_names m ++ names) ≡ length (held_names m) + length names = length-append (held_names m) names in
      let b : length m.vars ≡ length (held_names m ++ equation_names m) = ap (λ (ns : List Name). length ns) can.ordered.vars in
      let d : length (held_names m ++ equation_names m) ≡ length (held_names m) + length (equation_names m) = length-append (held_names m) (equation_names m) in
      let e : length (equation_names m) ≡ length m.equations = length-map m.equations (λ (x : Equation). x.name) in
      let f = can.each in
      omega (arith, a, b, d, e, f)

  -- the valuation over the copy's numbers
  abbrev over : List Bool → List Bool
  over w = carried vars w k.vars

  -- each name has one bit in both
  one_bit : (w : List Bool) (n : Name) → value_at vars w n ≡ value_at k.vars (over w) n
  one_bit w n = carried_value vars k.vars w same_names n

  name_in : (i : ℕ) → i < length vars → In (name_of vars i) vars
  name_in i l = In-at vars i (scalar []) l

  bit_placed : (w : List Bool) (n : Name) → In n k.vars → bit (over w) (place k.vars n) ≡ value_at vars w n
  bit_placed w n h =
      let within = place_within k.vars n h in
      get_or-map (value_at vars w) k.vars (place k.vars n) n false within ∙ ap (value_at vars w) (place_at k.vars n n within)

  agree : (w : List Bool) → length w ≡ length m.vars → Agree vars k.vars w (over w)
  agree w each i l =
      bit_placed w (name_of vars i) (there_too (name_of vars i) (name_in i l)) ∙ sym (bit-value_at vars w i (scalar []) can.different (each ∙ sym many) l)

  -- ---- equations

  over_vars : (e : Expression) → IsOver e (length m.vars) → IsOver e (length vars)
  over_vars e o = subst (IsOver e) (sym many) o

  -- of the equations from some number on, under their names
  each_settled : (w : List Bool) → length w ≡ length m.vars → (front own names : List Name) (es : List Equation) → vars ≡ front ++ names → m.vars ≡ own ++ map (λ e. e.name) es → length front ≡ length own
      → All (λ e. IsOver e.expr (length m.vars)) es → All (λ e. value_at m.vars w e.name ≡ val e.expr w) es
      → (d : Definition) → In d (definitions_of vars names es) → value_at vars w d.name ≡ val (numbered k.vars d.formula) (over w)
  each_settled w each front own [] es a b same all holds d h = elim h [ ]
  each_settled w each front own (n ∷ names) [] a b same all holds d h = elim h [ ]
  each_settled w each front own (n ∷ names) (e ∷ es) a b same all holds d h =
      let O : Equation → Type 0 = λ e. IsOver e.expr (length m.vars) in
      let H : Equation → Type 0 = λ e. value_at m.vars w e.name ≡ val e.expr w in
      let first : value_at vars w n ≡ val (numbered k.vars (value_formula vars e.expr)) (over w) =
      value_of vars w front n names can.different (each ∙ sym many) a ∙ ap (bit w) same
      ∙ sym (value_of m.vars w own e.name (map (λ e. e.name) es) can.ordered.different each b)
      ∙ All-head H e es holds ∙ sym (whole_value vars k.vars w (over w) (agree w each) e.expr (over_vars e.expr (All-head O e es all))) in
      elim (In-cases d (record { name = n; formula = value_formula vars e.expr }) (definitions_of vars names es) h) [
        | inl is ↦ subst (λ (x : Definition). value_at vars w x.name ≡ val (numbered k.vars x.formula) (over w)) is first
        | inr g ↦
            each_settled w each (front ++ n ∷ []) (own ++ e.name ∷ []) names es (a ∙ sym (append_assoc front (n ∷ []) names)) (b ∙ sym (append_assoc own (e.name ∷ []) (map (λ e. e.name) es)))
            (omega (arith, same, length-append front (n ∷ []), length-append own (e.name ∷ []))) (All-tail O e es all) (All-tail H e es holds) d g
      ]

  equation_settled : (s i w : List Bool) → Settles m s i w → (e : Equation) → In e k.equations → value_at k.vars (over w) e.name ≡ val e.expr (over w)
  equation_settled s i w p e h =
      let d = c.only e h in
      let holds = each_settled w p.each (held_names m) (held_names m) names m.equations refl can.ordered.vars refl can.equations p.equations d.0 d.1 in
      subst (λ (x : Equation). value_at k.vars (over w) x.name ≡ val x.expr (over w)) d.2 (sym (one_bit w d.0.name) ∙ holds)

  -- ---- what is held and shown

  held_value : (w : List Bool) (n : Name) → In n (held_names m) → value_at vars w n ≡ value_at m.vars w n
  held_value w n h = value_front (held_names m) names (equation_names m) w n h ∙ ap (λ (ns : List Name). value_at ns w n) (sym can.ordered.vars)

  shown_value : (w : List Bool) (n : Name) → In n (outputs m) → value_at vars w n ≡ value_at m.vars w n
  shown_value w n h = value_behind (held_names m) names (equation_names m) w n (can.outputs n h) ∙ ap (λ (ns : List Name). value_at ns w n) (sym can.ordered.vars)

  -- the values of names that the copy asks for
  asked : (w : List Bool) (others own : List Name) → others ≡ own → ((n : Name) → In n own → value_at vars w n ≡ value_at m.vars w n) → values_at k.vars (over w) others ≡ values_at m.vars w own
  asked w others own same values =
      sym (same_values vars k.vars w (over w) (one_bit w) others) ∙ ap (values_at vars w) same ∙ mapped_same (value_at vars w) (value_at m.vars w) own values

  copy_settles : (s i w : List Bool) → Settles m s i w → Settles k s i (over w)
  copy_settles s i w p = record {
    each = length-map k.vars (value_at vars w);
    inputs =
        asked w (inputs k) (inputs m) (inputs_alike m k c.ports c.clock) (λ n h. held_value w n (In-left n (inputs m) (register_names m) h)) ∙ p.inputs;
    registers =
        asked w (register_names k) (register_names m) (registers_alike m k names c) (λ n h. held_value w n (In-right n (inputs m) (register_names m) h)) ∙ p.registers;
    equations = All-from_In (λ (e : Equation). value_at k.vars (over w) e.name ≡ val e.expr (over w)) k.equations (equation_settled s i w p);
  }

  one_loaded : (w : List Bool) → length w ≡ length m.vars → (r : Register) → In r.name (register_names m) → IsOver r.next (length m.vars) → IsOver r.enable (length m.vars)
      → loaded k.vars (over w) (register_over k.vars (stored_as vars r)) ≡ loaded m.vars w r
  one_loaded w each r h next enable =
      let e = enable_value vars k.vars w (over w) (agree w each) r.enable (over_vars r.enable enable) in
      let n = whole_value vars k.vars w (over w) (agree w each) r.next (over_vars r.next next) in
      let o = sym (one_bit w r.name) ∙ held_value w r.name (In-right r.name (inputs m) (register_names m) h) in
      choose e n o

  all_loaded : (w : List Bool) → length w ≡ length m.vars → (rs : List Register) → ((r : Register) → In r rs → In r.name (register_names m)) → All (λ r. IsOver r.next (length m.vars) × IsOver r.enable (length m.vars)) rs
      → map (loaded k.vars (over w)) (map (register_over k.vars) (map (stored_as vars) rs)) ≡ map (loaded m.vars w) rs
  all_loaded w each [] named all = refl
  all_loaded w each (r ∷ rs) named all =
      let O : Register → Type 0 = λ r. IsOver r.next (length m.vars) × IsOver r.enable (length m.vars) in
      let o = All-head O r rs all in
      ap (λ b. b ∷ map (loaded k.vars (over w)) (map (register_over k.vars) (map (stored_as vars) rs))) (one_loaded w each r (named r here) o.0 o.1)
      ∙ ap (λ bs. loaded m.vars w r ∷ bs) (all_loaded w each rs (λ x h. named x (there h)) (All-tail O r rs all))

  same_next : (w : List Bool) → length w ≡ length m.vars → next k (over w) ≡ next m w
  same_next w each =
      ap (map (loaded k.vars (over w))) c.registers ∙ all_loaded w each m.registers (λ r h. In-map (λ (x : Register). x.name) r m.registers h) can.registers

  -- a valuation of the copy is the one that is carried over
  is_over : (s i w v : List Bool) → Settles m s i w → Settles k s i v → v ≡ over w
  is_over s i w v p q =
      let ls : length s ≡ length k.registers =
      ap (λ (bs : List Bool). length bs) (sym q.registers) ∙ length-map (register_names k) (value_at k.vars v) ∙ length-map k.registers (λ (r : Register). r.name) in
      let li : length i ≡ length (inputs k) = ap (λ (bs : List Bool). length bs) (sym q.inputs) ∙ length-map (inputs k) (value_at k.vars v) in
      let once = settles_once_known k s i (known k ordered) ls li in
      once.2 v q ∙ sym (once.2 (over w) (copy_settles s i w p))

  pub copy_is_alike : IsAlike m k
  copy_is_alike = record {
    name = c.name;
    ports = c.ports;
    clock = c.clock;
    registers = registers_alike m k names c;
    shows = λ s i w v p q. ap (outs k) (is_over s i w v p q) ∙ asked w (outputs k) (outputs m) (outputs_alike m k c.ports) (shown_value w);
    loads = λ s i w v p q. ap (next k) (is_over s i w v p q) ∙ same_next w p.each;
  }
