-- Machines that have the same parts, registers and valuations by name do the same in each cycle.
use Rattle.std.proofs.Common.{◌≡◌, Bool, cond, List, [], ◌∷◌, ◌++◌, map, length, refl, sym, ap, ◌∙◌, subst, inl, inr, arith}
use Rattle.std.proofs.lemmas.List.{length-map}
use Rattle.vlsi_base.specs.declared.name.Name.{Name}
use Rattle.vlsi_base.specs.Member.{In, here, there, AllDifferent}
use Rattle.bool_expr.specs.Expression.{Expression, val}
use Rattle.machine_core.specs.Named.{value_at}
use Rattle.machine_core.specs.Machine.{Machine, Register, inputs, register_names}
use Rattle.machine_core.specs.Cycles.{Settles, outs}
use Rattle.machine_core.specs.Order.{IsOrdered, equation_names}
use Rattle.machine_core.specs.Built.{built}
use Rattle.machine_core.proofs.Names.{same_name-itself, same_name-false}
use Rattle.machine_core.proofs.Values.{In-map}
use Rattle.machine_core.proofs.Built.{built_settles}
use Rattle.vlsi_model.proofs.Members.{In-cases, different_left, different_right}
use Rattle.vlsi_model.proofs.Building.{map_same}
use Rattle.flow_run.specs.Same.{StepsAs}

-- ---- values by name

value_later : (n : Name) (names : List Name) (b : Bool) (w : List Bool) (x : Name) → (In n names → ⊥) → In x names → value_at (n ∷ names) (b ∷ w) x ≡ value_at names w x
value_later n names b w x apart i =
    ap (λ (t : Bool). cond t b (value_at names w x)) (same_name-false n x (λ e. apart (subst (λ (y : Name). In y names) (sym e) i)))

-- names that are different have the bits beside them
own_values : (names : List Name) (w : List Bool) → AllDifferent names → length w ≡ length names → map (value_at names w) names ≡ w
own_values [] [] d l = refl
own_values [] (b ∷ w) d l = absurd (omega (arith, l))
own_values (n ∷ names) [] d l = absurd (omega (arith, l))
own_values (n ∷ names) (b ∷ w) d l =
    let first : value_at (n ∷ names) (b ∷ w) n ≡ b = ap (λ (t : Bool). cond t b (value_at names w n)) (same_name-itself n) in
    let rest : map (value_at (n ∷ names) (b ∷ w)) names ≡ w =
    map_same (value_at (n ∷ names) (b ∷ w)) (value_at names w) names (λ x i. value_later n names b w x d.0 i) ∙ own_values names w d.1 (omega (arith, l)) in
    ap (λ (x : Bool). x ∷ map (value_at (n ∷ names) (b ∷ w)) names) first ∙ ap (λ (xs : List Bool). b ∷ xs) rest

-- the bits are those of the names of a machine
abbrev IsOneByName : Machine → Machine → List Bool → List Bool → Type 0
IsOneByName m k w x = (name : Name) → value_at m.vars w name ≡ value_at k.vars x name

-- two expressions over names have one value
abbrev pub HaveOneValue : List Name → Expression → List Name → Expression → Type 0
HaveOneValue names e others f = (bit_of : Name → Bool) → val e (map bit_of names) ≡ val f (map bit_of others)

one_value : (m k : Machine) (w x : List Bool) (e f : Expression) → IsOrdered m → IsOrdered k → length w ≡ length m.vars → length x ≡ length k.vars
    → IsOneByName m k w x → HaveOneValue m.vars e k.vars f → val e w ≡ val f x
one_value m k w x e f om ok lw lx same h =
    sym (ap (val e) (own_values m.vars w om.different lw)) ∙ h (value_at m.vars w)
    ∙ ap (val f) (map_same (value_at m.vars w) (value_at k.vars x) k.vars (λ n i. same n) ∙ own_values k.vars x ok.different lx)

-- ---- registers

abbrev names_in : List Register → List Name
names_in rs = map (λ (r : Register). r.name) rs

-- a register of the list has this one's name and loads the same
abbrev LoadsSo : List Bool → List Bool → List Register → Register → Type 0
LoadsSo w x ms r = (q : Register) × In q ms × (q.name ≡ r.name) × (val q.next w ≡ val r.next x) × (val q.enable w ≡ val r.enable x)

abbrev load_of : List Bool → Register → Bool × Bool
load_of w r = (val r.next w, val r.enable w)

first_load : (w x : List Bool) (q r : Register) (ms : List Register) → q.name ≡ r.name → (In q.name (names_in ms) → ⊥) → LoadsSo w x (q ∷ ms) r → load_of w q ≡ load_of x r
first_load w x q r ms name apart h =
    elim (In-cases h.0 q ms h.1) [
      | inl e ↦
          let next : val q.next w ≡ val r.next x = ap (λ (p : Register). val p.next w) e ∙ h.3 in
          let enable : val q.enable w ≡ val r.enable x = ap (λ (p : Register). val p.enable w) e ∙ h.4 in
          ap (λ (b : Bool). (b, val q.enable w)) next ∙ ap (λ (b : Bool). (val r.next x, b)) enable
      | inr i ↦ absurd (apart (subst (λ (n : Name). In n (names_in ms)) (h.2 ∙ sym name) (In-map (λ (p : Register). p.name) h.0 ms i)))
    ]

later_load : (w x : List Bool) (q r : Register) (ms : List Register) → (In q.name (names_in ms) → ⊥) → In r.name (names_in ms) → LoadsSo w x (q ∷ ms) r → LoadsSo w x ms r
later_load w x q r ms apart among h =
    elim (In-cases h.0 q ms h.1) [
      | inl e ↦ absurd (apart (subst (λ (n : Name). In n (names_in ms)) (sym (ap (λ (p : Register). p.name) e ∙ h.2)) among))
      | inr i ↦ (h.0, i, h.2, h.3, h.4)
    ]

all_loads : (w x : List Bool) (ms ks : List Register) → AllDifferent (names_in ms) → names_in ms ≡ names_in ks → ((r : Register) → In r ks → LoadsSo w x ms r)
    → map (load_of w) ms ≡ map (load_of x) ks
all_loads w x [] [] d names each = refl
all_loads w x [] (r ∷ ks) d names each = absurd cc
all_loads w x (q ∷ ms) [] d names each = absurd cc
all_loads w x (q ∷ ms) (r ∷ ks) d names each =
    let one : q.name ≡ r.name = cc in
    let rest : names_in ms ≡ names_in ks = cc in
    ap (λ (p : Bool × Bool). p ∷ map (load_of w) ms) (first_load w x q r ms one d.0 (each r here))
    ∙ ap (λ (l : List (Bool × Bool)). load_of x r ∷ l)
    (all_loads w x ms ks d.1 rest (λ p i.
    later_load w x q p ms d.0 (subst (λ (l : List Name). In p.name l) (sym rest) (In-map (λ (a : Register). a.name) p ks i)) (each p (there i))))

-- ---- cycles

different_registers : (m : Machine) → IsOrdered m → AllDifferent (register_names m)
different_registers m o =
    different_right (inputs m) (register_names m)
    (different_left (inputs m ++ register_names m) (equation_names m) (subst (λ (l : List Name). AllDifferent l) o.vars o.different))

-- from the same contents and under the same vector they settle in bits that are one by name, with the same outputs
abbrev pub SettleAlike : Machine → Machine → Type 0
SettleAlike m k = (s i w x : List Bool) → Settles m s i w → Settles k s i x → IsOneByName m k w x × (outs m w ≡ outs k x)

-- each register of the one is by name one of the other
abbrev pub LoadAlike : Machine → Machine → Type 0
LoadAlike m k =
    (r : Register) → In r k.registers
    → (q : Register) × In q m.registers × (q.name ≡ r.name) × HaveOneValue m.vars q.next k.vars r.next × HaveOneValue m.vars q.enable k.vars r.enable

pub steps_as : (m k : Machine) → IsOrdered m → IsOrdered k → inputs m ≡ inputs k → register_names m ≡ register_names k → SettleAlike m k → LoadAlike m k → StepsAs m k
steps_as m k om ok ins regs alike loading s i w h =
    let many_s : length s ≡ length k.registers =
    sym (ap (λ (l : List Bool). length l) h.registers) ∙ length-map (register_names m) (value_at m.vars w) ∙ ap (λ (l : List Name). length l) regs
    ∙ length-map k.registers (λ (r : Register). r.name) in
    let many_i : length i ≡ length (inputs k) =
    sym (ap (λ (l : List Bool). length l) h.inputs) ∙ length-map (inputs m) (value_at m.vars w) ∙ ap (λ (l : List Name). length l) ins in
    let x = built (i ++ s) k.equations in
    let settles = built_settles k s i ok many_s many_i in
    let a = alike s i w x h settles in (
      x,
      settles,
      a.1,
      all_loads w x m.registers k.registers (different_registers m om) regs (λ r j.
          let q = loading r j in (
            q.0,
            q.1,
            q.2,
            one_value m k w x q.0.next r.next om ok h.each settles.each a.0 q.3,
            one_value m k w x q.0.enable r.enable om ok h.each settles.each a.0 q.4,
          )),
    )
