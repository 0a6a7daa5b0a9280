-- A cell and its body: the same valuations, over the bits of its own.
use Rattle.std.proofs.Common.{◌≡◌, ℕ, suc, ◌+◌, Bool, List, [], ◌∷◌, ◌++◌, map, length, get_or, take, drop, refl, sym, ap, ◌∙◌, subst, arith, length-append, append_assoc}
use Rattle.std.specs.List.{slice_index_or}
use Rattle.std.proofs.lemmas.List.{length-map, map-append, length-take-le, length-drop, take-append-drop}
use Rattle.std.proofs.Math.Seq.{take-append_seam}
use Rattle.std.proofs.lemmas.Option.{slice_get-get_or, slice_get_within, get_or_from_slice_get}
use Rattle.vlsi_base.specs.declared.name.Name.{Name}
use Rattle.vlsi_base.specs.Member.{In, AllDifferent}
use Rattle.bool_expr.specs.Expression.{Expression, variable, bit, val}
use Rattle.machine_core.specs.Named.{value_at, values_at}
use Rattle.machine_core.specs.Machine.{Machine, Equation, Register, inputs, outputs, register_names}
use Rattle.machine_core.specs.Cycles.{Settles, outs}
use Rattle.machine_core.specs.Order.{held_names, equation_names}
use Rattle.machine_core.specs.Checked.{IsChecked}
use Rattle.machine_core.proofs.Values.{In-right, bit-value_at}
use Rattle.machine_core.proofs.Built.{values_at-front}
use Rattle.source_checks.specs.Formula.{place}
use Rattle.vlsi_model.proofs.Numbering.{place_within, place_at}
use Rattle.vlsi_model.proofs.Building.{map-then, map_same}
use Rattle.cell_model.specs.Cell.{other, Cell}
use Rattle.net_core.specs.Places.{Stands}
use Rattle.net_core.proofs.Frames.{mapped, unmapped}
use Rattle.net_machine.specs.Body.{Load, Shown, Body, body_of}
use Rattle.net_machine.specs.Gathered.{bits_count}
use Rattle.net_machine.proofs.Bodies.{machine_bits}

-- ---- lists of bits in pieces

pub take_front : {A : Type 0} (xs ys : List A) (n : ℕ) → n ≡ length xs → take n (xs ++ ys) ≡ xs
take_front xs ys n e = ap (λ k. take k (xs ++ ys)) e ∙ take-append_seam xs ys

pub drop_front : {A : Type 0} (xs ys : List A) (n : ℕ) → n ≡ length xs → drop n (xs ++ ys) ≡ ys
drop_front xs ys n e = ap (λ k. drop k (xs ++ ys)) e ∙ seam xs ys where
  seam : {A : Type 0} (xs ys : List A) → drop (length xs) (xs ++ ys) ≡ ys
  seam [] ys = refl
  seam (x ∷ xs) ys = seam xs ys

-- two lists in two pieces each, the first as long
pub pieces_same : {A : Type 0} (xs ys zs ws : List A) → length xs ≡ length zs → xs ++ ys ≡ zs ++ ws → (xs ≡ zs) × (ys ≡ ws)
pieces_same xs ys zs ws n e = (
  sym (take_front xs ys (length xs) refl) ∙ ap (take (length xs)) e ∙ take_front zs ws (length xs) n,
  sym (drop_front xs ys (length xs) refl) ∙ ap (drop (length xs)) e ∙ drop_front zs ws (length xs) n,
)

-- the bits of a body, from those of its pins, those that it holds and the inner ones
pub record BodyHolds (b : Body) (v : List Bool) (shown : List Bool) : Type 0 where
  pub each : length v ≡ bits_count b
  pub inner : (q : ℕ) (e : Expression) → Stands b.inner q e → bit v (length b.reads + length b.loads + q) ≡ val e v
  pub shows : map (λ (s : Shown). val s.expr v) b.shows ≡ shown

-- ---- a machine's names in pieces

value_at_place : (names : List Name) (w : List Bool) (n : Name) → AllDifferent names → length w ≡ length names → In n names → bit w (place names n) ≡ value_at names w n
value_at_place names w n d l i =
    let within = place_within names n i in
    bit-value_at names w (place names n) n d l within ∙ ap (value_at names w) (place_at names n n within)

pub machine_inputs : (m : Machine) (v : List Bool) → IsChecked m → length v ≡ length m.vars → values_at m.vars v (inputs m) ≡ take (length (inputs m)) v
machine_inputs m v h l =
    let e : m.vars ≡ inputs m ++ (register_names m ++ equation_names m) = h.ordered.vars ∙ append_assoc (inputs m) (register_names m) (equation_names m) in
    subst (λ (ns : List Name). values_at ns v (inputs m) ≡ take (length (inputs m)) v) (sym e)
    (values_at-front (inputs m) (register_names m ++ equation_names m) v (subst (λ (ns : List Name). AllDifferent ns) e h.ordered.different) (l ∙ ap length e))

held_values : (m : Machine) (v : List Bool) → IsChecked m → length v ≡ length m.vars → values_at m.vars v (inputs m) ++ values_at m.vars v (register_names m) ≡ take (length (held_names m)) v
held_values m v h l =
    let e = h.ordered.vars in
    sym (map-append (value_at m.vars v) (inputs m) (register_names m))
    ∙ subst (λ (ns : List Name). values_at ns v (held_names m) ≡ take (length (held_names m)) v) (sym e)
    (values_at-front (held_names m) (equation_names m) v (subst (λ (ns : List Name). AllDifferent ns) e h.ordered.different) (l ∙ ap length e))

vars_count : (m : Machine) → IsChecked m → length m.vars ≡ length (inputs m) + length (register_names m) + length (equation_names m)
vars_count m h =
    let v = ap length h.ordered.vars in
    let a = length-append (held_names m) (equation_names m) in
    let b = length-append (inputs m) (register_names m) in
    omega (arith, v, a, b)

-- the inputs' bits, those of the registers, and the rest
pub machine_registers : (m : Machine) (ins hs rest v : List Bool) → IsChecked m → length v ≡ length m.vars → v ≡ ins ++ (hs ++ rest) → length ins ≡ length (inputs m) → length hs ≡ length (register_names m)
    → (values_at m.vars v (inputs m) ≡ ins) × (values_at m.vars v (register_names m) ≡ hs)
machine_registers m ins hs rest v h l e li lh =
    let a : values_at m.vars v (inputs m) ≡ ins = machine_inputs m v h l ∙ ap (take (length (inputs m))) e ∙ take_front ins (hs ++ rest) (length (inputs m)) (sym li) in
    let n : length (held_names m) ≡ length (ins ++ hs) = let x = length-append (inputs m) (register_names m) in let y = length-append ins hs in omega (arith, x, y, li, lh) in
    let whole : values_at m.vars v (inputs m) ++ values_at m.vars v (register_names m) ≡ ins ++ hs =
    held_values m v h l ∙ ap (take (length (held_names m))) (e ∙ sym (append_assoc ins hs rest)) ∙ take_front (ins ++ hs) rest (length (held_names m)) n in
    (a, (pieces_same (values_at m.vars v (inputs m)) (values_at m.vars v (register_names m)) ins hs (ap length a) whole).1)

-- the value of an equation's name
pub machine_equation : (m : Machine) (v : List Bool) → IsChecked m → length v ≡ length m.vars → (k : ℕ) (e : Equation) → Stands m.equations k e
    → bit v (length (inputs m) + length (register_names m) + k) ≡ value_at m.vars v e.name
machine_equation m v h l k e s =
    let low = slice_get_within m.equations k e s in
    let n = length-append (inputs m) (register_names m) in
    let q = length-map m.equations (λ (x : Equation). x.name) in
    let c = vars_count m h in
    let j : length (inputs m) + length (register_names m) + k ≡ length (held_names m) + k = omega (arith, n) in
    let at : slice_index_or m.vars (length (held_names m) + k) e.name ≡ e.name =
    ap (λ (ns : List Name). get_or ns (length (held_names m) + k) e.name) h.ordered.vars ∙ at_right (held_names m) (equation_names m) k e.name
    ∙ get_or_from_slice_get (equation_names m) k e.name e.name (mapped (λ (x : Equation). x.name) m.equations k e s) in
    ap (bit v) j ∙ bit-value_at m.vars v (length (held_names m) + k) e.name h.ordered.different l (omega (arith, low, n, q, c)) ∙ ap (value_at m.vars v) at where
      at_right : (xs ys : List Name) (k : ℕ) (d : Name) → get_or (xs ++ ys) (length xs + k) d ≡ get_or ys k d
      at_right [] ys k d = let e : 0 + k ≡ k = omega arith in ap (λ i. get_or ys i d) e
      at_right (x ∷ xs) ys k d = let e : length (x ∷ xs) + k ≡ suc (length xs + k) = omega arith in ap (λ i. get_or (x ∷ (xs ++ ys)) i d) e ∙ at_right xs ys k d

outs_shown : (m : Machine) (v : List Bool) → IsChecked m → length v ≡ length m.vars
    → map (λ (s : Shown). val s.expr v) (map (λ (o : Name). record { pin = o; expr = variable (place m.vars o) }) (outputs m)) ≡ outs m v
outs_shown m v h l =
    map-then (λ (s : Shown). val s.expr v) (λ (o : Name). record { pin = o; expr = variable (place m.vars o) }) (outputs m)
    ∙ map_same (λ (o : Name). bit v (place m.vars o)) (value_at m.vars v) (outputs m)
    (λ o i.
    value_at_place m.vars v o h.ordered.different l
    (subst (λ (ns : List Name). In o ns) (sym h.ordered.vars) (In-right o (held_names m) (equation_names m) (h.driven o i))))

registers_count : (m : Machine) → length {A = Load} (map (λ (r : Register). record { next = r.next; enable = r.enable }) m.registers) ≡ length (register_names m)
registers_count m = length-map {B = Load} m.registers (λ (r : Register). record { next = r.next; enable = r.enable }) ∙ sym (length-map m.registers (λ (r : Register). r.name))

-- ---- from the body to the machine, and back

pub machine_settles : (c : Cell) (m : Machine) (ins hs rest v shown : List Bool) → IsChecked m → v ≡ ins ++ (hs ++ rest) → length ins ≡ length (inputs m) → length hs ≡ length m.registers
    → BodyHolds (body_of c (other m)) v shown → Settles m hs ins v × (shown ≡ outs m v)
machine_settles c m ins hs rest v shown h e li lh holds = (
  record {
    each = each;
    inputs = parts.0;
    registers = parts.1;
    equations = λ k d low.
        let x = get_or m.equations k d in
        let s = slice_get-get_or m.equations k d low in
        let r = registers_count m in
        let i : length (inputs m) + length (register_names m) + k ≡ length (inputs m) + length (body_of c (other m)).loads + k = omega (arith, r) in
        sym (machine_equation m v h each k x s) ∙ ap (bit v) i ∙ holds.inner k x.expr (mapped (λ (y : Equation). y.expr) m.equations k x s);
  },
  sym holds.shows ∙ outs_shown m v h each,
) where
  each : length v ≡ length m.vars
  each = holds.each ∙ machine_bits c m h

  parts : (values_at m.vars v (inputs m) ≡ ins) × (values_at m.vars v (register_names m) ≡ hs)
  parts = machine_registers m ins hs rest v h each e li (lh ∙ sym (length-map m.registers (λ (r : Register). r.name)))

pub machine_holds : (c : Cell) (m : Machine) (ins hs v shown : List Bool) → IsChecked m → Settles m hs ins v → shown ≡ outs m v → BodyHolds (body_of c (other m)) v shown
machine_holds c m ins hs v shown h s e = record {
  each = s.each ∙ sym (machine_bits c m h);
  inner = λ q x t.
      let u = unmapped (λ (y : Equation). y.expr) m.equations q x t in
      let r = registers_count m in
      let i : length (inputs m) + length (body_of c (other m)).loads + q ≡ length (inputs m) + length (register_names m) + q = omega (arith, r) in
      let low = slice_get_within m.equations q u.0 u.1 in
      let eq : value_at m.vars v u.0.name ≡ val u.0.expr v =
      subst (λ (y : Equation). value_at m.vars v y.name ≡ val y.expr v) (get_or_from_slice_get m.equations q u.0 u.0 u.1) (s.equations q u.0 low) in
      ap (bit v) i ∙ machine_equation m v h s.each q u.0 u.1 ∙ eq ∙ ap (λ (y : Expression). val y v) u.2;
  shows = outs_shown m v h s.each ∙ sym e;
}

-- the pieces of a settled valuation
pub settled_pieces : (m : Machine) (ins hs v : List Bool) → IsChecked m → Settles m hs ins v → (take (length (inputs m)) v ≡ ins) × (v ≡ ins ++ drop (length (inputs m)) v)
    × (take (length m.registers) (drop (length (inputs m)) v) ≡ hs)
settled_pieces m ins hs v h s =
    let a : take (length (inputs m)) v ≡ ins = sym (machine_inputs m v h s.each) ∙ s.inputs in
    let whole : v ≡ ins ++ drop (length (inputs m)) v = sym (take-append-drop (length (inputs m)) v) ∙ ap (λ (xs : List Bool). xs ++ drop (length (inputs m)) v) a in
    let c = vars_count m h in
    let ld = length-drop (length (inputs m)) v in
    let le = s.each in
    let rn = length-map m.registers (λ (r : Register). r.name) in
    let tail = drop (length (inputs m)) v in
    let split = take-append-drop (length m.registers) tail in
    let n : length (take (length m.registers) tail) ≡ length (register_names m) = length-take-le (length m.registers) tail (omega (arith, c, ld, le, rn)) ∙ sym rn in
    let li : length ins ≡ length (inputs m) = ap length (sym s.inputs) ∙ length-map (inputs m) (value_at m.vars v) in
    let parts = machine_registers m ins (take (length m.registers) tail) (drop (length m.registers) tail) v h s.each (whole ∙ ap (λ (xs : List Bool). ins ++ xs) (sym split)) li n in
    (a, whole, sym parts.1 ∙ s.registers)
