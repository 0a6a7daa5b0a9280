-- Values by name, and the one valuation of a machine.
use Rattle.std.proofs.Common.{◌≡◌, IfOk, Result, Ok, Err, ◌<◌, ℕ, zero, suc, ◌+◌, ◌&&◌, Bool, true, false, cond, List, [], ◌∷◌, ◌++◌, map, length, drop, drop-cons, add-one, arith, refl, sym, ap, ◌∙◌, subst, length-append, append-nil, append_assoc, Option, None, Some}
use Rattle.std.specs.List.{slice_index_or, All}
use Rattle.std.specs.Prelude.{filter, not}
use Rattle.std.proofs.lemmas.List.{length-map}
use Rattle.std.proofs.lemmas.List.Elements.{All-head}
use Rattle.vlsi_base.specs.declared.name.Name.{Name}
use Rattle.bool_expr.specs.Expression.{Expression, bit, val, constant, IsOver}
use Rattle.bool_expr.specs.View.{view}
use Rattle.machine_core.specs.declared.equation.Equation.{Equation as EquationParts}
use Rattle.machine_core.specs.declared.equation.Register.{Register as RegisterParts}
use Rattle.machine_core.specs.Named.{is_same_name, value_at}
use Rattle.machine_core.specs.Machine.{Machine, Equation, Register, inputs, input_ports, is_clock, outputs, register_names}
use Rattle.machine_core.specs.Cycles.{Settles}
use Rattle.machine_core.specs.Built.{built}
use Rattle.machine_core.specs.Order.{In, here, there, IsOrdered, EachReadsBelow, held_names, equation_names}
use Rattle.machine_core.specs.Checked.{IsChecked}
use Rattle.machine_core.specs.View.{equation_view, register_view}
use Rattle.machine_core.proofs.Values.{val-agrees}
use Rattle.machine_core.proofs.Known.{IsOver-In, known}
use Rattle.machine_core.proofs.Solve.{settles_once_known}
use Rattle.machine_core.proofs.Built.{built_settles}
use Rattle.cell_function.specs.Function.{IsGate, IsFlipFlop, StoresInput, IsNoFlipFlop}
use Rattle.cell_function.specs.Row.{row, HasRows, HasGateShape, HasStorageShape, same, kept, keeps, keeps_always}

-- ---- values by name

value_step : (names : List Name) (bits : List Bool) (name other : Name) (k : ℕ) → k < length names → length bits ≡ length names → other ≡ slice_index_or names k other
    → value_at (drop k names) (drop k bits) name ≡ cond (is_same_name other name) (slice_index_or bits k false) (value_at (drop (k + 1) names) (drop (k + 1) bits) name)
value_step names bits name other k h lengths is =
    let ns : drop k names ≡ other ∷ drop (k + 1) names =
    drop-cons names k other h ∙ ap (λ (n : Name). n ∷ drop (suc k) names) (sym is) ∙ ap (λ j. other ∷ drop j names) (sym (add-one k)) in
    let bs : drop k bits ≡ slice_index_or bits k false ∷ drop (k + 1) bits =
    drop-cons bits k false (omega (arith, h, lengths)) ∙ ap (λ j. slice_index_or bits k false ∷ drop j bits) (sym (add-one k)) in
    rw (ns, bs) refl

pub value_found : (names : List Name) (bits : List Bool) (name other : Name) (k : ℕ) → k < length names → length bits ≡ length names → other ≡ slice_index_or names k other
    → is_same_name other name ≡ true → value_at (drop k names) (drop k bits) name ≡ value_at names bits name → slice_index_or bits k false ≡ value_at names bits name
value_found names bits name other k h lengths is found inv =
    sym (value_step names bits name other k h lengths is ∙ ap (λ t. cond t (slice_index_or bits k false) (value_at (drop (k + 1) names) (drop (k + 1) bits) name)) found) ∙ inv

pub value_later : (names : List Name) (bits : List Bool) (name other : Name) (k : ℕ) → k < length names → length bits ≡ length names → other ≡ slice_index_or names k other
    → is_same_name other name ≡ false → value_at (drop k names) (drop k bits) name ≡ value_at names bits name → value_at (drop (k + 1) names) (drop (k + 1) bits) name ≡ value_at names bits name
value_later names bits name other k h lengths is apart inv =
    sym (value_step names bits name other k h lengths is ∙ ap (λ t. cond t (slice_index_or bits k false) (value_at (drop (k + 1) names) (drop (k + 1) bits) name)) apart) ∙ inv

-- ---- the one valuation

settled_is : (m : Machine) (s i w : List Bool) → IsOrdered m → length s ≡ length m.registers → length i ≡ length (inputs m) → Settles m s i w → w ≡ built (i ++ s) m.equations
settled_is m s i w o ls li h =
    let once = settles_once_known m s i (known m o) ls li in
    once.2 w h ∙ sym (once.2 (built (i ++ s) m.equations) (built_settles m s i o ls li))

-- ---- gates

bit_next : (front : List Bool) (b : Bool) (rest : List Bool) → bit (front ++ b ∷ rest) (length front) ≡ b
bit_next [] b rest = refl
bit_next (c ∷ front) b rest = bit_next front b rest

bit_front : (front rest : List Bool) (k : ℕ) → k < length front → bit (front ++ rest) k ≡ bit front k
bit_front [] rest k h = absurd (omega arith)
bit_front (b ∷ front) rest zero h = refl
bit_front (b ∷ front) rest (suc k) h = bit_front front rest k (omega arith)

pub rows_end : (f : List Bool → Bool) (front : List Bool) (n : ℕ) (b : Bool) → n ≡ 0 → b ≡ f front → HasRows f front n (constant b)
rows_end f front n b none is [] size = is ∙ ap f (sym (append-nil front))
rows_end f front n b none is (c ∷ back) size = absurd (omega (arith, none, size))

pub rows_split : (f : List Bool → Bool) (front : List Bool) (n k : ℕ) (e high low : Expression) → n ≡ k + 1
    → ((w : List Bool) → val e w ≡ cond (bit w (length front)) (val high w) (val low w))
    → HasRows f (front ++ true ∷ []) k high → HasRows f (front ++ false ∷ []) k low → HasRows f front n e
rows_split f front n k e high low more chosen one zero_is [] size = absurd (omega (arith, more, size))
rows_split f front n k e high low more chosen one zero_is (true ∷ back) size =
    chosen (front ++ true ∷ back) ∙ ap (λ t. cond t (val high (front ++ true ∷ back)) (val low (front ++ true ∷ back))) (bit_next front true back)
    ∙ ap (val high) (sym (append_assoc front (true ∷ []) back)) ∙ one back (omega (arith, more, size)) ∙ ap f (append_assoc front (true ∷ []) back)
rows_split f front n k e high low more chosen one zero_is (false ∷ back) size =
    chosen (front ++ false ∷ back) ∙ ap (λ t. cond t (val high (front ++ false ∷ back)) (val low (front ++ false ∷ back))) (bit_next front false back)
    ∙ ap (val low) (sym (append_assoc front (false ∷ []) back)) ∙ zero_is back (omega (arith, more, size)) ∙ ap f (append_assoc front (false ∷ []) back)

In-one : {A : Type 0} (x y : A) → In x (y ∷ []) → x ≡ y
In-one x y here = refl
In-one x y (there h) = elim h [ ]

-- the only equation is the output's, and it reads inputs alone
only_equation : (m : Machine) (output : Name) (e : Equation) → IsChecked m → HasGateShape m output → m.equations ≡ e ∷ []
    → HasRows (row m output) [] (length (inputs m)) e.expr × IsOver e.expr (length (inputs m))
only_equation m output e checked shape is =
    let held : length (held_names m) ≡ length (inputs m) =
    length-append (inputs m) (register_names m) ∙ ap (λ (rs : List Register). length (inputs m) + length (map (λ r. r.name) rs)) shape.stateless ∙ omega arith in
    let below : EachReadsBelow (length (inputs m)) (e ∷ []) =
    subst (λ (es : List Equation). EachReadsBelow (length (inputs m)) es) is (subst (λ n. EachReadsBelow n m.equations) held checked.ordered.below) in
    let named : output ≡ e.name =
    In-one output e.name (subst (λ (es : List Equation). In output (map (λ (x : Equation). x.name) es)) is (checked.driven output (subst (λ (ns : List Name). In output ns) (sym shape.one) here))) in
    let none : length {A = Bool} [] ≡ length m.registers = ap (λ (rs : List Register). length rs) (sym shape.stateless) in (
      (λ back size.
          let w = built (back ++ []) m.equations in
          let settles = built_settles m [] back checked.ordered none size in
          let w_is : w ≡ (back ++ []) ++ val e.expr (back ++ []) ∷ [] = ap (built (back ++ [])) is in
          let value : value_at m.vars w e.name ≡ val e.expr w =
          All-head (λ (x : Equation). value_at m.vars w x.name ≡ val x.expr w) e [] (subst (λ (es : List Equation). All (λ x. value_at m.vars w x.name ≡ val x.expr w) es) is settles.equations) in
          let flat : w ≡ back ++ val e.expr (back ++ []) ∷ [] = w_is ∙ ap (λ (xs : List Bool). xs ++ val e.expr (back ++ []) ∷ []) (append-nil back) in
          let agrees : val e.expr back ≡ val e.expr w =
          val-agrees e.expr back w (λ k h. sym (ap (λ (x : List Bool). bit x k) flat ∙ bit_front back (val e.expr (back ++ []) ∷ []) k (subst (λ n. k < n) (sym size) (IsOver-In e.expr (length (inputs m)) below.0 k h)))) in
          agrees ∙ sym value ∙ ap (value_at m.vars w) (sym named)),
      below.0,
    )

as_parts : (m : Machine) (es : List EquationParts) (e : EquationParts) → map equation_view es ≡ m.equations → length es ≡ 1 → e ≡ slice_index_or es 0 e → m.equations ≡ equation_view e ∷ []
as_parts m [] e is size same_one = absurd (omega (arith, size))
as_parts m (x ∷ []) e is size same_one = sym is ∙ ap (λ (p : EquationParts). equation_view p ∷ []) (sym same_one)
as_parts m (x ∷ y ∷ es) e is size same_one = absurd (omega (arith, size))

pub copied_rows : (m : Machine) (output : Name) (es : List EquationParts) (e : EquationParts) → IsChecked m → HasGateShape m output → map equation_view es ≡ m.equations → length es ≡ 1 → e ≡ slice_index_or es 0 e
    → HasRows (row m output) [] (length (inputs m)) (view e.expr) × IsOver (view e.expr) (length (inputs m))
copied_rows m output es e checked shape is size same_one = only_equation m output (equation_view e) checked shape (as_parts m es e is size same_one)

pub gate_is : (m : Machine) (output : Name) (e : Expression) → IsChecked m → HasGateShape m output → HasRows (row m output) [] (length (inputs m)) e → IsOver e (length (inputs m)) → IsGate m e
gate_is m output e checked shape rows over = record {
  scalars = shape.scalars;
  output = output;
  one = shape.one;
  few = shape.few;
  unclocked = shape.unclocked;
  stateless = shape.stateless;
  over = over;
  value = λ i w h.
      let size : length i ≡ length (inputs m) = ap (λ (xs : List Bool). length xs) (sym h.inputs) ∙ length-map (inputs m) (value_at m.vars w) in
      let held : length {A = Bool} [] ≡ length m.registers = ap (λ (rs : List Register). length rs) (sym shape.stateless) in
      ap (λ (x : List Bool). value_at m.vars x output) (settled_is m [] i w checked.ordered held size h) ∙ sym (rows i size);
}

-- ---- flip-flops

pub over_first : (m : Machine) (w : List Bool) (rs : List RegisterParts) (r : RegisterParts) → IsChecked m → map register_view rs ≡ m.registers → length w ≡ length m.vars → length m.registers ≡ 1 → r ≡ slice_index_or rs 0 r
    → IsOver (view r.next) (length w) × IsOver (view r.enable) (length w)
over_first m w [] r checked is each one same_one = let none : 0 ≡ 1 = ap (λ (xs : List Register). length xs) is ∙ one in absurd (omega (arith, none))
over_first m w (x ∷ rs) r checked is each one same_one =
    let P : ℕ → Register → Type 0 = λ n p. IsOver p.next n × IsOver p.enable n in
    let over = All-head (P (length m.vars)) (register_view x) (map register_view rs) (subst (λ (xs : List Register). All (P (length m.vars)) xs) (sym is) checked.loads) in
    subst (λ n. P n (register_view r)) (sym each) (subst (λ (p : RegisterParts). P (length m.vars) (register_view p)) (sym same_one) over)

pub keeps_is : (m : Machine) (output : Name) (held given : Bool) (rs : List RegisterParts) (r : RegisterParts) (w : List Bool) → map register_view rs ≡ m.registers → length m.registers ≡ 1 → r ≡ slice_index_or rs 0 r
    → w ≡ built ((given ∷ []) ++ (held ∷ [])) m.equations
    → same (val (view r.next) w) given && (val (view r.enable) w && same (value_at m.vars w output) held) ≡ keeps m output held given
keeps_is m output held given [] r w is one same_one built_is = let none : 0 ≡ 1 = ap (λ (xs : List Register). length xs) is ∙ one in absurd (omega (arith, none))
keeps_is m output held given (x ∷ []) r w is one same_one built_is =
    ap (λ (p : RegisterParts). kept (register_view p ∷ []) m.vars output held given w) same_one
    ∙ ap (λ (xs : List Register). kept xs m.vars output held given w) is ∙ ap (λ (x : List Bool). kept m.registers m.vars output held given x) built_is
keeps_is m output held given (x ∷ y ∷ rs) r w is one same_one built_is = let none : length (register_view x ∷ register_view y ∷ map register_view rs) ≡ 1 = ap (λ (xs : List Register). length xs) is ∙ one in absurd (omega (arith, none))

same_true : (a b : Bool) → same a b ≡ true → a ≡ b
same_true true true h = refl
same_true true false h = absurd cc
same_true false true h = absurd cc
same_true false false h = refl

same_itself : (a b : Bool) → a ≡ b → same a b ≡ true
same_itself true b h = sym h
same_itself false b h = ap (λ x. same false x) (sym h)

both : (a b : Bool) → (a && b) ≡ true → (a ≡ true) × (b ≡ true)
both true b h = (refl, h)
both false b h = absurd cc

and_true : (a b : Bool) → a ≡ true → b ≡ true → (a && b) ≡ true
and_true a b ha hb = rw (ha, hb) refl

each_kept : (m : Machine) (output : Name) → keeps_always m output ≡ true → (held given : Bool) → keeps m output held given ≡ true
each_kept m output h held given = pick held given where
  first : (keeps m output false false ≡ true) × ((keeps m output false true && (keeps m output true false && keeps m output true true)) ≡ true)
  first = both (keeps m output false false) (keeps m output false true && (keeps m output true false && keeps m output true true)) h

  second : (keeps m output false true ≡ true) × ((keeps m output true false && keeps m output true true) ≡ true)
  second = both (keeps m output false true) (keeps m output true false && keeps m output true true) first.1

  third : (keeps m output true false ≡ true) × (keeps m output true true ≡ true)
  third = both (keeps m output true false) (keeps m output true true) second.1

  pick : (held given : Bool) → keeps m output held given ≡ true
  pick false false = first.0
  pick false true = second.0
  pick true false = third.0
  pick true true = third.1

all_kept : (m : Machine) (output : Name) → ((held given : Bool) → keeps m output held given ≡ true) → keeps_always m output ≡ true
all_kept m output h =
    and_true (keeps m output false false) (keeps m output false true && (keeps m output true false && keeps m output true true)) (h false false)
    (and_true (keeps m output false true) (keeps m output true false && keeps m output true true) (h false true)
    (and_true (keeps m output true false) (keeps m output true true) (h true false) (h true true)))

plain_from : (m : Machine) (output : Name) (r : Register) → IsOrdered m → m.registers ≡ r ∷ [] → length (inputs m) ≡ 1 → keeps_always m output ≡ true → StoresInput m output r
plain_from m output r o one input h s i w settles =
    let held : length (s ∷ []) ≡ length m.registers = ap (λ (rs : List Register). length rs) (sym one) in
    let w_is = settled_is m (s ∷ []) (i ∷ []) w o held (sym input) settles in
    let k : kept (r ∷ []) m.vars output s i w ≡ true =
    ap (λ (x : List Bool). kept (r ∷ []) m.vars output s i x) w_is
    ∙ ap (λ (rs : List Register). kept rs m.vars output s i (built ((i ∷ []) ++ (s ∷ [])) m.equations)) (sym one) ∙ each_kept m output h s i in
    let a = both (same (val r.next w) i) (val r.enable w && same (value_at m.vars w output) s) k in
    let b = both (val r.enable w) (same (value_at m.vars w output) s) a.1 in
    (same_true (val r.next w) i a.0, b.0, same_true (value_at m.vars w output) s b.1)

one_head : (a b : Name) (xs : List Name) → xs ≡ a ∷ [] → xs ≡ b ∷ [] → a ≡ b
one_head a b xs h g = let same_list : a ∷ [] ≡ b ∷ [] = sym h ∙ g in cc

pub no_flip_flop : (m : Machine) (output : Name) → IsChecked m → HasStorageShape m output → keeps_always m output ≡ false → IsNoFlipFlop m
no_flip_flop m output checked shape h data_pin clock_pin ff =
    let named : ff.output ≡ output = one_head ff.output output (outputs m) ff.one shape.one in
    let always : keeps_always m output ≡ true =
    all_kept m output (λ s i.
    let held : length (s ∷ []) ≡ length m.registers = ap (λ (rs : List Register). length rs) (sym ff.stored) in
    let w = built ((i ∷ []) ++ (s ∷ [])) m.equations in
    let settles = built_settles m (s ∷ []) (i ∷ []) checked.ordered held (sym shape.data_input) in
    let p = ff.plain s i w settles in
    ap (λ (rs : List Register). kept rs m.vars output s i w) ff.stored
    ∙ and_true (same (val ff.register.next w) i) (val ff.register.enable w && same (value_at m.vars w output) s) (same_itself (val ff.register.next w) i p.0)
    (and_true (val ff.register.enable w) (same (value_at m.vars w output) s) p.1 (same_itself (value_at m.vars w output) s (ap (value_at m.vars w) (sym named) ∙ p.2)))) in
    let never : true ≡ false = sym always ∙ h in absurd cc

one_member : {A : Type 0} (xs : List A) → length xs ≡ 1 → (x : A) × (xs ≡ x ∷ [])
one_member [] h = absurd (omega (arith, h))
one_member (x ∷ []) h = (x, refl)
one_member (x ∷ y ∷ xs) h = absurd (omega (arith, h))

pub flip_flop_is : (m : Machine) (output data_pin clock_pin : Name) → IsChecked m → HasStorageShape m output → keeps_always m output ≡ true → m.clock ≡ Some clock_pin
    → data_pin ≡ slice_index_or m.vars 0 data_pin → IsFlipFlop m data_pin clock_pin
flip_flop_is m output data_pin clock_pin checked shape h clock is =
    let r = one_member m.registers shape.stored in
    let d = one_member (inputs m) shape.data_input in
    let vars : m.vars ≡ (d.0 ∷ []) ++ register_names m ++ equation_names m =
    checked.ordered.vars ∙ ap (λ (xs : List Name). (xs ++ register_names m) ++ equation_names m) d.1 in
    let named : data_pin ≡ d.0 = is ∙ ap (λ (xs : List Name). slice_index_or xs 0 data_pin) vars in
    record {
      scalars = shape.scalars;
      output = output;
      one = shape.one;
      data_input = d.1 ∙ ap (λ (n : Name). n ∷ []) (sym named);
      clock_input = clock;
      register = r.0;
      stored = r.1;
      plain = plain_from m output r.0 checked.ordered r.1 shape.data_input h;
    }

pub first_data : (xs vars : List Name) (x d : Name) → d ≡ x → x ≡ slice_index_or xs 0 x → xs ≡ vars → d ≡ slice_index_or vars 0 d
first_data xs vars x d e is same_list = e ∙ is ∙ ap (λ (ys : List Name). slice_index_or ys 0 x) same_list ∙ ap (λ y. slice_index_or vars 0 y) (sym e)

-- ---- what holds of what is answered

pub in_ok : {X E : Type 0} {P Q : X → Type 0} → ((x : X) → P x → Q x) → (r : Result X E) → IfOk r P → IfOk r Q
in_ok step (Ok x) is = step x is
in_ok step (Err e) is = tt

-- ---- for callers

without_clock : (names : List Name) → filter (λ name. not (is_clock None name)) names ≡ names
without_clock [] = refl
without_clock (n ∷ names) = ap (λ (ns : List Name). n ∷ ns) (without_clock names)

-- without a clock all input ports are inputs of a vector: variable k of a gate is input pin k
pub all_inputs : (m : Machine) → m.clock ≡ None → inputs m ≡ input_ports m
all_inputs m none = ap (λ (clock : Option Name). filter (λ name. not (is_clock clock name)) (input_ports m)) none ∙ without_clock (input_ports m)
