-- What is made part by part is the machine of the state machine.
use Rattle.std.proofs.Common.{◌≡◌, ℕ, zero, suc, ◌+◌, ◌<◌, List, [], ◌∷◌, ◌++◌, map, filter, length, None, Some, refl, sym, ap, ◌∙◌, arith, add-one, zero-add, slice_index_or, get_or, take, append_assoc, length-append}
use Rattle.std.proofs.lemmas.List.{length-map, take_more}
use Rattle.vlsi_base.specs.declared.name.Name.{Name}
use Rattle.bool_expr.specs.Expression.{Expression}
use Rattle.bool_expr.specs.declared.expr.Expr.{Expr}
use Rattle.bool_expr.specs.View.{view}
use Rattle.machine_core.specs.declared.equation.Equation.{Equation as EquationParts}
use Rattle.machine_core.specs.View.{equation_view}
use Rattle.machine_core.specs.Machine.{Machine, Equation, Register, names_of}
use Rattle.machine_core.specs.Order.{equation_names}
use Rattle.fsm_machine.specs.Statements.{Statements}
use Rattle.fsm_machine.specs.Fsm.{Fsm, fsm_inputs, fsm_outputs}
use Rattle.fsm_machine.specs.Codes.{Codes, AreCodes}
use Rattle.fsm_machine.specs.Signals.{emitted}
use Rattle.fsm_machine.specs.MachineOf.{up, named, at_state, machine_of, register_base, body_base, placed_body, inner_expressions, output_expression, registers_of, code_names}
use Rattle.fsm_machine.proofs.Step.{register_names_are, length_inner}
use Rattle.fsm_code.specs.Over.{numbered_body}
use Rattle.fsm_core.specs.Checked.{IsCheckedFsm}
use Rattle.syf_machine.specs.Named.{inner_count, inner_names, port_numbers, is_read}
use Rattle.syf_machine.specs.Pieces.{inner_from, equations_from, register_of, machine_with}
use Rattle.syf_machine.proofs.Numbers.{body_same, reads_are}

pub up_more : (k n : ℕ) → up k (n + 1) ≡ up k n ++ ((k + n) ∷ [])
up_more k n = rw (add-one n) (more k n) where
  more : (k n : ℕ) → up k (suc n) ≡ up k n ++ ((k + n) ∷ [])
  more k zero = ap (λ (m : ℕ). m ∷ []) (omega arith)
  more k (suc n) = ap (λ (ms : List ℕ). k ∷ ms) (more (suc k) n ∙ ap (λ (m : ℕ). up (suc k) n ++ (m ∷ [])) (omega arith))

pub map_behind : {A B : Type 0} (g : A → B) (xs ys : List A) → map g (xs ++ ys) ≡ map g xs ++ map g ys
map_behind g [] ys = refl
map_behind {A} {B} g (x ∷ xs) ys = ap (λ (zs : List B). g x ∷ zs) (map_behind g xs ys)

-- one number more under a map
pub up_map : {B : Type 0} (g : ℕ → B) (n : ℕ) → map g (up 0 (n + 1)) ≡ map g (up 0 n) ++ (g n ∷ [])
up_map {B} g n = ap (map g) (up_more 0 n) ∙ map_behind g (up 0 n) ((0 + n) ∷ []) ∙ ap (λ m. map g (up 0 n) ++ (g m ∷ [])) (zero-add n)

-- one more of what is made for the numbers from 0 on
pub one_more : {A B : Type 0} (v : A → B) (g : ℕ → B) (old new : List A) (x : A) (n : ℕ) → new ≡ old ++ (x ∷ []) → v x ≡ g n → map v old ≡ map g (up 0 n)
    → map v new ≡ map g (up 0 (n + 1))
one_more {A} {B} v g old new x n pushed same h =
    ap (map v) pushed ∙ map_behind v old (x ∷ []) ∙ ap (λ (zs : List B). zs ++ (v x ∷ [])) h ∙ ap (λ (z : B). map g (up 0 n) ++ (z ∷ [])) same ∙ sym (up_map g n)

pub next_up : (old new : List ℕ) (n : ℕ) → new ≡ old ++ (n ∷ []) → old ≡ up 0 n → new ≡ up 0 (n + 1)
next_up old new n pushed h = pushed ∙ ap (λ (ns : List ℕ). ns ++ (n ∷ [])) h ∙ ap (λ (m : ℕ). up 0 n ++ (m ∷ [])) (sym (zero-add n)) ∙ sym (up_more 0 n)

-- one more of what is made for the items of a list, behind others
pub one_behind : {A B C : Type 0} (v : A → C) (g : B → C) (old new : List A) (x : A) (before : List C) (items : List B) (i : ℕ) (item : B)
    → i < length items → item ≡ get_or items i item → new ≡ old ++ (x ∷ []) → v x ≡ g item → map v old ≡ before ++ map g (take i items)
    → map v new ≡ before ++ map g (take (i + 1) items)
one_behind {A} {B} {C} v g old new x before items i item l is pushed same h =
    let taken : take (i + 1) items ≡ take i items ++ (item ∷ []) = take_more items i item l ∙ ap (λ (y : B). take i items ++ (y ∷ [])) (sym is) in
    let after : map g (take (i + 1) items) ≡ map g (take i items) ++ (g item ∷ []) = ap (map g) taken ∙ map_behind g (take i items) (item ∷ []) in
    ap (map v) pushed ∙ map_behind v old (x ∷ []) ∙ ap (λ (zs : List C). zs ++ (v x ∷ [])) h ∙ ap (λ (z : C). (before ++ map g (take i items)) ++ (z ∷ [])) same
    ∙ append_assoc before (map g (take i items)) (g item ∷ []) ∙ ap (λ (zs : List C). before ++ zs) (sym after)

-- the equations of outputs behind those inside
named_behind : (ns ms : List Name) (es fs : List Expression) → length ns ≡ length es → named (ns ++ ms) (es ++ fs) ≡ named ns es ++ named ms fs
named_behind [] ms [] fs l = refl
named_behind [] ms (e ∷ es) fs l = absurd (omega arith)
named_behind (n ∷ ns) ms [] fs l = absurd (omega arith)
named_behind (n ∷ ns) ms (e ∷ es) fs l = ap (λ (xs : List Equation). record { name = n; expr = e } ∷ xs) (named_behind ns ms es fs (omega arith))

pub named_map : (g : Name → Expression) (ns : List Name) → named ns (map g ns) ≡ map {B = Equation} (λ n. record { name = n; expr = g n }) ns
named_map g [] = refl
named_map g (n ∷ ns) = ap (λ (xs : List Equation). record { name = n; expr = g n } ∷ xs) (named_map g ns)

-- one more name and expression
pub named_more : (names : List Name) (es : List Expression) (e : Expression) (name : Name) → length es < length names → slice_index_or names (length es) name ≡ name
    → named names (es ++ (e ∷ [])) ≡ named names es ++ (record { name = name; expr = e } ∷ [])
named_more [] es e name l is = absurd (omega arith)
named_more (n ∷ names) [] e name l is = rw is (none names) where
  none : (ns : List Name) → record { name = name; expr = e } ∷ named ns [] ≡ record { name = name; expr = e } ∷ []
  none [] = refl
  none (m ∷ ms) = refl
named_more (n ∷ names) (x ∷ es) e name l is = ap (λ (xs : List Equation). record { name = n; expr = x } ∷ xs) (named_more names es e name (omega arith) is)

pub named_none : (names : List Name) → named names [] ≡ []
named_none [] = refl
named_none (n ∷ names) = refl

-- what is known of the equations so far
pub record AreNamed (names : List Name) (made : List EquationParts) (es : List Expr) : Type 0 where
  pub each : length made ≡ length es
  pub same : map equation_view made ≡ named names (map view es)

pub equation_more : (names : List Name) (old new : List EquationParts) (es : List Expr) (e : Expr) (name : Name) → length old ≡ length es
    → map equation_view old ≡ named names (map view es) → length es < length names → name ≡ get_or names (length es) name → new ≡ old ++ (record { name = name; expr = e } ∷ [])
    → AreNamed names new (es ++ (e ∷ []))
equation_more names old new es e name each h less is pushed =
    let added : EquationParts = record { name = name; expr = e } in
    let a : length new ≡ length (old ++ (added ∷ [])) = ap length pushed in
    let b = length-append old (added ∷ []) in
    let d = length-append es (e ∷ []) in
    let count : length (map view es) ≡ length es = length-map es view in
    record {
      each = omega arith;
      same = ap (map equation_view) pushed ∙ map_behind equation_view old (added ∷ []) ∙ ap (λ (xs : List Equation). xs ++ (equation_view added ∷ [])) h
          ∙ sym (named_more names (map view es) (view e) name (omega arith) (ap (λ i. get_or names i name) count ∙ sym is))
          ∙ sym (ap (named names) (map_behind view es (e ∷ [])));
    }

inner_is : (f : Fsm) (c : Codes) → AreCodes (length f.states) c → inner_from c (register_base f) (placed_body f) ≡ inner_expressions f c
inner_is f c are =
    ap (λ n. map (at_state c (register_base f)) (up 0 n) ++ emitted (λ s. register_base f + c.width + s) (up 0 n) None (register_base f + c.width + n) (placed_body f)) are.each

-- the equations, by their parts
equations_are : (f : Fsm) (c : Codes) (st : List ℕ) → AreCodes (length f.states) c → length (inner_names f) ≡ inner_count f
    → equations_from c (register_base f) f.ports (placed_body f) ≡ (machine_of f c st (inner_names f)).equations
equations_are f c st are each =
    let inner = inner_is f c are in
    let count : length (inner_from c (register_base f) (placed_body f)) ≡ inner_count f = ap length inner ∙ length_inner f c in
    let base : register_base f + c.width + length c.codes ≡ body_base f c = ap (λ n. register_base f + c.width + n) are.each in
    rw (count, inner, base)
    (ap (λ (xs : List Equation). named (inner_names f) (inner_expressions f c) ++ xs) (sym (named_map (output_expression f c) (fsm_outputs f)))
    ∙ sym (named_behind (inner_names f) (fsm_outputs f) (inner_expressions f c) (map (output_expression f c) (fsm_outputs f)) (each ∙ sym (length_inner f c))))

-- the machine with these variables
abbrev with_vars : Fsm → Codes → List ℕ → List Name → Machine
with_vars f c st vars = record {
  name = f.name;
  ports = f.ports;
  clock = Some f.clock;
  vars = vars;
  equations = (machine_of f c st (inner_names f)).equations;
  registers = registers_of f c st;
}

pub machine_is : (f : Fsm) (c : Codes) (st : List ℕ) (ins : List Name) (equations : List Equation) (registers : List Register)
    → IsCheckedFsm f → AreCodes (length f.states) c → length (inner_names f) ≡ inner_count f → (equation_names (machine_of f c st (inner_names f)) ≡ inner_names f ++ fsm_outputs f)
    → ins ≡ names_of (filter (is_read f.clock) f.ports)
    → equations ≡ equations_from c (length ins) f.ports (numbered_body (port_numbers f) f.body)
    → registers ≡ map (register_of c (length ins + c.width + length c.codes) (numbered_body (port_numbers f) f.body) st) (up 0 c.width)
    → machine_with f ins equations registers ≡ machine_of f c st (inner_names f)
machine_is f c st ins equations registers checked are each names ins_are eqs regs =
    let same : numbered_body (port_numbers f) f.body ≡ placed_body f = body_same f checked f.body checked.reads in
    let i : ins ≡ fsm_inputs f = ins_are ∙ sym (reads_are f.clock f.ports) in
    let e : equations ≡ (machine_of f c st (inner_names f)).equations =
    eqs ∙ ap (λ (xs : List Name). equations_from c (length xs) f.ports (numbered_body (port_numbers f) f.body)) i
    ∙ ap (equations_from c (register_base f) f.ports) same ∙ equations_are f c st are each in
    let r : registers ≡ registers_of f c st =
    regs ∙ ap (λ (xs : List Name). map (register_of c (length xs + c.width + length c.codes) (numbered_body (port_numbers f) f.body) st) (up 0 c.width)) i
    ∙ ap (λ n. map (register_of c (register_base f + c.width + n) (numbered_body (port_numbers f) f.body) st) (up 0 c.width)) are.each
    ∙ ap (λ (b : Statements). map (register_of c (body_base f c) b st) (up 0 c.width)) same in
    rw (i, e, r)
    (ap (λ (vars : List Name). with_vars f c st vars)
    (ap (λ (xs : List Name). (fsm_inputs f ++ xs) ++ equation_names (machine_of f c st (inner_names f))) (register_names_are f c st (inner_names f))
    ∙ ap (λ (xs : List Name). (fsm_inputs f ++ code_names st c.width) ++ xs) names))
