-- Names and cells that are looked for in a list.
use Rattle.std.proofs.Common.{◌≡◌, ℕ, ◌+◌, ◌<◌, Bool, true, cond, not, filter, map, List, ◌∷◌, length, get_or, drop, Option, Some, sym, ap, ◌∙◌, arith}
use Rattle.vlsi_base.specs.declared.name.Name.{Name}
use Rattle.vlsi_base.specs.declared.name.Port.{Port}
use Rattle.bool_expr.specs.Expression.{Expression, variable}
use Rattle.bool_expr.specs.View.{view}
use Rattle.machine_core.specs.Machine.{Machine, Register, Equation, is_input, names_of, inputs}
use Rattle.machine_core.specs.declared.equation.Equation.{Equation as EquationParts}
use Rattle.machine_core.specs.declared.equation.Register.{Register as RegisterParts}
use Rattle.machine_core.specs.View.{equation_view, register_view}
use Rattle.vlsi_model.proofs.Building.{map-then}
use Rattle.net_machine.specs.declared.body.Body.{Body as BodyParts}
use Rattle.machine_core.specs.Named.{is_same_name, is_same_text}
use Rattle.machine_core.proofs.Names.{same_name-itself, same_name-false}
use Rattle.source_checks.specs.Formula.{place}
use Rattle.cell_model.specs.Cell.{Cell}
use Rattle.cell_model.specs.Library.{cell_named}
use Rattle.cell_model.proofs.Texts.{text_itself}
use Rattle.net_machine.specs.Body.{Load, Shown, Body, load_view, shown_view, inner_view, body_view, machine_body}
use Rattle.net_machine.proofs.Turns.{drop_next}

-- ---- the place of a name

place_here : (m n : Name) (rest : List Name) → m ≡ n → place (m ∷ rest) n ≡ 0
place_here m n rest same = let t : is_same_name m n ≡ true = ap (is_same_name m) (sym same) ∙ same_name-itself m in ap (λ (b : Bool). cond b 0 (place rest n + 1)) t

place_past : (m n : Name) (rest : List Name) → (m ≡ n → ⊥) → place (m ∷ rest) n ≡ place rest n + 1
place_past m n rest apart = ap (λ (b : Bool). cond b 0 (place rest n + 1)) (same_name-false m n apart)

pub place_found : (names : List Name) (name x : Name) (k t : ℕ) → k < length names → x ≡ get_or names k x → x ≡ name → k + place (drop k names) name ≡ t → k ≡ t
place_found names name x k t low is same h =
    let e : place (drop k names) name ≡ 0 = ap (λ (ns : List Name). place ns name) (drop_next names k x low is) ∙ place_here x name (drop (k + 1) names) same in
    omega (arith, e, h)

pub place_next : (names : List Name) (name x : Name) (k t : ℕ) → k < length names → x ≡ get_or names k x → (x ≡ name → ⊥) → k + place (drop k names) name ≡ t
    → (k + 1) + place (drop (k + 1) names) name ≡ t
place_next names name x k t low is apart h =
    let e : place (drop k names) name ≡ place (drop (k + 1) names) name + 1 = ap (λ (ns : List Name). place ns name) (drop_next names k x low is) ∙ place_past x name (drop (k + 1) names) apart in
    omega (arith, e, h)

-- ---- the first cell of a name

pub cell_found : (cells : List Cell) (model : List ℕ) (c : Cell) (k : ℕ) (t : Option Cell) → k < length cells → c ≡ get_or cells k c → c.name ≡ model → cell_named (drop k cells) model ≡ t → Some c ≡ t
cell_found cells model c k t low is same h =
    let r : is_same_text c.name model ≡ true = ap (is_same_text c.name) (sym same) ∙ text_itself c.name in
    sym (ap (λ (b : Bool). cond b (Some c) (cell_named (drop (k + 1) cells) model)) r) ∙ ap (λ (cs : List Cell). cell_named cs model) (sym (drop_next cells k c low is)) ∙ h

-- ---- a body from its parts

body_from : List Name → List Load → List Expression → List Shown → Body
body_from reads loads inner shows = record { reads = reads; loads = loads; inner = inner; shows = shows }

pub same_body : (a b : Body) → a.reads ≡ b.reads → a.loads ≡ b.loads → a.inner ≡ b.inner → a.shows ≡ b.shows → a ≡ b
unfolding body_from
same_body a b reads loads inner shows =
    ap (λ (rs : List Name). body_from rs a.loads a.inner a.shows) reads
    ∙ ap (λ (ls : List Load). body_from b.reads ls a.inner a.shows) loads
    ∙ ap (λ (es : List Expression). body_from b.reads b.loads es a.shows) inner
    ∙ ap (λ (ss : List Shown). body_from b.reads b.loads b.inner ss) shows

shown_of : List Name → Name → Shown
shown_of vars o = record { pin = o; expr = variable (place vars o) }

load_of : Register → Load
load_of r = record { next = r.next; enable = r.enable }

pub machine_body_is : (b : BodyParts) (m : Machine) (registers : List RegisterParts) (equations : List EquationParts) (vars : List Name) (ports : List Port) → b.reads.items ≡ inputs m
    → map load_view b.loads.items ≡ map (λ r. record { next = view r.next; enable = view r.enable }) registers → map register_view registers ≡ m.registers
    → inner_view b.inner.items ≡ map (λ e. view e.expr) equations → map equation_view equations ≡ m.equations
    → map shown_view b.shows.items ≡ map (λ o. record { pin = o; expr = variable (place vars o) }) (names_of (filter (λ p. not (is_input p.dir)) ports)) → vars ≡ m.vars → ports ≡ m.ports
    → body_view b ≡ machine_body m
unfolding load_of shown_of
machine_body_is b m registers equations vars ports reads loads registers_are inner equations_are shows vars_are ports_are =
    same_body (body_view b) (machine_body m) reads
    (loads ∙ sym (map-then load_of register_view registers) ∙ ap (λ (rs : List Register). map load_of rs) registers_are)
    (inner ∙ sym (map-then (λ (e : Equation). e.expr) equation_view equations) ∙ ap (λ (es : List Equation). map (λ (e : Equation). e.expr) es) equations_are)
    (shows
    ∙ ap (λ (vs : List Name). map (shown_of vs) (names_of (filter (λ p. not (is_input p.dir)) ports))) vars_are
    ∙ ap (λ (ps : List Port). map (shown_of m.vars) (names_of (filter (λ p. not (is_input p.dir)) ps))) ports_are)
