-- The machine that is made anew is optimised.
use Rattle.std.proofs.Common.{◌≡◌, ℕ, zero, suc, ◌+◌, ◌*◌, ◌<◌, ◌≤◌, Bool, true, false, List, [], ◌∷◌, ◌++◌, length, map, take, drop, Option, None, Some, slice_get, refl, sym, ap, subst, ◌∙◌, arith, length-append, if◌then◌else◌}
use Rattle.std.specs.Prelude.{nat_lt, sum}
use Rattle.std.specs.List.{All, AllZip, slice_index_or, sum_by}
use Rattle.std.proofs.lemmas.List.{length-map}
use Rattle.std.proofs.lemmas.Option.{slice_get_within, get_or_from_slice_get}
use Rattle.vlsi_base.specs.declared.name.Name.{Name}
use Rattle.vlsi_base.specs.Member.{In, here, there}
use Rattle.bool_expr.specs.Expression.{Expression, constant, variable, inverse, pair, choice, val, size_of, IsOver}
use Rattle.bool_expr.specs.Renumbering.{renumbered}
use Rattle.machine_core.specs.Machine.{Machine, Equation, Register, inputs, outputs, register_names}
use Rattle.machine_core.specs.Named.{value_at, values_at}
use Rattle.machine_core.specs.Cycles.{Settles, outs, next}
use Rattle.machine_core.specs.Size.{machine_size}
use Rattle.machine_core.specs.Order.{EachReadsBelow, IsOrdered}
use Rattle.machine_core.specs.Checked.{IsChecked}
use Rattle.machine_core.specs.Built.{built}
use Rattle.machine_core.proofs.Known.{known}
use Rattle.machine_core.proofs.Solve.{settles_once_known}
use Rattle.machine_core.proofs.Built.{built_settles}
use Rattle.machine_core.proofs.Values.{In-right}
use Rattle.machine_core.specs.Alike.{IsAlike}
use Rattle.machine_walk.specs.Expansion.{held_count}
use Rattle.machine_roots.specs.Roots.{Root, roots, register_roots, expression_of, IsDag}
use Rattle.boom_literal.specs.declared.literal.Literal.{Literal}
use Rattle.boom_literal.specs.declared.literal.Literal.TheVariants.{Constant, Name as AName}
use Rattle.boom_muxes.specs.declared.mux.Mux.{Mux}
use Rattle.boom_muxes.specs.declared.muxes.Muxes.{Muxes}
use Rattle.boom_muxes.specs.declared.plan.Plan.{Plan}
use Rattle.boom_literal.specs.Literals.{literal_expression, said}
use Rattle.boom_muxes.specs.Muxes.{mux_expression, mux_weight, muxes_weight, IsTable}
use Rattle.boom_check.specs.Kept.{IsKept, IsGivenOrSmaller, behind_new, inner_size}
use Rattle.boom_opt.specs.Optimised.{IsOptimised}
use Rattle.boom_muxes.specs.Names.{new_names}
use Rattle.boom_muxes.specs.Building.{numbers_behind, literal_for, or_zero, load_for, equations_said, registers_said, mux_equations, MayBeBuilt, IsBuilt}
use Rattle.boom_opt.specs.Rebuilt.{expressions_size, IsShown, SaysRoot, IsPlanOf}
use Rattle.boom_muxes.proofs.Weighing.{chosen_size, mux_built}
use Rattle.boom_check.proofs.Sums.{sum_by-cons, sum_by-append}
use Rattle.boom_opt.proofs.Bounds.{inner_when_kept}
use Rattle.boom_check.proofs.Behind.{renumbered_behind}
use Rattle.boom_opt.proofs.Keeping.{equations_kept, registers_kept}
use Rattle.boom_muxes.proofs.Numbered.{over_more}
use Rattle.boom_muxes.proofs.Anew.{length-new_names}
use Rattle.boom_muxes.proofs.Sound.{names_new, built_ordered, total, same_registers, same_inputs, same_outputs}
use Rattle.boom_opt.proofs.Beside.{beside, other, shows_same, loads_same}

-- ---- what is kept

loads_at : (m : Machine) → IsChecked m → (j : ℕ) (r : Register) → slice_get m.registers j ≡ Some r → IsOver r.next (length m.vars) × IsOver r.enable (length m.vars)
loads_at m checked j r at =
    subst (λ (q : Register). IsOver q.next (length m.vars) × IsOver q.enable (length m.vars)) (get_or_from_slice_get m.registers j r r at)
    (checked.loads j r (slice_get_within m.registers j r at))

pub kept_built : (m : Machine) (muxes : List Mux) (plan : Option Plan) → MayBeBuilt m muxes plan → (o : Machine) → IsBuilt m muxes plan o → length muxes ≤ machine_size m → IsKept m o
kept_built m muxes plan may o b few = record {
  text = b.text;
  made = mux_equations b.text 0 muxes;
  kept = equations_said (numbers_behind (held_count m) (length muxes) (length m.vars)) plan 0 m.equations;
  count = length muxes;
  few = few;
  fresh = b.fresh.fresh;
  vars = b.vars;
  equations = b.equations;
  new = names_new b.text 0 muxes;
  said = equations_kept (held_count m) (length muxes) (length m.vars) (held_count m) 0 plan m.equations may.checked.ordered.below (let t = total m muxes plan may o b in omega (arith, t));
  loads = subst (λ (rs : List Register). AllZip (λ (r q : Register). (q.name ≡ r.name) × IsGivenOrSmaller (behind_new (held_count m) (length muxes) r.next) q.next
      × IsGivenOrSmaller (behind_new (held_count m) (length muxes) r.enable) q.enable) m.registers rs) (sym b.registers)
      (registers_kept (held_count m) (length muxes) (length m.vars) 0 plan m.registers (loads_at m may.checked));
}

-- ---- the given machine again

if_same : (b : Bool) (k : ℕ) → (if b then k else k + 0) ≡ k
if_same true k = refl
if_same false k = omega arith

behind_none : (held : ℕ) (e : Expression) → behind_new held 0 e ≡ e
behind_none held (constant b) = refl
behind_none held (variable k) = ap variable (if_same (nat_lt k held) k)
behind_none held (inverse e) = ap inverse (behind_none held e)
behind_none held (pair g a b) = λ j. pair g (behind_none held a j) (behind_none held b j)
behind_none held (choice c a b) = λ j. choice (behind_none held c j) (behind_none held a j) (behind_none held b j)

again : (held total : ℕ) (e : Expression) → IsOver e total → renumbered (numbers_behind held 0 total) e ≡ e
again held total e over = renumbered_behind held 0 total e over ∙ behind_none held e

equations_again : (held total n k : ℕ) (es : List Equation) → EachReadsBelow n es → n + length es ≤ total → equations_said (numbers_behind held 0 total) None k es ≡ es
equations_again held total n k [] reads room = refl
equations_again held total n k (e ∷ es) reads room =
    let here = again held total e.expr (over_more e.expr n total (omega (arith, room)) reads.0) in
    let rest = equations_again held total (n + 1) (suc k) es reads.1 (omega (arith, room)) in
    λ j. record { name = e.name; expr = here j } ∷ rest j

registers_again : (held total k : ℕ) (rs : List Register) → ((j : ℕ) (r : Register) → slice_get rs j ≡ Some r → IsOver r.next total × IsOver r.enable total)
    → registers_said (numbers_behind held 0 total) None k rs ≡ rs
registers_again held total k [] over = refl
registers_again held total k (r ∷ rs) over =
    let one = again held total r.next (over zero r refl).0 in
    let two = again held total r.enable (over zero r refl).1 in
    let rest = registers_again held total (suc k) rs (λ j q h. over (suc j) q h) in
    λ j. record { name = r.name; next = one j; enable = two j } ∷ rest j

pub same_machine : (m : Machine) → MayBeBuilt m [] None → (o : Machine) → IsBuilt m [] None o → o ≡ m
same_machine m may o b =
    let vars : o.vars ≡ m.vars = b.vars ∙ sym may.checked.ordered.vars in
    let equations : o.equations ≡ m.equations =
    b.equations ∙ equations_again (held_count m) (length m.vars) (held_count m) 0 m.equations may.checked.ordered.below (let t = total m [] None may o b in omega (arith, t)) in
    let registers : o.registers ≡ m.registers = b.registers ∙ registers_again (held_count m) (length m.vars) 0 m.registers (loads_at m may.checked) in
    λ j. record { name = b.name j; ports = b.ports j; clock = b.clock j; vars = vars j; equations = equations j; registers = registers j }

settles_same : (m : Machine) (s i w v : List Bool) → IsOrdered m → length s ≡ length m.registers → length i ≡ length (inputs m) → Settles m s i w → Settles m s i v → w ≡ v
settles_same m s i w v ordered ls li a b =
    let once = settles_once_known m s i (known m ordered) ls li in
    once.2 w a ∙ sym (once.2 v b)

-- what settles gives a bit to each register and input
contents : (m : Machine) (s i w : List Bool) → Settles m s i w → length s ≡ length m.registers
contents m s i w h =
    sym (ap length h.registers) ∙ length-map (register_names m) (value_at m.vars w) ∙ length-map m.registers (λ (r : Register). r.name)

vector : (m : Machine) (s i w : List Bool) → Settles m s i w → length i ≡ length (inputs m)
vector m s i w h = sym (ap length h.inputs) ∙ length-map (inputs m) (value_at m.vars w)

pub alike_itself : (m : Machine) → IsOrdered m → IsAlike m m
alike_itself m ordered = record {
  name = refl;
  ports = refl;
  clock = refl;
  registers = refl;
  shows = λ s i w v a b. ap (outs m) (settles_same m s i v w ordered (contents m s i w a) (vector m s i w a) b a);
  loads = λ s i w v a b. ap (next m) (settles_same m s i v w ordered (contents m s i w a) (vector m s i w a) b a);
}

-- the given machine, where it is kept
pub optimised_same : (m : Machine) (dags : List ℕ) → MayBeBuilt m [] None → (o : Machine) → IsBuilt m [] None o → AllZip (IsDag m) (roots m) dags
    → inner_size m ≤ 4 * sum dags → IsOptimised m o
optimised_same m dags may o b each inner =
    let same = same_machine m may o b in
    record {
      alike = subst (λ (x : Machine). IsAlike m x) (sym same) (alike_itself m may.checked.ordered);
      kept = kept_built m [] None may o b (omega arith);
      small = record {
        size = let e = ap machine_size same in omega (arith, e);
        dags = dags;
        each = each;
        inner = let e = ap inner_size same in omega (arith, e, inner);
      };
    }

-- ---- what the second machine weighs

size_renumbered : (numbers : List ℕ) (e : Expression) → size_of (renumbered numbers e) ≡ size_of e
size_renumbered numbers (constant b) = refl
size_renumbered numbers (variable k) = refl
size_renumbered numbers (inverse e) = let a = size_renumbered numbers e in omega (arith, a)
size_renumbered numbers (pair g a b) = let x = size_renumbered numbers a in let y = size_renumbered numbers b in omega (arith, x, y)
size_renumbered numbers (choice c a b) =
    let x = size_renumbered numbers c in
    let y = size_renumbered numbers a in
    let z = size_renumbered numbers b in
    omega (arith, x, y, z)

literal_none : (l : Literal) → size_of (literal_expression l) ≡ 0
literal_none (Constant b) = refl
literal_none (AName k) = refl

said_none : (numbers : List ℕ) (l : Literal) (e : Expression) → size_of (said numbers (Some l) e) ≡ 0
said_none numbers l e = by (nat_lt 0 (size_of e)) refl where
  by : (b : Bool) → nat_lt 0 (size_of e) ≡ b → size_of (if b then literal_expression l else renumbered numbers e) ≡ 0
  by true t = literal_none l
  by false t =
      let none : size_of e ≤ 0 = search (arith, t) in
      let same = size_renumbered numbers e in
      omega (arith, none, same)

literal_said_none : (numbers : List ℕ) (o : Option Literal) (e : Expression) → size_of (said numbers (or_zero o) e) ≡ 0
literal_said_none numbers None e = said_none numbers (Constant false) e
literal_said_none numbers (Some l) e = said_none numbers l e

equations_none : (numbers : List ℕ) (p : Plan) (k : ℕ) (es : List Equation) → sum_by (λ (e : Equation). size_of e.expr) (equations_said numbers (Some p) k es) ≡ 0
equations_none numbers p k [] = refl
equations_none numbers p k (e ∷ es) =
    let a = sum_by-cons (λ (x : Equation). size_of x.expr) (record { name = e.name; expr = said numbers (literal_for (Some p) k) e.expr }) (equations_said numbers (Some p) (suc k) es) in
    let b = literal_said_none numbers (slice_index_or p.equations.items k None) e.expr in
    let c = equations_none numbers p (suc k) es in
    omega (arith, a, b, c)

registers_none : (numbers : List ℕ) (p : Plan) (k : ℕ) (rs : List Register) → sum_by (λ (r : Register). size_of r.next + size_of r.enable) (registers_said numbers (Some p) k rs) ≡ 0
registers_none numbers p k [] = refl
registers_none numbers p k (r ∷ rs) =
    let a = sum_by-cons (λ (x : Register). size_of x.next + size_of x.enable) (record { name = r.name; next = said numbers (load_for (Some p) (2 * k)) r.next; enable = said numbers (load_for (Some p) (2 * k + 1)) r.enable })
    (registers_said numbers (Some p) (suc k) rs) in
    let b = said_none numbers (slice_index_or p.loads.items (2 * k) (Constant false)) r.next in
    let c = said_none numbers (slice_index_or p.loads.items (2 * k + 1) (Constant false)) r.enable in
    let d = registers_none numbers p (suc k) rs in
    omega (arith, a, b, c, d)

muxes_size : (text : List ℕ) (k : ℕ) (xs : List Mux) → sum_by (λ (e : Equation). size_of e.expr) (mux_equations text k xs) ≡ muxes_weight xs
muxes_size text k [] = refl
muxes_size text k (x ∷ xs) =
    let a = sum_by-cons (λ (e : Equation). size_of e.expr) (record { name = record { text = text; bit = Some k }; expr = mux_expression x }) (mux_equations text (suc k) xs) in
    let b = sum_by-cons mux_weight x xs in
    let c = chosen_size x.select x.low x.high in
    let d = muxes_size text (suc k) xs in
    omega (arith, a, b, c, d)

pub built_size : (m : Machine) (muxes : List Mux) (p : Plan) (o : Machine) → IsBuilt m muxes (Some p) o → expressions_size o ≡ muxes_weight muxes
built_size m muxes p o b =
    let numbers : List ℕ = numbers_behind (held_count m) (length muxes) (length m.vars) in
    let f : Equation → ℕ = λ e. size_of e.expr in
    let a = ap (sum_by (λ (e : Equation). size_of e.expr)) b.equations in
    let x = sum_by-append (λ (e : Equation). size_of e.expr) (mux_equations b.text 0 muxes) (equations_said (numbers_behind (held_count m) (length muxes) (length m.vars)) (Some p) 0 m.equations) in
    let y = muxes_size b.text 0 muxes in
    let z = equations_none (numbers_behind (held_count m) (length muxes) (length m.vars)) p 0 m.equations in
    let r = ap (sum_by (λ (r : Register). size_of r.next + size_of r.enable)) b.registers in
    let n = registers_none (numbers_behind (held_count m) (length muxes) (length m.vars)) p 0 m.registers in
    omega (arith, a, x, y, z, r, n)

-- ---- it does the same

built_append : (w : List Bool) (xs ys : List Equation) → built w (xs ++ ys) ≡ built (built w xs) ys
built_append w [] ys = refl
built_append w (x ∷ xs) ys = built_append (w ++ val x.expr w ∷ []) xs ys

take_all : (names : List Name) (f : Name → Root) (rest : List Root) → take (length names) (map f names ++ rest) ≡ map f names
take_all [] f rest = refl
take_all (n ∷ names) f rest = ap (λ (l : List Root). f n ∷ l) (take_all names f rest)

pub drop_all : (names : List Name) (f : Name → Root) (rest : List Root) → drop (length names) (map f names ++ rest) ≡ rest
drop_all [] f rest = refl
drop_all (n ∷ names) f rest = drop_all names f rest

register_in : (r : Register) (rs : List Register) → In r rs → In r.name (map (λ (q : Register). q.name) rs)
register_in r (q ∷ rs) here = here
register_in r (q ∷ rs) (there h) = there (register_in r rs h)
register_in r [] h = elim h [ ]

each_register : (P : Register → Type 0) (rs : List Register) → All P rs → (r : Register) → In r rs → P r
each_register P (q ∷ rs) all r here = all 0 q (omega arith)
each_register P (q ∷ rs) all r (there h) = each_register P rs (λ k d x. all (suc k) d (omega arith)) r h
each_register P [] all r h = elim h [ ]

module _ (m : Machine) (t : Muxes) (p : Plan) (may : MayBeBuilt m t.nodes.keys (Some p)) (o : Machine) (b : IsBuilt m t.nodes.keys (Some p) o)
    (held : t.held ≡ held_count m) (planned : IsPlanOf m (roots m) t p) where
  ordered : IsOrdered m
  ordered = may.checked.ordered

  all_names : length m.vars ≡ held_count m + length m.equations
  all_names = total m t.nodes.keys (Some p) may o b

  built_is : (w : List Bool) (size : length w ≡ held_count m) → built w o.equations ≡ other m t p planned.plan held ordered all_names w size
  built_is w size =
      ap (built w) b.equations
      ∙ built_append w (mux_equations b.text 0 t.nodes.keys) (equations_said (numbers_behind (held_count m) (length t.nodes.keys) (length m.vars)) (Some p) 0 m.equations)
      ∙ ap (λ (v : List Bool). built v (equations_said (numbers_behind (held_count m) (length t.nodes.keys) (length m.vars)) (Some p) 0 m.equations)) (mux_built b.text 0 t.nodes.keys w)

  register_count : length o.registers ≡ length m.registers
  register_count =
      sym (length-map o.registers (λ (r : Register). r.name)) ∙ ap length (same_registers m t.nodes.keys (Some p) may o b) ∙ length-map m.registers (λ (r : Register). r.name)

  -- both valuations are built from the same inputs and contents
  module _ (s i w v : List Bool) (a : Settles m s i w) (c : Settles o s i v) where
    ls : length s ≡ length m.registers
    ls = contents m s i w a

    li : length i ≡ length (inputs m)
    li = vector m s i w a

    size : length (i ++ s) ≡ held_count m
    size =
        let x = length-append i s in
        let y = length-append (inputs m) (register_names m) in
        let z = length-map m.registers (λ (r : Register). r.name) in
        let q = ls in
        let r = li in
        omega (arith, x, y, z, q, r)

    w_is : w ≡ built (i ++ s) m.equations
    w_is = settles_same m s i w (built (i ++ s) m.equations) ordered ls li a (built_settles m s i ordered ls li)

    v_is : v ≡ other m t p planned.plan held ordered all_names (i ++ s) size
    v_is =
        let sound = built_ordered m t.nodes.keys (Some p) may o b in
        let lo : length s ≡ length o.registers = ls ∙ sym register_count in
        let io : length i ≡ length (inputs o) = li ∙ sym (ap length (same_inputs m t.nodes.keys (Some p) may o b)) in
        settles_same o s i v (built (i ++ s) o.equations) sound lo io c (built_settles o s i sound lo io) ∙ built_is (i ++ s) size

    shows : outs o v ≡ outs m w
    shows =
        ap (outs o) v_is
        ∙ ap (values_at o.vars (other m t p planned.plan held ordered all_names (i ++ s) size)) (same_outputs m t.nodes.keys (Some p) may o b)
        ∙ shows_same m t p planned.plan held ordered all_names (i ++ s) size (beside m t p planned.plan held ordered all_names (i ++ s) size) o.vars (new_names b.text (length t.nodes.keys))
        (length-new_names b.text (length t.nodes.keys)) b.vars (built_ordered m t.nodes.keys (Some p) may o b).different (outputs m) (expression_of m.equations)
        (subst (λ (rs : List Root). All (IsShown m p) rs) (take_all (outputs m) (λ name. record { name = name; expr = expression_of m.equations name }) (register_roots m.registers)) planned.shown)
        ∙ ap (outs m) (sym w_is)

    loads : next o v ≡ next m w
    loads =
        ap (next o) v_is
        ∙ ap (map (λ (r : Register). if val r.enable (other m t p planned.plan held ordered all_names (i ++ s) size) then val r.next (other m t p planned.plan held ordered all_names (i ++ s) size)
        else value_at o.vars (other m t p planned.plan held ordered all_names (i ++ s) size) r.name)) b.registers
        ∙ loads_same m t p planned.plan held ordered all_names (i ++ s) size (beside m t p planned.plan held ordered all_names (i ++ s) size) o.vars (new_names b.text (length t.nodes.keys))
        (length-new_names b.text (length t.nodes.keys)) b.vars (built_ordered m t.nodes.keys (Some p) may o b).different 0 m.registers p.loads.items
        (subst (λ (rs : List Root). AllZip (SaysRoot m t p) rs p.loads.items) (drop_all (outputs m) (λ name. record { name = name; expr = expression_of m.equations name }) (register_roots m.registers)) planned.loads)
        (λ j. ap (λ (n : ℕ). slice_index_or p.loads.items n (Constant false)) (let q : 2 * 0 + j ≡ j = omega arith in q))
        (λ r h. (In-right r.name (inputs m) (register_names m) (register_in r m.registers h), each_register (λ (q : Register). IsOver q.next (length m.vars) × IsOver q.enable (length m.vars)) m.registers may.checked.loads r h))
        ∙ ap (next m) (sym w_is)

  pub alike_built : IsAlike m o
  alike_built = record {
    name = b.name;
    ports = b.ports;
    clock = b.clock;
    registers = same_registers m t.nodes.keys (Some p) may o b;
    shows = shows;
    loads = loads;
  }

  -- it is smaller, and meets both bounds
  pub optimised_built : (dags : List ℕ) → AllZip (IsDag m) (roots m) dags → IsTable t → t.weight ≤ 4 * sum dags → t.weight < expressions_size m → IsOptimised m o
  optimised_built dags each table most less =
      let weighs = built_size m t.nodes.keys p o b in
      let is = table.weight in
      let outs_same = ap length (same_outputs m t.nodes.keys (Some p) may o b) in
      let count = register_count in
      let inner = inner_when_kept o (4 * sum dags) (omega (arith, weighs, is, most)) in
      record {
        alike = alike_built;
        kept = kept_built m t.nodes.keys (Some p) may o b (let each = table.each in omega (arith, each, less));
        small = record {
          size = omega (arith, weighs, is, less, outs_same, count);
          dags = dags;
          each = each;
          inner = inner;
        };
      }
