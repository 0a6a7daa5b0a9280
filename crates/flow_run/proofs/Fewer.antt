-- A machine that was made smaller has few gates for the one that was given.
use Rattle.std.proofs.Common.{◌≡◌, ℕ, ◌+◌, ◌*◌, ◌≤◌, Bool, true, false, cond, List, [], ◌∷◌, map, length, inl, inr, refl, ◌∙◌, ap, subst, arith}
use Rattle.std.specs.Prelude.{sum_by, nat_lt, if◌then◌else◌}
use Rattle.std.specs.List.{AllZip, list_any}
use Rattle.std.proofs.lemmas.List.Sums.{sum_by-append, sum_by-cons}
use Rattle.vlsi_base.specs.declared.name.Name.{Name}
use Rattle.vlsi_base.specs.Member.{In, here, there}
use Rattle.bool_expr.specs.Expression.{Expression, constant, variable, inverse, pair, choice, size_of}
use Rattle.machine_core.specs.Named.{is_same_name}
use Rattle.machine_core.specs.Machine.{Machine, Equation, Register, outputs}
use Rattle.machine_core.specs.Size.{machine_size}
use Rattle.machine_core.specs.Alike.{IsAlike}
use Rattle.machine_core.proofs.Runs.{outputs_same, registers_same}
use Rattle.machine_walk.specs.Expansion.{with_variables, held_count}
use Rattle.boom_opt.specs.Optimised.{is_output, inner_size, behind_new, IsGivenOrSmaller, IsOptimised}
use Rattle.net_meaning.specs.Netlist.{AbstractNetlist}
use Rattle.cell_model.specs.Library.{Library}
use Rattle.net_meaning.specs.Order.{IsLean}
use Rattle.loon_fanout.specs.Nets.{HasFewInputs, FitsWithoutBuffers, HasNoBuffer}
use Rattle.loon_drive.specs.Driven.{most_sinks}
use Rattle.flow_run.specs.Lean.{IsLeanBy}
use Rattle.flow_run.proofs.Outputs.{is_no_output}

-- ---- sizes of expressions

same_size : (f : ℕ → Expression) → ((k : ℕ) → size_of (f k) ≡ 0) → (e : Expression) → size_of (with_variables f e) ≡ size_of e
same_size f none (constant b) = refl
same_size f none (variable k) = none k
same_size f none (inverse e) = let h = same_size f none e in omega (arith, h)
same_size f none (pair g a b) = let h = same_size f none a in let k = same_size f none b in omega (arith, h, k)
same_size f none (choice c a b) =
    let h = same_size f none c in let k = same_size f none a in let j = same_size f none b in omega (arith, h, k, j)

not_larger : (held count : ℕ) (e made : Expression) → IsGivenOrSmaller (behind_new held count e) made → size_of made ≤ size_of e
not_larger held count e made (inl is) =
    let same = ap size_of is ∙ same_size (λ k. variable (if nat_lt k held then k else k + count)) (λ k. refl) e in omega (arith, same)
not_larger held count e made (inr less) =
    let same : size_of (behind_new held count e) ≡ size_of e = same_size (λ k. variable (if nat_lt k held then k else k + count)) (λ k. refl) e in
    omega (arith, same, less)

-- ---- what outputs and registers weigh

abbrev shown_size : Machine → Equation → ℕ
shown_size m e = if is_output m e.name then size_of e.expr else 0

abbrev loaded_size : Register → ℕ
loaded_size r = size_of r.next + size_of r.enable

abbrev outer_size : Machine → ℕ
outer_size m = sum_by (shown_size m) m.equations + sum_by loaded_size m.registers + 2 * length (outputs m) + 5 * length m.registers

split : (b : Bool) (n : ℕ) → n ≡ cond b 0 n + cond b n 0
split true n = omega arith
split false n = omega arith

abbrev inner_part : Machine → Equation → ℕ
inner_part m e = if is_output m e.name then 0 else size_of e.expr

abbrev said_size : Equation → ℕ
said_size e = size_of e.expr

parted : (m : Machine) (es : List Equation) → sum_by said_size es ≡ sum_by (inner_part m) es + sum_by (shown_size m) es
parted m [] = refl
parted m (e ∷ es) =
    let rest = parted m es in
    let a = sum_by-cons said_size e es in
    let b = sum_by-cons (inner_part m) e es in
    let c = sum_by-cons (shown_size m) e es in
    let s : size_of e.expr ≡ inner_part m e + shown_size m e = split (is_output m e.name) (size_of e.expr) in
    omega (arith, rest, a, b, c, s)

two_parts : (m : Machine) → machine_size m ≡ inner_size m + outer_size m
two_parts m = let h = parted m m.equations in omega (arith, h)

-- ---- of the two machines

same_output : (m o : Machine) → IsAlike m o → (name : Name) → is_output o name ≡ is_output m name
same_output m o a name = ap (λ (names : List Name). list_any (λ n. is_same_name n name) names) (outputs_same m o a)

one_less : (b c : Bool) (x y : ℕ) → b ≡ c → x ≤ y → cond b x 0 ≤ cond c y 0
one_less true true x y same less = less
one_less false false x y same less = omega arith
one_less true false x y same less = absurd cc
one_less false true x y same less = absurd cc

shown_less : (m o : Machine) (a : IsAlike m o) (held count : ℕ) (es fs : List Equation)
    → AllZip (λ (e f : Equation). (f.name ≡ e.name) × IsGivenOrSmaller (behind_new held count e.expr) f.expr) es fs
    → sum_by (shown_size o) fs ≤ sum_by (shown_size m) es
shown_less m o a held count [] [] h = omega arith
shown_less m o a held count [] (f ∷ fs) h = absurd h
shown_less m o a held count (e ∷ es) [] h = absurd h
shown_less m o a held count (e ∷ es) (f ∷ fs) h =
    let rest = shown_less m o a held count es fs h.1 in
    let size = not_larger held count e.expr f.expr h.0.1 in
    let same : is_output o f.name ≡ is_output m e.name = same_output m o a f.name ∙ ap (is_output m) h.0.0 in
    let one : shown_size o f ≤ shown_size m e = one_less (is_output o f.name) (is_output m e.name) (size_of f.expr) (size_of e.expr) same size in
    let x = sum_by-cons (shown_size o) f fs in
    let y = sum_by-cons (shown_size m) e es in
    omega (arith, rest, one, x, y)

loaded_less : (held count : ℕ) (rs qs : List Register)
    → AllZip (λ (r q : Register). (q.name ≡ r.name) × IsGivenOrSmaller (behind_new held count r.next) q.next
    × IsGivenOrSmaller (behind_new held count r.enable) q.enable) rs qs → sum_by loaded_size qs ≤ sum_by loaded_size rs
loaded_less held count [] [] h = omega arith
loaded_less held count [] (q ∷ qs) h = absurd h
loaded_less held count (r ∷ rs) [] h = absurd h
loaded_less held count (r ∷ rs) (q ∷ qs) h =
    let rest = loaded_less held count rs qs h.1 in
    let next = not_larger held count r.next q.next h.0.1 in
    let enable = not_larger held count r.enable q.enable h.0.2 in
    let x = sum_by-cons loaded_size q qs in
    let y = sum_by-cons loaded_size r rs in
    omega (arith, rest, next, enable, x, y)

made_none : (o : Machine) (es : List Equation) → ((n : Name) → In n (map (λ (e : Equation). e.name) es) → is_output o n ≡ false) → sum_by (shown_size o) es ≡ 0
made_none o [] none = refl
made_none o (e ∷ es) none =
    let first : shown_size o e ≡ 0 = ap (λ (b : Bool). cond b (size_of e.expr) 0) (none e.name here) in
    let rest = made_none o es (λ n i. none n (there i)) in
    let x = sum_by-cons (shown_size o) e es in
    omega (arith, first, rest, x)

outer_less : (m o : Machine) → IsOptimised m o → outer_size o ≤ outer_size m
outer_less m o h =
    let a = h.alike in
    let k = h.kept in
    let shown = shown_less m o a (held_count m) k.count m.equations k.kept k.said in
    let none = made_none o k.made
    (λ n i. same_output m o a n ∙ is_no_output m k.text k.count k.fresh n (subst (λ (names : List Name). In n names) k.new i)) in
    let both = ap (sum_by (shown_size o)) k.equations ∙ sum_by-append (shown_size o) k.made k.kept in
    let loaded = loaded_less (held_count m) k.count m.registers o.registers k.loads in
    let outs = ap (λ (names : List Name). length names) (outputs_same m o a) in
    let held = registers_same m o a in
    omega (arith, shown, none, both, loaded, outs, held)

pub lean_by : (k : AbstractNetlist) (l : Library) (m o : Machine) (fanout : ℕ) → IsOptimised m o → IsLean k o → HasFewInputs k l m (most_sinks fanout)
    → (FitsWithoutBuffers k l (most_sinks fanout) → HasNoBuffer k) → IsLeanBy k l m fanout
lean_by k l m o fanout h lean inputs buffers =
    let gates = lean.gates in
    let of_m = two_parts m in
    let of_o = two_parts o in
    let outer = outer_less m o h in
    let size = h.small.size in
    let inner = h.small.inner in
    record {
      dags = h.small.dags;
      each = h.small.each;
      gates = omega (arith, gates, of_m, of_o, outer, size, inner);
      inputs = inputs;
      buffers = buffers;
    }
