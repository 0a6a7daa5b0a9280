-- A table with its roots, and the further inverters of outputs, are a subject graph.
use Rattle.std.proofs.Common.{◌≡◌, ℕ, suc, ◌+◌, ◌-◌, ◌*◌, ◌^◌, ◌<◌, ◌≤◌, Bool, false, true, List, [], ◌∷◌, ◌++◌, map, length, refl, sym, ◌∙◌, ap, subst, arith, length-append}
use Rattle.std.specs.List.{IsDistinct}
use Rattle.bool_expr.specs.Expression.{bit}
use Rattle.machine_core.specs.Machine.{Machine, inputs, register_names}
use Rattle.machine_core.specs.Named.{value_at}
use Rattle.machine_core.specs.Cycles.{Settles, outs, next}
use Rattle.net_theory.proofs.Basics.{length-map, number_in}
use Rattle.graph_theory.specs.Graph.{Node, Graph, grown, node_bit, is_logic, is_fixed, held_count, EachReadsEarlier, IsApart, IsSmall}
use Rattle.graph_theory.proofs.Values.{grown_keeps}
use Rattle.graph_theory.proofs.Ordered.{count_by-append}
use Rattle.subject_table.specs.declared.table.Node.{Node as Kind}
use Rattle.subject_table.specs.declared.table.Table.{Table}
use Rattle.subject_table.specs.View.{node_view, kinds, end_of}
use Rattle.subject_table.specs.Grows.{AreBelow}
use Rattle.subject_table.proofs.Tables.{node_eq}
use Rattle.subject_table.proofs.Operators.{same_numbers}
use Rattle.subject_table.specs.Shared.{AreShared}
use Rattle.subject_graph.specs.Subject.{IsNumberable, IsSubjectGraph, HasRoots, roots_apart, inverters_apart}
use Rattle.subject_graph.specs.Stages.{IsRooted, ShowsBehind}
use Rattle.subject_graph.proofs.Apart.{length_roots, shown_values, further_reads, roots_are, roots_below, roots_differ, number_apart, further_logic, further_fixed}
use Rattle.subject_table.proofs.Shared.{are_shared, constant_once, all_kinds}

grown-append : (w : List Bool) (xs ys : List Node) → grown w (xs ++ ys) ≡ grown (grown w xs) ys
grown-append w [] ys = refl
grown-append w (x ∷ xs) ys = grown-append (w ++ node_bit x w ∷ []) xs ys

length-grown : (w : List Bool) (xs : List Node) → length (grown w xs) ≡ length w + length xs
length-grown w [] = omega arith
length-grown w (x ∷ xs) = let h = length-grown (w ++ node_bit x w ∷ []) xs in let one = length-append w (node_bit x w ∷ []) in omega (arith, h, one)

reads-append : (n : ℕ) (xs ys : List Node) → EachReadsEarlier n xs → EachReadsEarlier (n + length xs) ys → EachReadsEarlier n (xs ++ ys)
reads-append n [] ys first last = let e : n + 0 ≡ n = omega arith in let P : ℕ → Type 0 = λ c. EachReadsEarlier c ys in subst P e last
reads-append n (x ∷ xs) ys first last =
    let e : n + suc (length xs) ≡ n + 1 + length xs = omega arith in
    let P : ℕ → Type 0 = λ c. EachReadsEarlier c ys in
    (first.0, reads-append (n + 1) xs ys first.1 (subst P e last))

-- a bit for each input and each register, where the machine settles
settled_size : (m : Machine) (i s w : List Bool) → Settles m s i w → length (i ++ s) ≡ held_count m
settled_size m i s w settled =
    let a : length i ≡ length (inputs m) = ap length (sym settled.inputs) ∙ length-map (value_at m.vars w) (inputs m) in
    let b : length s ≡ length m.registers = ap length (sym settled.registers) ∙ length-map (value_at m.vars w) (register_names m) ∙ length-map (λ r. r.name) m.registers in
    let all = length-append i s in
    omega (arith, a, b, all)

-- there is room for the numbers of all nodes
pub room : (m : Machine) (t : Table) (plain loads : List ℕ) → IsNumberable m → IsRooted m t plain loads → IsDistinct node_eq t.nodes.keys
    → t.held + length (kinds t) + 2 * length plain < 2 ^ 32
room m t plain loads small r distinct =
    let once = are_shared t.nodes.keys distinct r.sorted in
    let all = all_kinds (kinds t) in
    let zero_once = constant_once false (kinds t) once in
    let one_once = constant_once true (kinds t) once in
    let held = r.held in
    let cost = r.cost in
    omega (arith, small, all, zero_once, one_once, held, cost)

module _ (m : Machine) (t : Table) (plain loads : List ℕ) (r : IsRooted m t plain loads) (distinct : IsDistinct node_eq t.nodes.keys) where
  abbrev first : ℕ
  first = length (inputs m)

  abbrev behind : ℕ
  behind = held_count m + length (kinds t)

  abbrev further : List Node
  further = inverters_apart first behind [] plain

  abbrev graph : Graph
  graph = record { nodes = kinds t ++ further; outputs = roots_apart first behind [] plain; loads = loads }

  end_is : end_of t ≡ behind
  end_is = let held = r.held in omega (arith, held)

  below : AreBelow behind plain
  below = subst (λ (n : ℕ). AreBelow n plain) end_is r.known_outputs

  below_loads : AreBelow behind loads
  below_loads = subst (λ (n : ℕ). AreBelow n loads) end_is r.known_loads

  low : first ≤ behind
  low = omega arith

  earlier : EachReadsEarlier (held_count m) (kinds t ++ further)
  earlier = reads-append (held_count m) (kinds t) further r.graph.earlier (further_reads first behind [] plain below)

  module _ (i s w : List Bool) (settled : Settles m s i w) where
    abbrev old : List Bool
    old = grown (i ++ s) (kinds t)

    long : length old ≡ behind
    long = let h = length-grown (i ++ s) (kinds t) in let n = settled_size m i s w settled in omega (arith, h, n)

    parts : grown (i ++ s) (kinds t ++ further) ≡ grown old further
    parts = grown-append (i ++ s) (kinds t) further

    shown : map (bit (grown (i ++ s) (kinds t ++ further))) (roots_apart first behind [] plain) ≡ outs m w
    shown =
        ap (λ (x : List Bool). map (bit x) (roots_apart first behind [] plain)) parts ∙ shown_values first behind [] plain old long below ∙ r.graph.shown i s w settled

    loaded : map (bit (grown (i ++ s) (kinds t ++ further))) loads ≡ next m w
    loaded =
        ap (λ (x : List Bool). map (bit x) loads) parts
        ∙ same_numbers (bit (grown old further)) (bit old) loads (λ a h. grown_keeps old further a (let up = below_loads a h in omega (arith, up, long)))
        ∙ r.graph.loaded i s w settled

  apart : IsApart m graph
  apart = record {
    count = length_roots first behind [] plain ∙ r.count;
    no_input = λ k a is. (roots_are first behind [] plain low a (number_in (roots_apart first behind [] plain) k a is)).0;
    once = λ j k a p q. number_apart (roots_apart first behind [] plain) (roots_differ first behind [] plain low below) j k a p q;
  }

  once : AreShared (kinds t)
  once = are_shared t.nodes.keys distinct r.sorted

  small : IsSmall m graph
  small = record {
    logic =
        let all = count_by-append is_logic (kinds t) further in
        let last = further_logic first behind [] plain in
        let cost = r.cost in
        omega (arith, all, last, cost);
    zero =
        let all = count_by-append (is_fixed false) (kinds t) further in
        let last = further_fixed false first behind [] plain in
        let one = constant_once false (kinds t) once in
        omega (arith, all, last, one);
    one =
        let all = count_by-append (is_fixed true) (kinds t) further in
        let last = further_fixed true first behind [] plain in
        let one = constant_once true (kinds t) once in
        omega (arith, all, last, one);
  }

  roots : HasRoots m graph
  roots = record {
    shown = λ a h. let low = roots_below first behind [] plain below a h in let all = length-append (kinds t) further in omega (arith, low, all);
    loaded = λ a h. let low = below_loads a h in let all = length-append (kinds t) further in omega (arith, low, all);
    each = r.each;
  }

  is_subject_graph : IsSubjectGraph m graph
  is_subject_graph = record {
    graph = record { earlier = earlier; shown = shown; loaded = loaded };
    apart = apart;
    small = small;
    shared = record { plain = plain; shared = kinds t; once = once; drawn = r.drawn; nodes = refl; roots = refl };
    roots = roots;
  }

pub finished : (m : Machine) (t : Table) (plain loads : List ℕ) → IsRooted m t plain loads → IsDistinct node_eq t.nodes.keys
    → (first behind : ℕ) → first ≡ length (inputs m) → behind ≡ held_count m + length (kinds t) → (nodes : List Node) (roots : List ℕ)
    → nodes ≡ kinds t ++ inverters_apart first behind [] plain → roots ≡ roots_apart first behind [] plain
    → IsSubjectGraph m (record { nodes = nodes; outputs = roots; loads = loads })
finished m t plain loads r distinct low_end behind_end is_first is_behind nodes roots is_nodes is_roots =
    let all_nodes : nodes ≡ kinds t ++ inverters_apart (length (inputs m)) (held_count m + length (kinds t)) [] plain =
    is_nodes ∙ ap (λ (n : ℕ). kinds t ++ inverters_apart n behind_end [] plain) is_first ∙ ap (λ (n : ℕ). kinds t ++ inverters_apart (length (inputs m)) n [] plain) is_behind in
    let all_roots : roots ≡ roots_apart (length (inputs m)) (held_count m + length (kinds t)) [] plain =
    is_roots ∙ ap (λ (n : ℕ). roots_apart n behind_end [] plain) is_first ∙ ap (λ (n : ℕ). roots_apart (length (inputs m)) n [] plain) is_behind in
    let made : List Node → List ℕ → Graph = λ xs rs. record { nodes = xs; outputs = rs; loads = loads } in
    let same : made nodes roots ≡ made (kinds t ++ inverters_apart (length (inputs m)) (held_count m + length (kinds t)) [] plain) (roots_apart (length (inputs m)) (held_count m + length (kinds t)) [] plain) =
    ap (λ (xs : List Node). made xs roots) all_nodes ∙ ap (made (kinds t ++ inverters_apart (length (inputs m)) (held_count m + length (kinds t)) [] plain)) all_roots in
    subst (IsSubjectGraph m) (sym same) (is_subject_graph m t plain loads r distinct)

-- the same of what was lent
pub graph_made : (m : Machine) (t : Table) (plain loads : List ℕ) (old new : List Kind) (lent roots : List ℕ) (first : ℕ) → IsRooted m t plain loads → IsDistinct node_eq t.nodes.keys
    → old ≡ t.nodes.keys → lent ≡ plain → first ≡ t.held - length loads → ShowsBehind old new first t.held lent roots
    → IsSubjectGraph m (record { nodes = map node_view new; outputs = roots; loads = loads })
graph_made m t plain loads old new lent roots first r distinct is_old is_lent is_first s =
    let held = r.held in
    let each = r.each in
    let low : first ≡ length (inputs m) = omega (arith, held, each, is_first) in
    let size : length old ≡ length (kinds t) = ap (λ (xs : List Kind). length xs) is_old ∙ sym (length-map node_view t.nodes.keys) in
    let behind : t.held + length old ≡ held_count m + length (kinds t) = omega (arith, held, size) in
    finished m t plain loads r distinct first (t.held + length old) low behind (map node_view new) roots
    (s.nodes ∙ ap (λ (xs : List Kind). map node_view xs ++ inverters_apart first (t.held + length old) [] lent) is_old
    ∙ ap (λ (xs : List ℕ). kinds t ++ inverters_apart first (t.held + length old) [] xs) is_lent)
    (s.shown ∙ ap (roots_apart first (t.held + length old) []) is_lent)

pub room_lent : (m : Machine) (t : Table) (plain loads : List ℕ) (old : List Kind) (lent : List ℕ) → IsNumberable m → IsRooted m t plain loads → IsDistinct node_eq t.nodes.keys
    → old ≡ t.nodes.keys → lent ≡ plain → t.held + length old + 2 * length lent < 2 ^ 32
room_lent m t plain loads old lent small r distinct is_old is_lent =
    let size : length old ≡ length (kinds t) = ap (λ (xs : List Kind). length xs) is_old ∙ sym (length-map node_view t.nodes.keys) in
    let count = ap (λ (xs : List ℕ). length xs) is_lent in
    let fits = room m t plain loads small r distinct in
    omega (arith, size, count, fits)
