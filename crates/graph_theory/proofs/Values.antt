-- The bits of a graph's nodes.
use Rattle.std.proofs.Common.{◌≡◌, ℕ, zero, suc, ◌+◌, ◌<◌, Bool, not, List, [], ◌∷◌, ◌++◌, length, map, refl, sym, ◌∙◌, ap, subst, arith, length-append}
use Rattle.std.specs.List.{slice_index_or}
use Rattle.bool_expr.specs.Expression.{Expression, bit, val}
use Rattle.machine_core.specs.Machine.{Machine, inputs, outputs}
use Rattle.machine_core.specs.Named.{value_at}
use Rattle.vlsi_base.specs.Member.{In, here, there}
use Rattle.net_theory.specs.Sources.{IsNumber}
use Rattle.net_theory.specs.Meaning.{Means}
use Rattle.net_theory.proofs.Basics.{length-map}
use Rattle.graph_theory.specs.Graph.{Node, fixed, inv, nand, Graph, node_bit, grown, graph_values, ReadsBelow, EachReadsEarlier, held_count, IsGraphOf, graph_roots}
use Rattle.graph_theory.specs.Maps.{Computes}
use Rattle.graph_theory.specs.Laws.{PlainIsCut}

pub bit-left : (w v : List Bool) (k : ℕ) → k < length w → bit (w ++ v) k ≡ bit w k
bit-left [] v k h = absurd (omega arith)
bit-left (b ∷ w) v zero h = refl
bit-left (b ∷ w) v (suc k) h = bit-left w v k (omega arith)

pub bit-right : (w v : List Bool) (k : ℕ) → bit (w ++ v) (length w + k) ≡ bit v k
bit-right [] v k = let e : length {A = Bool} [] + k ≡ k = omega arith in ap (bit v) e
bit-right (b ∷ w) v k = let e : length (b ∷ w) + k ≡ suc (length w + k) = omega arith in ap (bit (b ∷ w ++ v)) e ∙ bit-right w v k

-- what is known stays as it is
pub grown_keeps : (w : List Bool) (nodes : List Node) (k : ℕ) → k < length w → bit (grown w nodes) k ≡ bit w k
grown_keeps w [] k h = refl
grown_keeps w (one ∷ rest) k h =
    grown_keeps (w ++ node_bit one w ∷ []) rest k (omega (arith, h, length-append w (node_bit one w ∷ []))) ∙ bit-left w (node_bit one w ∷ []) k h

same_node : (one : Node) (w v : List Bool) (n : ℕ) → ReadsBelow n one → ((k : ℕ) → k < n → bit w k ≡ bit v k) → node_bit one w ≡ node_bit one v
same_node (fixed b) w v n reads same = refl
same_node (inv a) w v n reads same = ap not (same a reads)
same_node (nand a b) w v n reads same = rw (same a reads.0, same b reads.1) refl

-- each node has its bit
pub grown_at : (w : List Bool) (nodes : List Node) (j : ℕ) (one : Node) → EachReadsEarlier (length w) nodes → IsNumber nodes j one
    → bit (grown w nodes) (length w + j) ≡ node_bit one (grown w nodes)
grown_at w [] j one earlier is = absurd is
grown_at w (first ∷ rest) zero one earlier is =
    let added = w ++ node_bit first w ∷ [] in
    let long : length added ≡ length w + 1 = length-append w (node_bit first w ∷ []) in
    grown_keeps added rest (length w + 0) (omega (arith, long)) ∙ bit-right w (node_bit first w ∷ []) 0
    ∙ same_node first w (grown added rest) (length w) earlier.0 (λ k h. sym (grown_keeps added rest k (omega (arith, h, long)) ∙ bit-left w (node_bit first w ∷ []) k h))
    ∙ ap (λ (x : Node). node_bit x (grown added rest)) (sym is)
grown_at w (first ∷ rest) (suc j) one earlier is =
    let added = w ++ node_bit first w ∷ [] in
    let long : length added ≡ length w + 1 = length-append w (node_bit first w ∷ []) in
    let place : length w + suc j ≡ length added + j = omega (arith, long) in
    ap (bit (grown added rest)) place
    ∙ grown_at added rest j one (let P : ℕ → Type 0 = λ n. EachReadsEarlier n rest in subst P (sym long) earlier.1) is

-- what a node reads stands before it
pub reads_at : (n : ℕ) (nodes : List Node) (j : ℕ) (one : Node) → EachReadsEarlier n nodes → IsNumber nodes j one → ReadsBelow (n + j) one
reads_at n [] j one earlier is = absurd is
reads_at n (first ∷ rest) zero one earlier is =
    let e : n ≡ n + 0 = omega arith in subst (λ (x : Node). ReadsBelow (n + 0) x) (sym is) (let P : ℕ → Type 0 = λ k. ReadsBelow k first in subst P e earlier.0)
reads_at n (first ∷ rest) (suc j) one earlier is =
    let e : n + 1 + j ≡ n + suc j = omega arith in let P : ℕ → Type 0 = λ k. ReadsBelow k one in subst P e (reads_at (n + 1) rest j one earlier.1 is)

pub computed : (one : Node) (e : Expression) (leaves : List ℕ) (w : List Bool) → Computes one e leaves → node_bit one w ≡ val e (map (bit w) leaves)
computed (fixed b) e leaves w h = sym h.1 ∙ ap (λ (xs : List ℕ). val e (map (bit w) xs)) (sym h.0)
computed (inv a) e leaves w h = sym (h.1 (bit w a)) ∙ ap (λ (xs : List ℕ). val e (map (bit w) xs)) (sym h.0)
computed (nand a b) e leaves w h = sym (h.1 (bit w a) (bit w b)) ∙ ap (λ (xs : List ℕ). val e (map (bit w) xs)) (sym h.0)

pub leaf_below : (one : Node) (e : Expression) (leaves : List ℕ) (n x : ℕ) → Computes one e leaves → ReadsBelow n one → In x leaves → x < n
leaf_below (fixed b) e leaves n x h reads g = elim (subst (λ (all : List ℕ). In x all) h.0 g) [ ]
leaf_below (inv a) e leaves n x h reads g = of_one a n x reads (subst (λ (all : List ℕ). In x all) h.0 g) where
  of_one : (a n x : ℕ) → a < n → In x (a ∷ []) → x < n
  of_one a n x low here = low
  of_one a n x low (there k) = elim k [ ]
leaf_below (nand a b) e leaves n x h reads g = of_two a b n x reads.0 reads.1 (subst (λ (all : List ℕ). In x all) h.0 g) where
  of_two : (a b n x : ℕ) → a < n → b < n → In x (a ∷ b ∷ []) → x < n
  of_two a b n x first second here = first
  of_two a b n x first second (there here) = second
  of_two a b n x first second (there (there k)) = elim k [ ]

-- a root's bit, by its number
root_bit : (f : ℕ → Bool) (roots : List ℕ) (k : ℕ) → k < length roots → f (slice_index_or roots k 0) ≡ bit (map f roots) k
root_bit f [] k h = absurd (omega arith)
root_bit f (x ∷ roots) zero h = refl
root_bit f (x ∷ roots) (suc k) h = root_bit f roots k (omega arith)

pub graph_means : (m : Machine) (g : Graph) → IsGraphOf m g → Means m (graph_values g) (graph_roots g)
graph_means m g of_m = record {
  held_inputs = λ i s held k within.
      let size = held.for_inputs in
      grown_keeps (i ++ s) g.nodes k (omega (arith, length-append i s, size, within)) ∙ bit-left i s k (omega (arith, size, within));
  held_registers = λ i s held k within.
      let size = held.for_inputs in
      let count = held.for_registers in
      let all = length-append i s in
      grown_keeps (i ++ s) g.nodes (length (inputs m) + k) (omega (arith, all, size, count, within))
      ∙ ap (λ (x : ℕ). bit (i ++ s) (x + k)) (sym size) ∙ bit-right i s k;
  shown = λ i s w settled k within.
      let same = of_m.shown i s w settled in
      let size : length g.outputs ≡ length (outputs m) = sym (length-map (graph_values g i s) g.outputs) ∙ ap length same ∙ length-map (value_at m.vars w) (outputs m) in
      root_bit (graph_values g i s) g.outputs k (omega (arith, size, within)) ∙ ap (λ (bs : List Bool). bit bs k) same;
  loaded = λ i s w settled k within.
      let same = of_m.loaded i s w settled in
      let size : length g.loads ≡ length m.registers = sym (length-map (graph_values g i s) g.loads) ∙ ap length same ∙ length-map _ m.registers in
      root_bit (graph_values g i s) g.loads k (omega (arith, size, within)) ∙ ap (λ (bs : List Bool). bit bs k) same;
}

pub plain_is_cut : PlainIsCut
plain_is_cut m g j kind e leaves of_m is computes = record {
  earlier = λ x is_leaf. leaf_below kind e leaves (held_count m + j) x computes (reads_at (held_count m) g.nodes j kind of_m.earlier is) is_leaf;
  value = λ i t held.
      let size : length (i ++ t) ≡ held_count m = let all = length-append i t in let a = held.for_inputs in let b = held.for_registers in omega (arith, all, a, b) in
      let place : held_count m + j ≡ length (i ++ t) + j = omega (arith, size) in
      ap (graph_values g i t) place ∙ grown_at (i ++ t) g.nodes j kind (let P : ℕ → Type 0 = λ c. EachReadsEarlier c g.nodes in subst P (sym size) of_m.earlier) is
      ∙ computed kind e leaves (grown (i ++ t) g.nodes) computes;
}
