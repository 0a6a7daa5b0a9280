-- A node's literal, from those of the two nodes below it.
use Rattle.std.proofs.Common.{◌≡◌, ℕ, zero, suc, ◌+◌, ◌<◌, Bool, true, false, List, [], ◌∷◌, length, map, refl, sym, ap, subst, ◌∙◌, arith, length-append, if◌then◌else◌}
use Rattle.std.specs.List.{slice_index_or}
use Rattle.std.proofs.lemmas.List.{length-map}
use Rattle.bool_expr.specs.Expression.{bit}
use Rattle.bdd_core.specs.declared.node.NodeId.{NodeId}
use Rattle.bdd_core.specs.Truths.{Truths, constant}
use Rattle.bdd_core.specs.Branching.{truth_at, held, IsBranch}
use Rattle.bdd_core.specs.Nodes.{raised}
use Rattle.bdd_core.specs.Diagram.{function_of}
use Rattle.bdd_core.proofs.Held.{held_value}
use Rattle.machine_roots.specs.declared.diagram.RootDiagram.{RootDiagram}
use Rattle.boom_literal.specs.declared.literal.Literal.{Literal}
use Rattle.boom_literal.specs.declared.literal.Literal.TheVariants.{Constant, Name}
use Rattle.boom_muxes.specs.declared.mux.Mux.{Mux}
use Rattle.boom_muxes.specs.declared.muxes.Muxes.{Muxes}
use Rattle.boom_muxes.specs.Muxes.{IsLiteralBelow, literal_value, mux_values, HasGrownBy, SaysMux}
use Rattle.boom_muxes.specs.Rebuilding.{SaysNode, bits_of}
use Rattle.boom_muxes.proofs.Weighing.{bit-mux_values, literal_kept}

-- a constant function has one value
constant_value : (n : ℕ) (b : Bool) (w : List Bool) → length w ≡ n → truth_at (raised n (constant b)) w ≡ b
constant_value zero b w l = refl
constant_value (suc n) b [] l = absurd (omega arith)
constant_value (suc n) b (true ∷ w) l = constant_value n b w (omega arith)
constant_value (suc n) b (false ∷ w) l = constant_value n b w (omega arith)

pub says_constant : (t : Muxes) (d : RootDiagram) (a : NodeId) (b : Bool) → d.diagrams.table.vars ≡ length d.order.items
    → function_of d.diagrams a ≡ raised d.diagrams.table.vars (constant b) → SaysNode t d a (Constant b)
says_constant t d a b vars is = record {
  below = tt;
  value = λ w l.
      sym (ap (λ (f : Truths). truth_at f (bits_of d w)) is
      ∙ constant_value d.diagrams.table.vars b (bits_of d w) (length-map d.order.items (bit w) ∙ sym vars));
}

bit-map : (w : List Bool) (order : List ℕ) (k : ℕ) → k < length order → bit (map (bit w) order) k ≡ bit w (slice_index_or order k 0)
bit-map w [] k h = absurd (omega arith)
bit-map w (x ∷ order) zero h = refl
bit-map w (x ∷ order) (suc k) h = bit-map w order k (omega arith)

chosen : (x y : Bool) (a b c d : Bool) → x ≡ y → a ≡ c → b ≡ d → (if x then a else b) ≡ (if y then c else d)
chosen x y a b c d p q r = λ j. if p j then q j else r j

-- what a literal says stays true in a table that has grown
pub says_on : (n : ℕ) (t u : Muxes) (d : RootDiagram) (a : NodeId) (l : Literal) → HasGrownBy n t u → SaysNode t d a l → SaysNode u d a l
says_on n t u d a l g s = record {
  below = further l s.below;
  value = λ w size.
      let long : length w ≡ t.held = size ∙ g.held in
      ap (λ (xs : List Mux). literal_value l (mux_values w xs)) g.nodes
      ∙ literal_kept l t.nodes.keys g.more w (subst (λ (m : ℕ). IsLiteralBelow (m + length t.nodes.keys) l) (sym long) s.below) ∙ s.value w long;
}
  where
    further : (l : Literal) → IsLiteralBelow (t.held + length t.nodes.keys) l → IsLiteralBelow (u.held + length u.nodes.keys) l
    further (Constant b) low = tt
    further (Name k) low =
        let h = g.held in
        let k2 = ap length g.nodes in
        let k3 = length-append t.nodes.keys g.more in
        omega (arith, low, h, k2, k3)

module _ (t u : Muxes) (d : RootDiagram) (a low high : NodeId) (v : ℕ) (vars : d.diagrams.table.vars ≡ length d.order.items)
    (held_names : (k : ℕ) → k < length d.order.items → slice_index_or d.order.items k 0 < t.held)
    (branch : IsBranch d.diagrams.table.vars (function_of d.diagrams a) v (function_of d.diagrams low) (function_of d.diagrams high)) where
  within : v < length d.order.items
  within = let w = branch.within in omega (arith, w, vars)

  -- the choice by the branch's variable, of what is said of the nodes below
  pub says_branch : (x : Mux) (l : Literal) (n : ℕ) → x.select ≡ slice_index_or d.order.items v 0 → SaysNode t d low x.low → SaysNode t d high x.high → HasGrownBy n t u
      → SaysMux t u x l → SaysNode u d a l
  says_branch x l n select says_low says_high g says = record {
    below = says.below;
    value = λ w size.
        let long : length w ≡ t.held = size ∙ g.held in
        let bits = bits_of d w in
        let by_variable : bit (mux_values w t.nodes.keys) x.select ≡ bit bits v =
        ap (bit (mux_values w t.nodes.keys)) select
        ∙ bit-mux_values t.nodes.keys w (slice_index_or d.order.items v 0) (let h = held_names v within in omega (arith, h, long))
        ∙ sym (bit-map w d.order.items v within) in
        let many : v < length bits = let m = length-map d.order.items (bit w) in let i = within in omega (arith, m, i) in
        says.value w long
        ∙ chosen (bit (mux_values w t.nodes.keys) x.select) (bit bits v) (literal_value x.high (mux_values w t.nodes.keys)) (literal_value x.low (mux_values w t.nodes.keys))
        (truth_at (held v true (function_of d.diagrams a)) bits) (truth_at (held v false (function_of d.diagrams a)) bits) by_variable
        (says_high.value w long ∙ ap (λ (f : Truths). truth_at f bits) branch.high_is) (says_low.value w long ∙ ap (λ (f : Truths). truth_at f bits) branch.low_is)
        ∙ sym (held_value (function_of d.diagrams a) v bits many);
  }
