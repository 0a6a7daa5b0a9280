-- Nodes among others, by the test that a set of them makes.
use Rattle.std.proofs.Common.{◌≡◌, inl, inr, Bool, true, false, List, [], ◌∷◌, ◌++◌, refl, subst, if◌then◌else◌}
use Rattle.std.specs.List.{list_any}
use Rattle.std.proofs.lemmas.Bool.{eqb-true, eq-eqb}
use Rattle.vlsi_base.specs.Member.{In, here, there}
use Rattle.indexmap.specs.IndexSet.{insert_key}
use Rattle.bdd_core.specs.declared.node.NodeId.{NodeId}
use Rattle.bdd_core.specs.contracts.node.NodeIdPartialEq.TheImpl.{eq-value}
use Rattle.boom_choose.specs.Dag.{Notes}

node_same : (a b : NodeId) → eq-value.it a b ≡ true → a ≡ b
node_same a b h = let e = eqb-true a.place b.place h in λ j. record { place = e j }

node_itself : (a : NodeId) → eq-value.it a a ≡ true
node_itself a = eq-eqb a.place a.place refl

pub among : (a : NodeId) (nodes : List NodeId) → list_any (eq-value.it a) nodes ≡ true → In a nodes
among a [] h = absurd (cc h)
among a (b ∷ nodes) h = by (eq-value.it a b) refl h (among a nodes) where
  by : (t : Bool) → eq-value.it a b ≡ t → list_any (eq-value.it a) (b ∷ nodes) ≡ true → (list_any (eq-value.it a) nodes ≡ true → In a nodes) → In a (b ∷ nodes)
  by true e h rest = subst (λ (n : NodeId). In a (n ∷ nodes)) (node_same a b e) here
  by false e h rest = there (rest (rw e at h))

absent : (a : NodeId) (nodes : List NodeId) → list_any (eq-value.it a) nodes ≡ false → In a nodes → ⊥
absent a (b ∷ nodes) h here = absurd (let t = node_itself a in let f : list_any (eq-value.it a) (a ∷ nodes) ≡ true = rw t refl in cc (h, f))
absent a (b ∷ nodes) h (there i) = by (eq-value.it a b) refl (λ e. absent a nodes e i) where
  by : (t : Bool) → eq-value.it a b ≡ t → (list_any (eq-value.it a) nodes ≡ false → ⊥) → ⊥
  by true e rest = absurd (let f : list_any (eq-value.it a) (b ∷ nodes) ≡ true = rw e refl in cc (h, f))
  by false e rest = rest (rw e at h)
absent a [] h i = elim i [ ]

pub noted : (a : NodeId) (nodes : List NodeId) → Notes a nodes (insert_key eq-value.it nodes a)
noted a nodes = by (list_any (eq-value.it a) nodes) refl where
  by : (t : Bool) → list_any (eq-value.it a) nodes ≡ t → Notes a nodes (if t then nodes else nodes ++ a ∷ [])
  by true e = inl (among a nodes e, refl)
  by false e = inr (absent a nodes e, refl)
