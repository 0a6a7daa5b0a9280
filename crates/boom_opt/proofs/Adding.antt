-- One more root of the second machine.
use Rattle.std.proofs.Common.{length, ◌≡◌, ◌⊎◌, inl, inr, ℕ, ◌+◌, ◌-◌, ◌*◌, ◌^◌, ◌<◌, ◌≤◌, min, true, false, List, [], ◌∷◌, ◌++◌, sym, subst, ◌∙◌, arith}
use Rattle.std.specs.Prelude.{sum, Result, Ok, Err, OnOk}
use Rattle.std.specs.List.{Contains}
use Rattle.bdd_core.specs.declared.node.NodeId.{NodeId}
use Rattle.bdd_core.specs.Truths.{Truths, IsPart, IsCountOf}
use Rattle.bdd_core.specs.Nodes.{raised_to, height, IsWhole}
use Rattle.bdd_core.proofs.Raised.{part-in_raised}
use Rattle.bool_expr.specs.Expression.{Expression}
use Rattle.bool_expr.specs.View.{view}
use Rattle.machine_core.specs.Machine.{Machine, Equation}
use Rattle.machine_core.specs.Order.{EachReadsBelow}
use Rattle.machine_walk.specs.Expansion.{held_count}
use Rattle.machine_roots.specs.Listing.{root_view}
use Rattle.machine_roots.specs.declared.listing.RootExpr.{RootExpr}
use Rattle.boom_muxes.specs.declared.muxes.Stop.TheVariants.{Large}
use Rattle.boom_muxes.specs.Planning.{NotedAt}
use Rattle.machine_roots.specs.declared.diagram.RootDiagram.{RootDiagram}
use Rattle.machine_roots.specs.Roots.{Root, list_of, IsDcount, IsDag, IsGreatest}
use Rattle.machine_roots.specs.Asked.{IsRootDiagram}
use Rattle.boom_literal.specs.declared.literal.Literal.{Literal}
use Rattle.boom_literal.specs.declared.literal.Literal.TheVariants.{Constant}
use Rattle.boom_muxes.specs.declared.muxes.Muxes.{Muxes}
use Rattle.boom_opt.specs.declared.optimising.Rebuilt.{Rebuilt}
use Rattle.boom_muxes.specs.Muxes.{IsTable, HasGrownBy}
use Rattle.boom_muxes.specs.Rebuilding.{AreSaid, AreWithin, IsWithin, IsBeyond, HasFound, IsFound, list_at}
use Rattle.boom_opt.specs.Rebuilt.{expressions_size, IsPlanOf, IsRebuilt, IsNext, IsRootOf}
use Rattle.boom_muxes.proofs.Counted.{known_within, known_beyond}
use Rattle.boom_muxes.proofs.Dags.{dag_of}
use Rattle.boom_muxes.proofs.Finding.{grown_none}
use Rattle.boom_muxes.proofs.Planned.{root_value}
use Rattle.boom_check.proofs.Lists.{zip_push}
use Rattle.boom_opt.proofs.Remaking.{greatest_more, greatest_same, sum_push, weight_on, planned_next}

-- ---- the nodes of a root's diagram at which something was found

pub root_within : (m : Machine) (e : Expression) (budget : ℕ) (d : RootDiagram) → IsRootDiagram m e budget d → IsWithin d (list_of m e) d.root
unfolding raised_to
root_within m e budget d r x part =
    subst (λ (f : Truths). IsPart x f) r.root_is (part-in_raised (d.diagrams.table.vars - height (list_at d d.root)) (list_at d d.root) x part)

nothing_known : (p : NodeId × Literal) → Contains [] p → ⊥
nothing_known p c = let h : c.0 < 0 = c.1 in omega (arith, h)

pub none_said : (t : Muxes) (d : RootDiagram) → AreSaid t d []
none_said t d = record {
  node = λ a l c. absurd (nothing_known (a, l) c);
  uneven = λ a l c. absurd (nothing_known (a, l) c);
  says = λ a l c. absurd (nothing_known (a, l) c);
  once = tt;
}

none_within : (d : RootDiagram) (top : Truths) → AreWithin d top []
none_within d top a l c = absurd (nothing_known (a, l) c)

pub found_least : (m : Machine) (e : Expression) (budget : ℕ) (d : RootDiagram) (t u : Muxes) (new : List (NodeId × Literal)) (g : ℕ) → IsWhole d.diagrams.table
    → IsRootDiagram m e budget d → (h : HasFound d d.root t u [] new) → IsCountOf (list_of m e ∷ []) g → h.count ≤ g
found_least m e budget d t u new g whole r h count =
    let within = h.parts (list_of m e) (none_within d (list_of m e)) (root_within m e budget d r) in
    let most = known_within d (list_of m e) new g whole h.said.once h.said.node h.said.uneven within count in
    let room = h.room in
    omega (arith, most, room)

-- something was found at no more nodes than the diagram has
pub found_within : (m : Machine) (e : Expression) (budget : ℕ) (d : RootDiagram) (t u : Muxes) (new : List (NodeId × Literal)) (g : ℕ) → IsWhole d.diagrams.table
    → IsRootDiagram m e budget d → HasFound d d.root t u [] new → IsCountOf (list_of m e ∷ []) g → length new ≤ g
found_within m e budget d t u new g whole r h count =
    known_within d (list_of m e) new g whole h.said.once h.said.node h.said.uneven (h.parts (list_of m e) (none_within d (list_of m e)) (root_within m e budget d r)) count

pub found_less : (m : Machine) (e : Expression) (budget : ℕ) (d : RootDiagram) (t u : Muxes) (new : List (NodeId × Literal)) (g : ℕ) → IsWhole d.diagrams.table
    → IsRootDiagram m e budget d → (h : HasFound d d.root t u [] new) → IsBeyond u d (list_of m e) new → IsCountOf (list_of m e ∷ []) g → h.count + 1 ≤ g
found_less m e budget d t u new g whole r h b count =
    let within = h.parts (list_of m e) (none_within d (list_of m e)) (root_within m e budget d r) in
    let most = known_beyond d (list_of m e) new b.at (Constant false) g whole h.said.once h.said.node h.said.uneven within b.node b.uneven b.within b.absent count in
    let room = h.room in
    omega (arith, most, room)

-- ---- the second machine of one more root

pub rebuilt_next : (m : Machine) (before : List Root) (r : Root) (b c : Rebuilt) (nodes n : ℕ) → IsRebuilt m before b → IsDcount m r nodes
    → ((nodes ≤ b.nodes) × (c.nodes ≡ b.nodes)) ⊎ ((b.nodes < nodes) × (c.nodes ≡ nodes))
    → IsTable c.muxes → HasGrownBy n b.muxes c.muxes → ((g : ℕ) → IsDag m r g → n ≤ g) → ((g : ℕ) → IsDag m r g → c.diagram_nodes ≤ b.diagram_nodes + g)
    → (c.is_large ≡ true → (b.is_large ≡ true) ⊎ ((c.muxes.given ≤ c.muxes.weight + 4) × ((g : ℕ) → IsDag m r g → n + 1 ≤ g)))
    → (c.is_large ≡ false → IsPlanOf m (before ++ r ∷ []) c.muxes c.plan) → IsRebuilt m (before ++ r ∷ []) c
rebuilt_next m before r b c nodes n h count greater table g most several large planned = with_dag (dag_of (list_of m r.expr)) where
  with_dag : ((k : ℕ) × IsCountOf (list_of m r.expr ∷ []) k) → IsRebuilt m (before ++ r ∷ []) c
  with_dag dag = record {
    table = table;
    held = g.held ∙ h.held;
    given = g.given ∙ h.given;
    counts = h.counts ++ nodes ∷ [];
    each_count = zip_push (IsDcount m) before h.counts r nodes h.each_count count;
    nodes = elim greater [
      | inl q ↦ subst (λ (k : ℕ). IsGreatest (h.counts ++ nodes ∷ []) k) (sym q.1) (greatest_same h.counts b.nodes nodes q.0 h.nodes)
      | inr q ↦ subst (λ (k : ℕ). IsGreatest (h.counts ++ nodes ∷ []) k) (sym q.1) (greatest_more h.counts b.nodes nodes q.0 h.nodes)
    ];
    dags = h.dags ++ dag.0 ∷ [];
    each_dag = zip_push (IsDag m) before h.dags r dag.0 h.each_dag dag.1;
    several = (let s = sums in let a = h.several in let d = several dag.0 dag.1 in omega (arith, s, a, d));
    weight = weight;
    large = λ e. given_within (large e);
    planned = planned;
  }
    where
      sums : sum (h.dags ++ dag.0 ∷ []) ≡ sum h.dags + dag.0
      sums = sum_push h.dags dag.0

      weight : c.muxes.weight ≤ 4 * sum (h.dags ++ dag.0 ∷ [])
      weight =
          let a = weight_on n b.muxes c.muxes h.table table g in
          let d = most dag.0 dag.1 in
          let w = h.weight in
          let s = sums in
          omega (arith, a, d, w, s)

      given_within : (b.is_large ≡ true) ⊎ ((c.muxes.given ≤ c.muxes.weight + 4) × ((k : ℕ) → IsDag m r k → n + 1 ≤ k)) → expressions_size m ≤ 4 * sum (h.dags ++ dag.0 ∷ [])
      given_within (inl e) = let l = h.large e in let s = sums in omega (arith, l, s)
      given_within (inr q) =
          let a = weight_on n b.muxes c.muxes h.table table g in
          let d = q.1 dag.0 dag.1 in
          let w = h.weight in
          let s = sums in
          let near = q.0 in
          let few = table.few in
          let given = g.given ∙ h.given in
          within_min (expressions_size m) c.muxes.given c.muxes.weight (4 * sum (h.dags ++ dag.0 ∷ [])) given near (omega (arith, few)) (omega (arith, a, d, w, s))
        where
          within_min : (size given weight most : ℕ) → given ≡ min size (2 ^ 64 - 1) → given ≤ weight + 4 → given < 2 ^ 32 → weight + 4 ≤ most → size ≤ most
          within_min size given weight most e near few room = omega (arith, e, near, few, room)

-- ---- what a call leaves

pub on_ok : {E A B : Type 0} (r : Result (Unit {0}) E) → OnOk r A → (A → B) → OnOk r B
on_ok (Ok u) h f = f h
on_ok (Err e) h f = tt

-- the machine was given up before
pub rebuilt_still : (m : Machine) (before : List Root) (r : Root) (b c : Rebuilt) (nodes : ℕ) → IsRebuilt m before b → IsDcount m r nodes
    → ((nodes ≤ b.nodes) × (c.nodes ≡ b.nodes)) ⊎ ((b.nodes < nodes) × (c.nodes ≡ nodes)) → c.muxes ≡ b.muxes → b.is_large ≡ true → c.is_large ≡ b.is_large → c.diagram_nodes ≡ b.diagram_nodes → IsRebuilt m (before ++ r ∷ []) c
rebuilt_still m before r b c nodes h count greater same large is several =
    rebuilt_next m before r b c nodes 0 h count greater (subst IsTable (sym same) h.table) (subst (λ (t : Muxes). HasGrownBy 0 b.muxes t) (sym same) (grown_none b.muxes)) (λ g q. omega arith) (λ g q. omega (arith, several))
    (λ e. inl large) (λ e. absurd (let no : true ≡ false = sym large ∙ sym is ∙ e in cc no))

-- it is given up now
pub rebuilt_large : (m : Machine) (before : List Root) (r : Root) (b c : Rebuilt) (nodes budget : ℕ) (d : RootDiagram) (known new : List (NodeId × Literal)) → known ≡ [] → IsRebuilt m before b
    → IsDcount m r nodes → ((nodes ≤ b.nodes) × (c.nodes ≡ b.nodes)) ⊎ ((b.nodes < nodes) × (c.nodes ≡ nodes)) → IsWhole d.diagrams.table → IsRootDiagram m r.expr budget d
    → IsFound d d.root b.muxes c.muxes known new (Err Large) → c.is_large ≡ true → c.diagram_nodes ≡ b.diagram_nodes → IsRebuilt m (before ++ r ∷ []) c
rebuilt_large m before r b c nodes budget d known new empty h count greater whole diagram found large several =
    let f : HasFound d d.root b.muxes c.muxes [] new = subst (λ (k : List (NodeId × Literal)). HasFound d d.root b.muxes c.muxes k new) empty found.0 in
    let beyond = found.1 (list_of m r.expr) (root_within m r.expr budget d diagram) in
    rebuilt_next m before r b c nodes f.count h count greater f.table f.grown (λ g q. found_least m r.expr budget d b.muxes c.muxes new g whole diagram f q) (λ g q. omega (arith, several))
    (λ e. inr (beyond.heavy, λ g q. found_less m r.expr budget d b.muxes c.muxes new g whole diagram f beyond q)) (λ e. absurd (let no : true ≡ false = sym large ∙ e in cc no))

-- the root has its literal
pub rebuilt_found : (m : Machine) (before : List Root) (root : RootExpr) (b c : Rebuilt) (nodes budget : ℕ) (d : RootDiagram) (known new : List (NodeId × Literal)) (l : Literal) (held : ℕ) (es : List Equation)
    → known ≡ [] → IsRebuilt m before b → IsNext m before root → IsRootOf m root → EachReadsBelow (held_count m) m.equations
    → IsDcount m (root_view root) nodes → ((nodes ≤ b.nodes) × (c.nodes ≡ b.nodes)) ⊎ ((b.nodes < nodes) × (c.nodes ≡ nodes)) → IsWhole d.diagrams.table → IsRootDiagram m (view root.expr.now) budget d
    → IsFound d d.root b.muxes c.muxes known new (Ok l) → b.is_large ≡ false → c.is_large ≡ b.is_large → held ≡ c.muxes.held → es ≡ m.equations
    → NotedAt held es (view root.expr.now) l b.plan c.plan root.equation → c.diagram_nodes ≤ b.diagram_nodes + length new
    → IsRebuilt m (before ++ root_view root ∷ []) c
rebuilt_found m before root b c nodes budget d known new l held es empty h next is reads count greater whole diagram found small same held_is es_are noted more =
    let f : HasFound d d.root b.muxes c.muxes [] new = subst (λ (k : List (NodeId × Literal)). HasFound d d.root b.muxes c.muxes k new) empty found.0 in
    let held_here : c.muxes.held ≡ held_count m = f.grown.held ∙ h.held in
    rebuilt_next m before (root_view root) b c nodes f.count h count greater f.table f.grown (λ g q. found_least m (view root.expr.now) budget d b.muxes c.muxes new g whole diagram f q)
    (λ g q. let a = found_within m (view root.expr.now) budget d b.muxes c.muxes new g whole diagram f q in omega (arith, a, more))
    (λ e. absurd (let no : true ≡ false = sym e ∙ same ∙ small in cc no))
    (λ e. planned_next m before root b.muxes c.muxes f.count b.plan c.plan l h.held reads is next f.grown (h.planned small)
    (subst (λ (n : ℕ). NotedAt n m.equations (view root.expr.now) l b.plan c.plan root.equation) (held_is ∙ held_here)
    (subst (λ (xs : List Equation). NotedAt held xs (view root.expr.now) l b.plan c.plan root.equation) es_are noted))
    found.1.below (root_value m (view root.expr.now) budget d c.muxes l held_here diagram found.1))
