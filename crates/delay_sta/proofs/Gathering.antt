-- The arcs of instances, as they are gathered.
use Rattle.std.proofs.Common.{◌≡◌, ◌⊎◌, inl, inr, ℕ, ◌+◌, ◌<◌, ◌≤◌, Bool, true, false, List, [], ◌∷◌, ◌++◌, map, length, get_or, take, Option, Some, None, refl, sym, ap, ◌∙◌, subst, arith}
use Rattle.std.specs.Prelude.{slice_get, slice_index}
use Rattle.std.specs.Bool.{MatchBool}
use Rattle.std.specs.List.{All}
use Rattle.std.proofs.lemmas.List.{take_more, take_all}
use Rattle.std.proofs.lemmas.Bool.{cases_lt}
use Rattle.std.proofs.lemmas.Option.{slice_get_within, slice_get_read}
use Rattle.vlsi_base.specs.declared.name.Name.{Name}
use Rattle.cell_model.specs.declared.cell.Arc.{Arc}
use Rattle.cell_model.specs.Cell.{Function, Cell}
use Rattle.cell_model.specs.Library.{Library, cell_named, cell_of}
use Rattle.cell_checks.specs.Arcs.{BeginsThere, GoesThrough}
use Rattle.net_core.specs.declared.frame.Node.{Node}
use Rattle.net_core.specs.Places.{Stands, IsThere}
use Rattle.net_core.specs.Netlist.{Instance, Netlist, IsNetlist, pin_of}
use Rattle.net_core.specs.Frame.{instance_of}
use Rattle.net_core.proofs.Frames.{mapped}
use Rattle.net_core.proofs.Rings.{class_below}
use Rattle.net_core.proofs.Standing.{stands_same}
use Rattle.delay_sta.specs.declared.graph.TimedArc.{TimedArc}
use Rattle.delay_sta.specs.Arcs.{arc_delay}
use Rattle.delay_sta.specs.Loads.{load}
use Rattle.delay_sta.specs.Paths.{Step, IsStepAt}
use Rattle.delay_sta.specs.Graph.{AreFound, step_of, IsTimedAt, IsTimedOf, IsFoundAs, IsOwned, IsShort, AddsArcs, AreTimedArcs}
use Rattle.delay_sta.proofs.Grouping.{nothing_there, there_more}

-- ---- arcs of an instance

-- those of so many arcs of its cell were put behind the others
pub record AddsSome (n : Netlist) (loads : ℕ → ℕ) (number : ℕ) (c : Cell) (some : List Arc) (old new : List TimedArc) : Type 0 where
  pub kept : (x : TimedArc) → IsThere old x → IsThere new x
  pub sound : (x : TimedArc) → IsThere new x → IsThere old x ⊎ ((a : Arc) × IsThere some a × IsTimedOf n loads number c a x × IsShort x)
  pub complete : (a : Arc) (x : TimedArc) → IsThere some a → IsTimedOf n loads number c a x → IsThere new x

pub adds_none : (n : Netlist) (loads : ℕ → ℕ) (number : ℕ) (c : Cell) (old : List TimedArc) → AddsSome n loads number c [] old old
adds_none n loads number c old = record { kept = λ x t. t; sound = λ x t. inl t; complete = λ a x t h. absurd (nothing_there a t) }

-- one more arc of the cell, of which this was found
found_after : Option TimedArc → List TimedArc → List TimedArc
found_after None xs = xs
found_after (Some x) xs = xs ++ x ∷ []

adds_one : (n : Netlist) (loads : ℕ → ℕ) (number : ℕ) (c : Cell) (some : List Arc) (a : Arc) (found : Option TimedArc) (start old new : List TimedArc)
    → AddsSome n loads number c some start old → IsFoundAs n loads number c a found → ((x : TimedArc) → found ≡ Some x → IsShort x) → new ≡ found_after found old
    → AddsSome n loads number c (some ++ a ∷ []) start new
unfolding found_after
adds_one n loads number c some a None start old new before is short e = subst (λ (xs : List TimedArc). AddsSome n loads number c (some ++ a ∷ []) start xs) (sym e) (record {
  kept = before.kept;
  sound = λ x t. elim (before.sound x t) [ inl u ↦ inl u | inr w ↦ inr (w.0, (there_more some a w.0).1 (inl w.1), w.2, w.3) ];
  complete = λ b x t h. elim ((there_more some a b).0 t) [
    | inl u ↦ before.complete b x u h
    | inr same ↦ let f : None ≡ Some x = (is x).1 (subst (λ (z : Arc). IsTimedOf n loads number c z x) (sym same) h) in absurd cc
  ];
})
adds_one n loads number c some a (Some y) start old new before is short e = subst (λ (xs : List TimedArc). AddsSome n loads number c (some ++ a ∷ []) start xs) (sym e) (record {
  kept = λ x t. (there_more old y x).1 (inl (before.kept x t));
  sound = λ x t. elim ((there_more old y x).0 t) [
    | inl u ↦ elim (before.sound x u) [ inl v ↦ inl v | inr w ↦ inr (w.0, (there_more some a w.0).1 (inl w.1), w.2, w.3) ]
    | inr same ↦ let f : Some y ≡ Some x = ap Some same in inr (a, (there_more some a a).1 (inr refl), (is x).0 f, short x f)
  ];
  complete = λ b x t h. elim ((there_more some a b).0 t) [
    | inl u ↦ (there_more old y x).1 (inl (before.complete b x u h))
    | inr same ↦
        let f : Some y ≡ Some x = (is x).1 (subst (λ (z : Arc). IsTimedOf n loads number c z x) (sym same) h) in
        let e : y ≡ x = cc in (there_more old y x).1 (inr e)
  ];
})

next_arcs : (arcs : List Arc) (k : ℕ) (a : Arc) → k < length arcs → a ≡ get_or arcs k a → take (k + 1) arcs ≡ take k arcs ++ a ∷ []
next_arcs arcs k a l at = take_more arcs k a l ∙ ap (λ (b : Arc). take k arcs ++ b ∷ []) (sym at)

pub adds_found : (n : Netlist) (loads : ℕ → ℕ) (number : ℕ) (c : Cell) (arcs : List Arc) (k : ℕ) (a : Arc) (x : TimedArc) (start old new : List TimedArc)
    → k < length arcs → a ≡ get_or arcs k a → AddsSome n loads number c (take k arcs) start old → IsFoundAs n loads number c a (Some x) → IsShort x → new ≡ old ++ x ∷ []
    → AddsSome n loads number c (take (k + 1) arcs) start new
unfolding found_after
adds_found n loads number c arcs k a x start old new l at before is short e =
    subst (λ (ls : List Arc). AddsSome n loads number c ls start new) (sym (next_arcs arcs k a l at))
    (adds_one n loads number c (take k arcs) a (Some x) start old new before is (λ y f. let same : x ≡ y = cc in subst IsShort same short) e)

pub adds_nothing : (n : Netlist) (loads : ℕ → ℕ) (number : ℕ) (c : Cell) (arcs : List Arc) (k : ℕ) (a : Arc) (start old new : List TimedArc)
    → k < length arcs → a ≡ get_or arcs k a → AddsSome n loads number c (take k arcs) start old → IsFoundAs n loads number c a None → new ≡ old
    → AddsSome n loads number c (take (k + 1) arcs) start new
unfolding found_after
adds_nothing n loads number c arcs k a start old new l at before is e =
    subst (λ (ls : List Arc). AddsSome n loads number c ls start new) (sym (next_arcs arcs k a l at))
    (adds_one n loads number c (take k arcs) a None start old new before is (λ y f. absurd cc) e)

pub adds_arcs : (n : Netlist) (loads : ℕ → ℕ) (number : ℕ) (c : Cell) (arcs : List Arc) (k : ℕ) (old new : List TimedArc) → arcs ≡ c.arcs → length arcs ≤ k → AddsSome n loads number c (take k arcs) old new → AddsArcs n loads number c old new
adds_arcs n loads number c arcs k old new same all h = record {
  kept = h.kept;
  sound = λ x t. elim (h.sound x t) [ inl u ↦ inl u | inr w ↦ inr (record { arc = w.0; has = subst (λ (ls : List Arc). IsThere ls w.0) whole w.1; is = w.2 }, w.3) ];
  complete = λ x g. h.complete g.arc x (subst (λ (ls : List Arc). IsThere ls g.arc) (sym whole) g.has) g.is;
} where
  whole : take k arcs ≡ c.arcs
  whole = take_all k arcs all ∙ same

-- ---- arcs of all instances

step_with : (n : Netlist) (sound : IsNetlist n) (loads others : ℕ → ℕ) → ((class : ℕ) → class < n.count → loads class ≡ others class) → (Allows : Function → Name → Type 0) (owner : List ℕ) (c : Cell) (a : Arc) (s : Step)
    → IsStepAt n loads Allows owner c a s → IsStepAt n others Allows owner c a s
step_with n sound loads others same Allows owner c a s h = record {
  allowed = h.allowed;
  takes = h.takes;
  gives = h.gives;
  from = h.from;
  to = h.to;
  delay = h.delay ∙ ap (arc_delay a) (same s.to (class_below n sound (pin_of owner a.to) s.to h.to));
}

timed_with : (n : Netlist) (sound : IsNetlist n) (loads others : ℕ → ℕ) → ((class : ℕ) → class < n.count → loads class ≡ others class) → (owner : List ℕ) (c : Cell) (a : Arc) (x : TimedArc)
    → IsTimedAt n loads owner c a x → IsTimedAt n others owner c a x
timed_with n sound loads others same owner c a x h = by x.begins h where
  by : (b : Bool) → MatchBool b (IsStepAt n loads BeginsThere owner c a (step_of x)) (IsStepAt n loads GoesThrough owner c a (step_of x))
      → MatchBool b (IsStepAt n others BeginsThere owner c a (step_of x)) (IsStepAt n others GoesThrough owner c a (step_of x))
  by true h = step_with n sound loads others same BeginsThere owner c a (step_of x) h
  by false h = step_with n sound loads others same GoesThrough owner c a (step_of x) h

-- those of so many instances are gathered
pub record AreSoFar (n : Netlist) (l : Library) (arcs : List TimedArc) (k : ℕ) : Type 0 where
  pub sound : (x : TimedArc) → IsThere arcs x → IsOwned n l x × IsShort x
  pub complete : (x : TimedArc) → IsOwned n l x → x.owner < k → IsThere arcs x

pub none_so_far : (n : Netlist) (l : Library) → AreSoFar n l [] 0
none_so_far n l = record { sound = λ x t. absurd (nothing_there x t); complete = λ x o low. absurd (omega (arith, low)) }

pub all_so_far : (n : Netlist) (l : Library) (arcs : List TimedArc) (k : ℕ) → length n.instances ≤ k → AreSoFar n l arcs k → AreTimedArcs n l arcs
all_so_far n l arcs k all h = record {
  each = λ x. (
    (λ t. (h.sound x t).0),
    (λ o. let w = slice_get_within n.instances x.owner o.owner o.stands in h.complete x o (omega (arith, w, all))),
  );
  short = λ x t. (h.sound x t).1;
}

-- the instance of a node, and the place of its cell
pub record AtNode (n : Netlist) (l : Library) (k : ℕ) (node : Node) (found : Option Cell) : Type 0 where
  pub stands : Stands n.instances k (instance_of n.models node)
  pub cell : cell_of l (instance_of n.models node).model ≡ found

pub at_node : (n : Netlist) (l : Library) (models : List (List ℕ)) (cells : List Cell) (nodes : List Node) (places : List ℕ) (k : ℕ) (node : Node) → models ≡ n.models → cells ≡ l.cells
    → map (instance_of n.models) nodes ≡ n.instances → All (λ i. i.model < length n.models) nodes → AreFound cells models places → k < length nodes → node ≡ get_or nodes k node
    → AtNode n l k node (slice_get cells (slice_index places node.model))
at_node n l models cells nodes places k node same_models same_cells seen known found low at = record {
  stands = subst (λ (is : List Instance). Stands is k (instance_of n.models node)) seen (mapped (instance_of n.models) nodes k node s);
  cell = ap (λ (ms : List (List ℕ)). cell_of l (get_or ms node.model [])) (sym same_models) ∙ ap (λ (cs : List Cell). cell_named cs (get_or models node.model [])) (sym same_cells) ∙ sym (found.each node.model less);
} where
  s : Stands nodes k node
  s = slice_get_read nodes (length nodes) k node refl low at

  less : node.model < length models
  less =
      let m : node.model < length n.models = subst (λ (x : Node). x.model < length n.models) (sym at) (known k node low) in
      let e = ap length same_models in
      omega (arith, m, e)

pub node_some : (n : Netlist) (l : Library) (sound : IsNetlist n) (loads : List ℕ) → ((class : ℕ) → class < n.count → slice_index loads class ≡ load n l class) → (old new : List TimedArc) (k : ℕ) (node : Node) (c : Cell)
    → AtNode n l k node (Some c) → AddsArcs n (slice_index loads) k c old new → AreSoFar n l old k → AreSoFar n l new (k + 1)
node_some n l sound loads same old new k node c at adds before = record { sound = sound_now; complete = complete } where
  sound_now : (x : TimedArc) → IsThere new x → IsOwned n l x × IsShort x
  sound_now x t = elim (adds.sound x t) [
    | inl u ↦ before.sound x u
    | inr w ↦
        let g = w.0.is in
        let owner : g.owner ≡ instance_of n.models node = stands_same n.instances k g.owner (instance_of n.models node) g.stands at.stands in (
          record {
            owner = g.owner;
            stands = subst (λ m. Stands n.instances m g.owner) (sym g.numbered) g.stands;
            cell = c;
            found = ap (λ (i : Instance). cell_of l i.model) owner ∙ at.cell;
            arc = w.0.arc;
            has = w.0.has;
            input = g.input;
            output = g.output;
            is = timed_with n sound (slice_index loads) (load n l) same g.owner.name c w.0.arc x g.is;
          },
          w.1,
        )
  ]

  complete : (x : TimedArc) → IsOwned n l x → x.owner < k + 1 → IsThere new x
  complete x o low = by (cases_lt x.owner k) where
    by : (x.owner < k) ⊎ (k ≤ x.owner) → IsThere new x
    by (inl less) = adds.kept x (before.complete x o less)
    by (inr more) =
        let e : x.owner ≡ k = omega (arith, low, more) in
        let s : Stands n.instances k o.owner = subst (λ m. Stands n.instances m o.owner) e o.stands in
        let owner : o.owner ≡ instance_of n.models node = stands_same n.instances k o.owner (instance_of n.models node) s at.stands in
        let cell : o.cell ≡ c = let g : Some o.cell ≡ Some c = sym o.found ∙ ap (λ (p : Instance). cell_of l p.model) owner ∙ at.cell in cc in
        let there : IsThere c.arcs o.arc = subst (λ (b : Cell). IsThere b.arcs o.arc) cell o.has in
        let here : IsTimedAt n (load n l) o.owner.name c o.arc x = subst (λ (b : Cell). IsTimedAt n (load n l) o.owner.name b o.arc x) cell o.is in
        adds.complete x (record {
          arc = o.arc;
          has = there;
          is = record {
            numbered = e;
            owner = o.owner;
            stands = s;
            input = o.input;
            output = o.output;
            is = timed_with n sound (load n l) (slice_index loads) (λ m q. sym (same m q)) o.owner.name c o.arc x here;
          };
        })

pub node_none : (n : Netlist) (l : Library) (arcs : List TimedArc) (k : ℕ) (node : Node) → AtNode n l k node None → AreSoFar n l arcs k → AreSoFar n l arcs (k + 1)
node_none n l arcs k node at before = record { sound = before.sound; complete = complete } where
  complete : (x : TimedArc) → IsOwned n l x → x.owner < k + 1 → IsThere arcs x
  complete x o low = by (cases_lt x.owner k) where
    by : (x.owner < k) ⊎ (k ≤ x.owner) → IsThere arcs x
    by (inl less) = before.complete x o less
    by (inr more) =
        let e : x.owner ≡ k = omega (arith, low, more) in
        let s : Stands n.instances k o.owner = subst (λ m. Stands n.instances m o.owner) e o.stands in
        let owner : o.owner ≡ instance_of n.models node = stands_same n.instances k o.owner (instance_of n.models node) s at.stands in
        let g : Some o.cell ≡ None = sym o.found ∙ ap (λ (p : Instance). cell_of l p.model) owner ∙ at.cell in absurd cc
