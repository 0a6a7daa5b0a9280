-- Names are bound one after another.
use Rattle.std.proofs.Common.{◌≡◌, ◌⊎◌, inl, inr, ℕ, zero, suc, ◌+◌, ◌<◌, ◌≤◌, Bool, true, false, List, [], ◌∷◌, ◌++◌, length, map, drop, None, Result, Ok, Err, refl, sym, ap, subst, ◌∙◌, arith, append_assoc, append-nil, add-one, drop-cons, length-append, if◌then◌else◌}
use Rattle.std.specs.List.{All, Contains, slice_index_or}
use Rattle.std.proofs.Math.ListN.{set}
use Rattle.std.proofs.lemmas.List.{length-set, get_or-set_same, get_or-set_other, map-set, length-map}
use Rattle.std.proofs.lemmas.List.Elements.{Contains-append_cases, Contains-append_left, Contains-append_right, All-push}
use Rattle.std.proofs.lemmas.Bool.{cases_lt}
use Rattle.vlsi_base.specs.Range.{falling}
use Rattle.bool_expr.specs.Expression.{bit}
use Rattle.bdd_core.specs.declared.node.NodeId.{NodeId}
use Rattle.bdd_core.specs.declared.node.BddError.{BddError}
use Rattle.bdd_core.specs.declared.node.BddError.TheVariants.{Memory}
use Rattle.bdd_core.specs.Truths.{Truths, constant}
use Rattle.bdd_core.specs.Nodes.{raised}
use Rattle.bdd_core.specs.Diagram.{Diagram, IsNode, function_of, functions_of, Keeps, IsAnswer}
use Rattle.bdd_core.specs.Asked.{denoted, asked_of, IsAnswerOf}
use Rattle.bdd_core.proofs.Asking.{SoFar, first, after, same_functions, bound_kept, over_sub}
use Rattle.machine_core.specs.declared.equation.Equation.{Equation as EquationParts}
use Rattle.machine_core.specs.Machine.{Equation}
use Rattle.machine_core.specs.View.{equation_view}
use Rattle.machine_roots.specs.Asked.{HaveAsked}
use Rattle.machine_roots.specs.Binding.{AreNodes, variable_list, variable_lists, put_variables, next_list, bound_lists, asked_by}
use Rattle.machine_walk.proofs.Reaching.{same_or_not}

abbrev good : NodeId → Result NodeId BddError
good a = Ok a

abbrev wrong : BddError → Result NodeId BddError
wrong e = Err e

-- ---- several questions

pub nothing_asked : (d : Diagram) → d.refused ≡ None → SoFar d d []
nothing_asked d live = record {
  vars = refl;
  budget = refl;
  keeps = λ a node. (node, refl);
  holds = λ fs h. h;
  live = live;
  was_live = λ e was. (cc (live, was));
}

pub have_asked : {A : Type 0} (d0 d : Diagram) (xs : List Truths) (r : A) → SoFar d0 d xs → HaveAsked {A = A} d0 d xs (Ok r)
have_asked d0 d xs r s = record { vars = s.vars; budget = s.budget; keeps = s.keeps; live = s.live; holds = s.holds; over = tt }

pub have_refused : {A : Type 0} (d0 d d' : Diagram) (xs ys all : List Truths) (f : Truths) (e : BddError) → d0.refused ≡ None → SoFar d0 d xs → IsAnswer d d' ys f (wrong e)
    → ((x : Truths) → Contains (ys ++ xs) x → Contains all x) → HaveAsked {A = A} d0 d' all (Err e)
have_refused d0 d d' xs ys all f e live s a sub =
    let b : IsAnswer d0 d' (ys ++ xs) f (wrong e) = after d0 d d' xs ys f s (wrong e) a in
    record {
      vars = b.vars;
      budget = b.budget;
      keeps = b.keeps;
      live = tt;
      holds = tt;
      over = λ is fs h. over_sub ((ys ++ xs) ++ fs) (all ++ fs) d0.table.budget (wide fs) (b.over live (ap wrong is) fs h);
    }
  where
    wide : (fs : List Truths) (x : Truths) → Contains ((ys ++ xs) ++ fs) x → Contains (all ++ fs) x
    wide fs x c = front fs x (Contains-append_cases (ys ++ xs) fs x c) where
      front : (fs : List Truths) (x : Truths) → Contains (ys ++ xs) x ⊎ Contains fs x → Contains (all ++ fs) x
      front fs x (inl c) = Contains-append_left all fs x (sub x c)
      front fs x (inr c) = Contains-append_right all fs x c

pub have_memory : {A : Type 0} (d0 d : Diagram) (xs all : List Truths) → SoFar d0 d xs → HaveAsked {A = A} d0 d all (Err Memory)
have_memory d0 d xs all s = record { vars = s.vars; budget = s.budget; keeps = s.keeps; live = tt; holds = tt; over = λ is. absurd (cc is) }

-- ---- the variables

pub all_set : (P : NodeId → Type 0) (xs : List NodeId) (i : ℕ) (a : NodeId) → i < length xs → All P xs → P a → All P (set xs i a)
all_set P xs i a within all p k d w = by (same_or_not k i) where
  by : (k ≡ i) ⊎ (k ≡ i → ⊥) → P (slice_index_or (set xs i a) k d)
  by (inl e) = subst P (sym (ap (λ (j : ℕ). slice_index_or (set xs i a) j d) e ∙ get_or-set_same xs i a d within)) p
  by (inr apart) = subst P (sym (get_or-set_other xs i k a d apart)) (all k d (omega (arith, w, length-set xs i a)))

-- the first k names in the order are bound
pub record IsBinding (d0 d : Diagram) (order : List ℕ) (k : ℕ) (b0 b : List NodeId) : Type 0 where
  pub so_far : SoFar d0 d (map (variable_list (length order)) (falling 0 k))
  pub nodes : AreNodes d b
  pub each : length b ≡ length b0
  pub goes : put_variables (length order) k (drop k order) (functions_of d b) ≡ put_variables (length order) 0 order (functions_of d0 b0)

pub none_bound : (d : Diagram) (order : List ℕ) (b : List NodeId) → d.refused ≡ None → AreNodes d b → IsBinding d d order 0 b b
none_bound d order b live nodes = record { so_far = nothing_asked d live; nodes = nodes; each = refl; goes = refl }

falling_more : (n k : ℕ) → map (variable_list n) (falling 0 (k + 1)) ≡ variable_list n k ∷ map (variable_list n) (falling 0 k)
falling_more n k =
    let e : 0 + k ≡ k = omega arith in
    ap (λ (j : ℕ). map (variable_list n) (falling 0 j)) (add-one k) ∙ ap (λ (j : ℕ). variable_list n j ∷ map (variable_list n) (falling 0 k)) e

pub bind_more : (d0 d d' : Diagram) (order : List ℕ) (k name : ℕ) (b0 b : List NodeId) (node : NodeId) → IsBinding d0 d order k b0 b → d0.table.vars ≡ length order
    → k < length order → name ≡ slice_index_or order k name → name < length b0
    → IsAnswer d d' (variable_list d.table.vars k ∷ []) (variable_list d.table.vars k) (good node) → IsBinding d0 d' order (k + 1) b0 (set b name node)
bind_more d0 d d' order k name b0 b node w long within is small a = record {
  so_far = subst (λ (xs : List Truths). SoFar d0 d' xs) (sym (falling_more n k)) (first d0 d' (variable_list n k ∷ xs) (variable_list n k) node next);
  nodes = all_set (λ a. IsNode d' a) b name node (omega (arith, small, w.each)) (bound_kept d d' b answer.keeps w.nodes) answer.ok.node;
  each = length-set b name node ∙ w.each;
  goes = functions ∙ sym one ∙ w.goes;
}
  where
    n : ℕ
    n = length order

    xs : List Truths
    xs = map (variable_list n) (falling 0 k)

    answer : IsAnswer d d' (variable_list n k ∷ []) (variable_list n k) (good node)
    answer = subst (λ (v : ℕ). IsAnswer d d' (variable_list v k ∷ []) (variable_list v k) (good node)) (w.so_far.vars ∙ long) a

    next : IsAnswer d0 d' (variable_list n k ∷ xs) (variable_list n k) (good node)
    next = after d0 d d' xs (variable_list n k ∷ []) (variable_list n k) w.so_far (good node) answer

    row : drop k order ≡ name ∷ drop (k + 1) order
    row = drop-cons order k name within ∙ ap (λ (x : ℕ). x ∷ drop (suc k) order) (sym is) ∙ ap (λ (j : ℕ). name ∷ drop j order) (sym (add-one k))

    one : put_variables n k (drop k order) (functions_of d b) ≡ put_variables n (suc k) (drop (k + 1) order) (set (functions_of d b) name (variable_list n k))
    one = ap (λ (ns : List ℕ). put_variables n k ns (functions_of d b)) row

    changed : functions_of d' (set b name node) ≡ set (functions_of d b) name (variable_list n k)
    changed =
        map-set (function_of d') b name node ∙ ap (λ (t : Truths). set (functions_of d' b) name t) answer.ok.is
        ∙ ap (λ (fs : List Truths). set fs name (variable_list n k)) (same_functions d d' b answer.keeps w.nodes)

    functions : put_variables n (k + 1) (drop (k + 1) order) (functions_of d' (set b name node)) ≡ put_variables n (suc k) (drop (k + 1) order) (set (functions_of d b) name (variable_list n k))
    functions = (λ j. put_variables n (add-one k j) (drop (k + 1) order) (changed j))

pub all_bound : (d0 d : Diagram) (order : List ℕ) (k : ℕ) (b0 b : List NodeId) → IsBinding d0 d order k b0 b → k ≡ length order → drop k order ≡ []
    → SoFar d0 d (variable_lists (length order)) × (functions_of d b ≡ put_variables (length order) 0 order (functions_of d0 b0))
all_bound d0 d order k b0 b w long end = (
  subst (λ (j : ℕ). SoFar d0 d (map (variable_list (length order)) (falling 0 j))) long w.so_far,
  sym (ap (λ (ns : List ℕ). put_variables (length order) k ns (functions_of d b)) end) ∙ w.goes,
)

falling_in : (v n k : ℕ) → k ≤ n → (x : Truths) → Contains (map (variable_list v) (falling 0 k)) x → Contains (map (variable_list v) (falling 0 n)) x
falling_in v zero k h x c = let e : k ≡ 0 = omega arith in subst (λ (j : ℕ). Contains (map (variable_list v) (falling 0 j)) x) e c
falling_in v (suc n) k h x c = by (cases_lt k (suc n)) (λ low. falling_in v n k low x c) where
  by : (k < suc n) ⊎ (suc n ≤ k) → (k ≤ n → Contains (map (variable_list v) (falling 0 n)) x) → Contains (map (variable_list v) (falling 0 (suc n))) x
  by (inl low) rest = Contains-append_right (variable_list v (0 + n) ∷ []) (map (variable_list v) (falling 0 n)) x (rest (omega arith))
  by (inr high) rest = let e : k ≡ suc n = omega (arith, h, high) in subst (λ (j : ℕ). Contains (map (variable_list v) (falling 0 j)) x) e c

pub bind_refused : {A : Type 0} (d0 d d' : Diagram) (order : List ℕ) (k : ℕ) (b0 b : List NodeId) (e : BddError) → d0.refused ≡ None → IsBinding d0 d order k b0 b
    → d0.table.vars ≡ length order → k < length order → IsAnswer d d' (variable_list d.table.vars k ∷ []) (variable_list d.table.vars k) (wrong e)
    → HaveAsked {A = A} d0 d' (variable_lists (length order)) (Err e)
bind_refused d0 d d' order k b0 b e live w long within a =
    let n = length order in
    let answer : IsAnswer d d' (variable_list n k ∷ []) (variable_list n k) (wrong e) =
    subst (λ (v : ℕ). IsAnswer d d' (variable_list v k ∷ []) (variable_list v k) (wrong e)) (w.so_far.vars ∙ long) a in
    have_refused d0 d d' (map (variable_list n) (falling 0 k)) (variable_list n k ∷ []) (variable_lists n) (variable_list n k) e live w.so_far answer
    (λ x c. falling_in n n (k + 1) (omega (arith, within)) x (subst (λ (xs : List Truths). Contains xs x) (sym (falling_more n k)) c))

-- ---- the equations

-- the names of the first i equations are bound
pub record IsTying (d0 d : Diagram) (met : List Bool) (es : List Equation) (i : ℕ) (b0 b : List NodeId) : Type 0 where
  pub asked : List Truths
  pub so_far : SoFar d0 d asked
  pub nodes : AreNodes d b
  pub each : length b ≡ length b0 + i
  pub goes : bound_lists d0.table.vars met (functions_of d b) (drop i es) ≡ bound_lists d0.table.vars met (functions_of d0 b0) es
  pub asks : asked_by d0.table.vars met (functions_of d b) (drop i es) ++ asked ≡ asked_by d0.table.vars met (functions_of d0 b0) es

pub none_tied : (d : Diagram) (met : List Bool) (es : List Equation) (b : List NodeId) → d.refused ≡ None → AreNodes d b → IsTying d d met es 0 b b
none_tied d met es b live nodes = record {
  asked = [];
  so_far = nothing_asked d live;
  nodes = nodes;
  each = omega arith;
  goes = refl;
  asks = append-nil (asked_by d.table.vars met (functions_of d b) es);
}

-- what the equation asks for whose name is the next
abbrev pub next_asked : ℕ → List Bool → List Truths → Equation → List Truths
next_asked n met lists e = if bit met (length lists) then asked_of n lists e.expr else []

map-push : (f : NodeId → Truths) (b : List NodeId) (a : NodeId) → map f (b ++ a ∷ []) ≡ map f b ++ f a ∷ []
map-push f [] a = refl
map-push f (x ∷ b) a = ap (λ (ts : List Truths). f x ∷ ts) (map-push f b a)

module _ (d0 d : Diagram) (met : List Bool) (es : List Equation) (i : ℕ) (b0 b : List NodeId) (w : IsTying d0 d met es i b0 b) (x : Equation)
    (row : drop i es ≡ x ∷ drop (i + 1) es) where
  -- the name of the next equation is bound to a node of its function
  tie_more : (d' : Diagram) (node : NodeId) → SoFar d0 d' (next_asked d0.table.vars met (functions_of d b) x ++ w.asked) → Keeps d d' → IsNode d' node
      → function_of d' node ≡ next_list d0.table.vars met (functions_of d b) x → IsTying d0 d' met es (i + 1) b0 (b ++ node ∷ [])
  tie_more d' node s keeps is_node is = record {
    asked = next_asked n met fs x ++ w.asked;
    so_far = s;
    nodes = All-push (λ a. IsNode d' a) b node (bound_kept d d' b keeps w.nodes) is_node;
    each = length-append b (node ∷ []) ∙ omega (arith, w.each);
    goes = ap (λ (ts : List Truths). bound_lists n met ts (drop (i + 1) es)) pushed ∙ sym (ap (λ (xs : List Equation). bound_lists n met fs xs) row) ∙ w.goes;
    asks =
        ap (λ (ts : List Truths). asked_by n met ts (drop (i + 1) es) ++ (next_asked n met fs x ++ w.asked)) pushed
        ∙ sym (append_assoc (asked_by n met (fs ++ next_list n met fs x ∷ []) (drop (i + 1) es)) (next_asked n met fs x) w.asked)
        ∙ sym (ap (λ (xs : List Equation). asked_by n met fs xs ++ w.asked) row) ∙ w.asks;
  }
    where
      n : ℕ
      n = d0.table.vars

      fs : List Truths
      fs = functions_of d b

      pushed : functions_of d' (b ++ node ∷ []) ≡ fs ++ next_list n met fs x ∷ []
      pushed =
          map-push (function_of d') b node
          ∙ (λ j. same_functions d d' b keeps w.nodes j ++ is j ∷ [])

  long : length (functions_of d b) ≡ length b
  long = length-map b (function_of d)

  -- it is met
  pub tie_met : (d' : Diagram) (node : NodeId) → bit met (length b) ≡ true → IsAnswerOf d d' b x.expr (good node) → IsTying d0 d' met es (i + 1) b0 (b ++ node ∷ [])
  tie_met d' node marked a =
      let n = d0.table.vars in
      let fs = functions_of d b in
      let on : bit met (length fs) ≡ true = ap (bit met) long ∙ marked in
      let answer : IsAnswer d d' (asked_of n fs x.expr) (denoted n fs x.expr) (good node) =
      subst (λ (v : ℕ). IsAnswer d d' (asked_of v fs x.expr) (denoted v fs x.expr) (good node)) w.so_far.vars a in
      let next : IsAnswer d0 d' (asked_of n fs x.expr ++ w.asked) (denoted n fs x.expr) (good node) = after d0 d d' w.asked (asked_of n fs x.expr) (denoted n fs x.expr) w.so_far (good node) answer in
      let asks : next_asked n met fs x ≡ asked_of n fs x.expr = ap (λ (c : Bool). if c then asked_of n fs x.expr else []) on in
      let lists : next_list n met fs x ≡ denoted n fs x.expr = ap (λ (c : Bool). if c then denoted n fs x.expr else raised n (constant false)) on in
      tie_more d' node
      (subst (λ (ts : List Truths). SoFar d0 d' (ts ++ w.asked)) (sym asks) (first d0 d' (asked_of n fs x.expr ++ w.asked) (denoted n fs x.expr) node next))
      answer.keeps answer.ok.node (answer.ok.is ∙ sym lists)

  -- it isn't met
  pub tie_other : (zero_node : NodeId) → bit met (length b) ≡ false → IsNode d0 zero_node → function_of d0 zero_node ≡ raised d0.table.vars (constant false)
      → IsTying d0 d met es (i + 1) b0 (b ++ zero_node ∷ [])
  tie_other zero_node marked is_node is =
      let n = d0.table.vars in
      let fs = functions_of d b in
      let off : bit met (length fs) ≡ false = ap (bit met) long ∙ marked in
      let asks : next_asked n met fs x ≡ [] = ap (λ (c : Bool). if c then asked_of n fs x.expr else []) off in
      let lists : next_list n met fs x ≡ raised n (constant false) = ap (λ (c : Bool). if c then denoted n fs x.expr else raised n (constant false)) off in
      let kept = w.so_far.keeps zero_node is_node in
      tie_more d zero_node (subst (λ (ts : List Truths). SoFar d0 d (ts ++ w.asked)) (sym asks) w.so_far) (λ a node. (node, refl)) kept.0 (kept.1 ∙ is ∙ sym lists)

  -- it is refused
  pub tie_refused : {A : Type 0} (d' : Diagram) (e : BddError) → d0.refused ≡ None → bit met (length b) ≡ true → IsAnswerOf d d' b x.expr (wrong e)
      → HaveAsked {A = A} d0 d' (asked_by d0.table.vars met (functions_of d0 b0) es) (Err e)
  tie_refused d' e live marked a =
      let n = d0.table.vars in
      let fs = functions_of d b in
      let on : bit met (length fs) ≡ true = ap (bit met) long ∙ marked in
      let answer : IsAnswer d d' (asked_of n fs x.expr) (denoted n fs x.expr) (wrong e) =
      subst (λ (v : ℕ). IsAnswer d d' (asked_of v fs x.expr) (denoted v fs x.expr) (wrong e)) w.so_far.vars a in
      let asks : next_asked n met fs x ≡ asked_of n fs x.expr = ap (λ (c : Bool). if c then asked_of n fs x.expr else []) on in
      let rest = asked_by n met (fs ++ next_list n met fs x ∷ []) (drop (i + 1) es) in
      let all : rest ++ (asked_of n fs x.expr ++ w.asked) ≡ asked_by n met (functions_of d0 b0) es =
      ap (λ (ts : List Truths). rest ++ (ts ++ w.asked)) (sym asks) ∙ sym (append_assoc rest (next_asked n met fs x) w.asked)
      ∙ sym (ap (λ (xs : List Equation). asked_by n met fs xs ++ w.asked) row) ∙ w.asks in
      have_refused d0 d d' w.asked (asked_of n fs x.expr) (asked_by n met (functions_of d0 b0) es) (denoted n fs x.expr) e live w.so_far answer
      (λ t c. subst (λ (ts : List Truths). Contains ts t) all (Contains-append_right rest (asked_of n fs x.expr ++ w.asked) t c))

pub all_tied : (d0 d : Diagram) (met : List Bool) (es : List Equation) (i : ℕ) (b0 b : List NodeId) → IsTying d0 d met es i b0 b → drop i es ≡ []
    → SoFar d0 d (asked_by d0.table.vars met (functions_of d0 b0) es) × (functions_of d b ≡ bound_lists d0.table.vars met (functions_of d0 b0) es)
all_tied d0 d met es i b0 b w end = (
  subst (λ (xs : List Truths). SoFar d0 d xs) (sym (ap (λ (xs : List Equation). asked_by d0.table.vars met (functions_of d b) xs ++ w.asked) end) ∙ w.asks) w.so_far,
  sym (ap (λ (xs : List Equation). bound_lists d0.table.vars met (functions_of d b) xs) end) ∙ w.goes,
)

-- ---- a name, met or not

view_index : (es : List EquationParts) (i : ℕ) (q : EquationParts) → slice_index_or (map equation_view es) i (equation_view q) ≡ equation_view (slice_index_or es i q)
view_index [] i q = refl
view_index (e ∷ es) zero q = refl
view_index (e ∷ es) (suc i) q = view_index es i q

pub equation_row : (es : List EquationParts) (i : ℕ) (q : EquationParts) → i < length es → q ≡ slice_index_or es i q
    → drop i (map equation_view es) ≡ equation_view q ∷ drop (i + 1) (map equation_view es)
equation_row es i q within is =
    drop-cons (map equation_view es) i (equation_view q) (omega (arith, within, length-map es equation_view))
    ∙ ap (λ (x : Equation). x ∷ drop (suc i) (map equation_view es)) (view_index es i q ∙ ap equation_view (sym is))
    ∙ ap (λ (j : ℕ). equation_view q ∷ drop j (map equation_view es)) (sym (add-one i))

module _ (d0 d d' : Diagram) (met : List Bool) (es : List Equation) (i : ℕ) (b0 b bs : List NodeId) (len : ℕ) (w : IsTying d0 d met es i b0 b) (x : Equation)
    (row : drop i es ≡ x ∷ drop (i + 1) es) (same : bs ≡ b) (count : len ≡ length b) (zero_node : NodeId)
    (nought : IsNode d0 zero_node × (function_of d0 zero_node ≡ raised d0.table.vars (constant false))) where
  pub tie_name : (node : NodeId) → (bit met len ≡ true → IsAnswerOf d d' bs x.expr (good node)) → (bit met len ≡ false → (d' ≡ d) × (good node ≡ good zero_node))
      → IsTying d0 d' met es (i + 1) b0 (b ++ node ∷ [])
  tie_name node mets others = by (bit met len) refl where
    by : (c : Bool) → bit met len ≡ c → IsTying d0 d' met es (i + 1) b0 (b ++ node ∷ [])
    by true e =
        tie_met d0 d met es i b0 b w x row d' node (subst (λ (n : ℕ). bit met n ≡ true) count e) (subst (λ (xs : List NodeId). IsAnswerOf d d' xs x.expr (good node)) same (mets e))
    by false e =
        let o = others e in
        let is : node ≡ zero_node = cc (o.1) in
        subst (λ (y : Diagram). IsTying d0 y met es (i + 1) b0 (b ++ node ∷ [])) (sym o.0)
        (subst (λ (a : NodeId). IsTying d0 d met es (i + 1) b0 (b ++ a ∷ [])) (sym is)
        (tie_other d0 d met es i b0 b w x row zero_node (subst (λ (n : ℕ). bit met n ≡ false) count e) nought.0 nought.1))

  pub name_refused : {A : Type 0} (e : BddError) → d0.refused ≡ None → (bit met len ≡ true → IsAnswerOf d d' bs x.expr (wrong e)) → (bit met len ≡ false → (d' ≡ d) × (wrong e ≡ good zero_node))
      → HaveAsked {A = A} d0 d' (asked_by d0.table.vars met (functions_of d0 b0) es) (Err e)
  name_refused {A = A} e live mets others = by (bit met len) refl where
    by : (c : Bool) → bit met len ≡ c → HaveAsked {A = A} d0 d' (asked_by d0.table.vars met (functions_of d0 b0) es) (Err e)
    by true is =
        tie_refused d0 d met es i b0 b w x row {A = A} d' e live (subst (λ (n : ℕ). bit met n ≡ true) count is) (subst (λ (xs : List NodeId). IsAnswerOf d d' xs x.expr (wrong e)) same (mets is))
    by false is = let o = others is in absurd (cc (o.1))
