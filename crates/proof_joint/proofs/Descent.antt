-- The way to bits on which two functions differ.
use Rattle.std.proofs.Common.{◌≡◌, ◌↔◌, ◌⊎◌, inl, inr, ℕ, zero, suc, ◌+◌, ◌-◌, ◌<◌, ◌≤◌, Bool, true, false, List, [], ◌∷◌, ◌++◌, length, IsTrue, refl, sym, ap, subst, ◌∙◌, arith, append_assoc, append-nil, add-one, length-append, if◌then◌else◌}
use Rattle.std.proofs.lemmas.Bool.{cases_lt}
use Rattle.bdd_core.specs.declared.node.NodeId.{NodeId}
use Rattle.bdd_core.specs.Truths.{Truths, constant, halves, truths}
use Rattle.bdd_core.specs.Nodes.{raised}
use Rattle.bdd_core.specs.Branching.{held, IsBranch}
use Rattle.bdd_core.specs.Diagram.{Diagram, IsNode, function_of}
use Rattle.proof_joint.specs.Bits.{Computes}

-- ---- a variable behind others

held_raised : (k j : ℕ) (x : Bool) (t : Truths) → k < j → held k x (raised j t) ≡ raised j t
held_raised k zero x t h = absurd (omega arith)
held_raised zero (suc j) true t h = refl
held_raised zero (suc j) false t h = refl
held_raised (suc k) (suc j) x t h = let i = held_raised k j x t (omega arith) in λ j. halves (i j) (i j)

held_low : (v : ℕ) (a b : Truths) → held v false (raised v (halves a b)) ≡ raised (suc v) a
held_low zero a b = refl
held_low (suc v) a b = let i = held_low v a b in λ j. halves (i j) (i j)

held_high : (v : ℕ) (a b : Truths) → held v true (raised v (halves a b)) ≡ raised (suc v) b
held_high zero a b = refl
held_high (suc v) a b = let i = held_high v a b in λ j. halves (i j) (i j)

same_raised : (j : ℕ) (a b : Truths) → raised j a ≡ raised j b → a ≡ b
same_raised zero a b e = e
same_raised (suc j) a b e = same_raised j a b (cc)

raised_twice : (v : ℕ) (a : Truths) → raised v (halves a a) ≡ raised (suc v) a
raised_twice zero a = refl
raised_twice (suc v) a = let i = raised_twice v a in λ j. halves (i j) (i j)

raised_sum : (v r : ℕ) (t : Truths) → raised (v + r) t ≡ raised v (raised r t)
raised_sum zero r t = let e : 0 + r ≡ r = omega arith in ap (λ (k : ℕ). raised k t) e
raised_sum (suc v) r t =
    let e : suc v + r ≡ suc (v + r) = omega arith in
    let i = raised_sum v r t in
    ap (λ (k : ℕ). raised k t) e ∙ (λ j. halves (i j) (i j))

first_half : (a b c d : Truths) → halves a b ≡ halves c d → (a ≡ c) × (b ≡ d)
first_half a b c d e = (cc e, cc e)

-- ---- one step down

module _ (vars v : ℕ) (within : v < vars) (f a b : Truths) (is : f ≡ raised v (halves a b)) where
  pub branch_low : (low : Truths) → low ≡ held v false f → low ≡ raised (v + 1) a
  branch_low low e = e ∙ ap (held v false) is ∙ held_low v a b ∙ ap (λ (k : ℕ). raised k a) (sym (add-one v))

  pub branch_high : (high : Truths) → high ≡ held v true f → high ≡ raised (v + 1) b
  branch_high high e = e ∙ ap (held v true) is ∙ held_high v a b ∙ ap (λ (k : ℕ). raised k b) (sym (add-one v))

  both_halves : a ≡ b → (f ≡ raised (v + 1) a) × (f ≡ raised (v + 1) b)
  both_halves e =
      let one : f ≡ raised (v + 1) a = is ∙ ap (λ (t : Truths). raised v (halves a t)) (sym e) ∙ raised_twice v a ∙ ap (λ (k : ℕ). raised k a) (sym (add-one v)) in
      (one, one ∙ ap (raised (v + 1)) e)

  -- the function doesn't depend on the variable: another one is its first
  pub other_branch : (variable : ℕ) (low high : Truths) → IsBranch vars f variable low high → (variable ≡ v → ⊥) → (f ≡ raised (v + 1) a) × (f ≡ raised (v + 1) b)
  other_branch variable low high w apart = by (cases_lt variable v) (cases_lt v variable) where
    early : variable < v → ⊥
    early less = w.depends (
        ap (held variable false) is ∙ held_raised variable v false (halves a b) less
        ∙ sym (ap (held variable true) is ∙ held_raised variable v true (halves a b) less))

    late : v < variable → a ≡ b
    late less = same_raised (suc v) a b (sym (ap (held v false) is ∙ held_low v a b) ∙ w.first v less ∙ (ap (held v true) is ∙ held_high v a b))

    by : (variable < v) ⊎ (v ≤ variable) → (v < variable) ⊎ (variable ≤ v) → (f ≡ raised (v + 1) a) × (f ≡ raised (v + 1) b)
    by (inl less) _ = absurd (early less)
    by (inr more) (inl less) = both_halves (late less)
    by (inr more) (inr same) = absurd (apart (omega (arith, more, same)))

  -- or it is constant
  pub no_branch : (c : Bool) → f ≡ raised vars (constant c) → (f ≡ raised (v + 1) a) × (f ≡ raised (v + 1) b)
  no_branch c e =
      constant_from (vars - (v + 1)) (omega (arith, within))
    where
      constant_from : (r : ℕ) → vars ≡ v + suc r → (f ≡ raised (v + 1) a) × (f ≡ raised (v + 1) b)
      constant_from r n =
          let all : raised v (halves a b) ≡ raised v (halves (raised r (constant c)) (raised r (constant c))) =
          sym is ∙ e ∙ ap (λ (k : ℕ). raised k (constant c)) n ∙ raised_sum v (suc r) (constant c) in
          let parts = first_half a b (raised r (constant c)) (raised r (constant c)) (same_raised v (halves a b) (halves (raised r (constant c)) (raised r (constant c))) all) in
          both_halves (parts.0 ∙ sym parts.1)

-- ---- the way down

-- with these bits in front, the two functions go on as those of two nodes, and still differ
pub record AreApart (d : Diagram) (first second root other : NodeId) (v : ℕ) (bits : List Bool) : Type 0 where
  pub count : length bits ≡ v
  pub root_node : IsNode d root
  pub other_node : IsNode d other
  pub apart : function_of d root ≡ function_of d other → ⊥
  pub root_is : (g : List Bool → Bool) → Computes d first g → function_of d root ≡ raised v (truths (d.table.vars - v) (λ w. g (bits ++ w)))
  pub other_is : (g : List Bool → Bool) → Computes d second g → function_of d other ≡ raised v (truths (d.table.vars - v) (λ w. g (bits ++ w)))

pub none_taken : (d : Diagram) (first second : NodeId) → IsNode d first → IsNode d second → (function_of d first ≡ function_of d second → ⊥)
    → AreApart d first second first second 0 []
none_taken d first second node other apart =
    let e : d.table.vars ≡ d.table.vars - 0 = omega arith in
    record {
      count = refl;
      root_node = node;
      other_node = other;
      apart = apart;
      root_is = λ g c. c.is ∙ ap (λ (n : ℕ). truths n g) e;
      other_is = λ g c. c.is ∙ ap (λ (n : ℕ). truths n g) e;
    }

-- the halves of what goes on
abbrev pub half : Diagram → ℕ → List Bool → (List Bool → Bool) → Bool → Truths
half d v bits g b = truths (d.table.vars - (v + 1)) (λ w. g (bits ++ b ∷ w))

pub in_halves : (d : Diagram) (v : ℕ) (bits : List Bool) (g : List Bool → Bool) (f : Truths) → v < d.table.vars → f ≡ raised v (truths (d.table.vars - v) (λ w. g (bits ++ w)))
    → f ≡ raised v (halves (half d v bits g false) (half d v bits g true))
in_halves d v bits g f less is =
    let e : d.table.vars - v ≡ suc (d.table.vars - (v + 1)) = omega (arith, less) in
    is ∙ ap (λ (n : ℕ). raised v (truths n (λ w. g (bits ++ w)))) e

pub half_again : (d : Diagram) (v : ℕ) (bits : List Bool) (g : List Bool → Bool) (b : Bool) → half d v bits g b ≡ truths (d.table.vars - (v + 1)) (λ w. g ((bits ++ b ∷ []) ++ w))
half_again d v bits g b = λ j. truths (d.table.vars - (v + 1)) (λ w. g (sym (append_assoc bits (b ∷ []) w) j))

-- what is known of the halves of a node
abbrev pub HasHalves : Diagram → NodeId → ℕ → NodeId → NodeId → Type 0
HasHalves d node v low high =
    (a b : Truths) → function_of d node ≡ raised v (halves a b) → (function_of d low ≡ raised (v + 1) a) × (function_of d high ≡ raised (v + 1) b)

module _ (d : Diagram) (first second root other : NodeId) (v : ℕ) (bits : List Bool) (w : AreApart d first second root other v bits) (less : v < d.table.vars)
    (g h : List Bool → Bool) (cg : Computes d first g) (ch : Computes d second h) (low high low2 high2 : NodeId)
    (nl : IsNode d low) (nh : IsNode d high) (nl2 : IsNode d low2) (nh2 : IsNode d high2) (parts : HasHalves d root v low high) (parts2 : HasHalves d other v low2 high2) where
  abbrev a : (List Bool → Bool) → Bool → Truths
  a f b = half d v bits f b

  go_low : (function_of d low ≡ function_of d low2 → ⊥) → AreApart d first second low low2 (v + 1) (bits ++ false ∷ [])
  go_low apart = record {
    count = length-append bits (false ∷ []) ∙ omega (arith, w.count);
    root_node = nl;
    other_node = nl2;
    apart = apart;
    root_is = λ f c. (parts (a f false) (a f true) (in_halves d v bits f (function_of d root) less (w.root_is f c))).0 ∙ ap (raised (v + 1)) (half_again d v bits f false);
    other_is = λ f c. (parts2 (a f false) (a f true) (in_halves d v bits f (function_of d other) less (w.other_is f c))).0 ∙ ap (raised (v + 1)) (half_again d v bits f false);
  }

  go_high : function_of d low ≡ function_of d low2 → AreApart d first second high high2 (v + 1) (bits ++ true ∷ [])
  go_high same = record {
    count = length-append bits (true ∷ []) ∙ omega (arith, w.count);
    root_node = nh;
    other_node = nh2;
    apart = apart;
    root_is = λ f c. (parts (a f false) (a f true) (in_halves d v bits f (function_of d root) less (w.root_is f c))).1 ∙ ap (raised (v + 1)) (half_again d v bits f true);
    other_is = λ f c. (parts2 (a f false) (a f true) (in_halves d v bits f (function_of d other) less (w.other_is f c))).1 ∙ ap (raised (v + 1)) (half_again d v bits f true);
  }
    where
      apart : function_of d high ≡ function_of d high2 → ⊥
      apart e =
          let one = in_halves d v bits g (function_of d root) less (w.root_is g cg) in
          let two = in_halves d v bits h (function_of d other) less (w.other_is h ch) in
          let p = parts (a g false) (a g true) one in
          let q = parts2 (a h false) (a h true) two in
          let lows = same_raised (v + 1) (a g false) (a h false) (sym p.0 ∙ same ∙ q.0) in
          let highs = same_raised (v + 1) (a g true) (a h true) (sym p.1 ∙ e ∙ q.1) in
          w.apart (one ∙ (λ j. raised v (halves (lows j) (highs j))) ∙ sym two)

  pub step : (is_high : Bool) (root' other' : NodeId) → (IsTrue is_high ↔ (function_of d low ≡ function_of d low2)) → root' ≡ (if is_high then high else low)
      → other' ≡ (if is_high then high2 else low2) → AreApart d first second root' other' (v + 1) (bits ++ is_high ∷ [])
  step true root' other' same r o =
      subst (λ (x : NodeId). AreApart d first second x other' (v + 1) (bits ++ true ∷ [])) (sym r)
      (subst (λ (x : NodeId). AreApart d first second high x (v + 1) (bits ++ true ∷ [])) (sym o) (go_high (same.0 refl)))
  step false root' other' same r o =
      subst (λ (x : NodeId). AreApart d first second x other' (v + 1) (bits ++ false ∷ [])) (sym r)
      (subst (λ (x : NodeId). AreApart d first second low x (v + 1) (bits ++ false ∷ [])) (sym o) (go_low (λ e. absurd (let t = same.1 e in cc t))))

-- behind all variables the values differ
pub apart_in_end : (d : Diagram) (first second root other : NodeId) (v : ℕ) (bits : List Bool) → AreApart d first second root other v bits → v ≡ d.table.vars
    → (g h : List Bool → Bool) → Computes d first g → Computes d second h → g bits ≡ h bits → ⊥
apart_in_end d first second root other v bits w end g h cg ch same =
    let none : d.table.vars - v ≡ 0 = omega (arith, end) in
    let last : (f : List Bool → Bool) → raised v (truths (d.table.vars - v) (λ w. f (bits ++ w))) ≡ raised v (constant (f bits)) =
    λ f. ap (λ (n : ℕ). raised v (truths n (λ w. f (bits ++ w)))) none ∙ ap (λ (l : List Bool). raised v (constant (f l))) (append-nil bits) in
    w.apart (w.root_is g cg ∙ last g ∙ ap (λ (b : Bool). raised v (constant b)) same ∙ sym (w.other_is h ch ∙ last h))
