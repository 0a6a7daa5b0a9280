-- What passes a derived test of equality.
use Rattle.std.proofs.Common.{◌≡◌, ◌⊎◌, inl, inr, ℕ, zero, suc, ◌<◌, Bool, true, false, cond, ◌&&◌, ◌==◌, List, [], ◌∷◌, ◌++◌, None, Some, refl, sym, ap, subst, ◌∙◌, arith}
use Rattle.std.specs.List.{Contains, slice_index_or, list_any}
use Rattle.std.specs.Map.{lookup}
use Rattle.std.proofs.lemmas.Bool.{eqb-true, eq-eqb}
use Rattle.std.proofs.lemmas.List.Elements.{Contains-get_or, Contains-append_left, Contains-append_right, Contains-append_cases}
use Rattle.std.specs.contracts.prelude.BoolPartialEq.TheImpl as bool_eq
use Rattle.indexmap.specs.IndexMap.{insert_entry}
use Rattle.bdd_core.specs.declared.node.NodeId.{NodeId}
use Rattle.bdd_core.specs.contracts.node.NodeIdPartialEq.TheImpl.{eq-value}
use Rattle.boom_literal.specs.declared.literal.Literal.{Literal}
use Rattle.boom_literal.specs.declared.literal.Literal.TheVariants.{Constant, Name}
use Rattle.boom_muxes.specs.declared.mux.Mux.{Mux}
use Rattle.boom_literal.specs.contracts.literal.LiteralPartialEq.TheImpl as literal_test
use Rattle.boom_muxes.specs.contracts.mux.MuxPartialEq.TheImpl as mux_test

both : (a b : Bool) → (a && b) ≡ true → (a ≡ true) × (b ≡ true)
both true b h = (refl, h)
both false b h = absurd (cc h)

both_true : (a b : Bool) → a ≡ true → b ≡ true → (a && b) ≡ true
both_true a b p q = rw (p, q) refl

-- ---- choices

abbrev pub literal_eq : Literal → Literal → Bool
literal_eq = literal_test.ghosts.eq

abbrev pub mux_eq : Mux → Mux → Bool
mux_eq = mux_test.ghosts.eq

same_bool : (a b : Bool) → bool_eq.ghosts.eq a b ≡ true → a ≡ b
same_bool true true h = refl
same_bool false false h = refl
same_bool true false h = absurd (cc h)
same_bool false true h = absurd (cc h)

bool_itself : (b : Bool) → bool_eq.ghosts.eq b b ≡ true
bool_itself true = refl
bool_itself false = refl

literal_same : (a b : Literal) → literal_eq a b ≡ true → a ≡ b
literal_same (Constant a) (Constant b) h = ap Constant (same_bool a b h)
literal_same (Name a) (Name b) h = ap Name (eqb-true a b h)
literal_same (Constant a) (Name b) h = absurd (cc h)
literal_same (Name a) (Constant b) h = absurd (cc h)

literal_itself : (a : Literal) → literal_eq a a ≡ true
literal_itself (Constant b) = bool_itself b
literal_itself (Name k) = eq-eqb k k refl

pub mux_same : (a b : Mux) → mux_eq a b ≡ true → a ≡ b
mux_same a b h =
    let p = both (a.select == b.select) (literal_eq a.low b.low && literal_eq a.high b.high) h in
    let q = both (literal_eq a.low b.low) (literal_eq a.high b.high) p.1 in
    let s = eqb-true a.select b.select p.0 in
    let l = literal_same a.low b.low q.0 in
    let u = literal_same a.high b.high q.1 in
    λ j. record { select = s j; low = l j; high = u j }

-- a choice that isn't there
pub none_equal : (xs : List Mux) (x : Mux) → (Contains xs x → ⊥) → list_any (mux_eq x) xs ≡ false
none_equal [] x absent = refl
none_equal (y ∷ xs) x absent = by (mux_eq x y) refl (none_equal xs x (λ c. absent (Contains-append_right (y ∷ []) xs x c))) where
  by : (b : Bool) → mux_eq x y ≡ b → list_any (mux_eq x) xs ≡ false → list_any (mux_eq x) (y ∷ xs) ≡ false
  by true e rest =
      let same : y ≡ x = sym (mux_same x y e) in
      absurd (absent (subst (λ (z : Mux). Contains (y ∷ xs) z) same (Contains-append_left (y ∷ []) xs y (Contains-get_or (y ∷ []) 0 y (omega arith)))))
  by false e rest = rw (e, rest) refl

mux_itself : (a : Mux) → mux_eq a a ≡ true
mux_itself a =
    both_true (a.select == a.select) (literal_eq a.low a.low && literal_eq a.high a.high) (eq-eqb a.select a.select refl)
    (both_true (literal_eq a.low a.low) (literal_eq a.high a.high) (literal_itself a.low) (literal_itself a.high))

-- a choice that no other is equal to isn't there
pub not_there : (xs : List Mux) (x : Mux) → list_any (mux_eq x) xs ≡ false → Contains xs x → ⊥
not_there [] x h c = let less : c.0 < 0 = c.1 in omega (arith, less)
not_there (y ∷ xs) x h c = by (mux_eq x y) refl (Contains-append_cases (y ∷ []) xs x c) (λ e q. not_there xs x e q) where
  by : (b : Bool) → mux_eq x y ≡ b → Contains (y ∷ []) x ⊎ Contains xs x → (list_any (mux_eq x) xs ≡ false → Contains xs x → ⊥) → ⊥
  by true e q rest = absurd (let no : true ≡ false = sym (rw e refl) ∙ h in cc no)
  by false e (inl q) rest = absurd (let same : y ≡ x = alone q.0 q.1 q.2 in let no : true ≡ false = sym (mux_itself x) ∙ ap (mux_eq x) (sym same) ∙ e in cc no) where
    alone : (i : ℕ) → i < 1 → slice_index_or (y ∷ []) i x ≡ x → y ≡ x
    alone zero w is = is
    alone (suc i) w is = absurd (omega arith)
  by false e (inr q) rest = rest (rw e at h) q

-- ---- nodes

node_same : (a b : NodeId) → eq-value.it a b ≡ true → a ≡ b
node_same a b h = let e = eqb-true a.place b.place h in λ j. record { place = e j }

node_itself : (a : NodeId) → eq-value.it a a ≡ true
node_itself a = eq-eqb a.place a.place refl

pub looked_up : (es : List (NodeId × Literal)) (k : NodeId) (v : Literal) → lookup (eq-value.it k) es ≡ Some v → Contains es (k, v)
looked_up [] k v e = (cc)
looked_up (x ∷ es) k v e = by (eq-value.it k x.0) refl (λ f. looked_up es k v f)
  where
    by : (b : Bool) → eq-value.it k x.0 ≡ b → (lookup (eq-value.it k) es ≡ Some v → Contains es (k, v)) → Contains (x ∷ es) (k, v)
    by true t rest =
        let value : Some x.1 ≡ Some v = sym (ap (λ (b : Bool). cond b (Some x.1) (lookup (eq-value.it k) es)) t) ∙ e in
        let key : k ≡ x.0 = node_same k x.0 t in
        let is : x.1 ≡ v = (cc) in
        let here : x ≡ (k, v) = λ j. (sym key j, is j) in
        subst (λ (p : NodeId × Literal). Contains (x ∷ es) p) here (Contains-get_or (x ∷ es) 0 x (omega arith))
    by false t rest = Contains-append_right (x ∷ []) es (k, v) (rest (sym (ap (λ (b : Bool). cond b (Some x.1) (lookup (eq-value.it k) es)) t) ∙ e))

pair_alone : (x p : NodeId × Literal) → Contains (x ∷ []) p → x ≡ p
pair_alone x p c = by c.0 c.1 c.2 where
  by : (i : ℕ) → i < 1 → slice_index_or (x ∷ []) i p ≡ p → x ≡ p
  by zero w f = f
  by (suc i) w f = absurd (omega arith)

pub not_looked_up : (es : List (NodeId × Literal)) (k : NodeId) (l : Literal) → lookup (eq-value.it k) es ≡ None → Contains es (k, l) → ⊥
not_looked_up [] k l e c = let less : c.0 < 0 = c.1 in omega (arith, less)
not_looked_up (x ∷ es) k l e c = by (eq-value.it k x.0) refl (Contains-append_cases (x ∷ []) es (k, l) c) (λ f q. not_looked_up es k l f q)
  where
    by : (b : Bool) → eq-value.it k x.0 ≡ b → Contains (x ∷ []) (k, l) ⊎ Contains es (k, l) → (lookup (eq-value.it k) es ≡ None → Contains es (k, l) → ⊥) → ⊥
    by true t q rest = absurd (let no : Some x.1 ≡ None = sym (ap (λ (b : Bool). cond b (Some x.1) (lookup (eq-value.it k) es)) t) ∙ e in cc no)
    by false t (inl q) rest =
        let key : x.0 ≡ k = ap (λ (p : NodeId × Literal). p.0) (pair_alone x (k, l) q) in
        absurd (let no : true ≡ false = sym (node_itself k) ∙ ap (eq-value.it k) (sym key) ∙ t in cc no)
    by false t (inr q) rest = rest (sym (ap (λ (b : Bool). cond b (Some x.1) (lookup (eq-value.it k) es)) t) ∙ e) q

pub put_last : (es : List (NodeId × Literal)) (k : NodeId) (l : Literal) → ((v : Literal) → Contains es (k, v) → ⊥) → insert_entry eq-value.it es k l ≡ es ++ (k, l) ∷ []
put_last [] k l absent = refl
put_last (x ∷ es) k l absent = by (eq-value.it k x.0) refl (put_last es k l (λ v c. absent v (Contains-append_right (x ∷ []) es (k, v) c)))
  where
    by : (b : Bool) → eq-value.it k x.0 ≡ b → insert_entry eq-value.it es k l ≡ es ++ (k, l) ∷ [] → insert_entry eq-value.it (x ∷ es) k l ≡ x ∷ (es ++ (k, l) ∷ [])
    by true t rest =
        let key : x.0 ≡ k = sym (node_same k x.0 t) in
        let here : x ≡ (k, x.1) = λ j. (key j, x.1) in
        absurd (absent x.1 (subst (λ (p : NodeId × Literal). Contains (x ∷ es) p) here (Contains-get_or (x ∷ es) 0 x (omega arith))))
    by false t rest =
        ap (λ (b : Bool). cond b ((x.0, l) ∷ es) (x ∷ insert_entry eq-value.it es k l)) t ∙ ap (λ (q : List (NodeId × Literal)). x ∷ q) rest
