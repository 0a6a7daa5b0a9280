use Rattle.std.proofs.Common.{◌≡◌, ℕ, IfSome, Option, Some, None, List, [], ◌∷◌, Bool, true, false, cond, Contains, refl, sym, ap, subst, ◌∙◌, arith}
use Rattle.std.proofs.lemmas.List.Elements.{Contains-get_or, Contains-append_right}
use Rattle.std.specs.Map.{lookup}
use Rattle.bdd_core.specs.declared.operators.Triple.{Triple}
use Rattle.bdd_core.specs.contracts.operators.TriplePartialEq.TheImpl.{eq-value}
use Rattle.bdd_core.proofs.Same.{same_triple}
use Rattle.bdd_core.proofs.operators.recall.Goals as goal

found : (es : List (Triple × ℕ)) (k : Triple) (v : ℕ) → lookup (eq-value.it k) es ≡ Some v → Contains es (k, v)
found [] k v e = (cc)
found (x ∷ es) k v e = by (eq-value.it k x.0) refl (λ f. found es k v f)
  where
    by : (b : Bool) → eq-value.it k x.0 ≡ b → (lookup (eq-value.it k) es ≡ Some v → Contains es (k, v)) → Contains (x ∷ es) (k, v)
    by true t rest =
        let value : Some x.1 ≡ Some v = sym (ap (λ (b : Bool). cond b (Some x.1) (lookup (eq-value.it k) es)) t) ∙ e in
        let key : k ≡ x.0 = same_triple k x.0 t in
        let is : x.1 ≡ v = (cc) in
        let here : x ≡ (k, v) = λ j. (sym key j, is j) in
        subst (λ (p : Triple × ℕ). Contains (x ∷ es) p) here (Contains-get_or (x ∷ es) 0 x (omega arith))
    by false t rest = Contains-append_right (x ∷ []) es (k, v) (rest (sym (ap (λ (b : Bool). cond b (Some x.1) (lookup (eq-value.it k) es)) t) ∙ e))

pub returns : goal.returns
returns c = by c.copied.result refl
  where
    by : (r : Option ℕ) → c.copied.result ≡ r → IfSome r (λ at. Contains c.args.memo.now.entries (c.args.key, at))
    by None e = tt
    by (Some v) e = found c.args.memo.now.entries c.args.key v (sym c.get.ensures.value ∙ sym c.copied.ensures ∙ e)
