use Rattle.std.specs.List.{slice_index_or}
use Rattle.std.proofs.Common.{zero, suc, ◌<◌, ◌≡◌, ℕ, List, [], ◌∷◌, ◌⊎◌, inl, inr, Bool, true, false, cond, Contains, refl, sym, ap, subst, ◌∙◌, arith}
use Rattle.std.proofs.lemmas.List.Elements.{Contains-get_or, Contains-append_right, Contains-append_cases}
use Rattle.indexmap.specs.IndexMap.{insert_entry}
use Rattle.bdd_core.specs.declared.operators.Triple.{Triple}
use Rattle.bdd_core.specs.contracts.operators.TriplePartialEq.TheImpl.{eq-value}
use Rattle.bdd_core.proofs.Same.{same_triple}
use Rattle.bdd_core.proofs.operators.remember.Goals as goal

only : (e : Triple × ℕ) (p : Triple × ℕ) → Contains (e ∷ []) p → e ≡ p
only e p c = by c.0 c.1 c.2
  where
    by : (i : ℕ) → i < 1 → slice_index_or (e ∷ []) i p ≡ p → e ≡ p
    by zero w f = f
    by (suc i) w f = absurd (omega arith)

entries : (es : List (Triple × ℕ)) (key : Triple) (at : ℕ) (k : Triple) (b : ℕ) → Contains {X = Triple × ℕ} (insert_entry eq-value.it es key at) (k, b) → Contains {X = Triple × ℕ} es (k, b) ⊎ ((k ≡ key) × (b ≡ at))
entries [] key at k b c =
    let whole : Triple × ℕ = (k, b) in let put : Triple × ℕ = (key, at) in let e = only put whole c in inr (sym (ap (λ (p : Triple × ℕ). p.0) e), sym (ap (λ (p : Triple × ℕ). p.1) e))
entries (x ∷ es) key at k b c = by (eq-value.it key x.0) refl (λ d. entries es key at k b d)
  where
    first : Contains (x ∷ es) x
    first = Contains-get_or (x ∷ es) 0 x (omega arith)

    by : (t : Bool) → eq-value.it key x.0 ≡ t → (Contains {X = Triple × ℕ} (insert_entry eq-value.it es key at) (k, b) → Contains {X = Triple × ℕ} es (k, b) ⊎ ((k ≡ key) × (b ≡ at)))
        → Contains {X = Triple × ℕ} (x ∷ es) (k, b) ⊎ ((k ≡ key) × (b ≡ at))
    by true t rest = new (Contains-append_cases ((x.0, at) ∷ []) es (k, b)
        (subst (λ (l : List (Triple × ℕ)). Contains {X = Triple × ℕ} l (k, b)) (ap (λ (t : Bool). cond t ((x.0, at) ∷ es) (x ∷ insert_entry eq-value.it es key at)) t) c))
      where
        new : (Contains {X = Triple × ℕ} ((x.0, at) ∷ []) (k, b) ⊎ Contains {X = Triple × ℕ} es (k, b)) → Contains {X = Triple × ℕ} (x ∷ es) (k, b) ⊎ ((k ≡ key) × (b ≡ at))
        new (inl d) =
            let e = only (x.0, at) (k, b) d in
            inr (sym (ap (λ (p : Triple × ℕ). p.0) e) ∙ sym (same_triple key x.0 t), sym (ap (λ (p : Triple × ℕ). p.1) e))
        new (inr d) = inl (Contains-append_right (x ∷ []) es (k, b) d)
    by false t rest = old (Contains-append_cases (x ∷ []) (insert_entry eq-value.it es key at) (k, b)
        (subst (λ (l : List (Triple × ℕ)). Contains {X = Triple × ℕ} l (k, b)) (ap (λ (t : Bool). cond t ((x.0, at) ∷ es) (x ∷ insert_entry eq-value.it es key at)) t) c))
      where
        later : (Contains {X = Triple × ℕ} es (k, b) ⊎ ((k ≡ key) × (b ≡ at))) → Contains {X = Triple × ℕ} (x ∷ es) (k, b) ⊎ ((k ≡ key) × (b ≡ at))
        later (inl d) = inl (Contains-append_right (x ∷ []) es (k, b) d)
        later (inr e) = inr e

        old : (Contains {X = Triple × ℕ} (x ∷ []) (k, b) ⊎ Contains {X = Triple × ℕ} (insert_entry eq-value.it es key at) (k, b)) → Contains {X = Triple × ℕ} (x ∷ es) (k, b) ⊎ ((k ≡ key) × (b ≡ at))
        old (inl d) = inl (subst (λ (p : Triple × ℕ). Contains (x ∷ es) p) (only x (k, b) d) first)
        old (inr d) = later (rest d)

pub returns-in-Ok-clause-entries : goal.returns-in-Ok-clause-entries
returns-in-Ok-clause-entries c k b d =
    entries c.args.memo.now.entries c.args.key c.args.at k b (subst (λ (l : List (Triple × ℕ)). Contains {X = Triple × ℕ} l (k, b)) c.in-Ok.ensures.entries d)
