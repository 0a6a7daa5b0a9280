-- Places of declared names.
use Rattle.std.proofs.Common.{◌≡◌, ℕ, suc, ◌<◌, Bool, true, false, cond, List, [], ◌∷◌, ◌++◌, length, get_or, Option, Some, None, refl, sym, ap, subst, ◌∙◌, bytes_eq, arith}
use Rattle.std.specs.Prelude.{option_map}
use Rattle.source_checks.specs.declared.symbol_table.Symbol.{Symbol}
use Rattle.source_checks.specs.Symbols.{find}
use Rattle.source_checks.specs.Lookup.{or_place, Learns}
use Rattle.std.specs.Global.{Vec}
use Rattle.std.specs.BTreeMap.{BTreeMap}
use Rattle.source_checks.specs.Known.{position_of, KnowsPlaces}
use Rattle.source_checks.proofs.Lookups.{same_of}

no_second : (o : Option ℕ) → or_place o None ≡ o
no_second None = refl
no_second (Some n) = refl

-- a text that has a place keeps it
pub kept_place : (at : List ℕ → Option ℕ) (text : List ℕ) (place k : ℕ) → at text ≡ Some k → (t : List ℕ) → at t ≡ or_place (at t) (cond (bytes_eq text t) (Some place) None)
kept_place at text place k has t = by (bytes_eq text t) refl where
  by : (b : Bool) → bytes_eq text t ≡ b → at t ≡ or_place (at t) (cond b (Some place) None)
  by false e = sym (no_second (at t))
  by true e = let here : at t ≡ Some k = ap at (sym (same_of text t e)) ∙ has in here ∙ ap (λ (o : Option ℕ). or_place o (Some place)) (sym here)

-- one that has none gets the place
pub new_place : (at new : List ℕ → Option ℕ) (text : List ℕ) (place : ℕ) → at text ≡ None → ((t : List ℕ) → new t ≡ cond (bytes_eq text t) (Some place) (at t)) → (t : List ℕ) → new t ≡ or_place (at t) (cond (bytes_eq text t) (Some place) None)
new_place at new text place lacks puts t = puts t ∙ by (bytes_eq text t) refl where
  by : (b : Bool) → bytes_eq text t ≡ b → cond b (Some place) (at t) ≡ or_place (at t) (cond b (Some place) None)
  by false e = sym (no_second (at t))
  by true e = let none : at t ≡ None = ap at (sym (same_of text t e)) ∙ lacks in ap (λ (o : Option ℕ). or_place o (Some place)) (sym none)

plus_one : (o : Option ℕ) (b : Bool) (n : ℕ) → option_map suc (or_place o (cond b (Some n) None)) ≡ or_place (option_map suc o) (cond b (Some (suc n)) None)
plus_one None true n = refl
plus_one None false n = refl
plus_one (Some k) b n = refl

-- one more symbol
pub position_of-push : (known : List Symbol) (s : Symbol) (t : List ℕ) → position_of (known ++ s ∷ []) t ≡ or_place (position_of known t) (cond (bytes_eq s.text t) (Some (length known)) None)
position_of-push [] s t = by (bytes_eq s.text t) where
  by : (b : Bool) → cond b (Some 0) (option_map suc None) ≡ cond b (Some 0) None
  by true = refl
  by false = refl
position_of-push (x ∷ known) s t = by (position_of-push known s t) (bytes_eq x.text t) where
  by : position_of (known ++ s ∷ []) t ≡ or_place (position_of known t) (cond (bytes_eq s.text t) (Some (length known)) None) → (b : Bool) → cond b (Some 0) (option_map suc (position_of (known ++ s ∷ []) t)) ≡ or_place (cond b (Some 0) (option_map suc (position_of known t))) (cond (bytes_eq s.text t) (Some (length (x ∷ known))) None)
  by rest true = refl
  by rest false = ap (option_map suc) rest ∙ plus_one (position_of known t) (bytes_eq s.text t) (length known)

-- what stands at the place of a text
pub record Found (known : List Symbol) (t : List ℕ) (i : ℕ) : Type 0 where
  pub within : i < length known
  pub there : (d : Symbol) → find known t ≡ Some (get_or known i d)

behind_first : (x : Symbol) (known : List Symbol) (t : List ℕ) (o : Option ℕ) → position_of known t ≡ o → ((j : ℕ) → o ≡ Some j → Found known t j) → bytes_eq x.text t ≡ false → (i : ℕ) → option_map suc o ≡ Some i → Found (x ∷ known) t i
behind_first x known t None is found apart i e = absurd cc
behind_first x known t (Some j) is found apart i e =
    let f = found j refl in
    let same : suc j ≡ i = cc in
    subst (Found (x ∷ known) t) same (record {
      within = omega (arith, f.within);
      there = λ d. ap (λ b. cond b (Some x) (find known t)) apart ∙ f.there d;
    })

pub found_at : (known : List Symbol) (t : List ℕ) (i : ℕ) → position_of known t ≡ Some i → Found known t i
found_at [] t i e = absurd cc
found_at (x ∷ known) t i e = by (found_at known t) (bytes_eq x.text t) refl e where
  by : ((j : ℕ) → position_of known t ≡ Some j → Found known t j) → (b : Bool) → bytes_eq x.text t ≡ b → cond b (Some 0) (option_map suc (position_of known t)) ≡ Some i → Found (x ∷ known) t i
  by rest true here e =
      let zeroth : 0 ≡ i = cc in
      subst (Found (x ∷ known) t) zeroth (record { within = omega arith; there = λ d. ap (λ b. cond b (Some x) (find known t)) here })
  by rest false here e = behind_first x known t (position_of known t) refl rest here i e

pub not_behind : (o : Option ℕ) → option_map suc o ≡ None → o ≡ None
not_behind None e = refl
not_behind (Some n) e = absurd cc

pub not_found : (known : List Symbol) (t : List ℕ) → position_of known t ≡ None → find known t ≡ None
not_found [] t e = refl
not_found (x ∷ known) t e = by (not_found known t) (bytes_eq x.text t) e where
  by : (position_of known t ≡ None → find known t ≡ None) → (b : Bool) → cond b (Some 0) (option_map suc (position_of known t)) ≡ None → cond b (Some x) (find known t) ≡ None
  by rest true e = absurd cc
  by rest false e = rest (not_behind (position_of known t) e)

pub still_knows : (old new : BTreeMap (Vec ℕ) ℕ) (known items : List Symbol) (s : Symbol) (n : ℕ) → KnowsPlaces old known → n ≡ length known → Learns old new s.text n → items ≡ known ++ s ∷ [] → KnowsPlaces new items
still_knows old new known items s n knows count learns pushed = record {
  each = λ t. learns t ∙ ap (λ (o : Option ℕ). or_place o (cond (bytes_eq s.text t) (Some n) None)) (knows.each t) ∙ ap (λ i. or_place (position_of known t) (cond (bytes_eq s.text t) (Some i) None)) count ∙ sym (position_of-push known s t) ∙ ap (λ (xs : List Symbol). position_of xs t) (sym pushed);
}
