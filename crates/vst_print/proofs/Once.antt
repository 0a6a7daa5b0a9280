-- Texts that are learned one after the other are each there once.
use Rattle.std.proofs.Common.{◌≡◌, ℕ, suc, Bool, true, false, not, cond, ◌||◌, List, [], ◌∷◌, ◌++◌, Option, None, Some, is_none, bytes_eq, filter, refl, sym, ap, subst, ◌∙◌, append-nil}
use Rattle.std.specs.Prelude.{MatchOption, option_map}
use Rattle.std.specs.List.{list_any}
use Rattle.std.proofs.lemmas.List.Elements.{filter-append}
use Rattle.net_core.specs.Places.{position_of, Learned}
use Rattle.net_core.proofs.Lookups.{same_of}
use Rattle.vst_print.specs.Written.{each_once}

abbrev pub is_there : List (List ℕ) → List ℕ → Bool
is_there us t = list_any (λ u. bytes_eq u t) us

abbrev without : List ℕ → List (List ℕ) → List (List ℕ)
without x us = filter (λ u. not (bytes_eq x u)) us

none_again : (o : Option ℕ) → is_none (option_map suc o) ≡ is_none o
none_again None = refl
none_again (Some k) = refl

pub absent_position : (us : List (List ℕ)) (t : List ℕ) → is_none (position_of us t) ≡ not (is_there us t)
absent_position [] t = refl
absent_position (u ∷ us) t = by (absent_position us t) (bytes_eq u t) where
  by : is_none (position_of us t) ≡ not (is_there us t) → (b : Bool) → is_none (cond b (Some 0) (option_map suc (position_of us t))) ≡ not (b || is_there us t)
  by rest true = refl
  by rest false = none_again (position_of us t) ∙ rest

kept : (x t : List ℕ) (ys : List (List ℕ)) → bytes_eq x t ≡ false → is_there (without x ys) t ≡ is_there ys t
kept x t [] other = refl
kept x t (y ∷ ys) other = by (kept x t ys other) (bytes_eq x y) refl where
  by : is_there (without x ys) t ≡ is_there ys t → (b : Bool) → bytes_eq x y ≡ b → is_there (cond (not b) (y ∷ without x ys) (without x ys)) t ≡ (bytes_eq y t || is_there ys t)
  by rest false e = ap (λ (c : Bool). bytes_eq y t || c) rest
  by rest true e =
      let no : bytes_eq y t ≡ false = subst (λ (z : List ℕ). bytes_eq z t ≡ false) (same_of x y e) other in
      rest ∙ sym (ap (λ (b : Bool). b || is_there ys t) no)

pub once_there : (ts : List (List ℕ)) (t : List ℕ) → is_there (each_once ts) t ≡ is_there ts t
once_there [] t = refl
once_there (x ∷ xs) t = by (once_there xs t) (bytes_eq x t) refl where
  by : is_there (each_once xs) t ≡ is_there xs t → (b : Bool) → bytes_eq x t ≡ b → (b || is_there (without x (each_once xs)) t) ≡ (b || is_there xs t)
  by rest true e = refl
  by rest false e = kept x t (each_once xs) e ∙ rest

pub once_push : (ts : List (List ℕ)) (t : List ℕ) → each_once (ts ++ t ∷ []) ≡ cond (is_there ts t) (each_once ts) (each_once ts ++ t ∷ [])
once_push [] t = refl
once_push (x ∷ xs) t = by (once_push xs t) (bytes_eq x t) refl (is_there xs t) refl where
  more : (b : Bool) → bytes_eq x t ≡ b → without x (each_once xs ++ t ∷ []) ≡ without x (each_once xs) ++ cond (not b) (t ∷ []) []
  more b e = filter-append (λ u. not (bytes_eq x u)) (each_once xs) (t ∷ []) ∙ ap (λ (b : Bool). without x (each_once xs) ++ cond (not b) (t ∷ []) []) e

  by : each_once (xs ++ t ∷ []) ≡ cond (is_there xs t) (each_once xs) (each_once xs ++ t ∷ []) → (b : Bool) → bytes_eq x t ≡ b → (a : Bool) → is_there xs t ≡ a
      → x ∷ without x (each_once (xs ++ t ∷ [])) ≡ cond (b || a) (x ∷ without x (each_once xs)) (x ∷ without x (each_once xs) ++ t ∷ [])
  by rest true e true f = ap (λ (us : List (List ℕ)). x ∷ without x us) (rest ∙ ap (λ (a : Bool). cond a (each_once xs) (each_once xs ++ t ∷ [])) f)
  by rest true e false f =
      ap (λ (us : List (List ℕ)). x ∷ without x us) (rest ∙ ap (λ (a : Bool). cond a (each_once xs) (each_once xs ++ t ∷ [])) f)
      ∙ ap (λ (us : List (List ℕ)). x ∷ us) (more true e ∙ append-nil (without x (each_once xs)))
  by rest false e true f = ap (λ (us : List (List ℕ)). x ∷ without x us) (rest ∙ ap (λ (a : Bool). cond a (each_once xs) (each_once xs ++ t ∷ [])) f)
  by rest false e false f =
      ap (λ (us : List (List ℕ)). x ∷ without x us) (rest ∙ ap (λ (a : Bool). cond a (each_once xs) (each_once xs ++ t ∷ [])) f)
      ∙ ap (λ (us : List (List ℕ)). x ∷ us) (more false e)

pub learned_once : (ts old new : List (List ℕ)) (t : List ℕ) → old ≡ each_once ts → Learned old new t → new ≡ each_once (ts ++ t ∷ [])
learned_once ts old new t are learned = by (position_of old t) (is_there ts t) absent learned ∙ ap (λ (us : List (List ℕ)). cond (is_there ts t) us (us ++ t ∷ [])) are ∙ sym (once_push ts t) where
  absent : is_none (position_of old t) ≡ not (is_there ts t)
  absent = absent_position old t ∙ ap (λ (us : List (List ℕ)). not (is_there us t)) are ∙ ap not (once_there ts t)

  by : (o : Option ℕ) (b : Bool) → is_none o ≡ not b → MatchOption o (new ≡ old ++ t ∷ []) (λ _. new ≡ old) → new ≡ cond b old (old ++ t ∷ [])
  by None false e l = l
  by None true e l = absurd cc
  by (Some k) true e l = l
  by (Some k) false e l = absurd cc
