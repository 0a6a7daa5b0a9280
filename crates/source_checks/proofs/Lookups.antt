-- A map from texts, with one more text.
use Rattle.std.proofs.Common.{◌≡◌, ℕ, Bool, true, false, cond, List, [], ◌∷◌, Option, Some, None, refl, sym, ap, subst, ◌∙◌, bytes_eq}
use Rattle.std.specs.Global.{Vec}
use Rattle.std.specs.Map.{lookup}
use Rattle.std.specs.BTreeMap.{is_at, insert_entry}
use Rattle.std.specs.Cmp.Lexicographic.{slice_cmp}
use Rattle.std.specs.Ordering.{nat_cmp, is_eq, match_ordering}
use Rattle.std.specs.declared.cmp.Ordering.{Ordering}
use Rattle.std.specs.declared.cmp.Ordering.TheVariants.{Less, Equal, Greater}
use Rattle.std.proofs.lemmas.Map.Text.{is_eq-slice_cmp}
use Rattle.std.proofs.lemmas.Slice.Eq.{bytes_eq-Decides}

abbrev pub at_text : List ℕ → Vec ℕ → Bool
at_text t = is_at (λ (x : Vec ℕ). slice_cmp nat_cmp t x.items)

pub same_of : (x y : List ℕ) → bytes_eq x y ≡ true → x ≡ y
same_of x y e = (bytes_eq-Decides x y).0 e

pub itself : (x : List ℕ) → bytes_eq x x ≡ true
itself x = (bytes_eq-Decides x x).1 refl

-- a test of texts answers alike both ways round
pub turned : (x y : List ℕ) → bytes_eq x y ≡ bytes_eq y x
turned x y = by (bytes_eq x y) (bytes_eq y x) refl refl where
  by : (a b : Bool) → bytes_eq x y ≡ a → bytes_eq y x ≡ b → a ≡ b
  by true true p q = refl
  by false false p q = refl
  by true false p q = let e : x ≡ y = same_of x y p in absurd (subst (λ (z : List ℕ). bytes_eq z x ≡ true → ⊥) e (λ _. let h : true ≡ false = sym (itself x) ∙ subst (λ (z : List ℕ). bytes_eq z x ≡ false) (sym e) q in absurd cc) (subst (λ (z : List ℕ). bytes_eq z x ≡ true) e (itself x)))
  by false true p q = let e : y ≡ x = same_of y x q in let h : true ≡ false = sym (itself x) ∙ subst (λ (z : List ℕ). bytes_eq x z ≡ false) e p in absurd cc

at_text_is : (t : List ℕ) (k : Vec ℕ) → at_text t k ≡ bytes_eq k.items t
at_text_is t k = is_eq-slice_cmp t k.items ∙ turned t k.items

-- where a text stands before an entry, at it, or behind it
behind : (b c : Bool) (v w : ℕ) (rest : Option ℕ) → (b ≡ true → c ≡ true → ⊥) → cond c (Some w) (cond b (Some v) rest) ≡ cond b (Some v) (cond c (Some w) rest)
behind true true v w rest apart = absurd (apart refl refl)
behind true false v w rest apart = refl
behind false true v w rest apart = refl
behind false false v w rest apart = refl

pub lookup-insert_entry : (es : List (Vec ℕ × ℕ)) (k : Vec ℕ) (v : ℕ) (t : List ℕ)
    → lookup (at_text t) (insert_entry (λ (a b : Vec ℕ). slice_cmp nat_cmp a.items b.items) es k v) ≡ cond (bytes_eq k.items t) (Some v) (lookup (at_text t) es)
lookup-insert_entry [] k v t = ap (λ b. cond b (Some v) None) (at_text_is t k)
lookup-insert_entry (e ∷ es) k v t = by (lookup-insert_entry es k v t) (slice_cmp nat_cmp k.items e.0.items) refl where
  twice : (b : Bool) → cond b (Some v) (lookup (at_text t) es) ≡ cond b (Some v) (cond b (Some e.1) (lookup (at_text t) es))
  twice true = refl
  twice false = refl

  by : lookup (at_text t) (insert_entry (λ (a b : Vec ℕ). slice_cmp nat_cmp a.items b.items) es k v) ≡ cond (bytes_eq k.items t) (Some v) (lookup (at_text t) es)
      → (o : Ordering) → slice_cmp nat_cmp k.items e.0.items ≡ o
      → lookup (at_text t) (match_ordering o ((k, v) ∷ e ∷ es) ((e.0, v) ∷ es) (e ∷ insert_entry (λ (a b : Vec ℕ). slice_cmp nat_cmp a.items b.items) es k v)) ≡ cond (bytes_eq k.items t) (Some v) (cond (at_text t e.0) (Some e.1) (lookup (at_text t) es))
  by behind_it Less is = ap (λ b. cond b (Some v) (cond (at_text t e.0) (Some e.1) (lookup (at_text t) es))) (at_text_is t k)
  by behind_it Equal is =
      let test : bytes_eq k.items e.0.items ≡ true = sym (is_eq-slice_cmp k.items e.0.items) ∙ ap is_eq is in
      let same : k.items ≡ e.0.items = same_of k.items e.0.items test in
      let here : at_text t e.0 ≡ bytes_eq k.items t = at_text_is t e.0 ∙ ap (λ (x : List ℕ). bytes_eq x t) (sym same) in
      ap (λ b. cond b (Some v) (lookup (at_text t) es)) here ∙ twice (bytes_eq k.items t) ∙ ap (λ b. cond (bytes_eq k.items t) (Some v) (cond b (Some e.1) (lookup (at_text t) es))) (sym here)
  by behind_it Greater is =
      ap (λ (o : Option ℕ). cond (at_text t e.0) (Some e.1) o) behind_it
      ∙ behind (bytes_eq k.items t) (at_text t e.0) v e.1 (lookup (at_text t) es) (λ p q. let a = same_of k.items t p in let b = same_of e.0.items t (sym (at_text_is t e.0) ∙ q) in let same : k.items ≡ e.0.items = a ∙ sym b in
      let eq : is_eq (slice_cmp nat_cmp k.items e.0.items) ≡ true = is_eq-slice_cmp k.items e.0.items ∙ subst (λ (x : List ℕ). bytes_eq k.items x ≡ true) same (itself k.items) in
      let no : false ≡ true = sym (ap is_eq is) ∙ eq in absurd cc)
