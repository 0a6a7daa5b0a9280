-- What is found at places of lists.
use Rattle.std.proofs.Common.{◌≡◌, ℕ, zero, suc, ◌+◌, ◌<◌, List, [], ◌∷◌, ◌++◌, map, length, take, get_or, Some, refl, sym, ap, ◌∙◌, subst, arith}
use Rattle.std.specs.Prelude.{slice_index}
use Rattle.std.specs.List.{slice_get, slice_index_or, All}
use Rattle.std.proofs.lemmas.List.{take_more, map-append}
use Rattle.vlsi_base.specs.declared.name.Name.{Name}
use Rattle.bool_expr.specs.Expression.{IsOver}
use Rattle.bool_expr.specs.View.{view}
use Rattle.source_checks.specs.Formula.{place}
use Rattle.source_bits.specs.declared.driven.DrivenBit.{DrivenBit}
use Rattle.source_bits.specs.Driven.{Numbered, driven_view}
use Rattle.vlsi_model.specs.Numbered.{name_at}
use Rattle.vlsi_model.proofs.Naming.{name_is}
use Rattle.vbe_free.specs.Second.{IsFound, AreOver}

-- one more name behind those that are there
pub names_more : (all : List Name) (ds : List DrivenBit) (i : ℕ) (d : DrivenBit) (name : Name) (names new : List Name) → i < length ds → d ≡ get_or ds i d
    → slice_get all d.bit ≡ Some name → names ≡ map (λ (x : DrivenBit). name_at all x.bit) (take i ds) → new ≡ names ++ name ∷ []
    → new ≡ map (λ (x : DrivenBit). name_at all x.bit) (take (i + 1) ds)
names_more all ds i d name names new within at named_so before is =
    let f : DrivenBit → Name = λ x. name_at all x.bit in
    let grown : map f (take (i + 1) ds) ≡ map f (take i ds) ++ f (get_or ds i d) ∷ [] = ap (map f) (take_more ds i d within) ∙ map-append f (take i ds) (get_or ds i d ∷ []) in
    let one : f (get_or ds i d) ≡ name = ap f (sym at) ∙ name_is all d.bit name named_so in
    is ∙ (λ j. before j ++ sym one j ∷ []) ∙ sym grown

at_map : (ds : List DrivenBit) (k : ℕ) (d : DrivenBit) → slice_index_or (map driven_view ds) k (driven_view d) ≡ driven_view (slice_index_or ds k d)
at_map [] k d = refl
at_map (x ∷ ds) zero d = refl
at_map (x ∷ ds) (suc k) d = at_map ds k d

-- the formula that is found is over the numbers
pub over_at : (all : List Name) (ds : List DrivenBit) (places vars : List ℕ) (name : Name) (number : ℕ) (d : DrivenBit) → number ≡ place all name
    → IsFound all (map driven_view ds) places name → AreOver (map driven_view ds) vars → IsOver (view (slice_index_or ds (slice_index places number) d).expr) (length vars)
over_at all ds places vars name number d is found over =
    let inside : slice_index places number < length (map driven_view ds) = subst (λ k. slice_index places k < length (map driven_view ds)) (sym is) found.placed in
    subst (λ (x : Numbered). IsOver x.expr (length vars)) (at_map ds (slice_index places number) d) (over (slice_index places number) (driven_view d) inside)
