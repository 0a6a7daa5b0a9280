-- Places by their classes.
use Rattle.std.proofs.Common.{◌≡◌, ℕ, zero, suc, Some, ◌+◌, ◌<◌, ◌≤◌, Bool, true, false, ◌&&◌, ◌||◌, List, [], ◌∷◌, ◌++◌, length, drop, get_or, nat_eq, refl, sym, ◌∙◌, ap, subst, add-one, drop-cons, append_assoc, append-nil, arith, if◌then◌else◌}
use Rattle.std.proofs.Math.ListN.{drop_of_length-le}
use Rattle.std.proofs.lemmas.List.Elements.{All-cons}
use Rattle.std.specs.List.{All}
use Rattle.std.specs.Prelude.{slice_get}
use Rattle.std.specs.Global.{Vec}
use Rattle.loon_loads.specs.Loads.{marked_places, AddsLoad, AreLoads, AreNetLoads}

pub record SoFar (marks : List Bool) (classes : List ℕ) (count place : ℕ) (loads : List (Vec ℕ)) : Type 0 where
  pub many : length loads ≡ count
  pub each : (class : ℕ) (d : Vec ℕ) → class < count
      → (get_or loads class d).items ++ marked_places place (drop place marks) (drop place classes) class ≡ marked_places 0 marks classes class

pub load_start : (marks : List Bool) (classes : List ℕ) (count : ℕ) (loads : List (Vec ℕ)) → AreLoads [] [] count loads → SoFar marks classes count 0 loads
load_start marks classes count loads none = record {
  many = none.many;
  each = λ class d low. ap (λ (xs : List ℕ). xs ++ marked_places 0 marks classes class) (none.each class d low);
}

dropped : {A : Type 0} (xs : List A) (k : ℕ) (d : A) → k < length xs → drop k xs ≡ get_or xs k d ∷ drop (k + 1) xs
dropped {A} xs k d low = drop-cons xs k d low ∙ ap (λ (j : ℕ). get_or xs k d ∷ drop j xs) (sym (add-one k))

one : (place : ℕ) (b : Bool) (rest : List ℕ) → (if b then place ∷ [] else []) ++ rest ≡ (if b then place ∷ rest else rest)
one place true rest = refl
one place false rest = refl

pub load_step : (marks : List Bool) (classes : List ℕ) (count place : ℕ) (old new : List (Vec ℕ)) (d0 : Bool) (e : ℕ)
    → place < length classes → length marks ≡ length classes
    → SoFar marks classes count place old → AddsLoad old new (get_or marks place d0) (get_or classes place e) place → SoFar marks classes count (place + 1) new
load_step marks classes count place old new d0 e low same so_far after = record {
  many = after.many ∙ so_far.many;
  each = λ k d inside. each k d inside;
} where
  each : (k : ℕ) (d : Vec ℕ) → k < count
      → (get_or new k d).items ++ marked_places (place + 1) (drop (place + 1) marks) (drop (place + 1) classes) k ≡ marked_places 0 marks classes k
  each k d inside =
      let many = so_far.many in
      let rest : List ℕ = marked_places (place + 1) (drop (place + 1) marks) (drop (place + 1) classes) k in
      let here : List ℕ = (get_or old k d).items in
      let marks_are = dropped marks place d0 (omega (arith, low, same)) in
      let classes_are = dropped classes place e low in
      let whole : marked_places place (drop place marks) (drop place classes) k ≡ (if get_or marks place d0 && nat_eq (get_or classes place e) k then place ∷ rest else rest) =
      ap (λ (ms : List Bool). marked_places place ms (drop place classes) k) marks_are
      ∙ ap (λ (cs : List ℕ). marked_places place (get_or marks place d0 ∷ drop (place + 1) marks) cs k) classes_are
      ∙ ap (λ (j : ℕ). if get_or marks place d0 && nat_eq (get_or classes place e) k then place ∷ marked_places j (drop (place + 1) marks) (drop (place + 1) classes) k else marked_places j (drop (place + 1) marks) (drop (place + 1) classes) k) (sym (add-one place)) in
      ap (λ (xs : List ℕ). xs ++ rest) (after.each k d (omega (arith, inside, many)))
      ∙ append_assoc here (if get_or marks place d0 && nat_eq (get_or classes place e) k then place ∷ [] else []) rest
      ∙ ap (λ (xs : List ℕ). here ++ xs) (one place (get_or marks place d0 && nat_eq (get_or classes place e) k) rest ∙ sym whole)
      ∙ so_far.each k d inside

pub load_end : (marks : List Bool) (classes : List ℕ) (count place : ℕ) (loads : List (Vec ℕ)) → length marks ≡ length classes → length classes ≤ place
    → SoFar marks classes count place loads → AreLoads marks classes count loads
load_end marks classes count place loads same over so_far = record {
  many = so_far.many;
  each = λ class d low.
      sym (append-nil (get_or loads class d).items)
      ∙ ap (λ (ms : List Bool). (get_or loads class d).items ++ marked_places place ms (drop place classes) class) (sym (drop_of_length-le marks (omega (arith, same, over))))
      ∙ so_far.each class d low;
}

-- the places are those of terminals
pub marked_below : (place : ℕ) (marks : List Bool) (classes : List ℕ) (class : ℕ) → All (λ k. k < place + length classes) (marked_places place marks classes class)
marked_below place [] classes class = λ k d low. absurd (omega (arith, low))
marked_below place (m ∷ marks) [] class = λ k d low. absurd (omega (arith, low))
marked_below place (m ∷ marks) (c ∷ classes) class = by (m && nat_eq c class) (grown (marked_below (suc place) marks classes class)) where
  grown : All (λ k. k < suc place + length classes) (marked_places (suc place) marks classes class) → All (λ k. k < place + length (c ∷ classes)) (marked_places (suc place) marks classes class)
  grown h k d low = let r = h k d low in omega (arith, r)

  by : (b : Bool) → All (λ k. k < place + length (c ∷ classes)) (marked_places (suc place) marks classes class)
      → All (λ k. k < place + length (c ∷ classes)) (if b then place ∷ marked_places (suc place) marks classes class else marked_places (suc place) marks classes class)
  by true h = All-cons (λ k. k < place + length (c ∷ classes)) place (marked_places (suc place) marks classes class) (omega arith) h
  by false h = h

pub loads_below : (marks : List Bool) (classes : List ℕ) (count high down n : ℕ) (loads : List (Vec ℕ)) → AreNetLoads marks classes count high down loads → length classes ≡ n
    → All (λ sinks. All (λ place. place < n) sinks.items) loads
loads_below marks classes count high down n loads are many k d low =
    let all = are.many in
    subst (λ (xs : List ℕ). All (λ place. place < n) xs) (sym (are.each k d (omega (arith, low, all)))) (by (nat_eq high k || nat_eq down k)) where
      by : (b : Bool) → All (λ place. place < n) (if b then [] else marked_places 0 marks classes k)
      by true = λ j e below. absurd (omega (arith, below))
      by false = λ j e below. let r = marked_below 0 marks classes k j e below in omega (arith, r, many)

-- what stands at a place
pub got : {A : Type 0} (xs : List A) (k : ℕ) (x : A) → slice_get xs k ≡ Some x → get_or xs k x ≡ x
got [] k x e = absurd cc
got (y ∷ xs) zero x e = cc
got (y ∷ xs) (suc k) x e = got xs k x e
