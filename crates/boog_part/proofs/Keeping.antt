-- The nodes that are kept, and what they read.
use Rattle.std.proofs.Common.{◌≡◌, ◌⊎◌, inl, inr, ℕ, ◌+◌, ◌<◌, ◌≤◌, Bool, true, false, List, [], ◌∷◌, ◌++◌, length, map, refl, sym, ap, subst, ◌∙◌, arith, if◌then◌else◌}
use Prim.Native.Nat.{zero, suc}
use Rattle.std.specs.Prelude.{IsTrue}
use Rattle.std.proofs.lemmas.Bool.{cases_lt}
use Rattle.bool_expr.specs.Expression.{bit}
use Rattle.net_theory.specs.Sources.{IsNumber}
use Rattle.net_theory.proofs.Basics.{number_once, number_below, at_number}
use Rattle.graph_theory.specs.Graph.{Node, fixed, inv, nand, Graph, ReadsBelow, EachReadsEarlier}
use Rattle.graph_theory.proofs.Values.{reads_at}
use Rattle.boog_cuts.proofs.Growing.{number_front}
use Rattle.boog_part.specs.Part.{IsNeededIn, IsMarked, IsNeededPart, kept_kind, AreNeeded, AreKept}

-- what the loop keeps
pub record Keeping (held : ℕ) (marks : List Bool) (nodes kept : List Node) (n : ℕ) : Type 0 where
  pub many : length kept ≡ n
  pub each : (j : ℕ) (kind : Node) → j < n → IsNumber nodes j kind → IsNumber kept j (kept_kind (bit marks (held + j)) kind)

number_last : {A : Type 0} (xs : List A) (x y : A) → x ≡ y → IsNumber (xs ++ y ∷ []) (length xs) x
number_last [] x y e = e
number_last (z ∷ xs) x y e = number_last xs x y e

pub keeping_more : (held : ℕ) (marks : List Bool) (nodes kept : List Node) (n : ℕ) (kind new : Node) → Keeping held marks nodes kept n → IsNumber nodes n kind
    → new ≡ kept_kind (bit marks (held + n)) kind → Keeping held marks nodes (kept ++ new ∷ []) (n + 1)
keeping_more held marks nodes kept n kind new before here is =
    let long = before.many in
    record {
      many = let e = ends kept in omega (arith, long, e);
      each = λ j other low at. elim (cases_lt j n) [
        | inl less ↦ number_front kept (new ∷ []) j (kept_kind (bit marks (held + j)) other) (before.each j other less at)
        | inr high ↦
            let same : j ≡ n = omega (arith, low, high) in
            let kinds : other ≡ kind = number_once nodes n other kind (subst (λ (i : ℕ). IsNumber nodes i other) same at) here in
            let end : j ≡ length kept = omega (arith, same, long) in
            let value : kept_kind (bit marks (held + j)) other ≡ new =
            ap (λ (i : ℕ). kept_kind (bit marks (held + i)) other) same ∙ ap (λ (k : Node). kept_kind (bit marks (held + n)) k) kinds ∙ sym is in
            subst (λ (i : ℕ). IsNumber (kept ++ new ∷ []) i (kept_kind (bit marks (held + j)) other)) (sym end) (number_last kept (kept_kind (bit marks (held + j)) other) new value)
      ];
    } where
      ends : (xs : List Node) → length (xs ++ new ∷ []) ≡ length xs + 1
      ends [] = refl
      ends (x ∷ xs) = let e = ends xs in omega (arith, e)

pub keeping_none : (held : ℕ) (marks : List Bool) (nodes : List Node) → Keeping held marks nodes [] 0
keeping_none held marks nodes = record { many = refl; each = λ j kind low at. absurd (omega (arith, low)) }

pub keeping_all : (held : ℕ) (marks : List Bool) (nodes kept : List Node) (n : ℕ) → Keeping held marks nodes kept n → n ≡ length nodes → AreKept held marks nodes kept
keeping_all held marks nodes kept n is all = record {
  many = is.many ∙ all;
  each = λ j kind at. is.each j kind (let low = number_below nodes j kind at in omega (arith, low, all)) at;
}

chosen_true : (b : Bool) (kind : Node) → b ≡ true → kept_kind b kind ≡ kind
chosen_true true kind e = refl
chosen_true false kind e = absurd (cc e)

chosen_false : (b : Bool) (kind : Node) → (b ≡ true → ⊥) → kept_kind b kind ≡ fixed false
chosen_false true kind e = absurd (e refl)
chosen_false false kind e = refl

chosen_below : (b : Bool) (n : ℕ) (kind : Node) → ReadsBelow n kind → ReadsBelow n (kept_kind b kind)
chosen_below true n kind low = low
chosen_below false n kind low = tt

pub part_is : (held : ℕ) (g part : Graph) (marks : List Bool) → AreNeeded held g marks → AreKept held marks g.nodes part.nodes → part.outputs ≡ g.outputs
    → part.loads ≡ g.loads → IsNeededPart held g part
part_is held g part marks needed kept outputs loads = record {
  outputs = outputs;
  loads = loads;
  many = kept.many;
  kept = λ j kind at h. subst (λ (k : Node). IsNumber part.nodes j k) (chosen_true (bit marks (held + j)) kind ((needed.each (held + j)).1 h)) (kept.each j kind at);
  left_out = λ j kind at out.
      subst (λ (k : Node). IsNumber part.nodes j k) (chosen_false (bit marks (held + j)) kind (λ h. out ((needed.each (held + j)).0 h))) (kept.each j kind at);
}

-- nodes that each read lower numbers
each_earlier : (n : ℕ) (nodes : List Node) → ((j : ℕ) (kind : Node) → IsNumber nodes j kind → ReadsBelow (n + j) kind) → EachReadsEarlier n nodes
each_earlier n [] each = tt
each_earlier n (one ∷ rest) each = (
  let P : ℕ → Type 0 = λ k. ReadsBelow k one in let e : n + 0 ≡ n = omega arith in subst P e (each 0 one refl),
  each_earlier (n + 1) rest (λ j kind at. let P : ℕ → Type 0 = λ k. ReadsBelow k kind in let e : n + suc j ≡ n + 1 + j = omega arith in subst P e (each (suc j) kind at)),
)

pub kept_earlier : (held : ℕ) (marks : List Bool) (nodes kept : List Node) → AreKept held marks nodes kept → EachReadsEarlier held nodes → EachReadsEarlier held kept
kept_earlier held marks nodes kept is earlier = each_earlier held kept (λ j kind at.
    let long = is.many in
    let low = number_below kept j kind at in
    let old = at_number nodes j (omega (arith, long, low)) in
    let new = is.each j old.0 old.1 in
    let P : Node → Type 0 = λ k. ReadsBelow (held + j) k in
    subst P (number_once kept j (kept_kind (bit marks (held + j)) old.0) kind new at)
    (chosen_below (bit marks (held + j)) (held + j) old.0 (reads_at held nodes j old.0 earlier old.1)))
