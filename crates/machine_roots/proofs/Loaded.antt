-- The roots of registers, behind those of outputs.
use Rattle.std.proofs.Common.{◌≡◌, ℕ, zero, suc, ◌+◌, ◌*◌, ◌<◌, Bool, true, false, List, [], ◌∷◌, ◌++◌, length, map, drop, replicate, refl, sym, ◌∙◌, ap, arith, append_assoc, append-nil, add-one, drop-cons}
use Rattle.std.specs.Prelude.{is_some}
use Rattle.std.specs.List.{All, slice_index_or}
use Rattle.std.proofs.lemmas.List.{length-map}
use Rattle.machine_core.specs.declared.equation.Register.{Register as RegisterParts}
use Rattle.machine_core.specs.Machine.{Machine, Equation, Register, outputs}
use Rattle.machine_core.specs.View.{register_view}
use Rattle.machine_roots.specs.declared.listing.RootExpr.{RootExpr}
use Rattle.machine_roots.specs.Roots.{Root, register_roots, roots}
use Rattle.machine_roots.specs.Listing.{root_view, IsPlaced, AreOutputRoots, AreRoots}

view_index : (es : List RegisterParts) (i : ℕ) (q : RegisterParts) → slice_index_or (map register_view es) i (register_view q) ≡ register_view (slice_index_or es i q)
view_index [] i q = refl
view_index (e ∷ es) zero q = refl
view_index (e ∷ es) (suc i) q = view_index es i q

register_row : (es : List RegisterParts) (i : ℕ) (q : RegisterParts) → i < length es → q ≡ slice_index_or es i q
    → drop i (map register_view es) ≡ register_view q ∷ drop (i + 1) (map register_view es)
register_row es i q within is =
    drop-cons (map register_view es) i (register_view q) (omega (arith, within, length-map es register_view))
    ∙ ap (λ (x : Register). x ∷ drop (suc i) (map register_view es)) (view_index es i q ∙ ap register_view (sym is))
    ∙ ap (λ (j : ℕ). register_view q ∷ drop j (map register_view es)) (sym (add-one i))

-- with the registers from number i on, all roots are listed
pub record IsLoading (m : Machine) (registers : List RegisterParts) (i : ℕ) (listed : List RootExpr) : Type 0 where
  pub all : map root_view listed ++ register_roots (drop i (map register_view registers)) ≡ roots m
  pub placed : All (IsPlaced m.equations) listed
  pub shown : map (λ r. is_some r.equation) listed ++ replicate (2 * length (drop i (map register_view registers))) false
      ≡ replicate (length (outputs m)) true ++ replicate (2 * length m.registers) false

pub loading : (m : Machine) (registers : List RegisterParts) (listed : List RootExpr) → map register_view registers ≡ m.registers → AreOutputRoots m.equations (outputs m) listed
    → IsLoading m registers 0 listed
loading m registers listed is w = record {
  all = (λ j. w.all j ++ register_roots (is j));
  placed = w.placed;
  shown = (λ j. w.shown j ++ replicate (2 * length (is j)) false);
}

pub loads_more : (m : Machine) (registers : List RegisterParts) (i : ℕ) (old new : List RootExpr) (q : RegisterParts) → i < length registers → q ≡ slice_index_or registers i q
    → map root_view new ≡ map root_view old ++ register_roots (register_view q ∷ [])
    → map (λ r. is_some r.equation) new ≡ map (λ r. is_some r.equation) old ++ false ∷ false ∷ []
    → ((equations : List Equation) → All (IsPlaced equations) old → All (IsPlaced equations) new) → IsLoading m registers i old → IsLoading m registers (i + 1) new
loads_more m registers i old new q within is views none placed w = record {
  all =
      ap (λ (xs : List Root). xs ++ register_roots (drop (i + 1) (map register_view registers))) views
      ∙ append_assoc (map root_view old) (register_roots (register_view q ∷ [])) (register_roots (drop (i + 1) (map register_view registers)))
      ∙ ap (λ (rs : List Register). map root_view old ++ register_roots rs) (sym row) ∙ w.all;
  placed = placed m.equations w.placed;
  shown =
      ap (λ (xs : List Bool). xs ++ replicate (2 * length (drop (i + 1) (map register_view registers))) false) none
      ∙ append_assoc (map (λ r. is_some r.equation) old) (false ∷ false ∷ []) (replicate (2 * length (drop (i + 1) (map register_view registers))) false)
      ∙ ap (λ (n : ℕ). map (λ r. is_some r.equation) old ++ replicate n false) (sym count) ∙ w.shown;
}
  where
    row : drop i (map register_view registers) ≡ register_view q ∷ drop (i + 1) (map register_view registers)
    row = register_row registers i q within is

    count : 2 * length (drop i (map register_view registers)) ≡ suc (suc (2 * length (drop (i + 1) (map register_view registers))))
    count = omega (arith, ap length row)

pub loaded : (m : Machine) (registers : List RegisterParts) (i : ℕ) (listed : List RootExpr) → drop i (map register_view registers) ≡ [] → IsLoading m registers i listed → AreRoots m listed
loaded m registers i listed end w = record {
  all = sym (ap (λ (rs : List Register). map root_view listed ++ register_roots rs) end ∙ append-nil (map root_view listed)) ∙ w.all;
  placed = w.placed;
  shown = sym (ap (λ (rs : List Register). map (λ r. is_some r.equation) listed ++ replicate (2 * length rs) false) end ∙ append-nil (map (λ r. is_some r.equation) listed)) ∙ w.shown;
}
