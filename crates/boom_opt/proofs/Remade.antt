-- The second machine of the roots that have been taken.
use Rattle.std.proofs.Common.{◌≡◌, ℕ, ◌+◌, ◌<◌, ◌≤◌, List, [], ◌∷◌, ◌++◌, length, map, take, get_or, sym, ap, subst, ◌∙◌, arith}
use Rattle.std.specs.List.{All}
use Rattle.std.proofs.lemmas.List.{take_all}
use Rattle.machine_core.specs.Machine.{Machine}
use Rattle.machine_roots.specs.declared.listing.RootExpr.{RootExpr}
use Rattle.machine_roots.specs.declared.diagram.RootDiagram.{RootDiagram}
use Rattle.machine_roots.specs.Roots.{Root, roots, IsOverBudget}
use Rattle.machine_roots.specs.Listing.{root_view, AreRoots}
use Rattle.machine_roots.specs.Asked.{IsRootDiagram}
use Rattle.boom_opt.specs.declared.optimising.Rebuilt.{Rebuilt}
use Rattle.boom_opt.specs.Rebuilt.{IsNext, IsRebuilt, HasRebuilt}
use Rattle.boom_opt.proofs.Remaking.{all_push}
use Rattle.boom_opt.proofs.Rooting.{root_next, views_more}

pub record IsRemaking (m : Machine) (budget : ℕ) (listed : List RootExpr) (i : ℕ) (b : Rebuilt) : Type 0 where
  pub rebuilt : IsRebuilt m (map root_view (take i listed)) b
  pub within : All (λ r. IsOverBudget m budget r → ⊥) (map root_view (take i listed))

pub remaking_none : (m : Machine) (budget : ℕ) (listed : List RootExpr) (b : Rebuilt) → IsRebuilt m [] b → IsRemaking m budget listed 0 b
remaking_none m budget listed b h = record { rebuilt = h; within = λ k d q. absurd (omega arith) }

pub remaking_more : (m : Machine) (budget : ℕ) (listed : List RootExpr) (i : ℕ) (root : RootExpr) (d : RootDiagram) (b c : Rebuilt) → AreRoots m listed → i < length listed → root ≡ get_or listed i root
    → IsRootDiagram m (root_view root).expr budget d → ((before : List Root) → IsNext m before root → IsRebuilt m before b → IsRebuilt m (before ++ root_view root ∷ []) c)
    → IsRemaking m budget listed i b → IsRemaking m budget listed (i + 1) c
remaking_more m budget listed i root d b c are inside is diagram next h = record {
  rebuilt = subst (λ (rs : List Root). IsRebuilt m rs c) (sym (views_more listed i root inside is)) (next (map root_view (take i listed)) (root_next m listed are i root inside is) h.rebuilt);
  within = subst (λ (rs : List Root). All (λ r. IsOverBudget m budget r → ⊥) rs) (sym (views_more listed i root inside is))
      (all_push (λ r. IsOverBudget m budget r → ⊥) (map root_view (take i listed)) (root_view root) h.within diagram.within);
}

pub remaking_all : (m : Machine) (budget : ℕ) (listed : List RootExpr) (i : ℕ) (b : Rebuilt) → AreRoots m listed → length listed ≤ i → IsRemaking m budget listed i b → HasRebuilt m budget b
remaking_all m budget listed i b are past h =
    let all : map root_view (take i listed) ≡ roots m = ap (map root_view) (take_all i listed past) ∙ are.all in
    record {
      rebuilt = subst (λ (rs : List Root). IsRebuilt m rs b) all h.rebuilt;
      within = subst (λ (rs : List Root). All (λ r. IsOverBudget m budget r → ⊥) rs) all h.within;
    }
