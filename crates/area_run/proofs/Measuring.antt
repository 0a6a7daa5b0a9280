-- From the stages' answers to the tool's.
use Rattle.std.proofs.Common.{◌≡◌, ℕ, false, List, None, Err, length, slice_index, refl, sym, ap, subst, ◌∙◌}
use Rattle.machine_core.specs.Machine.{Machine}
use Rattle.vbe_io.specs.Text.{IsVbe}
use Rattle.graph_theory.specs.Graph.{Graph, held_count}
use Rattle.cell_model.specs.Library.{Library}
use Rattle.cell_lib.specs.Library.{IsLibraryOf}
use Rattle.boog_tree.specs.Trees.{tree_roots}
use Rattle.boog_tree.specs.Sums.{total}
use Rattle.boog_area.specs.Covers.{IsTreeCover, AreCellBounds, IsLeastArea}
use Rattle.boog_area.specs.declared.cover.TreeCover.{TreeCover}
use Rattle.area_run.specs.declared.words.AreaCommand.{AreaCommand}
use Rattle.area_run.specs.Area.{HasTrees, IsPartOf, IsNoCover, too_large, no_cell, no_cover, Measures}
use Rattle.tool_drive.specs.declared.status.Status.{Status}
use Rattle.tool_drive.specs.Table.{IsJudged, IsFair, refusal}
use Rattle.tool_drive.specs.Refusals.{MemoryOr, judged}

-- a cover's numbers are those of the machine's trees
pub cover_measures : (l : Library) (m : Machine) (part : Graph) (t : TreeCover) (held trees area : ℕ) → IsPartOf m part → held ≡ held_count m → IsTreeCover l held part t
    → AreCellBounds l held part t.cover.bounds.items → trees ≡ length t.cover.trees.items
    → area ≡ total (slice_index t.cover.bounds.items) t.cover.trees.items → HasTrees l m trees area
cover_measures l m part t held trees area is_part is_held cover checked is_trees is_area =
    let here : IsTreeCover l (held_count m) part t = subst (λ (n : ℕ). IsTreeCover l n part t) is_held cover in
    let sum : area ≡ total (slice_index t.cover.bounds.items) (tree_roots (held_count m) part) =
    is_area ∙ ap (λ (xs : List ℕ). total (slice_index t.cover.bounds.items) xs) here.trees in
    record {
      part = part;
      is_part = is_part;
      count = is_trees ∙ ap (λ (xs : List ℕ). length xs) here.trees;
      bounds = t.cover.bounds.items;
      checked = subst (λ (n : ℕ). AreCellBounds l n part t.cover.bounds.items) is_held checked;
      sum = sum;
      least = subst (λ (n : ℕ). IsLeastArea l (held_count m) part n) (sym sum) here.least;
    }

-- a machine whose trees have no cover is refused by a status of judging
fair : (l : Library) (m : Machine) (s : Status) (P : Type 0) → IsNoCover l m s → P → IsFair s None P
fair l m s P (too_large big is) p = subst (λ (t : Status). IsFair t None P) (sym is) p
fair l m s P (no_cell small k missing is) p = subst (λ (t : Status). IsFair t None P) (sym is) p

pub by_cover : (c : AreaCommand) (source catal : List ℕ) (cells : List (List ℕ)) (l : Library) (m : Machine) (s : Status) → IsLibraryOf false catal cells l
    → IsVbe source m → MemoryOr s (IsNoCover l m s) → IsJudged (Measures c source catal cells) (Err (refusal s None))
by_cover c source catal cells l m s library machine h = judged (Measures c source catal cells) (λ t. IsNoCover l m t) told s h where
  told : (t : Status) → IsNoCover l m t → IsFair t None (Measures c source catal cells (Err (refusal t None)))
  told t k = fair l m t (Measures c source catal cells (Err (refusal t None))) k (refl, no_cover l m library machine k)
