-- Names at places, one after another.
use Rattle.std.proofs.Common.{◌≡◌, ℕ, zero, suc, ◌+◌, ◌<◌, ◌≤◌, List, [], ◌∷◌, ◌++◌, length, drop, get_or, Option, None, Some, refl, sym, ap, ◌∙◌, append_assoc, arith, add-one, drop-cons}
use Rattle.std.specs.List.{slice_get, slice_index_or}
use Rattle.std.specs.Option.{option_to_list}
use Rattle.vlsi_base.specs.declared.name.Name.{Name}
use Rattle.fsm_merge.specs.Merged.{names_at}

pub got_at : (xs : List Name) (k : ℕ) (x : Name) → k < length xs → x ≡ slice_index_or xs k x → slice_get xs k ≡ Some x
got_at [] k x l e = absurd (omega arith)
got_at (y ∷ xs) zero x l e = ap (λ (z : Name). Some z) (sym e)
got_at (y ∷ xs) (suc k) x l e = got_at xs k x (omega arith) e

pub got_past : (xs : List Name) (k : ℕ) → length xs ≤ k → slice_get xs k ≡ None
got_past [] k l = refl
got_past (y ∷ xs) zero l = absurd (omega arith)
got_past (y ∷ xs) (suc k) l = got_past xs k (omega arith)

-- what was made, and the names that are left behind one more place
pub names_step : (names : List Name) (places : List ℕ) (i place : ℕ) (made new whole : List Name) (found : Option Name) → i < length places → place ≡ get_or places i 0
    → slice_get names place ≡ found → new ≡ made ++ option_to_list found → made ++ names_at names (drop i places) ≡ whole → new ++ names_at names (drop (i + 1) places) ≡ whole
names_step names places i place made new whole found l is got e before =
    let rest : drop i places ≡ place ∷ drop (i + 1) places =
    drop-cons places i 0 l ∙ ap (λ (p : ℕ). p ∷ drop (suc i) places) (sym is) ∙ ap (λ (j : ℕ). place ∷ drop j places) (sym (add-one i)) in
    ap (λ (xs : List Name). xs ++ names_at names (drop (i + 1) places)) e
    ∙ append_assoc made (option_to_list found) (names_at names (drop (i + 1) places))
    ∙ ap (λ (o : Option Name). made ++ (option_to_list o ++ names_at names (drop (i + 1) places))) (sym got)
    ∙ ap (λ (ps : List ℕ). made ++ names_at names ps) (sym rest) ∙ before
