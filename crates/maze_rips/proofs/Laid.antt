-- Trees as they are taken out of the paths that are kept.
use Rattle.std.proofs.Common.{◌≡◌, ◌≢◌, ℕ, zero, suc, ◌+◌, ◌<◌, ◌≤◌, inl, inr, List, [], ◌∷◌, ◌++◌, map, length, reverse, get_or, Option, Some, None, refl, sym, ap, subst, ◌∙◌, arith}
use Rattle.std.specs.Global.{Vec}
use Rattle.std.specs.Option.{option_map}
use Rattle.std.proofs.lemmas.Bool.{cases_lt}
use Rattle.std.proofs.lemmas.List.{map_push, reverse-append}
use Rattle.grid_core.specs.declared.grid.Node.{Node}
use Rattle.grid_core.specs.declared.routes.NetTree.{NetTree}
use Rattle.grid_core.specs.Routes.{Tree, NetRoutes}
use Rattle.grid_core.specs.Shown.{shown_tree, shown_routes, tree_in}
use Rattle.maze_rips.specs.Paths.{paths_in, laid, HasNow}

-- ---- one tree, whose paths come from the last to the first
abbrev nodes_in : Vec Node → List Node
nodes_in path = path.items

back : (paths : List (Vec Node)) → reverse (map nodes_in paths) ≡ map nodes_in (reverse paths)
back [] = refl
back (p ∷ paths) =
    reverse-append (nodes_in p ∷ []) (map nodes_in paths)
    ∙ (ap (λ (xs : List (List Node)). xs ++ nodes_in p ∷ []) (back paths)
    ∙ (sym (map_push nodes_in (reverse paths) p) ∙ ap (map nodes_in) (sym (reverse-append (p ∷ []) paths))))

-- the last one that comes is the first, and the others follow it
unwound : (rest : List (Vec Node)) (first : Vec Node) → reverse (map nodes_in (rest ++ first ∷ [])) ≡ first.items ∷ map nodes_in (reverse rest)
unwound rest first =
    ap reverse (map_push nodes_in rest first)
    ∙ (reverse-append (map nodes_in rest) (nodes_in first ∷ []) ∙ ap (λ (xs : List (List Node)). first.items ∷ xs) (back rest))

first_laid : (t : Option Tree) (path : List Node) (paths : List (List Node)) (x : Node) → path ∷ paths ≡ laid t → x ≡ get_or path 0 x → path ≡ x ∷ []
first_laid None path paths x e read = absurd (cc e)
first_laid (Some t) path paths x e read =
    let one : path ≡ t.start ∷ [] = cc e in
    let same : x ≡ t.start = read ∙ ap (λ (xs : List Node). get_or xs 0 x) one in
    one ∙ ap (λ (n : Node). n ∷ []) (sym same)

pub tree_laid : (paths left : List (List Node)) (taken rest turned : List (Vec Node)) (first : Vec Node) (x : Node) → ((t : Option Tree) × (paths ≡ laid t))
    → left ≡ [] → left ++ reverse (map nodes_in taken) ≡ paths → taken ≡ rest ++ first ∷ [] → turned ≡ reverse rest → x ≡ get_or first.items 0 x
    → paths ≡ (x ∷ []) ∷ map nodes_in turned
tree_laid paths left taken rest turned first x (t, is) none all last after read =
    let e : paths ≡ first.items ∷ map nodes_in (reverse rest) =
    sym all ∙ (ap (λ (xs : List (List Node)). xs ++ reverse (map nodes_in taken)) none ∙ (ap (λ (xs : List (Vec Node)). reverse (map nodes_in xs)) last ∙ unwound rest first)) in
    let one = first_laid t first.items (map nodes_in (reverse rest)) x (sym e ∙ is) read in
    e ∙ (ap (λ (p : List Node). p ∷ map nodes_in (reverse rest)) one ∙ ap (λ (xs : List (Vec Node)). (x ∷ []) ∷ map nodes_in xs) (sym after))

-- ---- all trees
tree_before : (ts : List (Option NetTree)) (t : Option NetTree) (k : ℕ) → k < length ts → tree_in (shown_routes (ts ++ t ∷ [])) k ≡ tree_in (shown_routes ts) k
tree_before [] t k lt = let no : ⊥ = omega arith in absurd no
tree_before (x ∷ ts) t zero lt = refl
tree_before (x ∷ ts) t (suc k) lt = let lt' : k < length ts = omega arith in tree_before ts t k lt'

tree_here : (ts : List (Option NetTree)) (t : Option NetTree) → tree_in (shown_routes (ts ++ t ∷ [])) (length ts) ≡ option_map shown_tree t
tree_here [] t = refl
tree_here (x ∷ ts) t = tree_here ts t

tree_past : (ts : List (Option NetTree)) (k : ℕ) → length ts ≤ k → tree_in (shown_routes ts) k ≡ None
tree_past [] k le = refl
tree_past (x ∷ ts) zero le = let no : ⊥ = omega arith in absurd no
tree_past (x ∷ ts) (suc k) le = let le' : length ts ≤ k = omega arith in tree_past ts k le'

paths_past : (paths : List (List (List Node))) (k : ℕ) → length paths ≤ k → paths_in paths k ≡ []
paths_past [] k le = refl
paths_past (x ∷ paths) zero le = let no : ⊥ = omega arith in absurd no
paths_past (x ∷ paths) (suc k) le = let le' : length paths ≤ k = omega arith in paths_past paths k le'

-- the trees of the first i nets were taken out, and those of the others are left
pub record IsTaken (whole paths : List (List (List Node))) (i : ℕ) (ts : List (Option NetTree)) : Type 0 where
  pub many : length paths ≡ length whole
  pub left : (k : ℕ) → i ≤ k → paths_in paths k ≡ paths_in whole k
  pub size : length ts ≡ i
  pub told : (k : ℕ) → k < i → paths_in whole k ≡ laid (tree_in (shown_routes ts) k)

pub taken_more : (whole paths new : List (List (List Node))) (i : ℕ) (ts new_ts : List (Option NetTree)) (t : Option NetTree) → IsTaken whole paths i ts
    → paths_in paths i ≡ laid (option_map shown_tree t) → HasNow i [] paths new → new_ts ≡ ts ++ t ∷ [] → IsTaken whole new (i + 1) new_ts
taken_more whole paths new i ts new_ts t h mine now pushed =
    let size = h.size in
    record {
      many = now.size ∙ h.many;
      left = λ k le. (let ne : k ≢ i = omega arith in let le' : i ≤ k = omega arith in now.others k ne ∙ h.left k le');
      size = (let l = length_more ts t in let e = ap length pushed in omega arith);
      told = λ k lt. subst (λ (xs : List (Option NetTree)). paths_in whole k ≡ laid (tree_in (shown_routes xs) k)) (sym pushed) (elim (cases_lt k i) [
        | inl below ↦ (let lt' : k < length ts = omega arith in h.told k below ∙ ap laid (sym (tree_before ts t k lt')))
        | inr above ↦ (
            let same : k ≡ length ts = omega arith in
            let at : k ≡ i = omega arith in
            subst (λ (n : ℕ). paths_in whole n ≡ laid (tree_in (shown_routes (ts ++ t ∷ [])) n)) (sym same)
            (subst (λ (n : ℕ). paths_in whole n ≡ laid (tree_in (shown_routes (ts ++ t ∷ [])) (length ts))) (sym size)
            (sym (h.left i (omega arith)) ∙ (mine ∙ ap laid (sym (tree_here ts t))))))
      ]);
    }
  where
    length_more : (xs : List (Option NetTree)) (x : Option NetTree) → length (xs ++ x ∷ []) ≡ length xs + 1
    length_more [] x = refl
    length_more (y ∷ xs) x = let l = length_more xs x in omega arith

pub taken_all : (whole paths : List (List (List Node))) (i : ℕ) (ts : List (Option NetTree)) → IsTaken whole paths i ts → length whole ≤ i → (k : ℕ)
    → paths_in whole k ≡ laid (tree_in (shown_routes ts) k)
taken_all whole paths i ts h le k = elim (cases_lt k i) [
  | inl below ↦ h.told k below
  | inr above ↦ (let size = h.size in let past : length ts ≤ k = omega arith in let end : length whole ≤ k = omega arith in paths_past whole k end ∙ ap laid (sym (tree_past ts k past)))
]

-- ---- what is kept tells each tree
laid_same : (a b : Option Tree) → laid a ≡ laid b → a ≡ b
laid_same None None e = refl
laid_same None (Some y) e = absurd (cc e)
laid_same (Some x) None e = absurd (cc e)
laid_same (Some x) (Some y) e = made x.start y.start x.paths y.paths (cc e) (cc e)
  where
    some : Node → List (List Node) → Option Tree
    some start paths = Some (record { start = start; paths = paths })

    made : (a b : Node) (ps qs : List (List Node)) → a ≡ b → ps ≡ qs → some a ps ≡ some b qs
    made a b ps qs same paths = rw (same, paths) refl

pub trees_told : (paths : List (List (List Node))) (routes : NetRoutes) (trees : List (Option Tree)) → ((k : ℕ) → k < length paths → paths_in paths k ≡ laid (routes k))
    → ((k : ℕ) → length paths ≤ k → routes k ≡ None) → ((k : ℕ) → paths_in paths k ≡ laid (tree_in trees k)) → (k : ℕ) → tree_in trees k ≡ routes k
trees_told paths routes trees kept only told k = elim (cases_lt k (length paths)) [
  | inl below ↦ laid_same (tree_in trees k) (routes k) (sym (told k) ∙ kept k below)
  | inr above ↦ laid_same (tree_in trees k) (routes k) (sym (told k) ∙ (paths_past paths k above ∙ ap laid (sym (only k above))))
]
