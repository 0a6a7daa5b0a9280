-- Whether each path of ifs assigns a target, with and without the paths.
use Rattle.std.proofs.Common.{◌≡◌, ℕ, Bool, true, false, ◌&&◌, ◌||◌, List, [], ◌∷◌, ◌++◌, map, refl, sym, ◌∙◌, ap, if◌then◌else◌}
use Rattle.std.specs.List.{list_all}
use Rattle.bool_expr.specs.Support.{among}
use Rattle.fsm_machine.specs.Statements.{Assignment, Statements, finish, assign, choose, select, Parts, only, either, further, Branches, closed, others, listed}
use Rattle.fsm_machine.specs.Assigned.{joined, paths, part_paths, branch_paths, sure, sure_parts, sure_branches}

abbrev pub all : List Bool → Bool
all xs = list_all (λ assigned. assigned) xs

all_append : (xs ys : List Bool) → all (xs ++ ys) ≡ (all xs && all ys)
all_append [] ys = refl
all_append (true ∷ xs) ys = all_append xs ys
all_append (false ∷ xs) ys = refl

all_or_true : (ys : List Bool) → all (map (λ y. true || y) ys) ≡ true
all_or_true [] = refl
all_or_true (y ∷ ys) = all_or_true ys

all_or_false : (ys : List Bool) → all (map (λ y. false || y) ys) ≡ all ys
all_or_false [] = refl
all_or_false (true ∷ ys) = all_or_false ys
all_or_false (false ∷ ys) = refl

and_or : (a b : Bool) → (a && (b || a)) ≡ a
and_or true true = refl
and_or true false = refl
and_or false b = refl

all_joined : (xs ys : List Bool) → all (joined xs ys) ≡ (all xs || all ys)
all_joined [] ys = refl
all_joined (true ∷ xs) ys = all_append (map (λ y. true || y) ys) (joined xs ys) ∙ rw (all_or_true ys) (all_joined xs ys)
all_joined (false ∷ xs) ys =
    all_append (map (λ y. false || y) ys) (joined xs ys) ∙ rw (all_or_false ys, all_joined xs ys) (and_or (all ys) (all xs))

one : (a b : Bool) → (a || b) ≡ (all (a ∷ []) || b)
one true b = refl
one false b = refl

never : (a : Bool) → false ≡ (a && false)
never true = refl
never false = refl

mutual
  pub sure_all : (sets : Assignment → Bool) (s : ℕ) (body : Statements) → sure sets s body ≡ all (paths sets s body)
  sure_all sets s finish = refl
  sure_all sets s (assign a rest) =
      one (sets a) (sure sets s rest) ∙ ap (λ b. all (sets a ∷ []) || b) (sure_all sets s rest) ∙ sym (all_joined (sets a ∷ []) (paths sets s rest))
  sure_all sets s (choose parts rest) =
      ap (λ b. b || sure sets s rest) (sure_parts_all sets s parts) ∙ ap (λ b. all (part_paths sets s parts) || b) (sure_all sets s rest)
      ∙ sym (all_joined (part_paths sets s parts) (paths sets s rest))
  sure_all sets s (select branches rest) =
      ap (λ b. b || sure sets s rest) (sure_branches_all sets s branches) ∙ ap (λ b. all (branch_paths sets s branches) || b) (sure_all sets s rest)
      ∙ sym (all_joined (branch_paths sets s branches) (paths sets s rest))

  sure_parts_all : (sets : Assignment → Bool) (s : ℕ) (parts : Parts) → sure_parts sets s parts ≡ all (part_paths sets s parts)
  sure_parts_all sets s (only c a) = never (all (paths sets s a)) ∙ sym (all_append (paths sets s a) (false ∷ []))
  sure_parts_all sets s (either c a b) =
      ap (λ x. x && sure sets s b) (sure_all sets s a) ∙ ap (λ x. all (paths sets s a) && x) (sure_all sets s b)
      ∙ sym (all_append (paths sets s a) (paths sets s b))
  sure_parts_all sets s (further c a more) =
      ap (λ x. x && sure_parts sets s more) (sure_all sets s a) ∙ ap (λ x. all (paths sets s a) && x) (sure_parts_all sets s more)
      ∙ sym (all_append (paths sets s a) (part_paths sets s more))

  sure_branches_all : (sets : Assignment → Bool) (s : ℕ) (branches : Branches) → sure_branches sets s branches ≡ all (branch_paths sets s branches)
  sure_branches_all sets s closed = refl
  sure_branches_all sets s (others a) = sure_all sets s a
  sure_branches_all sets s (listed states a more) =
      elim (among s states) as (λ t. (if t then sure sets s a else sure_branches sets s more) ≡ all (if t then paths sets s a else branch_paths sets s more)) [
        | true ↦ sure_all sets s a
        | false ↦ sure_branches_all sets s more
      ]
