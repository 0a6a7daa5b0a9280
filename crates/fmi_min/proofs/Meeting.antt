-- Moves keep their numbers when more outputs are met, and these tell different outputs apart.
use Rattle.std.proofs.Common.{◌≡◌, ℕ, ◌<◌, Bool, true, false, List, [], ◌∷◌, ◌++◌, map, length, refl, sym, ap, subst, ◌∙◌, arith, append_assoc}
use Rattle.fsm_machine.specs.Fsm.{Fsm, fsm_outputs}
use Rattle.net_core.specs.Places.{Stands, NoneTwice, Begins}
use Rattle.net_core.proofs.Standing.{stands_left, stands_same}
use Rattle.fsm_walk.specs.declared.step.Step.{Step}
use Rattle.fsm_walk.specs.Step.{step_of}
use Rattle.fsm_walk.specs.Words.{word}
use Rattle.fsm_walk.specs.Reads.{read_marks}
use Rattle.fmi_refine.specs.declared.round.Move.{Move}
use Rattle.fmi_refine.specs.Rows.{row_at, move_in, move_at}
use Rattle.fmi_min.specs.Moves.{digit, digits, step_in, IsMoveOf, AreMovesOf}
use Rattle.fmi_min.specs.Table.{vectors_read, words_read, step_under, IsTable}
use Rattle.fmi_min.proofs.Listing.{made_at, made_length}

-- ---- outputs that were met

nothing_more : (xs : List (List ℕ)) → xs ≡ xs ++ []
nothing_more [] = refl
nothing_more (x ∷ xs) = ap (λ (ys : List (List ℕ)). x ∷ ys) (nothing_more xs)

pub begins_itself : (xs : List (List ℕ)) → Begins xs xs
begins_itself xs = ([], nothing_more xs)

pub begins_both : (xs ys zs : List (List ℕ)) → Begins xs ys → Begins ys zs → Begins xs zs
begins_both xs ys zs (first, e) (second, f) = (first ++ second, f ∙ ap (λ (us : List (List ℕ)). us ++ second) e ∙ append_assoc xs first second)

pub move_still : (old new : List (List ℕ)) (step : Step) (m : Move) → Begins old new → IsMoveOf old step m → IsMoveOf new step m
move_still old new step m (rest, e) h = record {
  outs = subst (λ (met : List (List ℕ)). Stands met m.outs (digits step.outs)) (sym e) (stands_left old rest m.outs (digits step.outs) h.outs);
  next = h.next;
}

pub moves_still : (old new : List (List ℕ)) (steps : List Step) (row : List Move) → Begins old new → AreMovesOf old steps row → AreMovesOf new steps row
moves_still old new steps row begins h = record {
  each = h.each;
  made = λ v l. move_still old new (step_in steps v) (move_in row v) begins (h.made v l);
}

-- ---- digits

same_digit : (b c : Bool) → digit b ≡ digit c → b ≡ c
same_digit true true e = refl
same_digit false false e = refl
same_digit true false e = absurd (omega arith)
same_digit false true e = absurd (omega arith)

same_digits : (xs ys : List Bool) → digits xs ≡ digits ys → xs ≡ ys
same_digits [] [] e = refl
same_digits [] (y ∷ ys) e = absurd (cc)
same_digits (x ∷ xs) [] e = absurd (cc)
same_digits (x ∷ xs) (y ∷ ys) e =
    let first : digit x ≡ digit y = cc in
    let rest : digits xs ≡ digits ys = cc in
    ap (λ (z : Bool). z ∷ xs) (same_digit x y first) ∙ ap (λ (zs : List Bool). y ∷ zs) (same_digits xs ys rest)

-- ---- the table

-- the steps of a state, one for each vector
abbrev pub steps_under : Fsm → ℕ → List Step
steps_under f s = map (λ w. step_of f.body (fsm_outputs f) w s) (words_read f)

-- the moves of each state
abbrev pub AreMade : Fsm → List (List ℕ) → List (List Move) → Type 0
AreMade f met rows = (s : ℕ) → s < length rows → AreMovesOf met (steps_under f s) (row_at rows s)

step_is : (f : Fsm) (s v : ℕ) → v < vectors_read f → step_in (steps_under f s) v ≡ step_under f s v
step_is f s v l = made_at (λ w. step_of f.body (fsm_outputs f) w s) (word (read_marks f)) (vectors_read f) v (record { outs = []; next = 0 }) l

row_length : (f : Fsm) (met : List (List ℕ)) (rows : List (List Move)) → AreMade f met rows → (s : ℕ) → s < length rows → length (row_at rows s) ≡ vectors_read f
row_length f met rows made s l = (made s l).each ∙ made_length (λ w. step_of f.body (fsm_outputs f) w s) (word (read_marks f)) (vectors_read f)

-- the move of a state under a vector
move_made : (f : Fsm) (met : List (List ℕ)) (rows : List (List Move)) → AreMade f met rows → (s v : ℕ) → s < length rows → v < vectors_read f
    → IsMoveOf met (step_under f s v) (move_at rows s v)
move_made f met rows made s v l m =
    let n = row_length f met rows made s l in
    subst (λ (x : Step). IsMoveOf met x (move_at rows s v)) (step_is f s v m) ((made s l).made v (omega arith))

pub is_table : (f : Fsm) (met : List (List ℕ)) (rows : List (List Move)) → NoneTwice met → length rows ≡ length f.states → AreMade f met rows → IsTable f rows
is_table f met rows once states made = record {
  states = states;
  each = row_length f met rows made;
  next = λ s v l m. (move_made f met rows made s v l m).next;
  outs = λ s t v u l m a b. (
      let first = move_made f met rows made s v l a in
      let second = move_made f met rows made t u m b in
      let x = step_under f s v in
      let y = step_under f t u in
      let i = (move_at rows s v).outs in
      let j = (move_at rows t u).outs in (
        λ e. same_digits x.outs y.outs (stands_same met j (digits x.outs) (digits y.outs) (subst (λ (k : ℕ). Stands met k (digits x.outs)) e first.outs) second.outs),
        λ e. once i j (digits y.outs) (subst (λ (o : List Bool). Stands met i (digits o)) e first.outs) second.outs,
      ));
}
