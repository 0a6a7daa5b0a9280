-- Statements of a state machine that passed its checks have names for all variables and states.
use Rattle.std.proofs.Common.{◌≡◌, ℕ, zero, suc, ◌<◌, ◌==◌, Bool, true, false, not, ◌||◌, List, [], ◌∷◌, length, Some, refl, sym, ap, subst, ◌∙◌, arith}
use Rattle.std.specs.Prelude.{slice_get}
use Rattle.std.specs.List.{All}
use Rattle.std.proofs.lemmas.Bool.{and_parts, eq-eqb}
use Rattle.std.proofs.lemmas.List.Elements.{All-cons, All-nil}
use Rattle.vlsi_base.specs.declared.name.Name.{Name}
use Rattle.vlsi_base.specs.Member.{AllDifferent}
use Rattle.bool_expr.specs.Expression.{Expression, constant, variable, inverse, pair, choice, IsOver}
use Rattle.bool_expr.specs.Support.{among}
use Rattle.machine_core.specs.Machine.{names_of}
use Rattle.fsm_machine.specs.Statements.{Assignment, output, next, Statements, finish, assign, choose, select, Parts, only, either, further, Branches, closed, others, listed}
use Rattle.fsm_machine.specs.Fsm.{Fsm}
use Rattle.fsm_machine.specs.MachineOf.{all_states}
use Rattle.fsm_machine.specs.Signals.{without}
use Rattle.fsm_machine.specs.Sound.{IsKnownNext, IsSound, ArePartsSound, AreBranchesSound, AreLeft}
use Rattle.fsm_machine.proofs.States.{among_up}
use Rattle.fsm_machine.proofs.Holding.{among_without}
use Rattle.fsm_core.specs.Checked.{ReadsInputs, IsAssignmentOf, IsBodyOf, ArePartsOf, AreBranchesOf, ListsStates, PartsListStates, BranchesListStates, IsCheckedFsm}
use Rattle.fsm_print.specs.declared.words.Words.{Words}
use Rattle.fsm_print.specs.Pieces.{IsKnownAssignment, AreKnownStates, IsKnownBody, AreKnownParts, AreKnownBranches}
use Rattle.fsm_print.specs.Written.{AreWords}

got_below : {X : Type 0} (xs : List X) (k : ℕ) (x : X) → slice_get xs k ≡ Some x → k < length xs
got_below [] k x e = absurd cc
got_below (y ∷ ys) zero x e = omega arith
got_below (y ∷ ys) (suc k) x e = omega (arith, got_below ys k x e)

-- what reads inputs is over the ports
over : (f : Fsm) (e : Expression) → ReadsInputs f e → IsOver e (length (names_of f.ports))
over f (constant b) reads = tt
over f (variable k) reads = got_below (names_of f.ports) k reads.name reads.is
over f (inverse e) reads = over f e reads
over f (pair g a b) reads = (over f a reads.0, over f b reads.1)
over f (choice c a b) reads = (over f c reads.0, (over f a reads.1.0, over f b reads.1.1))

-- the states that may be listed are some of all
abbrev AreSome : Fsm → List ℕ → Type 0
AreSome f left = (s : ℕ) → among s left ≡ true → among s (all_states f) ≡ true

fewer : (f : Fsm) (here left : List ℕ) → AreSome f left → AreSome f (without here left)
fewer f here left h s e = h s (and_parts (among s left) (not (among s here)) (sym (among_without s here left) ∙ e)).0

either_true : (a b : Bool) → a ≡ true → (a || b) ≡ true
either_true true b e = refl
either_true false b e = absurd cc

or_true : (a b : Bool) → b ≡ true → (a || b) ≡ true
or_true true b e = refl
or_true false b e = e

-- each number of a list is among it
each_among : (P : ℕ → Type 0) (xs : List ℕ) → ((s : ℕ) → among s xs ≡ true → P s) → All P xs
each_among P [] h = All-nil P
each_among P (x ∷ xs) h =
    All-cons P x xs (h x (either_true (x == x) (among x xs) (eq-eqb x x refl))) (each_among P xs (λ s e. h s (or_true (x == s) (among s xs) e)))

-- the names of these words
record Named (f : Fsm) (w : Words) : Type 0 where
  vars : length w.vars ≡ length (names_of f.ports)
  states : length w.states ≡ length f.states

known_expression : (f : Fsm) (w : Words) → Named f w → (e : Expression) → ReadsInputs f e → IsOver e (length w.vars)
known_expression f w n e reads = subst (IsOver e) (sym n.vars) (over f e reads)

below : (f : Fsm) (w : Words) → Named f w → (s : ℕ) → among s (all_states f) ≡ true → s < length w.states
below f w n s e = let l = among_up s 0 (length f.states) e in let same = n.states in omega (arith, l, same)

known_assignment : (f : Fsm) (w : Words) → Named f w → (a : Assignment) → IsAssignmentOf f a → IsKnownNext (all_states f) a → IsKnownAssignment w a
known_assignment f w n (output name e) reads sound = known_expression f w n e reads.1
known_assignment f w n (next s) reads sound = below f w n s sound

known_states : (f : Fsm) (w : Words) → Named f w → (here left : List ℕ) → AreLeft here left → AreSome f left → (0 < length here) × AllDifferent here → AreKnownStates w here
known_states f w n here left are some lists = (lists.0, each_among (λ s. s < length w.states) here (λ s e. below f w n s (some s (are s e))))

mutual
  known_body : (f : Fsm) (w : Words) → Named f w → (b : Statements) → IsBodyOf f b → IsSound (all_states f) b → ListsStates b → IsKnownBody w b
  known_body f w n finish reads sound lists = tt
  known_body f w n (assign a rest) reads sound lists = (known_assignment f w n a reads.0 sound.0, known_body f w n rest reads.1 sound.1 lists)
  known_body f w n (choose parts rest) reads sound lists = (known_parts f w n parts reads.0 sound.0 lists.0, known_body f w n rest reads.1 sound.1 lists.1)
  known_body f w n (select branches rest) reads sound lists =
      (known_branches f w n (all_states f) branches (λ s e. e) reads.0 sound.0 lists.0, known_body f w n rest reads.1 sound.1 lists.1)

  known_parts : (f : Fsm) (w : Words) → Named f w → (ps : Parts) → ArePartsOf f ps → ArePartsSound (all_states f) ps → PartsListStates ps → AreKnownParts w ps
  known_parts f w n (only c a) reads sound lists = (known_expression f w n c reads.0, known_body f w n a reads.1 sound lists)
  known_parts f w n (either c a b) reads sound lists =
      ((known_expression f w n c reads.0, known_body f w n a reads.1.0 sound.0 lists.0), known_body f w n b reads.1.1 sound.1 lists.1)
  known_parts f w n (further c a more) reads sound lists =
      ((known_expression f w n c reads.0, known_body f w n a reads.1.0 sound.0 lists.0), known_parts f w n more reads.1.1 sound.1 lists.1)

  known_branches : (f : Fsm) (w : Words) → Named f w → (left : List ℕ) (bs : Branches) → AreSome f left → AreBranchesOf f bs → AreBranchesSound (all_states f) left bs → BranchesListStates bs → AreKnownBranches w bs
  known_branches f w n left closed some reads sound lists = tt
  known_branches f w n left (others a) some reads sound lists = known_body f w n a reads sound lists
  known_branches f w n left (listed here a more) some reads sound lists = (
    (known_states f w n here left sound.0 some lists.0, known_body f w n a reads.0 sound.1.0 lists.1.0),
    known_branches f w n (without here left) more (fewer f here left some) reads.1 sound.1.1 lists.1.1,
  )

pub known : (f : Fsm) (w : Words) → IsCheckedFsm f → AreWords f w → IsKnownBody w f.body
known f w checked words =
    known_body f w (record { vars = ap (λ (ns : List Name). length ns) words.vars; states = ap (λ (ns : List Name). length ns) words.states }) f.body checked.reads checked.sound checked.listed

pub some_states : (f : Fsm) (w : Words) → IsCheckedFsm f → AreWords f w → 0 < length w.states
some_states f w checked words = subst (λ (ns : List Name). 0 < length ns) (sym words.states) checked.some_state
