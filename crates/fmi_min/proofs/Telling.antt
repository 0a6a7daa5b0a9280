-- Vectors that tell two rows apart tell the states apart.
use Rattle.std.proofs.Common.{◌≡◌, ℕ, suc, ◌-◌, ◌/◌, ◌<◌, Bool, List, [], ◌∷◌, map, length, Some, true, false, ◌⊎◌, inl, inr, refl, sym, ap, subst, ◌∙◌, arith}
use Rattle.std.specs.List.{All, AllByRecursion, slice_index_or}
use Rattle.std.proofs.lemmas.List.{length-map}
use Rattle.fsm_machine.specs.Fsm.{Fsm, fsm_inputs, walked_next, FsmRun}
use Rattle.fsm_machine.specs.MachineOf.{up}
use Rattle.fsm_core.specs.Checked.{IsCheckedFsm}
use Rattle.fsm_walk.specs.Words.{word}
use Rattle.fsm_walk.specs.Reads.{read_marks, reads}
use Rattle.bool_expr.specs.Support.{among}
use Rattle.fsm_walk.proofs.Reading.{up_length}
use Rattle.fsm_merge.specs.Numbering.{nth, IsNumbering}
use Rattle.fsm_merge.specs.Merged.{merged_fsm}
use Rattle.fsm_merge.specs.Runs.{Differ}
use Rattle.fsm_merge.specs.Fewest.{IsFewest}
use Rattle.fsm_merge.proofs.Running.{each_run}
use Rattle.fsm_merge.proofs.Fewest.{fewest}
use Rattle.syf_machine.proofs.Lists.{all_by, in_map}
use Rattle.fmi_refine.specs.declared.round.Move.{Move}
use Rattle.fmi_refine.specs.declared.round.Partition.{Partition}
use Rattle.fmi_refine.specs.Rows.{move_at, vectors_of, AreRows}
use Rattle.fmi_refine.specs.Refined.{last_level, AreLevels, IsStable, Tells}
use Rattle.fmi_refine.proofs.Leading.{tells_numbers}
use Rattle.fmi_min.specs.Vectors.{picked}
use Rattle.fmi_min.specs.Table.{vectors_read, words_read, vector, step_under, IsTable}
use Rattle.fmi_min.specs.Tests.{test_of, numbered, vectors_of_test, TellsApart, AreAllTests}
use Rattle.fmi_min.proofs.Listing.{made_at}
use Rattle.fmi_min.proofs.Picking.{picked_length, seen_picked}
use Rattle.fmi_min.proofs.Stepping.{IsUnder, outputs_under, next_under}
use Rattle.fmi_min.proofs.Closing.{vectors_are, closed}

-- ---- numbered vectors

word_count : (marks : List Bool) (v : ℕ) → length (word marks v) ≡ length marks
word_count [] v = refl
word_count (true ∷ marks) v = ap (λ (n : ℕ). suc n) (word_count marks (v / 2))
word_count (false ∷ marks) v = ap (λ (n : ℕ). suc n) (word_count marks v)

pub marks_length : (f : Fsm) → length (read_marks f) ≡ length f.ports
marks_length f = length-map (up 0 (length f.ports)) (λ k. among k (reads f.body)) ∙ up_length 0 (length f.ports)

word_length : (f : Fsm) (v : ℕ) → length (word (read_marks f) v) ≡ length f.ports
word_length f v = word_count (read_marks f) v ∙ marks_length f

-- each word has a bit for each port
pub words_over : (f : Fsm) → All (λ w. length w ≡ length f.ports) (words_read f)
words_over f =
    all_by (λ w. length w ≡ length f.ports) (words_read f)
    (λ w inside. let made = in_map (word (read_marks f)) w (up 0 (vectors_read f)) inside in ap (λ (x : List Bool). length x) made.2 ∙ word_length f made.0)

vector_under : (f : Fsm) → IsCheckedFsm f → (v : ℕ) → IsUnder f (vector f v) v
vector_under f checked v = seen_picked f (word (read_marks f) v) checked (word_length f v)

numbered_is : (f : Fsm) (vectors : List (List Bool)) (n : ℕ) (numbers : List ℕ) → vectors ≡ map (picked f.clock f.ports) (words_read f) → n ≡ vectors_read f
    → AllByRecursion (λ (v : ℕ). v < n) numbers → numbered vectors numbers ≡ map (vector f) numbers
numbered_is f vectors n [] e count h = refl
numbered_is f vectors n (v ∷ numbers) e count h =
    let low : v < vectors_read f = subst (λ (k : ℕ). v < k) count h.0 in
    let first : slice_index_or vectors v [] ≡ vector f v =
    ap (λ (vs : List (List Bool)). slice_index_or vs v []) e ∙ made_at (picked f.clock f.ports) (word (read_marks f)) (vectors_read f) v [] low in
    ap (λ (x : List Bool). x ∷ numbered vectors numbers) first
    ∙ ap (λ (xs : List (List Bool)). vector f v ∷ xs) (numbered_is f vectors n numbers e count h.1)

-- ---- runs

heads : {A : Type 0} (a b : A) (xs ys : List A) → a ∷ xs ≡ b ∷ ys → a ≡ b
heads a b xs ys e = cc

tails : {A : Type 0} (a b : A) (xs ys : List A) → a ∷ xs ≡ b ∷ ys → xs ≡ ys
tails a b xs ys e = cc

told_runs : (f : Fsm) (rows : List (List Move)) → IsCheckedFsm f → IsTable f rows → AreRows rows → (numbers : List ℕ) (s t : ℕ) → s < length rows
    → t < length rows → Tells rows s t numbers → Differ f s t (map (vector f) numbers)
told_runs f rows checked table are [] s t l m tells = absurd tells
told_runs f rows checked table are (v ∷ numbers) s t l m (low, tells) = by tells (told_runs f rows checked table are numbers) where
  known : v < vectors_read f
  known = subst (λ (n : ℕ). v < n) (vectors_are f rows checked table) low

  below : (r : ℕ) → r < length rows → r < length f.states
  below r h = let states = table.states in omega arith

  outs : (r : ℕ) → List Bool
  outs r = (step_under f r v).outs

  goes : (r : ℕ) → r < length rows → walked_next f (vector f v) (Some r) ≡ Some (move_at rows r v).next
  goes r h = next_under f checked (vector f v) v r (vector_under f checked v) (below r h) ∙ ap (λ (n : ℕ). Some n) (sym (table.next r v h known))

  -- a run that begins with this vector
  run : (r : ℕ) → r < length rows → (y : List (List Bool)) → FsmRun f (move_at rows r v).next (map (vector f) numbers) y
      → FsmRun f r (map (vector f) (v ∷ numbers)) (outs r ∷ y)
  run r h y rest = (outs r, outputs_under f checked (vector f v) v r (vector_under f checked v) (below r h), ((move_at rows r v).next, goes r h, (y, refl, rest)))

  rest : (r : ℕ) → r < length rows → (y : List (List Bool)) × FsmRun f (move_at rows r v).next (map (vector f) numbers) y
  rest r h = each_run f checked (map (vector f) numbers) (move_at rows r v).next (below (move_at rows r v).next (are.known r v h low))

  by : (((move_at rows s v).outs ≡ (move_at rows t v).outs → ⊥) × (numbers ≡ [])) ⊎ Tells rows (move_at rows s v).next (move_at rows t v).next numbers
      → ((p q : ℕ) → p < length rows → q < length rows → Tells rows p q numbers → Differ f p q (map (vector f) numbers))
      → Differ f s t (map (vector f) (v ∷ numbers))
  by (inl (other, e)) later =
      let a = rest s l in
      let b = rest t m in
      record {
        of_first = outs s ∷ a.0;
        of_second = outs t ∷ b.0;
        first = run s l a.0 a.1;
        second = run t m b.0 b.1;
        apart = λ same. other ((table.outs s t v v l m known known).1 (heads (outs s) (outs t) a.0 b.0 same));
      }
  by (inr more) later =
      let d = later (move_at rows s v).next (move_at rows t v).next (are.known s v l low) (are.known t v m low) more in
      record {
        of_first = outs s ∷ d.of_first;
        of_second = outs t ∷ d.of_second;
        first = run s l d.of_first d.first;
        second = run t m d.of_second d.second;
        apart = λ same. d.apart (tails (outs s) (outs t) d.of_first d.of_second same);
      }

-- ---- tests

-- a test's vectors, with what is told of them
record IsTold (f : Fsm) (s t n : ℕ) (test : List (List Bool)) : Type 0 where
  pub apart : Differ f s t test
  pub short : length test < n
  pub vectors : All (λ i. length i ≡ length (fsm_inputs f)) test

is_told : (f : Fsm) (rows : List (List Move)) (levels : List Partition) (vectors : List (List Bool)) → IsCheckedFsm f → IsTable f rows → AreRows rows
    → vectors ≡ map (picked f.clock f.ports) (words_read f) → (s t : ℕ) (test : List ℕ) → s < length rows → t < length rows
    → TellsApart rows levels s t test → IsTold f s t (length levels) (numbered vectors test)
is_told f rows levels vectors checked table are e s t test l m told =
    let same : numbered vectors test ≡ map (vector f) test =
    numbered_is f vectors (vectors_of rows) test e (vectors_are f rows checked table) (tells_numbers rows test s t told.tells) in
    let few = told.few in
    let count = length-map test (vector f) in
    subst (IsTold f s t (length levels)) (sym same) (record {
      apart = told_runs f rows checked table are test s t l m told.tells;
      short = omega arith;
      vectors = all_by (λ i. length i ≡ length (fsm_inputs f)) (map (vector f) test)
          (λ i inside. let made = in_map (vector f) i test inside in
          ap (λ (x : List Bool). length x) made.2 ∙ picked_length f (word (read_marks f) made.0) (word_length f made.0));
    })

-- what is made by the last partition has the fewest states
pub minimal : (f : Fsm) (rows : List (List Move)) (levels : List Partition) (vectors : List (List Bool)) (tests : List (List (List ℕ)))
    → IsCheckedFsm f → IsTable f rows → AreRows rows → vectors ≡ map (picked f.clock f.ports) (words_read f)
    → AreLevels rows levels → IsStable rows levels → AreAllTests rows levels tests
    → IsFewest f (merged_fsm f (last_level levels).state_of (last_level levels).kept) (last_level levels).state_of (vectors_of_test vectors tests)
minimal f rows levels vectors tests checked table are e of stable all =
    let some = of.some in
    let last : length levels - 1 < length levels = omega arith in
    let kept = (last_level levels).kept in
    let more : length levels - 1 < length kept = of.more (length levels - 1) last in
    let numbered = of.numbered (length levels - 1) last in
    let each = all.each in
    let told : (p q : ℕ) → p < q → q < length kept → IsTold f (nth kept p) (nth kept q) (length levels) (vectors_of_test vectors tests p q) =
    λ p q low high. is_told f rows levels vectors checked table are e (nth kept p) (nth kept q) (test_of tests p q) (numbered.own p (omega arith)).0 (numbered.own q high).0
    ((all.told q (omega arith)).told p low) in
    fewest f (last_level levels).state_of kept (vectors_of_test vectors tests) checked
    (subst (λ (n : ℕ). IsNumbering n (last_level levels).state_of kept) table.states numbered) (closed f rows levels checked table stable) (record {
      apart = λ p q low high. (told p q low high).apart;
      short = λ p q low high. (let short = (told p q low high).short in omega arith);
      vectors = λ p q low high. (told p q low high).vectors;
    })
