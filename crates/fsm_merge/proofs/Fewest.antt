-- States that become one exactly if they do the same leave the machine with the fewest states.
use Rattle.std.proofs.Common.{◌≡◌, ℕ, ◌<◌, ◌≤◌, Bool, List, map, length, None, Some, ◌⊎◌, inl, inr, refl, sym, ap, ◌∙◌, subst, arith}
use Rattle.std.specs.List.{All}
use Rattle.std.specs.Option.{option_map}
use Rattle.std.proofs.lemmas.Bool.{cases_order}
use Rattle.fsm_machine.specs.Fsm.{Fsm, fsm_inputs, fsm_outputs, walked_next, walked_output, Resets, FsmRun}
use Rattle.fsm_core.specs.Checked.{IsCheckedFsm}
use Rattle.fsm_merge.specs.Numbering.{nth, IsNumbering}
use Rattle.fsm_merge.specs.Merged.{merged_fsm}
use Rattle.fsm_merge.specs.Runs.{Agree, Differ, IsTest}
use Rattle.fsm_merge.specs.Fewest.{IsFewest, Matches, NoneHasFewer}
use Rattle.fsm_merge.proofs.Pigeons.{pigeons}
use Rattle.fsm_merge.proofs.Checked.{states_count}
use Rattle.fsm_merge.proofs.Running.{next_below, next_known, each_run, one_run, same_runs, next_merged, outputs_merged, reset_merged}

-- states that become one have the same outputs, and lead to states that become one
pub record IsClosed (f : Fsm) (c : List ℕ) : Type 0 where
  pub outputs : (i : List Bool) (s t : ℕ) → s < length f.states → t < length f.states → nth c s ≡ nth c t
      → map (walked_output f i (Some s)) (fsm_outputs f) ≡ map (walked_output f i (Some t)) (fsm_outputs f)
  pub nexts : (i : List Bool) (s t a b : ℕ) → s < length f.states → t < length f.states → nth c s ≡ nth c t
      → walked_next f i (Some s) ≡ Some a → walked_next f i (Some t) ≡ Some b → nth c a ≡ nth c b

-- two old states that become one
abbrev AreOne : Fsm → List ℕ → ℕ → ℕ → Type 0
AreOne f c s t = (s < length f.states) × (t < length f.states) × (nth c s ≡ nth c t)

-- an old state and the new one that it becomes
abbrev Becomes : Fsm → List ℕ → ℕ → ℕ → Type 0
Becomes f c s p = (s < length f.states) × (nth c s ≡ p)

one_next : (f : Fsm) (c : List ℕ) → IsCheckedFsm f → IsClosed f c → (i : List Bool) (s t a : ℕ) → AreOne f c s t → walked_next f i (Some s) ≡ Some a
    → (b : ℕ) × (walked_next f i (Some t) ≡ Some b) × AreOne f c a b
one_next f c checked is i s t a h e =
    let b = next_known f checked i t h.1 in
    (b.0, b.1, (next_below f checked i (Some s) a e, next_below f checked i (Some t) b.0 b.1, is.nexts i s t a b.0 h.0 h.1 h.2 e b.1))

pub one_runs : (f : Fsm) (c : List ℕ) → IsCheckedFsm f → IsClosed f c → (v : List (List Bool)) (s t : ℕ) (y : List (List Bool)) → AreOne f c s t
    → FsmRun f s v y → FsmRun f t v y
one_runs f c checked is =
    same_runs f f (AreOne f c) (λ i s t h. is.outputs i s t h.0 h.1 h.2) (one_next f c checked is)

-- the state that is kept for what it becomes is one with it
kept_one : (f : Fsm) (c k : List ℕ) → IsNumbering (length f.states) c k → (s p : ℕ) → Becomes f c s p → (p < length k) × AreOne f c s (nth k p)
kept_one f c k h s p b =
    let P : ℕ → Type 0 = λ x. x < length k in
    let low : p < length k = subst P b.1 (h.known s b.0) in
    let own = h.own p low in
    (low, (b.0, own.0, b.1 ∙ sym own.1))

becomes_outputs : (f : Fsm) (c k : List ℕ) → IsNumbering (length f.states) c k → IsClosed f c → (i : List Bool) (s p : ℕ) → Becomes f c s p
    → map (walked_output f i (Some s)) (fsm_outputs f) ≡ map (walked_output (merged_fsm f c k) i (Some p)) (fsm_outputs (merged_fsm f c k))
becomes_outputs f c k h is i s p b =
    let one = kept_one f c k h s p b in
    is.outputs i s (nth k p) one.1.0 one.1.1 one.1.2 ∙ sym (outputs_merged f c k h i p one.0)

becomes_next : (f : Fsm) (c k : List ℕ) → IsCheckedFsm f → IsNumbering (length f.states) c k → IsClosed f c → (i : List Bool) (s p a : ℕ) → Becomes f c s p
    → walked_next f i (Some s) ≡ Some a → (b : ℕ) × (walked_next (merged_fsm f c k) i (Some p) ≡ Some b) × Becomes f c a b
becomes_next f c k checked h is i s p a becomes e =
    let one = kept_one f c k h s p becomes in
    let b = one_next f c checked is i s (nth k p) a one.1 e in
    (nth c b.0, next_merged f c k h i p one.0 ∙ ap (option_map (nth c)) b.1, (b.2.0, b.2.2))

pub merged_runs : (f : Fsm) (c k : List ℕ) → IsCheckedFsm f → IsNumbering (length f.states) c k → IsClosed f c → (v : List (List Bool)) (s p : ℕ) (y : List (List Bool))
    → Becomes f c s p → FsmRun f s v y → FsmRun (merged_fsm f c k) p v y
merged_runs f c k checked h is =
    same_runs f (merged_fsm f c k) (Becomes f c) (becomes_outputs f c k h is) (becomes_next f c k checked h is)

-- what tells two kept states tells the new ones
pub told_merged : (f : Fsm) (c k : List ℕ) → IsCheckedFsm f → IsNumbering (length f.states) c k → IsClosed f c → (p q : ℕ) (v : List (List Bool))
    → p < length k → q < length k → Differ f (nth k p) (nth k q) v → Differ (merged_fsm f c k) p q v
told_merged f c k checked h is p q v l m d =
    let a = h.own p l in
    let b = h.own q m in
    record {
      of_first = d.of_first;
      of_second = d.of_second;
      first = merged_runs f c k checked h is v (nth k p) p d.of_first a d.first;
      second = merged_runs f c k checked h is v (nth k q) q d.of_second b d.second;
      apart = d.apart;
    }

-- states that do the same don't become two that are told apart
not_told : (f : Fsm) (c k : List ℕ) → IsCheckedFsm f → IsNumbering (length f.states) c k → IsClosed f c → (s t p q : ℕ) (v : List (List Bool))
    → Becomes f c s p → Becomes f c t q → Differ (merged_fsm f c k) p q v → Agree f s f t v → ⊥
not_told f c k checked h is s t p q v a b d same =
    let g = merged_fsm f c k in
    let first = one_run g v p d.of_first same.outputs d.first (merged_runs f c k checked h is v s p same.outputs a same.first) in
    let second = one_run g v q d.of_second same.outputs d.second (merged_runs f c k checked h is v t q same.outputs b same.second) in
    d.apart (first ∙ sym second)

-- tests of the kept states, and how many new states there are
pub record AreTests (f : Fsm) (k : List ℕ) (tests : ℕ → ℕ → List (List Bool)) : Type 0 where
  pub apart : (p q : ℕ) → p < q → q < length k → Differ f (nth k p) (nth k q) (tests p q)
  pub short : (p q : ℕ) → p < q → q < length k → length (tests p q) ≤ length k
  pub vectors : (p q : ℕ) → p < q → q < length k → All (λ i. length i ≡ length (fsm_inputs f)) (tests p q)

swapped : (f : Fsm) (p q : ℕ) (v : List (List Bool)) → Differ f p q v → Differ f q p v
swapped f p q v d = record { of_first = d.of_second; of_second = d.of_first; first = d.second; second = d.first; apart = λ e. d.apart (sym e) }

pub fewest : (f : Fsm) (c k : List ℕ) (tests : ℕ → ℕ → List (List Bool)) → IsCheckedFsm f → IsNumbering (length f.states) c k → IsClosed f c → AreTests f k tests
    → IsFewest f (merged_fsm f c k) c tests
fewest f c k tests checked h is told =
    let g = merged_fsm f c k in
    let count = states_count f c k h in
    record {
      kept = k;
      numbered = h;
      made = refl;
      count = count;
      alike = λ s v l. (let y = each_run f checked v s l in record { outputs = y.0; first = y.1; second = merged_runs f c k checked h is v s (nth c s) y.0 (l, refl) y.1 });
      classes = λ s t l m. (
        λ e v. (let y = each_run f checked v s l in record { outputs = y.0; first = y.1; second = one_runs f c checked is v s t y.0 (l, m, e) y.1 }),
        λ same. elim (cases_order (nth c s) (nth c t)) [
          | inl e ↦ e
          | inr (inl low) ↦ (let p = nth c s in let q = nth c t in let k_low = h.known s l in let in_k = h.known t m in
              absurd (not_told f c k checked h is s t p q (tests p q) (l, refl) (m, refl)
              (told_merged f c k checked h is p q (tests p q) k_low in_k (told.apart p q low in_k)) (same (tests p q))))
          | inr (inr high) ↦ (let p = nth c s in let q = nth c t in let k_low = h.known s l in let in_k = h.known t m in
              absurd (not_told f c k checked h is s t p q (tests q p) (l, refl) (m, refl)
              (swapped g q p (tests q p) (told_merged f c k checked h is q p (tests q p) in_k k_low (told.apart q p high k_low))) (same (tests q p))))
        ],
      );
      told = λ p q low high. (let in_k : q < length k = omega arith in
          let low_k : p < length k = omega arith in
          let short = told.short p q low in_k in
          record {
            apart = told_merged f c k checked h is p q (tests p q) low_k in_k (told.apart p q low in_k);
            short = omega arith;
            vectors = told.vectors p q low in_k;
          });
      resets = λ i r e. (next_below f checked i None r e, reset_merged f c k i r e);
    }

-- ---- no machine has fewer

-- two kept states that match one state of another machine are one
one_match : (f g : Fsm) (c : List ℕ) (tests : ℕ → ℕ → List (List Bool)) → IsFewest f g c tests → (h : Fsm) (state : ℕ → ℕ) → Matches f h state
    → (s t : ℕ) → s < length f.states → t < length f.states → state s ≡ state t → nth c s ≡ nth c t
one_match f g c tests is h state match s t l m e =
    (is.classes s t l m).1 (λ v.
    let a = match.alike s v l in
    let b = match.alike t v m in
    let P : ℕ → Type 0 = λ x. FsmRun h x v a.outputs in
    let same : a.outputs ≡ b.outputs = one_run h v (state t) a.outputs b.outputs (subst P e a.second) b.second in
    let Q : List (List Bool) → Type 0 = λ y. FsmRun f t v y in
    record { outputs = a.outputs; first = a.first; second = subst Q (sym same) b.first })

pub none_fewer : NoneHasFewer
none_fewer f g c tests is h state match =
    let n = is.numbered in
    let count = is.count in
    let less = pigeons (length is.kept) (length h.states) (λ p. state (nth is.kept p))
    (λ p l. match.known (nth is.kept p) (n.own p l).0)
    (λ p q l m e. sym (n.own p l).1 ∙ one_match f g c tests is h state match (nth is.kept p) (nth is.kept q) (n.own p l).0 (n.own q m).0 e ∙ (n.own q m).1) in
    omega arith
