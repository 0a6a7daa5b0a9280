-- Vectors that tell two states apart, one after another.
use Rattle.std.proofs.Common.{◌≡◌, ℕ, zero, suc, ◌-◌, ◌<◌, List, [], ◌∷◌, ◌++◌, length, ◌⊎◌, inl, inr, refl, sym, ap, ◌∙◌, subst, arith, append_assoc}
use Rattle.std.specs.List.{AllByRecursion, slice_index_or}
use Rattle.std.proofs.lemmas.List.{get_or_default}
use Rattle.fsm_merge.specs.Numbering.{nth}
use Rattle.fmi_refine.specs.declared.round.Move.{Move}
use Rattle.fmi_refine.specs.declared.round.Partition.{Partition}
use Rattle.fmi_refine.specs.Rows.{vectors_of, row_at, move_in, move_at, AreAlike, AreRows}
use Rattle.fmi_refine.specs.Refined.{level, AreLevels, Tells}
use Rattle.fmi_refine.proofs.Rounds.{same_one}

-- what tells two states apart that are reached tells those apart from which they are reached
pub record Leads (rows : List (List Move)) (s t : ℕ) (made : List ℕ) (a b : ℕ) : Type 0 where
  pub leads : (rest : List ℕ) → Tells rows a b rest → Tells rows s t (made ++ rest)

pub leads_itself : (rows : List (List Move)) (s t : ℕ) → Leads rows s t [] s t
leads_itself rows s t = record { leads = λ rest h. h }

pub leads_on : (rows : List (List Move)) (s t : ℕ) (made : List ℕ) (a b v : ℕ) → Leads rows s t made a b → v < vectors_of rows
    → Leads rows s t (made ++ v ∷ []) (move_at rows a v).next (move_at rows b v).next
leads_on rows s t made a b v h l = record {
  leads = λ rest tells. subst (λ (vs : List ℕ). Tells rows s t vs) (sym (append_assoc made (v ∷ []) rest)) (h.leads (v ∷ rest) (l, inr tells));
}

pub leads_end : (rows : List (List Move)) (s t : ℕ) (made : List ℕ) (a b v : ℕ) → Leads rows s t made a b → v < vectors_of rows
    → ((move_at rows a v).outs ≡ (move_at rows b v).outs → ⊥) → Tells rows s t (made ++ v ∷ [])
leads_end rows s t made a b v h l other = h.leads (v ∷ []) (l, inl (other, refl))

-- where all moves of two states of one class are alike, the next partition has them in one class
pub one_later : (rows : List (List Move)) (levels : List Partition) (r a b : ℕ) → AreLevels rows levels → suc r < length levels → a < length rows
    → b < length rows
    → nth (level levels r).state_of a ≡ nth (level levels r).state_of b
    → ((v : ℕ) → v < vectors_of rows → AreAlike (level levels r).state_of (move_at rows a v) (move_at rows b v))
    → nth (level levels (suc r)).state_of a ≡ nth (level levels (suc r)).state_of b
one_later rows levels r a b h low l m one alike =
    same_one rows (level levels r).state_of (length rows) (level levels (suc r)).state_of (level levels (suc r)).kept (h.refined r low) a b l m
    (record { one = one; alike = alike })

-- each of them is the number of a vector
pub tells_numbers : (rows : List (List Move)) (numbers : List ℕ) (s t : ℕ) → Tells rows s t numbers → AllByRecursion (λ (v : ℕ). v < vectors_of rows) numbers
tells_numbers rows [] s t tells = tt
tells_numbers rows (v ∷ numbers) s t (low, tells) = (low, later tells (tells_numbers rows numbers (move_at rows s v).next (move_at rows t v).next)) where
  later : (((move_at rows s v).outs ≡ (move_at rows t v).outs → ⊥) × (numbers ≡ [])) ⊎ Tells rows (move_at rows s v).next (move_at rows t v).next numbers
      → (Tells rows (move_at rows s v).next (move_at rows t v).next numbers → AllByRecursion (λ (u : ℕ). u < vectors_of rows) numbers)
      → AllByRecursion (λ (u : ℕ). u < vectors_of rows) numbers
  later (inl (other, e)) rest = subst (λ (vs : List ℕ). AllByRecursion (λ (u : ℕ). u < vectors_of rows) vs) (sym e) tt
  later (inr more) rest = rest more

-- ---- moves that are read from rows, and classes from a partition

pub classes_read : (levels : List Partition) (r : ℕ) (q : Partition) (c : List ℕ) → r < length levels → c ≡ (slice_index_or levels r q).state_of
    → c ≡ (level levels r).state_of
classes_read levels r q c l e = e ∙ ap (λ (x : Partition). x.state_of) (get_or_default levels r q (record { state_of = []; kept = [] }) l)

row_read : (rows : List (List Move)) (s : ℕ) (row d : List Move) → s < length rows → row ≡ slice_index_or rows s d → row ≡ row_at rows s
row_read rows s row d l e = e ∙ get_or_default rows s d [] l

pub in_row : (rows : List (List Move)) (s v : ℕ) (row d : List Move) → AreRows rows → s < length rows → v < vectors_of rows → row ≡ slice_index_or rows s d
    → v < length row
in_row rows s v row d h l m e =
    subst (λ (xs : List Move). v < length xs) (sym (row_read rows s row d l e)) (subst (λ (n : ℕ). v < n) (sym (h.each s l)) m)

pub move_read : (rows : List (List Move)) (s v : ℕ) (row d : List Move) → s < length rows → row ≡ slice_index_or rows s d → move_in row v ≡ move_at rows s v
move_read rows s v row d l e = ap (λ (xs : List Move). move_in xs v) (row_read rows s row d l e)

-- ---- a round before

-- states that a partition tells apart aren't alike by the one before it
pub some_apart : (rows : List (List Move)) (levels : List Partition) (k a b : ℕ) (c : List ℕ) → AreLevels rows levels → 0 < k → k < length levels
    → a < length rows → b < length rows → (nth (level levels k).state_of a ≡ nth (level levels k).state_of b → ⊥)
    → c ≡ (level levels (k - 1)).state_of → nth c a ≡ nth c b
    → ((v : ℕ) → v < vectors_of rows → AreAlike c (move_at rows a v) (move_at rows b v)) → ⊥
some_apart rows levels zero a b c h some low l m apart e one alike = absurd (omega (arith, some))
some_apart rows levels (suc r) a b c h some low l m apart e one alike =
    let back : suc r - 1 ≡ r = omega arith in
    let same : c ≡ (level levels r).state_of = e ∙ ap (λ (p : ℕ). (level levels p).state_of) back in
    apart
    (one_later rows levels r a b h low l m (subst (λ (x : List ℕ). nth x a ≡ nth x b) same one)
    (λ v n. subst (λ (x : List ℕ). AreAlike x (move_at rows a v) (move_at rows b v)) same (alike v n)))

-- moves with the same outputs that aren't alike lead to states of different classes
pub next_apart : (c d : List ℕ) (a b x y : Move) → x ≡ a → y ≡ b → c ≡ d → x.outs ≡ y.outs → (AreAlike c a b → ⊥) → nth d x.next ≡ nth d y.next → ⊥
next_apart c d a b x y e f g outs other next =
    other
    (subst (λ (z : Move). AreAlike c z b) e
    (subst (λ (z : Move). AreAlike c x z) f (record { outs = outs; next = subst (λ (z : List ℕ). nth z x.next ≡ nth z y.next) (sym g) next })))
