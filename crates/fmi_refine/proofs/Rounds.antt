-- A round takes one state more.
use Rattle.std.proofs.Common.{◌≡◌, ℕ, suc, ◌<◌, ◌≤◌, List, [], ◌∷◌, ◌++◌, length, inl, inr, refl, sym, ◌∙◌, subst, arith, length-append}
use Rattle.std.proofs.lemmas.Bool.{cases_order}
use Rattle.fsm_merge.specs.Numbering.{nth}
use Rattle.fmi_refine.specs.declared.round.Move.{Move}
use Rattle.fmi_refine.specs.Rows.{move_at, AreAlike, AreSame}
use Rattle.fmi_refine.specs.Refined.{IsRefined}
use Rattle.fmi_refine.proofs.Places.{before, at_end, pushed}

-- ---- states that are the same

alike_itself : (c : List ℕ) (a : Move) → AreAlike c a a
alike_itself c a = record { outs = refl; next = refl }

alike_back : (c : List ℕ) (a b : Move) → AreAlike c a b → AreAlike c b a
alike_back c a b h = record { outs = sym h.outs; next = sym h.next }

alike_both : (c : List ℕ) (a b d : Move) → AreAlike c a b → AreAlike c b d → AreAlike c a d
alike_both c a b d h k = record { outs = h.outs ∙ k.outs; next = h.next ∙ k.next }

pub same_itself : (rows : List (List Move)) (c : List ℕ) (s : ℕ) → AreSame rows c s s
same_itself rows c s = record { one = refl; alike = λ v l. alike_itself c (move_at rows s v) }

pub same_back : (rows : List (List Move)) (c : List ℕ) (s t : ℕ) → AreSame rows c s t → AreSame rows c t s
same_back rows c s t h = record { one = sym h.one; alike = λ v l. alike_back c (move_at rows s v) (move_at rows t v) (h.alike v l) }

pub same_both : (rows : List (List Move)) (c : List ℕ) (s t u : ℕ) → AreSame rows c s t → AreSame rows c t u → AreSame rows c s u
same_both rows c s t u h k = record {
  one = h.one ∙ k.one;
  alike = λ v l. alike_both c (move_at rows s v) (move_at rows t v) (move_at rows u v) (h.alike v l) (k.alike v l);
}

-- ---- a round that begins

pub none_yet : (rows : List (List Move)) (c : List ℕ) → IsRefined rows c 0 [] []
none_yet rows c = record {
  numbered = record {
    each = refl;
    known = λ s l. absurd (omega arith);
    own = λ p l. absurd (omega arith);
    least = λ s l. absurd (omega arith);
    ordered = λ p q l m. absurd (omega arith);
  };
  alike = λ s l. absurd (omega arith);
  apart = λ p q l m. absurd (omega arith);
}

-- ---- a state that joins a class

-- of a state its class, and that it is the same as the state that is kept for it
record HasClass (rows : List (List Move)) (c kept : List ℕ) (s v : ℕ) : Type 0 where
  pub known : v < length kept
  pub least : nth kept v ≤ s
  pub alike : AreSame rows c (nth kept v) s

has_class : (rows : List (List Move)) (c : List ℕ) (m : ℕ) (of kept : List ℕ) → IsRefined rows c m of kept → (s : ℕ) → s < length of
    → HasClass rows c kept s (nth of s)
has_class rows c m of kept h s l =
    let e = h.numbered.each in
    let low : s < m = omega arith in
    record { known = h.numbered.known s low; least = h.numbered.least s low; alike = h.alike s low }

pub joined : (rows : List (List Move)) (c : List ℕ) (m : ℕ) (of kept : List ℕ) (k : ℕ) → IsRefined rows c m of kept → k < length kept
    → AreSame rows c (nth kept k) m
    → IsRefined rows c (suc m) (of ++ k ∷ []) kept
joined rows c m of kept k h low same =
    let e = h.numbered.each in
    let own = h.numbered.own k low in
    let less = own.0 in
    let last : HasClass rows c kept (length of) k = subst (λ (n : ℕ). HasClass rows c kept n k) (sym e)
    (record { known = low; least = omega arith; alike = same }) in
    let all = pushed (HasClass rows c kept) of k (has_class rows c m of kept h) last in
    let grown = length-append of (k ∷ []) in
    record {
      numbered = record {
        each = omega arith;
        known = λ s l. (all s (omega arith)).known;
        own = λ p l. (let o = h.numbered.own p l in let small = o.0 in (omega arith, before of k 0 (nth kept p) (omega arith) ∙ o.1));
        least = λ s l. (all s (omega arith)).least;
        ordered = h.numbered.ordered;
      };
      alike = λ s l. (all s (omega arith)).alike;
      apart = h.apart;
    }

-- ---- a state that begins a class

grown_class : (rows : List (List Move)) (c kept : List ℕ) (m s v : ℕ) → HasClass rows c kept s v → HasClass rows c (kept ++ m ∷ []) s v
grown_class rows c kept m s v h =
    let known = h.known in
    let e = before kept m 0 v h.known in
    let grown = length-append kept (m ∷ []) in
    let least = h.least in
    record {
      known = omega arith;
      least = omega arith;
      alike = subst (λ (n : ℕ). AreSame rows c n s) (sym e) h.alike;
    }

-- of a new class the state that is kept, and that it is new
record IsKept (rows : List (List Move)) (c of kept : List ℕ) (m p v : ℕ) : Type 0 where
  pub low : v < m
  pub own : nth of v ≡ p
  pub ordered : (q : ℕ) → q < p → nth kept q < v
  pub apart : (q : ℕ) → q < p → AreSame rows c (nth kept q) v → ⊥

is_kept : (rows : List (List Move)) (c : List ℕ) (m : ℕ) (of kept : List ℕ) (k : ℕ) → IsRefined rows c m of kept → (p : ℕ) → p < length kept
    → IsKept rows c (of ++ k ∷ []) (kept ++ m ∷ []) (suc m) p (nth kept p)
is_kept rows c m of kept k h p l =
    let e = h.numbered.each in
    let own = h.numbered.own p l in
    let low = own.0 in
    record {
      low = omega arith;
      own = before of k 0 (nth kept p) (omega arith) ∙ own.1;
      ordered = λ q high. subst (λ (n : ℕ). n < nth kept p) (sym (before kept m 0 q (omega arith))) (h.numbered.ordered q p high l);
      apart = λ q high. subst (λ (n : ℕ). AreSame rows c n (nth kept p) → ⊥) (sym (before kept m 0 q (omega arith))) (h.apart q p high l);
    }

last_kept : (rows : List (List Move)) (c : List ℕ) (m : ℕ) (of kept : List ℕ) → IsRefined rows c m of kept
    → ((k : ℕ) → k < length kept → AreSame rows c (nth kept k) m → ⊥)
    → IsKept rows c (of ++ length kept ∷ []) (kept ++ m ∷ []) (suc m) (length kept) m
last_kept rows c m of kept h none =
    let end : nth (of ++ length kept ∷ []) (length of) ≡ length kept = at_end of (length kept) 0 in
    record {
      low = omega arith;
      own = subst (λ (n : ℕ). nth (of ++ length kept ∷ []) n ≡ length kept) h.numbered.each end;
      ordered = λ q high. subst (λ (n : ℕ). n < m) (sym (before kept m 0 q high)) (h.numbered.own q high).0;
      apart = λ q high. subst (λ (n : ℕ). AreSame rows c n m → ⊥) (sym (before kept m 0 q high)) (none q high);
    }

pub added : (rows : List (List Move)) (c : List ℕ) (m : ℕ) (of kept : List ℕ) → IsRefined rows c m of kept
    → ((k : ℕ) → k < length kept → AreSame rows c (nth kept k) m → ⊥) → IsRefined rows c (suc m) (of ++ length kept ∷ []) (kept ++ m ∷ [])
added rows c m of kept h none =
    let e = h.numbered.each in
    let new = kept ++ m ∷ [] in
    let end : nth new (length kept) ≡ m = at_end kept m 0 in
    let grown = length-append kept (m ∷ []) in
    let longer = length-append of (length kept ∷ []) in
    let last : HasClass rows c new (length of) (length kept) =
    subst (λ (n : ℕ). HasClass rows c new n (length kept)) (sym e)
    (record { known = omega arith; least = omega arith; alike = subst (λ (n : ℕ). AreSame rows c n m) (sym end) (same_itself rows c m) }) in
    let all = pushed (HasClass rows c new) of (length kept) (λ s l. grown_class rows c kept m s (nth of s) (has_class rows c m of kept h s l)) last in
    let classes = pushed (IsKept rows c (of ++ length kept ∷ []) new (suc m)) kept m (is_kept rows c m of kept (length kept) h)
    (last_kept rows c m of kept h none) in
    record {
      numbered = record {
        each = omega arith;
        known = λ s l. (all s (omega arith)).known;
        own = λ p l. (let k = classes p (omega arith) in (k.low, k.own));
        least = λ s l. (all s (omega arith)).least;
        ordered = λ p q l high. (classes q (omega arith)).ordered p l;
      };
      alike = λ s l. (all s (omega arith)).alike;
      apart = λ p q l high. (classes q (omega arith)).apart p l;
    }

-- ---- the classes of a whole round

pub one_same : (rows : List (List Move)) (c : List ℕ) (m : ℕ) (of kept : List ℕ) → IsRefined rows c m of kept → (s t : ℕ) → s < m → t < m
    → nth of s ≡ nth of t → AreSame rows c s t
one_same rows c m of kept h s t l r e =
    let first = same_back rows c (nth kept (nth of s)) s (h.alike s l) in
    let second = subst (λ (p : ℕ). AreSame rows c (nth kept p) t) (sym e) (h.alike t r) in
    same_both rows c s (nth kept (nth of s)) t first second

pub same_one : (rows : List (List Move)) (c : List ℕ) (m : ℕ) (of kept : List ℕ) → IsRefined rows c m of kept → (s t : ℕ) → s < m → t < m
    → AreSame rows c s t → nth of s ≡ nth of t
same_one rows c m of kept h s t l r same =
    let through : AreSame rows c (nth kept (nth of s)) (nth kept (nth of t)) =
    same_both rows c (nth kept (nth of s)) s (nth kept (nth of t)) (h.alike s l)
    (same_both rows c s t (nth kept (nth of t)) same (same_back rows c (nth kept (nth of t)) t (h.alike t r))) in
    elim (cases_order (nth of s) (nth of t)) [
      | inl e ↦ e
      | inr (inl low) ↦ absurd (h.apart (nth of s) (nth of t) low (h.numbered.known t r) through)
      | inr (inr high) ↦ absurd (h.apart (nth of t) (nth of s) high (h.numbered.known s l)
          (same_back rows c (nth kept (nth of s)) (nth kept (nth of t)) through))
    ]
