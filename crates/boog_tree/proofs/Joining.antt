-- Lists of cuts that are made of two.
use Rattle.std.proofs.Common.{◌≡◌, inl, inr, ℕ, ◌+◌, ◌<◌, List, [], ◌∷◌, ◌++◌, length, take, refl, sym, subst, arith}
use Prim.Native.Nat.{zero, suc}
use Rattle.net_theory.specs.Sources.{IsNumber}
use Rattle.cell_match.specs.declared.cut.Cut.{Cut}
use Rattle.boog_cuts.specs.Cuts.{IsUnion}
use Rattle.boog_cuts.specs.Lists.{IsInvMade, IsNandMade}
use Rattle.boog_cuts.proofs.Growing.{number_front, number_end}
use Rattle.boog_cuts.proofs.Whole.{take_one_more}
use Rattle.boog_tree.specs.Joined.{AreInverses, HasJoint, IsGrownBy, AreJoined}

module _ {K : ℕ} where
  pub number_here : (xs : List (Cut K)) (c : Cut K) → IsNumber (xs ++ c ∷ []) (length xs) c
  number_here [] c = refl
  number_here (x ∷ xs) c = number_here xs c

  front_part : (xs : List (Cut K)) (i j : ℕ) (c : Cut K) → IsNumber (take i xs) j c → IsNumber xs j c
  front_part xs i j c h = go xs i j h where
    go : (xs : List (Cut K)) (i j : ℕ) → IsNumber (take i xs) j c → IsNumber xs j c
    go [] zero j h = absurd h
    go [] (suc i) j h = absurd h
    go (x ∷ xs) zero j h = absurd h
    go (x ∷ xs) (suc i) zero h = h
    go (x ∷ xs) (suc i) (suc j) h = go xs i j h

  -- ---- inverses

  pub inverses_none : (first : List (Cut K)) → AreInverses {K = K} [] []
  inverses_none first = record { sound = λ i c h. absurd h; every = λ j a h. absurd h }

  pub inverses_more : (first now next : List (Cut K)) (i : ℕ) (a c : Cut K) → AreInverses (take i first) now → IsNumber first i a → next ≡ now ++ c ∷ [] → IsInvMade a c
      → AreInverses (take (i + 1) first) next
  inverses_more first now next i a c is at more made =
      subst (λ (l : List (Cut K)). AreInverses l next) (sym (take_one_more first i a at)) (subst (λ (l : List (Cut K)). AreInverses (take i first ++ a ∷ []) l) (sym more) record {
        sound = λ k d h. elim (number_end now c k d h) [
          | inl in_front ↦ let s = is.sound k d in_front in (s.0, s.1, number_front (take i first) (a ∷ []) s.0 s.1 s.2, s.3)
          | inr last ↦ (length (take i first), a, number_here (take i first) a, subst (λ (e : Cut K). IsInvMade a e) (sym last) made)
        ];
        every = λ j b h. elim (number_end (take i first) a j b h) [
          | inl in_front ↦ let s = is.every j b in_front in (s.0, s.1, number_front now (c ∷ []) s.0 s.1 s.2, s.3)
          | inr last ↦ (length now, c, number_here now c, subst (λ (e : Cut K). IsInvMade e c) (sym last) made)
        ];
      })

  pub inverses_whole : (first now : List (Cut K)) (n : ℕ) → take n first ≡ first → AreInverses (take n first) now → AreInverses first now
  inverses_whole first now n e is = subst (λ (l : List (Cut K)). AreInverses l now) e is

  -- ---- one cut with each of a list

  joint_kept : (a b : Cut K) (now : List (Cut K)) (c : Cut K) → HasJoint a b now → HasJoint a b (now ++ c ∷ [])
  joint_kept a b now c has nodes union few = let h = has nodes union few in (h.0, h.1, number_front now (c ∷ []) h.0 h.1 h.2, h.3)

  pub grown_none : (old : List (Cut K)) (a : Cut K) → IsGrownBy old a [] old
  grown_none old a = record { kept = λ i c h. h; sound = λ i c h. inl h; every = λ j b h. absurd h }

  module _ (old : List (Cut K)) (a : Cut K) (seconds now : List (Cut K)) (i : ℕ) (b : Cut K) (is : IsGrownBy old a (take i seconds) now) (at : IsNumber seconds i b) where
    pub grown_more : (next : List (Cut K)) (c : Cut K) → next ≡ now ++ c ∷ [] → IsNandMade a b c → IsGrownBy old a (take (i + 1) seconds) next
    grown_more next c more made =
        subst (λ (l : List (Cut K)). IsGrownBy old a l next) (sym (take_one_more seconds i b at)) (subst (λ (l : List (Cut K)). IsGrownBy old a (take i seconds ++ b ∷ []) l) (sym more) record {
          kept = λ k d h. number_front now (c ∷ []) k d (is.kept k d h);
          sound = λ k d h. elim (number_end now c k d h) [
            | inl in_front ↦ elim (is.sound k d in_front) [
              | inl before ↦ inl before
              | inr s ↦ inr (s.0, s.1, number_front (take i seconds) (b ∷ []) s.0 s.1 s.2, s.3)
            ]
            | inr last ↦ inr (length (take i seconds), b, number_here (take i seconds) b, subst (λ (e : Cut K). IsNandMade a b e) (sym last) made)
          ];
          every = λ j d h. elim (number_end (take i seconds) b j d h) [
            | inl in_front ↦ joint_kept a d now c (is.every j d in_front)
            | inr last ↦ λ nodes union few. (length now, c, number_here now c, subst (λ (e : Cut K). IsNandMade a e c) (sym last) made)
          ];
        })

    pub grown_same : ((nodes : List ℕ) → IsUnion a.leaves.items b.leaves.items nodes → K < length nodes) → IsGrownBy old a (take (i + 1) seconds) now
    grown_same wide = subst (λ (l : List (Cut K)). IsGrownBy old a l now) (sym (take_one_more seconds i b at)) record {
      kept = is.kept;
      sound = λ k d h. elim (is.sound k d h) [
        | inl before ↦ inl before
        | inr s ↦ inr (s.0, s.1, number_front (take i seconds) (b ∷ []) s.0 s.1 s.2, s.3)
      ];
      every = λ j d h. elim (number_end (take i seconds) b j d h) [
        | inl in_front ↦ is.every j d in_front
        | inr last ↦ λ nodes union few.
            let w = wide nodes (subst (λ (e : Cut K). IsUnion a.leaves.items e.leaves.items nodes) last union) in
            absurd (omega (arith, w, few))
      ];
    }

  -- ---- each of one list with each of another

  pub joined_none : (seconds : List (Cut K)) → AreJoined [] seconds []
  joined_none seconds = record { sound = λ k c h. absurd h; every = λ i j a b h. absurd h }

  pub joined_more : (firsts seconds now next : List (Cut K)) (i : ℕ) (a : Cut K) → AreJoined (take i firsts) seconds now → IsNumber firsts i a
      → IsGrownBy now a seconds next → AreJoined (take (i + 1) firsts) seconds next
  joined_more firsts seconds now next i a is at grown =
      subst (λ (l : List (Cut K)). AreJoined l seconds next) (sym (take_one_more firsts i a at)) record {
        sound = λ k c h. elim (grown.sound k c h) [
          | inl before ↦ let s = is.sound k c before in (s.0, s.1, s.2, s.3, number_front (take i firsts) (a ∷ []) s.0 s.2 s.4, s.5, s.6)
          | inr s ↦ (length (take i firsts), s.0, a, s.1, number_here (take i firsts) a, s.2, s.3)
        ];
        every = λ j k b d h l. elim (number_end (take i firsts) a j b h) [
          | inl in_front ↦ λ nodes union few.
              let s = is.every j k b d in_front l nodes union few in (s.0, s.1, grown.kept s.0 s.1 s.2, s.3)
          | inr last ↦ λ nodes union few.
              let s = grown.every k d l nodes (subst (λ (e : Cut K). IsUnion e.leaves.items d.leaves.items nodes) last union) few in
              (s.0, s.1, s.2, subst (λ (e : Cut K). IsNandMade e d s.1) (sym last) s.3)
        ];
      }
