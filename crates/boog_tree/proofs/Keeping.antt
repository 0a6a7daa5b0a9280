-- Lists in which of cuts that are alike the cheaper one is kept.
use Rattle.std.proofs.Common.{◌≡◌, ◌≢◌, ◌⊎◌, inl, inr, ℕ, ◌+◌, ◌<◌, ◌≤◌, Bool, List, [], ◌∷◌, ◌++◌, length, take, set, ap, refl, sym, subst, arith}
use Prim.Native.Nat.{zero, suc}
use Rattle.std.proofs.lemmas.Bool.{cases_eq}
use Rattle.net_theory.specs.Sources.{IsNumber}
use Rattle.net_theory.proofs.Basics.{number_once}
use Rattle.cell_match.specs.declared.cut.Cut.{Cut}
use Rattle.boog_cuts.specs.Cuts.{IsUnion}
use Rattle.boog_cuts.specs.Lists.{IsNandMade}
use Rattle.boog_cuts.proofs.Growing.{number_front, number_end}
use Rattle.boog_cuts.proofs.Whole.{take_one_more}
use Rattle.boog_tree.specs.Sums.{inner_sum}
use Rattle.boog_tree.specs.Alike.{HasAlikeAt, HasAsGood, IsKept, HasGoodJoint, IsKeptFrom, AreKept}
use Rattle.boog_tree.proofs.Joining.{number_here}
use Rattle.boog_tree.proofs.Likeness.{alike_self, alike_back, alike_on}

-- ---- a cut in the place of another

set_number : (xs : List (Cut 6)) (at : ℕ) (d : Cut 6) (i : ℕ) (c : Cut 6) → IsNumber (set xs at d) i c → IsNumber xs i c ⊎ (c ≡ d)
set_number [] at d i c h = absurd h
set_number (x ∷ xs) zero d zero c h = inr h
set_number (x ∷ xs) zero d (suc i) c h = inl h
set_number (x ∷ xs) (suc at) d zero c h = inl h
set_number (x ∷ xs) (suc at) d (suc i) c h = set_number xs at d i c h

number_set : (xs : List (Cut 6)) (at : ℕ) (d : Cut 6) (i : ℕ) (c : Cut 6) → IsNumber xs i c → i ≢ at → IsNumber (set xs at d) i c
number_set [] at d i c h differ = absurd h
number_set (x ∷ xs) zero d zero c h differ = absurd (differ refl)
number_set (x ∷ xs) zero d (suc i) c h differ = h
number_set (x ∷ xs) (suc at) d zero c h differ = h
number_set (x ∷ xs) (suc at) d (suc i) c h differ = number_set xs at d i c h (λ e. differ (ap suc e))

new_set : (xs : List (Cut 6)) (at : ℕ) (d c : Cut 6) → IsNumber xs at c → IsNumber (set xs at d) at d
new_set [] at d c h = absurd h
new_set (x ∷ xs) zero d c h = refl
new_set (x ∷ xs) (suc at) d c h = new_set xs at d c h

module _ (inner : ℕ → Bool) (b : ℕ → ℕ) where
  pub good_self : (cuts : List (Cut 6)) (i : ℕ) (c : Cut 6) → IsNumber cuts i c → HasAsGood inner b cuts c
  good_self cuts i c at = record { place = i; cut = c; at = at; alike = alike_self inner c; least = omega arith }

  pub good_on : (old new : List (Cut 6)) (d : Cut 6) → ((i : ℕ) (c : Cut 6) → IsNumber old i c → HasAsGood inner b new c) → HasAsGood inner b old d
      → HasAsGood inner b new d
  good_on old new d before has =
      let k = before has.place has.cut has.at in
      record {
        place = k.place;
        cut = k.cut;
        at = k.at;
        alike = alike_on inner k.cut has.cut d k.alike has.alike;
        least = let e = k.least in let f = has.least in omega (arith, e, f);
      }

  pub kept_new : (old new : List (Cut 6)) (d : Cut 6) → new ≡ old ++ d ∷ [] → IsKept inner b old d new
  kept_new old new d is = subst (λ (l : List (Cut 6)). IsKept inner b old d l) (sym is) record {
    sound = λ i c h. number_end old d i c h;
    before = λ i c h. good_self (old ++ d ∷ []) i c (number_front old (d ∷ []) i c h);
    itself = good_self (old ++ d ∷ []) (length old) d (number_here old d);
  }

  module _ (old : List (Cut 6)) (at : ℕ) (d : Cut 6) (has : HasAlikeAt inner old at d) where
    pub kept_old : inner_sum inner b (has.0).leaves.items ≤ inner_sum inner b d.leaves.items → IsKept inner b old d old
    kept_old less = record {
      sound = λ i c h. inl h;
      before = λ i c h. good_self old i c h;
      itself = record { place = at; cut = has.0; at = has.1; alike = has.2; least = less };
    }

    pub kept_set : (new : List (Cut 6)) → new ≡ set old at d → inner_sum inner b d.leaves.items ≤ inner_sum inner b (has.0).leaves.items
        → IsKept inner b old d new
    kept_set new is less = subst (λ (l : List (Cut 6)). IsKept inner b old d l) (sym is) record {
      sound = λ i c h. set_number old at d i c h;
      before = λ i c h. elim (cases_eq i at) [
        | inr differ ↦ good_self (set old at d) i c (number_set old at d i c h differ)
        | inl same ↦
            let it : c ≡ has.0 = number_once old at c has.0 (subst (λ (k : ℕ). IsNumber old k c) same h) has.1 in
            subst (λ (e : Cut 6). HasAsGood inner b (set old at d) e) (sym it)
            record { place = at; cut = d; at = new_set old at d has.0 has.1; alike = alike_back inner has.0 d has.2; least = less }
      ];
      itself = good_self (set old at d) at d (new_set old at d has.0 has.1);
    }

  -- ---- one cut with each of a list

  joint_on : (first second : Cut 6) (old new : List (Cut 6)) → ((i : ℕ) (c : Cut 6) → IsNumber old i c → HasAsGood inner b new c)
      → HasGoodJoint inner b first second old → HasGoodJoint inner b first second new
  joint_on first second old new before has nodes union few =
      let h = has nodes union few in (h.0, h.1, good_on old new h.0 before h.2)

  pub kept_from_none : (old : List (Cut 6)) (first : Cut 6) → IsKeptFrom inner b old first [] old
  kept_from_none old first = record { sound = λ i c h. inl h; before = λ i c h. good_self old i c h; every = λ j second h. absurd h }

  module _ (old : List (Cut 6)) (first : Cut 6) (seconds now : List (Cut 6)) (i : ℕ) (second : Cut 6) (is : IsKeptFrom inner b old first (take i seconds) now)
      (at : IsNumber seconds i second) where
    pub kept_from_more : (next : List (Cut 6)) (d : Cut 6) → IsNandMade first second d → IsKept inner b now d next
        → IsKeptFrom inner b old first (take (i + 1) seconds) next
    kept_from_more next d made kept =
        subst (λ (l : List (Cut 6)). IsKeptFrom inner b old first l next) (sym (take_one_more seconds i second at)) record {
          sound = λ k c h. elim (kept.sound k c h) [
            | inl before ↦ elim (is.sound k c before) [
              | inl older ↦ inl older
              | inr s ↦ inr (s.0, s.1, number_front (take i seconds) (second ∷ []) s.0 s.1 s.2, s.3)
            ]
            | inr last ↦
                inr (length (take i seconds), second, number_here (take i seconds) second, subst (λ (e : Cut 6). IsNandMade first second e) (sym last) made)
          ];
          before = λ k c h. good_on now next c kept.before (is.before k c h);
          every = λ j other h. elim (number_end (take i seconds) second j other h) [
            | inl in_front ↦ joint_on first other now next kept.before (is.every j other in_front)
            | inr last ↦ λ nodes union few. (d, subst (λ (e : Cut 6). IsNandMade first e d) (sym last) made, kept.itself)
          ];
        }

    pub kept_from_same : ((nodes : List ℕ) → IsUnion first.leaves.items second.leaves.items nodes → 6 < length nodes)
        → IsKeptFrom inner b old first (take (i + 1) seconds) now
    kept_from_same wide = subst (λ (l : List (Cut 6)). IsKeptFrom inner b old first l now) (sym (take_one_more seconds i second at)) record {
      sound = λ k c h. elim (is.sound k c h) [
        | inl before ↦ inl before
        | inr s ↦ inr (s.0, s.1, number_front (take i seconds) (second ∷ []) s.0 s.1 s.2, s.3)
      ];
      before = is.before;
      every = λ j other h. elim (number_end (take i seconds) second j other h) [
        | inl in_front ↦ is.every j other in_front
        | inr last ↦ λ nodes union few.
            let w = wide nodes (subst (λ (e : Cut 6). IsUnion first.leaves.items e.leaves.items nodes) last union) in absurd (omega (arith, w, few))
      ];
    }

  -- ---- each of one list with each of another

  pub are_kept_none : (seconds : List (Cut 6)) → AreKept inner b [] seconds []
  are_kept_none seconds = record { sound = λ k c h. absurd h; every = λ i j first second h. absurd h }

  pub are_kept_more : (firsts seconds now next : List (Cut 6)) (i : ℕ) (first : Cut 6) → AreKept inner b (take i firsts) seconds now → IsNumber firsts i first
      → IsKeptFrom inner b now first seconds next → AreKept inner b (take (i + 1) firsts) seconds next
  are_kept_more firsts seconds now next i first is at from =
      subst (λ (l : List (Cut 6)). AreKept inner b l seconds next) (sym (take_one_more firsts i first at)) record {
        sound = λ k c h. elim (from.sound k c h) [
          | inl before ↦ let s = is.sound k c before in (s.0, s.1, s.2, s.3, number_front (take i firsts) (first ∷ []) s.0 s.2 s.4, s.5, s.6)
          | inr s ↦ (length (take i firsts), s.0, first, s.1, number_here (take i firsts) first, s.2, s.3)
        ];
        every = λ j k one other h l. elim (number_end (take i firsts) first j one h) [
          | inl in_front ↦ joint_on one other now next from.before (is.every j k one other in_front l)
          | inr last ↦ subst (λ (e : Cut 6). HasGoodJoint inner b e other next) (sym last) (from.every k other l)
        ];
      }
