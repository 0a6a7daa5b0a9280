-- A table to which cells are added.
use Rattle.std.proofs.Common.{◌≡◌, inl, inr, ℕ, ◌<◌, ◌^◌, Bool, true, false, cond, List, Option, None, Some, is_some, nat_eq, ap, refl, sym, subst, ◌∙◌}
use Rattle.std.proofs.lemmas.Bool.Decides.{eqb_tells}
use Rattle.truth_tab.proofs.Same.{same_word}
use Rattle.cell_match.specs.declared.gate.CellWord.{CellWord}
use Rattle.cell_match.specs.declared.table.Match.{Match}
use Rattle.cell_match.specs.Cells.{IsMatch, IsOf}
use Rattle.cell_match.specs.Matches.{Known, IsMoreOf, AreMatches}

pub is_there : (o : Option Match) → is_some o ≡ true → (x : Match) × (o ≡ Some x)
is_there None e = cc
is_there (Some x) e = (x, refl)

not_there : (o : Option Match) → is_some o ≡ false → o ≡ None
not_there None e = refl
not_there (Some x) e = cc

-- what more is told of words, in steps
pub more_none : (k : ℕ) (at : ℕ → Option Match) → IsMoreOf k at at
more_none k at = record { kept = λ w x e. e; added = λ w x e. inl e }

pub more_both : (k : ℕ) (one two three : ℕ → Option Match) → IsMoreOf k one two → IsMoreOf k two three → IsMoreOf k one three
more_both k one two three p q = record {
  kept = λ w x e. q.kept w x (p.kept w x e);
  added = λ w x e. elim (q.added w x e) [
    | inl before ↦ p.added w x before
    | inr new ↦ inr (untold w (one w) refl new.0, new.1)
  ];
} where
  untold : (w : ℕ) (o : Option Match) → one w ≡ o → two w ≡ None → o ≡ None
  untold w None e none = refl
  untold w (Some y) e none = let f = p.kept w y e in let g : None ≡ Some y = sym none ∙ f in cc

pub known_more : (k : ℕ) (old new : ℕ → Option Match) → IsMoreOf k old new → (w : ℕ) → Known old w → Known new w
known_more k old new is w h = (h.0, is.kept w h.0 h.1)

entry : (o : Option Match) (m x : Match) → o ≡ Some m → o ≡ Some x → m ≡ x
entry o m x e f = cc

module _ (cells : List CellWord) (n : ℕ) (old new : ℕ → Option Match) (word : ℕ) (m : Match)
    (updated : (q : ℕ) → new q ≡ cond (nat_eq word q) (Some m) (old q)) where
  pub entered_here : (w : ℕ) → word ≡ w → Known new w
  entered_here w e = elim (eqb_tells word w) [
    | inl is ↦ (m, updated w ∙ ap (λ (b : Bool). cond b (Some m) (old w)) is.0)
    | inr isnt ↦ absurd (isnt.1 e)
  ]

  pub entered_more : is_some (old word) ≡ false → IsMoreOf m.cell old new
  entered_more free =
      let none = not_there (old word) free in
      record {
        kept = λ w x e. elim (eqb_tells word w) [
          | inl is ↦ let f : None ≡ Some x = sym none ∙ ap old is.1 ∙ e in cc
          | inr isnt ↦ updated w ∙ ap (λ (b : Bool). cond b (Some m) (old w)) isnt.0 ∙ e
        ];
        added = λ w x e. elim (eqb_tells word w) [
          | inl is ↦
              let here : new w ≡ Some m = updated w ∙ ap (λ (b : Bool). cond b (Some m) (old w)) is.0 in
              inr (sym (ap old is.1) ∙ none, sym (ap (λ (y : Match). y.cell) (entry (new w) m x here e)))
          | inr isnt ↦ inl (sym (ap (λ (b : Bool). cond b (Some m) (old w)) isnt.0) ∙ sym (updated w) ∙ e)
        ];
      }

  pub entered_found : AreMatches cells n old → IsMatch cells n word m.cell m.order.items → AreMatches cells n new
  entered_found before is_match w x e = elim (eqb_tells word w) [
    | inl is ↦
        let here : new w ≡ Some m = updated w ∙ ap (λ (b : Bool). cond b (Some m) (old w)) is.0 in
        let same = entry (new w) m x here e in
        subst (λ (k : ℕ). IsMatch cells n k x.cell x.order.items) is.1 (subst (λ (y : Match). IsMatch cells n word y.cell y.order.items) same is_match)
    | inr isnt ↦ before w x (sym (ap (λ (b : Bool). cond b (Some m) (old w)) isnt.0) ∙ sym (updated w) ∙ e)
  ]

-- words that one cell computes with one order are the same
pub one_word : (cells : List CellWord) (k : ℕ) (order : List ℕ) (a b : ℕ) → a < 2 ^ 64 → b < 2 ^ 64 → IsOf cells k order a → IsOf cells k order b → a ≡ b
one_word cells k order a b la lb ia ib = same_word a b la lb (λ w h. ia w h ∙ sym (ib w h))
