-- Gates that stand for their nodes.
use Rattle.std.proofs.Common.{◌≡◌, ◌⊎◌, inl, inr, ℕ, ◌+◌, ◌<◌, ◌≤◌, List, [], ◌∷◌, ◌++◌, length, Option, None, Some, ap, refl, sym, subst, ◌∙◌, arith, length-append}
use Prim.Native.Nat.{zero, suc}
use Rattle.std.proofs.lemmas.Bool.{cases_lt}
use Rattle.net_theory.specs.Sources.{IsNumber}
use Rattle.net_theory.proofs.Basics.{number_below}
use Rattle.graph_theory.specs.Graph.{Node}
use Rattle.cell_match.specs.declared.gate.CellWord.{CellWord}
use Rattle.cell_match.specs.declared.gate.Gate.{Gate}
use Rattle.boog_tight.specs.Cover.{gate_at}
use Rattle.cell_match.specs.declared.cut.Cut.{Cut}
use Rattle.boog_cuts.specs.Cuts.{IsCutTable}
use Rattle.boog_cover.specs.Choices.{IsOfCut, NoneOfCuts, StandsAt, AreChosen}

pub stands_of_cut : {K : ℕ} (cells : List CellWord) (held : ℕ) (nodes : List Node) (lists : List (List (Cut K))) (a : ℕ) (cuts : List (Cut K)) (g : Gate)
    → IsCutTable held nodes lists → IsNumber lists a cuts → IsOfCut cells cuts g → StandsAt cells held nodes a g
stands_of_cut cells held nodes lists a cuts g table at of = record {
  is_gate = record {
    there = of.computes.there;
    many = of.computes.many;
    once = of.computes.once;
    earlier = λ x some. (table.cuts a cuts at).earlier of.number of.cut of.listed x ((of.computes.members x).0 some);
  };
  value = λ f values. sym (table.value f values a cuts at (suc of.number) of.cut of.listed) ∙ sym (of.computes.value f);
  reached = λ x some. table.reached a cuts at (suc of.number) of.cut x of.listed ((of.computes.members x).0 some);
}

-- the gate at the end, and those before it
gate_end : (gates : List (Option Gate)) (o : Option Gate) (a : ℕ) (p : Option Gate) → gate_at (gates ++ o ∷ []) a ≡ p
    → (gate_at gates a ≡ p) ⊎ ((a ≡ length gates) × (o ≡ p))
gate_end [] o zero p e = inr (refl, e)
gate_end [] o (suc a) p e = inl e
gate_end (x ∷ gates) o zero p e = inl e
gate_end (x ∷ gates) o (suc a) p e = elim (gate_end gates o a p e) [
  | inl before ↦ inl before
  | inr last ↦ inr (ap suc last.0, last.1)
]

gate_front : (gates : List (Option Gate)) (o : Option Gate) (a : ℕ) → a < length gates → gate_at (gates ++ o ∷ []) a ≡ gate_at gates a
gate_front [] o a h = absurd (omega arith)
gate_front (x ∷ gates) o zero h = refl
gate_front (x ∷ gates) o (suc a) h = gate_front gates o a (omega arith)

gate_last : (gates : List (Option Gate)) (o : Option Gate) → gate_at (gates ++ o ∷ []) (length gates) ≡ o
gate_last [] o = refl
gate_last (x ∷ gates) o = gate_last gates o

clash : (o : Option Gate) (g : Gate) → o ≡ Some g → o ≡ None → ⊥
clash o g e f = cc

-- what the loop keeps: the first n numbers have their gates
pub record Chosen {K : ℕ} (cells : List CellWord) (held : ℕ) (nodes : List Node) (lists : List (List (Cut K))) (gates : List (Option Gate)) (n : ℕ) : Type 0 where
  pub many : length gates ≡ n
  pub given : (a : ℕ) → a < held → gate_at gates a ≡ None
  pub stands : (a : ℕ) (g : Gate) → gate_at gates a ≡ Some g → StandsAt cells held nodes a g
  pub few : (a : ℕ) (g : Gate) → gate_at gates a ≡ Some g → length g.leaves.items ≤ K
  pub missing : (a : ℕ) (list : List (Cut K)) → held ≤ a → a < n → IsNumber lists a list → gate_at gates a ≡ None → NoneOfCuts cells list

module _ {K : ℕ} (cells : List CellWord) (held : ℕ) (nodes : List Node) (lists : List (List (Cut K))) where
  pub chosen_start : Chosen cells held nodes lists [] 0
  chosen_start = record {
    many = refl;
    given = λ a low. refl;
    stands = λ a g e. cc;
    few = λ a g e. cc;
    missing = λ a list h low. absurd (omega arith);
  }

  pub chosen_more : (gates next : List (Option Gate)) (n : ℕ) (o : Option Gate) → Chosen cells held nodes lists gates n → next ≡ gates ++ o ∷ []
      → (n < held → o ≡ None) → ((g : Gate) → o ≡ Some g → StandsAt cells held nodes n g)
      → ((g : Gate) → o ≡ Some g → length g.leaves.items ≤ K)
      → ((list : List (Cut K)) → held ≤ n → IsNumber lists n list → o ≡ None → NoneOfCuts cells list)
      → Chosen cells held nodes lists next (n + 1)
  chosen_more gates next n o is more low stands few none = subst (λ (gs : List (Option Gate)). Chosen cells held nodes lists gs (n + 1)) (sym more) record {
    many = let e = length-append gates (o ∷ []) in let m = is.many in omega arith;
    given = λ a below. elim (cases_lt a (length gates)) [
      | inl front ↦ gate_front gates o a front ∙ is.given a below
      | inr behind ↦ elim (gate_end gates o a (gate_at (gates ++ o ∷ []) a) refl) [
        | inl before ↦ sym before ∙ is.given a below
        | inr last ↦ let m = is.many in let e = last.0 in sym last.1 ∙ low (omega arith)
      ]
    ];
    stands = λ a g e. elim (gate_end gates o a (Some g) e) [
      | inl before ↦ is.stands a g before
      | inr last ↦ let m = is.many in let here : n ≡ a = omega (arith, last.0) in subst (λ (k : ℕ). StandsAt cells held nodes k g) here (stands g last.1)
    ];
    few = λ a g e. elim (gate_end gates o a (Some g) e) [
      | inl before ↦ is.few a g before
      | inr last ↦ few g last.1
    ];
    missing = λ a list above below at e. elim (cases_lt a n) [
      | inl less ↦ let m = is.many in is.missing a list above less at (sym (gate_front gates o a (omega arith)) ∙ e)
      | inr not_less ↦
          let m = is.many in
          let here : a ≡ n = omega arith in
          let same : length gates ≡ a = omega arith in
          none list (omega arith) (subst (λ (k : ℕ). IsNumber lists k list) here at)
          (sym (gate_last gates o) ∙ ap (λ (k : ℕ). gate_at (gates ++ o ∷ []) k) same ∙ e)
    ];
  }

  pub chosen_whole : (gates : List (Option Gate)) (n : ℕ) → n ≡ length lists → Chosen cells held nodes lists gates n → AreChosen cells held nodes lists gates
  chosen_whole gates n all is = record {
    many = is.many ∙ all;
    given = is.given;
    stands = is.stands;
    few = is.few;
    missing = λ a list above at e. let b = number_below lists a list at in is.missing a list above (omega arith) at e;
  }
