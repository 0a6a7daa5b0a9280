-- Rules that are followed one part after another.
use Rattle.std.proofs.Common.{◌≡◌, ℕ, List, [], ◌++◌, refl, sym, ◌∙◌, ap, subst, arith, append_assoc, append-nil, inl, inr}
use Rattle.std.proofs.lemmas.Bool.{cases_lt}
use Rattle.vlsi_base.specs.Member.{In}
use Rattle.machine_core.proofs.Values.{In-left, In-right}
use Rattle.graph_theory.specs.Graph.{Node}
use Rattle.subject_table.specs.declared.table.Table.{Table}
use Rattle.subject_table.specs.View.{kinds, end_of}
use Rattle.subject_table.specs.Rules.{Rule, Then, Gives}
use Rattle.subject_table.specs.Makes.{Makes, Turned, Leads}

-- by the rule this is made as well, and no less
pub record Covers {A : Type 0} (rule : Rule A) (n : ℕ) (nodes : List Node) (r : A) (less : List ℕ) : Type 0 where
  pub parts : List ℕ
  pub is : rule n nodes r parts
  pub keeps : (x : ℕ) → In x less → In x parts

-- nothing is done yet
pub sets_out : {A : Type 0} (t : Table) (w : Rule A) → Leads t t w w
sets_out t w = record {
  held = refl;
  more = [];
  nodes = sym (append-nil (kinds t));
  turns = λ later r p h. record { parts = p; is = h; only = λ x low high. absurd (omega (arith, low, high)); keeps = λ x i. i };
}

-- the first part of what is left is done
module _ {A C : Type 0} (t u v : Table) (w : Rule C) (p : Rule A) (q : A → Rule C) (x : A) (k : Leads t u w (Then p q)) (m : Makes u v p x) where
  same : (later : List Node) → kinds v ++ later ≡ kinds u ++ (m.more ++ later)
  same later = ap (λ (xs : List Node). xs ++ later) m.nodes ∙ append_assoc (kinds u) m.more later

  joined : (later : List Node) (r : C) (rest : List ℕ) → q x t.held (kinds v ++ later) r rest
      → Then p q t.held (kinds u ++ (m.more ++ later)) r ((m.is later).parts ++ rest)
  joined later r rest h =
      subst (λ (xs : List Node). Then p q t.held xs r ((m.is later).parts ++ rest)) (same later) (record {
        mid = x;
        before = (m.is later).parts;
        after = rest;
        is_first = subst (λ (c : ℕ). p c (kinds v ++ later) x (m.is later).parts) k.held (m.is later).is;
        is_next = h;
        all = refl;
      })

  turned : (later : List Node) (r : C) (rest : List ℕ) → q x t.held (kinds v ++ later) r rest → Turned t v w (kinds v ++ later) r rest
  turned later r rest h =
      let made = (m.is later).parts in
      let old = k.turns (m.more ++ later) r (made ++ rest) (joined later r rest h) in
      record {
        parts = old.parts;
        is = subst (λ (xs : List Node). w t.held xs r old.parts) (sym (same later)) old.is;
        only = λ y low high. elim (cases_lt y (end_of u)) [
          | inl z ↦ old.only y low z
          | inr z ↦ old.keeps y (In-left y made rest ((m.is later).only y z high))
        ];
        keeps = λ y i. old.keeps y (In-right y made rest i);
      }

  pub goes_on : Leads t v w (q x)
  goes_on = record {
    held = m.held ∙ k.held;
    more = k.more ++ m.more;
    nodes = m.nodes ∙ ap (λ (xs : List Node). xs ++ m.more) k.nodes ∙ append_assoc (kinds t) k.more m.more;
    turns = λ later r rest h. turned later r rest h;
  }

-- what is left, said otherwise
pub otherwise : {A : Type 0} (t u : Table) (w p q : Rule A) → Leads t u w p
    → ((n : ℕ) (nodes : List Node) (r : A) (made : List ℕ) → q n nodes r made → Covers p n nodes r made) → Leads t u w q
otherwise t u w p q k turn = record {
  held = k.held;
  more = k.more;
  nodes = k.nodes;
  turns = λ later r made h.
      let c = turn t.held (kinds u ++ later) r made h in
      let old = k.turns later r c.parts c.is in
      record { parts = old.parts; is = old.is; only = old.only; keeps = λ x i. old.keeps x (c.keeps x i) };
}

-- nothing is left
pub arrived : {A : Type 0} (t u : Table) (w : Rule A) (x : A) → Leads t u w (Gives x) → Makes t u w x
arrived t u w x k = record {
  held = k.held;
  more = k.more;
  nodes = k.nodes;
  is = λ later. let z = k.turns later x [] (refl, refl) in record { parts = z.parts; is = z.is; only = z.only };
}

-- a rule with nothing behind it
pub alone : {A : Type 0} (p : Rule A) (n : ℕ) (nodes : List Node) (r : A) (made : List ℕ) → Then p (λ y. Gives y) n nodes r made → Covers p n nodes r made
alone {A} p n nodes r made h = record {
  parts = h.before;
  is = subst (λ (y : A). p n nodes y h.before) (sym h.is_next.0) h.is_first;
  keeps = λ x i. subst (λ (xs : List ℕ). In x xs) (h.all ∙ ap (λ (xs : List ℕ). h.before ++ xs) h.is_next.1 ∙ append-nil h.before) i;
}

-- the last part is done
pub ends : {A : Type 0} (t u v : Table) (w p : Rule A) (x : A) → Leads t u w p → Makes u v p x → Makes t v w x
ends t u v w p x k m = arrived t v w x (goes_on t u v w p (λ y. Gives y) x (otherwise t u w p (Then p (λ y. Gives y)) k (alone p)) m)

-- a part behind another one
pub then_makes : {A C : Type 0} (t u v : Table) (p : Rule A) (q : A → Rule C) (x : A) (r : C) → Makes t u p x → Makes u v (q x) r → Makes t v (Then p q) r
then_makes t u v p q x r m n = ends t u v (Then p q) (q x) r (goes_on t t u (Then p q) p q x (sets_out t (Then p q)) m) n

-- a rule that makes what another one does, among the nodes that are there
pub makes_also : {A : Type 0} (t u : Table) (p q : Rule A) (x : A) → Makes t u p x
    → ((later : List Node) (made : List ℕ) → p t.held (kinds t ++ later) x made → q t.held (kinds t ++ later) x made) → Makes t u q x
makes_also t u p q x m turn = record {
  held = m.held;
  more = m.more;
  nodes = m.nodes;
  is = λ later.
      let z = m.is later in
      let same : kinds u ++ later ≡ kinds t ++ (m.more ++ later) = ap (λ (xs : List Node). xs ++ later) m.nodes ∙ append_assoc (kinds t) m.more later in
      record {
        parts = z.parts;
        is =
            subst (λ (xs : List Node). q t.held xs x z.parts) (sym same)
            (turn (m.more ++ later) z.parts (subst (λ (xs : List Node). p t.held xs x z.parts) same z.is));
        only = z.only;
      };
}

-- nothing is added
pub makes_here : {A : Type 0} (t : Table) (p : Rule A) (x : A) (made : List ℕ) → ((later : List Node) → p t.held (kinds t ++ later) x made) → Makes t t p x
makes_here t p x made h = record {
  held = refl;
  more = [];
  nodes = sym (append-nil (kinds t));
  is = λ later. record { parts = made; is = h later; only = λ y low high. absurd (omega (arith, low, high)) };
}
