-- The matches and bounds of the numbers so far.
use Rattle.std.proofs.Common.{◌≡◌, ◌≢◌, inl, inr, ℕ, ◌-◌, ◌≤◌, nat_le, Bool, true, false, not, ◌&&◌, List, [], ◌∷◌, length, ap, refl, sym, ◌∙◌, arith}
use Prim.Native.Nat.{zero, suc}
use Rattle.std.specs.List.{slice_index_or}
use Rattle.std.proofs.lemmas.Bool.{cases_lt}
use Rattle.net_theory.specs.Sources.{IsNumber}
use Rattle.graph_theory.specs.Graph.{Node, fixed, inv, nand, Graph, is_logic}
use Rattle.cell_match.specs.Places.{times}
use Rattle.cell_match.proofs.Numbers.{one_tells}
use Rattle.cell_match.specs.declared.gate.CellWord.{CellWord}
use Rattle.boog_cuts.specs.Cuts.{IsUnion}
use Rattle.boog_cuts.proofs.Whole.{read_number}
use Rattle.boog_tree.specs.Trees.{is_gate, IsNode, IsTreeCut, of_inv, of_nand, itself}
use Rattle.boog_tree.specs.Direct.{HasGates}
use Rattle.boog_tree.specs.Bounds.{IsMatch}
use Rattle.boog_tree.proofs.Within.{alone, cut_cases}
use Rattle.boog_tree.proofs.Open.{left_true, right_true, both_true}

-- ---- gates and nodes

number_is : {A : Type 0} (xs : List A) (i : ℕ) (x d : A) → IsNumber xs i x → slice_index_or xs i d ≡ x
number_is [] i x d h = absurd h
number_is (y ∷ xs) zero x d h = sym h
number_is (y ∷ xs) (suc i) x d h = number_is xs i x d h

le_true : (a b : ℕ) → a ≤ b → nat_le a b ≡ true
le_true a b h = search (arith)

le_of : (a b : ℕ) → nat_le a b ≡ true → a ≤ b
le_of a b e = search (arith)

pub node_is_gate : (held : ℕ) (g : Graph) (x : ℕ) (kind : Node) → IsNode held g x kind → is_logic kind ≡ true → is_gate held g.nodes x ≡ true
node_is_gate held g x kind n logic =
    let is = n.is in
    let place : x - held ≡ n.place = omega (arith, is) in
    both_true (nat_le held x) (is_logic (slice_index_or g.nodes (x - held) (fixed true))) (le_true held x (omega (arith, is)))
    (ap (λ (k : ℕ). is_logic (slice_index_or g.nodes k (fixed true))) place ∙ ap is_logic (number_is g.nodes n.place kind (fixed true) n.at) ∙ logic)

past_end : (nodes : List Node) (i : ℕ) → length nodes ≤ i → slice_index_or nodes i (fixed true) ≡ fixed true
past_end [] i h = refl
past_end (n ∷ nodes) zero h = absurd (omega arith)
past_end (n ∷ nodes) (suc i) h = past_end nodes i (omega arith)

pub gate_is_node : (held : ℕ) (g : Graph) (x : ℕ) → is_gate held g.nodes x ≡ true → (kind : Node) × IsNode held g x kind × (is_logic kind ≡ true)
gate_is_node held g x e =
    let above = le_of held x (left_true (nat_le held x) (is_logic (slice_index_or g.nodes (x - held) (fixed true))) e) in
    let logic = right_true (nat_le held x) (is_logic (slice_index_or g.nodes (x - held) (fixed true))) e in
    elim (cases_lt (x - held) (length g.nodes)) [
      | inl low ↦ (
        slice_index_or g.nodes (x - held) (fixed true),
        record { place = x - held; is = omega (arith, above); at = read_number g.nodes (x - held) (fixed true) low },
        logic,
      )
      | inr high ↦ let f : false ≡ true = sym (ap is_logic (past_end g.nodes (x - held) (omega (arith, high)))) ∙ logic in cc
    ]

-- what has a cut is a gate
pub cut_is_gate : (held : ℕ) (g : Graph) (x : ℕ) (members : List ℕ) (value : (ℕ → Bool) → Bool) → IsTreeCut held g x members value → is_gate held g.nodes x ≡ true
cut_is_gate held g x members value cut = elim (cut_cases held g x members value cut) [
  | inl by ↦ node_is_gate held g x (inv by.a) by.node refl
  | inr by ↦ node_is_gate held g x (nand by.a by.b) by.node refl
]

-- ---- the matches of a gate by itself

same_and : (x : Bool) → (x && x) ≡ x
same_and true = refl
same_and false = refl

pair_union : (a b : ℕ) → a ≢ b → IsUnion (a ∷ []) (b ∷ []) (a ∷ b ∷ [])
pair_union a b differ = record {
  once = λ x. elim (one_tells a x) [
    | inl is ↦ elim (one_tells b x) [
      | inl too ↦ absurd (differ (is.0 ∙ sym too.0))
      | inr isnt ↦ let o = is.1 in let p = isnt.1 in omega (arith, o, p)
    ]
    | inr isnt ↦ elim (one_tells b x) [
      | inl is ↦ let o = is.1 in let p = isnt.1 in omega (arith, o, p)
      | inr nor ↦ let o = nor.1 in let p = isnt.1 in omega (arith, o, p)
    ]
  ];
  members = λ x. (
    λ h. elim (cases_lt 0 (times x (a ∷ []))) [
      | inl by ↦ inl by
      | inr none ↦ inr (omega (arith, h, none))
    ],
    λ h. elim h [
      | inl by ↦ omega (arith, by)
      | inr by ↦ omega (arith, by)
    ],
  );
}

module _ (cells : List CellWord) (has : HasGates cells) (held : ℕ) (g : Graph) (x : ℕ) where
  pub match_inv : (a : ℕ) → IsNode held g x (inv a) → IsMatch cells held g x has.inverter (a ∷ [])
  match_inv a node = record {
    members = a ∷ [];
    value = λ f. not (f a);
    cut = of_inv x a (a ∷ []) (λ f. f a) (λ f. not (f a)) node (itself a (a ∷ []) (λ f. f a) refl (λ f. refl)) (λ f. refl);
    there = has.inverter_there;
    many = sym has.inverter_reads;
    once = λ y. alone y a;
    each = λ y. (λ h. h, λ h. h);
    computes = λ f. has.inverts (f a);
  }

  pub match_twice : (a : ℕ) → IsNode held g x (nand a a) → IsMatch cells held g x has.inverter (a ∷ [])
  match_twice a node = record {
    members = a ∷ [];
    value = λ f. not (f a && f a);
    cut = of_nand x a a (a ∷ []) (a ∷ []) (a ∷ []) (λ f. f a) (λ f. f a) (λ f. not (f a && f a)) node
        (itself a (a ∷ []) (λ f. f a) refl (λ f. refl)) (itself a (a ∷ []) (λ f. f a) refl (λ f. refl)) (record {
          once = λ y. alone y a;
          members = λ y. (
            λ h. inl h,
            λ h. elim h [
              | inl by ↦ by
              | inr by ↦ by
            ],
          );
        }) (λ f. refl);
    there = has.inverter_there;
    many = sym has.inverter_reads;
    once = λ y. alone y a;
    each = λ y. (λ h. h, λ h. h);
    computes = λ f. has.inverts (f a) ∙ ap not (sym (same_and (f a)));
  }

  pub match_nand : (a b : ℕ) → a ≢ b → IsNode held g x (nand a b) → IsMatch cells held g x has.nand (a ∷ b ∷ [])
  match_nand a b differ node = record {
    members = a ∷ b ∷ [];
    value = λ f. not (f a && f b);
    cut = of_nand x a b (a ∷ []) (b ∷ []) (a ∷ b ∷ []) (λ f. f a) (λ f. f b) (λ f. not (f a && f b)) node
        (itself a (a ∷ []) (λ f. f a) refl (λ f. refl)) (itself b (b ∷ []) (λ f. f b) refl (λ f. refl)) (pair_union a b differ) (λ f. refl);
    there = has.nand_there;
    many = sym has.nand_reads;
    once = (pair_union a b differ).once;
    each = λ y. (λ h. h, λ h. h);
    computes = λ f. has.joins (f a) (f b);
  }
