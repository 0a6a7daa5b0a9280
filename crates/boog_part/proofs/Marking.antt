-- Marks from the last node to the first.
use Rattle.std.proofs.Common.{◌≡◌, ◌⊎◌, inl, inr, ◌↔◌, ℕ, ◌+◌, ◌<◌, ◌≤◌, ◌==◌, ◌||◌, Bool, true, false, List, [], ◌∷◌, ◌++◌, length, take, drop, set, get_or, refl, sym, ap, subst, ◌∙◌, arith, get_or-set_same, get_or-set_other}
use Rattle.std.specs.Prelude.{IsTrue}
use Rattle.std.proofs.lemmas.Bool.{eqb-true, eq-eqb, cases_lt, cases_eq}
use Rattle.net_theory.specs.Sources.{IsNumber}
use Rattle.net_theory.proofs.Basics.{number_once, number_below}
use Rattle.graph_theory.specs.Graph.{Node, fixed, inv, nand, Graph, ReadsBelow, EachReadsEarlier}
use Rattle.graph_theory.proofs.Values.{reads_at}
use Rattle.cell_match.specs.Places.{times}
use Rattle.cell_match.proofs.Numbers.{one_tells, times_more}
use Rattle.cell_match.proofs.Pigeons.{times_append}
use Rattle.boog_cuts.specs.Reads.{reads}
use Rattle.boog_part.specs.Part.{IsNeeded, root, read, IsMarked, MarksReads, roots_of}

or_cases : (a b : Bool) → (a || b) ≡ true → (a ≡ true) ⊎ (b ≡ true)
or_cases true b h = inl refl
or_cases false b h = inr h

or_left : (a b : Bool) → a ≡ true → (a || b) ≡ true
or_left true b h = refl
or_left false b h = absurd (cc h)

or_right : (a b : Bool) → b ≡ true → (a || b) ≡ true
or_right true b h = refl
or_right false b h = h

-- one number more is marked
pub marked_more : (old marks : List Bool) (numbers : List ℕ) (i : ℕ) → i < length numbers → get_or numbers i 0 < length marks
    → ((x : ℕ) → IsMarked marks x ↔ (IsMarked old x ⊎ (0 < times x (take i numbers))))
    → (x : ℕ) → IsMarked (set marks (get_or numbers i 0) true) x ↔ (IsMarked old x ⊎ (0 < times x (take (i + 1) numbers)))
marked_more old marks numbers i low inside before x =
    let y = get_or numbers i 0 in
    let e = times_more x numbers i low in
    elim (one_tells y x) [
      | inl is ↦
          let o = is.1 in (
            λ h. inr (omega (arith, e, o)),
            λ h. subst (λ (n : ℕ). IsMarked (set marks y true) n) is.0 (get_or-set_same marks y true false inside),
          )
      | inr isnt ↦
          let o = isnt.1 in
          let same = get_or-set_other marks y x true false (λ s. isnt.0 (sym s)) in (
            λ h. elim ((before x).0 (sym same ∙ h)) [
              | inl was ↦ inl was
              | inr by ↦ inr (omega (arith, by, e, o))
            ],
            λ h. same ∙ (before x).1 (elim h [
              | inl was ↦ inl was
              | inr by ↦ inr (omega (arith, by, e, o))
            ]),
          )
    ]

-- ---- what a node reads, as a list

one_read : (a x : ℕ) → 0 < times x (a ∷ []) → (a == x) ≡ true
one_read a x h = elim (one_tells a x) [
  | inl is ↦ eq-eqb a x is.0
  | inr isnt ↦ let o = isnt.1 in absurd (omega (arith, h, o))
]

read_one : (a x : ℕ) → (a == x) ≡ true → 0 < times x (a ∷ [])
read_one a x h = elim (one_tells a x) [
  | inl is ↦ let o = is.1 in omega (arith, o)
  | inr isnt ↦ absurd (isnt.0 (eqb-true a x h))
]

pub inv_reads : (a x : ℕ) → (0 < times x (a ∷ [])) ↔ IsTrue (reads (inv a) x)
inv_reads a x = (one_read a x, read_one a x)

pub nand_reads : (a b x : ℕ) → (0 < times x (a ∷ b ∷ [])) ↔ IsTrue (reads (nand a b) x)
nand_reads a b x = (
  λ h. elim (cases_lt 0 (times x (a ∷ []))) [
    | inl first ↦ or_left (a == x) (b == x) (one_read a x first)
    | inr none ↦
        let e = times_append x (a ∷ []) (b ∷ []) in
        or_right (a == x) (b == x) (one_read b x (omega (arith, h, none, e)))
  ],
  λ h. elim (or_cases (a == x) (b == x) h) [
    | inl first ↦ let e = times_append x (a ∷ []) (b ∷ []) in let f = read_one a x first in omega (arith, e, f)
    | inr second ↦ let e = times_append x (a ∷ []) (b ∷ []) in let f = read_one b x second in omega (arith, e, f)
  ],
)

-- a node reads lower numbers alone
pub reads_low : (kind : Node) (n x : ℕ) → ReadsBelow n kind → IsTrue (reads kind x) → x < n
reads_low (fixed b) n x below h = absurd (cc h)
reads_low (inv a) n x below h = let e : a ≡ x = eqb-true a x h in omega (arith, e, below)
reads_low (nand a b) n x below h = elim (or_cases (a == x) (b == x) h) [
  | inl p ↦ let e : a ≡ x = eqb-true a x p in let low = below.0 in omega (arith, e, low)
  | inr q ↦ let e : b ≡ x = eqb-true b x q in let low = below.1 in omega (arith, e, low)
]

-- ---- from the last node to the first

-- Roots are marked, and so is what marked nodes read from this node on; and all that is marked is needed.
pub record Spreading (held : ℕ) (nodes : List Node) (roots : List ℕ) (marks : List Bool) (rest : ℕ) : Type 0 where
  pub rooted : (x : ℕ) → 0 < times x roots → IsMarked marks x
  pub closed : (j : ℕ) (kind : Node) (x : ℕ) → rest ≤ j → IsNumber nodes j kind → IsMarked marks (held + j) → IsTrue (reads kind x) → IsMarked marks x
  pub only : (x : ℕ) → IsMarked marks x → IsNeeded held nodes roots x

module _ (held : ℕ) (nodes : List Node) (roots : List ℕ) (marks : List Bool) where
  pub spreading_starts : (rest : ℕ) → length nodes ≤ rest → ((x : ℕ) → IsMarked marks x ↔ (0 < times x roots)) → Spreading held nodes roots marks rest
  spreading_starts rest all is = record {
    rooted = λ x h. (is x).1 h;
    closed = λ j kind x high at h by. absurd (let low = number_below nodes j kind at in omega (arith, low, high, all));
    only = λ x h. root ((is x).0 h);
  }

  module _ (rest j : ℕ) (next : j + 1 ≡ rest) (before : Spreading held nodes roots marks rest) (one : Node) (here : IsNumber nodes j one) where
    pub spreading_marked : (more : List Bool) → EachReadsEarlier held nodes → IsMarked marks (held + j) → MarksReads one marks more
        → Spreading held nodes roots more j
    spreading_marked more earlier marked is = record {
      rooted = λ x h. (is x).1 (inl (before.rooted x h));
      closed = λ i kind x high at h by.
          let old : IsMarked marks (held + i) = elim ((is (held + i)).0 h) [
            | inl was ↦ was
            | inr read_here ↦ let low = reads_low one (held + j) (held + i) (reads_at held nodes j one earlier here) read_here in absurd (omega (arith, low, high))
          ] in
          elim (cases_eq i j) [
            | inl same ↦
                let kinds : kind ≡ one = number_once nodes j kind one (subst (λ (n : ℕ). IsNumber nodes n kind) same at) here in
                (is x).1 (inr (subst (λ (k : Node). IsTrue (reads k x)) kinds by))
            | inr other ↦ (is x).1 (inl (before.closed i kind x (omega (arith, high, other, next)) at old by))
          ];
      only = λ x h. elim ((is x).0 h) [
        | inl was ↦ before.only x was
        | inr read_here ↦ read j one (before.only (held + j) marked) here read_here
      ];
    }

    pub spreading_passed : (IsMarked marks (held + j) → ⊥) → Spreading held nodes roots marks j
    spreading_passed unmarked = record {
      rooted = before.rooted;
      closed = λ i kind x high at h by. elim (cases_eq i j) [
        | inl same ↦ absurd (unmarked (subst (λ (n : ℕ). IsMarked marks (held + n)) same h))
        | inr other ↦ before.closed i kind x (omega (arith, high, other, next)) at h by
      ];
      only = before.only;
    }

  pub spreading_ends : (rest : ℕ) → rest ≤ 0 → Spreading held nodes roots marks rest → (x : ℕ) → IsMarked marks x ↔ IsNeeded held nodes roots x
  spreading_ends rest none is x = (is.only x, back x) where
    back : (y : ℕ) → IsNeeded held nodes roots y → IsMarked marks y
    back y (root h) = is.rooted y h
    back y (read j kind h at by) = is.closed j kind y (omega (arith, none)) at (back (held + j) h) by

-- the marks of both lists of roots
pub roots_marked : (g : Graph) (shown loaded : List ℕ) (none first second : List Bool) → shown ≡ g.outputs → loaded ≡ g.loads → ((x : ℕ) → IsMarked none x → ⊥)
    → ((x : ℕ) → IsMarked first x ↔ (IsMarked none x ⊎ (0 < times x shown)))
    → ((x : ℕ) → IsMarked second x ↔ (IsMarked first x ⊎ (0 < times x loaded)))
    → (x : ℕ) → IsMarked second x ↔ (0 < times x (roots_of g))
roots_marked g shown loaded none first second is_shown is_loaded clear is is_too x =
    let e = times_append x g.outputs g.loads in
    let o = ap (λ (xs : List ℕ). times x xs) is_shown in
    let l = ap (λ (xs : List ℕ). times x xs) is_loaded in (
      λ h. elim ((is_too x).0 h) [
        | inl by ↦ elim ((is x).0 by) [
          | inl was ↦ absurd (clear x was)
          | inr some ↦ omega (arith, e, o, some)
        ]
        | inr some ↦ omega (arith, e, l, some)
      ],
      λ h. elim (cases_lt 0 (times x shown)) [
        | inl some ↦ (is_too x).1 (inl ((is x).1 (inr some)))
        | inr out ↦ (is_too x).1 (inr (omega (arith, e, o, l, h, out)))
      ],
    )

-- which are numbers of the graph
pub shown_below : (g : Graph) (n : ℕ) (shown : List ℕ) → shown ≡ g.outputs → ((x : ℕ) → 0 < times x (roots_of g) → x < n) → (x : ℕ) → 0 < times x shown → x < n
shown_below g n shown is below x some =
    let e = times_append x g.outputs g.loads in let o = ap (λ (xs : List ℕ). times x xs) is in below x (omega (arith, e, o, some))

pub loaded_below : (g : Graph) (n : ℕ) (loaded : List ℕ) → loaded ≡ g.loads → ((x : ℕ) → 0 < times x (roots_of g) → x < n) → (x : ℕ) → 0 < times x loaded → x < n
loaded_below g n loaded is below x some =
    let e = times_append x g.outputs g.loads in let l = ap (λ (xs : List ℕ). times x xs) is in below x (omega (arith, e, l, some))

-- what is written back into a list is all of it
pub written : (new items : List Bool) (n : ℕ) → length new ≡ n → take n (new ++ drop (length new) items) ≡ new
written new items n h = subst (λ (k : ℕ). take k (new ++ drop (length new) items) ≡ new) h (go new (drop (length new) items)) where
  go : (xs ys : List Bool) → take (length xs) (xs ++ ys) ≡ xs
  go [] ys = refl
  go (x ∷ xs) ys = ap (λ (zs : List Bool). x ∷ zs) (go xs ys)
