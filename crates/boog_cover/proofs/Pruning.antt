-- Gates taken out from the last on.
use Rattle.std.proofs.Common.{◌≡◌, ◌≢◌, ◌⊎◌, ◌↔◌, inl, inr, ℕ, ◌+◌, ◌<◌, ◌≤◌, Bool, true, false, List, [], ◌∷◌, length, take, set, get_or, Option, None, Some, ap, refl, sym, subst, ◌∙◌, arith, get_or-set_same, get_or-set_other, length-set}
use Prim.Native.Nat.{zero, suc}
use Rattle.std.proofs.lemmas.Bool.{cases_lt, cases_eq}
use Rattle.cell_match.specs.declared.gate.Gate.{Gate}
use Rattle.cell_match.specs.Places.{times}
use Rattle.boog_tight.specs.Cover.{gate_at, leaves_of, used}
use Rattle.cell_match.proofs.Numbers.{one_tells, times_more}
use Rattle.boog_tight.proofs.Counting.{gate_same, gate_other, gate_there, used_at}
use Rattle.boog_cover.specs.Pruned.{IsMarked, IsFull, IsPruned}

pub marked_below : (marks : List Bool) (x : ℕ) → IsMarked marks x → x < length marks
marked_below [] x h = cc
marked_below (b ∷ marks) zero h = omega arith
marked_below (b ∷ marks) (suc x) h = let e = marked_below marks x h in omega arith

-- one number more is marked
pub marked_more : (old marks : List Bool) (numbers : List ℕ) (i : ℕ) → i < length numbers → get_or numbers i 0 < length marks
    → ((x : ℕ) → IsMarked marks x ↔ (IsMarked old x ⊎ (0 < times x (take i numbers))))
    → (x : ℕ) → IsMarked (set marks (get_or numbers i 0) true) x ↔ (IsMarked old x ⊎ (0 < times x (take (i + 1) numbers)))
marked_more old marks numbers i low inside before x =
    let y = get_or numbers i 0 in
    let e = times_more x numbers i low in
    elim (one_tells y x) [
      | inl is ↦
          let o = is.1 in (
            λ h. inr (omega arith),
            λ h. subst (λ (n : ℕ). IsMarked (set marks y true) n) is.0 (get_or-set_same marks y true false inside),
          )
      | inr isnt ↦
          let o = isnt.1 in
          let same = get_or-set_other marks y x true false (λ s. isnt.0 (sym s)) in (
            λ h. elim ((before x).0 (sym same ∙ h)) [
              | inl was ↦ inl was
              | inr by ↦ inr (omega arith)
            ],
            λ h. same ∙ (before x).1 (elim h [
              | inl was ↦ inl was
              | inr by ↦ inr (omega arith)
            ]),
          )
    ]

-- what reads a node that is used
pub used_by : (x : ℕ) (gates : List (Option Gate)) → 0 < used x gates → (b : ℕ) × (0 < times x (leaves_of (gate_at gates b)))
used_by x [] h = absurd (omega arith)
used_by x (g ∷ gates) h = elim (cases_lt 0 (times x (leaves_of g))) [
  | inl here ↦ (0, here)
  | inr none ↦ let rest = used_by x gates (omega arith) in (suc rest.0, rest.1)
]

-- a gate from number n on reads x
pub record IsReadFrom (gates : List (Option Gate)) (n x : ℕ) : Type 0 where
  pub reader : ℕ
  pub high : n ≤ reader
  pub reads : 0 < times x (leaves_of (gate_at gates reader))

-- what the loop keeps
pub record Pruning (held : ℕ) (old gates : List (Option Gate)) (marks : List Bool) (roots : List ℕ) (rest : ℕ) : Type 0 where
  pub most : rest ≤ length old
  pub long : length gates ≡ length old
  pub marks_long : length marks ≡ length old
  pub of : (b : ℕ) → (gate_at gates b ≡ gate_at old b) ⊎ (gate_at gates b ≡ None)
  pub front : (b : ℕ) → b < rest → gate_at gates b ≡ gate_at old b
  pub alive : (b : ℕ) → IsMarked marks b → gate_at gates b ≡ gate_at old b
  pub read : (b x : ℕ) → rest ≤ b → 0 < times x (leaves_of (gate_at gates b)) → IsMarked marks x
  pub rooted : (x : ℕ) → 0 < times x roots → IsMarked marks x
  pub why : (b : ℕ) → IsMarked marks b → (0 < times b roots) ⊎ IsReadFrom gates rest b
  pub kept : (b : ℕ) (g : Gate) → rest ≤ b → gate_at gates b ≡ Some g → IsMarked marks b

low_leaf : (held : ℕ) (old gates : List (Option Gate)) (b x : ℕ) → IsFull held old → (gate_at gates b ≡ gate_at old b) ⊎ (gate_at gates b ≡ None)
    → 0 < times x (leaves_of (gate_at gates b)) → x < b
low_leaf held old gates b x full of h = elim of [
  | inl same ↦ full.earlier b x (subst (λ (o : Option Gate). 0 < times x (leaves_of o)) same h)
  | inr none ↦ let e = ap (λ (o : Option Gate). times x (leaves_of o)) none in absurd (omega arith)
]

pub pruning_start : (held : ℕ) (old : List (Option Gate)) (marks : List Bool) (roots : List ℕ) (rest : ℕ) → rest ≡ length old → length marks ≡ length old
    → IsFull held old → ((x : ℕ) → 0 < times x roots → IsMarked marks x) → ((x : ℕ) → IsMarked marks x → 0 < times x roots)
    → Pruning held old old marks roots rest
pruning_start held old marks roots rest is long full rooted only = record {
  most = omega arith;
  long = refl;
  marks_long = long;
  of = λ b. inl refl;
  front = λ b h. refl;
  alive = λ b h. refl;
  read = λ b x low h. past old b x (omega arith) h;
  rooted = rooted;
  why = λ b h. inl (only b h);
  kept = λ b g low e. let t = gate_there old b g e in absurd (omega arith);
} where
  past : (gates : List (Option Gate)) (b x : ℕ) → length gates ≤ b → 0 < times x (leaves_of (gate_at gates b)) → IsMarked marks x
  past [] b x low h = absurd (omega arith)
  past (g ∷ gates) zero x low h = absurd (omega arith)
  past (g ∷ gates) (suc b) x low h = past gates b x (omega arith) h

module _ (held : ℕ) (old gates : List (Option Gate)) (marks : List Bool) (roots : List ℕ) (rest a : ℕ) (full : IsFull held old)
    (is : Pruning held old gates marks roots rest) (next : a + 1 ≡ rest) where
  pub pruning_marked : (marks2 : List Bool) → length marks2 ≡ length marks → IsMarked marks a
      → ((x : ℕ) → IsMarked marks2 x ↔ (IsMarked marks x ⊎ (0 < times x (leaves_of (gate_at gates a)))))
      → Pruning held old gates marks2 roots a
  pruning_marked marks2 same marked more = record {
    most = let m = is.most in omega arith;
    long = is.long;
    marks_long = same ∙ is.marks_long;
    of = is.of;
    front = λ b h. is.front b (omega arith);
    alive = λ b h. elim ((more b).0 h) [
      | inl was ↦ is.alive b was
      | inr by ↦ let e = low_leaf held old gates a b full (is.of a) by in is.front b (omega arith)
    ];
    read = λ b x low h. elim (cases_eq b a) [
      | inl here ↦ (more x).1 (inr (subst (λ (n : ℕ). 0 < times x (leaves_of (gate_at gates n))) here h))
      | inr other ↦ (more x).1 (inl (is.read b x (omega arith) h))
    ];
    rooted = λ x h. (more x).1 (inl (is.rooted x h));
    why = λ b h. elim ((more b).0 h) [
      | inl was ↦ elim (is.why b was) [
        | inl root ↦ inl root
        | inr by ↦ inr record { reader = by.reader; high = (let e = by.high in omega arith); reads = by.reads }
      ]
      | inr by ↦ inr record { reader = a; high = omega arith; reads = by }
    ];
    kept = λ b g low e. elim (cases_eq b a) [
      | inl here ↦ (more b).1 (inl (subst (λ (n : ℕ). IsMarked marks n) (sym here) marked))
      | inr other ↦ (more b).1 (inl (is.kept b g (omega arith) e))
    ];
  }

  pub pruning_out : (IsMarked marks a → ⊥) → Pruning held old (set gates a None) marks roots a
  pruning_out unmarked =
      let m = is.most in
      let l = is.long in
      let there : a < length gates = omega arith in
      record {
        most = omega arith;
        long = length-set gates a None ∙ is.long;
        marks_long = is.marks_long;
        of = λ b. elim (cases_eq b a) [
          | inl here ↦ inr (subst (λ (n : ℕ). gate_at (set gates a None) n ≡ None) (sym here) (gate_same gates a None there))
          | inr other ↦ elim (is.of b) [
            | inl same ↦ inl (gate_other gates a b None other ∙ same)
            | inr none ↦ inr (gate_other gates a b None other ∙ none)
          ]
        ];
        front = λ b h. gate_other gates a b None (let e : b ≢ a = omega arith in e) ∙ is.front b (omega arith);
        alive = λ b h. elim (cases_eq b a) [
          | inl here ↦ absurd (unmarked (subst (λ (n : ℕ). IsMarked marks n) here h))
          | inr other ↦ gate_other gates a b None other ∙ is.alive b h
        ];
        read = λ b x low h. elim (cases_eq b a) [
          | inl here ↦
              let none = subst (λ (n : ℕ). gate_at (set gates a None) n ≡ None) (sym here) (gate_same gates a None there) in
              let e = ap (λ (o : Option Gate). times x (leaves_of o)) none in absurd (omega arith)
          | inr other ↦ is.read b x (omega arith) (subst (λ (o : Option Gate). 0 < times x (leaves_of o)) (gate_other gates a b None other) h)
        ];
        rooted = is.rooted;
        why = λ b h. elim (is.why b h) [
          | inl root ↦ inl root
          | inr by ↦
              let high = by.high in
              let apart : by.reader ≢ a = omega arith in
              inr record {
                reader = by.reader;
                high = omega arith;
                reads = subst (λ (o : Option Gate). 0 < times b (leaves_of o)) (sym (gate_other gates a by.reader None apart)) by.reads;
              }
        ];
        kept = λ b g low e. elim (cases_eq b a) [
          | inl here ↦
              let none = subst (λ (n : ℕ). gate_at (set gates a None) n ≡ None) (sym here) (gate_same gates a None there) in
              let f : None ≡ Some g = sym none ∙ e in cc
          | inr other ↦ is.kept b g (omega arith) (sym (gate_other gates a b None other) ∙ e)
        ];
      }

pub pruned_whole : (held : ℕ) (old gates : List (Option Gate)) (marks : List Bool) (roots : List ℕ) (rest : ℕ) → IsFull held old
    → Pruning held old gates marks roots rest → rest ≤ held → IsPruned held old gates roots
pruned_whole held old gates marks roots rest full is low = record {
  long = is.long;
  of = is.of;
  needed = λ b g e. elim (cases_lt b held) [
    | inl given ↦
        let none_old = full.given b given in
        let none : gate_at gates b ≡ None = elim (is.of b) [
          | inl same ↦ same ∙ none_old
          | inr none_now ↦ none_now
        ] in
        let f : None ≡ Some g = sym none ∙ e in cc
    | inr above ↦ elim (is.why b (is.kept b g (omega arith) e)) [
      | inl root ↦ omega arith
      | inr by ↦ let u = used_at b gates by.reader in let r = by.reads in omega arith
    ]
  ];
  closed = λ x h.
      let marked : IsMarked marks x = elim (cases_lt 0 (times x roots)) [
        | inl root ↦ is.rooted x root
        | inr none ↦
            let by = used_by x gates (omega arith) in
            elim (cases_lt by.0 held) [
              | inl given ↦
                  let none_old = full.given by.0 given in
                  let e : gate_at gates by.0 ≡ None = elim (is.of by.0) [
                    | inl same ↦ same ∙ none_old
                    | inr none_now ↦ none_now
                  ] in
                  let f = ap (λ (o : Option Gate). times x (leaves_of o)) e in
                  let g = by.1 in
                  absurd (omega arith)
              | inr above ↦ is.read by.0 x (omega arith) by.1
            ]
      ] in
      elim (cases_lt x held) [
        | inl given ↦ inl given
        | inr above ↦
            let below = marked_below marks x marked in
            let m = is.marks_long in
            let there = full.there x above (omega arith) in
            inr (there.0, is.alive x marked ∙ there.1)
      ];
}
