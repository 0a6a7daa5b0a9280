-- Cuts that stand for others.
use Rattle.std.proofs.Common.{◌≡◌, ◌⊎◌, inl, inr, ℕ, ◌+◌, ◌<◌, ◌≤◌, Bool, true, false, not, ◌&&◌, List, [], ◌∷◌, ◌++◌, map, length, nat_eq, if◌then◌else◌, ap, ap₂, refl, sym, subst, ◌∙◌, arith}
use Rattle.std.proofs.lemmas.Bool.{cases_lt, eqb-true, eqb-false}
use Rattle.cell_match.specs.Places.{times}
use Rattle.cell_match.proofs.Numbers.{one, one_tells, one_same}
use Rattle.cell_match.proofs.Pigeons.{times_append}
use Rattle.cell_match.specs.declared.cut.Cut.{Cut}
use Rattle.cell_match.specs.Computes.{cut_value}
use Rattle.boog_cuts.specs.Cuts.{IsUnion}
use Rattle.boog_cuts.specs.Lists.{IsInvMade, IsNandMade}
use Rattle.boog_tree.specs.Sums.{total, inner_sum}
use Rattle.boog_tree.specs.Enough.{StandsFor}
use Rattle.boog_tree.proofs.Totals.{left_out, total_left, times_left, total_on}

-- ---- sums over lists that name the same numbers, but for those that add nothing

total_none : (t : ℕ → ℕ) (ys : List ℕ) → ((x : ℕ) → (t x ≡ 0) ⊎ (times x ys ≡ 0)) → total t ys ≡ 0
total_none t [] none = refl
total_none t (y ∷ ys) none =
    let o = one_same y in
    let rest = total_none t ys (λ x. elim (none x) [
      | inl zero_is ↦ inl zero_is
      | inr none_is ↦ inr (omega (arith, none_is))
    ]) in
    elim (none y) [
      | inl zero_is ↦ omega (arith, zero_is, rest)
      | inr none_is ↦ absurd (omega (arith, none_is, o))
    ]

total_but : (t : ℕ → ℕ) (xs ys : List ℕ) → ((x : ℕ) → (t x ≡ 0) ⊎ (times x xs ≡ times x ys)) → total t xs ≡ total t ys
total_but t [] ys same = sym (total_none t ys (λ x. elim (same x) [
  | inl zero_is ↦ inl zero_is
  | inr e ↦ inr (sym e)
]))
total_but t (x ∷ xs) ys same =
    let o = one_same x in
    elim (same x) [
      | inl zero_is ↦
          let rest = total_but t xs ys (λ z. elim (one_tells x z) [
            | inl is ↦ inl (subst (λ (k : ℕ). t k ≡ 0) is.0 zero_is)
            | inr isnt ↦ let p = isnt.1 in elim (same z) [
              | inl none ↦ inl none
              | inr e ↦ inr (omega (arith, e, p))
            ]
          ]) in
          omega (arith, zero_is, rest)
      | inr e ↦
          let there : 0 < times x ys = omega (arith, e, o) in
          let f = total_left t x ys there in
          let rest = total_but t xs (left_out x ys) (λ z. let b = times_left x z ys there in elim (same z) [
            | inl none ↦ inl none
            | inr a ↦ inr (omega (arith, a, b))
          ]) in
          omega (arith, f, rest)
    ]

total_append : (t : ℕ → ℕ) (xs ys : List ℕ) → total t (xs ++ ys) ≡ total t xs + total t ys
total_append t [] ys = omega arith
total_append t (x ∷ xs) ys = let e = total_append t xs ys in omega (arith, e)

-- the sum over a union of lists that share no gate of the tree
pub sum_union : (inner : ℕ → Bool) (b : ℕ → ℕ) (first second nodes : List ℕ) → ((x : ℕ) → times x first ≤ 1) → ((x : ℕ) → times x second ≤ 1)
    → IsUnion first second nodes → ((x : ℕ) → inner x ≡ true → 0 < times x first → 0 < times x second → ⊥)
    → inner_sum inner b nodes ≡ inner_sum inner b first + inner_sum inner b second
sum_union inner b first second nodes once once_too union differ =
    total_but (λ x. if inner x then b x else 0) nodes (first ++ second) (λ x. each x (inner x) refl)
    ∙ total_append (λ x. if inner x then b x else 0) first second where
      counted : (x : ℕ) → inner x ≡ true → times x nodes ≡ times x first + times x second
      counted x in_tree =
          let o = once x in
          let p = once_too x in
          let q = union.once x in
          elim (cases_lt 0 (times x first)) [
            | inl some ↦
                let n = (union.members x).1 (inl some) in
                elim (cases_lt 0 (times x second)) [
                  | inl too ↦ absurd (differ x in_tree some too)
                  | inr none ↦ omega (arith, o, q, n, some, none)
                ]
            | inr none ↦ elim (cases_lt 0 (times x second)) [
              | inl some ↦ let n = (union.members x).1 (inr some) in omega (arith, p, q, n, some, none)
              | inr none_too ↦ elim (cases_lt 0 (times x nodes)) [
                | inl there ↦ elim ((union.members x).0 there) [
                  | inl by ↦ absurd (omega (arith, by, none))
                  | inr by ↦ absurd (omega (arith, by, none_too))
                ]
                | inr not_there ↦ omega (arith, none, none_too, not_there)
              ]
            ]
          ]

      each : (x : ℕ) (t : Bool) → inner x ≡ t → ((if t then b x else 0) ≡ 0) ⊎ (times x nodes ≡ times x (first ++ second))
      each x true e = let c = counted x e in let a = times_append x first second in inr (omega (arith, c, a))
      each x false e = inl refl

-- ---- members that are renamed

pub mapped_some : (to : ℕ → ℕ) (xs : List ℕ) (z : ℕ) → 0 < times z (map to xs) → (y : ℕ) × (0 < times y xs) × (to y ≡ z)
mapped_some to [] z some = absurd (omega (arith, some))
mapped_some to (x ∷ xs) z some = elim (one_tells (to x) z) [
  | inl is ↦ let o = one_same x in (x, omega (arith, o), is.0)
  | inr isnt ↦ let o = isnt.1 in let r = mapped_some to xs z (omega (arith, some, o)) in let h = r.1 in (r.0, omega (arith, h), r.2)
]

pub some_mapped : (to : ℕ → ℕ) (xs : List ℕ) (y : ℕ) → 0 < times y xs → 0 < times (to y) (map to xs)
some_mapped to [] y some = absurd (omega (arith, some))
some_mapped to (x ∷ xs) y some = elim (one_tells x y) [
  | inl is ↦ let o = one_same (to y) in let e = ap (λ (k : ℕ). one (to k) (to y)) is.0 in omega (arith, o, e)
  | inr isnt ↦ let o = isnt.1 in let r = some_mapped to xs y (omega (arith, some, o)) in omega (arith, r)
]

pub mapped_once : (to : ℕ → ℕ) (xs : List ℕ) → ((y z : ℕ) → 0 < times y xs → 0 < times z xs → to y ≡ to z → y ≡ z) → ((x : ℕ) → times x xs ≤ 1)
    → (z : ℕ) → times z (map to xs) ≤ 1
mapped_once to [] apart once z = omega arith
mapped_once to (x ∷ xs) apart once z =
    let rest = mapped_once to xs (λ v w a b. apart v w (omega (arith, a)) (omega (arith, b))) (λ v. let o = once v in omega (arith, o)) z in
    elim (one_tells (to x) z) [
      | inr isnt ↦ let o = isnt.1 in omega (arith, o, rest)
      | inl is ↦ let o = is.1 in elim (cases_lt 0 (times z (map to xs))) [
        | inr none ↦ omega (arith, o, none)
        | inl some ↦
            let m = mapped_some to xs z some in
            let s = one_same x in
            let there = m.1 in
            let same : x ≡ m.0 = apart x m.0 (omega (arith, s)) (omega (arith, there)) (is.0 ∙ sym m.2) in
            let e = ap (λ (k : ℕ). times k xs) same in
            let once_x = once x in
            absurd (omega (arith, e, there, once_x, s))
      ]
    ]

pub mapped_mapped : {A : Type 0} (f : ℕ → A) (to : ℕ → ℕ) (xs : List ℕ) → map f (map to xs) ≡ map (λ y. f (to y)) xs
mapped_mapped f to [] = refl
mapped_mapped f to (x ∷ xs) = ap (λ l. f (to x) ∷ l) (mapped_mapped f to xs)

pub mapped_long : (f : ℕ → ℕ) (xs : List ℕ) → length (map f xs) ≡ length xs
mapped_long f [] = refl
mapped_long f (x ∷ xs) = let e = mapped_long f xs in omega (arith, e)

-- ---- a cut stands for itself, and for what a cut stands for that it stands for

module _ (inner : ℕ → Bool) (b : ℕ → ℕ) where
  pub stands_own : (x : ℕ) (c : Cut 6) (members : List ℕ) (value : (ℕ → Bool) → Bool) → c.leaves.items ≡ x ∷ [] → ((f : ℕ → Bool) → cut_value c f ≡ f x)
      → members ≡ x ∷ [] → ((f : ℕ → Bool) → value f ≡ f x) → StandsFor inner b c members value
  stands_own x c members value leaves gives is value_is =
      let same : c.leaves.items ≡ members = leaves ∙ sym is in
      record {
        to = λ y. y;
        outside = λ y some out. refl;
        inside = λ y some. refl;
        apart = λ y z some some_too e. e;
        into = λ y some. subst (λ (l : List ℕ). 0 < times y l) (sym same) some;
        onto = λ z some. (z, subst (λ (l : List ℕ). 0 < times z l) same some, refl);
        gives = λ f h are.
            let o = one_same x in
            let there = subst (λ (l : List ℕ). 0 < times x l) (sym is) (let s : 0 < times x (x ∷ []) = omega (arith, o) in s) in
            gives f ∙ sym (are x there) ∙ sym (value_is h);
        least = let e = ap (λ (l : List ℕ). inner_sum inner b l) same in omega (arith, e);
      }

  pub stands_on : (c d : Cut 6) (members : List ℕ) (value : (ℕ → Bool) → Bool) → StandsFor inner b c d.leaves.items (λ f. cut_value d f)
      → StandsFor inner b d members value → StandsFor inner b c members value
  stands_on c d members value first second = record {
    to = λ y. first.to (second.to y);
    outside = λ y some out.
        let e = second.outside y some out in
        let i = second.inside y some in
        first.outside (second.to y) (second.into y some) (i ∙ out) ∙ e;
    inside = λ y some. first.inside (second.to y) (second.into y some) ∙ second.inside y some;
    apart = λ y z some some_too e.
        second.apart y z some some_too (first.apart (second.to y) (second.to z) (second.into y some) (second.into z some_too) e);
    into = λ y some. first.into (second.to y) (second.into y some);
    onto = λ z some.
        let m = first.onto z some in
        let n = second.onto m.0 m.1 in
        (n.0, n.1, ap first.to n.2 ∙ m.2);
    gives = λ f h are. first.gives f (λ y. f (first.to y)) (λ y some. refl) ∙ second.gives (λ y. f (first.to y)) h are;
    least = let a = first.least in let e = second.least in omega (arith, a, e);
  }

  -- the inverse of a cut stands for what is the inverse
  pub stands_inverse : (c d : Cut 6) (members : List ℕ) (read value : (ℕ → Bool) → Bool) → StandsFor inner b c members read → IsInvMade c d
      → ((f : ℕ → Bool) → value f ≡ not (read f)) → StandsFor inner b d members value
  stands_inverse c d members read value s made is = record {
    to = s.to;
    outside = s.outside;
    inside = s.inside;
    apart = s.apart;
    into = λ y some. subst (λ (l : List ℕ). 0 < times (s.to y) l) (sym made.leaves) (s.into y some);
    onto = λ z some. s.onto z (subst (λ (l : List ℕ). 0 < times z l) made.leaves some);
    gives = λ f h are. made.value f ∙ ap not (s.gives f h are) ∙ sym (is h);
    least = let a = s.least in let e = ap (λ (l : List ℕ). inner_sum inner b l) made.leaves in omega (arith, a, e);
  }

  -- other bounds that are the same of members
  pub stands_agree : (other : ℕ → ℕ) (c : Cut 6) (members : List ℕ) (value : (ℕ → Bool) → Bool) → ((y : ℕ) → 0 < times y c.leaves.items → b y ≡ other y)
      → ((y : ℕ) → 0 < times y members → b y ≡ other y) → StandsFor inner b c members value → StandsFor inner other c members value
  stands_agree other c members value here there s = record {
    to = s.to;
    outside = s.outside;
    inside = s.inside;
    apart = s.apart;
    into = s.into;
    onto = s.onto;
    gives = s.gives;
    least =
        let a = s.least in
        let e = sum_on c.leaves.items here in
        let f = sum_on members there in
        omega (arith, a, e, f);
  } where
    sum_on : (xs : List ℕ) → ((y : ℕ) → 0 < times y xs → b y ≡ other y) → inner_sum inner b xs ≡ inner_sum inner other xs
    sum_on xs same =
        total_on (λ x. if inner x then b x else 0) (λ x. if inner x then other x else 0) xs
        (λ y some. ap (λ (v : ℕ). if inner y then v else 0) (same y some))

-- ---- two cuts that stand for others, and what they give together

joint : List ℕ → (ℕ → ℕ) → (ℕ → ℕ) → ℕ → ℕ
joint first t u y = if nat_eq (times y first) 0 then u y else t y

joint_first : (first : List ℕ) (t u : ℕ → ℕ) (y : ℕ) → 0 < times y first → joint first t u y ≡ t y
unfolding joint
joint_first first t u y some = go (nat_eq (times y first) 0) refl where
  go : (c : Bool) → nat_eq (times y first) 0 ≡ c → (if c then u y else t y) ≡ t y
  go true e = let z = eqb-true (times y first) 0 e in absurd (omega (arith, z, some))
  go false e = refl

joint_other : (first : List ℕ) (t u : ℕ → ℕ) (y : ℕ) → times y first ≡ 0 → joint first t u y ≡ u y
unfolding joint
joint_other first t u y none = go (nat_eq (times y first) 0) refl where
  go : (c : Bool) → nat_eq (times y first) 0 ≡ c → (if c then u y else t y) ≡ u y
  go true e = refl
  go false e = absurd (eqb-false (times y first) 0 e none)

module _ (inner : ℕ → Bool) (b : ℕ → ℕ) (c c_too : Cut 6) (first second members : List ℕ) (read read_too : (ℕ → Bool) → Bool)
    (s : StandsFor inner b c first read) (t : StandsFor inner b c_too second read_too) (union : IsUnion first second members)
    (differ : (y : ℕ) → inner y ≡ true → 0 < times y first → 0 < times y second → ⊥)
    (cuts_differ : (y : ℕ) → inner y ≡ true → 0 < times y c.leaves.items → 0 < times y c_too.leaves.items → ⊥) where
  to : ℕ → ℕ
  to y = joint first s.to t.to y

  at_first : (y : ℕ) → 0 < times y first → to y ≡ s.to y
  unfolding to
  at_first y some = joint_first first s.to t.to y some

  -- a member of both is outside the tree, and stands for itself in both
  at_second : (y : ℕ) → 0 < times y second → to y ≡ t.to y
  unfolding to
  at_second y some = elim (cases_lt 0 (times y first)) [
    | inr none ↦ joint_other first s.to t.to y (omega (arith, none))
    | inl both ↦ go (inner y) refl both
  ] where
    go : (i : Bool) → inner y ≡ i → 0 < times y first → joint first s.to t.to y ≡ t.to y
    go true e both = absurd (differ y e both some)
    go false e both = joint_first first s.to t.to y both ∙ s.outside y both e ∙ sym (t.outside y some e)

  -- where a member of the one and one of the other are named alike, they are one
  crossed : (y z : ℕ) → 0 < times y first → 0 < times z second → s.to y ≡ t.to z → y ≡ z
  crossed y z some some_too e = go (inner (s.to y)) refl where
    go : (i : Bool) → inner (s.to y) ≡ i → y ≡ z
    go true h = absurd (cuts_differ (s.to y) h (s.into y some) (subst (λ (k : ℕ). 0 < times k c_too.leaves.items) (sym e) (t.into z some_too)))
    go false h =
        let out_y : inner y ≡ false = sym (s.inside y some) ∙ h in
        let out_z : inner z ≡ false = sym (t.inside z some_too) ∙ ap inner (sym e) ∙ h in
        sym (s.outside y some out_y) ∙ e ∙ t.outside z some_too out_z

  to_apart : (y z : ℕ) → 0 < times y members → 0 < times z members → to y ≡ to z → y ≡ z
  to_apart y z some some_too e = elim ((union.members y).0 some) [
    | inl by ↦ elim ((union.members z).0 some_too) [
      | inl too ↦ s.apart y z by too (sym (at_first y by) ∙ e ∙ at_first z too)
      | inr too ↦ crossed y z by too (sym (at_first y by) ∙ e ∙ at_second z too)
    ]
    | inr by ↦ elim ((union.members z).0 some_too) [
      | inl too ↦ sym (crossed z y too by (sym (at_first z too) ∙ sym e ∙ at_second y by))
      | inr too ↦ t.apart y z by too (sym (at_second y by) ∙ e ∙ at_second z too)
    ]
  ]

  -- the two cuts have as few members together
  pub few_joined : (nodes : List ℕ) × IsUnion c.leaves.items c_too.leaves.items nodes × (length nodes ≡ length members)
  few_joined = (
    map to members,
    record {
      once = mapped_once to members to_apart union.once;
      members = λ z. (
        λ some.
            let m = mapped_some to members z some in
            elim ((union.members m.0).0 m.1) [
              | inl by ↦ inl (subst (λ (k : ℕ). 0 < times k c.leaves.items) (sym (at_first m.0 by) ∙ m.2) (s.into m.0 by))
              | inr by ↦ inr (subst (λ (k : ℕ). 0 < times k c_too.leaves.items) (sym (at_second m.0 by) ∙ m.2) (t.into m.0 by))
            ],
        λ why. elim why [
          | inl by ↦ let m = s.onto z by in
              subst (λ (k : ℕ). 0 < times k (map to members)) (at_first m.0 m.1 ∙ m.2) (some_mapped to members m.0 ((union.members m.0).1 (inl m.1)))
          | inr by ↦ let m = t.onto z by in
              subst (λ (k : ℕ). 0 < times k (map to members)) (at_second m.0 m.1 ∙ m.2) (some_mapped to members m.0 ((union.members m.0).1 (inr m.1)))
        ],
      );
    },
    mapped_long to members,
  )

  module _ (d : Cut 6) (value : (ℕ → Bool) → Bool) (made : IsNandMade c c_too d) (is : (f : ℕ → Bool) → value f ≡ not (read f && read_too f))
      (once : (y : ℕ) → times y first ≤ 1) (once_too : (y : ℕ) → times y second ≤ 1)
      (cut_once : (y : ℕ) → times y c.leaves.items ≤ 1) (cut_once_too : (y : ℕ) → times y c_too.leaves.items ≤ 1) where
    pub stands_joined : StandsFor inner b d members value
    stands_joined = record {
      to = to;
      outside = λ y some out. elim ((union.members y).0 some) [
        | inl by ↦ at_first y by ∙ s.outside y by out
        | inr by ↦ at_second y by ∙ t.outside y by out
      ];
      inside = λ y some. elim ((union.members y).0 some) [
        | inl by ↦ ap inner (at_first y by) ∙ s.inside y by
        | inr by ↦ ap inner (at_second y by) ∙ t.inside y by
      ];
      apart = to_apart;
      into = λ y some. (made.leaves.members (to y)).1 (elim ((union.members y).0 some) [
        | inl by ↦ inl (subst (λ (k : ℕ). 0 < times k c.leaves.items) (sym (at_first y by)) (s.into y by))
        | inr by ↦ inr (subst (λ (k : ℕ). 0 < times k c_too.leaves.items) (sym (at_second y by)) (t.into y by))
      ]);
      onto = λ z some. elim ((made.leaves.members z).0 some) [
        | inl by ↦ let m = s.onto z by in (m.0, (union.members m.0).1 (inl m.1), at_first m.0 m.1 ∙ m.2)
        | inr by ↦ let m = t.onto z by in (m.0, (union.members m.0).1 (inr m.1), at_second m.0 m.1 ∙ m.2)
      ];
      gives = λ f h are.
          let e = s.gives f h (λ y some. are y ((union.members y).1 (inl some)) ∙ ap f (at_first y some)) in
          let e_too = t.gives f h (λ y some. are y ((union.members y).1 (inr some)) ∙ ap f (at_second y some)) in
          made.value f ∙ ap₂ (λ (v w : Bool). not (v && w)) e e_too ∙ sym (is h);
      least =
          let a = s.least in
          let e = t.least in
          let low = sum_union inner b c.leaves.items c_too.leaves.items d.leaves.items cut_once cut_once_too made.leaves cuts_differ in
          let high = sum_union inner b first second members once once_too union differ in
          omega (arith, a, e, low, high);
    }
