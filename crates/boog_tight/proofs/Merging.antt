-- Two gates put into one.
use Rattle.std.proofs.Common.{◌≡◌, ◌≢◌, ◌⊎◌, inl, inr, ℕ, ◌+◌, ◌<◌, ◌≤◌, Bool, true, false, List, [], ◌∷◌, ◌++◌, map, length, set, Option, None, Some, nat_eq, if◌then◌else◌, ap, ap₂, refl, sym, subst, ◌∙◌, arith, length-set, length-append}
use Prim.Native.Nat.{zero, suc}
use Rattle.std.proofs.lemmas.Bool.{cases_eq, cases_lt, eqb-true}
use Rattle.cell_match.specs.declared.gate.CellWord.{CellWord}
use Rattle.cell_match.specs.declared.gate.Gate.{Gate}
use Rattle.cell_match.specs.Places.{times}
use Rattle.cell_match.proofs.Pigeons.{no_longer, times_append}
use Rattle.boog_tight.specs.Cover.{gate_at, leaves_of, used, uses, IsCover, AreTrue}
use Rattle.cell_match.specs.Cells.{cell_value, gate_value, IsGate}
use Rattle.cell_match.specs.Computes.{put, Computes}
use Rattle.boog_tight.specs.Tight.{IsPair, IsTightBelow}
use Rattle.boog_tight.specs.Kept.{one_of, live, leaf_count, ReadsThrough, pin, through, EachIsUsed, Keeps}
use Rattle.boog_tight.proofs.Counting.{used_set, used_some, used_twice, gate_there, gate_same, gate_other, leaves_at}

-- the gates with m in place of g, which shows node j, and none in place of h
abbrev pub merged : List (Option Gate) → ℕ → ℕ → Gate → List (Option Gate)
merged gates a j m = set (set gates a None) j (Some m)

either : (b v w : Bool) → (b ≡ true → v ≡ w) → (if b then v else w) ≡ w
either true v w h = h refl
either false v w h = refl

put_same : (a : ℕ) (v : Bool) (f : ℕ → Bool) → v ≡ f a → (x : ℕ) → put a v f x ≡ f x
put_same a v f e x = either (nat_eq x a) v (f x) (λ t. e ∙ ap f (sym (eqb-true x a t)))

map_same : (f g : ℕ → Bool) → ((x : ℕ) → f x ≡ g x) → (xs : List ℕ) → map f xs ≡ map g xs
map_same f g h [] = refl
map_same f g h (x ∷ xs) = ap₂ (λ (b : Bool) (bs : List Bool). b ∷ bs) (h x) (map_same f g h xs)

live_set : (gates : List (Option Gate)) (j : ℕ) (v : Option Gate) → j < length gates
    → live (set gates j v) + one_of (gate_at gates j) ≡ live gates + one_of v
live_set [] j v h = absurd (omega arith)
live_set (g ∷ gates) zero v h = omega arith
live_set (g ∷ gates) (suc j) v h = let e = live_set gates j v (omega arith) in omega arith

leaves_set : (gates : List (Option Gate)) (j : ℕ) (v : Option Gate) → j < length gates
    → leaf_count (set gates j v) + length (leaves_of (gate_at gates j)) ≡ leaf_count gates + length (leaves_of v)
leaves_set [] j v h = absurd (omega arith)
leaves_set (g ∷ gates) zero v h = omega arith
leaves_set (g ∷ gates) (suc j) v h = let e = leaves_set gates j v (omega arith) in omega arith

not_both : {g : Gate} {o : Option Gate} → o ≡ None → o ≡ Some g → ⊥
not_both {g} {o} e f = cc

module _ (cells : List CellWord) (given : ℕ) (gates : List (Option Gate)) (roots : List ℕ) (a j : ℕ) (h g : Gate)
    (cover : IsCover cells given gates roots) (pair : IsPair gates roots a j h g)
    (m : Gate) (does : Computes cells m.cell m.leaves.items h g a) where
  before : a < j
  before = (cover.gate j g pair.outer).earlier a pair.reads

  there_a : a < length gates
  there_a = gate_there gates a h pair.inner

  there_j : j < length gates
  there_j = gate_there gates j g pair.outer

  there_next : j < length (set gates a None)
  there_next = let e = length-set gates a None in let f = there_j in omega arith

  outer_next : gate_at (set gates a None) j ≡ Some g
  outer_next = let f = before in gate_other gates a j None (omega arith) ∙ pair.outer

  pub at_j : gate_at (merged gates a j m) j ≡ Some m
  at_j = gate_same (set gates a None) j (Some m) there_next

  pub at_a : gate_at (merged gates a j m) a ≡ None
  at_a = let f = before in gate_other (set gates a None) j a (Some m) (omega arith) ∙ gate_same gates a None there_a

  pub at_other : (i : ℕ) → i ≢ a → i ≢ j → gate_at (merged gates a j m) i ≡ gate_at gates i
  at_other i p q = gate_other (set gates a None) j i (Some m) q ∙ gate_other gates a i None p

  pub long : length (merged gates a j m) ≡ length gates
  long = length-set (set gates a None) j (Some m) ∙ length-set gates a None

  pub used_merged : (x : ℕ) → used x (merged gates a j m) + (times x g.leaves.items + times x h.leaves.items) ≡ used x gates + times x m.leaves.items
  used_merged x =
      let one = used_set x (set gates a None) j (Some m) there_next in
      let two = used_set x gates a None there_a in
      let same_g = ap (times x) (leaves_at (set gates a None) j g outer_next) in
      let same_h = ap (times x) (leaves_at gates a h pair.inner) in
      omega arith

  pub few : (x : ℕ) → times x m.leaves.items ≤ times x g.leaves.items + times x h.leaves.items
  few x = elim (cases_lt 0 (times x m.leaves.items)) [
    | inl some ↦ let once = does.once x in elim ((does.members x).0 some) [
      | inl by_h ↦ omega arith
      | inr by_g ↦ let one = by_g.0 in omega arith
    ]
    | inr none ↦ omega arith
  ]

  unread_by_h : times a h.leaves.items ≡ 0
  unread_by_h = elim (cases_lt 0 (times a h.leaves.items)) [
    | inl some ↦ let e = (cover.gate a h pair.inner).earlier a some in absurd (omega arith)
    | inr none ↦ omega arith
  ]

  unread_by_m : times a m.leaves.items ≡ 0
  unread_by_m = elim (cases_lt 0 (times a m.leaves.items)) [
    | inl some ↦ elim ((does.members a).0 some) [
      | inl by_h ↦ let e = unread_by_h in absurd (omega arith)
      | inr by_g ↦ absurd (by_g.1 refl)
    ]
    | inr none ↦ omega arith
  ]

  pub unused : uses (merged gates a j m) roots a ≡ 0
  unused =
      let e = used_merged a in let by_m = unread_by_m in let alone = pair.alone in let reads = pair.reads in omega arith

  less_used : (x : ℕ) → uses (merged gates a j m) roots x ≤ uses gates roots x
  less_used x = let e = used_merged x in let f = few x in omega arith

  is_gate : IsGate cells j m
  is_gate = record {
    there = does.there;
    many = does.many;
    once = does.once;
    earlier = λ x some. elim ((does.members x).0 some) [
      | inl by_h ↦ let e = (cover.gate a h pair.inner).earlier x by_h in let f = before in omega arith
      | inr by_g ↦ (cover.gate j g pair.outer).earlier x by_g.0
    ];
  }

  same_m : (i : Gate) → gate_at (merged gates a j m) j ≡ Some i → i ≡ m
  same_m i e = let f = at_j in cc

  gate_merged : (i : ℕ) (one : Gate) → gate_at (merged gates a j m) i ≡ Some one → IsGate cells i one
  gate_merged i one e = elim (cases_eq i j) [
    | inl is_j ↦
        let e_j : gate_at (merged gates a j m) j ≡ Some one = subst (λ (n : ℕ). gate_at (merged gates a j m) n ≡ Some one) is_j e in
        subst (λ (n : ℕ). IsGate cells n one) (sym is_j) (subst (λ (q : Gate). IsGate cells j q) (sym (same_m one e_j)) is_gate)
    | inr not_j ↦ elim (cases_eq i a) [
      | inl is_a ↦ absurd (not_both at_a (subst (λ (n : ℕ). gate_at (merged gates a j m) n ≡ Some one) is_a e))
      | inr not_a ↦ cover.gate i one (sym (at_other i not_a not_j) ∙ e)
    ]
  ]

  closed_merged : (x : ℕ) → 0 < uses (merged gates a j m) roots x → (x < given) ⊎ ((one : Gate) × (gate_at (merged gates a j m) x ≡ Some one))
  closed_merged x some = elim (cases_eq x a) [
    | inl is_a ↦ let e = unused in let f = subst (λ (n : ℕ). 0 < uses (merged gates a j m) roots n) is_a some in absurd (omega arith)
    | inr not_a ↦ elim (cases_eq x j) [
      | inl is_j ↦ inr (m, subst (λ (n : ℕ). gate_at (merged gates a j m) n ≡ Some m) (sym is_j) at_j)
      | inr not_j ↦ elim (cover.closed x (let f = less_used x in omega arith)) [
        | inl below ↦ inl below
        | inr there ↦ inr (there.0, at_other x not_a not_j ∙ there.1)
      ]
    ]
  ]

  value_merged : (f : ℕ → Bool) → AreTrue cells gates f → f j ≡ gate_value cells m f
  value_merged f holds =
      let put_in : gate_value cells g (put a (gate_value cells h f) f) ≡ gate_value cells g f =
      ap (cell_value cells g.cell) (map_same _ _ (put_same a (gate_value cells h f) f (sym (holds a h pair.inner))) g.leaves.items) in
      holds j g pair.outer ∙ sym put_in ∙ sym (does.value f)

  true_merged : (f : ℕ → Bool) → AreTrue cells gates f → AreTrue cells (merged gates a j m) f
  true_merged f holds i one e = elim (cases_eq i j) [
    | inl is_j ↦
        let e_j : gate_at (merged gates a j m) j ≡ Some one = subst (λ (n : ℕ). gate_at (merged gates a j m) n ≡ Some one) is_j e in
        subst (λ (n : ℕ). f n ≡ gate_value cells one f) (sym is_j) (subst (λ (q : Gate). f j ≡ gate_value cells q f) (sym (same_m one e_j)) (value_merged f holds))
    | inr not_j ↦ elim (cases_eq i a) [
      | inl is_a ↦ absurd (not_both at_a (subst (λ (n : ℕ). gate_at (merged gates a j m) n ≡ Some one) is_a e))
      | inr not_a ↦ holds i one (sym (at_other i not_a not_j) ∙ e)
    ]
  ]

  fewer_merged : (x : ℕ) → gate_at gates x ≡ None → gate_at (merged gates a j m) x ≡ None
  fewer_merged x none = elim (cases_eq x j) [
    | inl is_j ↦ absurd (not_both (subst (λ (n : ℕ). gate_at gates n ≡ None) is_j none) pair.outer)
    | inr not_j ↦ elim (cases_eq x a) [
      | inl is_a ↦ subst (λ (n : ℕ). gate_at (merged gates a j m) n ≡ None) (sym is_a) at_a
      | inr not_a ↦ at_other x not_a not_j ∙ none
    ]
  ]

  unread_by_g : times j g.leaves.items ≡ 0
  unread_by_g = elim (cases_lt 0 (times j g.leaves.items)) [
    | inl some ↦ let e = (cover.gate j g pair.outer).earlier j some in absurd (omega arith)
    | inr none ↦ omega arith
  ]

  late_for_h : times j h.leaves.items ≡ 0
  late_for_h = elim (cases_lt 0 (times j h.leaves.items)) [
    | inl some ↦ let e = (cover.gate a h pair.inner).earlier j some in let f = before in absurd (omega arith)
    | inr none ↦ omega arith
  ]

  -- what was read is read, but for node a
  still_read : (i : ℕ) → i ≢ a → i ≢ j → 0 < uses gates roots i → 0 < uses (merged gates a j m) roots i
  still_read i not_a not_j some =
      let e = used_merged i in
      elim (cases_lt 0 (times i m.leaves.items)) [
        | inl by_m ↦ let u = used_some i (merged gates a j m) j m at_j in omega arith
        | inr none ↦
            let by_h : times i h.leaves.items ≡ 0 = elim (cases_lt 0 (times i h.leaves.items)) [
              | inl yes_h ↦ let f = (does.members i).1 (inl yes_h) in absurd (omega arith)
              | inr no_h ↦ omega arith
            ] in
            let by_g : times i g.leaves.items ≡ 0 = elim (cases_lt 0 (times i g.leaves.items)) [
              | inl yes_g ↦ let f = (does.members i).1 (inr (yes_g, not_a)) in absurd (omega arith)
              | inr no_g ↦ omega arith
            ] in
            omega arith
      ]

  needed_merged : EachIsUsed gates roots → EachIsUsed (merged gates a j m) roots
  needed_merged used i one e = elim (cases_eq i j) [
    | inl is_j ↦
        let u = used_merged j in
        let by_g = unread_by_g in
        let by_h = late_for_h in
        let was = used j g pair.outer in
        let now : 0 < uses (merged gates a j m) roots j = omega arith in
        subst (λ (n : ℕ). 0 < uses (merged gates a j m) roots n) (sym is_j) now
    | inr not_j ↦ elim (cases_eq i a) [
      | inl is_a ↦ absurd (not_both at_a (subst (λ (n : ℕ). gate_at (merged gates a j m) n ≡ Some one) is_a e))
      | inr not_a ↦ still_read i not_a not_j (used i one (sym (at_other i not_a not_j) ∙ e))
    ]
  ]

  read_at_j : (x : ℕ) → 0 < times x m.leaves.items → ReadsThrough gates j x
  read_at_j x some = elim ((does.members x).0 some) [
    | inl by_h ↦
        let outer_a : 0 < times a (leaves_of (gate_at gates j)) = subst (λ (xs : List ℕ). 0 < times a xs) (sym (leaves_at gates j g pair.outer)) pair.reads in
        let inner_x : 0 < times x (leaves_of (gate_at gates a)) = subst (λ (xs : List ℕ). 0 < times x xs) (sym (leaves_at gates a h pair.inner)) by_h in
        through {b = a} (pin outer_a) (pin inner_x)
    | inr by_g ↦ pin (subst (λ (xs : List ℕ). 0 < times x xs) (sym (leaves_at gates j g pair.outer)) by_g.0)
  ]

  read_merged : (i x : ℕ) → 0 < times x (leaves_of (gate_at (merged gates a j m) i)) → ReadsThrough gates i x
  read_merged i x some = elim (cases_eq i j) [
    | inl is_j ↦
        let e : 0 < times x (leaves_of (gate_at (merged gates a j m) j)) = subst (λ (n : ℕ). 0 < times x (leaves_of (gate_at (merged gates a j m) n))) is_j some in
        subst (λ (n : ℕ). ReadsThrough gates n x) (sym is_j)
        (read_at_j x (subst (λ (xs : List ℕ). 0 < times x xs) (leaves_at (merged gates a j m) j m at_j) e))
    | inr not_j ↦ elim (cases_eq i a) [
      | inl is_a ↦
          let e : 0 < times x (leaves_of (gate_at (merged gates a j m) a)) = subst (λ (n : ℕ). 0 < times x (leaves_of (gate_at (merged gates a j m) n))) is_a some in
          let none = ap (λ (o : Option Gate). times x (leaves_of o)) at_a in
          absurd (omega arith)
      | inr not_a ↦ pin (subst (λ (o : Option Gate). 0 < times x (leaves_of o)) (at_other i not_a not_j) some)
    ]
  ]

  pins_merged : leaf_count (merged gates a j m) ≤ leaf_count gates
  pins_merged =
      let one = leaves_set (set gates a None) j (Some m) there_next in
      let two = leaves_set gates a None there_a in
      let same_g = ap (λ (o : Option Gate). length (leaves_of o)) outer_next in
      let same_h = ap (λ (o : Option Gate). length (leaves_of o)) pair.inner in
      let both = length-append h.leaves.items g.leaves.items in
      let most = no_longer m.leaves.items (h.leaves.items ++ g.leaves.items) does.once (λ x some.
      let e = times_append x h.leaves.items g.leaves.items in let f = few x in omega arith) in
      omega arith

  -- what two gates put into one keep
  pub keeps_merged : Keeps cells given roots gates (merged gates a j m)
  keeps_merged = record {
    cover = record { gate = gate_merged; closed = closed_merged };
    long = long;
    fewer = fewer_merged;
    read = read_merged;
    pins = pins_merged;
    needed = needed_merged;
    same = true_merged;
  }

  -- one gate fewer
  pub live_merged : live (merged gates a j m) + 1 ≡ live gates
  live_merged =
      let one = live_set (set gates a None) j (Some m) there_next in
      let two = live_set gates a None there_a in
      let same_g = ap one_of outer_next in
      let same_h = ap one_of pair.inner in
      omega arith

  -- a pair before j that is alone now was alone before
  pair_before : (d b : ℕ) (p q : Gate) → b < j → IsPair (merged gates a j m) roots d b p q → IsPair gates roots d b p q
  pair_before d b p q low now =
      let b_not_a : b ≢ a = λ e. not_both at_a (subst (λ (n : ℕ). gate_at (merged gates a j m) n ≡ Some q) e now.outer) in
      let d_not_a : d ≢ a = λ e. not_both at_a (subst (λ (n : ℕ). gate_at (merged gates a j m) n ≡ Some p) e now.inner) in
      let b_not_j : b ≢ j = omega arith in
      let outer : gate_at gates b ≡ Some q = sym (at_other b b_not_a b_not_j) ∙ now.outer in
      let low_d = (cover.gate b q outer).earlier d now.reads in
      let d_not_j : d ≢ j = omega arith in
      let both = used_twice d (merged gates a j m) b j q m b_not_j now.outer at_j in
      let alone = now.alone in
      let reads = now.reads in
      let by_m : times d m.leaves.items ≡ 0 = omega arith in
      let by_h : times d h.leaves.items ≡ 0 = elim (cases_lt 0 (times d h.leaves.items)) [
        | inl some ↦ let e = (does.members d).1 (inl some) in absurd (omega arith)
        | inr none ↦ omega arith
      ] in
      let by_g : times d g.leaves.items ≡ 0 = elim (cases_lt 0 (times d g.leaves.items)) [
        | inl some ↦ let e = (does.members d).1 (inr (some, d_not_a)) in absurd (omega arith)
        | inr none ↦ omega arith
      ] in
      let e = used_merged d in
      record { inner = sym (at_other d d_not_a d_not_j) ∙ now.inner; outer = outer; reads = now.reads; alone = omega arith }

  -- the gates before j are as tight as before
  pub tight_merged : IsTightBelow cells gates roots j → IsTightBelow cells (merged gates a j m) roots j
  tight_merged tight d b p q k order low now computes = tight d b p q k order low (pair_before d b p q low now) computes
