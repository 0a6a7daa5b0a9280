-- When two shapes that don't touch are excused, by their places.
use Rattle.std.proofs.Common.{◌≡◌, ℕ, ◌<◌, ◌⊎◌, inl, inr, List, length, get_or, Option, None, Some, refl, sym, ◌∙◌, ap, subst, arith}
use Rattle.vlsi_base.specs.Member.{In}
use Rattle.cell_model.proofs.Members.{In-at, place-In}
use Rattle.std.proofs.lemmas.Int.{ints}
use Rattle.sym_geom.specs.Rect.{Meet, Within}
use Rattle.sym_geom.specs.declared.rect.Rect.{Rect}
use Rattle.sym_shapes.specs.Shape.{Shape}
use Rattle.sym_shapes.specs.Joints.{NumbersJoined}
use Rattle.net_meaning.specs.Breaches.{IsOverPin, IsBridged, IsExcused, one_instance, first_over_pin, second_over_pin, joined_first, joined_second, first_bridged, second_bridged}
use Rattle.sym_near.proofs.Sweeps.{at_any}
use Rattle.sym_near.specs.Related.{nowhere, shape_at, IsOverPin as LiesOverPin}
use Rattle.druc_rules.specs.Excuses.{AreOfOne, Excuses, IsCovered, AreTied}

meet_back : (a b : Rect) → Meet a b → Meet b a
meet_back a b m = record { left = m.right; right = m.left; low = m.high; high = m.low }

-- what holds one that meets another meets it too
meet_wider : (a b c : Rect) → Within a b → Meet a c → Meet b c
meet_wider a b c w m = record {
  left = let x = w.left in let y = m.left in omega (arith, ints, x, y);
  right = let x = w.right in let y = m.right in omega (arith, ints, x, y);
  low = let x = w.low in let y = m.low in omega (arith, ints, x, y);
  high = let x = w.high in let y = m.high in omega (arith, ints, x, y);
}

taken : {A : Type 0} (o : Option A) (x : A) → o ≡ Some x → o ≡ None → ⊥
taken o x h e = let clash : None ≡ Some x = sym e ∙ h in absurd (cc clash)

module _ (all : List Shape) (i j : ℕ) where
  -- a third shape, which covers the first, is a pin of the second's instance or touches the second
  pub covered_is : IsCovered all i j → IsOverPin all (shape_at all i) (shape_at all j) ⊎ IsBridged all (shape_at all i) (shape_at all j)
  covered_is c =
      let listed : In (shape_at all c.third) all = In-at all c.third nowhere c.holds.second in
      elim c.excuses [
        | inl touches ↦ inr (record { third = shape_at all c.third; listed = listed; metal = sym c.holds.metal; within = c.holds.is.1.0; touches = touches })
        | inr pin ↦ inl (record {
          drawn = pin.0;
          owner = pin.2.0;
          owned = pin.2.2;
          pin = shape_at all c.third;
          name = pin.1.0;
          listed = listed;
          of_owner = pin.2.1;
          named = pin.1.1;
          metal = sym c.holds.metal;
          within = c.holds.is.1.0;
        })
      ]

  module _ (low : i < length all) where
    pub over_pin_covers : IsOverPin all (shape_at all i) (shape_at all j) → IsCovered all i j
    over_pin_covers o =
        let k = place-In o.pin all o.listed in
        let stands : shape_at all k.0 ≡ o.pin = k.2 nowhere in
        let other : i ≡ k.0 → ⊥ = λ e.
        let same : (shape_at all i).owner ≡ o.pin.owner = ap (λ (x : ℕ). (shape_at all x).owner) e ∙ ap (λ (s : Shape). s.owner) stands in
        let clash : None ≡ Some o.owner = sym o.drawn ∙ same ∙ o.of_owner in
        absurd (cc clash) in
        let over : LiesOverPin (shape_at all i) (shape_at all k.0) =
        record { drawn = o.drawn; owned = λ e. taken _ o.owner (rw stands o.of_owner) e; named = λ e. taken _ o.name (rw stands o.named) e } in
        record {
          third = k.0;
          holds = record { first = low; second = k.1; metal = sym o.metal ∙ sym (ap (λ (s : Shape). s.metal) stands); is = (other, (rw stands o.within, inr over)) };
          excuses = inr (o.drawn, (o.name, rw stands o.named), (o.owner, rw stands o.of_owner, o.owned));
        }

    pub bridged_covers : (Meet (shape_at all i).rect (shape_at all j).rect → ⊥) → IsBridged all (shape_at all i) (shape_at all j) → IsCovered all i j
    bridged_covers apart b =
        let k = place-In b.third all b.listed in
        let stands : shape_at all k.0 ≡ b.third = k.2 nowhere in
        let other : i ≡ k.0 → ⊥ = λ e.
        let same : b.third ≡ shape_at all i = sym (ap (λ (x : ℕ). shape_at all x) e ∙ stands) in
        apart (subst (λ (s : Shape). Meet s.rect (shape_at all j).rect) same b.touches) in
        let touches : Meet (shape_at all k.0).rect (shape_at all j).rect = rw stands b.touches in
        let larger : Within (shape_at all k.0).rect (shape_at all i).rect → ⊥ = λ w. apart (meet_wider (shape_at all k.0).rect (shape_at all i).rect (shape_at all j).rect w touches) in
        record {
          third = k.0;
          holds = record { first = low; second = k.1; metal = sym b.metal ∙ sym (ap (λ (s : Shape). s.metal) stands); is = (other, (rw stands b.within, inl larger)) };
          excuses = inl (rw stands b.touches);
        }

-- the four tests
abbrev pub Tested : List Shape → ℕ → ℕ → Type 0
Tested all i j = AreOfOne (shape_at all i) (shape_at all j) ⊎ (AreTied all (shape_at all i) (shape_at all j) ⊎ (IsCovered all i j ⊎ IsCovered all j i))

pub excused_so : (all : List Shape) (i j : ℕ) → Tested all i j → IsExcused all (shape_at all i) (shape_at all j)
excused_so all i j t = elim t [
  | inl one ↦ one_instance one.0 one.1 one.2
  | inr h ↦ elim h [
    | inl tied ↦ elim tied.of_instance.1 [
      | inl a ↦ joined_first tied.of_instance.0 a tied.joined
      | inr b ↦ joined_second tied.of_instance.0 b tied.joined
    ]
    | inr k ↦ elim k [
      | inl first ↦ elim (covered_is all i j first) [ inl o ↦ first_over_pin o | inr b ↦ first_bridged b ]
      | inr second ↦ elim (covered_is all j i second) [ inl o ↦ second_over_pin o | inr b ↦ second_bridged b ]
    ]
  ]
]

pub tested_so : (all : List Shape) (i j : ℕ) → i < length all → j < length all → (Meet (shape_at all i).rect (shape_at all j).rect → ⊥)
    → IsExcused all (shape_at all i) (shape_at all j) → Tested all i j
tested_so all i j hi hj apart (one_instance owner a b) = inl (owner, a, b)
tested_so all i j hi hj apart (first_over_pin o) = inr (inr (inl (over_pin_covers all i j hi o)))
tested_so all i j hi hj apart (second_over_pin o) = inr (inr (inr (over_pin_covers all j i hj o)))
tested_so all i j hi hj apart (joined_first owner a joined) = inr (inl (record { of_instance = (owner, inl a); joined = joined }))
tested_so all i j hi hj apart (joined_second owner b joined) = inr (inl (record { of_instance = (owner, inr b); joined = joined }))
tested_so all i j hi hj apart (first_bridged b) = inr (inr (inl (bridged_covers all i j hi apart b)))
tested_so all i j hi hj apart (second_bridged b) =
    inr (inr (inr (bridged_covers all j i hj (λ m. apart (meet_back (shape_at all j).rect (shape_at all i).rect m)) b)))

-- ---- by shapes that were read at their places

module _ (all : List Shape) (i j : ℕ) (c d : Shape) (hi : i < length all) (hj : j < length all) where
  abbrev a : Shape
  a = get_or all i c

  abbrev b : Shape
  b = get_or all j d

  a_at : a ≡ shape_at all i
  a_at = at_any all i c nowhere hi

  b_at : b ≡ shape_at all j
  b_at = at_any all j d nowhere hj

  -- what holds of the two holds of those at their places, and the other way round
  to_places : (P : Shape → Shape → Type 0) → P a b → P (shape_at all i) (shape_at all j)
  to_places P h = subst (λ (x : Shape). P x (shape_at all j)) a_at (subst (λ (y : Shape). P a y) b_at h)

  from_places : (P : Shape → Shape → Type 0) → P (shape_at all i) (shape_at all j) → P a b
  from_places P h = subst (λ (x : Shape). P x b) (sym a_at) (subst (λ (y : Shape). P (shape_at all i) y) (sym b_at) h)

  pub one_to : AreOfOne a b → AreOfOne (shape_at all i) (shape_at all j)
  one_to h = to_places AreOfOne h

  pub one_from : AreOfOne (shape_at all i) (shape_at all j) → AreOfOne a b
  one_from h = from_places AreOfOne h

  pub excuses_from : (k : ℕ) (t : Shape) → k < length all → Excuses (shape_at all i) (shape_at all j) (shape_at all k) → Excuses a b (get_or all k t)
  excuses_from k t hk h =
      from_places (λ x y. Excuses x y (get_or all k t)) (subst (λ (z : Shape). Excuses (shape_at all i) (shape_at all j) z) (at_any all k nowhere t hk) h)

  owner_of : (o p : Option (List ℕ)) → ((o ≡ None) × (p ≡ None) → ⊥) → (owner : List ℕ) × ((o ≡ Some owner) ⊎ (p ≡ Some owner))
  owner_of None None n = absurd (n (refl, refl))
  owner_of None (Some x) n = (x, inr refl)
  owner_of (Some x) p n = (x, inl refl)

  module _ (numbers : List ℕ) (told : NumbersJoined all numbers) where
    pub tied_so : ((a.owner ≡ None) × (b.owner ≡ None) → ⊥) → get_or numbers i 0 ≡ get_or numbers j 0 → AreTied all (shape_at all i) (shape_at all j)
    tied_so n same = record {
      of_instance = owner_of (shape_at all i).owner (shape_at all j).owner (to_places (λ x y. ((x.owner ≡ None) × (y.owner ≡ None) → ⊥)) n);
      joined = (told i j nowhere hi hj).0 same;
    }

    pub number_so : AreTied all (shape_at all i) (shape_at all j) → get_or numbers i 0 ≡ get_or numbers j 0
    number_so t = (told i j nowhere hi hj).1 t.joined

  pub tied_owned : AreTied all (shape_at all i) (shape_at all j) → (a.owner ≡ None) × (b.owner ≡ None) → ⊥
  tied_owned t h =
      let g = to_places (λ x y. (x.owner ≡ None) × (y.owner ≡ None)) h in
      elim t.of_instance.1 [
        | inl e ↦ clash (shape_at all i).owner t.of_instance.0 g.0 e
        | inr e ↦ clash (shape_at all j).owner t.of_instance.0 g.1 e
      ] where
        clash : (o : Option (List ℕ)) (owner : List ℕ) → o ≡ None → o ≡ Some owner → ⊥
        clash o owner p q = let e : None ≡ Some owner = sym p ∙ q in cc
