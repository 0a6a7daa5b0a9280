-- Layouts whose pairs of near shapes are excused, shape by shape, without a chain.
use Rattle.std.proofs.Common.{◌≡◌, ℕ, Bool, true, false, not, ◌&&◌, ◌||◌, List, [], ◌∷◌, Option, None, Some, refl, sym, ◌∙◌, subst, inl, inr}
use Rattle.std.specs.Prelude.{pos, ◌+ℤ◌, int_lt, nat_eq, is_none, is_some}
use Rattle.std.specs.List.{list_any, list_all}
use Rattle.sym_geom.specs.declared.item.Item.{Item}
use Rattle.vlsi_base.specs.Member.{Picks, done, skips, pairs}
use Rattle.sym_shapes.specs.Shape.{Shape}
use Rattle.cell_model.specs.Library.{Library}
use Rattle.cell_model.specs.Layout.{shapes}
use Rattle.net_meaning.specs.Breaches.{IsNarrow, IsOverPin, IsBridged, IsExcused, one_instance, first_over_pin, second_over_pin, first_bridged, second_bridged, AreTooNear, Breaches}
use Rattle.sym_shapes.proofs.Tests.{both, told, meets, meets_so, is_within, within_so, is_near, near_told, number_told, number_so, same_owner, owner_so, and_told, or_cases, list_any_In}

-- a drawn shape is at least 200 wide and high; other shapes may be narrow
abbrev pub is_wide : Shape → Bool
is_wide s = is_some s.owner || (not (int_lt s.rect.x2 (s.rect.x1 +ℤ pos 200)) && not (int_lt s.rect.y2 (s.rect.y1 +ℤ pos 200)))

none_is : (o : Option (List ℕ)) → o ≡ None → is_some o ≡ false
none_is None h = refl
none_is (Some a) h = absurd (cc h)

not_and_true : (a b : Bool) → (not a && not b) ≡ true → (a ≡ true → ⊥) × (b ≡ true → ⊥)
not_and_true true b h = absurd (cc h)
not_and_true false true h = absurd (cc h)
not_and_true false false h = (λ e. cc e, λ e. cc e)

pub wide_refutes : (s : Shape) → is_wide s ≡ true → IsNarrow s → ⊥
wide_refutes s wide narrow =
    let rest : (not (int_lt s.rect.x2 (s.rect.x1 +ℤ pos 200)) && not (int_lt s.rect.y2 (s.rect.y1 +ℤ pos 200))) ≡ true = rw (none_is s.owner narrow.drawn) at wide in
    let parts = not_and_true (int_lt s.rect.x2 (s.rect.x1 +ℤ pos 200)) (int_lt s.rect.y2 (s.rect.y1 +ℤ pos 200)) rest in
    elim narrow.narrow [
      | inl x ↦ parts.0 (told (int_lt s.rect.x2 (s.rect.x1 +ℤ pos 200)) x.lt)
      | inr y ↦ parts.1 (told (int_lt s.rect.y2 (s.rect.y1 +ℤ pos 200)) y.lt)
    ]

-- on one metal, apart, and nearer than 200
abbrev pub are_near : Shape → Shape → Bool
are_near a b = nat_eq a.metal b.metal && (not (meets a.rect b.rect) && is_near 200 a.rect b.rect)

not_meets : (b : Bool) → (b ≡ true → ⊥) → not b ≡ true
not_meets true h = absurd (h refl)
not_meets false h = refl

near_pair_told : (all : List Shape) (a b : Shape) → AreTooNear all a b → are_near a b ≡ true
near_pair_told all a b h =
    and_told (nat_eq a.metal b.metal) _ (number_told a.metal b.metal h.metal)
    (and_told (not (meets a.rect b.rect)) (is_near 200 a.rect b.rect) (not_meets (meets a.rect b.rect) (λ m. h.apart (meets_so a.rect b.rect m))) (near_told 200 a.rect b.rect h.near))

abbrev pub are_of_one_instance : Shape → Shape → Bool
are_of_one_instance a b = is_some a.owner && same_owner a.owner b.owner

-- the first is drawn and lies within a connector of the second's instance
abbrev pub is_over_pin : List Shape → Shape → Shape → Bool
is_over_pin all a b =
    is_none a.owner && (is_some b.owner && list_any (λ s. same_owner s.owner b.owner && (is_some s.name && (nat_eq s.metal a.metal && is_within a.rect s.rect))) all)

-- the first lies within a third rectangle of its metal, which touches the second
abbrev pub is_bridged : List Shape → Shape → Shape → Bool
is_bridged all a b = list_any (λ s. nat_eq s.metal a.metal && (is_within a.rect s.rect && meets s.rect b.rect)) all

abbrev pub is_excused : List Shape → Shape → Shape → Bool
is_excused all a b = are_of_one_instance a b || (is_over_pin all a b || (is_over_pin all b a || (is_bridged all a b || is_bridged all b a)))

some_is : {A : Type 0} (o : Option A) → is_some o ≡ true → (a : A) × (o ≡ Some a)
some_is None h = absurd (cc h)
some_is (Some a) h = (a, refl)

none_so : {A : Type 0} (o : Option A) → is_none o ≡ true → o ≡ None
none_so None h = refl
none_so (Some a) h = absurd (cc h)

over_pin_so : (all : List Shape) (a b : Shape) → is_over_pin all a b ≡ true → IsOverPin all a b
over_pin_so all a b h =
    let p = both (is_none a.owner) _ h in
    let q = both (is_some b.owner) _ p.1 in
    let owner = some_is b.owner q.0 in
    let found = list_any_In (λ s. same_owner s.owner b.owner && (is_some s.name && (nat_eq s.metal a.metal && is_within a.rect s.rect))) all q.1 in
    let s = found.0 in
    let r = both (same_owner s.owner b.owner) _ found.2 in
    let u = both (is_some s.name) _ r.1 in
    let v = both (nat_eq s.metal a.metal) (is_within a.rect s.rect) u.1 in
    let name = some_is s.name u.0 in
    record {
      drawn = none_so a.owner p.0;
      owner = owner.0;
      owned = owner.1;
      pin = s;
      name = name.0;
      listed = found.1;
      of_owner = owner_so s.owner b.owner r.0 ∙ owner.1;
      named = name.1;
      metal = number_so s.metal a.metal v.0;
      within = within_so a.rect s.rect v.1;
    }

bridged_so : (all : List Shape) (a b : Shape) → is_bridged all a b ≡ true → IsBridged all a b
bridged_so all a b h =
    let found = list_any_In (λ s. nat_eq s.metal a.metal && (is_within a.rect s.rect && meets s.rect b.rect)) all h in
    let s = found.0 in
    let p = both (nat_eq s.metal a.metal) _ found.2 in
    let q = both (is_within a.rect s.rect) (meets s.rect b.rect) p.1 in
    record { third = s; listed = found.1; metal = number_so s.metal a.metal p.0; within = within_so a.rect s.rect q.0; touches = meets_so s.rect b.rect q.1 }

excused_so : (all : List Shape) (a b : Shape) → is_excused all a b ≡ true → IsExcused all a b
excused_so all a b h = elim (or_cases (are_of_one_instance a b) _ h) [
  | inl one ↦ let p = both (is_some a.owner) (same_owner a.owner b.owner) one in let owner = some_is a.owner p.0 in
      one_instance owner.0 owner.1 (sym (owner_so a.owner b.owner p.1) ∙ owner.1)
  | inr h1 ↦ elim (or_cases (is_over_pin all a b) _ h1) [
    | inl over ↦ first_over_pin (over_pin_so all a b over)
    | inr h2 ↦ elim (or_cases (is_over_pin all b a) _ h2) [
      | inl over ↦ second_over_pin (over_pin_so all b a over)
      | inr h3 ↦ elim (or_cases (is_bridged all a b) (is_bridged all b a) h3) [
        | inl bridged ↦ first_bridged (bridged_so all a b bridged)
        | inr bridged ↦ second_bridged (bridged_so all b a bridged)
      ]
    ]
  ]
]

abbrev pub is_kept : List Shape → Shape × Shape → Bool
is_kept all p = not (are_near p.0 p.1) || is_excused all p.0 p.1

kept : (near excused : Bool) → (not near || excused) ≡ true → near ≡ true → excused ≡ true
kept true excused h is = h
kept false excused h is = absurd (cc is)

none_of : {A : Type 0} (P : A → Type 0) (test : A → Bool) → ((x : A) → test x ≡ true → P x → ⊥) → (xs : List A) → list_all test xs ≡ true → Picks P xs []
none_of P test refutes [] all = done
none_of P test refutes (x ∷ xs) all = let parts = both (test x) (list_all test xs) all in skips (refutes x parts.0) (none_of P test refutes xs parts.1)

-- shapes that all pass the two tests break no rule
pub no_breach : (items : List Item) (l : Library) (all : List Shape) → shapes items l ≡ all → list_all is_wide all ≡ true → list_all (is_kept all) (pairs all) ≡ true → Breaches items l []
no_breach items l all is wide near = record {
  narrow = [];
  near = [];
  widths = subst (λ (xs : List Shape). Picks IsNarrow xs []) (sym is) (none_of IsNarrow is_wide wide_refutes all wide);
  gaps = subst (λ (xs : List Shape). Picks (λ p. AreTooNear xs p.0 p.1) (pairs xs) []) (sym is)
      (none_of (λ (p : Shape × Shape). AreTooNear all p.0 p.1) (is_kept all)
      (λ p ok h. h.unexcused (excused_so all p.0 p.1 (kept (are_near p.0 p.1) (is_excused all p.0 p.1) ok (near_pair_told all p.0 p.1 h)))) (pairs all) near);
  listed = refl;
}
