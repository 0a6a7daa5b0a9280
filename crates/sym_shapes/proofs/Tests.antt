-- Tests that compute, on what rectangles and shapes are to one another.
use Rattle.std.proofs.Common.{◌≡◌, ℕ, Bool, true, false, ◌&&◌, ◌||◌, List, [], ◌∷◌, Option, None, Some, refl, ap, subst, inl, inr, ◌⊎◌}
use Rattle.std.specs.Prelude.{ℤ, pos, ◌+ℤ◌, ◌≤ℤ◌, ◌<ℤ◌, int_le, int_lt, nat_eq}
use lib.Dec.{T}
use Rattle.std.specs.List.{list_any, list_all}
use Rattle.std.proofs.lemmas.Bool.Decides.{Decides-eqb}
use Rattle.std.specs.Cmp.Lexicographic.{pointwise, bytes_decides}
use Rattle.sym_geom.specs.Rect.{Meet, Within, Near}
use Rattle.sym_geom.specs.declared.rect.Rect.{Rect}
use Rattle.vlsi_base.specs.Member.{In, here, there}
use Rattle.sym_shapes.specs.Shape.{Shape}
use Rattle.sym_shapes.specs.Joined.{Linked, touching, one_line}

pub both : (a b : Bool) → (a && b) ≡ true → (a ≡ true) × (b ≡ true)
both true b h = (refl, h)
both false b h = absurd (cc h)

-- the facts of an order on integers are those of its test
pub told : (b : Bool) → T b → b ≡ true
told true h = refl
told false h = absurd h

pub so : (b : Bool) → b ≡ true → T b
so true h = tt
so false h = absurd (cc h)

le_told : (a b : ℤ) → a ≤ℤ b → int_le a b ≡ true
le_told a b h = told (int_le a b) h.le

le_so : (a b : ℤ) → int_le a b ≡ true → a ≤ℤ b
le_so a b h = record { le = so (int_le a b) h }

lt_told : (a b : ℤ) → a <ℤ b → int_lt a b ≡ true
lt_told a b h = told (int_lt a b) h.lt

pub four_and : (a b c d : Bool) → a ≡ true → b ≡ true → c ≡ true → d ≡ true → (a && b && c && d) ≡ true
four_and a b c d p q r s = rw (p, q, r, s) refl

abbrev pub meets : Rect → Rect → Bool
meets a b = int_le a.x1 b.x2 && int_le b.x1 a.x2 && int_le a.y1 b.y2 && int_le b.y1 a.y2

pub meets_told : (a b : Rect) → Meet a b → meets a b ≡ true
meets_told a b h = four_and _ _ _ _ (le_told a.x1 b.x2 h.left) (le_told b.x1 a.x2 h.right) (le_told a.y1 b.y2 h.low) (le_told b.y1 a.y2 h.high)

pub four_parts : (a b c d : Bool) → (a && b && c && d) ≡ true → (a ≡ true) × (b ≡ true) × (c ≡ true) × (d ≡ true)
four_parts true true true true h = (refl, refl, refl, refl)
four_parts true true true false h = absurd (cc h)
four_parts true true false d h = absurd (cc h)
four_parts true false c d h = absurd (cc h)
four_parts false b c d h = absurd (cc h)

pub meets_so : (a b : Rect) → meets a b ≡ true → Meet a b
meets_so a b h =
    let p = four_parts (int_le a.x1 b.x2) (int_le b.x1 a.x2) (int_le a.y1 b.y2) (int_le b.y1 a.y2) h in
    record { left = le_so a.x1 b.x2 p.0; right = le_so b.x1 a.x2 p.1; low = le_so a.y1 b.y2 p.2; high = le_so b.y1 a.y2 p.3 }

abbrev pub is_within : Rect → Rect → Bool
is_within a b = int_le b.x1 a.x1 && int_le a.x2 b.x2 && int_le b.y1 a.y1 && int_le a.y2 b.y2

pub within_so : (a b : Rect) → is_within a b ≡ true → Within a b
within_so a b h =
    let p = four_parts (int_le b.x1 a.x1) (int_le a.x2 b.x2) (int_le b.y1 a.y1) (int_le a.y2 b.y2) h in
    record { left = le_so b.x1 a.x1 p.0; right = le_so a.x2 b.x2 p.1; low = le_so b.y1 a.y1 p.2; high = le_so a.y2 b.y2 p.3 }

abbrev pub is_near : ℕ → Rect → Rect → Bool
is_near d a b = int_lt a.x1 (b.x2 +ℤ pos d) && int_lt b.x1 (a.x2 +ℤ pos d) && int_lt a.y1 (b.y2 +ℤ pos d) && int_lt b.y1 (a.y2 +ℤ pos d)

pub near_told : (d : ℕ) (a b : Rect) → Near d a b → is_near d a b ≡ true
near_told d a b h =
    four_and _ _ _ _ (lt_told a.x1 (b.x2 +ℤ pos d) h.left) (lt_told b.x1 (a.x2 +ℤ pos d) h.right) (lt_told a.y1 (b.y2 +ℤ pos d) h.low) (lt_told b.y1 (a.y2 +ℤ pos d) h.high)

pub number_told : (a b : ℕ) → a ≡ b → nat_eq a b ≡ true
number_told a b h = (Decides-eqb a b).1 h

pub number_so : (a b : ℕ) → nat_eq a b ≡ true → a ≡ b
number_so a b h = (Decides-eqb a b).0 h

-- both are drawn, or both belong to one instance
abbrev pub same_owner : Option (List ℕ) → Option (List ℕ) → Bool
same_owner None None = true
same_owner (Some a) (Some b) = pointwise nat_eq a b
same_owner None (Some b) = false
same_owner (Some a) None = false

owner_itself : (a : Option (List ℕ)) → same_owner a a ≡ true
owner_itself None = refl
owner_itself (Some a) = (bytes_decides a a).1 refl

pub owner_told : (a b : Option (List ℕ)) → a ≡ b → same_owner a b ≡ true
owner_told a b h = subst (λ (x : Option (List ℕ)). same_owner a x ≡ true) h (owner_itself a)

pub owner_so : (a b : Option (List ℕ)) → same_owner a b ≡ true → a ≡ b
owner_so None None h = refl
owner_so (Some a) (Some b) h = ap (λ (x : List ℕ). Some x) ((bytes_decides a b).0 h)
owner_so None (Some b) h = absurd (cc h)
owner_so (Some a) None h = absurd (cc h)

-- they meet on one metal, or one line gives both
abbrev pub touch : Shape → Shape → Bool
touch a b = nat_eq a.metal b.metal && meets a.rect b.rect

abbrev pub share_line : Shape → Shape → Bool
share_line a b = same_owner a.owner b.owner && nat_eq a.line b.line

-- linked whatever their names are
abbrev pub linked : Shape → Shape → Bool
linked a b = touch a b || share_line a b

pub or_cases : (a b : Bool) → (a || b) ≡ true → (a ≡ true) ⊎ (b ≡ true)
or_cases true b h = inl refl
or_cases false b h = inr h

pub or_left : (a b : Bool) → a ≡ true → (a || b) ≡ true
or_left true b is = refl
or_left false b is = absurd (cc is)

pub or_right : (a b : Bool) → b ≡ true → (a || b) ≡ true
or_right true b is = refl
or_right false b is = is

pub linked_so : (a b : Shape) → linked a b ≡ true → Linked a b
linked_so a b h = elim (or_cases (touch a b) (share_line a b) h) [
  | inl t ↦ let p = both (nat_eq a.metal b.metal) (meets a.rect b.rect) t in touching (number_so a.metal b.metal p.0) (meets_so a.rect b.rect p.1)
  | inr s ↦ let p = both (same_owner a.owner b.owner) (nat_eq a.line b.line) s in one_line (owner_so a.owner b.owner p.0) (number_so a.line b.line p.1)
]

pub and_told : (a b : Bool) → a ≡ true → b ≡ true → (a && b) ≡ true
and_told a b p q = rw (p, q) refl

pub list_all_In : {A : Type 0} (test : A → Bool) (xs : List A) → list_all test xs ≡ true → (x : A) → In x xs → test x ≡ true
list_all_In test [] all x h = elim h [ ]
list_all_In test (y ∷ xs) all x here = (both (test y) (list_all test xs) all).0
list_all_In test (y ∷ xs) all x (there h) = list_all_In test xs (both (test y) (list_all test xs) all).1 x h

pub list_any_In : {A : Type 0} (test : A → Bool) (xs : List A) → list_any test xs ≡ true → (x : A) × In x xs × (test x ≡ true)
list_any_In test [] h = absurd (cc h)
list_any_In test (y ∷ xs) h = elim (or_cases (test y) (list_any test xs) h) [
  | inl is ↦ (y, here, is)
  | inr rest ↦ let r = list_any_In test xs rest in (r.0, there r.1, r.2)
]
