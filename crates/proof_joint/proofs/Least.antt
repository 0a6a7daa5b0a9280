-- The least name by which two lists, and two machines in some of their roles, differ.
use Rattle.std.proofs.Common.{Bor, IfNone, IfSome, ◌≡◌, ◌⊎◌, inl, inr, ℕ, zero, suc, ◌<◌, List, [], ◌∷◌, ◌++◌, length, take, drop, Option, None, Some, refl, sym, ap, subst, ◌∙◌, arith, if◌then◌else◌}
use Rattle.std.specs.Option.{option_copied}
use Rattle.std.specs.List.{slice_index_or}
use Rattle.std.specs.Ordering.{is_lt, ordering_reverse}
use Rattle.std.specs.declared.cmp.Ordering.{Ordering}
use Rattle.std.specs.declared.cmp.Ordering.TheVariants.{Less, Equal, Greater}
use Rattle.vlsi_base.specs.declared.name.Name.{Name}
use Rattle.vlsi_base.specs.Name.{name_cmp}
use Rattle.vlsi_base.specs.Member.{In, here, there}
use Rattle.vlsi_base.proofs.NameOrder.{name_total, name_exact}
use Rattle.machine_core.specs.Machine.{Machine}
use Rattle.machine_core.specs.Checked.{AreInOrder}
use Rattle.proof_joint.specs.declared.naming.Role.{Role}
use Rattle.proof_joint.specs.declared.naming.Role.TheVariants.{Input, Output, Clock, Register}
use Rattle.proof_joint.specs.Naming.{names_with, IsCompared, AgreeByName, IsApart, IsLeastOneSided}
use Rattle.proof_joint.specs.Apart.{lesser_of, picked, IsLeastApart, IsLeastAmong, IsLeastIn}

-- ---- the order of names

pub less_not_back : (x y : Name) → name_cmp x y ≡ Less → name_cmp y x ≡ Less → ⊥
less_not_back x y p q = let e : Less ≡ Greater = sym p ∙ name_total.antisymm x y ∙ ap ordering_reverse q in absurd (cc e)

pub less_not_itself : (x : Name) → name_cmp x x ≡ Less → ⊥
less_not_itself x p = less_not_back x x p p

back_less : (x y : Name) → name_cmp x y ≡ Greater → name_cmp y x ≡ Less
back_less x y p = name_total.antisymm y x ∙ ap ordering_reverse p

-- each name stands before the later ones
abbrev pub Rising : List Name → Type 0
Rising [] = Unit {0}
Rising (x ∷ xs) = ((y : Name) → In y xs → name_cmp x y ≡ Less) × Rising xs

in_place : (xs : List Name) (y d : Name) → In y xs → (k : ℕ) × (k < length xs) × (slice_index_or xs k d ≡ y)
in_place [] y d h = elim h [ ]
in_place (x ∷ xs) y d here = (zero, omega arith, refl)
in_place (x ∷ xs) y d (there h) = let r = in_place xs y d h in (suc r.0, (let w = r.1 in omega (arith, w)), r.2)

pub rising : (xs : List Name) → AreInOrder xs → Rising xs
rising [] o = tt
rising (x ∷ xs) o = (
  λ y h. (let r = in_place xs y y h in subst (λ (z : Name). name_cmp x z ≡ Less) r.2 (o zero (suc r.0) y (omega arith) (let w = r.1 in omega (arith, w)))),
  rising xs (λ i j d less w. o (suc i) (suc j) d (omega (arith, less)) (omega (arith, w))),
)

pub in_order : (xs : List Name) → Rising xs → AreInOrder xs
in_order [] r i j d less inside = absurd (omega arith)
in_order (x ∷ xs) r zero zero d less inside = absurd (omega arith)
in_order (x ∷ xs) r zero (suc j) d less inside = r.0 (slice_index_or xs j d) (at xs j (omega arith)) where
  at : (xs : List Name) (j : ℕ) → j < length xs → In (slice_index_or xs j d) xs
  at [] j h = absurd (omega arith)
  at (y ∷ xs) zero h = here
  at (y ∷ xs) (suc j) h = there (at xs j (omega arith))
in_order (x ∷ xs) r (suc i) zero d less inside = absurd (omega arith)
in_order (x ∷ xs) r (suc i) (suc j) d less inside = in_order xs r.1 i j d (omega (arith, less)) (omega (arith, inside))

-- ---- lists

swap : (xs ys : List Name) (n : Name) → IsApart xs ys n → IsApart ys xs n
swap xs ys n (inl p) = inr p
swap xs ys n (inr p) = inl p

swapped : (xs ys : List Name) (n : Name) → IsLeastApart xs ys n → IsLeastApart ys xs n
swapped xs ys n w = record { apart = swap xs ys n w.apart; least = λ other a. w.least other (swap ys xs other a) }

not_same : (xs : List Name) (n : Name) → IsApart xs xs n → ⊥
not_same xs n (inl p) = p.1 p.0
not_same xs n (inr p) = p.1 p.0

head_or : (n x : Name) (xs : List Name) → In n (x ∷ xs) → (n ≡ x) ⊎ In n xs
head_or n x xs here = inl refl
head_or n x xs (there h) = inr h

-- not before the first
from_first : (x other : Name) (xs : List Name) → Rising (x ∷ xs) → In other (x ∷ xs) → name_cmp other x ≡ Less → ⊥
from_first x other xs r here less = less_not_itself x less
from_first x other xs r (there h) less = less_not_back x other (r.0 other h) less

first_apart : (x y : Name) (xs ys : List Name) → Rising (x ∷ xs) → Rising (y ∷ ys) → name_cmp x y ≡ Less → IsLeastApart (x ∷ xs) (y ∷ ys) x
first_apart x y xs ys r s less = record { apart = inl (here, fresh); least = least }
  where
    fresh : In x (y ∷ ys) → ⊥
    fresh h = elim (head_or x y ys h) [
      | inl e ↦ less_not_itself x (subst (λ (z : Name). name_cmp x z ≡ Less) (sym e) less)
      | inr g ↦ less_not_back x y less (s.0 x g)
    ]

    above : (other : Name) → In other (y ∷ ys) → name_cmp other x ≡ Less → ⊥
    above other here q = less_not_back x other less q
    above other (there h) q = less_not_back x other (name_total.trans x y other less (s.0 other h)) q

    least : (other : Name) → IsApart (x ∷ xs) (y ∷ ys) other → name_cmp other x ≡ Less → ⊥
    least other (inl p) q = from_first x other xs r p.0 q
    least other (inr p) q = above other p.0 q

-- the lists begin alike
deeper : (c : Name) (xs ys : List Name) (n : Name) → Rising (c ∷ xs) → Rising (c ∷ ys) → IsLeastApart xs ys n → IsLeastApart (c ∷ xs) (c ∷ ys) n
deeper c xs ys n r s w = record { apart = up w.apart; least = λ other a. w.least other (down other a) }
  where
    fresh : (zs : List Name) → Rising (c ∷ zs) → In n zs → (os : List Name) → (In n os → ⊥) → In n (c ∷ os) → ⊥
    fresh zs t h os none g = elim (head_or n c os g) [
      | inl e ↦ less_not_itself c (t.0 c (subst (λ (z : Name). In z zs) e h))
      | inr k ↦ none k
    ]

    up : IsApart xs ys n → IsApart (c ∷ xs) (c ∷ ys) n
    up (inl p) = inl (there p.0, fresh xs r p.0 ys p.1)
    up (inr p) = inr (there p.0, fresh ys s p.0 xs p.1)

    tail : (other : Name) (zs os : List Name) → In other (c ∷ zs) → (In other (c ∷ os) → ⊥) → In other zs × (In other os → ⊥)
    tail other zs os here none = absurd (none here)
    tail other zs os (there h) none = (h, λ g. none (there g))

    down : (other : Name) → IsApart (c ∷ xs) (c ∷ ys) other → IsApart xs ys other
    down other (inl p) = inl (tail other xs ys p.0 p.1)
    down other (inr p) = inr (tail other ys xs p.0 p.1)

both : (front : List Name) (x y : Name) (xs ys : List Name) → Rising (front ++ x ∷ xs) → Rising (front ++ y ∷ ys) → (x ≡ y → ⊥)
    → IsLeastApart (front ++ x ∷ xs) (front ++ y ∷ ys) (lesser_of x y)
both [] x y xs ys r s apart = by (name_cmp x y) refl where
  by : (o : Ordering) → name_cmp x y ≡ o → IsLeastApart (x ∷ xs) (y ∷ ys) (if is_lt o then x else y)
  by Less e = first_apart x y xs ys r s e
  by Equal e = absurd (apart (name_exact x y e))
  by Greater e = swapped (y ∷ ys) (x ∷ xs) y (first_apart y x ys xs s r (back_less x y e))
both (c ∷ front) x y xs ys r s apart = deeper c (front ++ x ∷ xs) (front ++ y ∷ ys) (lesser_of x y) r s (both front x y xs ys r.1 s.1 apart)

longer : (front : List Name) (x : Name) (xs : List Name) → Rising (front ++ x ∷ xs) → Rising front → IsLeastApart (front ++ x ∷ xs) front x
longer [] x xs r s = record { apart = inl (here, λ h. elim h [ ]); least = least } where
  least : (other : Name) → IsApart (x ∷ xs) [] other → name_cmp other x ≡ Less → ⊥
  least other (inl p) q = from_first x other xs r p.0 q
  least other (inr p) q = elim p.0 [ ]
longer (c ∷ front) x xs r s = deeper c (front ++ x ∷ xs) front x r s (longer front x xs r.1 s.1)

-- ---- by places

split_names : (xs : List Name) (i : ℕ) (x : Name) → i < length xs → x ≡ slice_index_or xs i x → xs ≡ take i xs ++ x ∷ drop (suc i) xs
split_names [] i x h is = absurd (omega arith)
split_names (y ∷ xs) zero x h is = ap (λ (z : Name). z ∷ xs) (sym is)
split_names (y ∷ xs) (suc i) x h is = ap (λ (l : List Name). y ∷ l) (split_names xs i x (omega arith) is)

module _ (xs ys : List Name) (ox : AreInOrder xs) (oy : AreInOrder ys) (i : ℕ) (same : take i xs ≡ take i ys) where
  pub both_at : (x y : Name) → i < length xs → i < length ys → x ≡ slice_index_or xs i x → y ≡ slice_index_or ys i y → (x ≡ y → ⊥)
      → IsLeastApart xs ys (lesser_of x y)
  both_at x y hx hy isx isy apart =
      let sx : xs ≡ take i ys ++ x ∷ drop (suc i) xs = split_names xs i x hx isx ∙ ap (λ (l : List Name). l ++ x ∷ drop (suc i) xs) same in
      let sy = split_names ys i y hy isy in
      subst (λ (l : List Name). IsLeastApart l ys (lesser_of x y)) (sym sx)
      (subst (λ (l : List Name). IsLeastApart (take i ys ++ x ∷ drop (suc i) xs) l (lesser_of x y)) (sym sy)
      (both (take i ys) x y (drop (suc i) xs) (drop (suc i) ys) (subst Rising sx (rising xs ox)) (subst Rising sy (rising ys oy)) apart))

  pub first_longer : (x : Name) → i < length xs → take i ys ≡ ys → x ≡ slice_index_or xs i x → IsLeastApart xs ys x
  first_longer x hx end isx =
      let sx : xs ≡ ys ++ x ∷ drop (suc i) xs = split_names xs i x hx isx ∙ ap (λ (l : List Name). l ++ x ∷ drop (suc i) xs) (same ∙ end) in
      subst (λ (l : List Name). IsLeastApart l ys x) (sym sx) (longer ys x (drop (suc i) xs) (subst Rising sx (rising xs ox)) (rising ys oy))

  pub second_longer : (y : Name) → i < length ys → take i xs ≡ xs → y ≡ slice_index_or ys i y → IsLeastApart xs ys y
  second_longer y hy end isy =
      let sy : ys ≡ xs ++ y ∷ drop (suc i) ys = split_names ys i y hy isy ∙ ap (λ (l : List Name). l ++ y ∷ drop (suc i) ys) (sym same ∙ end) in
      swapped ys xs y (subst (λ (l : List Name). IsLeastApart l xs y) (sym sy) (longer xs y (drop (suc i) ys) (subst Rising sy (rising ys oy)) (rising xs ox)))

-- ---- by roles

lesser-left : (x y n : Name) → name_cmp n (lesser_of x y) ≡ Less → name_cmp n x ≡ Less
lesser-left x y n less = by (name_cmp x y) refl less where
  by : (o : Ordering) → name_cmp x y ≡ o → name_cmp n (if is_lt o then x else y) ≡ Less → name_cmp n x ≡ Less
  by Less e q = q
  by Equal e q = subst (λ (z : Name). name_cmp n z ≡ Less) (sym (name_exact x y e)) q
  by Greater e q = name_total.trans n y x q (back_less x y e)

lesser-right : (x y n : Name) → name_cmp n (lesser_of x y) ≡ Less → name_cmp n y ≡ Less
lesser-right x y n less = by (name_cmp x y) refl less where
  by : (o : Ordering) → name_cmp x y ≡ o → name_cmp n (if is_lt o then x else y) ≡ Less → name_cmp n y ≡ Less
  by Less e q = name_total.trans n x y q e
  by Equal e q = q
  by Greater e q = q

either : (x y : Name) → (lesser_of x y ≡ x) ⊎ (lesser_of x y ≡ y)
either x y = by (name_cmp x y) where
  by : (o : Ordering) → ((if is_lt o then x else y) ≡ x) ⊎ ((if is_lt o then x else y) ≡ y)
  by Less = inl refl
  by Equal = inr refl
  by Greater = inr refl

module _ (a b : Machine) (role : Role) (roles : List Role) where
  role_or : (r : Role) → In r (role ∷ roles) → (r ≡ role) ⊎ In r roles
  role_or r here = inl refl
  role_or r (there h) = inr h

  pub both_roles : (one other : Name) → IsLeastIn a b roles (Some one) → IsLeastApart (names_with a role) (names_with b role) other
      → IsLeastIn a b (role ∷ roles) (Some (lesser_of one other))
  both_roles one other w n = by (either one other) where
    least : (r : Role) → In r (role ∷ roles) → (x : Name) → IsApart (names_with a r) (names_with b r) x → name_cmp x (lesser_of one other) ≡ Less → ⊥
    least r here x p less = n.least x p (lesser-right one other x less)
    least r (there h) x p less = w.least r h x p (lesser-left one other x less)

    by : (lesser_of one other ≡ one) ⊎ (lesser_of one other ≡ other) → IsLeastAmong a b (role ∷ roles) (lesser_of one other)
    by (inl e) = record { role = w.role; listed = there w.listed; apart = subst (IsApart (names_with a w.role) (names_with b w.role)) (sym e) w.apart; least = least }
    by (inr e) = record { role = role; listed = here; apart = subst (IsApart (names_with a role) (names_with b role)) (sym e) n.apart; least = least }

  pub only_before : (one : Name) → IsLeastIn a b roles (Some one) → names_with a role ≡ names_with b role → IsLeastIn a b (role ∷ roles) (Some one)
  only_before one w same = record { role = w.role; listed = there w.listed; apart = w.apart; least = least } where
    least : (r : Role) → In r (role ∷ roles) → (x : Name) → IsApart (names_with a r) (names_with b r) x → name_cmp x one ≡ Less → ⊥
    least r here x p less = not_same (names_with b role) x (subst (λ (l : List Name). IsApart l (names_with b role) x) same p)
    least r (there h) x p less = w.least r h x p less

  pub only_now : (other : Name) → IsLeastIn a b roles None → IsLeastApart (names_with a role) (names_with b role) other → IsLeastIn a b (role ∷ roles) (Some other)
  only_now other w n = record { role = role; listed = here; apart = n.apart; least = least } where
    least : (r : Role) → In r (role ∷ roles) → (x : Name) → IsApart (names_with a r) (names_with b r) x → name_cmp x other ≡ Less → ⊥
    least r here x p less = n.least x p less
    least r (there h) x p less = not_same (names_with a r) x (subst (λ (l : List Name). IsApart (names_with a r) l x) (w r h) p)

  pub none_yet : IsLeastIn a b roles None → names_with a role ≡ names_with b role → IsLeastIn a b (role ∷ roles) None
  none_yet w same r here = sym same
  none_yet w same r (there h) = w r h

abbrev pub plain_roles : List Role
plain_roles = Register ∷ Output ∷ Input ∷ []

abbrev pub all_roles : List Role
all_roles = Clock ∷ plain_roles

-- these are the roles in which the names of the two machines are compared
pub record AreRoles (a b : Machine) (roles : List Role) : Type 0 where
  pub each : (r : Role) → IsCompared a b r → In r roles
  pub only : (r : Role) → In r roles → IsCompared a b r

plain_each : (a b : Machine) (r : Role) → (IsCompared a b Clock → ⊥) → IsCompared a b r → In r plain_roles
plain_each a b Register none h = here
plain_each a b Output none h = there here
plain_each a b Input none h = there (there here)
plain_each a b Clock none h = absurd (none h)

plain_only : (a b : Machine) (r : Role) → In r plain_roles → IsCompared a b r
plain_only a b _ here = tt
plain_only a b _ (there here) = tt
plain_only a b _ (there (there here)) = tt
plain_only a b r (there (there (there h))) = elim h [ ]

pub are_plain : (a b : Machine) → (IsCompared a b Clock → ⊥) → AreRoles a b plain_roles
are_plain a b none = record { each = λ r h. plain_each a b r none h; only = plain_only a b }

all_each : (r : Role) → In r all_roles
all_each Clock = here
all_each Register = there here
all_each Output = there (there here)
all_each Input = there (there (there here))

all_only : (a b : Machine) → IsCompared a b Clock → (r : Role) → In r all_roles → IsCompared a b r
all_only a b both _ here = both
all_only a b both r (there h) = plain_only a b r h

pub are_all : (a b : Machine) → IsCompared a b Clock → AreRoles a b all_roles
are_all a b both = record { each = λ r h. all_each r; only = all_only a b both }

pub none_at_all : (a b : Machine) (roles : List Role) → AreRoles a b roles → IsLeastIn a b roles None → AgreeByName a b
none_at_all a b roles are w role h = w role (are.each role h)

pub least_of_all : (a b : Machine) (roles : List Role) → AreRoles a b roles → (n : Name) → IsLeastIn a b roles (Some n) → IsLeastOneSided a b n
least_of_all a b roles are n w = record { one_sided = (w.role, are.only w.role w.listed, w.apart); least = λ other o. w.least o.0 (are.each o.0 o.1) other o.2 }

pub no_role : (a b : Machine) → IsLeastIn a b [] None
no_role a b r h = elim h [ ]

-- ---- what the calls tell

pub one_role : (a b : Machine) (role : Role) (roles : List Role) (least apart o : Option Name) → IfNone apart (names_with a role ≡ names_with b role)
    → IfSome apart (IsLeastApart (names_with a role) (names_with b role)) → o ≡ picked least apart → IsLeastIn a b roles least → IsLeastIn a b (role ∷ roles) o
one_role a b role roles least apart o none some is w = subst (IsLeastIn a b (role ∷ roles)) (sym is) (by least apart none some w) where
  by : (least apart : Option Name) → IfNone apart (names_with a role ≡ names_with b role) → IfSome apart (IsLeastApart (names_with a role) (names_with b role))
      → IsLeastIn a b roles least → IsLeastIn a b (role ∷ roles) (picked least apart)
  by None None none some w = none_yet a b role roles w none
  by None (Some n) none some w = only_now a b role roles n w some
  by (Some m) None none some w = only_before a b role roles m w none
  by (Some m) (Some n) none some w = both_roles a b role roles m n w some

pub told_none : (a b : Machine) (roles : List Role) → AreRoles a b roles → (o : Option (Bor Name)) → IsLeastIn a b roles (option_copied o) → IfNone o (AgreeByName a b)
told_none a b roles are None w = none_at_all a b roles are w
told_none a b roles are (Some n) w = tt

pub told_some : (a b : Machine) (roles : List Role) → AreRoles a b roles → (o : Option (Bor Name)) → IsLeastIn a b roles (option_copied o)
    → IfSome o (λ n. IsLeastOneSided a b n.now)
told_some a b roles are None w = tt
told_some a b roles are (Some n) w = least_of_all a b roles are n.now w

-- an option of what is lent, and of the name itself
pub none_copied : (o : Option (Bor Name)) (P : Type 0) → IfNone o P → IfNone (option_copied o) P
none_copied None P h = h
none_copied (Some n) P h = tt

pub some_copied : (o : Option (Bor Name)) (P : Name → Type 0) → IfSome o (λ n. P n.now) → IfSome (option_copied o) P
some_copied None P h = tt
some_copied (Some n) P h = h
