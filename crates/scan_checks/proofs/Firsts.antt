-- The first that has a property, where this is said in another way.
use Rattle.std.proofs.Common.{◌≡◌, ◌↔◌, inl, inr, ℕ, suc, zero, ◌+◌, ◌<◌, true, false, List, [], ◌∷◌, length, get_or, Some, None, Option, refl, sym, ap, ◌∙◌, subst, arith}
use Rattle.std.specs.Prelude.{is_some, is_none}
use Rattle.std.proofs.lemmas.Bool.{cases_eq}
use Rattle.vlsi_base.specs.Member.{In}
use Rattle.net_core.specs.Places.{IsThere, position_of}
use Rattle.net_core.proofs.Standing.{position_stands, position_absent}
use Rattle.net_right.proofs.Lists.{in_place}
use Rattle.cell_pins.proofs.Sound.{member_at}
use Rattle.loon_wiring.specs.Repeaters.{IsFirst}

pub first_by : {A : Type 0} (P Q : A → Type 0) (xs : List A) (x : A) → ((y : A) → P y ↔ Q y) → IsFirst P xs x → IsFirst Q xs x
first_by P Q xs x same h = record {
  place = h.place;
  stands = h.stands;
  holds = (same x).0 h.holds;
  first = λ j y earlier at has. h.first j y earlier at ((same y).1 has);
}

-- what is on a roll
pub found_there : (roll : List (List ℕ)) (text : List ℕ) (k : ℕ) → position_of roll text ≡ Some k → IsThere roll text
found_there roll text k e = (k, position_stands roll text k e)

pub found_in : (roll : List (List ℕ)) (text : List ℕ) (k : ℕ) → position_of roll text ≡ Some k → In text roll
found_in roll text k e = member_at roll k text (position_stands roll text k e)

pub none_in : (roll : List (List ℕ)) (text : List ℕ) → position_of roll text ≡ None → In text roll → ⊥
none_in roll text e h = position_absent roll text e (in_place text roll h)

-- one more that hasn't the property
pub none_more : {A : Type 0} (P : A → Type 0) (xs : List A) (k : ℕ) (x : A) → k < length xs → x ≡ get_or xs k x → (P x → ⊥)
    → ((j : ℕ) (d : A) → j < k → P (get_or xs j d) → ⊥) → (j : ℕ) (d : A) → j < k + 1 → P (get_or xs j d) → ⊥
none_more {A} P xs k x low is hasnt before j d within has = elim (cases_eq j k) [
  | inl e ↦ hasnt (subst P (ap (λ (i : ℕ). get_or xs i d) e ∙ same xs k d x low ∙ sym is) has)
  | inr other ↦ before j d (omega (arith, within, other)) has
] where
  same : (ys : List A) (i : ℕ) (a b : A) → i < length ys → get_or ys i a ≡ get_or ys i b
  same [] i a b l = absurd (omega (arith, l))
  same (y ∷ ys) zero a b l = refl
  same (y ∷ ys) (suc i) a b l = same ys i a b (omega (arith, l))

-- whether a text is on a roll
pub some_there : (roll : List (List ℕ)) (text : List ℕ) (o : Option ℕ) → o ≡ position_of roll text → is_some o ≡ true → IsThere roll text
some_there roll text None is some = absurd (cc some)
some_there roll text (Some k) is some = found_there roll text k (sym is)

pub none_there : (roll : List (List ℕ)) (text : List ℕ) (o : Option ℕ) → o ≡ position_of roll text → is_some o ≡ false → IsThere roll text → ⊥
none_there roll text None is some h = position_absent roll text (sym is) h
none_there roll text (Some k) is some h = absurd (cc some)

pub off_roll : (roll : List (List ℕ)) (text : List ℕ) (o : Option ℕ) → o ≡ position_of roll text → is_none o ≡ true → In text roll → ⊥
off_roll roll text None is none h = none_in roll text (sym is) h
off_roll roll text (Some k) is none h = absurd (cc none)

pub on_roll : (roll : List (List ℕ)) (text : List ℕ) (o : Option ℕ) → o ≡ position_of roll text → is_none o ≡ false → In text roll
on_roll roll text None is none = absurd (cc none)
on_roll roll text (Some k) is none = found_in roll text k (sym is)

pub surely_in : (roll : List (List ℕ)) (text : List ℕ) → ((In text roll → ⊥) → ⊥) → In text roll
surely_in roll text h = by (position_of roll text) refl where
  by : (o : Option ℕ) → position_of roll text ≡ o → In text roll
  by None e = absurd (h (none_in roll text e))
  by (Some k) e = found_in roll text k e
