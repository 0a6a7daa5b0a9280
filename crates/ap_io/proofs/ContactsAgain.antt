-- What is written is read again: contacts.
use Rattle.std.proofs.Common.{◌≡◌, ◌≢◌, ℕ, Bool, true, false, ◌||◌, ◌⊎◌, inl, inr, List, refl, sym, ap, bytes_eq, codes, Option, None}
use Rattle.std.specs.Prelude.{nat_eq}
use Rattle.std.specs.List.{list_all, starts_with}
use Rattle.std.specs.Option.{unwrap_or}
use Rattle.std.proofs.lemmas.Slice.Eq.{bytes_eq-Decides}
use Rattle.std.proofs.lemmas.List.Sums.{list_all-from_AllPass}
use Rattle.sym_geom.specs.declared.item.Contact.{Contact}
use Rattle.sym_geom.specs.declared.item.Contact.TheVariants.{Via1, Via2, Via3, Via4, Via5, Other}
use Rattle.ap_io.specs.Spelling.{contact_text}
use Rattle.ap_io.specs.Fields.{is_text_byte}
use Rattle.ap_io.specs.Words.{is_contact, joining_contact_of, contact_of}
use Rattle.ap_io.specs.ApText.{is_field_byte, IsContact}
use Rattle.ap_io.proofs.Bytes.{both, texts_have}

pub record IsContactAgain (c : Contact) : Type 0 where
  pub right : is_contact (contact_text c) ≡ true
  pub contact : c ≡ contact_of (contact_text c)
  pub bytes : list_all is_field_byte (contact_text c) ≡ true

pub differ : (xs ys : List ℕ) → xs ≢ ys → bytes_eq xs ys ≡ false
differ xs ys other = by_test (bytes_eq xs ys) refl where
  by_test : (b : Bool) → bytes_eq xs ys ≡ b → bytes_eq xs ys ≡ false
  by_test true same = absurd (other ((bytes_eq-Decides xs ys).0 same))
  by_test false is = is

one_of : (a b : Bool) → (a ≡ true) ⊎ (b ≡ true) → (a || b) ≡ true
one_of a b (inl h) = ap (λ (x : Bool). x || b) h
one_of true b (inr h) = refl
one_of false b (inr h) = h

joins_none : (word : List ℕ) → IsContact (Other word) → joining_contact_of word ≡ None
unfolding joining_contact_of
joins_none word c =
    rw (differ word (contact_text Via1) c.2, differ word (contact_text Via2) c.3, differ word (contact_text Via3) c.4, differ word (contact_text Via4) c.5, differ word (contact_text Via5) c.6) refl

other_again : (word : List ℕ) → IsContact (Other word) → IsContactAgain (Other word)
unfolding is_contact
other_again word c = record {
  right = both (starts_with nat_eq word (codes "CONT_") || starts_with nat_eq word (codes "C_X_")) (list_all is_text_byte word)
      (one_of (starts_with nat_eq word (codes "CONT_")) (starts_with nat_eq word (codes "C_X_")) c.0) (texts_have word (list_all-from_AllPass is_field_byte word c.1));
  contact = sym (ap (λ (o : Option Contact). unwrap_or o (Other word)) (joins_none word c));
  bytes = list_all-from_AllPass is_field_byte word c.1;
}

pub contact_again : (c : Contact) → IsContact c → IsContactAgain c
unfolding is_contact joining_contact_of
contact_again Via1 is = record { right = refl; contact = refl; bytes = refl }
contact_again Via2 is = record { right = refl; contact = refl; bytes = refl }
contact_again Via3 is = record { right = refl; contact = refl; bytes = refl }
contact_again Via4 is = record { right = refl; contact = refl; bytes = refl }
contact_again Via5 is = record { right = refl; contact = refl; bytes = refl }
contact_again (Other word) is = other_again word is
