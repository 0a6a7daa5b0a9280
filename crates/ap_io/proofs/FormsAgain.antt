-- What is written is read again: the steps by which a line of fields has no fault.
use Rattle.std.proofs.Common.{◌≡◌, ℕ, Bool, true, false, not, ◌&&◌, List, ◌∷◌, refl, sym, ap, ◌∙◌, arith, min, ◌^◌, ◌-◌, Option, None, Some, if◌then◌else◌}
use Rattle.std.specs.Prelude.{ℤ, ◌≤ℤ◌, ◌<ℤ◌}
use Rattle.std.specs.List.{list_all}
use Rattle.std.specs.Ordering.{int_cmp, is_eq, is_le, MatchOrdering}
use Rattle.std.specs.Cmp.{int_cmp_is, int_ranks}
use Rattle.std.specs.declared.cmp.Ordering.{Ordering}
use Rattle.std.specs.declared.cmp.Ordering.TheVariants.{Less, Equal, Greater}
use Rattle.std.specs.Fmt.{signed_decimal}
use Rattle.std.proofs.lemmas.Int.{ints}
use Rattle.ap_io.specs.declared.scale.Scale.TheVariants.{Hundred}
use Rattle.ap_io.specs.declared.fault.LineFault.{LineFault}
use Rattle.ap_io.specs.declared.fault.LineFault.TheVariants.{BadLine}
use Rattle.ap_io.specs.Fields.{is_blank, is_text_byte, reach}
use Rattle.ap_io.specs.LineFaults.{far_coordinate, limit_fault, letter_of, is_blank_line, fields_behind, fault_by, item_fault}
use Rattle.ap_io.proofs.Bytes.{both}
use Rattle.ap_io.proofs.NumbersAgain.{IsCoordinate}
use Rattle.ap_io.proofs.LinesAgain.{joined, all_fields, fields_again, joined_bytes}

-- ---- order

pub equal_again : (a b m n : ℤ) → m ≡ a → n ≡ b → a ≡ b → is_eq (int_cmp m n) ≡ true
equal_again a b m n is are same = ap is_eq (sym (int_cmp_is m n Equal (is ∙ same ∙ sym are)))

in_order : (a b : ℤ) (r : Ordering) → MatchOrdering r (a <ℤ b) (a ≡ b) (b <ℤ a) → a ≤ℤ b → is_le r ≡ true
in_order a b Less ranks le = refl
in_order a b Equal ranks le = refl
in_order a b Greater ranks le = absurd (omega (arith, ints, ranks, le))

pub order_again : (a b m n : ℤ) → m ≡ a → n ≡ b → a ≤ℤ b → is_le (int_cmp m n) ≡ true
order_again a b m n is are le = ap (λ x. is_le (int_cmp x n)) is ∙ ap (λ x. is_le (int_cmp a x)) are ∙ in_order a b (int_cmp a b) (int_ranks a b) le

-- ---- several tests

pub two : (a b : Bool) → a ≡ true → b ≡ true → (a && (b && true)) ≡ true
two a b h i = rw (h, i) refl

pub four : (a b c d : Bool) → a ≡ true → b ≡ true → c ≡ true → d ≡ true → (a && (b && (c && (d && true)))) ≡ true
four a b c d h i j k = rw (h, i, j, k) refl

-- ---- faults

pub without_fault : (form : Bool) (limit : Option LineFault) → form ≡ true → limit ≡ None → (if not form then Some BadLine else limit) ≡ None
without_fault form limit h none = ap (λ (b : Bool). if not b then Some BadLine else limit) h ∙ none

pub without_faults : (form missing : Bool) (e : LineFault) (limit : Option LineFault) → form ≡ true → missing ≡ false → limit ≡ None
    → (if not form then Some BadLine else if missing then Some e else limit) ≡ None
without_faults form missing e limit h found none =
    without_fault form (if missing then Some e else limit) h (ap (λ (b : Bool). if b then Some e else limit) found ∙ none)

pub no_limit : (long far : Option ℕ) → long ≡ None → far ≡ None → limit_fault long far ≡ None
no_limit long far h g = ap (λ (o : Option ℕ). limit_fault o far) h ∙ ap (limit_fault None) g

pub near_next : (z : ℤ) (rest : List (List ℕ)) → IsCoordinate z → far_coordinate Hundred rest ≡ None → far_coordinate Hundred (signed_decimal z ∷ rest) ≡ None
near_next z rest c none =
    let n = reach Hundred (signed_decimal z) in
    ap (λ (b : Bool). if b then Some (min n (2 ^ 64 - 1)) else far_coordinate Hundred rest) c.near ∙ none

-- ---- a letter, a space and fields

pub letter_again : (c : ℕ) (text : List ℕ) → letter_of (c ∷ 32 ∷ text) ≡ Some c
unfolding letter_of
letter_again c text = refl

pub filled : (c : ℕ) (text : List ℕ) → is_blank c ≡ false → is_blank_line (c ∷ 32 ∷ text) ≡ false
unfolding is_blank_line
filled c text other = ap (λ (b : Bool). b && list_all is_blank (32 ∷ text)) other

-- the line of a letter and fields
pub record IsLined (c : ℕ) (fields : List (List ℕ)) : Type 0 where
  pub letter : letter_of (c ∷ 32 ∷ joined fields) ≡ Some c
  pub filled : is_blank_line (c ∷ 32 ∷ joined fields) ≡ false
  pub behind : fields_behind (c ∷ 32 ∷ joined fields) ≡ fields
  pub bytes : list_all is_text_byte (c ∷ 32 ∷ joined fields) ≡ true

pub lined : (c : ℕ) (f : List ℕ) (fs : List (List ℕ)) → is_blank c ≡ false → is_text_byte c ≡ true → all_fields (f ∷ fs) ≡ true → IsLined c (f ∷ fs)
lined c f fs other byte all = record {
  letter = letter_again c (joined (f ∷ fs));
  filled = filled c (joined (f ∷ fs)) other;
  behind = fields_again f fs all;
  bytes = both (is_text_byte c) (list_all is_text_byte (32 ∷ joined (f ∷ fs))) byte (joined_bytes (f ∷ fs) all);
}

-- the fault of a line by its letter
pub fault_again : (c : ℕ) (line : List ℕ) → is_blank_line line ≡ false → letter_of line ≡ Some c → item_fault Hundred false line ≡ fault_by (Some c) Hundred false line
fault_again c line some letter =
    ap (λ (b : Bool). if b then None else fault_by (letter_of line) Hundred false line) some ∙ ap (λ (o : Option ℕ). fault_by o Hundred false line) letter
