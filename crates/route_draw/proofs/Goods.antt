-- Lines of a figure that the format can hold and that are within its limits.
use Rattle.std.proofs.Common.{◌≡◌, ℕ, ◌≤◌, Bool, true, false, ◌&&◌, ◌||◌, List, [], ◌∷◌, Option, None, Some, refl, sym, subst, ◌∙◌, arith, rules}
use Rattle.std.specs.Prelude.{ℤ, pos, nat_eq}
use Rattle.std.specs.Int.{int_min, int_max}
use Rattle.std.specs.List.{AllPass, list_all, AllByRecursion}
use Rattle.std.proofs.lemmas.Int.{ints, by_lt_z, int_min_is, int_max_is}
use Rattle.std.proofs.lemmas.List.Elements.{All-nil, All-cons}
use Rattle.vlsi_base.specs.declared.name.Name.{Name}
use Rattle.vlsi_base.specs.Member.{In, here, there}
use Rattle.vlsi_base.specs.Names.{vdd, vss}
use Rattle.sym_geom.specs.declared.layer.Layer.{Layer}
use Rattle.sym_geom.specs.declared.item.Contact.TheVariants.{Via1, Via2}
use Rattle.sym_geom.specs.declared.item.Instance.{Instance}
use Rattle.sym_geom.specs.declared.item.Item.{Item}
use Rattle.sym_geom.specs.declared.item.Item.TheVariants as item
use Rattle.spell_theory.specs.Words.{is_small_letter, is_in_small_word}
use Rattle.text_names.specs.Words.{is_word}
use Rattle.ap_io.specs.ApText.{is_letter, is_digit, is_word_byte, IsWord, IsLabel, IsLine, IsNear, IsShort, IsShortLabel, IsItemWithin}
use Rattle.ap_io.proofs.Brief.{IsBrief}
use Rattle.ocp_rows.specs.Placement.{level_wire, upright_wire, contact_at, west_port}
use Rattle.ocp_rows.specs.Length.{least, greatest}

-- a line that the format can hold, within the limits
pub record IsGood (one : Item) : Type 0 where
  pub line : IsLine one
  pub within : IsItemWithin one
  pub brief : IsBrief one

-- the name of a line, or none
pub record IsGoodLabel (o : Option Name) : Type 0 where
  pub label : IsLabel o
  pub short : IsShortLabel o

-- ---- words

both_true : (a b : Bool) → a && b ≡ true → (a ≡ true) × (b ≡ true)
both_true true b e = (refl, e)
both_true false b e = absurd (cc e)

or_again : (a b d : Bool) → (a || b) || d ≡ a || (b || d)
or_again true b d = refl
or_again false b d = refl

same_byte : (c : ℕ) → is_in_small_word c ≡ is_word_byte c
same_byte c = or_again (is_letter c) (is_digit c) (nat_eq c 95)

word_rest : (text : List ℕ) → list_all is_in_small_word text ≡ true → AllPass is_word_byte text
word_rest [] e = All-nil (λ x. is_word_byte x ≡ true)
word_rest (c ∷ rest) e =
    let x = both_true (is_in_small_word c) (list_all is_in_small_word rest) e in
    All-cons (λ x. is_word_byte x ≡ true) c rest (sym (same_byte c) ∙ x.0) (word_rest rest x.1)

-- an identifier is a word of the format
pub word_of : (text : List ℕ) → is_word text ≡ true → IsWord text
word_of [] e = absurd (cc e)
word_of (c ∷ rest) e =
    let x = both_true (is_small_letter c) (list_all is_in_small_word (c ∷ rest)) e in
    let y = both_true (is_in_small_word c) (list_all is_in_small_word rest) x.1 in
    (x.0, word_rest rest y.1)

pub vdd_label : IsGoodLabel (Some vdd)
vdd_label = record { label = ((search rules, search rules), tt); short = omega arith }

pub vss_label : IsGoodLabel (Some vss)
vss_label = record { label = ((search rules, search rules), tt); short = omega arith }

pub no_label : IsGoodLabel None
no_label = record { label = tt; short = tt }

-- ---- lines

-- a width of a wire
pub record IsWireWidth (w : ℕ) : Type 0 where
  pub least : 1 ≤ w
  pub most : w ≤ 1000

pub level_good : (layer : Layer) (w : ℕ) (x1 x2 y : ℤ) (name : Option Name) → IsWireWidth w → IsNear x1 → IsNear x2 → IsNear y → IsGoodLabel name
    → IsGood (level_wire layer (pos w) x1 x2 y name)
level_good layer w x1 x2 y name width a b c good = record {
  line = (let p = width.least in omega (arith, ints), refl, good.label);
  within = (a, c, b, c, let p = width.most in omega arith, good.short);
  brief = tt;
}

pub upright_good : (layer : Layer) (w : ℕ) (x y1 y2 : ℤ) (name : Option Name) → IsWireWidth w → IsNear x → IsNear y1 → IsNear y2 → IsGoodLabel name
    → IsGood (upright_wire layer (pos w) x y1 y2 name)
upright_good layer w x y1 y2 name width a b c good = record {
  line = (let p = width.least in omega (arith, ints), refl, good.label);
  within = (a, b, a, c, let p = width.most in omega arith, good.short);
  brief = tt;
}

pub low_via_good : (x y : ℤ) (name : Option Name) → IsNear x → IsNear y → IsGoodLabel name → IsGood (contact_at Via1 x y name)
low_via_good x y name a b good = record { line = (tt, good.label); within = (a, b, good.short); brief = omega arith }

pub high_via_good : (x y : ℤ) (name : Option Name) → IsNear x → IsNear y → IsGoodLabel name → IsGood (contact_at Via2 x y name)
high_via_good x y name a b good = record { line = (tt, good.label); within = (a, b, good.short); brief = omega arith }

pub port_good : (layer : Layer) (w : ℕ) (x y : ℤ) (name : Name) → IsWireWidth w → IsNear x → IsNear y → IsGoodLabel (Some name) → IsGood (west_port layer (pos w) x y name)
port_good layer w x y name width a b good = record {
  line = (let p = width.least in omega (arith, ints), good.label);
  within = (a, b, let p = width.most in omega arith, good.short, omega arith);
  brief = tt;
}

pub instance_good : (i : Instance) → IsNear i.x → IsNear i.y → IsWord i.model → IsWord i.name → IsShort i.model → IsShort i.name → IsGood (item.Instance i)
instance_good i a b model name p q = record { line = (model, name); within = (a, b, p, q); brief = tt }

-- ---- all lines

pub all_by : {A : Type 0} (P : A → Type 0) (xs : List A) → ((x : A) → In x xs → P x) → AllByRecursion P xs
all_by P [] each = tt
all_by P (x ∷ xs) each = (each x here, all_by P xs (λ y i. each y (there i)))

-- ---- least and greatest

min_either : (P : ℤ → Type 0) (x y : ℤ) → P x → P y → P (int_min x y)
min_either P x y p q =
    let a = int_min_is x y in
    by_lt_z x y
    (λ h. subst P (let e : x ≡ int_min x y = omega (arith, ints) in e) p)
    (λ h. subst P (let e : y ≡ int_min x y = omega (arith, ints) in e) q)

max_either : (P : ℤ → Type 0) (x y : ℤ) → P x → P y → P (int_max x y)
max_either P x y p q =
    let a = int_max_is x y in
    by_lt_z x y
    (λ h. subst P (let e : y ≡ int_max x y = omega (arith, ints) in e) q)
    (λ h. subst P (let e : x ≡ int_max x y = omega (arith, ints) in e) p)

-- what holds of each of some numbers holds of the least and of the greatest
pub least_one : (P : ℤ → Type 0) (x : ℤ) (xs : List ℤ) → P x → ((y : ℤ) → In y xs → P y) → P (least x xs)
least_one P x [] p each = p
least_one P x (y ∷ ys) p each = least_one P (int_min x y) ys (min_either P x y p (each y here)) (λ z i. each z (there i))

pub greatest_one : (P : ℤ → Type 0) (x : ℤ) (xs : List ℤ) → P x → ((y : ℤ) → In y xs → P y) → P (greatest x xs)
greatest_one P x [] p each = p
greatest_one P x (y ∷ ys) p each = greatest_one P (int_max x y) ys (max_either P x y p (each y here)) (λ z i. each z (there i))
