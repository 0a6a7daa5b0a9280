-- Tests of names, and bits by name.
use Rattle.std.proofs.Common.{◌≡◌, ◌≢◌, ℕ, Bool, true, false, ◌&&◌, List, [], ◌∷◌, Option, None, Some, refl, ◌∙◌, ap, if◌then◌else◌}
use Rattle.std.specs.Cmp.Lexicographic.{bytes_decides}
use Rattle.std.proofs.lemmas.Bool.{eqb-true, eq-eqb}
use Rattle.vlsi_base.specs.declared.name.Name.{Name}
use Rattle.machine_core.specs.Named.{is_same_text, is_same_bit, is_same_name}

and_parts : (a b : Bool) → (a && b) ≡ true → (a ≡ true) × (b ≡ true)
and_parts true true h = (refl, refl)
and_parts true false h = (refl, h)
and_parts false b h = absurd (cc)

same_bit-true : (a b : Option ℕ) → is_same_bit a b ≡ true → a ≡ b
same_bit-true None None h = refl
same_bit-true None (Some b) h = absurd (cc)
same_bit-true (Some a) None h = absurd (cc)
same_bit-true (Some a) (Some b) h = ap (λ x. Some x) (eqb-true a b h)

same_bit-itself : (a : Option ℕ) → is_same_bit a a ≡ true
same_bit-itself None = refl
same_bit-itself (Some a) = eq-eqb a a refl

name_from_parts : (a b : Name) → a.text ≡ b.text → a.bit ≡ b.bit → a ≡ b
name_from_parts a b t k =
    let made : List ℕ → Option ℕ → Name = λ text bit. record { text = text; bit = bit } in
    ap (λ text. made text a.bit) t ∙ ap (λ bit. made b.text bit) k

-- the test of two names answers whether they are one
pub same_name-true : (a b : Name) → is_same_name a b ≡ true → a ≡ b
same_name-true a b h =
    let parts = and_parts (is_same_text a.text b.text) (is_same_bit a.bit b.bit) h in
    name_from_parts a b ((bytes_decides a.text b.text).0 parts.0) (same_bit-true a.bit b.bit parts.1)

pub same_name-itself : (a : Name) → is_same_name a a ≡ true
same_name-itself a = rw ((bytes_decides a.text a.text).1 refl, same_bit-itself a.bit) refl

pub same_name-false : (a b : Name) → a ≢ b → is_same_name a b ≡ false
same_name-false a b apart = by (is_same_name a b) refl where
  by : (r : Bool) → is_same_name a b ≡ r → is_same_name a b ≡ false
  by true e = absurd (apart (same_name-true a b e))
  by false e = e

-- the bits with one of them changed, by name
abbrev pub set_at : List Name → List Bool → Name → Bool → List Bool
set_at [] w name b = w
set_at (n ∷ names) [] name b = []
set_at (n ∷ names) (c ∷ w) name b = if is_same_name n name then b ∷ w else c ∷ set_at names w name b
