-- Texts and names that are the same.
use Rattle.std.proofs.Common.{◌≡◌, ℕ, Bool, true, false, List, refl, ap}
use Rattle.std.specs.Prelude.{◌≢◌}
use Rattle.std.specs.Cmp.Lexicographic.{bytes_decides}
use Rattle.vlsi_base.specs.declared.name.Name.{Name}
use Rattle.machine_core.specs.Named.{is_same_text, is_same_name}
use Rattle.vlsi_base.specs.Names.{scalar}

pub text_same : (a b : List ℕ) → is_same_text a b ≡ true → a ≡ b
text_same a b h = (bytes_decides a b).0 h

pub text_itself : (a : List ℕ) → is_same_text a a ≡ true
text_itself a = (bytes_decides a a).1 refl

pub text_differs : (a b : List ℕ) → a ≢ b → is_same_text a b ≡ false
text_differs a b differ = by (is_same_text a b) refl where
  by : (r : Bool) → is_same_text a b ≡ r → r ≡ false
  by true h = absurd (differ (text_same a b h))
  by false h = refl

-- scalars with different texts are different names
pub scalar_differs : (a b : List ℕ) → a ≢ b → is_same_name (scalar a) (scalar b) ≡ false
scalar_differs a b differ = rw (text_differs a b differ) refl

pub scalar_itself : (a : List ℕ) → is_same_name (scalar a) (scalar a) ≡ true
scalar_itself a = rw (text_itself a) refl

pub scalar_same : (a b : List ℕ) → scalar a ≡ scalar b → a ≡ b
scalar_same a b h = ap (λ (n : Name). n.text) h
