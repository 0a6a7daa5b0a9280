-- Ports by their names, and places in lists.
use Rattle.std.proofs.Common.{◌≡◌, ℕ, zero, suc, Bool, true, false, ◌&&◌, ◌||◌, List, [], ◌∷◌, map, Option, None, Some, is_none, bytes_eq, refl, sym, ap, ◌∙◌, subst}
use Rattle.std.proofs.lemmas.Bool.{and_parts}
use Rattle.std.proofs.lemmas.Option.{same_Some}
use Rattle.std.proofs.lemmas.Slice.Eq.{bytes_eq-Decides}
use Rattle.vlsi_base.specs.Member.{In, here, there}
use Rattle.vlsi_base.specs.declared.name.Name.{Name}
use Rattle.vlsi_base.specs.declared.name.Port.{Port}
use Rattle.vlsi_base.specs.Names.{scalar}
use Rattle.net_core.specs.Places.{IsThere}
use Rattle.ocp_run.specs.Source.{is_named, is_among}

pub in_stands : {A : Type 0} (xs : List A) (x : A) → IsThere xs x → In x xs
in_stands [] x (k, h) = absurd cc
in_stands (y ∷ xs) x (zero, h) = let same : y ≡ x = cc h in subst (λ z. In z (y ∷ xs)) same here
in_stands (y ∷ xs) x (suc k, h) = there (in_stands xs x (k, h))

no_bit : (b : Option ℕ) → is_none b ≡ true → b ≡ None
no_bit None h = refl
no_bit (Some k) h = let never : false ≡ true = h in absurd cc

from_parts : (a b : Name) → a.text ≡ b.text → a.bit ≡ b.bit → a ≡ b
from_parts a b t k =
    let made : List ℕ → Option ℕ → Name = λ text bit. record { text = text; bit = bit } in
    ap (λ text. made text a.bit) t ∙ ap (λ bit. made b.text bit) k

named_so : (text : List ℕ) (p : Port) → is_named text p ≡ true → p.name ≡ scalar text
named_so text p h =
    let parts = and_parts (bytes_eq p.name.text text) (is_none p.name.bit) h in
    from_parts p.name (scalar text) ((bytes_eq-Decides p.name.text text).0 parts.0) (no_bit p.name.bit parts.1)

itself : (text : List ℕ) → (bytes_eq text text && true) ≡ true
itself text = rw ((bytes_eq-Decides text text).1 refl) refl

so_named : (text : List ℕ) (p : Port) → p.name ≡ scalar text → is_named text p ≡ true
so_named text p e = subst (λ (n : Name). (bytes_eq n.text text && is_none n.bit) ≡ true) (sym e) (itself text)

-- whether one of some ports is the scalar of a text

pub among_there : (text : List ℕ) (ports : List Port) → is_among text ports ≡ true → IsThere (map (λ p. p.name) ports) (scalar text)
among_there text [] h = let never : false ≡ true = h in absurd cc
among_there text (p ∷ ports) h = by (is_named text p) refl (among_there text ports) h where
  by : (b : Bool) → is_named text p ≡ b → (is_among text ports ≡ true → IsThere (map (λ q. q.name) ports) (scalar text)) → (b || is_among text ports) ≡ true
      → IsThere (map (λ q. q.name) (p ∷ ports)) (scalar text)
  by true e more h = (0, ap (λ (n : Name). Some n) (named_so text p e))
  by false e more h = let t = more h in (suc t.0, t.1)

or_first : (a b : Bool) → a ≡ true → (a || b) ≡ true
or_first true b h = refl
or_first false b h = let never : false ≡ true = h in absurd cc

or_last : (a b : Bool) → b ≡ true → (a || b) ≡ true
or_last true b h = refl
or_last false b h = h

pub there_among : (text : List ℕ) (ports : List Port) → IsThere (map (λ p. p.name) ports) (scalar text) → is_among text ports ≡ true
there_among text [] (k, h) = absurd cc
there_among text (p ∷ ports) (zero, h) = or_first (is_named text p) (is_among text ports) (so_named text p (same_Some p.name (scalar text) h))
there_among text (p ∷ ports) (suc k, h) = or_last (is_named text p) (is_among text ports) (there_among text ports (k, h))

pub none_there : (text : List ℕ) (ports : List Port) → is_among text ports ≡ false → IsThere (map (λ p. p.name) ports) (scalar text) → ⊥
none_there text ports h t = let never : true ≡ false = sym (there_among text ports t) ∙ h in cc never
