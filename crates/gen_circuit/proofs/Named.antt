-- A text can declare the names of every circuit.
use Rattle.std.proofs.Common.{◌≡◌, ℕ, zero, suc, ◌+◌, List, [], ◌∷◌, map, codes, Option, None, Some, slice_get, slice_index, refl, sym, ap, subst, ◌∙◌, arith}
use Rattle.std.specs.List.{All}
use Rattle.std.proofs.lemmas.List.Elements.{All-nil, All-cons}
use Rattle.vlsi_base.specs.declared.name.Name.{Name}
use Rattle.vlsi_base.specs.declared.name.Port.{Port}
use Rattle.vlsi_base.specs.Member.{In, here, there}
use Rattle.vlsi_base.specs.Range.{rising}
use Rattle.machine_core.specs.Machine.{Register}
use Rattle.vhdl_token.specs.Keyword.{keyword_of}
use Rattle.text_names.specs.Words.{IsIdentifier, GoesOn}
use Rattle.vbe_print.specs.Written.{as_ports}
use Rattle.vbe_print.specs.Writable.{AreDeclared, CanBeVbe}
use Rattle.gen_circuit.specs.Generated.{four_bits, ports, register, circuit_by}

-- what holds of each member, one by one
abbrev pub Each : {A : Type 0} → (A → Type 0) → List A → Type 0
Each P [] = Unit {0}
Each P (x ∷ xs) = P x × Each P xs

pub each_all : {A : Type 0} (P : A → Type 0) (xs : List A) → Each P xs → All P xs
each_all P [] h = All-nil P
each_all P (x ∷ xs) h = All-cons P x xs h.0 (each_all P xs h.1)

pub each_in : {A : Type 0} (P : A → Type 0) (xs : List A) → Each P xs → (x : A) → In x xs → P x
each_in P [] h x i = elim i [ ]
each_in P (y ∷ xs) h x here = h.0
each_in P (y ∷ xs) h x (there i) = each_in P xs h.1 x i

-- each port goes on from the one before it, where they have one text
abbrev Next : List Port → Type 0
Next [] = Unit {0}
Next (p ∷ []) = Unit {0}
Next (p ∷ q ∷ rest) = (p.name.text ≡ q.name.text → GoesOn p q) × Next (q ∷ rest)

abbrev first_or : Option Port → Port → Port
first_or None p = p
first_or (Some q) p = q

next_by : (ps : List Port) → Next ps → (k j : ℕ) (p q : Port) → j ≡ suc k → slice_get ps k ≡ Some p → slice_get ps j ≡ Some q → p.name.text ≡ q.name.text → GoesOn p q
next_by [] h k j p q n e f same = absurd cc
next_by (a ∷ []) h zero zero p q n e f same = absurd (omega arith)
next_by (a ∷ []) h zero (suc j) p q n e f same = absurd cc
next_by (a ∷ []) h (suc k) j p q n e f same = absurd cc
next_by (a ∷ b ∷ rest) h k zero p q n e f same = absurd (omega arith)
next_by (a ∷ b ∷ rest) h zero (suc zero) p q n e f same =
    let x : a ≡ p = ap (λ o. first_or o a) e in
    let y : b ≡ q = ap (λ o. first_or o b) f in
    by p q x y same where
      by : (p q : Port) → a ≡ p → b ≡ q → p.name.text ≡ q.name.text → GoesOn p q
      by p q x y same =
          subst (λ (z : Port). GoesOn z q) x (subst (λ (z : Port). GoesOn a z) y
          (h.0 (ap (λ (z : Port). z.name.text) x ∙ same ∙ sym (ap (λ (z : Port). z.name.text) y))))
next_by (a ∷ b ∷ rest) h zero (suc (suc j)) p q n e f same = absurd (omega arith)
next_by (a ∷ b ∷ rest) h (suc k) (suc j) p q n e f same = next_by (b ∷ rest) h.1 k j p q (omega arith) e f same

runs_of : (ps : List Port) → Next ps → (k : ℕ) (p q : Port) → slice_get ps k ≡ Some p → slice_get ps (k + 1) ≡ Some q → p.name.text ≡ q.name.text → GoesOn p q
runs_of ps h k p q e f same = next_by ps h k (k + 1) p q (omega arith) e f same

-- the first letter of a text
abbrev letter : List ℕ → ℕ
letter t = slice_index t 0

apart : (s t : List ℕ) (a b : ℕ) → letter s ≡ a → letter t ≡ b → (a ≡ b → ⊥) → s ≡ t → ⊥
apart s t a b e f h same = h (sym e ∙ ap letter same ∙ f)

-- bits of one vector in their order go on
on : (p q : Port) → GoesOn p q → p.name.text ≡ q.name.text → GoesOn p q
on p q g same = g

pub ports_declared : AreDeclared ports
unfolding keyword_of
ports_declared = record {
  words = each_all (λ p. IsIdentifier p.name.text) ports (
    (refl, refl),
    ((refl, refl), ((refl, refl), ((refl, refl), ((refl, refl), ((refl, refl), ((refl, refl), ((refl, refl), ((refl, refl), tt)))))))),
  );
  runs = runs_of ports (
    λ e. absurd (apart (codes "ck") (codes "x") 99 120 refl refl (λ n. absurd (omega (arith, n))) e),
    (
      λ e. record { bit = refl; dir = refl },
      (
        λ e. record { bit = refl; dir = refl },
        (
          λ e. record { bit = refl; dir = refl },
          (
            λ e. absurd (apart (codes "x") (codes "y") 120 121 refl refl (λ n. absurd (omega (arith, n))) e),
            (λ e. record { bit = refl; dir = refl }, (λ e. record { bit = refl; dir = refl }, (λ e. record { bit = refl; dir = refl }, tt))),
          ),
        ),
      ),
    ),
  );
}

stored_declared : (size : ℕ) → AreDeclared (as_ports (map (λ (r : Register). r.name) (map (register size) (rising 0 4))))
unfolding keyword_of
stored_declared size = record {
  words = each_all (λ p. IsIdentifier p.name.text) (as_ports (four_bits (codes "r"))) ((refl, refl), ((refl, refl), ((refl, refl), ((refl, refl), tt))));
  runs = runs_of (as_ports (four_bits (codes "r")))
      (λ e. record { bit = refl; dir = refl }, (λ e. record { bit = refl; dir = refl }, (λ e. record { bit = refl; dir = refl }, tt)));
}

no_r : (t : List ℕ) (a : ℕ) → letter t ≡ a → (a ≡ 114 → ⊥) → letter t ≡ 114 → ⊥
no_r t a e h f = h (sym e ∙ f)

ports_no_r : (p : Port) → In p ports → letter p.name.text ≡ 114 → ⊥
ports_no_r =
    let x = no_r (codes "x") 120 refl (λ n. absurd (omega (arith, n))) in
    let y = no_r (codes "y") 121 refl (λ n. absurd (omega (arith, n))) in
    each_in (λ p. letter p.name.text ≡ 114 → ⊥) ports (no_r (codes "ck") 99 refl (λ n. absurd (omega (arith, n))), (x, (x, (x, (x, (y, (y, (y, (y, tt)))))))))

stored_r : (size : ℕ) (r : Register) → In r (map (register size) (rising 0 4)) → letter r.name.text ≡ 114
stored_r size = each_in (λ r. letter r.name.text ≡ 114) (map (register size) (rising 0 4)) (refl, (refl, (refl, (refl, tt))))

pub can_be_vbe : (ws : List ℕ) (size : ℕ) → CanBeVbe (circuit_by ws size)
unfolding keyword_of
can_be_vbe ws size = record {
  name = (refl, refl);
  ports = ports_declared;
  registers = stored_declared size;
  apart = λ p r i j e. ports_no_r p i (ap letter e ∙ stored_r size r j);
  clock = λ name e. sym (ap bit_of_clock e);
} where
  bit_of_clock : Option Name → Option ℕ
  bit_of_clock None = None
  bit_of_clock (Some n) = n.bit
