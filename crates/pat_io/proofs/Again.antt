-- Digits that were spelled for bits give these bits.
use Rattle.std.proofs.Common.{◌≡◌, ℕ, zero, suc, ◌+◌, ◌-◌, ◌*◌, ◌/◌, ◌<◌, ◌≤◌, Bool, true, false, not, ◌&&◌, nat_eq, List, [], ◌∷◌, ◌++◌, length, take, drop, replicate, refl, sym, ap, ◌∙◌, append_assoc, arith, length-drop}
use Rattle.std.specs.List.{list_all}
use Rattle.std.proofs.lemmas.Bool.{eq-eqb}
use Rattle.std.proofs.lemmas.List.{take-append-drop, length-take-le, length-replicate, length-append}
use Rattle.std.proofs.Math.Seq.{take-append_seam, drop-append_seam}
use Rattle.vlsi_base.specs.declared.radix.Radix.{Radix}
use Rattle.vlsi_base.specs.declared.radix.Radix.TheVariants.{Binary, Octal, Hexadecimal}
use Rattle.vlsi_base.specs.Radix.{digit_width}
use Rattle.pat_io.specs.Spelling.{number_from, digit_of, digits_text, bits_text}
use Rattle.pat_io.specs.Digits.{column_width, number_bits, digit_value, digits_bits, unused}
use Rattle.pat_io.specs.ReadAgain.{DigitsReadAgain}

-- the bits that the first digit spells, behind zeros
abbrev padded : ℕ → List Bool → List Bool
padded n bits = replicate n false ++ bits

one_digit : (f : Radix) (fs : List Bool) → length fs ≤ digit_width f → number_bits (digit_width f) (digit_value (digit_of (number_from 0 fs))) ≡ padded (digit_width f - length fs) fs
one_digit Binary [] h = refl
one_digit Binary (true ∷ []) h = refl
one_digit Binary (false ∷ []) h = refl
one_digit Binary (b0 ∷ b1 ∷ bs) h = absurd (omega arith)
one_digit Octal [] h = refl
one_digit Octal (true ∷ []) h = refl
one_digit Octal (false ∷ []) h = refl
one_digit Octal (true ∷ true ∷ []) h = refl
one_digit Octal (true ∷ false ∷ []) h = refl
one_digit Octal (false ∷ true ∷ []) h = refl
one_digit Octal (false ∷ false ∷ []) h = refl
one_digit Octal (true ∷ true ∷ true ∷ []) h = refl
one_digit Octal (true ∷ true ∷ false ∷ []) h = refl
one_digit Octal (true ∷ false ∷ true ∷ []) h = refl
one_digit Octal (true ∷ false ∷ false ∷ []) h = refl
one_digit Octal (false ∷ true ∷ true ∷ []) h = refl
one_digit Octal (false ∷ true ∷ false ∷ []) h = refl
one_digit Octal (false ∷ false ∷ true ∷ []) h = refl
one_digit Octal (false ∷ false ∷ false ∷ []) h = refl
one_digit Octal (b0 ∷ b1 ∷ b2 ∷ b3 ∷ bs) h = absurd (omega arith)
one_digit Hexadecimal [] h = refl
one_digit Hexadecimal (true ∷ []) h = refl
one_digit Hexadecimal (false ∷ []) h = refl
one_digit Hexadecimal (true ∷ true ∷ []) h = refl
one_digit Hexadecimal (true ∷ false ∷ []) h = refl
one_digit Hexadecimal (false ∷ true ∷ []) h = refl
one_digit Hexadecimal (false ∷ false ∷ []) h = refl
one_digit Hexadecimal (true ∷ true ∷ true ∷ []) h = refl
one_digit Hexadecimal (true ∷ true ∷ false ∷ []) h = refl
one_digit Hexadecimal (true ∷ false ∷ true ∷ []) h = refl
one_digit Hexadecimal (true ∷ false ∷ false ∷ []) h = refl
one_digit Hexadecimal (false ∷ true ∷ true ∷ []) h = refl
one_digit Hexadecimal (false ∷ true ∷ false ∷ []) h = refl
one_digit Hexadecimal (false ∷ false ∷ true ∷ []) h = refl
one_digit Hexadecimal (false ∷ false ∷ false ∷ []) h = refl
one_digit Hexadecimal (true ∷ true ∷ true ∷ true ∷ []) h = refl
one_digit Hexadecimal (true ∷ true ∷ true ∷ false ∷ []) h = refl
one_digit Hexadecimal (true ∷ true ∷ false ∷ true ∷ []) h = refl
one_digit Hexadecimal (true ∷ true ∷ false ∷ false ∷ []) h = refl
one_digit Hexadecimal (true ∷ false ∷ true ∷ true ∷ []) h = refl
one_digit Hexadecimal (true ∷ false ∷ true ∷ false ∷ []) h = refl
one_digit Hexadecimal (true ∷ false ∷ false ∷ true ∷ []) h = refl
one_digit Hexadecimal (true ∷ false ∷ false ∷ false ∷ []) h = refl
one_digit Hexadecimal (false ∷ true ∷ true ∷ true ∷ []) h = refl
one_digit Hexadecimal (false ∷ true ∷ true ∷ false ∷ []) h = refl
one_digit Hexadecimal (false ∷ true ∷ false ∷ true ∷ []) h = refl
one_digit Hexadecimal (false ∷ true ∷ false ∷ false ∷ []) h = refl
one_digit Hexadecimal (false ∷ false ∷ true ∷ true ∷ []) h = refl
one_digit Hexadecimal (false ∷ false ∷ true ∷ false ∷ []) h = refl
one_digit Hexadecimal (false ∷ false ∷ false ∷ true ∷ []) h = refl
one_digit Hexadecimal (false ∷ false ∷ false ∷ false ∷ []) h = refl
one_digit Hexadecimal (b0 ∷ b1 ∷ b2 ∷ b3 ∷ b4 ∷ bs) h = absurd (omega arith)

-- all digits: the first has the bits in front of those of the others
abbrev Spelled : Radix → ℕ → List Bool → Type 0
Spelled f n bits = digits_bits f (digits_text (digit_width f) n bits) ≡ padded (digit_width f * n - length bits) bits

some_bits : (f : Radix) → 0 < digit_width f
some_bits Binary = omega arith
some_bits Octal = omega arith
some_bits Hexadecimal = omega arith

no_padding : (n : ℕ) (bits : List Bool) → n ≡ 0 → padded n bits ≡ bits
no_padding n bits e = ap (λ m. padded m bits) e

times_more : (k n : ℕ) → k * suc n ≡ k + k * n
times_more k n = omega arith

spelled : (f : Radix) (n : ℕ) (bits : List Bool) → length bits ≤ digit_width f * n → digit_width f * n < length bits + digit_width f → Spelled f n bits
spelled f zero [] most least = sym (no_padding (digit_width f * 0 - 0) [] (omega arith))
spelled f zero (b ∷ bits) most least = absurd (omega arith)
spelled f (suc n) bits most least =
    let k = digit_width f in
    let m = times_more k n in
    let some = some_bits f in
    let front = length bits - k * n in
    let fs = take front bits in
    let rest = drop front bits in
    let in_front : length fs ≡ front = length-take-le front bits (omega (arith, m)) in
    let behind : length rest ≡ k * n = length-drop front bits ∙ omega (arith, m) in
    let first = one_digit f fs (omega (arith, in_front, m)) in
    let others = spelled f n rest (omega (arith, behind)) (omega (arith, behind, some)) in
    let whole : digits_bits f (digits_text k n rest) ≡ rest = others ∙ no_padding (k * n - length rest) rest (omega (arith, behind)) in
    let pad : k - length fs ≡ k * suc n - length bits = omega (arith, in_front, m) in
    ap (λ (x : List Bool). x ++ digits_bits f (digits_text k n rest)) first
    ∙ ap (λ (x : List Bool). padded (k - length fs) fs ++ x) whole
    ∙ append_assoc (replicate (k - length fs) false) fs rest
    ∙ ap (λ (x : List Bool). padded (k - length fs) x) (take-append-drop front bits)
    ∙ ap (λ i. padded i bits) pad

how_many : (k n : ℕ) (bits : List Bool) → length (digits_text k n bits) ≡ n
how_many k zero bits = refl
how_many k (suc n) bits = ap suc (how_many k n (drop (length bits - k * n) bits))

-- how many digits there are
record Counted (k n count : ℕ) : Type 0 where
  pub most : n ≤ k * count
  pub least : k * count < n + k

counted : (f : Radix) (n : ℕ) → Counted (digit_width f) n ((n + (digit_width f - 1)) / digit_width f)
counted Binary n = record { most = omega arith; least = omega arith }
counted Octal n = record { most = omega arith; least = omega arith }
counted Hexadecimal n = record { most = omega arith; least = omega arith }

zeros : (n : ℕ) → list_all not (replicate n false) ≡ true
zeros zero = refl
zeros (suc n) = zeros n

both : (a b : Bool) → a ≡ true → b ≡ true → (a && b) ≡ true
both a b h g = rw (h, g) refl

pub digits_read_again : DigitsReadAgain
digits_read_again c bits width =
    let k = digit_width c.format in
    let n = (length bits + (k - 1)) / k in
    let digits = bits_text c.format bits in
    let count = counted c.format (length bits) in
    let spelling : digits_bits c.format digits ≡ padded (k * n - length bits) bits = spelled c.format n bits count.most count.least in
    let pad = k * n - length bits in
    let size : length (digits_bits c.format digits) ≡ pad + length bits = ap length spelling ∙ length-append (replicate pad false) bits ∙ ap (λ i. i + length bits) (length-replicate pad false) in
    let over : unused c digits ≡ length (replicate pad false) = ap (λ i. i - column_width c.range) size ∙ ap (λ i. pad + length bits - i) (sym width) ∙ rest pad (length bits) ∙ sym (length-replicate pad false) in
    let fitting : nat_eq (length digits) ((column_width c.range + (k - 1)) / k) ≡ true = eq-eqb (length digits) ((column_width c.range + (k - 1)) / k) (how_many k n bits ∙ ap (λ i. (i + (k - 1)) / k) width) in
    let first : take (unused c digits) (digits_bits c.format digits) ≡ replicate pad false =
    ap (λ i. take i (digits_bits c.format digits)) over ∙ ap (take (length (replicate pad false))) spelling ∙ take-append_seam (replicate pad false) bits in
    let last : drop (unused c digits) (digits_bits c.format digits) ≡ bits =
    ap (λ i. drop i (digits_bits c.format digits)) over ∙ ap (drop (length (replicate pad false))) spelling ∙ drop-append_seam (replicate pad false) bits in
    (both (nat_eq (length digits) ((column_width c.range + (k - 1)) / k)) (list_all not (take (unused c digits) (digits_bits c.format digits))) fitting (ap (list_all not) first ∙ zeros pad), last) where
      rest : (n m : ℕ) → n + m - m ≡ n
      rest n m = omega arith
