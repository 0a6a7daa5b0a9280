-- Words that are variables.
use Rattle.std.proofs.Common.{◌≡◌, ◌≢◌, ℕ, ◌<◌, Bool, true, false, ◌&&◌, refl, sym, subst, ◌∙◌, arith, inl, inr}
use Prim.Native.Nat.{zero, suc}
use Rattle.std.proofs.lemmas.Bool.{cases_lt}
use Rattle.truth_tab.specs.Table.{row_bit}

abbrev pub same : Bool → Bool → Bool
same true b = b
same false true = false
same false false = true

are_same : (a b : Bool) → same a b ≡ true → a ≡ b
are_same true b h = sym h
are_same false true h = h
are_same false false h = refl

-- the word has the variable's value in the rows below this one
abbrev pub agrees : ℕ → ℕ → ℕ → Bool
agrees word k zero = true
agrees word k (suc n) = same (row_bit word n) (row_bit n k) && agrees word k n

both : (a b : Bool) → (a && b) ≡ true → (a ≡ true) × (b ≡ true)
both true b h = (refl, h)
both false b h = cc

-- the word has the variable's value in each row
abbrev pub Agrees : ℕ → ℕ → Type 0
Agrees word k = (n : ℕ) → n < 64 → row_bit word n ≡ row_bit n k

pub agreed : (word k rows : ℕ) → agrees word k rows ≡ true → (n : ℕ) → n < rows → row_bit word n ≡ row_bit n k
agreed word k zero h n low = absurd (omega arith)
agreed word k (suc m) h n low =
    let parts = both (same (row_bit word m) (row_bit m k)) (agrees word k m) h in
    elim (cases_lt n m) [
      | inl less ↦ agreed word k m parts.1 n less
      | inr not_less ↦ let here : m ≡ n = omega arith in
          subst (λ (j : ℕ). row_bit word j ≡ row_bit j k) here (are_same (row_bit word m) (row_bit m k) parts.0)
    ]

pub pattern_0 : Agrees 12297829382473034410 0
pattern_0 = agreed 12297829382473034410 0 64 refl

pub pattern_1 : Agrees 14757395258967641292 1
pattern_1 = agreed 14757395258967641292 1 64 refl

pub pattern_2 : Agrees 17361641481138401520 2
pattern_2 = agreed 17361641481138401520 2 64 refl

pub pattern_3 : Agrees 18374966859414961920 3
pattern_3 = agreed 18374966859414961920 3 64 refl

pub pattern_4 : Agrees 18446462603027742720 4
pattern_4 = agreed 18446462603027742720 4 64 refl

pub pattern_5 : Agrees 18446744069414584320 5
pattern_5 = agreed 18446744069414584320 5 64 refl
