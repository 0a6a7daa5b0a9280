-- Numbers within bounds.
use Rattle.std.proofs.Common.{◌≡◌, ◌≤◌, ℕ, true, List, length, Some, refl}
use Rattle.std.proofs.lemmas.Bool.{le-leb}
use Rattle.std.proofs.lemmas.List.Sums.{list_all-from_AllPass}
use Rattle.vlsi_base.specs.Number.{IsNumeral, is_digit, value_of}
use Rattle.tool_words.specs.Values.{is_numeral, number_within}

numeral : (text : List ℕ) → IsNumeral text → length text ≤ 10 → is_numeral text ≡ true
numeral text n short = rw (le-leb 1 (length text) n.least, le-leb (length text) 10 short, list_all-from_AllPass is_digit text n.digits) refl

pub within : (least most n : ℕ) (text : List ℕ) → IsNumeral text → length text ≤ 10 → n ≡ value_of text → least ≤ n → n ≤ most → Some n ≡ number_within least most text
within least most n text is short e low high = rw (numeral text is short, ← e, le-leb least n low, le-leb n most high) refl
