-- The numbers of a line, one more.
use Rattle.std.proofs.Common.{◌≡◌, ℕ, ◌+◌, ◌<◌, List, length, get_or, inl, inr, sym, subst, arith}
use Rattle.std.proofs.Math.ListN.{set}
use Rattle.std.proofs.lemmas.Bool.{cases_eq}
use Rattle.std.proofs.lemmas.List.{get_or-set_other}
use Rattle.std.proofs.lemmas.Grind.{get_or-set_at}
use Rattle.s2r_cif.specs.declared.table.TheConstants.{MOST_GROW}
use Rattle.real_table.specs.Fields.{IsNumberIn, fields_of, at}

pub numbers_next : (line grow field : List ℕ) (place n : ℕ) → place < length grow
    → ((k : ℕ) → k < place → IsNumberIn 0 MOST_GROW (at (fields_of line) (k + 1)) (get_or grow k 0))
    → field ≡ at (fields_of line) (place + 1) → IsNumberIn 0 MOST_GROW field n
    → (k : ℕ) → k < place + 1 → IsNumberIn 0 MOST_GROW (at (fields_of line) (k + 1)) (get_or (set grow place n) k 0)
numbers_next line grow field place n low before is own k below = elim (cases_eq k place) [
  | inl e ↦
      let here : IsNumberIn 0 MOST_GROW (at (fields_of line) (place + 1)) n = subst (λ (t : List ℕ). IsNumberIn 0 MOST_GROW t n) is own in
      let read : get_or (set grow place n) k 0 ≡ n = get_or-set_at grow place k n 0 e low in
      subst (λ (m : ℕ). IsNumberIn 0 MOST_GROW (at (fields_of line) (k + 1)) m) (sym read)
      (subst (λ (j : ℕ). IsNumberIn 0 MOST_GROW (at (fields_of line) (j + 1)) n) (sym e) here)
  | inr other ↦
      let read : get_or (set grow place n) k 0 ≡ get_or grow k 0 = get_or-set_other grow place k n 0 other in
      subst (λ (m : ℕ). IsNumberIn 0 MOST_GROW (at (fields_of line) (k + 1)) m) (sym read) (before k (omega (arith, below, other)))
]
