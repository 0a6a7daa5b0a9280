-- What was improved is improved for nets with the same pins.
use Rattle.std.proofs.Common.{◌≡◌, ℕ, ◌-◌, ◌*◌, ◌%◌, cond, List, [], ◌∷◌, length, nat_le, refl, ap, ap₂, ◌∙◌, arith}
use Rattle.row_meaning.specs.Rows.{row_at, exchanged}
use Rattle.row_meaning.specs.Length.{Block, hp}
use Rattle.row_meaning.specs.Tried.{unless_raised, moved, tried_by, words_of}
use Rattle.row_meaning.proofs.Alike.{hp_alike}
use Rattle.row_descent.specs.Law.{ImprovedAlike}

module _ (long long' : List (List ℕ) → ℕ) (same : (rows : List (List ℕ)) → long rows ≡ long' rows) where
  unless_same : (rows others : List (List ℕ)) → unless_raised long rows others ≡ unless_raised long' rows others
  unfolding unless_raised
  unless_same rows others = ap₂ (λ (m n : ℕ). cond (nat_le m n) others rows) (same others) (same rows)

  moved_same : (u v : ℕ) (rows : List (List ℕ)) → moved long u v rows ≡ moved long' u v rows
  unfolding moved
  moved_same u v rows =
      ap (λ (xs : List (List ℕ)). cond (nat_le 2 (length (row_at rows (u % length rows)))) xs rows)
      (unless_same rows (exchanged rows (u % length rows) (v % (length (row_at rows (u % length rows)) - 1))))

  pub tried_same : (words : List ℕ) (rows : List (List ℕ)) → tried_by long words rows ≡ tried_by long' words rows
  unfolding tried_by
  tried_same [] rows = refl
  tried_same (u ∷ []) rows = refl
  tried_same (u ∷ v ∷ words) rows =
      tried_same words (moved long u v rows) ∙ ap (λ (xs : List (List ℕ)). tried_by long' words xs) (moved_same u v rows)

pub improved_alike : ImprovedAlike
improved_alike left widths nets others seed moves old new pins better =
    let b : Block = record { left = left; widths = widths; nets = nets } in
    let c : Block = record { left = left; widths = widths; nets = others } in
    let same : (rows : List (List ℕ)) → hp b rows ≡ hp c rows = λ rows. hp_alike left widths nets others rows pins in
    let words = words_of seed (2 * moves) in
    record {
      stable = record { least = λ r k. let a = better.stable.least r k in let e = same new in let f = same (exchanged new r k) in omega arith };
      lower =
          (let a = better.lower in
          let e = same new in
          let f = same (tried_by (hp b) words old) in
          let g = ap (hp c) (tried_same (hp b) (hp c) same words old) in
          omega arith);
      same = better.same;
      even = better.even;
      each = better.each;
    }
