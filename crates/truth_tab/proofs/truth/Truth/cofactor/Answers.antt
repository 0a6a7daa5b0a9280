use Rattle.std.proofs.Common.{◌≡◌, ◌+◌, ◌^◌, ◌<◌, ℕ, Bool, sym, ◌∙◌, ap, subst, arith}
use Rattle.truth_tab.specs.Table.{row_bit, with_bit}
use Rattle.truth_tab.proofs.Words.{with_bit_row}
use Rattle.truth_tab.proofs.Filling.{Filled, filled_set, filled_skip, filled_value}
use Rattle.truth_tab.proofs.truth.Truth.cofactor.Goals as goal
use Rattle.truth_tab.proofs.truth.Truth.cofactor.Goals.{then-at, else-at}

pub loop-row-preserved : goal.loop-row-preserved
loop-row-preserved g c =
    let f : ℕ → Bool = λ n. row_bit c.args.self.word (with_bit n c.args.k c.args.v) in
    let low : c.loop-row.row < 64 = let less = c.loop-row-test.true in let few = c.row_count-rows.ensures.few in omega (arith, less, few) in
    let value : c.at.result ≡ f c.loop-row.row = c.at.ensures ∙ ap (λ (n : ℕ). row_bit c.args.self.word n) c.changed.ensures.row in
    elim c.if-at.branch [
      | then-at w ↦ subst (λ (v : ℕ). Filled f v (c.loop-row.row + 1)) (sym w.word-is)
          (filled_set f c.loop-row.word c.loop-row.row low (sym value ∙ w.if-at.true) c.loop-row.invariant)
      | else-at w ↦ subst (λ (v : ℕ). Filled f v (c.loop-row.row + 1)) (sym w.word-is)
          (filled_skip f c.loop-row.word c.loop-row.row (sym value ∙ w.if-at.false) c.loop-row.invariant)
    ]

pub returns : goal.returns
returns g c =
    let f : ℕ → Bool = λ n. row_bit c.args.self.word (with_bit n c.args.k c.args.v) in
    let count = c.row_count-rows.ensures.count in
    let end : c.loop-row.row ≡ 2 ^ g.row.K = omega (arith, count) in
    λ w there h. filled_value f c.loop-row.word g.row.K (subst (λ (n : ℕ). Filled f c.loop-row.word n) end c.loop-row.invariant) w (omega arith)
    ∙ ap (λ (n : ℕ). row_bit c.args.self.word n) (with_bit_row w c.args.k c.args.v there (omega arith))
