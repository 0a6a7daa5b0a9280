use Rattle.std.proofs.Common.{◌≡◌, inl, inr, [], ◌∷◌, ℕ, nat_eq, length, slice_get, ap, sym, subst, ◌∙◌, arith, length-append}
use Rattle.std.specs.HashMap.{get}
use Rattle.cell_match.specs.Matches.{IsTableOf}
use Rattle.cell_match.proofs.Filling.{got_end}
use Rattle.cell_match.proofs.table.Table.new.Goals as goal

pub loop-inputs-preserved : goal.loop-inputs-preserved
loop-inputs-preserved c =
    let is = c.in_ok-push.ensures.items in
    let before = c.loop-inputs.invariant.many in
    let more = ap (λ xs. length xs) is ∙ length-append c.loop-inputs.maps.items (c.in_ok-matches.field-0 ∷ []) in
    record {
      many = omega (arith, more, before);
      each = λ n m e. elim (got_end c.loop-inputs.maps.items c.in_ok-matches.field-0 n m (ap (λ xs. slice_get xs n) (sym is) ∙ e)) [
        | inl in_front ↦ c.loop-inputs.invariant.each n m in_front
        | inr at_end ↦
            let same : c.loop-inputs.inputs ≡ n = omega (arith, at_end.0, before) in
            subst (λ (k : ℕ). IsTableOf c.args.cells.now k (λ w. get nat_eq m w)) same
            (subst (λ t. IsTableOf c.args.cells.now c.loop-inputs.inputs (λ w. get nat_eq t w)) at_end.1 c.in_ok-matches.ensures)
      ];
    }
