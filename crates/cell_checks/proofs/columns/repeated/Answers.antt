use Rattle.std.proofs.Common.{◌≡◌, ℕ, List, Option, None, get_or, true, false, sym, ◌∙◌}
use Rattle.std.specs.Prelude.{All, Any}
use Rattle.cell_checks.specs.Columns.{AreOne}
use Rattle.cell_checks.proofs.Loops.{one_more_pair, read_itself}
use Rattle.cell_checks.proofs.columns.repeated.Goals as goal

none_all : (columns : List (Option ℕ)) (x : Option ℕ) → (Any (λ a. AreOne a x) columns → ⊥) → All (λ a. AreOne a x → ⊥) columns
none_all columns x none k d low share = none (k, get_or columns k d, low, sym (read_itself columns k d low), share)

pub loop-j-preserved : goal.loop-j-preserved
loop-j-preserved c =
    one_more_pair (λ a b. AreOne a b → ⊥) c.args.columns.now c.loop-j.j (get_or c.args.columns.now c.loop-j.j None) c.loop-j.invariant c.loop-j-test.true
    (read_itself c.args.columns.now c.loop-j.j None c.loop-j-test.true)
    (none_all _ _ (λ any. let never : true ≡ false = sym (c.is_among.ensures.1 any) ∙ c.if-is_among.false in cc never))
