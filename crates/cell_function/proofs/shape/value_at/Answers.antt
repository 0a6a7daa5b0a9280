use Rattle.std.proofs.Common.{◌≡◌, rules}
use Rattle.vlsi_base.specs.declared.name.Name.{Name}
use Rattle.machine_core.proofs.Names.{same_name-itself, same_name-false}
use Rattle.machine_core.specs.Named.{is_same_name}
use Rattle.std.proofs.Common.{true, ap, sym, ◌∙◌}
use Rattle.cell_function.proofs.Values.{value_found, value_later}
use Rattle.cell_function.proofs.shape.value_at.Goals as goal

same_test : (a b : Name) → a ≡ b → is_same_name a b ≡ true
same_test a b h = ap (is_same_name a) (sym h) ∙ same_name-itself a

pub returns-then-is_same : goal.returns-then-is_same
returns-then-is_same c =
    value_found c.args.names.now c.args.bits.now c.args.name.now c.index-names-k.result c.loop-k.k c.loop-k-test.true c.requires c.index-names-k.is
    (same_test c.index-names-k.result c.args.name.now (search rules)) c.loop-k.invariant

pub loop-k-preserved : goal.loop-k-preserved
loop-k-preserved c =
    value_later c.args.names.now c.args.bits.now c.args.name.now c.index-names-k.result c.loop-k.k c.loop-k-test.true c.requires c.index-names-k.is
    (same_name-false c.index-names-k.result c.args.name.now (search rules)) c.loop-k.invariant
