use Rattle.std.proofs.Common.{◌≤◌, ◌<◌, ◌^◌, length, arith}
use Rattle.std.proofs.lemmas.Result.{IfOk-weaker}
use Rattle.source_checks.specs.declared.statement.DesignFile.{DesignFile}
use Rattle.source_checks.specs.Symbols.{symbols, all_names}
use Rattle.vbe_text.specs.Source.{source_view}
use Rattle.vbe_text.specs.Vbe.{IsSource}
use Rattle.vbe_text.proofs.Counted.{declared_few}
use Rattle.vbe_free.proofs.written.source_of.Goals as goal

pub returns-clause-few : goal.returns-clause-few
returns-clause-few c =
    IfOk-weaker c.read_source.result (λ (d : DesignFile). IsSource c.args.tokens.now (source_view d)) (λ (d : DesignFile). length (all_names (symbols d)) < 2 ^ 32)
    (λ d is. let few = declared_few c.args.tokens.now d is in omega (arith, few)) c.read_source.ensures.accepted
