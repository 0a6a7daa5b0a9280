use Rattle.std.proofs.Common.{◌≤◌, ◌<◌, ◌^◌, length, arith}
use Rattle.std.proofs.lemmas.Result.{IfOk-weaker}
use Rattle.source_checks.specs.declared.statement.DesignFile.{DesignFile}
use Rattle.source_checks.specs.Symbols.{symbols, all_names}
use Rattle.vbe_text.specs.Source.{source_view}
use Rattle.vbe_text.specs.Vbe.{IsSource}
use Rattle.vbe_text.proofs.Counted.{declared_few}
use Rattle.vbe_io.proofs.Cells.{in_err, unwritten_other}
use Rattle.vbe_io.proofs.reader.written.Goals as goal

pub returns-clause-few : goal.returns-clause-few
returns-clause-few c =
    let tokens = c.in_ok-tokens.tokens in
    IfOk-weaker c.read_source.result (λ (d : DesignFile). IsSource tokens (source_view d)) (λ (d : DesignFile). length (all_names (symbols d)) < 2 ^ 32)
    (λ d is. let few = declared_few tokens d is in omega (arith, few)) c.read_source.ensures.accepted

pub returns-clause-other : goal.returns-clause-other
returns-clause-other c = in_err (unwritten_other c.in_ok-tokens.tokens) c.read_source.result c.read_source.ensures.refused
