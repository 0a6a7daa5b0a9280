use Rattle.std.proofs.Common.{◌≡◌, map, sym, ap, ◌∙◌}
use Rattle.vbe_text.specs.Source.{statement_view}
use Rattle.vbe_free.specs.Filled.{filled_statement}
use Rattle.vbe_free.proofs.Values.{map_map}
use Rattle.vbe_free.proofs.filling.filled_source.Goals as goal

pub returns : goal.returns
returns c =
    let all : map statement_view c.new.result ≡ map (filled_statement c.args.bit) (map statement_view c.args.design.statements) =
    ap (map statement_view) c.new.ensures ∙ c.in_ok-statements.ensures ∙ sym (map_map (filled_statement c.args.bit) statement_view c.args.design.statements) in
    λ j. record { entity = c.args.design.entity; declarations = c.args.design.declarations; statements = all j }
