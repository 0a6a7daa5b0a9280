use Rattle.std.proofs.Common.{List, ℕ, ◌∙◌, ap}
use Rattle.clap.specs.Words.{Row, found_of, first_of}
use Rattle.clap.proofs.WalkLemmas.{first_value-rows}
use Rattle.tool_words.proofs.values.given.Goals as goal

pub returns : goal.returns
returns c =
    c.get_str.ensures ∙ first_value-rows (found_of c.values.inside.matches) c.args.name.now
    ∙ ap (λ (rows : List Row). first_of c.args.name.now rows) c.values.view_is
