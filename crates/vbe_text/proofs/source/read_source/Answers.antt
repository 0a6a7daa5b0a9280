use Rattle.std.proofs.Common.{◌∙◌, List, ap, subst}
use Rattle.vhdl_token.specs.declared.token.PlacedToken.{PlacedToken}
use Rattle.grammar_theory.specs.Outcome.{start}
use Rattle.vhdl_front.specs.Front.{Becomes}
use Rattle.vbe_text.specs.Source.{source_view}
use Rattle.vbe_text.proofs.Whole.{is_source, is_refused}
use Rattle.vbe_text.proofs.Short.{short_design}
use Rattle.vbe_text.proofs.source.read_source.Goals as goal

pub returns-in-Ok-clause-accepted : goal.returns-in-Ok-clause-accepted
returns-in-Ok-clause-accepted c =
    is_source c.args.tokens.now c.new-cursor.result c.whole.new.cursor (source_view c.in-Ok.design) (c.new-cursor.ensures ∙ ap start c.as_slice.ensures) c.in-Ok.ensures

pub returns-clause-refused : goal.returns-clause-refused
returns-clause-refused c =
    let Right : List PlacedToken → Type 0 = λ ts. Becomes c.args.tokens.now.last_line ts c.in-Err.stop c.stop_error.result in
    is_refused c.args.tokens.now c.new-cursor.result c.in-Err.stop c.stop_error.result (c.new-cursor.ensures ∙ ap start c.as_slice.ensures) c.in-Err.ensures (subst Right c.as_slice-in-Err.ensures c.stop_error.ensures)

pub returns-in-Ok-clause-short : goal.returns-in-Ok-clause-short
returns-in-Ok-clause-short c =
    short_design c.args.tokens.now c.in-Ok.design
    (is_source c.args.tokens.now c.new-cursor.result c.whole.new.cursor (source_view c.in-Ok.design) (c.new-cursor.ensures ∙ ap start c.as_slice.ensures) c.in-Ok.ensures)
