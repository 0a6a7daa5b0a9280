use Rattle.std.proofs.Common.{◌≡◌, ◌∙◌, sym, ap, refl, true, false, None}
use Rattle.std.specs.Option.{is_some}
use Rattle.vhdl_token.specs.Keyword.{keyword_of}
use Rattle.catal.specs.Line.{lower}
use Rattle.catal.proofs.Splitting.{one_spelling}
use Rattle.catal.proofs.entry.read_line.Goals as goal

pub returns-in_default-clause-none : goal.returns-in_default-clause-none
returns-in_default-clause-none c = λ none name word e. c.in_default.ensures.none refl name word e.spelled

pub returns-then-is_some-clause-none : goal.returns-then-is_some-clause-none
returns-then-is_some-clause-none c = λ none name word e.
    let parts = c.in-Some.parts in
    let same = one_spelling c.args.line.now name parts.name.now word parts.word.now e.spelled c.in-Some.ensures.some in
    let lowered : c.as_bytes.result.now ≡ lower parts.name.now = c.as_bytes.ensures ∙ c.in_ok-name.ensures in
    let word_is : c.from_word.result ≡ None = c.from_word.ensures.first ∙ ap keyword_of (lowered ∙ ap lower (sym same.0)) ∙ e.unreserved in
    let no : true ≡ false = sym c.if-is_some.true ∙ c.is_some.ensures ∙ ap is_some word_is in
    absurd cc
