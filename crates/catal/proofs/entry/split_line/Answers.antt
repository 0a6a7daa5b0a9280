use Rattle.std.proofs.Common.{◌≡◌, ◌∙◌, sym, true, false}
use Rattle.lexer_base.specs.Bytes.{is_blank, is_in_word}
use Rattle.catal.proofs.Splitting.{cut_at, is_split, identifier_of, blanks_of, word_of}
use Rattle.catal.proofs.entry.split_line.Goals as goal
use Rattle.catal.proofs.entry.split_line.Goals.{else-is_identifier-via-then-is_identifier+then-not-is_empty+else-is_word, else-is_identifier-via-then-is_identifier+else-not-is_empty, else-is_identifier-via-else-is_identifier}

pub returns-then-is_word-clause-some : goal.returns-then-is_word-clause-some
returns-then-is_word-clause-some c =
    is_split c.args.line.now c.split_at.result.0.now c.split_at.result.1.now c.split_at-2.result.0.now c.split_at-2.result.1.now
    (cut_at is_in_word _ _ _ c.word_length.result c.word_length.ensures.count c.split_at.ensures.front c.split_at.ensures.back)
    (cut_at is_blank _ _ _ c.blanks.result c.blanks.ensures.count c.split_at-2.ensures.front c.split_at-2.ensures.back)
    (sym c.is_identifier.ensures ∙ c.if-is_identifier.true)
    (sym c.is_empty.ensures ∙ c.if-not-is_empty.true)
    (sym c.is_word.ensures ∙ c.if-is_word.true)

pub returns-else-is_identifier-clause-none : goal.returns-else-is_identifier-clause-none
returns-else-is_identifier-clause-none c = λ none name word s.
    let first = cut_at is_in_word _ _ _ c.word_length.result c.word_length.ensures.count c.split_at.ensures.front c.split_at.ensures.back in
    let second = cut_at is_blank _ _ _ c.blanks.result c.blanks.ensures.count c.split_at-2.ensures.front c.split_at-2.ensures.back in
    let named = identifier_of _ _ _ _ _ first second name word s in
    let some = blanks_of _ _ _ _ _ first second name word s in
    let capital = word_of _ _ _ _ _ first second name word s in
    elim c.else-is_identifier.branch [
      | else-is_identifier-via-then-is_identifier+then-not-is_empty+else-is_word w ↦ (let e : true ≡ false = sym capital ∙ sym w.is_word.ensures ∙ w.if-is_word.false in absurd cc)
      | else-is_identifier-via-then-is_identifier+else-not-is_empty w ↦ (let e : false ≡ true = sym some ∙ sym w.is_empty.ensures ∙ w.if-not-is_empty.false in absurd cc)
      | else-is_identifier-via-else-is_identifier w ↦ (let e : true ≡ false = sym named ∙ sym c.is_identifier.ensures ∙ w.if-is_identifier.false in absurd cc)
    ]
