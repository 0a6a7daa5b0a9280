-- The text of patterns is a pattern file, and these are its patterns.
use Rattle.std.proofs.Common.{◌≡◌, ℕ, ◌≤◌, false, List, [], ◌∷◌, ◌++◌, None, length, refl, sym, ap, ◌∙◌, append-nil, arith, codes}
use Rattle.vhdl_token.specs.Keyword.{keyword_of}
use Rattle.vhdl_token.specs.declared.keyword.Keyword.TheVariants as word
use Rattle.vhdl_token.specs.declared.token.PlacedToken.{PlacedToken}
use Rattle.vhdl_token.specs.declared.token.Token.TheVariants as token
use Rattle.vhdl_token.specs.declared.token.Sign.TheVariants as sign
use Rattle.lexer_base.specs.declared.piece.Piece.TheVariants as piece
use Rattle.lexer_base.specs.Listing.{pieces_within, pieces_from}
use Rattle.pat_lexer.specs.Lexical.{word_at, piece_at}
use Rattle.pat_lexer.specs.Listing.{tokens_in, refusal_in}
use Rattle.grammar_theory.specs.declared.form.Form.TheVariants as form
use Rattle.grammar_theory.specs.Tokens.{code_of}
use Rattle.grammar_theory.specs.Answers.{tokens_of}
use Rattle.pat_meaning.specs.declared.patterns.Patterns.{Patterns}
use Rattle.pat_meaning.specs.Columns.{FitsColumns}
use Rattle.pat_text.specs.Patterns.{file_behind, file}
use Rattle.std.specs.List.{All}
use Rattle.vlsi_base.specs.declared.limits.TheConstants.{MOST_SOURCE_BYTES}
use Rattle.pat_io.specs.Spelling.{together, item_end, columns_text, begin_text, patterns_text, text_of}
use Rattle.pat_io.specs.PatternText.{IsWritten}
use Rattle.pat_io.proofs.Written.{written_means_itself}
use Rattle.pat_print.specs.WrittenAgain.{CanBeSpelled, WrittenIsReadAgain}
use Rattle.pat_print.proofs.Places.{Place, at, tokens_at, refusal_at, takes, line_end, line_behind}
use Rattle.pat_print.proofs.Sentences.{start, calm_run, Reads, read_nothing, read_then, read_before, read_from}
use Rattle.pat_print.proofs.Words.{read_plain, read_sign}
use Rattle.pat_print.proofs.Columns.{together_onto, columns_from, lines_behind, read_columns, semicolon_piece}
use Rattle.pat_print.proofs.Timed.{patterns_from, read_patterns}
use Rattle.pat_print.proofs.Lines.{placed, without_fault, same_meaning}

begin_piece : (rest : List ℕ) → piece_at false (codes "begin" ++ 10 ∷ rest) ≡ piece.Token (token.Keyword word.Begin) 5
unfolding piece_at word_at keyword_of
begin_piece rest = refl

end_piece : (rest : List ℕ) → piece_at false (codes "end" ++ 59 ∷ rest) ≡ piece.Token (token.Keyword word.End) 3
unfolding piece_at word_at keyword_of
end_piece rest = refl

-- where nothing is left
abbrev last_place : Patterns → Place
last_place p = at false (line_behind (lines_behind (line_behind (lines_behind 1 p.columns)) p.patterns)) []

read_file : (p : Patterns) → CanBeSpelled p → All (λ q. FitsColumns p.columns q.values) p.patterns → Reads file (placed p) (at false 1 (text_of p)) (last_place p)
unfolding file file_behind text_of code_of
read_file p spelled fit =
    let cs = columns_from 1 p.columns in
    let last : List ℕ = codes "end" ++ 59 ∷ 10 ∷ [] in
    let patterns = patterns_text p.columns p.patterns ++ last in
    let l = lines_behind 1 p.columns in
    let l' = line_behind l in
    let l'' = lines_behind l' p.patterns in
    let texts = columns_text p.columns ∷ begin_text ∷ patterns_text p.columns p.patterns ∷ (codes "end" ++ item_end) ∷ [] in
    let begins : PlacedToken = record { token = token.Keyword word.Begin; line = l } in
    let ends : PlacedToken = record { token = token.Keyword word.End; line = l'' } in
    read_from false 1 (sym (append-nil (together texts)) ∙ together_onto texts [])
    (read_before
    (read_then cs (placed p) (read_columns p.columns 1 (codes "begin" ++ 10 ∷ patterns) spelled.names spelled.ends)
    (read_then begins (placed p)
    (read_before (read_plain (form.Keyword word.Begin) begins (at false l (codes "begin" ++ 10 ∷ patterns)) (at false l (10 ∷ patterns)) (takes false false l (codes "begin") (10 ∷ patterns) (token.Keyword word.Begin) (omega arith) (begin_piece patterns) refl) refl) (line_end false l patterns))
    (read_then (patterns_from l' p.columns p.patterns) (placed p) (read_patterns p.columns p.patterns 1 l' last fit spelled.labels spelled.numbers)
    (read_then ends (placed p)
    (read_plain (form.Keyword word.End) ends (at false l'' last) (at false l'' (59 ∷ 10 ∷ [])) (takes false false l'' (codes "end") (59 ∷ 10 ∷ []) (token.Keyword word.End) (omega arith) (end_piece (10 ∷ [])) refl) refl)
    (read_then (record { token = token.Sign sign.Semicolon; line = l'' }) (placed p) (read_sign false false l'' 59 (10 ∷ []) sign.Semicolon (semicolon_piece (10 ∷ [])) refl)
    (read_nothing (placed p) (at false l'' (10 ∷ []))))))))
    (line_end false l'' []))

no_tokens : (line : ℕ) → tokens_at (at false line []) ≡ []
unfolding pieces_from pieces_within
no_tokens line = refl

no_refusal : (line : ℕ) → refusal_at (at false line []) ≡ None
unfolding pieces_from pieces_within
no_refusal line = refl

written_text : (p : Patterns) → CanBeSpelled p → All (λ q. FitsColumns p.columns q.values) p.patterns → length (text_of p) ≤ MOST_SOURCE_BYTES → IsWritten (text_of p) (placed p)
unfolding tokens_in refusal_in
written_text p spelled fit few =
    let r = read_file p spelled fit in
    let line = (last_place p).line in
    record {
      few = few;
      cut = r.refusal ∙ no_refusal line;
      file = record {
        items = r.items;
        all = r.tokens ∙ ap (λ (ts : List PlacedToken). tokens_of r.items ++ ts) (no_tokens line) ∙ append-nil (tokens_of r.items);
        sentence = r.sentence;
        state = start;
        fitting = calm_run r.items r.calm;
      };
    }

pub written_is_read_again : WrittenIsReadAgain
written_is_read_again ports p for free spelled rise few =
    let means = written_means_itself ports p 1 for free rise in
    record {
      parsed = placed p;
      written = written_text p spelled for.values few;
      faultless = without_fault ports p means.0;
      is = sym (same_meaning p ∙ means.1);
    }
