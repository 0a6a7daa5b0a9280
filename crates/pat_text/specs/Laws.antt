-- What follows from the grammar of pattern files.
use Rattle.std.specs.Prelude.{◌≡◌, ◌⊎◌}
use Rattle.vlsi_base.specs.declared.fault.ReadError.{ReadError}
use Rattle.vhdl_token.specs.declared.token.Tokens.{Tokens}
use Rattle.pat_text.specs.declared.parsed.PatternFile.{PatternFile}
use Rattle.pat_text.specs.Answers.{IsFile, IsSyntaxFault}

-- A text is at most one pattern file.
abbrev pub OneFile : Type 0
OneFile = (text : Tokens) (a b : PatternFile) → IsFile text.items a → IsFile text.items b → a ≡ b

-- A text that is a pattern file has no refusal.
abbrev pub NeverBothFile : Type 0
NeverBothFile = (text : Tokens) (parsed : PatternFile) (e : ReadError) → IsFile text.items parsed → IsSyntaxFault text e → ⊥

-- A text has at most one refusal.
abbrev pub OneSyntaxFault : Type 0
OneSyntaxFault = (text : Tokens) (d e : ReadError) → IsSyntaxFault text d → IsSyntaxFault text e → d ≡ e

-- Each text is a pattern file or has a refusal.
abbrev pub EachFile : Type 0
EachFile = (text : Tokens) → ((parsed : PatternFile) × IsFile text.items parsed) ⊎ ((e : ReadError) × IsSyntaxFault text e)
