-- What follows from the grammar of whole texts.
use Rattle.std.specs.Prelude.{◌≡◌, ◌⊎◌}
use Rattle.vlsi_base.specs.declared.fault.ReadError.{ReadError}
use Rattle.vhdl_token.specs.declared.token.Tokens.{Tokens}
use Rattle.vbe_text.specs.Source.{SourceTree}
use Rattle.vbe_text.specs.Vbe.{IsSource, RefusedAs}

-- A text is at most one source.
abbrev pub OneSource : Type 0
OneSource = (tokens : Tokens) (a b : SourceTree) → IsSource tokens a → IsSource tokens b → a ≡ b

-- A text that is a source has no refusal.
abbrev pub NeverBothSource : Type 0
NeverBothSource = (tokens : Tokens) (source : SourceTree) (e : ReadError) → IsSource tokens source → RefusedAs tokens e → ⊥

-- A text has at most one refusal.
abbrev pub OneRefusedSource : Type 0
OneRefusedSource = (tokens : Tokens) (d e : ReadError) → RefusedAs tokens d → RefusedAs tokens e → d ≡ e

-- Each text is a source or has a refusal.
abbrev pub EachSource : Type 0
EachSource = (tokens : Tokens) → ((source : SourceTree) × IsSource tokens source) ⊎ ((e : ReadError) × RefusedAs tokens e)
