-- What follows from the grammar of whole texts.
use Rattle.std.specs.Prelude.{◌≡◌, ◌⊎◌}
use Rattle.vlsi_base.specs.declared.fault.ReadError.{ReadError}
use Rattle.vhdl_token.specs.declared.token.Tokens.{Tokens}
use Rattle.vst_text.specs.declared.file.StructuralFile.{StructuralFile}
use Rattle.vst_text.specs.Vst.{IsStructure, RefusedAs}

-- A text is at most one structure.
abbrev pub OneStructure : Type 0
OneStructure = (tokens : Tokens) (a b : StructuralFile) → IsStructure tokens a → IsStructure tokens b → a ≡ b

-- A text that is a structure has no refusal.
abbrev pub NeverBothStructure : Type 0
NeverBothStructure = (tokens : Tokens) (file : StructuralFile) (e : ReadError) → IsStructure tokens file → RefusedAs tokens e → ⊥

-- A text has at most one refusal.
abbrev pub OneRefusedStructure : Type 0
OneRefusedStructure = (tokens : Tokens) (d e : ReadError) → RefusedAs tokens d → RefusedAs tokens e → d ≡ e

-- Each text is a structure or has a refusal.
abbrev pub EachStructure : Type 0
EachStructure = (tokens : Tokens) → ((file : StructuralFile) × IsStructure tokens file) ⊎ ((e : ReadError) × RefusedAs tokens e)
