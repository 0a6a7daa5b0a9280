-- The reserved word of a text.
use Rattle.std.proofs.Common.{◌≡◌, List, ℕ, Some, None, refl, sym, ap, ◌∙◌}
use Rattle.vhdl_token.specs.declared.keyword.Keyword.{Keyword}
use Rattle.vhdl_token.specs.declared.keyword.Keyword.TheVariants as word
use Rattle.vhdl_token.specs.Keyword.{keyword_text, keyword_of}

-- each reserved word is found by its text
pub keyword_of-keyword_text : (k : Keyword) → keyword_of (keyword_text k) ≡ Some k
unfolding keyword_of
keyword_of-keyword_text word.After = refl
keyword_of-keyword_text word.And = refl
keyword_of-keyword_text word.Architecture = refl
keyword_of-keyword_text word.Assert = refl
keyword_of-keyword_text word.Begin = refl
keyword_of-keyword_text word.Bit = refl
keyword_of-keyword_text word.BitVector = refl
keyword_of-keyword_text word.Block = refl
keyword_of-keyword_text word.Bus = refl
keyword_of-keyword_text word.Case = refl
keyword_of-keyword_text word.Component = refl
keyword_of-keyword_text word.Constant = refl
keyword_of-keyword_text word.Downto = refl
keyword_of-keyword_text word.Else = refl
keyword_of-keyword_text word.Elsif = refl
keyword_of-keyword_text word.End = refl
keyword_of-keyword_text word.Entity = refl
keyword_of-keyword_text word.Generic = refl
keyword_of-keyword_text word.Guarded = refl
keyword_of-keyword_text word.If = refl
keyword_of-keyword_text word.In = refl
keyword_of-keyword_text word.Inout = refl
keyword_of-keyword_text word.Is = refl
keyword_of-keyword_text word.Map = refl
keyword_of-keyword_text word.MuxBit = refl
keyword_of-keyword_text word.MuxVector = refl
keyword_of-keyword_text word.Nand = refl
keyword_of-keyword_text word.Nor = refl
keyword_of-keyword_text word.Not = refl
keyword_of-keyword_text word.Of = refl
keyword_of-keyword_text word.Or = refl
keyword_of-keyword_text word.Others = refl
keyword_of-keyword_text word.Out = refl
keyword_of-keyword_text word.Port = refl
keyword_of-keyword_text word.Process = refl
keyword_of-keyword_text word.RegBit = refl
keyword_of-keyword_text word.RegBitVector = refl
keyword_of-keyword_text word.RegVector = refl
keyword_of-keyword_text word.Register = refl
keyword_of-keyword_text word.Report = refl
keyword_of-keyword_text word.Severity = refl
keyword_of-keyword_text word.Signal = refl
keyword_of-keyword_text word.Then = refl
keyword_of-keyword_text word.To = refl
keyword_of-keyword_text word.Type = refl
keyword_of-keyword_text word.When = refl
keyword_of-keyword_text word.WorBit = refl
keyword_of-keyword_text word.WorVector = refl
keyword_of-keyword_text word.Xnor = refl
keyword_of-keyword_text word.Xor = refl

-- a text at which none is found is none's
pub keyword_of_none : (w : List ℕ) → keyword_of w ≡ None → (k : Keyword) → keyword_text k ≡ w → ⊥
keyword_of_none w none k spells =
    let found : keyword_of w ≡ Some k = ap keyword_of (sym spells) ∙ keyword_of-keyword_text k in
    absurd cc
