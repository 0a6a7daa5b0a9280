-- The reserved words: their texts, and a number for each.
use Rattle.std.specs.Prelude.{ℕ, List, [], ◌∷◌, codes, Option, find}
use Rattle.std.specs.Str.{bytes_eq}
use Rattle.vhdl_token.specs.declared.keyword.Keyword.{Keyword}
use Rattle.vhdl_token.specs.declared.keyword.Keyword.TheVariants as word

abbrev pub keyword_text : Keyword → List ℕ
keyword_text word.After = codes "after"
keyword_text word.And = codes "and"
keyword_text word.Architecture = codes "architecture"
keyword_text word.Assert = codes "assert"
keyword_text word.Begin = codes "begin"
keyword_text word.Bit = codes "bit"
keyword_text word.BitVector = codes "bit_vector"
keyword_text word.Block = codes "block"
keyword_text word.Bus = codes "bus"
keyword_text word.Case = codes "case"
keyword_text word.Component = codes "component"
keyword_text word.Constant = codes "constant"
keyword_text word.Downto = codes "downto"
keyword_text word.Else = codes "else"
keyword_text word.Elsif = codes "elsif"
keyword_text word.End = codes "end"
keyword_text word.Entity = codes "entity"
keyword_text word.Generic = codes "generic"
keyword_text word.Guarded = codes "guarded"
keyword_text word.If = codes "if"
keyword_text word.In = codes "in"
keyword_text word.Inout = codes "inout"
keyword_text word.Is = codes "is"
keyword_text word.Map = codes "map"
keyword_text word.MuxBit = codes "mux_bit"
keyword_text word.MuxVector = codes "mux_vector"
keyword_text word.Nand = codes "nand"
keyword_text word.Nor = codes "nor"
keyword_text word.Not = codes "not"
keyword_text word.Of = codes "of"
keyword_text word.Or = codes "or"
keyword_text word.Others = codes "others"
keyword_text word.Out = codes "out"
keyword_text word.Port = codes "port"
keyword_text word.Process = codes "process"
keyword_text word.RegBit = codes "reg_bit"
keyword_text word.RegBitVector = codes "reg_bit_vector"
keyword_text word.RegVector = codes "reg_vector"
keyword_text word.Register = codes "register"
keyword_text word.Report = codes "report"
keyword_text word.Severity = codes "severity"
keyword_text word.Signal = codes "signal"
keyword_text word.Then = codes "then"
keyword_text word.To = codes "to"
keyword_text word.Type = codes "type"
keyword_text word.When = codes "when"
keyword_text word.WorBit = codes "wor_bit"
keyword_text word.WorVector = codes "wor_vector"
keyword_text word.Xnor = codes "xnor"
keyword_text word.Xor = codes "xor"

abbrev pub keyword_number : Keyword → ℕ
keyword_number word.After = 0
keyword_number word.And = 1
keyword_number word.Architecture = 2
keyword_number word.Assert = 3
keyword_number word.Begin = 4
keyword_number word.Bit = 5
keyword_number word.BitVector = 6
keyword_number word.Block = 7
keyword_number word.Bus = 8
keyword_number word.Case = 9
keyword_number word.Component = 10
keyword_number word.Constant = 11
keyword_number word.Downto = 12
keyword_number word.Else = 13
keyword_number word.Elsif = 14
keyword_number word.End = 15
keyword_number word.Entity = 16
keyword_number word.Generic = 17
keyword_number word.Guarded = 18
keyword_number word.If = 19
keyword_number word.In = 20
keyword_number word.Inout = 21
keyword_number word.Is = 22
keyword_number word.Map = 23
keyword_number word.MuxBit = 24
keyword_number word.MuxVector = 25
keyword_number word.Nand = 26
keyword_number word.Nor = 27
keyword_number word.Not = 28
keyword_number word.Of = 29
keyword_number word.Or = 30
keyword_number word.Others = 31
keyword_number word.Out = 32
keyword_number word.Port = 33
keyword_number word.Process = 34
keyword_number word.RegBit = 35
keyword_number word.RegBitVector = 36
keyword_number word.RegVector = 37
keyword_number word.Register = 38
keyword_number word.Report = 39
keyword_number word.Severity = 40
keyword_number word.Signal = 41
keyword_number word.Then = 42
keyword_number word.To = 43
keyword_number word.Type = 44
keyword_number word.When = 45
keyword_number word.WorBit = 46
keyword_number word.WorVector = 47
keyword_number word.Xnor = 48
keyword_number word.Xor = 49

-- all of them, in the order of their texts
abbrev pub keywords : List Keyword
keywords = word.After ∷ word.And ∷ word.Architecture ∷ word.Assert ∷ word.Begin ∷ word.Bit ∷ word.BitVector ∷ word.Block ∷ word.Bus ∷ word.Case ∷ word.Component ∷ word.Constant ∷ word.Downto ∷ word.Else ∷ word.Elsif ∷ word.End ∷ word.Entity ∷ word.Generic ∷ word.Guarded ∷ word.If ∷ word.In ∷ word.Inout ∷ word.Is ∷ word.Map ∷ word.MuxBit ∷ word.MuxVector ∷ word.Nand ∷ word.Nor ∷ word.Not ∷ word.Of ∷ word.Or ∷ word.Others ∷ word.Out ∷ word.Port ∷ word.Process ∷ word.RegBit ∷ word.RegBitVector ∷ word.RegVector ∷ word.Register ∷ word.Report ∷ word.Severity ∷ word.Signal ∷ word.Then ∷ word.To ∷ word.Type ∷ word.When ∷ word.WorBit ∷ word.WorVector ∷ word.Xnor ∷ word.Xor ∷ []

-- the first of some reserved words that has this text, in lower case
abbrev pub keyword_among : List ℕ → List Keyword → Option Keyword
keyword_among word ks = find (λ k. bytes_eq (keyword_text k) word) ks

-- the reserved word that has this text
unfoldable pub keyword_of : List ℕ → Option Keyword
keyword_of word = keyword_among word keywords
