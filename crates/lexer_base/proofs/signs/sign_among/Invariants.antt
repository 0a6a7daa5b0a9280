use Rattle.std.proofs.Common.{◌≡◌, drop}
use Rattle.lexer_base.specs.Lexical.{sign_among}
use Rattle.lexer_base.proofs.signs.sign_among.Given as goal

-- none of those before the index stands there
abbrev pub invariant-loop-sign : goal.invariant-loop-sign
invariant-loop-sign l = sign_among l.text (drop l.sign-index l.signs) ≡ sign_among l.text l.signs
