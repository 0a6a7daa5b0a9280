use Rattle.std.proofs.Common.{◌≡◌, drop}
use Rattle.vhdl_token.specs.Keyword.{keyword_among}
use Rattle.vhdl_token.proofs.keyword.keyword_among.Given as goal

-- none of those before the index is it
abbrev pub invariant-loop-keyword : goal.invariant-loop-keyword
invariant-loop-keyword l =
    keyword_among l.word (drop l.keyword-index l.keywords) ≡ keyword_among l.word l.keywords
