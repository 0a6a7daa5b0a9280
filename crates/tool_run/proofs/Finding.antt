-- The tool of a table that a word finds: behind those of other words.
use Rattle.std.proofs.Common.{◌≡◌, ℕ, Bool, true, false, cond, List, [], ◌∷◌, ◌++◌, Option, None, Some, ap, ◌∙◌}
use Rattle.tool_words.specs.Words.{is_word}
use Rattle.tool_words.specs.Spelling.{Tool, tool_named, command_by}

-- these tools have other words
abbrev pub HaveOthers : {A : Type 0} → List ℕ → List (Tool A) → Type 0
HaveOthers word [] = Unit {0}
HaveOthers word (t ∷ tools) = (is_word t.entry.word word ≡ false) × HaveOthers word tools

pub behind : {A : Type 0} (word : List ℕ) (words : List (List ℕ)) (before : List (Tool A)) (t : Tool A) (rest : List (Tool A)) (x : Option A)
    → HaveOthers word before → is_word t.entry.word word ≡ true → t.command words ≡ x → command_by (tool_named (before ++ t ∷ rest) word) words ≡ x
behind word words [] t rest x other is h = ap (λ (b : Bool). command_by (cond b (Some t) (tool_named rest word)) words) is ∙ h
behind word words (o ∷ before) t rest x other is h =
    ap (λ (b : Bool). command_by (cond b (Some o) (tool_named (before ++ t ∷ rest) word)) words) other.0 ∙ behind word words before t rest x other.1 is h
