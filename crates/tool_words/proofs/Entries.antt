-- What holds of each tool of a table.
use Rattle.std.proofs.Common.{◌≡◌, ℕ, Bool, true, false, cond, List, [], ◌∷◌, Option, None, Some, option_map, refl, sym, subst, ◌∙◌, ap}
use Rattle.std.specs.Cmp.Lexicographic.{bytes_decides}
use Rattle.tool_words.specs.Words.{is_word}
use Rattle.tool_words.specs.Table.{Entry}
use Rattle.tool_words.specs.Arguments.{Given}
use Rattle.tool_words.specs.Spelling.{Tool, spelled, tool, tool_named, command_by, command_in}

-- the commands of a tool are called by its word
abbrev pub Names : {A : Type 0} → (A → List ℕ) → Tool A → Type 0
Names {A} word_of t = (words : List (List ℕ)) (k : A) → t.command words ≡ Some k → t.entry.word ≡ word_of k

pub named : {A B : Type 0} (word_of : B → List ℕ) (e : Entry) (make : A → B) (asked : Given → Option A) → ((a : A) → e.word ≡ word_of (make a))
    → Names word_of (tool e make asked)
named {A} {B} word_of e make asked each words k h = by (spelled e asked words) h where
  by : (x : Option A) → option_map make x ≡ Some k → e.word ≡ word_of k
  by None h = absurd (cc h)
  by (Some a) h = let same : make a ≡ k = cc h in subst (λ (other : B). e.word ≡ word_of other) same (each a)

-- so it is with each tool of a table
abbrev pub AllName : {A : Type 0} → (A → List ℕ) → List (Tool A) → Type 0
AllName word_of [] = Unit {0}
AllName word_of (t ∷ tools) = Names word_of t × AllName word_of tools

-- the first word is that of the tool which is found
module _ {A : Type 0} (word_of : A → List ℕ) (word : List ℕ) (words : List (List ℕ)) (k : A) where
  by_tool : (t : Tool A) (rest : Option (Tool A)) → Names word_of t → (command_by rest words ≡ Some k → word ≡ word_of k) → (b : Bool) → is_word t.entry.word word ≡ b
      → command_by (cond b (Some t) rest) words ≡ Some k → word ≡ word_of k
  by_tool t rest name behind true is h = sym ((bytes_decides t.entry.word word).0 is) ∙ name words k h
  by_tool t rest name behind false is h = behind h

  by_tools : (tools : List (Tool A)) → AllName word_of tools → command_by (tool_named tools word) words ≡ Some k → word ≡ word_of k
  by_tools [] all h = absurd (cc h)
  by_tools (t ∷ tools) all h = by_tool t (tool_named tools word) all.0 (by_tools tools all.1) (is_word t.entry.word word) refl h

-- the first of the words that spell a command is the word of its tool
pub tool_first : {A : Type 0} (word_of : A → List ℕ) (tools : List (Tool A)) → AllName word_of tools → (words : List (List ℕ)) (k : A) → command_in tools words ≡ Some k
    → (rest : List (List ℕ)) × (words ≡ word_of k ∷ rest)
tool_first word_of tools all [] k h = absurd (cc h)
tool_first word_of tools all (word ∷ words) k h = (words, ap (λ (w : List ℕ). w ∷ words) (by_tools word_of word words k tools all h))
