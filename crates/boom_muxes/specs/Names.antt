-- A name for new signals.
use Rattle.std.specs.Prelude.{◌≡◌, ℕ, ◌<◌, ◌^◌, List, ◌++◌, map, Some, codes}
use Rattle.std.specs.Fmt.{decimal}
use Rattle.vlsi_base.specs.declared.name.Name.{Name}
use Rattle.vlsi_base.specs.Member.{In}
use Rattle.vlsi_base.specs.Range.{rising}

-- the text is an n and a number of 32 bits, and none of the names has it
pub record IsFreshText (names : List Name) (text : List ℕ) : Type 0 where
  pub number : ℕ
  pub few : number < 2 ^ 32
  pub is : text ≡ codes "n" ++ decimal number
  pub fresh : (name : Name) → In name names → name.text ≡ text → ⊥

-- the texts of names
abbrev pub texts_of : List Name → List (List ℕ)
texts_of names = map (λ n. n.text) names

-- bits of one name
abbrev pub new_names : List ℕ → ℕ → List Name
new_names text count = map (λ k. record { text = text; bit = Some k }) (rising 0 count)
