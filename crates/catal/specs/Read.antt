-- What was read of a line.
use Rattle.std.specs.Prelude.{◌≡◌, ℕ, List, codes}
use Rattle.std.specs.Str.{bytes_eq}
use Rattle.catal.specs.declared.entry.Entry.{Entry}
use Rattle.catal.specs.Line.{lower, IsEntry}

-- the line gives a word to this cell
pub record IsRead (line : List ℕ) (e : Entry) : Type 0 where
  pub name : List ℕ
  pub word : List ℕ
  pub entry : IsEntry line name word
  pub name_is : e.name ≡ lower name
  pub used_is : e.used ≡ bytes_eq word (codes "C")
