-- Why a netlist gets no scan path along a path.
use Rattle.std.specs.Prelude.{ℕ, List, [], ◌∷◌, map, length}
use Rattle.vlsi_base.specs.Member.{In, AllDifferent}
use Rattle.cell_model.specs.Library.{Library}
use Rattle.cell_model.specs.Covering.{IsFirstMissing}
use Rattle.net_core.specs.Netlist.{Netlist}
use Rattle.loon_wiring.specs.Repeaters.{IsFirst}
use Rattle.scan_theory.specs.Path.{register_names, added, IsTaken, NoneTaken, needed, IsCovered, IsFirstTwice}
use Rattle.scan_checks.specs.declared.error.ScanError.{ScanError}
use Rattle.scan_checks.specs.declared.error.ScanError.TheVariants as error
use Rattle.scan_checks.specs.declared.registers.Register.{Register}

abbrev pub names_of : List Register → List (List ℕ)
names_of rs = map (λ r. r.name) rs

-- the path names each of these once, and nothing else
pub record NamesAll (names path : List (List ℕ)) : Type 0 where
  pub known : (name : List ℕ) → In name path → In name names
  pub once : AllDifferent path
  pub complete : (name : List ℕ) → In name names → In name path

-- the first name that stands in none of these
abbrev pub IsFirstBeside : List (List ℕ) → List (List ℕ) → List ℕ → Type 0
IsFirstBeside names path text = IsFirst (λ name. In name names → ⊥) path text

-- each name of the path is one of these
abbrev pub AreKnown : List (List ℕ) → List (List ℕ) → Type 0
AreKnown names path = (name : List ℕ) → In name path → In name names

-- the names of the path are known, and this is the first that stood before
pub record IsTwiceIn (names path : List (List ℕ)) (text : List ℕ) : Type 0 where
  pub known : AreKnown names path
  pub first : IsFirstTwice path text

-- the names of the path are known, and each stands once; this is the first of the registers that it lacks
pub record IsLeftOut (names path : List (List ℕ)) (text : List ℕ) : Type 0 where
  pub known : AreKnown names path
  pub once : AllDifferent path
  pub first : IsFirstBeside path names text

-- Where these are the names of registers, a path is refused, in this order: by the first name that is no register's, by the first
-- that stood before, by the first register that it lacks.
abbrev pub IsPathRefusal : List (List ℕ) → List (List ℕ) → ScanError → Type 0
IsPathRefusal names path error.Memory = Unit {0}
IsPathRefusal names path (error.Taken text) = ⊥
IsPathRefusal names path (error.NoCover k) = ⊥
IsPathRefusal names path (error.Unknown text) = IsFirstBeside names path text
IsPathRefusal names path (error.Twice text) = IsTwiceIn names path text
IsPathRefusal names path (error.Left text) = IsLeftOut names path text

-- nothing that is added is taken, and the cells are there, but the path is refused so
pub record IsRefusedPath (l : Library) (n : Netlist) (path : List (List ℕ)) (Fault : Type 0) : Type 0 where
  pub free : NoneTaken l n
  pub covered : IsCovered l
  pub fault : Fault

-- A scan path is refused, in this order: by the first name that is to be added and is taken, by the first kind of cell that the
-- library lacks, by the path.
abbrev pub IsScanRefusal : Library → Netlist → List (List ℕ) → ScanError → Type 0
IsScanRefusal l n path error.Memory = Unit {0}
IsScanRefusal l n path (error.Taken text) = IsFirst (IsTaken n) (added (length (register_names l n))) text
IsScanRefusal l n path (error.NoCover k) = NoneTaken l n × IsFirstMissing l.cells k needed
IsScanRefusal l n path (error.Unknown text) = IsRefusedPath l n path (IsFirstBeside (register_names l n) path text)
IsScanRefusal l n path (error.Twice text) = IsRefusedPath l n path (IsTwiceIn (register_names l n) path text)
IsScanRefusal l n path (error.Left text) = IsRefusedPath l n path (IsLeftOut (register_names l n) path text)

-- ---- parts of it

-- the path alone says that a name stood before
abbrev pub IsTwiceRefusal : List (List ℕ) → ScanError → Type 0
IsTwiceRefusal path error.Memory = Unit {0}
IsTwiceRefusal path (error.Taken text) = ⊥
IsTwiceRefusal path (error.NoCover k) = ⊥
IsTwiceRefusal path (error.Unknown text) = ⊥
IsTwiceRefusal path (error.Twice text) = IsFirstTwice path text
IsTwiceRefusal path (error.Left text) = ⊥

-- a library lacks a kind of cell
abbrev pub IsCoverRefusal : Library → ScanError → Type 0
IsCoverRefusal l error.Memory = Unit {0}
IsCoverRefusal l (error.Taken text) = ⊥
IsCoverRefusal l (error.NoCover k) = IsFirstMissing l.cells k needed
IsCoverRefusal l (error.Unknown text) = ⊥
IsCoverRefusal l (error.Twice text) = ⊥
IsCoverRefusal l (error.Left text) = ⊥

-- of these registers, those of the names of a path, in its order
pub data AreInOrder (registers : List Register) : List (List ℕ) → List Register → Type 0 where
  done : AreInOrder registers [] []
  next : {r : Register} {path : List (List ℕ)} {rs : List Register}
      → In r registers → AreInOrder registers path rs → AreInOrder registers (r.name ∷ path) (r ∷ rs)
