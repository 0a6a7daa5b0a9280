-- A library that is refused by what stands in its files isn't refused for a file.
use Rattle.std.proofs.Common.{◌≡◌, ℕ, Bool, true, false, List, ap, ◌∙◌, refl}
use Rattle.vlsi_base.specs.declared.fault.ReadError.{ReadError}
use Rattle.vlsi_base.specs.declared.fault.ReadError.TheVariants as reading
use Rattle.catal.specs.declared.error.CatalError.{CatalError}
use Rattle.catal.specs.declared.error.CatalError.TheVariants as catal
use Rattle.cell_model.specs.Cell.{Cell}
use Rattle.cell_lib.specs.declared.error.LibError.{LibError}
use Rattle.cell_lib.specs.declared.error.LibError.TheVariants as errors
use Rattle.catal.specs.Catal.{IsCatal, IsCatalRefusal}
use Rattle.cell_lib.specs.Cells.{Source, sources, IsFirstRefused, OrMemory}
use Rattle.cell_lib.specs.Causes.{behaviour_check, layout_check, told_as, IsLayoutRefusal, unread, placed}
use Rattle.cell_lib.specs.Load.{refused}
use Rattle.cell_lib.proofs.Telling.{or_memory}
use Rattle.cell_lib.specs.Library.{IsCell, IsUnsaid, behaviour, layout, IsCheckRefusal, fails, wide, IsCellRefusal, unsaid, unfit, IsRefusedLibrary, bad_list, bad_cell}

-- a file isn't there or can't be read
abbrev pub is_of_file : LibError → Bool
is_of_file errors.Memory = false
is_of_file (errors.Missing name) = true
is_of_file (errors.ReadFault name) = true
is_of_file (errors.Limit l) = false
is_of_file (errors.BadCatal line) = false
is_of_file (errors.BadCell cell cause) = false

told : (cell : List ℕ) (n : ℕ) (fault : ReadError) → is_of_file (told_as cell n fault) ≡ false
told cell n reading.Memory = refl
told cell n (reading.Input f) = refl
told cell n (reading.Limit l) = refl

listed : (fault : CatalError) → is_of_file (refused fault) ≡ false
listed catal.Memory = refl
listed (catal.BadLine line) = refl
listed (catal.Limit l) = refl

drawn : (cell ap_bytes : List ℕ) (e : LibError) → IsLayoutRefusal cell ap_bytes e → is_of_file e ≡ false
drawn cell ap_bytes e (unread fault r is) = ap is_of_file is ∙ told cell layout_check fault
drawn cell ap_bytes e (placed figure t some is) = ap is_of_file is

said : (source : Source) (e : LibError) → IsUnsaid source e → is_of_file e ≡ false
said source e (behaviour r) = ap is_of_file r.told ∙ told source.name behaviour_check r.fault
said source e (layout text t r) = drawn source.name source.ap e r

checked : (tracks : Bool) (c : Cell) (e : LibError) → IsCheckRefusal tracks c e → is_of_file e ≡ false
checked tracks c e (fails k f is) = ap is_of_file is
checked tracks c e (wide columns v is) = ap is_of_file is

celled : (tracks : Bool) (source : Source) (e : LibError) → IsCellRefusal tracks source e → is_of_file e ≡ false
celled tracks source e (unsaid r) = said source e r
celled tracks source e (unfit c s r) = checked tracks c e r

pub plain : (tracks : Bool) (list : List ℕ) (files : List (List ℕ)) (e : LibError) → IsRefusedLibrary tracks list files e → is_of_file e ≡ false
plain tracks list files e (bad_list fault r is) = ap is_of_file is ∙ listed fault
plain tracks list files e (bad_cell names uses first) = celled tracks first.source e first.refused

pub never_missing : (tracks : Bool) (list : List ℕ) (files : List (List ℕ)) (name : List ℕ) → IsRefusedLibrary tracks list files (errors.Missing name) → ⊥
never_missing tracks list files name h = let never : true ≡ false = plain tracks list files (errors.Missing name) h in absurd cc

pub never_unread : (tracks : Bool) (list : List ℕ) (files : List (List ℕ)) (name : List ℕ) → IsRefusedLibrary tracks list files (errors.ReadFault name) → ⊥
never_unread tracks list files name h = let never : true ≡ false = plain tracks list files (errors.ReadFault name) h in absurd cc

-- ---- from the refusals of the list and of the cells

pub list_so : (tracks : Bool) (list : List ℕ) (files : List (List ℕ)) (fault : CatalError) → IsCatalRefusal list fault
    → OrMemory (IsRefusedLibrary tracks list files) (refused fault)
list_so tracks list files catal.Memory h = tt
list_so tracks list files (catal.BadLine line) h = bad_list (catal.BadLine line) h refl
list_so tracks list files (catal.Limit l) h = bad_list (catal.Limit l) h refl

pub cells_so : (tracks : Bool) (list : List ℕ) (files names : List (List ℕ)) (e : LibError) → IsCatal list names
    → OrMemory (IsFirstRefused (IsCell tracks) (IsCellRefusal tracks) (sources names files)) e → OrMemory (IsRefusedLibrary tracks list files) e
cells_so tracks list files names e uses h =
    or_memory (IsFirstRefused (IsCell tracks) (IsCellRefusal tracks) (sources names files)) (IsRefusedLibrary tracks list files) e (λ x first. bad_cell names uses first) h
