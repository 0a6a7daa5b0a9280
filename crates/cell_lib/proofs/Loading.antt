-- From the steps of reading to a library's files.
use Rattle.std.proofs.Common.{◌≡◌, ◌<◌, ◌+◌, ℕ, List, [], ◌∷◌, ◌++◌, Option, length, take, get_or, add-one, refl, sym, ◌∙◌, ap, subst, inl, inr, arith}
use Rattle.std.proofs.Math.Seq.{take-suc}
use Rattle.std.proofs.lemmas.List.{append_assoc}
use Rattle.vlsi_shelf.specs.Files.{Files}
use Rattle.vlsi_shelf.specs.Seen.{ShelfSeen}
use Rattle.tool_drive.specs.declared.tool.Wanted.{Wanted}
use Rattle.tool_drive.specs.declared.read.Stop.{Stop}
use Rattle.tool_drive.specs.declared.read.Stop.TheVariants as stop
use Rattle.tool_drive.specs.Outside.{OnlyReads}
use Rattle.tool_drive.specs.Plan.{got, limited, Gathers}
use Rattle.tool_drive.specs.Stops.{IsListStop, IsPlanStop}
use Rattle.tool_drive.proofs.Stopping.{more_stop}
use Rattle.catal.specs.declared.error.CatalError.{CatalError}
use Rattle.catal.specs.declared.error.CatalError.TheVariants as catal_errors
use Rattle.catal.specs.Catal.{IsCatal, IsCatalRefusal}
use Rattle.catal.specs.Cells.{cells_in}
use Rattle.catal.proofs.Once.{one_list}
use Rattle.cell_lib.specs.declared.load.LibraryFiles.{LibraryFiles}
use Rattle.cell_lib.specs.Files.{vbe_name, ap_name, cell_files, library_plan}
use Rattle.cell_lib.specs.Load.{IsLoaded, IsLoadRefusal, stopped, refused}

-- ---- names of files

files_append : (dir : List ℕ) (a b : List (List ℕ)) → cell_files dir (a ++ b) ≡ cell_files dir a ++ cell_files dir b
files_append dir [] b = refl
files_append dir (x ∷ a) b = ap (λ (l : List Wanted). limited (vbe_name dir x) ∷ limited (ap_name dir x) ∷ l) (files_append dir a b)

pub files_more : (dir : List ℕ) (names : List (List ℕ)) (k : ℕ) (name other : List ℕ) (made one two : List Wanted) → k < length names → name ≡ get_or names k other
    → made ≡ cell_files dir (take k names) → one ≡ made ++ limited (vbe_name dir name) ∷ [] → two ≡ one ++ limited (ap_name dir name) ∷ []
    → two ≡ cell_files dir (take (k + 1) names)
files_more dir names k name other made one two within is had first second =
    let next : take (k + 1) names ≡ take k names ++ name ∷ [] =
    ap (λ (n : ℕ). take n names) (add-one k) ∙ take-suc names k other within ∙ ap (λ (x : List ℕ). take k names ++ x ∷ []) (sym is) in
    second ∙ ap (λ (l : List Wanted). l ++ limited (ap_name dir name) ∷ []) first ∙ append_assoc made (limited (vbe_name dir name) ∷ []) (limited (ap_name dir name) ∷ [])
    ∙ ap (λ (l : List Wanted). l ++ limited (vbe_name dir name) ∷ limited (ap_name dir name) ∷ []) had
    ∙ sym (ap (cell_files dir) next ∙ files_append dir (take k names) (name ∷ []))

-- ---- why files aren't read

pub stopped_so : (a b : ShelfSeen) (dir : List ℕ) (s : Stop) → IsPlanStop a b (library_plan dir) s → IsLoadRefusal a b dir (stopped s)
stopped_so a b dir stop.Memory h = tt
stopped_so a b dir (stop.Missing name) h = h
stopped_so a b dir (stop.ReadFault name) h = h
stopped_so a b dir (stop.Long most) h = inl (most, refl, h)

one_item : (read : List (List ℕ)) → length read ≡ 1 → read ≡ get_or read 0 [] ∷ []
one_item [] h = absurd (omega (arith, h))
one_item (x ∷ []) h = refl
one_item (x ∷ y ∷ rest) h = absurd (omega (arith, h))

list_is : (told : Option Files) (dir : List ℕ) (read : List (List ℕ)) (bytes : List ℕ) → length read ≡ 1 → bytes ≡ get_or read 0 []
    → Gathers told (library_plan dir).first (got read) → Gathers told (library_plan dir).first (got (bytes ∷ []))
list_is told dir read bytes one is h = subst (λ (l : List (List ℕ)). Gathers told (library_plan dir).first (got l)) (one_item read one ∙ ap (λ (b : List ℕ). b ∷ []) (sym is)) h

pub refused_so : (a b : ShelfSeen) (dir : List ℕ) (read : List (List ℕ)) (bytes : List ℕ) (e : CatalError) → length read ≡ 1 → bytes ≡ get_or read 0 []
    → Gathers a.files (library_plan dir).first (got read) → IsCatalRefusal bytes e → IsLoadRefusal a b dir (refused e)
refused_so a b dir read bytes catal_errors.Memory one is h r = tt
refused_so a b dir read bytes (catal_errors.BadLine n) one is h r = record { list = bytes; list_read = list_is a.files dir read bytes one is h; refused = r }
refused_so a b dir read bytes (catal_errors.Limit l) one is h r = inr (record { list = bytes; list_read = list_is a.files dir read bytes one is h; refused = r })

pub more_so : (a b c : ShelfSeen) (dir : List ℕ) (read : List (List ℕ)) (bytes : List ℕ) (names : List (List ℕ)) (s : Stop) → bytes ≡ get_or read 0 [] → OnlyReads a b
    → Gathers a.files (library_plan dir).first (got read) → IsCatal bytes names → IsListStop b c (cell_files dir names) s → IsLoadRefusal a c dir (stopped s)
more_so a b c dir read bytes names s is reads h u stop =
    let cells : cell_files dir names ≡ (library_plan dir).more read = ap (cell_files dir) (sym (one_list bytes names u) ∙ ap cells_in is) in
    stopped_so a c dir s (more_stop a b c (library_plan dir) read s reads h (subst (λ (l : List Wanted). IsListStop b c l s) cells stop))

pub loaded : (a b : ShelfSeen) (dir : List ℕ) (read : List (List ℕ)) (bytes : List ℕ) (files : LibraryFiles) → length read ≡ 1 → bytes ≡ get_or read 0 [] → OnlyReads a b
    → Gathers a.files (library_plan dir).first (got read) → IsCatal bytes files.names → Gathers b.files (cell_files dir files.names) (got files.files.items)
    → length files.files.items ≡ length (cell_files dir files.names) → IsLoaded a.files dir files
loaded a b dir read bytes files one is reads h u more count = record {
  list = bytes;
  list_read = list_is a.files dir read bytes one is h;
  uses = u;
  files_read = subst (λ (t : Option Files). Gathers t (cell_files dir files.names) (got files.files.items)) reads.files more;
  count = count;
}
