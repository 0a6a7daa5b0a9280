-- Reading files one by one, and what it comes to.
use Rattle.std.proofs.Common.{◌≡◌, ◌<◌, ◌+◌, ℕ, suc, List, [], ◌∷◌, ◌++◌, Option, None, Some, length, take, drop, get_or, add-one, refl, sym, ◌∙◌, ap, subst, arith}
use Rattle.std.proofs.Math.Seq.{take-suc, split_at}
use Rattle.std.specs.FinMap.{get}
use Rattle.vlsi_shelf.specs.Files.{Files}
use Rattle.vlsi_shelf.specs.Seen.{ShelfSeen}
use Rattle.tool_drive.specs.declared.read.Stop.{Stop}
use Rattle.tool_drive.specs.declared.read.Stop.TheVariants as stop
use Rattle.tool_drive.specs.declared.tool.Wanted.{Wanted}
use Rattle.tool_drive.specs.Outside.{OnlyReads}
use Rattle.tool_drive.specs.Plan.{Reading, got, lacking, long, go_on, held, gather, Comes, Gathers}
use Rattle.tool_drive.specs.Stops.{IsFileStop, IsListStop}

-- ---- lists of files

-- these stand before what is gathered
abbrev pub behind : List (List ℕ) → Reading (List (List ℕ)) → Reading (List (List ℕ))
behind read rest = go_on rest (λ more. got (read ++ more))

behind_one : (bytes : List ℕ) (read : List (List ℕ)) (r : Reading (List (List ℕ))) → go_on (behind read r) (λ more. got (bytes ∷ more)) ≡ behind (bytes ∷ read) r
behind_one bytes read (got more) = refl
behind_one bytes read (lacking name) = refl
behind_one bytes read (long most) = refl

-- one list of files behind another
pub gather_append : (files : Files) (a b : List Wanted) → gather files (a ++ b) ≡ go_on (gather files a) (λ read. behind read (gather files b))
gather_append files [] b = by (gather files b) where
  by : (r : Reading (List (List ℕ))) → r ≡ behind [] r
  by (got more) = refl
  by (lacking name) = refl
  by (long most) = refl
gather_append files (w ∷ a) b = by (held (get files w.name) w) (gather files a) (gather_append files a b) where
  by : (one : Reading (List ℕ)) (rest : Reading (List (List ℕ))) → gather files (a ++ b) ≡ go_on rest (λ read. behind read (gather files b))
      → go_on one (λ bytes. go_on (gather files (a ++ b)) (λ more. got (bytes ∷ more)))
      ≡ go_on (go_on one (λ bytes. go_on rest (λ more. got (bytes ∷ more)))) (λ read. behind read (gather files b))
  by (got bytes) (got read) e = ap (λ (r : Reading (List (List ℕ))). go_on r (λ more. got (bytes ∷ more))) e ∙ behind_one bytes read (gather files b)
  by (got bytes) (lacking name) e = ap (λ (r : Reading (List (List ℕ))). go_on r (λ more. got (bytes ∷ more))) e
  by (got bytes) (long most) e = ap (λ (r : Reading (List (List ℕ))). go_on r (λ more. got (bytes ∷ more))) e
  by (lacking name) rest e = refl
  by (long most) rest e = refl

-- what a list comes to, by the files that are read and the next one
at_next : (files : Files) (before : List Wanted) (w : Wanted) (rest : List Wanted) (read : List (List ℕ)) → gather files before ≡ got read
    → gather files (before ++ w ∷ rest) ≡ behind read (go_on (held (get files w.name) w) (λ bytes. go_on (gather files rest) (λ more. got (bytes ∷ more))))
at_next files before w rest read e = gather_append files before (w ∷ rest) ∙ ap (λ (r : Reading (List (List ℕ))). go_on r (λ x. behind x (gather files (w ∷ rest)))) e

-- one more file is read
pub gathers_more : (told : Option Files) (before : List Wanted) (w : Wanted) (read : List (List ℕ)) (bytes : List ℕ) → Gathers told before (got read) → Comes told w (got bytes)
    → Gathers told (before ++ w ∷ []) (got (read ++ bytes ∷ []))
gathers_more None before w read bytes g c = tt
gathers_more (Some files) before w read bytes g c =
    at_next files before w [] read g ∙ ap (λ (r : Reading (List ℕ)). behind read (go_on r (λ b. got (b ∷ [])))) c

gathers_lacking : (told : Option Files) (before : List Wanted) (w : Wanted) (rest : List Wanted) (read : List (List ℕ)) (name : List ℕ) → Gathers told before (got read)
    → Comes told w (lacking name) → Gathers told (before ++ w ∷ rest) (lacking name)
gathers_lacking None before w rest read name g c = tt
gathers_lacking (Some files) before w rest read name g c =
    at_next files before w rest read g ∙ ap (λ (r : Reading (List ℕ)). behind read (go_on r (λ b. go_on (gather files rest) (λ more. got (b ∷ more))))) c

gathers_long : (told : Option Files) (before : List Wanted) (w : Wanted) (rest : List Wanted) (read : List (List ℕ)) (most : ℕ) → Gathers told before (got read)
    → Comes told w (long most) → Gathers told (before ++ w ∷ rest) (long most)
gathers_long None before w rest read most g c = tt
gathers_long (Some files) before w rest read most g c =
    at_next files before w rest read g ∙ ap (λ (r : Reading (List ℕ)). behind read (go_on r (λ b. go_on (gather files rest) (λ more. got (b ∷ more))))) c

-- one more file of a list is read
pub list_more : (a b : ShelfSeen) (ws : List Wanted) (k : ℕ) (w other : Wanted) (read : List (List ℕ)) (bytes : List ℕ) → OnlyReads a b → k < length ws → w ≡ get_or ws k other
    → Gathers a.files (take k ws) (got read) → Comes b.files w (got bytes) → Gathers a.files (take (k + 1) ws) (got (read ++ bytes ∷ []))
list_more a b ws k w other read bytes reads within is had c =
    let next : take (k + 1) ws ≡ take k ws ++ w ∷ [] =
    ap (λ (n : ℕ). take n ws) (add-one k) ∙ take-suc ws k other within ∙ ap (λ (x : Wanted). take k ws ++ x ∷ []) (sym is) in
    subst (λ (l : List Wanted). Gathers a.files l (got (read ++ bytes ∷ []))) (sym next)
    (gathers_more a.files (take k ws) w read bytes had (subst (λ (t : Option Files). Comes t w (got bytes)) reads.files c))

-- from why one file isn't read, in the midst of a list
stop_at : (a b c : ShelfSeen) (ws before : List Wanted) (w : Wanted) (rest : List Wanted) (read : List (List ℕ)) (s : Stop) → OnlyReads a b → ws ≡ before ++ w ∷ rest
    → Gathers a.files before (got read) → IsFileStop b c w s → IsListStop a c ws s
stop_at a b c ws before w rest read stop.Memory reads is had h = tt
stop_at a b c ws before w rest read (stop.Missing name) reads is had h = (
  omega (arith, h.1, reads.counts.misses),
  record { before = before; file = w; behind = rest; read = read; wanted_is = is; name_is = h.0; had = had },
  subst (λ (l : List Wanted). Gathers a.files l (lacking name)) (sym is)
      (gathers_lacking a.files before w rest read name had (subst (λ (t : Option Files). Comes t w (lacking name)) reads.files h.2)),
)
stop_at a b c ws before w rest read (stop.ReadFault name) reads is had h = (
  omega (arith, h.1, reads.counts.read_faults),
  record { before = before; file = w; behind = rest; read = read; wanted_is = is; name_is = h.0; had = had },
)
stop_at a b c ws before w rest read (stop.Long most) reads is had h =
    subst (λ (l : List Wanted). Gathers a.files l (long most)) (sym is)
    (gathers_long a.files before w rest read most had (subst (λ (t : Option Files). Comes t w (long most)) reads.files h))

pub list_stop : (a b c : ShelfSeen) (ws : List Wanted) (k : ℕ) (w other : Wanted) (read : List (List ℕ)) (s : Stop) → OnlyReads a b → k < length ws → w ≡ get_or ws k other
    → Gathers a.files (take k ws) (got read) → IsFileStop b c w s → IsListStop a c ws s
list_stop a b c ws k w other read s reads within is had h =
    stop_at a b c ws (take k ws) w (drop (suc k) ws) read s reads
    (split_at ws k other within ∙ ap (λ (x : Wanted). take k ws ++ x ∷ drop (suc k) ws) (sym is)) had h
