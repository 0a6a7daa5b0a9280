-- From a cell that two files say, by its verdict, to a cell of a library or its refusal.
use Rattle.std.proofs.Common.{◌≡◌, ℕ, Bool, true, false, List, [], ◌∷◌, map, All, AllPairs, Result, Ok, Err, IfOk, IfErr, refl, sym, ◌∙◌, ap, subst, arith}
use Rattle.std.specs.Prelude.{◌≢◌, drop}
use Rattle.std.proofs.lemmas.List.Elements.{All-nil, All-cons}
use Rattle.std.proofs.lemmas.List.Kept.{AllPairs-cons}
use Rattle.vlsi_base.specs.Member.{In, AllDifferent}
use Rattle.vlsi_base.specs.declared.fault.LimitKind.TheVariants.{Width}
use Rattle.vbe_io.specs.declared.cell_text.CellText.{CellText}
use Rattle.vbe_io.specs.Cell.{IsCellText}
use Rattle.cell_model.specs.Cell.{Cell}
use Rattle.cell_model.specs.Library.{IsUsable}
use Rattle.cell_model.specs.Usable.{IsFormed}
use Rattle.cell_model.proofs.Members.{All-In, All-from, In-map}
use Rattle.cell_checks.specs.declared.verdict.Check.{Check}
use Rattle.cell_checks.specs.declared.verdict.Check.TheVariants as check
use Rattle.cell_checks.specs.declared.verdict.CellVerdict.{CellVerdict}
use Rattle.cell_checks.specs.declared.verdict.CellVerdict.TheVariants as verdict
use Rattle.cell_checks.specs.Verdict.{check_number, PassesCheck, IsVerdict}
use Rattle.cell_checks.specs.Arcs.{HasItsArcs, HaveTheirArcs}
use Rattle.cell_checks.specs.Checked.{library_of, IsChecked}
use Rattle.cell_lib.specs.declared.error.LibError.{LibError}
use Rattle.cell_lib.specs.declared.error.LibError.TheVariants as errors
use Rattle.cell_lib.specs.Cells.{Source, sources, AreCells, none, next, OrMemory}
use Rattle.cell_lib.specs.Causes.{IsLayoutRefusal}
use Rattle.cell_lib.specs.Library.{IsSaid, IsUnsaid, layout, IsCheckRefusal, fails, wide, IsCell, IsCellRefusal, unsaid, unfit}
use Rattle.cell_lib.proofs.Telling.{or_memory}
use Rattle.cell_lib.proofs.Forming.{formed}
use Rattle.cell_lib.proofs.Arcs.{has_arcs, cell_in}

-- ---- refusals

pub unsaid_layout : (s : Source) (text : CellText) (e : LibError) → IsCellText s.vbe text → OrMemory (IsLayoutRefusal s.name s.ap) e → OrMemory (IsUnsaid s) e
unsaid_layout s text e t h = or_memory (IsLayoutRefusal s.name s.ap) (IsUnsaid s) e (λ x k. layout text t k) h

pub fails_so : (tracks : Bool) (c : Cell) (v : CellVerdict) (k : Check) (n : ℕ) (e : LibError) → IsVerdict tracks c v → v ≡ verdict.Fails k → n ≡ check_number k
    → OrMemory (λ t. t ≡ errors.BadCell c.name n) e → OrMemory (IsCheckRefusal tracks c) e
fails_so tracks c v k n e h is same told =
    or_memory (λ t. t ≡ errors.BadCell c.name n) (IsCheckRefusal tracks c) e
    (λ x i. fails k (subst (λ (w : CellVerdict). IsVerdict tracks c w) is h) (i ∙ ap (λ (m : ℕ). errors.BadCell c.name m) same)) told

pub wide_so : (tracks : Bool) (c : Cell) (v : CellVerdict) (columns : ℕ) → IsVerdict tracks c v → v ≡ verdict.TooWide columns
    → IsCheckRefusal tracks c (errors.Limit (record { which = Width; reached = columns }))
wide_so tracks c v columns h is = wide columns (subst (λ (w : CellVerdict). IsVerdict tracks c w) is h) refl

pub unsaid_so : (tracks : Bool) (s : Source) (e : LibError) → OrMemory (IsUnsaid s) e → OrMemory (IsCellRefusal tracks s) e
unsaid_so tracks s e h = or_memory (IsUnsaid s) (IsCellRefusal tracks s) e (λ x k. unsaid k) h

pub unfit_so : (tracks : Bool) (s : Source) (c : Cell) (r : Result Cell LibError) → IsSaid s c → IfErr r (λ e. OrMemory (IsCheckRefusal tracks c) e)
    → IfErr r (λ e. OrMemory (IsCellRefusal tracks s) e)
unfit_so tracks s c (Ok x) said h = tt
unfit_so tracks s c (Err e) said h = or_memory (IsCheckRefusal tracks c) (IsCellRefusal tracks s) e (λ x k. unfit c said k) h

pub is_cell : (tracks : Bool) (s : Source) (c : Cell) (r : Result Cell LibError) → IsSaid s c → IfOk r (λ x. x ≡ c) → IfOk r (λ x. IsVerdict tracks c verdict.Passes)
    → IfOk r (λ x. IsCell tracks s x)
is_cell tracks s c (Ok x) said is passes = subst (λ (y : Cell). IsCell tracks s y) (sym is) (record { said = said; passes = passes })
is_cell tracks s c (Err e) said is passes = tt

-- ---- libraries

pub all_cells : (P : Cell → Type 0) (tracks : Bool) (ss : List Source) (cells : List Cell) → ((s : Source) (c : Cell) → IsCell tracks s c → P c)
    → AreCells (IsCell tracks) ss cells → All P cells
all_cells P tracks _ _ each none = All-nil P
all_cells P tracks _ _ each (next {source = s} {rest = ss} {cell = c} {cells = cs} h rest) = All-cons P c cs (each s c h) (all_cells P tracks ss cs each rest)

pub cell_names : (tracks : Bool) (ss : List Source) (cells : List Cell) → AreCells (IsCell tracks) ss cells → map (λ (c : Cell). c.name) cells ≡ map (λ (s : Source). s.name) ss
cell_names tracks _ _ none = refl
cell_names tracks _ _ (next {source = s} {rest = ss} {cell = c} {cells = cs} h rest) =
    ap (λ (n : List ℕ). n ∷ map (λ (x : Cell). x.name) cs) h.said.name ∙ ap (λ (l : List (List ℕ)). s.name ∷ l) (cell_names tracks ss cs rest)

pub source_names : (names files : List (List ℕ)) → map (λ (s : Source). s.name) (sources names files) ≡ names
source_names [] files = refl
source_names (n ∷ names) files = ap (λ (l : List (List ℕ)). n ∷ l) (source_names names (drop 2 files))

abbrev AreNamedApart : Cell → Cell → Type 0
AreNamedApart a b = a.name ≢ b.name

pub apart : (cells : List Cell) → AllDifferent (map (λ (c : Cell). c.name) cells) → AllPairs AreNamedApart cells
apart [] h = λ i j d lt within. absurd (omega arith)
apart (c ∷ cs) h =
    AllPairs-cons AreNamedApart c cs
    (All-from (AreNamedApart c) cs (λ x i e. h.0 (subst (λ (n : List ℕ). In n (map (λ (y : Cell). y.name) cs)) (sym e) (In-map (λ (y : Cell). y.name) x cs i))))
    (apart cs h.1)

pub have_arcs : (tracks : Bool) (ss : List Source) (cells : List Cell) → AreCells (IsCell tracks) ss cells → HaveTheirArcs (library_of cells)
have_arcs tracks ss cells are model c found =
    All-In (λ (x : Cell). IsUsable x → HasItsArcs x) cells (all_cells (λ (x : Cell). IsUsable x → HasItsArcs x) tracks ss cells (λ s x h. has_arcs s x h.said) are) c
    (cell_in cells model c found)

-- what passes with tracks passes without them
pub without : (tracks : Bool) (c : Cell) (k : Check) → PassesCheck tracks c k → PassesCheck false c k
without tracks c check.Connectors h = h
without tracks c check.Box h = h
without tracks c check.Rails h = h
without tracks c check.Access h = h
without tracks c check.PinsApart h = h
without tracks c check.WithinBox h = h
without tracks c check.RailGaps h = h
without tracks c check.Columns h = λ m is. absurd (let never : false ≡ true = is in cc)

pub library_checked : (tracks : Bool) (names files : List (List ℕ)) (cells : List Cell) → AllDifferent names → AreCells (IsCell tracks) (sources names files) cells
    → IsChecked false (library_of cells)
library_checked tracks names files cells different are = record {
  formed = all_cells IsFormed tracks (sources names files) cells (λ s c h. formed s c h.said) are;
  passes = all_cells (λ c. IsVerdict false c verdict.Passes) tracks (sources names files) cells (λ s c h. (λ k. without tracks c k (h.passes.0 k), h.passes.1)) are;
  names = apart cells (subst (λ (l : List (List ℕ)). AllDifferent l) (sym (cell_names tracks (sources names files) cells are ∙ source_names names files)) different);
  arcs = have_arcs tracks (sources names files) cells are;
}
