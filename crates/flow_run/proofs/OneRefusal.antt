-- A cell's two files, and those of a library, have at most one refusal.
use Rattle.std.proofs.Common.{◌≡◌, ◌⊎◌, inl, inr, ℕ, ◌*◌, ◌<◌, ◌≤◌, pos, Bool, true, false, List, [], ◌∷◌, ◌++◌, sym, ap, ◌∙◌, subst, arith}
use Rattle.std.proofs.lemmas.Bool.{cases_lt}
use Rattle.vlsi_base.specs.Member.{In, here, there}
use Rattle.vlsi_base.specs.declared.fault.LimitKind.TheVariants.{Width}
use Rattle.vlsi_base.specs.declared.fault.ReadError.{ReadError}
use Rattle.vlsi_base.specs.declared.fault.ReadError.TheVariants as reading
use Rattle.sym_geom.specs.declared.grid.TheConstants.{PITCH}
use Rattle.source_checks.specs.declared.statement.DesignFile.{DesignFile}
use Rattle.source_checks.specs.declared.symbol_table.Symbol.{Symbol}
use Rattle.source_checks.specs.Symbols.{symbols}
use Rattle.ap_io.proofs.Once as layouts
use Rattle.vbe_io.specs.Text.{IsWritten, Refused, faulty}
use Rattle.vbe_io.specs.Cell.{pin_bits, is_left_out, pins_error, IsOpaque, CellRefused, other, wide as broad}
use Rattle.vbe_io.specs.Laws.{IsRingFault}
use Rattle.vbe_io.proofs.AlikeSources.{symbols_alike}
use Rattle.vbe_io.proofs.Once as texts
use Rattle.vbe_io.proofs.CellLaws.{cell_never_both}
use Rattle.catal.proofs.Once as list
use Rattle.cell_model.specs.Cell.{Cell}
use Rattle.cell_checks.specs.Checks.{HasColumns}
use Rattle.cell_checks.specs.declared.verdict.Check.{Check}
use Rattle.cell_checks.specs.Verdict.{check_number, FailsFirst}
use Rattle.cell_lib.specs.declared.error.LibError.{LibError}
use Rattle.cell_lib.specs.declared.error.LibError.TheVariants as errors
use Rattle.cell_lib.specs.Load.{refused}
use Rattle.cell_lib.specs.Cells.{Source, sources, AreCells, IsFirstRefused}
use Rattle.cell_lib.specs.Causes.{behaviour_check, layout_check, told_as, IsLayoutRefusal, unread, placed}
use Rattle.cell_lib.specs.Library.{IsUnsaid, behaviour, layout, IsCheckRefusal, fails, wide, IsCell, IsCellRefusal, unsaid, unfit, bad_list, bad_cell}
use Rattle.flow_run.specs.Same.{TextsAreSame}
use Rattle.flow_run.specs.OneRefusal.{CellHasOneRefusal, LibraryHasOneRefusal}
use Rattle.flow_run.proofs.Checks.{LookAlike, alike_other_way, check_moves}
use Rattle.flow_run.proofs.Cells.{look_alike}
use Rattle.flow_run.proofs.Refusals.{said_never_unsaid, cell_never_refused, cell_of, names_once}

-- ---- behaviours

-- what is left out of a text is a refusal of it as a machine
left_refused : (bytes : List ℕ) (design : DesignFile) → IsWritten bytes design → (left : IsOpaque design) → Refused bytes left.0
left_refused bytes design written (reading.Memory, is, left) = let never : false ≡ true = left in absurd cc
left_refused bytes design written (reading.Input f, is, left) = faulty design written (inl is)
left_refused bytes design written (reading.Limit l, is, left) = let never : false ≡ true = left in absurd cc

left_or_not : (bytes : List ℕ) (design : DesignFile) (e : ReadError) → IsWritten bytes design → IsOpaque design → Refused bytes e → is_left_out e ≡ false → ⊥
left_or_not bytes design e written left r apart = by (texts.one_refusal bytes e left.0 r (left_refused bytes design written left)) where
  by : (e ≡ left.0) ⊎ (IsRingFault e × IsRingFault left.0) → ⊥
  by (inl same) = let never : false ≡ true = sym apart ∙ ap is_left_out same ∙ left.2 in absurd cc
  by (inr rings) = let never : true ≡ false = sym left.2 ∙ ap is_left_out rings.1.2 in absurd cc

-- two rings are told alike
same_told : (cell : List ℕ) (n : ℕ) (d e : ReadError) → (d ≡ e) ⊎ (IsRingFault d × IsRingFault e) → told_as cell n d ≡ told_as cell n e
same_told cell n d e (inl same) = ap (told_as cell n) same
same_told cell n d e (inr rings) = ap (told_as cell n) rings.0.2 ∙ sym (ap (told_as cell n) rings.1.2)

behaviours : (cell bytes : List ℕ) (n : ℕ) (d e : ReadError) → CellRefused bytes d → CellRefused bytes e → told_as cell n d ≡ told_as cell n e
behaviours cell bytes n d e (other r apart) (other q away) = same_told cell n d e (texts.one_refusal bytes d e r q)
behaviours cell bytes n d e (other r apart) (broad design written left many) = absurd (left_or_not bytes design d written left r apart)
behaviours cell bytes n d e (broad design written left many) (other r apart) = absurd (left_or_not bytes design e written left r apart)
behaviours cell bytes n d e (broad a written left many) (broad b so_is out more) =
    let same : symbols a ≡ symbols b = symbols_alike a b (texts.written_once bytes a b written so_is) in
    ap (told_as cell n) (many.1 ∙ ap (λ (known : List Symbol). pins_error (pin_bits known)) same ∙ sym more.1)

-- ---- layouts

layout_refusals : (cell bytes : List ℕ) (d e : LibError) → IsLayoutRefusal cell bytes d → IsLayoutRefusal cell bytes e → d ≡ e
layout_refusals cell bytes d e (unread f r told) (unread g q also) = told ∙ ap (told_as cell layout_check) (layouts.one_refusal bytes f g r q) ∙ sym also
layout_refusals cell bytes d e (unread f r told) (placed g text some also) = absurd (layouts.never_both bytes g f text r)
layout_refusals cell bytes d e (placed g text some told) (unread f r also) = absurd (layouts.never_both bytes g f text r)
layout_refusals cell bytes d e (placed f text some told) (placed g other_text any also) = told ∙ sym also

both_unsaid : (source : Source) (d e : LibError) → IsUnsaid source d → IsUnsaid source e → d ≡ e
both_unsaid source d e (behaviour r) (behaviour q) = r.told ∙ behaviours source.name source.vbe behaviour_check r.fault q.fault r.refused q.refused ∙ sym q.told
both_unsaid source d e (behaviour r) (layout text is q) = absurd (cell_never_both source.vbe text r.fault is r.refused)
both_unsaid source d e (layout text is r) (behaviour q) = absurd (cell_never_both source.vbe text q.fault is q.refused)
both_unsaid source d e (layout text is r) (layout other_text so_is q) = layout_refusals source.name source.ap d e r q

-- ---- checks

one_check : (tracks : Bool) (c d : Cell) (k j : Check) → LookAlike c d → FailsFirst tracks c k → FailsFirst tracks d j → check_number k ≡ check_number j
one_check tracks c d k j a p q = by (cases_lt (check_number k) (check_number j)) (cases_lt (check_number j) (check_number k)) where
  by : (check_number k < check_number j) ⊎ (check_number j ≤ check_number k) → (check_number j < check_number k) ⊎ (check_number k ≤ check_number j) → check_number k ≡ check_number j
  by (inl l) more = absurd (p.fails (check_moves tracks d c (alike_other_way c d a) k (q.earlier k l)))
  by (inr m) (inl l) = absurd (q.fails (check_moves tracks c d a j (p.earlier j l)))
  by (inr m) (inr l) = omega (arith, m, l)

one_width : (c d : Cell) (m n : ℕ) → LookAlike c d → HasColumns c m → HasColumns d n → m ≡ n
one_width c d m n a h k =
    let e : pos (PITCH * m) ≡ pos (PITCH * n) = sym h.right ∙ ap (λ r. r.x2) a.bounds ∙ k.right in
    let f : PITCH * m ≡ PITCH * n = cc in
    omega (arith, f)

both_unfit : (tracks : Bool) (c d : Cell) (e f : LibError) → LookAlike c d → c.name ≡ d.name → IsCheckRefusal tracks c e → IsCheckRefusal tracks d f → e ≡ f
both_unfit tracks c d e f a names (fails k p is) (fails j q also) =
    is ∙ ap (λ (n : ℕ). errors.BadCell c.name n) (one_check tracks c d k j a p q) ∙ ap (λ (name : List ℕ). errors.BadCell name (check_number j)) names ∙ sym also
both_unfit tracks c d e f a names (fails k p is) (wide n v also) = absurd (p.fails (check_moves tracks d c (alike_other_way c d a) k (v.0 k)))
both_unfit tracks c d e f a names (wide n v is) (fails k p also) = absurd (p.fails (check_moves tracks c d a k (v.0 k)))
both_unfit tracks c d e f a names (wide m v is) (wide n w also) =
    is ∙ ap (λ (k : ℕ). errors.Limit (record { which = Width; reached = k })) (one_width c d m n a v.1.box w.1.box) ∙ sym also

pub cell_has_one_refusal : TextsAreSame → CellHasOneRefusal
cell_has_one_refusal same tracks source d e (unsaid r) (unsaid q) = both_unsaid source d e r q
cell_has_one_refusal same tracks source d e (unsaid r) (unfit c said q) = absurd (said_never_unsaid source c d said r)
cell_has_one_refusal same tracks source d e (unfit c said r) (unsaid q) = absurd (said_never_unsaid source c e said q)
cell_has_one_refusal same tracks source d e (unfit b said r) (unfit c so_is q) =
    both_unfit tracks b c d e (look_alike same source b c said so_is) (said.name ∙ sym so_is.name) r q

-- ---- libraries

-- of two places in one list they are one, or one lies before the other
data Places (xs ys : List Source) (s t : Source) : Type 0 where
  one : s ≡ t → Places xs ys s t
  earlier : In t xs → Places xs ys s t
  later : In s ys → Places xs ys s t

places : (xs ys : List Source) (s t : Source) (us vs : List Source) → xs ++ s ∷ us ≡ ys ++ t ∷ vs → Places xs ys s t
places [] [] s t us vs e = one cc
places [] (y ∷ ys) s t us vs e = let same : y ≡ s = cc in later (subst (λ (x : Source). In x (y ∷ ys)) same here)
places (x ∷ xs) [] s t us vs e = let same : x ≡ t = cc in earlier (subst (λ (y : Source). In y (x ∷ xs)) same here)
places (x ∷ xs) (y ∷ ys) s t us vs e = by (places xs ys s t us vs cc) where
  by : Places xs ys s t → Places (x ∷ xs) (y ∷ ys) s t
  by (one same) = one same
  by (earlier i) = earlier (there i)
  by (later i) = later (there i)

-- a cell of those before isn't refused
made_or_not : TextsAreSame → (tracks : Bool) (ss : List Source) (cells : List Cell) (s : Source) (e : LibError) → AreCells (IsCell tracks) ss cells → In s ss
    → IsCellRefusal tracks s e → ⊥
made_or_not same tracks ss cells s e made i r = let c = cell_of tracks ss cells s made i in cell_never_refused same tracks s c.0 e c.1 r

one_first : TextsAreSame → (tracks : Bool) (ss : List Source) (d e : LibError) → IsFirstRefused (IsCell tracks) (IsCellRefusal tracks) ss d
    → IsFirstRefused (IsCell tracks) (IsCellRefusal tracks) ss e → d ≡ e
one_first same tracks ss d e p q = by (places p.before q.before p.source q.source p.behind q.behind (sym p.all_are ∙ q.all_are)) where
  by : Places p.before q.before p.source q.source → d ≡ e
  by (one s) = cell_has_one_refusal same tracks q.source d e (subst (λ (x : Source). IsCellRefusal tracks x d) s p.refused) q.refused
  by (earlier i) = absurd (made_or_not same tracks p.before p.cells q.source e p.made i q.refused)
  by (later i) = absurd (made_or_not same tracks q.before q.cells p.source d q.made i p.refused)

pub library_has_one_refusal : TextsAreSame → LibraryHasOneRefusal
library_has_one_refusal same tracks catal files d e (bad_list f r told) (bad_list g q also) = told ∙ ap refused (list.one_refusal catal f g r q) ∙ sym also
library_has_one_refusal same tracks catal files d e (bad_list f r told) (bad_cell names uses q) = absurd (list.never_both catal names f uses r)
library_has_one_refusal same tracks catal files d e (bad_cell names uses r) (bad_list f q also) = absurd (list.never_both catal names f uses q)
library_has_one_refusal same tracks catal files d e (bad_cell names uses r) (bad_cell others so_uses q) =
    one_first same tracks (sources others files) d e
    (subst (λ (ns : List (List ℕ)). IsFirstRefused (IsCell tracks) (IsCellRefusal tracks) (sources ns files) d) (names_once catal names others uses so_uses) r) q
