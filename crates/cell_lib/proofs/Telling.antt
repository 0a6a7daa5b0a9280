-- How refusals of a cell's files are told.
use Rattle.std.proofs.Common.{◌≡◌, ℕ, true, List, sym, ap, ◌∙◌, subst}
use Rattle.std.specs.List.{list_any}
use Rattle.vlsi_base.specs.declared.fault.ReadError.{ReadError}
use Rattle.vlsi_base.specs.declared.fault.ReadError.TheVariants as reading
use Rattle.sym_geom.specs.declared.item.Item.{Item}
use Rattle.ap_io.specs.declared.figure.Figure.{Figure}
use Rattle.ap_io.specs.ApText.{IsApText}
use Rattle.ap_io.specs.Refusal.{IsApRefusal}
use Rattle.cell_lib.specs.declared.error.LibError.{LibError}
use Rattle.cell_lib.specs.declared.error.LibError.TheVariants as errors
use Rattle.cell_lib.specs.Cells.{OrMemory}
use Rattle.cell_lib.specs.Causes.{layout_check, told_as, is_instance, IsLayoutRefusal, unread, placed}

pub or_memory : (P Q : LibError → Type 0) (e : LibError) → ((x : LibError) → P x → Q x) → OrMemory P e → OrMemory Q e
or_memory P Q errors.Memory f h = tt
or_memory P Q (errors.Missing n) f h = f (errors.Missing n) h
or_memory P Q (errors.ReadFault n) f h = f (errors.ReadFault n) h
or_memory P Q (errors.Limit l) f h = f (errors.Limit l) h
or_memory P Q (errors.BadCatal n) f h = f (errors.BadCatal n) h
or_memory P Q (errors.BadCell n cause) f h = f (errors.BadCell n cause) h

-- where only want of memory is told
only_memory : (Q : LibError → Type 0) (e : LibError) → OrMemory (λ t. t ≡ errors.Memory) e → OrMemory Q e
only_memory Q errors.Memory h = tt
only_memory Q (errors.Missing n) h = subst (λ (x : LibError). OrMemory Q x) (sym h) tt
only_memory Q (errors.ReadFault n) h = subst (λ (x : LibError). OrMemory Q x) (sym h) tt
only_memory Q (errors.Limit l) h = subst (λ (x : LibError). OrMemory Q x) (sym h) tt
only_memory Q (errors.BadCatal n) h = subst (λ (x : LibError). OrMemory Q x) (sym h) tt
only_memory Q (errors.BadCell n cause) h = subst (λ (x : LibError). OrMemory Q x) (sym h) tt

pub unread_so : (cell layout : List ℕ) (fault : ReadError) (e : LibError) → IsApRefusal layout fault → OrMemory (λ t. t ≡ told_as cell layout_check fault) e
    → OrMemory (IsLayoutRefusal cell layout) e
unread_so cell layout reading.Memory e r h = only_memory (IsLayoutRefusal cell layout) e h
unread_so cell layout (reading.Input f) e r h =
    or_memory (λ t. t ≡ told_as cell layout_check (reading.Input f)) (IsLayoutRefusal cell layout) e (λ x k. unread (reading.Input f) r k) h
unread_so cell layout (reading.Limit l) e r h =
    or_memory (λ t. t ≡ told_as cell layout_check (reading.Limit l)) (IsLayoutRefusal cell layout) e (λ x k. unread (reading.Limit l) r k) h

pub placed_so : (cell layout : List ℕ) (figure : Figure) (items : List Item) (e : LibError) → IsApText layout figure → items ≡ figure.items
    → list_any is_instance items ≡ true → OrMemory (λ t. t ≡ errors.BadCell cell layout_check) e → OrMemory (IsLayoutRefusal cell layout) e
placed_so cell layout figure items e text is some h =
    or_memory (λ t. t ≡ errors.BadCell cell layout_check) (IsLayoutRefusal cell layout) e
    (λ x k. placed figure text (ap (λ (l : List Item). list_any is_instance l) (sym is) ∙ some) k) h
