-- Of a text one answer is right.
use Rattle.std.proofs.Common.{◌≡◌, ◌⊎◌, ℕ, List, ◌∷◌, None, Some, inl, inr, arith, sym, ◌∙◌}
use Rattle.vlsi_base.specs.declared.fault.InputFault.{InputFault}
use Rattle.vlsi_base.specs.declared.fault.Limit.{Limit}
use Rattle.vlsi_base.specs.declared.fault.ReadError.{ReadError}
use Rattle.vlsi_base.specs.declared.fault.ReadError.TheVariants as errors
use Rattle.vhdl_lexer.specs.Listing.{tokens_in, refusal_in}
use Rattle.source_checks.specs.declared.statement.DesignFile.{DesignFile}
use Rattle.source_checks.specs.Checks.{IsCycle, HasNoRing, Passes, IsRefusedFor}
use Rattle.vbe_text.specs.Source.{source_view}
use Rattle.vbe_text.specs.Vbe.{RefusedAs}
use Rattle.vbe_text.proofs.Laws as text
use Rattle.vbe_io.specs.Text.{IsWritten, long, uncut, unwritten, faulty}
use Rattle.vbe_io.specs.Laws.{IsRingFault, NeverBoth, OneRefusal}
use Rattle.vbe_io.proofs.AlikeSources.{refused_alike}

-- ---- the checks of one text

cycle_is_ring : (design : DesignFile) (e : ReadError) → IsCycle design e → IsRingFault e
cycle_is_ring design e is = (is.line, is.first ∷ is.rest, is.is)

-- a ring is none where there is no ring
cycle_or_none : (design : DesignFile) (e : ReadError) → IsCycle design e → HasNoRing design → ⊥
cycle_or_none design e is none = none (is.first ∷ is.rest) is.ring

pub pass_or_fail : (design : DesignFile) (e : ReadError) → Passes design → IsRefusedFor design e → ⊥
pass_or_fail design errors.Memory passes is = is
pass_or_fail design (errors.Input f) passes (inl h) = let both : None ≡ Some (errors.Input f) = sym passes.no_fault ∙ h in absurd (cc)
pass_or_fail design (errors.Input f) passes (inr h) = cycle_or_none design (errors.Input f) h.1 passes.no_ring
pass_or_fail design (errors.Limit l) passes is = let few = passes.few_ports in let many = is.2 in omega arith

pub fault_or_limit : (design : DesignFile) (f : InputFault) (l : Limit) → IsRefusedFor design (errors.Input f) → IsRefusedFor design (errors.Limit l) → ⊥
fault_or_limit design f l (inl h) many = let both : Some (errors.Input f) ≡ None = sym h ∙ many.0 in absurd (cc)
fault_or_limit design f l (inr h) many = cycle_or_none design (errors.Input f) h.1 many.1

-- the same refusal, or two rings
abbrev SameOrRings : ReadError → ReadError → Type 0
SameOrRings d e = (d ≡ e) ⊎ (IsRingFault d × IsRingFault e)

one_fault : (design : DesignFile) (d e : ReadError) → IsRefusedFor design d → IsRefusedFor design e → SameOrRings d e
one_fault design errors.Memory e is it = absurd is
one_fault design (errors.Input f) errors.Memory is it = absurd it
one_fault design (errors.Limit l) errors.Memory is it = absurd it
one_fault design (errors.Input f) (errors.Input g) (inl h) (inl k) = inl (let both : Some (errors.Input f) ≡ Some (errors.Input g) = sym h ∙ k in cc)
one_fault design (errors.Input f) (errors.Input g) (inl h) (inr k) = let both : Some (errors.Input f) ≡ None = sym h ∙ k.0 in absurd (cc)
one_fault design (errors.Input f) (errors.Input g) (inr h) (inl k) = let both : Some (errors.Input g) ≡ None = sym k ∙ h.0 in absurd (cc)
one_fault design (errors.Input f) (errors.Input g) (inr h) (inr k) = inr (cycle_is_ring design (errors.Input f) h.1, cycle_is_ring design (errors.Input g) k.1)
one_fault design (errors.Input f) (errors.Limit l) is it = absurd (fault_or_limit design f l is it)
one_fault design (errors.Limit l) (errors.Input f) is it = absurd (fault_or_limit design f l it is)
one_fault design (errors.Limit l) (errors.Limit m) is it = inl (is.3 ∙ sym it.3)

-- ---- the stages before

-- two readings of one text are of one tree
pub written_once : (bytes : List ℕ) (a b : DesignFile) → IsWritten bytes a → IsWritten bytes b → source_view a ≡ source_view b
written_once bytes a b wa wb = text.one_source (tokens_in bytes) (source_view a) (source_view b) wa.source wb.source

pub cut_or_not : (bytes : List ℕ) (e : ReadError) → refusal_in bytes ≡ None → refusal_in bytes ≡ Some e → ⊥
cut_or_not bytes e none some = let both : None ≡ Some e = sym none ∙ some in absurd (cc)

-- ---- whole texts

pub written_or_not : (bytes : List ℕ) (design : DesignFile) (e : ReadError) → IsWritten bytes design → RefusedAs (tokens_in bytes) e → ⊥
written_or_not bytes design e written is = text.never_both (tokens_in bytes) (source_view design) e written.source is

pub never_both : NeverBoth
never_both bytes m e is (long many same) = let few = is.written.few in absurd (omega arith)
never_both bytes m e is (uncut few none) = cut_or_not bytes e is.written.cut none
never_both bytes m e is (unwritten few cut not) = written_or_not bytes is.design e is.written not
never_both bytes m e is (faulty design written refused) =
    pass_or_fail is.design e is.passes (refused_alike design is.design (written_once bytes design is.design written is.written) e refused)

pub one_refusal : OneRefusal
one_refusal bytes d e (long many same) (long more as_well) = inl (same ∙ sym as_well)
one_refusal bytes d e (long many same) (uncut few none) = absurd (omega arith)
one_refusal bytes d e (long many same) (unwritten few cut not) = absurd (omega arith)
one_refusal bytes d e (long many same) (faulty design written refused) = let few = written.few in absurd (omega arith)
one_refusal bytes d e (uncut few none) (long many same) = absurd (omega arith)
one_refusal bytes d e (uncut few none) (uncut less other) = inl (let both : Some d ≡ Some e = sym none ∙ other in cc)
one_refusal bytes d e (uncut few none) (unwritten less cut not) = absurd (cut_or_not bytes d cut none)
one_refusal bytes d e (uncut few none) (faulty design written refused) = absurd (cut_or_not bytes d written.cut none)
one_refusal bytes d e (unwritten few cut not) (long many same) = absurd (omega arith)
one_refusal bytes d e (unwritten few cut not) (uncut less none) = absurd (cut_or_not bytes e cut none)
one_refusal bytes d e (unwritten few cut not) (unwritten less cut' not') =
    inl (text.one_refusal (tokens_in bytes) d e not not')
one_refusal bytes d e (unwritten few cut not) (faulty design written refused) = absurd (written_or_not bytes design d written not)
one_refusal bytes d e (faulty design written refused) (long many same) = let few = written.few in absurd (omega arith)
one_refusal bytes d e (faulty design written refused) (uncut few none) = absurd (cut_or_not bytes e written.cut none)
one_refusal bytes d e (faulty design written refused) (unwritten few cut not) = absurd (written_or_not bytes design e written not)
one_refusal bytes d e (faulty design written refused) (faulty design' written' refused') =
    one_fault design d e refused (refused_alike design' design (written_once bytes design' design written' written) e refused')
