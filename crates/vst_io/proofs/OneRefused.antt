-- A text has at most one refusal; only of several rings any may be named.
use Rattle.std.proofs.Common.{◌≡◌, ◌⊎◌, inl, inr, ℕ, ◌+◌, ◌<◌, ◌≤◌, List, length, None, Some, sym, ap, subst, ◌∙◌, arith}
use Rattle.vlsi_base.specs.declared.limits.TheConstants.{MOST_NETLIST_BYTES}
use Rattle.vlsi_base.specs.declared.name.Name.{Name}
use Rattle.vlsi_base.specs.declared.fault.FaultKind.{FaultKind}
use Rattle.vlsi_base.specs.declared.fault.LimitKind.TheVariants as limit
use Rattle.vlsi_base.specs.declared.fault.ReadError.{ReadError}
use Rattle.vlsi_base.specs.declared.fault.ReadError.TheVariants as errors
use Rattle.vhdl_lexer.specs.Listing.{tokens_in, refusal_in}
use Rattle.source_checks.specs.Checks.{most_ports, fault}
use Rattle.net_core.specs.declared.pins.ModelPins.{ModelPins}
use Rattle.net_core.specs.Netlist.{Netlist}
use Rattle.net_core.specs.Checks.{Passes, IsFault}
use Rattle.vst_text.specs.declared.file.StructuralFile.{StructuralFile}
use Rattle.vst_text.specs.Vst.{RefusedAs}
use Rattle.vst_text.proofs.Laws as text
use Rattle.vst_io.specs.Faults.{first_fault}
use Rattle.vst_io.specs.Text.{IsWritten, IsNetlistOf, Refused, long, uncut, unwritten, faulty, unsound, wide, signal_ports}
use Rattle.vst_io.specs.Laws.{IsRingFault, OneRefusal}
use Rattle.vst_io.proofs.First.{faultless}
use Rattle.vst_io.proofs.Alike.{passes_or_fails}
use Rattle.vst_io.proofs.OneFault.{SameOrRings, one_fault, fault_alike}
use Rattle.vst_io.proofs.Once.{alike}

-- the same refusal, or two that name rings
abbrev Agree : ReadError → ReadError → Type 0
Agree d e = (d ≡ e) ⊎ (IsRingFault d × IsRingFault e)

-- ---- refusals of a text that isn't read

data Unread (bytes : List ℕ) (e : ReadError) : Type 0 where
  over : MOST_NETLIST_BYTES < length bytes → e ≡ errors.Limit (record { which = limit.File; reached = MOST_NETLIST_BYTES + 1 }) → Unread bytes e
  raw : length bytes ≤ MOST_NETLIST_BYTES → refusal_in bytes ≡ Some e → Unread bytes e
  no_text : length bytes ≤ MOST_NETLIST_BYTES → refusal_in bytes ≡ None → RefusedAs (tokens_in bytes) e → Unread bytes e

cut_or_not : (bytes : List ℕ) (e : ReadError) → refusal_in bytes ≡ None → refusal_in bytes ≡ Some e → ⊥
cut_or_not bytes e none some = let both : None ≡ Some e = sym none ∙ some in absurd cc

one_unread : (bytes : List ℕ) (d e : ReadError) → Unread bytes d → Unread bytes e → d ≡ e
one_unread bytes d e (over many is) (over more also) = is ∙ sym also
one_unread bytes d e (over many is) (raw few some) = absurd (omega (arith, many, few))
one_unread bytes d e (over many is) (no_text few cut wrong) = absurd (omega (arith, many, few))
one_unread bytes d e (raw few some) (over many is) = absurd (omega (arith, many, few))
one_unread bytes d e (raw few some) (raw less other) = let both : Some d ≡ Some e = sym some ∙ other in cc
one_unread bytes d e (raw few some) (no_text less cut wrong) = absurd (cut_or_not bytes d cut some)
one_unread bytes d e (no_text few cut wrong) (over many is) = absurd (omega (arith, many, few))
one_unread bytes d e (no_text few cut wrong) (raw less some) = absurd (cut_or_not bytes e cut some)
one_unread bytes d e (no_text few cut wrong) (no_text less whole other) = text.one_refusal (tokens_in bytes) d e wrong other

read_or_not : (bytes : List ℕ) (f : StructuralFile) (e : ReadError) → IsWritten bytes f → Unread bytes e → ⊥
read_or_not bytes f e written (over many is) = let few = written.few in absurd (omega (arith, many, few))
read_or_not bytes f e written (raw few some) = cut_or_not bytes e written.cut some
read_or_not bytes f e written (no_text few cut wrong) = text.never_both (tokens_in bytes) f e written.structure wrong

-- ---- refusals of what is read

data Judged (table : List ModelPins) (f : StructuralFile) (e : ReadError) : Type 0 where
  at_fault : first_fault table f ≡ Some e → Judged table f e
  bad : (n : Netlist) (k : FaultKind) (names : List Name) → first_fault table f ≡ None → IsNetlistOf table f n → IsFault table n k names → e ≡ fault k 1 names → Judged table f e
  broad : (n : Netlist) → first_fault table f ≡ None → IsNetlistOf table f n → Passes table n → most_ports < length (signal_ports n)
      → e ≡ errors.Limit (record { which = limit.Ports; reached = length (signal_ports n) }) → Judged table f e

fault_or_none : (table : List ModelPins) (f : StructuralFile) (e : ReadError) → first_fault table f ≡ Some e → first_fault table f ≡ None → ⊥
fault_or_none table f e some none = let both : None ≡ Some e = sym none ∙ some in absurd cc

same_rings : (d e : ReadError) (k l : FaultKind) (xs ys : List Name) → d ≡ fault k 1 xs → e ≡ fault l 1 ys → SameOrRings k l xs ys → Agree d e
same_rings d e k l xs ys is also (inl same) = inl (is ∙ ap (λ (m : FaultKind). fault m 1 xs) same.0 ∙ ap (λ (ns : List Name). fault l 1 ns) same.1 ∙ sym also)
same_rings d e k l xs ys is also (inr rings) = inr ((xs, is ∙ ap (λ (m : FaultKind). fault m 1 xs) rings.0), (ys, also ∙ ap (λ (m : FaultKind). fault m 1 ys) rings.1))

one_judged : (table : List ModelPins) (f : StructuralFile) (d e : ReadError) → Judged table f d → Judged table f e → Agree d e
one_judged table f d e (at_fault some) (at_fault other) = inl (let both : Some d ≡ Some e = sym some ∙ other in cc)
one_judged table f d e (at_fault some) (bad n k names none of wrong is) = absurd (fault_or_none table f d some none)
one_judged table f d e (at_fault some) (broad n none of passes many is) = absurd (fault_or_none table f d some none)
one_judged table f d e (bad n k names none of wrong is) (at_fault some) = absurd (fault_or_none table f e some none)
one_judged table f d e (bad n k xs none of wrong is) (bad m l ys clean to false_too also) =
    let same = alike table f n m (faultless table f none) of to in
    same_rings d e k l xs ys is also (one_fault table n k l xs ys wrong (fault_alike table n m l ys same false_too))
one_judged table f d e (bad n k names none of wrong is) (broad m clean to passes many also) =
    absurd (passes_or_fails table m n k names (alike table f m n (faultless table f none) to of) passes wrong)
one_judged table f d e (broad n none of passes many is) (at_fault some) = absurd (fault_or_none table f e some none)
one_judged table f d e (broad n none of passes many is) (bad m k names clean to wrong also) =
    absurd (passes_or_fails table n m k names (alike table f n m (faultless table f none) of to) passes wrong)
one_judged table f d e (broad n none of passes many is) (broad m clean to well more also) =
    let same : signal_ports m ≡ signal_ports n = ap (λ (x : Netlist). signal_ports x) (alike table f n m (faultless table f none) of to) in
    inl (is ∙ ap (λ ps. errors.Limit (record { which = limit.Ports; reached = length ps })) (sym same) ∙ sym also)

-- ---- whole texts

data Stage (bytes : List ℕ) (table : List ModelPins) (e : ReadError) : Type 0 where
  unread : Unread bytes e → Stage bytes table e
  judged : (f : StructuralFile) → IsWritten bytes f → Judged table f e → Stage bytes table e

stage : (bytes : List ℕ) (table : List ModelPins) (e : ReadError) → Refused bytes table e → Stage bytes table e
stage bytes table e (long many is) = unread (over many is)
stage bytes table e (uncut few some) = unread (raw few some)
stage bytes table e (unwritten few cut wrong) = unread (no_text few cut wrong)
stage bytes table e (faulty f written some) = judged f written (at_fault some)
stage bytes table e (unsound f n k names says wrong is) = judged f says.0 (bad n k names says.1 says.2 wrong is)
stage bytes table e (wide f n says passes many is) = judged f says.0 (broad n says.1 says.2 passes many is)

pub one_refusal : OneRefusal
one_refusal bytes table d e p q = by (stage bytes table d p) (stage bytes table e q) where
  by : Stage bytes table d → Stage bytes table e → Agree d e
  by (unread a) (unread b) = inl (one_unread bytes d e a b)
  by (unread a) (judged g written b) = absurd (read_or_not bytes g d written a)
  by (judged f written a) (unread b) = absurd (read_or_not bytes f e written b)
  by (judged f w a) (judged g v b) =
      let same : g ≡ f = text.one_structure (tokens_in bytes) g f v.structure w.structure in
      one_judged table f d e a (subst (λ (h : StructuralFile). Judged table h e) same b)
