-- Of a text one answer is right.
use Rattle.std.proofs.Common.{◌≡◌, ◌+◌, ◌⊎◌, inl, inr, ℕ, ◌<◌, ◌≤◌, List, length, Option, None, Some, refl, sym, ap, ◌∙◌, arith}
use Rattle.std.proofs.lemmas.Bool.Decides.{leb_tells}
use Rattle.vlsi_base.specs.declared.limits.TheConstants.{MOST_SOURCE_BYTES}
use Rattle.vlsi_base.specs.declared.name.Port.{Port}
use Rattle.vlsi_base.specs.declared.fault.LimitKind.TheVariants.{File}
use Rattle.vlsi_base.specs.declared.fault.ReadError.{ReadError}
use Rattle.vlsi_base.specs.declared.fault.ReadError.TheVariants as error
use Rattle.pat_meaning.specs.declared.patterns.Patterns.{Patterns}
use Rattle.pat_lexer.specs.Listing.{tokens_in, refusal_in}
use Rattle.pat_text.specs.declared.parsed.PatternFile.{PatternFile}
use Rattle.pat_text.proofs.Laws as text
use Rattle.pat_io.specs.Digits.{patterns_for}
use Rattle.pat_io.specs.PatternText.{fault_in, IsWritten, IsPatternText, Refused, long, uncut, unwritten, faulty}
use Rattle.pat_io.specs.Laws.{EachText, OneMeaning, NeverBoth, OneRefusal}

written_once : (bytes : List ℕ) (a b : PatternFile) → IsWritten bytes a → IsWritten bytes b → a ≡ b
written_once bytes a b h g = text.one_file (tokens_in bytes) a b h.file g.file

too_many : (bytes : List ℕ) → MOST_SOURCE_BYTES < length bytes → length bytes ≤ MOST_SOURCE_BYTES → ⊥
too_many bytes more few = omega (arith, more, few)

cut_or_not : (o : Option ReadError) (e : ReadError) → o ≡ None → o ≡ Some e → ⊥
cut_or_not o e a b = cc

one_error : (o : Option ReadError) (d e : ReadError) → o ≡ Some d → o ≡ Some e → d ≡ e
one_error o d e a b = cc

pub means_once : OneMeaning
means_once bytes ports p q h g = h.is ∙ ap patterns_for (written_once bytes h.parsed g.parsed h.written g.written) ∙ sym g.is

pub never_both : NeverBoth
never_both bytes ports p e h (long more is) = too_many bytes more h.written.few
never_both bytes ports p e h (uncut few is) = cut_or_not (refusal_in bytes) e h.written.cut is
never_both bytes ports p e h (unwritten few cut fault) = text.never_both (tokens_in bytes) h.parsed e h.written.file fault
never_both bytes ports p e h (faulty parsed written fault) =
    cut_or_not (fault_in ports parsed) e (ap (fault_in ports) (written_once bytes parsed h.parsed written h.written) ∙ h.faultless) fault

pub one_refusal : OneRefusal
one_refusal bytes ports d e (long m is) (long n also) = is ∙ sym also
one_refusal bytes ports d e (long m is) (uncut few also) = absurd (too_many bytes m few)
one_refusal bytes ports d e (long m is) (unwritten few cut also) = absurd (too_many bytes m few)
one_refusal bytes ports d e (long m is) (faulty parsed w also) = absurd (too_many bytes m w.few)
one_refusal bytes ports d e (uncut few is) (long n also) = absurd (too_many bytes n few)
one_refusal bytes ports d e (uncut few is) (uncut few' also) = one_error (refusal_in bytes) d e is also
one_refusal bytes ports d e (uncut few is) (unwritten few' cut also) = absurd (cut_or_not (refusal_in bytes) d cut is)
one_refusal bytes ports d e (uncut few is) (faulty parsed w also) = absurd (cut_or_not (refusal_in bytes) d w.cut is)
one_refusal bytes ports d e (unwritten few cut is) (long n also) = absurd (too_many bytes n few)
one_refusal bytes ports d e (unwritten few cut is) (uncut few' also) = absurd (cut_or_not (refusal_in bytes) e cut also)
one_refusal bytes ports d e (unwritten few cut is) (unwritten few' cut' also) = text.one_fault (tokens_in bytes) d e is also
one_refusal bytes ports d e (unwritten few cut is) (faulty parsed w also) = absurd (text.never_both (tokens_in bytes) parsed d w.file is)
one_refusal bytes ports d e (faulty parsed w is) (long n also) = absurd (too_many bytes n w.few)
one_refusal bytes ports d e (faulty parsed w is) (uncut few also) = absurd (cut_or_not (refusal_in bytes) e w.cut also)
one_refusal bytes ports d e (faulty parsed w is) (unwritten few cut also) = absurd (text.never_both (tokens_in bytes) parsed e w.file also)
one_refusal bytes ports d e (faulty parsed w is) (faulty parsed' w' also) =
    one_error (fault_in ports parsed) d e is (ap (fault_in ports) (written_once bytes parsed parsed' w w') ∙ also)

of_parsed : (bytes : List ℕ) (ports : List Port) (parsed : PatternFile) → IsWritten bytes parsed → (o : Option ReadError) → fault_in ports parsed ≡ o → ((p : Patterns) × IsPatternText bytes ports p) ⊎ ((e : ReadError) × Refused bytes ports e)
of_parsed bytes ports parsed w None h = inl (patterns_for parsed, record { parsed = parsed; written = w; faultless = h; is = refl })
of_parsed bytes ports parsed w (Some e) h = inr (e, faulty parsed w h)

of_cut : (bytes : List ℕ) (ports : List Port) → length bytes ≤ MOST_SOURCE_BYTES → (o : Option ReadError) → refusal_in bytes ≡ o → ((p : Patterns) × IsPatternText bytes ports p) ⊎ ((e : ReadError) × Refused bytes ports e)
of_cut bytes ports few (Some e) h = inr (e, uncut few h)
of_cut bytes ports few None h = elim (text.each_file (tokens_in bytes)) [
  | inl a ↦ let w : IsWritten bytes a.0 = record { few = few; cut = h; file = a.1 } in of_parsed bytes ports a.0 w (fault_in ports a.0) refl
  | inr r ↦ inr (r.0, unwritten few h r.1)
]

pub each_text : EachText
each_text bytes ports = elim (leb_tells (length bytes) MOST_SOURCE_BYTES) [
  | inl few ↦ of_cut bytes ports few.1 (refusal_in bytes) refl
  | inr more ↦ inr (error.Limit (record { which = File; reached = MOST_SOURCE_BYTES + 1 }), long more.1 refl)
]
