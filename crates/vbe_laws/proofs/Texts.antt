-- Bytes are a text that is a machine, or they have a refusal.
use Rattle.std.proofs.Common.{◌≡◌, ◌⊎◌, inl, inr, ℕ, ◌<◌, ◌≤◌, ◌+◌, List, length, Option, None, Some, refl, sym, subst}
use Rattle.std.proofs.lemmas.Bool.{cases_lt}
use Rattle.vlsi_base.specs.declared.limits.TheConstants.{MOST_SOURCE_BYTES}
use Rattle.vlsi_base.specs.declared.fault.LimitKind.TheVariants as kind
use Rattle.vlsi_base.specs.declared.fault.ReadError.{ReadError}
use Rattle.vlsi_base.specs.declared.fault.ReadError.TheVariants as errors
use Rattle.vhdl_lexer.specs.Listing.{tokens_in, refusal_in}
use Rattle.machine_core.specs.Machine.{Machine}
use Rattle.source_checks.specs.declared.statement.DesignFile.{DesignFile}
use Rattle.vbe_text.specs.Vbe.{IsSource}
use Rattle.vbe_text.proofs.Laws as text
use Rattle.vbe_io.specs.Text.{IsWritten, IsVbe, Refused, long, uncut, unwritten, faulty}
use Rattle.vbe_laws.specs.EachText.{EachText}
use Rattle.vbe_laws.proofs.Designs.{each_design}
use Rattle.vbe_laws.proofs.Trees.{design_of, design_seen}

abbrev Answer : List ℕ → Type 0
Answer bytes = ((m : Machine) × IsVbe bytes m) ⊎ ((e : ReadError) × Refused bytes e)

of_design : (bytes : List ℕ) (design : DesignFile) → IsWritten bytes design → Answer bytes
of_design bytes design written = elim (each_design design) [
  | inl d ↦ inl (d.1.0, record { design = design; written = written; passes = d.0; machine = d.1.1 })
  | inr r ↦ inr (r.0, faulty design written r.1)
]

of_tokens : (bytes : List ℕ) → length bytes ≤ MOST_SOURCE_BYTES → refusal_in bytes ≡ None → Answer bytes
of_tokens bytes few cut = elim (text.each_source (tokens_in bytes)) [
  | inl s ↦ of_design bytes (design_of s.0) (record { few = few; cut = cut; source = subst (IsSource (tokens_in bytes)) (sym (design_seen s.0)) s.1 })
  | inr r ↦ inr (r.0, unwritten few cut r.1)
]

pub each_text : EachText
each_text bytes = by (cases_lt MOST_SOURCE_BYTES (length bytes)) where
  cut : length bytes ≤ MOST_SOURCE_BYTES → (o : Option ReadError) → refusal_in bytes ≡ o → Answer bytes
  cut few (Some e) is = inr (e, uncut few is)
  cut few None is = of_tokens bytes few is

  by : (MOST_SOURCE_BYTES < length bytes) ⊎ (length bytes ≤ MOST_SOURCE_BYTES) → Answer bytes
  by (inl many) = inr (errors.Limit (record { which = kind.File; reached = MOST_SOURCE_BYTES + 1 }), long many refl)
  by (inr few) = cut few (refusal_in bytes) refl
