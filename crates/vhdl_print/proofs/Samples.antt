-- What is laid out, on a sample, and that the conditions can be met.
use Rattle.std.proofs.Common.{◌≡◌, ℕ, ◌==◌, true, false, List, [], ◌∷◌, ◌++◌, None, Some, refl, ap, arith, codes, slice_index}
use Rattle.std.specs.Fmt.{digits}
use Rattle.std.proofs.lemmas.List.Elements.{All-cons, All-nil}
use Rattle.vlsi_base.specs.declared.entity.Mode.TheVariants as mode
use Rattle.vhdl_token.specs.Keyword.{keyword_of}
use Rattle.spell_theory.specs.Layout.{text_of}
use Rattle.vhdl_print.specs.Outline.{Outline, OnePort, entity_layout}
use Rattle.vhdl_print.specs.EntityAgain.{CanBeAPort, CanBeWritten, IsReadAs}
use Rattle.vhdl_print.specs.Formula.{variable, opposite, joint, conjunction, disjunction, whole}
use Rattle.vhdl_print.proofs.Again.{entity_is_read_again}

abbrev sample : Outline
sample = record {
  name = codes "add";
  first = record { name = codes "a"; mode = mode.In; bounds = Some (record { left = 3; falls = true; right = 0 }) };
  others = record { name = codes "s"; mode = mode.Out; bounds = None } ∷ [];
}

the_text : text_of (entity_layout sample) ≡ codes "entity add is" ++ 10 ∷ codes "port (" ++ 10 ∷ codes "  a : in bit_vector (3 downto 0);" ++ 10 ∷ codes "  s : out bit);" ++ 10 ∷ codes "end add;" ++ 10 ∷ []
unfolding digits
the_text = refl

the_formula : text_of (whole (joint disjunction (opposite (variable (codes "a"))) (joint conjunction (variable (codes "b")) (variable (codes "c"))))) ≡ codes "(not a) or (b and c)"
the_formula = refl

differ : codes "a" ≡ codes "s" → ⊥
differ e = let b : true ≡ false = ap (λ (x : List ℕ). slice_index x 0 == 97) e in absurd cc

can : CanBeWritten sample
unfolding keyword_of
can = record {
  name = (record { begins = refl; letters = refl; short = omega arith }, refl);
  first = ((record { begins = refl; letters = refl; short = omega arith }, refl), (omega arith, omega arith));
  others = All-cons CanBeAPort (record { name = codes "s"; mode = mode.Out; bounds = None }) [] ((record { begins = refl; letters = refl; short = omega arith }, refl), tt) (All-nil CanBeAPort);
  apart = (All-cons (λ (q : OnePort). codes "a" ≡ q.name → ⊥) (record { name = codes "s"; mode = mode.Out; bounds = None }) [] (λ e. differ e) (All-nil (λ (q : OnePort). codes "a" ≡ q.name → ⊥)), (All-nil (λ (q : OnePort). codes "s" ≡ q.name → ⊥), tt));
  bits = omega arith;
}

pub sample_is_read_again : IsReadAs (text_of (entity_layout sample)) 256 sample
sample_is_read_again = entity_is_read_again 256 sample (omega arith) can
