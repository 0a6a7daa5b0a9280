-- From what was read to the machines of a text, or to its refusal.
use Rattle.std.proofs.Common.{◌≡◌, ◌⊎◌, inl, inr, ℕ, ◌<◌, ◌^◌, Bool, true, false, ◌&&◌, List, [], ◌∷◌, ◌++◌, length, Option, None, Some, Result, Ok, Err, IfOk, IfErr, refl, sym, ap, ◌∙◌, subst, arith}
use Rattle.vlsi_base.specs.declared.fault.InputFault.{InputFault}
use Rattle.vlsi_base.specs.declared.fault.Limit.{Limit}
use Rattle.vlsi_base.specs.declared.fault.ReadError.{ReadError}
use Rattle.vlsi_base.specs.declared.fault.ReadError.TheVariants as errors
use Rattle.vhdl_token.specs.declared.token.Tokens.{Tokens}
use Rattle.vhdl_lexer.specs.Listing.{tokens_in, refusal_in}
use Rattle.machine_core.specs.Machine.{Machine}
use Rattle.source_checks.specs.declared.statement.DesignFile.{DesignFile}
use Rattle.source_checks.specs.declared.symbol_table.Symbol.{Symbol}
use Rattle.source_checks.specs.Symbols.{symbols, port_symbols, signal_symbols, all_names}
use Rattle.source_checks.specs.Checks.{first_fault, IsRefusedFor}
use Rattle.source_checks.specs.Elaboration.{IsMachineOf}
use Rattle.source_checks.specs.Lines.{first_line}
use Rattle.vbe_text.specs.Source.{SourceTree, source_view}
use Rattle.vbe_text.specs.Vbe.{IsSource, IsRefusedSource, RefusedAs}
use Rattle.vbe_text.proofs.Laws as text
use Rattle.machine_free.specs.declared.machine.FreeMachine.{FreeMachine}
use Rattle.machine_free.specs.Free.{AreFree}
use Rattle.vbe_free.specs.Tokens.{with_operands}
use Rattle.vbe_free.specs.Filled.{filled, free_forms}
use Rattle.vbe_free.specs.Second.{IsFirstOf}
use Rattle.vbe_free.specs.Checked.{IsPlacedMachine, IsPlacedRefusal, IsLowOf, IsLowFault, IsLowRefusal, AreMachinesOf}
use Rattle.vbe_free.specs.Text.{with_forms, IsFreeVbe, IsFaulty, placed, misplaced, RefusedFree, unwritten, faulty, IsFreeRefusal}

-- ---- of one text

abbrev symbols_of : SourceTree → List Symbol
symbols_of t = port_symbols t.entity.ports ++ signal_symbols t.declarations.signals

pub symbols_filled : (b : Bool) (text made : DesignFile) → source_view made ≡ filled b (source_view text) → symbols made ≡ symbols text
symbols_filled b text made same = ap symbols_of same

pub few_filled : (b : Bool) (text made : DesignFile) → source_view made ≡ filled b (source_view text) → length (all_names (symbols text)) < 2 ^ 32
    → length (all_names (symbols made)) < 2 ^ 32
few_filled b text made same few = subst (λ (k : List Symbol). length (all_names k) < 2 ^ 32) (sym (symbols_filled b text made same)) few

of_more : (x : ℕ) (xs : List ℕ) (o : Option ReadError) → with_forms (x ∷ xs) o ≡ with_forms (x ∷ []) o
of_more x xs None = refl
of_more x xs (Some y) = refl

none_first : (lines : List ℕ) → first_line lines ≡ None → lines ≡ []
none_first [] h = refl
none_first (x ∷ lines) h = absurd cc

module _ (t : Tokens) (wrote other low : DesignFile) (line : Option ℕ) (written : IsSource t (source_view wrote)) (again : IsSource t (source_view other))
    (zeros : source_view low ≡ filled false (source_view other)) (at : line ≡ first_line (free_forms (symbols wrote) (source_view wrote))) where
  one : source_view other ≡ source_view wrote
  one = text.one_source t (source_view other) (source_view wrote) again written

  zeros_of : source_view low ≡ filled false (source_view wrote)
  zeros_of = zeros ∙ ap (filled false) one

  same_symbols : symbols wrote ≡ symbols low
  same_symbols = sym (symbols_filled false wrote low zeros_of)

  at_low : line ≡ first_line (free_forms (symbols low) (source_view wrote))
  at_low = at ∙ ap (λ (k : List Symbol). first_line (free_forms k (source_view wrote))) same_symbols

  placed_of : (m : Machine) → IsPlacedMachine low line m → free_forms (symbols low) (source_view wrote) ≡ []
  placed_of m is = none_first (free_forms (symbols low) (source_view wrote)) (sym at_low ∙ is.0)

  pub low_of : (m : Machine) → IsPlacedMachine low line m → IsLowOf wrote m
  low_of m is = record { low = low; zeros = zeros_of; passes = is.1; placed = placed_of m is; machine = is.2 }

  by_lines : (e : ReadError) (lines : List ℕ) → free_forms (symbols low) (source_view wrote) ≡ lines → (o : Option ℕ) → o ≡ first_line lines
      → ((l : ℕ) → o ≡ Some l → with_forms (l ∷ []) (first_fault low) ≡ Some e) → (o ≡ None → IsRefusedFor low e) → IsFaulty (source_view wrote) low e
  by_lines e [] is o same some none = placed is (none same)
  by_lines e (l ∷ lines) is o same some none = misplaced l lines is (of_more l lines (first_fault low) ∙ some l same)

  refused_in : (e : ReadError) → (line ≡ None → IsRefusedFor low e) → ((l : ℕ) → line ≡ Some l → with_forms (l ∷ []) (first_fault low) ≡ Some e) → IsLowFault wrote e
  refused_in e none some =
      record { low = low; zeros = zeros_of; why = by_lines e (free_forms (symbols low) (source_view wrote)) refl line at_low some none }

  none_of : (o : Option ℕ) (f : InputFault) → IsPlacedRefusal low o (errors.Input f) → o ≡ None → IsRefusedFor low (errors.Input f)
  none_of None f why e = why
  none_of (Some l) f why e = absurd cc

  some_of : (o : Option ℕ) (f : InputFault) → IsPlacedRefusal low o (errors.Input f) → (l : ℕ) → o ≡ Some l → with_forms (l ∷ []) (first_fault low) ≡ Some (errors.Input f)
  some_of None f why l e = absurd cc
  some_of (Some k) f why l e = let same : k ≡ l = cc in subst (λ x. with_forms (x ∷ []) (first_fault low) ≡ Some (errors.Input f)) same why

  none_limit : (o : Option ℕ) (f : Limit) → IsPlacedRefusal low o (errors.Limit f) → o ≡ None → IsRefusedFor low (errors.Limit f)
  none_limit None f why e = why
  none_limit (Some l) f why e = absurd cc

  some_limit : (o : Option ℕ) (f : Limit) → IsPlacedRefusal low o (errors.Limit f) → (l : ℕ) → o ≡ Some l → with_forms (l ∷ []) (first_fault low) ≡ Some (errors.Limit f)
  some_limit None f why l e = absurd cc
  some_limit (Some k) f why l e = let same : k ≡ l = cc in subst (λ x. with_forms (x ∷ []) (first_fault low) ≡ Some (errors.Limit f)) same why

  refused_of : (e : ReadError) → IsPlacedRefusal low line e → IsLowRefusal wrote e
  refused_of errors.Memory why = tt
  refused_of (errors.Input f) why = refused_in (errors.Input f) (none_of line f why) (some_of line f why)
  refused_of (errors.Limit f) why = refused_in (errors.Limit f) (none_limit line f why) (some_limit line f why)

  pub accepted_all : {E : Type 0} (r : Result Machine E) → IfOk r (λ m. IsPlacedMachine low line m) → IfOk r (λ m. IsLowOf wrote m)
  accepted_all (Ok m) is = low_of m is
  accepted_all (Err e) is = tt

  pub refused_all : {V : Type 0} (r : Result V ReadError) → IfErr r (λ e. IsPlacedRefusal low line e) → IfErr r (λ e. IsLowRefusal wrote e)
  refused_all (Ok m) is = tt
  refused_all (Err e) is = refused_of e is

-- what was read once is read again
pub again_refused : (t : Tokens) (wrote : DesignFile) (e : ReadError) → IsSource t (source_view wrote) → IsRefusedSource t e → IsLowRefusal wrote e
again_refused t wrote errors.Memory is not = tt
again_refused t wrote (errors.Input f) is not = absurd (text.never_both t (source_view wrote) (errors.Input f) is not)
again_refused t wrote (errors.Limit l) is not = absurd (text.never_both t (source_view wrote) (errors.Limit l) is not)

-- ---- of both machines

pub first_of : (wrote high : DesignFile) (m : Machine) → IsLowOf wrote m → source_view high ≡ filled true (source_view wrote) → IsFirstOf m high
first_of wrote high m is ones = record {
  source = source_view wrote;
  low = is.low;
  zeros = is.zeros;
  ones = ones;
  passes = is.passes;
  placed = is.placed;
  machine = is.machine;
}

pub both_of : (wrote high : DesignFile) (m k : Machine) → IsLowOf wrote m → source_view high ≡ filled true (source_view wrote) → IsMachineOf high k → AreFree m k
    → AreMachinesOf wrote (record { low = m; high = k })
both_of wrote high m k first ones second agree = record { first = first; high = high; ones = ones; second = second; agree = agree }

-- ---- of the text

pub free_of : (bytes : List ℕ) (t : Tokens) (wrote : DesignFile) (m : FreeMachine) → t ≡ with_operands (tokens_in bytes) → IsSource t (source_view wrote)
    → AreMachinesOf wrote m → IsFreeVbe bytes m
free_of bytes t wrote m cut written is = record {
  text = wrote;
  low = is.first.low;
  high = is.high;
  written = subst (λ x. IsSource x (source_view wrote)) cut written;
  zeros = is.first.zeros;
  ones = is.ones;
  passes = is.first.passes;
  placed = is.first.placed;
  first = is.first.machine;
  second = is.second;
  agree = is.agree;
}

fault_of : (bytes : List ℕ) (t : Tokens) (wrote : DesignFile) (e : ReadError) → t ≡ with_operands (tokens_in bytes) → IsSource t (source_view wrote) → IsLowFault wrote e
    → RefusedFree bytes e
fault_of bytes t wrote e cut written is = faulty (source_view wrote) is.low (subst (λ x. IsSource x (source_view wrote)) cut written) is.zeros is.why

pub faulty_of : (bytes : List ℕ) (t : Tokens) (wrote : DesignFile) (e : ReadError) → t ≡ with_operands (tokens_in bytes) → IsSource t (source_view wrote)
    → IsLowRefusal wrote e → IsFreeRefusal bytes e
faulty_of bytes t wrote errors.Memory cut written is = tt
faulty_of bytes t wrote (errors.Input f) cut written is = fault_of bytes t wrote (errors.Input f) cut written is
faulty_of bytes t wrote (errors.Limit l) cut written is = fault_of bytes t wrote (errors.Limit l) cut written is

pub unwritten_of : (bytes : List ℕ) (t : Tokens) (e : ReadError) → t ≡ with_operands (tokens_in bytes) → IsRefusedSource t e → IsFreeRefusal bytes e
unwritten_of bytes t errors.Memory cut is = tt
unwritten_of bytes t (errors.Input f) cut is = unwritten (subst (λ x. RefusedAs x (errors.Input f)) cut is)
unwritten_of bytes t (errors.Limit l) cut is = unwritten (subst (λ x. RefusedAs x (errors.Limit l)) cut is)
