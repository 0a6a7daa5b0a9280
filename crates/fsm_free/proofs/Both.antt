-- Both state machines of a text, and why there are none.
use Rattle.std.proofs.Common.{◌≡◌, ◌≤◌, Bool, true, false, List, length, Option, None, Some, sym, ap, subst, ◌∙◌}
use Rattle.vlsi_base.specs.declared.limits.TheConstants.{MOST_SOURCE_BYTES}
use Rattle.vlsi_base.specs.declared.pragma.Pragma.{Pragma}
use Rattle.vlsi_base.specs.declared.fault.ReadError.{ReadError}
use Rattle.vlsi_base.specs.declared.fault.ReadError.TheVariants as errors
use Rattle.vhdl_token.specs.declared.token.Tokens.{Tokens}
use Rattle.fsm_machine.specs.Fsm.{Fsm}
use Rattle.fsm_text.specs.Written.{BodyTree, MachineTree}
use Rattle.fsm_text.specs.Short.{HasShortExpressions}
use Rattle.fsm_text.specs.Texts.{IsMachine, IsRefusedMachine}
use Rattle.fsm_io.specs.Known.{Named, named}
use Rattle.fsm_io.specs.Elaboration.{IsMachineOf}
use Rattle.fsm_io.specs.Verdict.{IsPassed, IsRefusedOrMemory}
use Rattle.state_free.specs.declared.state_machine.FreeStateMachine.{FreeStateMachine}
use Rattle.fsm_free.specs.Filled.{filled_body, filled}
use Rattle.fsm_free.specs.Laws.{RefusedAlike, FilledAgree}
use Rattle.fsm_free.specs.Pieces.{with_body, MayBeChecked, AreBoth, AreFilled, RefusedFilled, unwritten, faulty, IsFilledRefusal}
use Rattle.fsm_free.proofs.Alike.{names_same}
use Rattle.fsm_free.proofs.Fits.{may_be_filled, may_be_checked}

-- the text with the filled statements in place of its own, whatever stood there before
pub filled_is : (b : Bool) (m before x : MachineTree) (old body : BodyTree) → before ≡ with_body m old → x ≡ with_body before body → body ≡ filled_body b m.step.body → x ≡ filled b m
filled_is b m before x old body was is made = is ∙ ap (λ (k : MachineTree). with_body k body) was ∙ ap (with_body m) made

pub first_is : (b : Bool) (m x : MachineTree) (body : BodyTree) → x ≡ with_body m body → body ≡ filled_body b m.step.body → x ≡ filled b m
first_is b m x body is made = is ∙ ap (with_body m) made

pub fits : (b : Bool) (m x : MachineTree) → x ≡ filled b m → MayBeChecked m → MayBeChecked x
fits b m x is h = subst MayBeChecked (sym is) (may_be_filled b m h)

one_named : (m : MachineTree) (pragmas : List Pragma) (j k : Named) → named (filled false m) pragmas ≡ Some j → named (filled true m) pragmas ≡ Some k → k ≡ j
one_named m pragmas j k e h =
    let both : Some k ≡ Some j = sym h ∙ names_same true m pragmas ∙ sym (names_same false m pragmas) ∙ e in
    cc

pub are_both : (m x y : MachineTree) (pragmas : List Pragma) (low high : Fsm) → FilledAgree → x ≡ filled false m → y ≡ filled true m
    → IsPassed x pragmas low → IsPassed y pragmas high → AreBoth m pragmas (record { low = low; high = high })
are_both m x y pragmas low high agree ex ey px py =
    let p = subst (λ (k : MachineTree). IsPassed k pragmas low) ex px in
    let q = subst (λ (k : MachineTree). IsPassed k pragmas high) ey py in
    let same = one_named m pragmas p.names q.names p.passes.names q.passes.names in
    let ones = subst (λ (n : Named). IsMachineOf (filled true m) n high) same q.machine in
    record { names = p.names; passes = p.passes; low = p.machine; high = ones; agree = agree m p.names low high p.machine ones }

pub refused_low : (m x : MachineTree) (pragmas : List Pragma) (e : ReadError) → x ≡ filled false m → IsRefusedOrMemory x pragmas e → IsRefusedOrMemory (filled false m) pragmas e
refused_low m x pragmas e is h = subst (λ (k : MachineTree). IsRefusedOrMemory k pragmas e) is h

as_low : (m : MachineTree) (pragmas : List Pragma) (e : ReadError) → RefusedAlike → IsRefusedOrMemory (filled true m) pragmas e → IsRefusedOrMemory (filled false m) pragmas e
as_low m pragmas errors.Memory alike h = tt
as_low m pragmas (errors.Input f) alike h = alike m pragmas (errors.Input f) h
as_low m pragmas (errors.Limit l) alike h = alike m pragmas (errors.Limit l) h

pub refused_high : (m x : MachineTree) (pragmas : List Pragma) (e : ReadError) → RefusedAlike → x ≡ filled true m → IsRefusedOrMemory x pragmas e → IsRefusedOrMemory (filled false m) pragmas e
refused_high m x pragmas e alike is h = as_low m pragmas e alike (subst (λ (k : MachineTree). IsRefusedOrMemory k pragmas e) is h)

-- ---- of tokens

pub unwritten_refused : (tokens : Tokens) (e : ReadError) → IsRefusedMachine tokens e → IsFilledRefusal tokens e
unwritten_refused tokens errors.Memory h = tt
unwritten_refused tokens (errors.Input f) h = unwritten h
unwritten_refused tokens (errors.Limit l) h = unwritten h

faulty_plain : (tokens : Tokens) (m : MachineTree) (e : ReadError) → IsMachine tokens m → IsRefusedOrMemory (filled false m) tokens.pragmas e → IsFilledRefusal tokens e
faulty_plain tokens m errors.Memory is h = tt
faulty_plain tokens m (errors.Input f) is h = faulty m is h
faulty_plain tokens m (errors.Limit l) is h = faulty m is h

pub faulty_refused : (tokens : Tokens) (m x : MachineTree) (pragmas : List Pragma) (e : ReadError) → IsMachine tokens m → x ≡ m → pragmas ≡ tokens.pragmas
    → IsRefusedOrMemory (filled false x) pragmas e → IsFilledRefusal tokens e
faulty_refused tokens m x pragmas e is same these h =
    faulty_plain tokens m e is (subst (λ (k : MachineTree). IsRefusedOrMemory (filled false k) tokens.pragmas e) same (subst (λ (ps : List Pragma). IsRefusedOrMemory (filled false x) ps e) these h))

pub are_filled : (tokens : Tokens) (m x : MachineTree) (pragmas : List Pragma) (f : FreeStateMachine) → IsMachine tokens m → x ≡ m → pragmas ≡ tokens.pragmas → AreBoth x pragmas f → AreFilled tokens f
are_filled tokens m x pragmas f is same these h =
    (m, is, subst (λ (k : MachineTree). AreBoth k tokens.pragmas f) same (subst (λ (ps : List Pragma). AreBoth x ps f) these h))

-- ---- one after the other

pub fits_low : (m x : MachineTree) (zeros : BodyTree) → MayBeChecked m → x ≡ with_body m zeros → zeros ≡ filled_body false m.step.body → MayBeChecked x
fits_low m x zeros h is made = fits false m x (first_is false m x zeros is made) h

pub fits_high : (m x y : MachineTree) (zeros ones : BodyTree) → MayBeChecked m → x ≡ with_body m zeros → y ≡ with_body x ones → ones ≡ filled_body true m.step.body → MayBeChecked y
fits_high m x y zeros ones h was is made = fits true m y (filled_is true m x y zeros ones was is made) h

pub low_refused : (m x : MachineTree) (zeros : BodyTree) (pragmas : List Pragma) (e : ReadError) → x ≡ with_body m zeros → zeros ≡ filled_body false m.step.body
    → IsRefusedOrMemory x pragmas e → IsRefusedOrMemory (filled false m) pragmas e
low_refused m x zeros pragmas e is made h = refused_low m x pragmas e (first_is false m x zeros is made) h

pub high_refused : (m x y : MachineTree) (zeros ones : BodyTree) (pragmas : List Pragma) (e : ReadError) → RefusedAlike → x ≡ with_body m zeros → y ≡ with_body x ones → ones ≡ filled_body true m.step.body
    → IsRefusedOrMemory y pragmas e → IsRefusedOrMemory (filled false m) pragmas e
high_refused m x y zeros ones pragmas e alike was is made h = refused_high m y pragmas e alike (filled_is true m x y zeros ones was is made) h

pub made_both : (m x y : MachineTree) (zeros ones : BodyTree) (pragmas : List Pragma) (low high : Fsm) → FilledAgree → x ≡ with_body m zeros → zeros ≡ filled_body false m.step.body
    → y ≡ with_body x ones → ones ≡ filled_body true m.step.body → IsPassed x pragmas low → IsPassed y pragmas high → AreBoth m pragmas (record { low = low; high = high })
made_both m x y zeros ones pragmas low high agree is made was all p q = are_both m x y pragmas low high agree (first_is false m x zeros is made) (filled_is true m x y zeros ones is was all) p q

pub may_be_both : (tokens : Tokens) (m x : MachineTree) → length tokens.items ≤ MOST_SOURCE_BYTES → IsMachine tokens m → HasShortExpressions m → x ≡ m → MayBeChecked x
may_be_both tokens m x few h short is = subst MayBeChecked (sym is) (may_be_checked tokens m few h short)
