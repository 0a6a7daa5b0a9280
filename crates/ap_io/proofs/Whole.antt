-- Whole files.
use Rattle.std.proofs.Common.{◌≡◌, ℕ, ◌<◌, ◌≤◌, ◌^◌, List, ◌∷◌, length, map, sym, ap, ◌∙◌, arith, Option, None, Result, Ok, Err, IfErr}
use Rattle.vlsi_base.specs.declared.limits.TheConstants.{MOST_NETLIST_BYTES}
use Rattle.vlsi_base.specs.declared.fault.ReadError.{ReadError}
use Rattle.vlsi_base.specs.declared.fault.ReadError.TheVariants as errors
use Rattle.vlsi_base.specs.Lines.{lines_of, without_return}
use Rattle.vlsi_base.proofs.Cutting.{count_lines}
use Rattle.ap_io.specs.declared.figure.Figure.{Figure}
use Rattle.ap_io.specs.declared.fault.LineFault.{LineFault}
use Rattle.ap_io.specs.LineFaults.{version_fault}
use Rattle.ap_io.specs.ApText.{lines_in}
use Rattle.ap_io.specs.Stages.{IsVersionRead}
use Rattle.ap_io.specs.Refusal.{or_behind, head_refusal, first_refusal, faulty, IsRefusal, IsApRefusal}

pub room_after : (bytes : List ℕ) (lines new : List (List ℕ)) → lines ≡ lines_of bytes → length bytes ≤ MOST_NETLIST_BYTES → IsVersionRead lines new → length new < 2 ^ 31
room_after bytes lines new are few read =
    let all : length (lines_of bytes) ≡ length (read.line ∷ new) = ap length (sym are ∙ read.lines) in
    let count = count_lines bytes in
    omega (arith, all, count, few)

first_is : (line : List ℕ) (rest : List (List ℕ)) → version_fault line ≡ None → first_refusal (line ∷ rest) ≡ head_refusal rest
unfolding first_refusal
first_is line rest none = ap (λ (f : Option LineFault). or_behind 1 rest f (head_refusal rest)) none

after_version : (bytes : List ℕ) (lines new : List (List ℕ)) → lines ≡ lines_of bytes → IsVersionRead lines new → first_refusal (lines_in bytes) ≡ head_refusal (map without_return new)
after_version bytes lines new are read =
    ap (λ (ls : List (List ℕ)). first_refusal (map without_return ls)) (sym are ∙ read.lines) ∙ first_is (without_return read.line) (map without_return new) read.right

refused_at : (bytes : List ℕ) (o : Option ReadError) (e : ReadError) → length bytes ≤ MOST_NETLIST_BYTES → first_refusal (lines_in bytes) ≡ o → IsRefusal e o → IsApRefusal bytes e
refused_at bytes o errors.Memory few is refused = tt
refused_at bytes o (errors.Input f) few is refused = faulty few (is ∙ refused)
refused_at bytes o (errors.Limit l) few is refused = faulty few (is ∙ refused)

pub refused_after : (bytes : List ℕ) (lines new : List (List ℕ)) (r : Result Figure ReadError) → lines ≡ lines_of bytes → length bytes ≤ MOST_NETLIST_BYTES → IsVersionRead lines new
    → IfErr r (λ e. IsRefusal e (head_refusal (map without_return new))) → IfErr r (λ e. IsApRefusal bytes e)
refused_after bytes lines new (Ok f) are few read refused = tt
refused_after bytes lines new (Err e) are few read refused = refused_at bytes (head_refusal (map without_return new)) e few (after_version bytes lines new are read) refused
