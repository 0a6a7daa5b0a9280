-- Lines behind lines: those of registers from one of them on, and all lines of a report.
use Rattle.std.proofs.Common.{◌≡◌, ℕ, suc, ◌+◌, ◌<◌, List, [], ◌∷◌, ◌++◌, map, length, drop, drop-cons, sym, ◌∙◌, ap, add-one, append_assoc, append-nil}
use Rattle.std.specs.List.{slice_index_or}
use Rattle.machine_core.specs.Machine.{Register}
use Rattle.machine_core.specs.declared.equation.Register.{Register as Parts}
use Rattle.machine_core.specs.View.{register_view}
use Rattle.ap_io.specs.Spelling.{together}
use Rattle.flow_run.specs.Report.{register_line, register_lines}

-- what was written so far, and what is written from number k on, is the whole
abbrev pub Lines : List ℕ → List Parts → ℕ → List ℕ → Type 0
Lines start registers k out = out ++ register_lines k (map register_view (drop k registers)) ≡ start ++ register_lines 0 (map register_view registers)

from_register : (registers : List Parts) (k : ℕ) (r : Parts) → k < length registers → r ≡ slice_index_or registers k r
    → map register_view (drop k registers) ≡ register_view r ∷ map register_view (drop (k + 1) registers)
from_register registers k r h is =
    ap (map register_view) (drop-cons registers k r h) ∙ ap (λ x. register_view x ∷ map register_view (drop (suc k) registers)) (sym is)
    ∙ ap (λ n. register_view r ∷ map register_view (drop n registers)) (sym (add-one k))

pub lines_next : (start : List ℕ) (registers : List Parts) (k : ℕ) (out : List ℕ) (r : Parts) → k < length registers → r ≡ slice_index_or registers k r
    → Lines start registers k out → Lines start registers (k + 1) (out ++ register_line k r.name)
lines_next start registers k out r h is w =
    let rest = map register_view (drop (k + 1) registers) in
    append_assoc out (register_line k r.name) (register_lines (k + 1) rest)
    ∙ ap (λ (j : ℕ). out ++ (register_line k r.name ++ register_lines j rest)) (add-one k)
    ∙ sym (ap (λ (rs : List Register). out ++ register_lines k rs) (from_register registers k r h is)) ∙ w

-- pieces put one behind the other
abbrev put_all : List ℕ → List (List ℕ) → List ℕ
put_all out [] = out
put_all out (piece ∷ rest) = put_all (out ++ piece) rest

pub put_all_is : (out : List ℕ) (pieces : List (List ℕ)) → put_all out pieces ≡ out ++ together pieces
put_all_is out [] = sym (append-nil out)
put_all_is out (piece ∷ rest) = put_all_is (out ++ piece) rest ∙ append_assoc out piece (together rest)
