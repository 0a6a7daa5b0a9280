-- The states that the last partition keeps.
use Rattle.std.proofs.Common.{◌≡◌, ℕ, ◌<◌, ◌-◌, ◌++◌, List, [], ◌∷◌, length, length-append, sym, ap, ◌∙◌, subst, arith}
use Rattle.std.specs.List.{slice_index_or}
use Rattle.std.proofs.lemmas.List.{get_or_default}
use Rattle.fsm_merge.specs.Numbering.{nth, IsNumbering}
use Rattle.fmi_refine.specs.declared.round.Move.{Move}
use Rattle.fmi_refine.specs.declared.round.Partition.{Partition}
use Rattle.fmi_refine.specs.Refined.{level, last_level, AreLevels}
use Rattle.fmi_refine.proofs.Places.{at_end}
use Rattle.fmi_min.specs.Tests.{kept_at}

pub kept_below : (rows : List (List Move)) (levels : List Partition) → AreLevels rows levels → (p : ℕ) → p < length (last_level levels).kept
    → kept_at levels p < length rows
kept_below rows levels of p low =
    let some = of.some in
    ((of.numbered (length levels - 1) (omega arith)).own p low).0

pub kept_apart : (rows : List (List Move)) (levels : List Partition) → AreLevels rows levels → (p q : ℕ) → p < q → q < length (last_level levels).kept
    → nth (last_level levels).state_of (kept_at levels p) ≡ nth (last_level levels).state_of (kept_at levels q) → ⊥
kept_apart rows levels of p q less low e =
    let some = of.some in
    let numbered = of.numbered (length levels - 1) (omega arith) in
    let first = (numbered.own p (omega arith)).1 in
    let second = (numbered.own q low).1 in
    let same : p ≡ q = sym first ∙ e ∙ second in
    omega arith

-- what is taken from the end is the last partition
pub taken_last : (levels rest : List Partition) (q : Partition) → levels ≡ rest ++ q ∷ [] → q ≡ last_level levels
taken_last levels rest q e =
    let size = ap (λ (ls : List Partition). length ls) e ∙ length-append rest (q ∷ []) in
    let place : length rest ≡ length levels - 1 = omega arith in
    sym (at_end rest q (record { state_of = []; kept = [] })) ∙ ap (λ (ls : List Partition). level ls (length rest)) (sym e) ∙ ap (λ (n : ℕ). level levels n) place

-- it numbers the states
pub last_numbering : (rows : List (List Move)) (levels : List Partition) (n : ℕ) → AreLevels rows levels → length rows ≡ n
    → IsNumbering n (last_level levels).state_of (last_level levels).kept
last_numbering rows levels n of size =
    let some = of.some in
    subst (λ (m : ℕ). IsNumbering m (last_level levels).state_of (last_level levels).kept) size (of.numbered (length levels - 1) (omega arith))

-- what is read at the last place are the states that it keeps
pub kept_read : (levels : List Partition) (q : Partition) (kept : List ℕ) → 0 < length levels → kept ≡ (slice_index_or levels (length levels - 1) q).kept
    → kept ≡ (last_level levels).kept
kept_read levels q kept some e =
    e ∙ ap (λ (x : Partition). x.kept) (get_or_default levels (length levels - 1) q (record { state_of = []; kept = [] }) (omega arith))
