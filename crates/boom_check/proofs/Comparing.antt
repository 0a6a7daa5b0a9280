-- Roots that are shown equal, one after another.
use Rattle.std.proofs.Common.{◌≡◌, ℕ, ◌+◌, ◌<◌, ◌≤◌, List, length, take, get_or, None}
use Rattle.machine_core.specs.Machine.{Machine}
use Rattle.machine_roots.specs.declared.listing.RootExpr.{RootExpr}
use Rattle.machine_roots.specs.Listing.{AreRoots}
use Rattle.proof_joint.specs.Naming.{HaveSameNames}
use Rattle.proof_joint.specs.Together.{root_pairs, IsOverTogether, IsOneFunction}
use Rattle.proof_cmp.specs.Verdict.{AreEqual}
use Rattle.proof_cmp.specs.Comparing.{pair_of}
use Rattle.proof_cmp.proofs.Comparing.{IsComparing, compared_more, all_compared, none_found}

pub equal_next : (a b : Machine) (same : HaveSameNames a b) (firsts seconds : List RootExpr) → AreRoots a firsts → AreRoots b seconds → (budget k : ℕ) (first second : RootExpr) → k < length firsts
    → first ≡ get_or firsts k first → second ≡ get_or seconds k second → IsComparing a b budget k None → (IsOverTogether a b budget (pair_of first second) → ⊥)
    → IsOneFunction a b (pair_of first second) → IsComparing a b budget (k + 1) None
equal_next a b same firsts seconds ra rb budget k first second inside is_first is_second w within one =
    compared_more a b same firsts seconds ra rb budget k first second inside is_first is_second None None w within (none_found a b (take k (root_pairs a b)) (pair_of first second) one)

pub all_equal : (a b : Machine) (same : HaveSameNames a b) (firsts seconds : List RootExpr) → AreRoots a firsts → AreRoots b seconds → (budget k : ℕ) → length firsts ≤ k
    → IsComparing a b budget k None → AreEqual a b
all_equal a b same firsts seconds ra rb budget k end w = (all_compared a b same firsts seconds ra rb budget k None end w).1
