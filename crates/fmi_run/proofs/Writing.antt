-- What is left of a state machine that can be written can be written.
use Rattle.std.proofs.Common.{◌≡◌, ℕ, List, [], ◌∷◌, None}
use Rattle.vlsi_base.specs.declared.name.Name.{Name}
use Rattle.vlsi_base.specs.Member.{In}
use Rattle.fsm_machine.specs.Statements.{Assignment, output, next, Statements, finish, assign, choose, select, Parts, only, either, further, Branches, closed, others, listed}
use Rattle.fsm_machine.specs.Fsm.{Fsm}
use Rattle.text_names.specs.Words.{IsIdentifier}
use Rattle.fsm_merge.specs.Merged.{kept_of, merged_assignment, with_branch, merged, merged_parts, merged_branches, names_at, merged_fsm}
use Rattle.fsm_merge.proofs.Members.{got_in, in_names}
use Rattle.syf_machine.proofs.Lists.{all_by, all_in}
use Rattle.fsm_print.specs.Writable.{IsPlainAssignment, IsPlainBody, ArePlainParts, ArePlainBranches, CanBeFsm}

plain_assignment : (c : List ℕ) (a : Assignment) → IsPlainAssignment a → IsPlainAssignment (merged_assignment c a)
plain_assignment c (output name e) h = h
plain_assignment c (next s) h = tt

plain_branch : (here : List ℕ) (a : Statements) (more : Branches) → IsPlainBody a → ArePlainBranches more → ArePlainBranches (with_branch here a more)
plain_branch [] a more x y = y
plain_branch (s ∷ here) a more x y = (x, y)

mutual
  plain_merged : (c k : List ℕ) (body : Statements) → IsPlainBody body → IsPlainBody (merged c k body)
  plain_merged c k finish h = tt
  plain_merged c k (assign a rest) h = (plain_assignment c a h.0, plain_merged c k rest h.1)
  plain_merged c k (choose parts rest) h = (plain_parts c k parts h.0, plain_merged c k rest h.1)
  plain_merged c k (select branches rest) h = (plain_branches c k branches h.0, plain_merged c k rest h.1)

  plain_parts : (c k : List ℕ) (parts : Parts) → ArePlainParts parts → ArePlainParts (merged_parts c k parts)
  plain_parts c k (only x a) h = (h.0, plain_merged c k a h.1)
  plain_parts c k (either x a b) h = (h.0, (plain_merged c k a h.1.0, plain_merged c k b h.1.1))
  plain_parts c k (further x a more) h = (h.0, (plain_merged c k a h.1.0, plain_parts c k more h.1.1))

  plain_branches : (c k : List ℕ) (branches : Branches) → ArePlainBranches branches → ArePlainBranches (merged_branches c k branches)
  plain_branches c k closed h = tt
  plain_branches c k (others a) h = plain_merged c k a h
  plain_branches c k (listed here a more) h =
      plain_branch (kept_of c k here) (merged c k a) (merged_branches c k more) (plain_merged c k a h.0) (plain_branches c k more h.1)

kept_in : (f : Fsm) (k : List ℕ) (s : Name) → In s (names_at f.states k) → In s f.states
kept_in f k s i = let found = in_names f.states s k i in got_in s found.0 f.states found.2

pub can_be_merged : (f : Fsm) (c k : List ℕ) → CanBeFsm f → CanBeFsm (merged_fsm f c k)
can_be_merged f c k h =
    let P : Name → Type 0 = λ s. IsIdentifier s.text × (s.bit ≡ None) in
    record {
      name = h.name;
      ports = h.ports;
      states = all_by P (names_at f.states k) (λ s i. all_in P f.states h.states s (kept_in f k s i));
      apart = λ p s i j. h.apart p s i (kept_in f k s j);
      plain = plain_merged c k f.body h.plain;
    }
