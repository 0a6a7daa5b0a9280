-- The first access nodes of a pin, and the node at which it is reached.
use Rattle.std.proofs.Common.{◌≡◌, inl, inr, ℕ, zero, suc, ◌<◌, ◌≤◌, List, [], ◌++◌, length, refl, sym, ap, ◌∙◌, arith}
use Rattle.std.proofs.lemmas.Bool.{cases_lt}
use Rattle.std.proofs.lemmas.List.{append-nil}
use Rattle.std.proofs.lemmas.List.{append_assoc}
use Rattle.vlsi_base.specs.declared.name.Name.{Name}
use Rattle.cell_model.specs.Cell.{Cell}
use Rattle.cell_checks.specs.Nodes.{column_nodes, node_columns, IsFront}

columns_rest : (c : Cell) (name : Name) (from end : ℕ) → from ≤ end → (rest : List ℕ) × (node_columns c name from ++ rest ≡ node_columns c name end)
columns_rest c name from zero order = let same : from ≡ zero = omega arith in ([], append-nil (node_columns c name from) ∙ ap (node_columns c name) same)
columns_rest c name from (suc n) order =
    elim (cases_lt n from) [
      | inl less ↦ let same : from ≡ suc n = omega arith in ([], append-nil (node_columns c name from) ∙ ap (node_columns c name) same)
      | inr most ↦ let r = columns_rest c name from n most in (
        r.0 ++ column_nodes c name n 11,
        sym (append_assoc (node_columns c name from) r.0 (column_nodes c name n 11)) ∙ ap (λ xs. xs ++ column_nodes c name n 11) r.1,
      )
    ]

pub more_than : (c : Cell) (name : Name) (from end lines rank : ℕ) (nodes : List ℕ) → from ≤ end → end ≡ lines → nodes ≡ node_columns c name from → rank < length nodes
    → IsFront c name lines rank nodes
more_than c name from end lines rank nodes order same is more =
    let r = columns_rest c name from end order in
    record { rest = r.0; all = ap (λ xs. xs ++ r.0) is ∙ r.1 ∙ ap (node_columns c name) same; enough = inl more }

pub all_of_them : (c : Cell) (name : Name) (from next end lines rank : ℕ) (nodes : List ℕ) → next ≡ end → end ≡ lines → nodes ≡ node_columns c name from
    → node_columns c name next ≡ node_columns c name from → IsFront c name lines rank nodes
all_of_them c name from next end lines rank nodes last same is skipped =
    record { rest = []; all = append-nil nodes ∙ is ∙ sym skipped ∙ ap (node_columns c name) last ∙ ap (node_columns c name) same; enough = inr refl }
