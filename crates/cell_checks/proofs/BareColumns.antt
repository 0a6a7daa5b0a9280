-- Columns without access nodes, which a search leaves out.
use Rattle.std.proofs.Common.{◌≡◌, inl, inr, ℕ, zero, suc, ◌+◌, ◌*◌, ◌<◌, ◌≤◌, pos, Bool, true, false, List, [], ◌++◌, length, get_or, refl, sym, ap, subst, ◌∙◌, arith}
use Rattle.std.proofs.lemmas.Int.{ints}
use Rattle.std.proofs.lemmas.Bool.{cases_lt}
use Rattle.std.proofs.lemmas.List.{append-nil}
use Rattle.vlsi_base.specs.declared.name.Name.{Name}
use Rattle.vlsi_base.specs.Member.{In}
use Rattle.sym_geom.specs.declared.grid.TheConstants.{PITCH, PAD_WIDTH}
use Rattle.sym_geom.specs.Rect.{square}
use Rattle.sym_shapes.specs.Shape.{Shape, drawn}
use Rattle.cell_model.specs.Cell.{Cell}
use Rattle.cell_model.specs.Access.{is_access_node}
use Rattle.cell_model.proofs.Members.{All-In}
use Rattle.cell_checks.specs.Checks.{StandsInRow}
use Rattle.cell_checks.specs.Shapes.{IsRail}
use Rattle.cell_checks.specs.Nodes.{column_nodes, node_columns, HoldsColumn}
use Rattle.cell_checks.proofs.Layouts.{Any-In}
use Rattle.cell_checks.proofs.Loops.{FirstHave, one_more}
use Rattle.cell_checks.proofs.NodeLemmas.{node_pad}

-- no shape of the cell holds pads of the pin in this column
abbrev IsBare : Cell → Name → ℕ → Type 0
IsBare c name a = (s : Shape) → In s (drawn c.items) → HoldsColumn name a s → ⊥

bare_node : (c : Cell) (name : Name) (a b : ℕ) → StandsInRow c → IsBare c name a → (r : Bool) → is_access_node c name (pos (PITCH * a), pos (PITCH * b)) ≡ r
    → is_access_node c name (pos (PITCH * a), pos (PITCH * b)) ≡ false
bare_node c name a b row bare false e = e
bare_node c name a b row bare true e =
    let r = Any-In (IsRail name (square (pos (PITCH * a)) (pos (PITCH * b)) (pos PAD_WIDTH))) (drawn c.items) (node_pad c name a b row e) in
    let hl = r.2.holds.left in let hr = r.2.holds.right in let hd = r.2.holds.low in let hh = r.2.holds.high in
    absurd (bare r.0 r.1 (record {
      reached = record {
        named = r.2.named;
        metal = r.2.metal;
        across = record { line = pos (PITCH * a); above = record { number = pos a; grid = omega (arith, ints); from = omega (arith, ints) }; to = omega (arith, ints) };
        along = record { line = pos (PITCH * b); above = record { number = pos b; grid = omega (arith, ints); from = omega (arith, ints) }; to = omega (arith, ints) };
      };
      left = omega (arith, ints);
      right = omega (arith, ints);
    }))

bare_column : (c : Cell) (name : Name) (a n : ℕ) → StandsInRow c → IsBare c name a → column_nodes c name a n ≡ []
bare_column c name a zero row bare = refl
bare_column c name a (suc b) row bare =
    rw (bare_column c name a b row bare, bare_node c name a b row bare (is_access_node c name (pos (PITCH * a), pos (PITCH * b))) refl) refl

bare_columns : (c : Cell) (name : Name) (from next : ℕ) → StandsInRow c → from ≤ next → ((b : ℕ) → from ≤ b → b < next → IsBare c name b)
    → node_columns c name next ≡ node_columns c name from
bare_columns c name from zero row order bare = let same : zero ≡ from = omega arith in ap (node_columns c name) same
bare_columns c name from (suc n) row order bare =
    elim (cases_lt n from) [
      | inl less ↦ let same : suc n ≡ from = omega arith in ap (node_columns c name) same
      | inr most ↦ ap (λ xs. node_columns c name n ++ xs) (bare_column c name n 11 row (bare n most (omega arith)))
          ∙ append-nil (node_columns c name n)
          ∙ bare_columns c name from n row most (λ b above less. bare b above (omega arith))
    ]

-- none of the first n shapes holds pads of the pin from one column on and below the next
abbrev pub LeavesOut : Name → ℕ → ℕ → Shape → Type 0
LeavesOut name from next s = (b : ℕ) → from ≤ b → b < next → HoldsColumn name b s → ⊥

pub record Narrowed (shapes : List Shape) (name : Name) (from next end n : ℕ) : Type 0 where
  pub least : from ≤ next
  pub most : next ≤ end
  pub skipped : FirstHave (LeavesOut name from next) shapes n

pub narrower : (shapes : List Shape) (name : Name) (from next end n new : ℕ) (x : Shape) → Narrowed shapes name from next end n
    → n < length shapes → x ≡ get_or shapes n x → from ≤ new → new ≤ next → LeavesOut name from new x → Narrowed shapes name from new end (n + 1)
narrower shapes name from next end n new x old lt at least most skipped =
    let e = old.most in record {
      least = least;
      most = omega arith;
      skipped = one_more (LeavesOut name from new) shapes n x (λ i d below b above less. old.skipped i d below b above (omega arith)) lt at skipped;
    }

pub left_out : (c : Cell) (shapes : List Shape) (name : Name) (from next end : ℕ) → StandsInRow c → shapes ≡ drawn c.items
    → Narrowed shapes name from next end (length shapes) → node_columns c name next ≡ node_columns c name from
left_out c shapes name from next end row is narrowed =
    bare_columns c name from next row narrowed.least
    (λ b above less s listed. All-In (LeavesOut name from next) shapes narrowed.skipped s (subst (λ (xs : List Shape). In s xs) (sym is) listed) b above less)
