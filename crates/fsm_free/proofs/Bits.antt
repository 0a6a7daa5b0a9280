-- The statements bit by bit, with each free bit 0 and with each 1.
use Rattle.std.proofs.Common.{◌≡◌, ℕ, Bool, true, false, cond, List, [], ◌∷◌, map, Option, None, Some, refl, sym, ap, subst, ◌∙◌, bytes_eq, inl, inr}
use Rattle.std.specs.Prelude.{◌||◌, ◌&&◌}
use Rattle.vlsi_base.specs.declared.name.Name.{Name}
use Rattle.vlsi_base.specs.declared.name.Port.{Port}
use Rattle.vlsi_base.specs.Tree.{Tree, bit}
use Rattle.bool_expr.specs.Expression.{Expression, constant}
use Rattle.bool_expr.specs.Support.{among}
use Rattle.machine_core.specs.Machine.{names_of}
use Rattle.source_checks.specs.Elaboration.{port_bits}
use Rattle.source_checks.specs.Formula.{Formula, fixed, formulas, numbered}
use Rattle.source_checks.specs.Drivers.{target_names}
use Rattle.source_checks.specs.declared.statement.Target.{Target}
use Rattle.vlsi_model.proofs.OneOrder.{one_order}
use Rattle.fsm_machine.specs.Statements as s
use Rattle.fsm_machine.specs.Assigned.{sure, sure_parts, sure_branches}
use Rattle.fsm_machine.specs.Fsm.{Fsm}
use Rattle.fsm_text.specs.Written.{StatementTree, asserted, assigned, chosen, selected, BodyTree, finish, next, PartsTree, only, either, further, BranchesTree, closed, others, listed, MachineTree}
use Rattle.fsm_io.specs.Known.{Named, symbols}
use Rattle.fsm_io.specs.Elaboration.{Frame, frame_of, state_number, next_number, assign_bits, assignment_bits, condition_of, body_bits, statement_bits, parts_bits, branches_bits, IsMachineOf}
use Rattle.fsm_io.proofs.Surely.{Blind}
use Rattle.state_free.specs.Free.{IsFreeAssignment, AreFreeStatements, AreFreeParts, AreFreeBranches, AreFreeFsm}
use Rattle.free_tokens.specs.Filled.{free_line, filled_with}
use Rattle.fsm_free.specs.Filled.{filled_statement, filled_body, filled_parts, filled_branches, filled}
use Rattle.fsm_free.specs.Laws.{FilledAgree}

-- ---- they agree in all but the free bits

same_bits : (vars ks : List Name) (xs : List Formula) (a b : s.Statements) → AreFreeStatements a b → AreFreeStatements (assign_bits vars ks xs a) (assign_bits vars ks xs b)
same_bits vars [] xs a b h = h
same_bits vars (k ∷ ks) [] a b h = h
same_bits vars (k ∷ ks) (x ∷ xs) a b h = (s.output k (numbered vars x), assign_bits vars ks xs b, refl, (inl refl, same_bits vars ks xs a b h))

freed_bits : (vars ks : List Name) (a b : s.Statements) → AreFreeStatements a b → AreFreeStatements (assign_bits vars ks (fixed false ∷ []) a) (assign_bits vars ks (fixed true ∷ []) b)
freed_bits vars [] a b h = h
freed_bits vars (k ∷ ks) a b h = (s.output k (constant true), assign_bits vars ks [] b, refl, (inr (refl, refl), same_bits vars ks [] a b h))

free_assignment : (f : Frame) (t : Target) (e : Tree) (o : Option ℕ) (a b : s.Statements) → AreFreeStatements a b
    → AreFreeStatements (assignment_bits f t (filled_with false e o) a) (assignment_bits f t (filled_with true e o) b)
free_assignment f t e None a b h = by (bytes_eq t.name f.next) where
  by : (c : Bool) → AreFreeStatements (cond c (s.assign (s.next (next_number f.states e)) a) (assign_bits f.vars (target_names f.known t) (formulas f.known e) a))
      (cond c (s.assign (s.next (next_number f.states e)) b) (assign_bits f.vars (target_names f.known t) (formulas f.known e) b))
  by true = (s.next (next_number f.states e), b, refl, (refl, h))
  by false = same_bits f.vars (target_names f.known t) (formulas f.known e) a b h
free_assignment f t e (Some line) a b h = by (bytes_eq t.name f.next) where
  by : (c : Bool) → AreFreeStatements (cond c (s.assign (s.next 0) a) (assign_bits f.vars (target_names f.known t) (fixed false ∷ []) a))
      (cond c (s.assign (s.next 0) b) (assign_bits f.vars (target_names f.known t) (fixed true ∷ []) b))
  by true = (s.next 0, b, refl, (refl, h))
  by false = freed_bits f.vars (target_names f.known t) a b h

mutual
  pub free_body : (f : Frame) (t : BodyTree) → AreFreeStatements (body_bits f (filled_body false t)) (body_bits f (filled_body true t))
  free_body f finish = refl
  free_body f (next st rest) = free_statement f st (body_bits f (filled_body false rest)) (body_bits f (filled_body true rest)) (free_body f rest)

  free_statement : (f : Frame) (st : StatementTree) (a b : s.Statements) → AreFreeStatements a b
      → AreFreeStatements (statement_bits f (filled_statement false st) a) (statement_bits f (filled_statement true st) b)
  free_statement f (asserted e) a b h = h
  free_statement f (assigned t first e) a b h = free_assignment f t e (free_line e) a b h
  free_statement f (chosen parts) a b h = (parts_bits f (filled_parts true parts), b, refl, (free_parts f parts, h))
  free_statement f (selected line called branches) a b h = (branches_bits f (filled_branches true branches), b, refl, (free_branches f branches, h))

  free_parts : (f : Frame) (p : PartsTree) → AreFreeParts (parts_bits f (filled_parts false p)) (parts_bits f (filled_parts true p))
  free_parts f (only line c a) = (body_bits f (filled_body true a), refl, free_body f a)
  free_parts f (either line c a d) = (body_bits f (filled_body true a), body_bits f (filled_body true d), refl, (free_body f a, free_body f d))
  free_parts f (further line c a more) = (body_bits f (filled_body true a), parts_bits f (filled_parts true more), refl, (free_body f a, free_parts f more))

  free_branches : (f : Frame) (t : BranchesTree) → AreFreeBranches (branches_bits f (filled_branches false t)) (branches_bits f (filled_branches true t))
  free_branches f closed = refl
  free_branches f (others a) = (body_bits f (filled_body true a), refl, free_body f a)
  free_branches f (listed names a more) = (body_bits f (filled_body true a), branches_bits f (filled_branches true more), refl, (free_body f a, free_branches f more))

pub filled_agree : FilledAgree
filled_agree m n low high lo hi =
    let ports : high.ports ≡ low.ports = one_order (λ (p : Port). p.name) (port_bits (symbols m)) high.ports low.ports hi.ports lo.ports hi.ordered lo.ordered in
    let over : high.body ≡ body_bits (frame_of m n (names_of low.ports)) (filled_body true m.step.body) =
    hi.body ∙ ap (λ (ps : List Port). body_bits (frame_of m n (names_of ps)) (filled_body true m.step.body)) ports in
    record {
      name = hi.name ∙ sym lo.name;
      ports = ports;
      clock = hi.clock ∙ sym lo.clock;
      states = hi.states ∙ sym lo.states;
      body = subst (λ (a : s.Statements). AreFreeStatements a high.body) (sym lo.body)
          (subst (λ (b : s.Statements). AreFreeStatements (body_bits (frame_of m n (names_of low.ports)) (filled_body false m.step.body)) b) (sym over)
          (free_body (frame_of m n (names_of low.ports)) m.step.body));
    }

-- ---- and assign alike

assignment_sure : (sets : s.Assignment → Bool) → Blind sets → (x y : s.Assignment) → IsFreeAssignment x y → sets y ≡ sets x
assignment_sure sets blind (s.output k e) y (inl same) = ap sets same
assignment_sure sets blind (s.output k e) y (inr freed) = ap sets freed.1 ∙ blind k (constant true) e
assignment_sure sets blind (s.next q) y same = ap sets same

mutual
  pub statements_sure : (sets : s.Assignment → Bool) → Blind sets → (q : ℕ) (a b : s.Statements) → AreFreeStatements a b → sure sets q b ≡ sure sets q a
  statements_sure sets blind q s.finish b h = ap (sure sets q) h
  statements_sure sets blind q (s.assign x rest) b h =
      ap (sure sets q) h.2 ∙ ap (λ (t : Bool). t || sure sets q h.1) (assignment_sure sets blind x h.0 h.3.0)
      ∙ ap (λ (t : Bool). sets x || t) (statements_sure sets blind q rest h.1 h.3.1)
  statements_sure sets blind q (s.choose parts rest) b h =
      ap (sure sets q) h.2 ∙ ap (λ (t : Bool). t || sure sets q h.1) (parts_sure sets blind q parts h.0 h.3.0)
      ∙ ap (λ (t : Bool). sure_parts sets q parts || t) (statements_sure sets blind q rest h.1 h.3.1)
  statements_sure sets blind q (s.select branches rest) b h =
      ap (sure sets q) h.2 ∙ ap (λ (t : Bool). t || sure sets q h.1) (branches_sure sets blind q branches h.0 h.3.0)
      ∙ ap (λ (t : Bool). sure_branches sets q branches || t) (statements_sure sets blind q rest h.1 h.3.1)

  parts_sure : (sets : s.Assignment → Bool) → Blind sets → (q : ℕ) (a b : s.Parts) → AreFreeParts a b → sure_parts sets q b ≡ sure_parts sets q a
  parts_sure sets blind q (s.only c a) b h = ap (sure_parts sets q) h.1
  parts_sure sets blind q (s.either c a d) b h =
      ap (sure_parts sets q) h.2 ∙ ap (λ (t : Bool). t && sure sets q h.1) (statements_sure sets blind q a h.0 h.3.0)
      ∙ ap (λ (t : Bool). sure sets q a && t) (statements_sure sets blind q d h.1 h.3.1)
  parts_sure sets blind q (s.further c a more) b h =
      ap (sure_parts sets q) h.2 ∙ ap (λ (t : Bool). t && sure_parts sets q h.1) (statements_sure sets blind q a h.0 h.3.0)
      ∙ ap (λ (t : Bool). sure sets q a && t) (parts_sure sets blind q more h.1 h.3.1)

  branches_sure : (sets : s.Assignment → Bool) → Blind sets → (q : ℕ) (a b : s.Branches) → AreFreeBranches a b → sure_branches sets q b ≡ sure_branches sets q a
  branches_sure sets blind q s.closed b h = ap (sure_branches sets q) h
  branches_sure sets blind q (s.others a) b h = ap (sure_branches sets q) h.1 ∙ statements_sure sets blind q a h.0 h.2
  branches_sure sets blind q (s.listed states a more) b h =
      ap (sure_branches sets q) h.2 ∙ ap (λ (t : Bool). cond (among q states) t (sure_branches sets q h.1)) (statements_sure sets blind q a h.0 h.3.0)
      ∙ ap (λ (t : Bool). cond (among q states) (sure sets q a) t) (branches_sure sets blind q more h.1 h.3.1)
