-- The machines of the two by one encoding agree in all but the outputs that are left free, and no equation reads one of these.
use Rattle.std.proofs.Common.{◌≡◌, ◌⊎◌, inl, inr, ℕ, zero, suc, ◌+◌, ◌<◌, ◌≤◌, true, List, [], ◌∷◌, ◌++◌, map, length, codes, None, Some, unwrap_or, refl, sym, ap, subst, ◌∙◌, arith, length-append, append_assoc}
use Rattle.std.specs.List.{AllZip, slice_get}
use Rattle.vlsi_base.specs.declared.name.Name.{Name}
use Rattle.vlsi_base.specs.Member.{In, here, there, AllDifferent}
use Rattle.bool_expr.specs.Expression.{Expression, constant, IsOver, variables}
use Rattle.machine_core.specs.Machine.{Machine, Equation, Register}
use Rattle.machine_core.proofs.Known.{IsOver-In}
use Rattle.machine_free.specs.Free.{Reads, IsFreeOutput, MayDiffer, AreFree}
use Rattle.text_names.specs.Free.{IsFirstFree, candidate, is_free}
use Rattle.text_names.specs.Laws.{TextsAreFree}
use Rattle.fsm_machine.specs.Statements.{Statements}
use Rattle.fsm_machine.specs.Fsm.{Fsm, fsm_inputs, fsm_outputs}
use Rattle.fsm_machine.specs.Codes.{Codes}
use Rattle.fsm_machine.specs.Signals.{signals}
use Rattle.fsm_machine.specs.MachineOf.{up, named, port_places, placed_body, state_base, body_base, all_states, at_state, register_base, inner_expressions, output_expression, next_bit, equations_of, registers_of, code_names, machine_of}
use Rattle.fsm_machine.specs.Meaning.{IsEncoded}
use Rattle.fsm_machine.proofs.Ordered.{AreOver, inner_over}
use Rattle.fsm_machine.proofs.Step.{moved_count, length_code_names, length_inner}
use Rattle.syf_machine.specs.Named.{port_texts, inner_names, names_for, IsMachineOf}
use Rattle.syf_machine.proofs.Encoded.{is_encoded}
use Rattle.syf_machine.proofs.Lists.{here_by}
use Rattle.state_free.specs.Free.{AreFreeStatements}
use Rattle.state_free.specs.Law.{MachinesAreFree}
use Rattle.state_free.proofs.Alike.{with_body, high_is, same_signals, same_emitted}
use Rattle.state_free.proofs.Finals.{IsFreedBelow, same_next_bit, freed_output}

-- ---- names

either_way : (a b : ℕ) → (a < b) ⊎ ((a ≡ b) ⊎ (b < a))
either_way zero zero = inr (inl refl)
either_way zero (suc b) = inl (omega arith)
either_way (suc a) zero = inr (inr (omega arith))
either_way (suc a) (suc b) = elim (either_way a b) [
  | inl l ↦ inl (omega arith)
  | inr r ↦ elim r [ inl e ↦ inr (inl (omega arith)) | inr l ↦ inr (inr (omega arith)) ]
]

-- there is one first free text
pub one_first : (stem : List ℕ) (taken : List (List ℕ)) (a b : List ℕ) → IsFirstFree stem taken a → IsFirstFree stem taken b → a ≡ b
one_first stem taken a b h g = by (either_way h.place g.place) where
  never : (x y : List ℕ) (p : IsFirstFree stem taken x) (q : IsFirstFree stem taken y) → p.place < q.place → ⊥
  never x y p q l = let f = q.earlier p.place l in let t = ap (is_free taken) (sym p.is) ∙ p.free in absurd (cc (f, t))

  by : (h.place < g.place) ⊎ ((h.place ≡ g.place) ⊎ (g.place < h.place)) → a ≡ b
  by (inl l) = absurd (never a b h g l)
  by (inr (inl e)) = h.is ∙ ap (candidate stem) e ∙ sym g.is
  by (inr (inr l)) = absurd (never b a g h l)

-- ---- lists of equations

module _ (m : Machine) where
  pub same_zip : (es : List Equation) → AllZip (MayDiffer m) es es
  same_zip [] = tt
  same_zip (e ∷ es) = ((refl, inl refl), same_zip es)

  outputs_zip : (g h : Name → Expression) (names : List Name)
      → ((n : Name) → In n names → IsFreeOutput m (record { name = n; expr = g n }) (record { name = n; expr = h n }))
      → AllZip (MayDiffer m) (named names (map g names)) (named names (map h names))
  outputs_zip g h [] free = tt
  outputs_zip g h (n ∷ names) free = ((refl, inr (free n here)), outputs_zip g h names (λ x i. free x (there i)))

  pub all_zip : (g h : Name → Expression) (inner : List Name) (es : List Expression) (names : List Name) → length inner ≡ length es
      → ((n : Name) → In n names → IsFreeOutput m (record { name = n; expr = g n }) (record { name = n; expr = h n }))
      → AllZip (MayDiffer m) (named (inner ++ names) (es ++ map g names)) (named (inner ++ names) (es ++ map h names))
  all_zip g h [] [] names l free = outputs_zip g h names free
  all_zip g h [] (e ∷ es) names l free = absurd (omega arith)
  all_zip g h (x ∷ inner) [] names l free = absurd (omega arith)
  all_zip g h (x ∷ inner) (e ∷ es) names l free = ((refl, inl refl), all_zip g h inner es names (omega arith) free)

-- each of the named expressions reads what stands below m
module _ (m : ℕ) where
  outputs_below : (g : Name → Expression) (names : List Name) → ((n : Name) → IsOver (g n) m) → (e : Equation) → In e (named names (map g names)) → IsOver e.expr m
  outputs_below g [] over e i = absurd (elim i [ ])
  outputs_below g (n ∷ names) over e here = over n
  outputs_below g (n ∷ names) over e (there i) = outputs_below g names over e i

  over_more : (e : Expression) (n : ℕ) → n ≤ m → ((k : ℕ) → In k (variables e) → k < n) → (k : ℕ) → In k (variables e) → k < m
  over_more e n l h k i = let b = h k i in omega arith

  pub reads_below : (g : Name → Expression) (inner : List Name) (n : ℕ) (es : List Expression) (names : List Name) → length inner ≡ length es
      → AreOver n es → n + length es ≤ m → ((x : Name) → IsOver (g x) m)
      → (e : Equation) → In e (named (inner ++ names) (es ++ map g names)) → (k : ℕ) → In k (variables e.expr) → k < m
  reads_below g [] n [] names l over fits outs e i k j = IsOver-In e.expr m (outputs_below g names outs e i) k j
  reads_below g [] n (x ∷ es) names l over fits outs e i k j = absurd (omega arith)
  reads_below g (y ∷ inner) n [] names l over fits outs e i k j = absurd (omega arith)
  reads_below g (y ∷ inner) n (x ∷ es) names l over fits outs e here k j = over_more x n (omega arith) (IsOver-In x n over.0) k j
  reads_below g (y ∷ inner) n (x ∷ es) names l over fits outs e (there i) k j =
      reads_below g inner (suc n) es names (omega arith) over.1 (omega arith) outs e i k j

-- a name that stands below a number of names is one of the first ones
got_first : (first last : List Name) (k : ℕ) (x : Name) → k < length first → slice_get (first ++ last) k ≡ Some x → In x first
got_first [] last k x l e = absurd (omega arith)
got_first (y ∷ first) last zero x l e = here_by x y first (ap (λ o. unwrap_or o x) (sym e))
got_first (y ∷ first) last (suc k) x l e = there (got_first first last k x (omega arith) e)

different_ends : (xs ys : List Name) (x : Name) → AllDifferent (xs ++ ys) → In x xs → In x ys → ⊥
different_ends (y ∷ xs) ys x d here j = d.0 (in_last xs x j) where
  in_last : (xs : List Name) (x : Name) → In x ys → In x (xs ++ ys)
  in_last [] x j = j
  in_last (y ∷ xs) x j = there (in_last xs x j)
different_ends (y ∷ xs) ys x d (there i) j = different_ends xs ys x d.1 i j
different_ends [] ys x d i j = elim i [ ]

-- ---- the machines

module _ (f : Fsm) (b : Statements) (c : Codes) (free : AreFreeStatements f.body b) where
  abbrev pub high : Fsm
  high = with_body f b

  pub same_inner : inner_expressions high c ≡ inner_expressions f c
  same_inner =
      ap (λ (xs : List Expression). map (at_state c (register_base f)) (all_states f) ++ xs)
      (same_emitted (λ s. state_base f c + s) (all_states f) (port_places f) None (body_base f c) f.body b free)

  pub same_names : inner_names high ≡ inner_names f
  same_names =
      let count : signals b ≡ signals f.body = sym (moved_count (port_places f) b) ∙ same_signals (port_places f) f.body b free ∙ moved_count (port_places f) f.body in
      ap (λ k. names_for f.ports (length f.states + k)) count

  same_registers : (st : List ℕ) → registers_of high c st ≡ registers_of f c st
  same_registers st = each (up 0 c.width) where
    register : (ℕ → Expression) → ℕ → Register
    register g k = record { name = record { text = st; bit = Some k }; next = g k; enable = constant true }

    each : (ks : List ℕ) → map (register (next_bit high c)) ks ≡ map (register (next_bit f c)) ks
    each [] = refl
    each (k ∷ ks) =
        λ j. record { name = record { text = st; bit = Some k }; next = same_next_bit c k (port_places f) (body_base f c) f.body b free j; enable = constant true } ∷ each ks j

  module _ (st : List ℕ) (h : IsEncoded f c st (inner_names f)) where
    abbrev pub m : Machine
    m = machine_of f c st (inner_names f)

    -- how many names stand before the outputs
    abbrev many : ℕ
    many = state_base f c + length (inner_expressions f c)

    abbrev first_names : List Name
    first_names = (fsm_inputs f ++ code_names st c.width) ++ inner_names f

    names_each : length first_names ≡ many
    names_each =
        let a = length-append (fsm_inputs f ++ code_names st c.width) (inner_names f) in
        let b = length-append (fsm_inputs f) (code_names st c.width) in
        let d = length_code_names st c.width in
        let e = h.count ∙ sym (length_inner f c) in omega arith

    vars_are : m.vars ≡ first_names ++ fsm_outputs f
    vars_are = sym (append_assoc (fsm_inputs f ++ code_names st c.width) (inner_names f) (fsm_outputs f))

    fits : body_base f c + signals (placed_body f) ≤ many
    fits = let e = length_inner f c in let g = moved_count (port_places f) f.body in omega arith

    freed : (n : Name) → IsFreedBelow many (output_expression f c n) (output_expression high c n)
    freed n = freed_output f many (omega arith) n (body_base f c) f.body b free fits

    -- no equation reads an output
    unread : (n : Name) → In n (fsm_outputs f) → (e : Equation) → In e m.equations → Reads m.vars e.expr n → ⊥
    unread n i e among r =
        let below = reads_below many (output_expression f c) (inner_names f) (state_base f c) (inner_expressions f c) (fsm_outputs f) (h.count ∙ sym (length_inner f c))
        (inner_over f c st (inner_names f) h) (omega arith) (λ x. (freed x).0) e among r.0 r.1 in
        let got = subst (λ (names : List Name). slice_get names r.0 ≡ Some n) vars_are r.2 in
        different_ends first_names (fsm_outputs f) n (subst AllDifferent vars_are h.names)
        (got_first first_names (fsm_outputs f) r.0 n (subst (λ k. r.0 < k) (sym names_each) below) got) i

    equations : AllZip (MayDiffer m) m.equations (equations_of high c (inner_names high))
    equations =
        let outs = fsm_outputs f in
        subst (λ (names : List Name). AllZip (MayDiffer m) m.equations (equations_of high c names)) (sym same_names)
        (subst (λ (es : List Expression). AllZip (MayDiffer m) m.equations (named (inner_names f ++ outs) (es ++ map (output_expression high c) outs))) (sym same_inner)
        (all_zip m (output_expression f c) (output_expression high c) (inner_names f) (inner_expressions f c) outs (h.count ∙ sym (length_inner f c))
        (λ n i. record { output = i; freed = (freed n).1; unread = unread n i })))

    pub are_free : AreFree m (machine_of high c st (inner_names high))
    are_free = record {
      name = refl;
      ports = refl;
      clock = refl;
      vars = ap (λ (names : List Name). (fsm_inputs f ++ code_names st c.width) ++ (names ++ fsm_outputs f)) same_names;
      registers = same_registers st;
      equations = equations;
    }

pub machines_are_free : TextsAreFree → MachinesAreFree
machines_are_free texts low high c m k checked are free lm hm =
    let b = high.body in
    let other : IsMachineOf (with_body low b) c k = subst (λ (f : Fsm). IsMachineOf f c k) (high_is low high free) hm in
    let st : lm.st ≡ other.st = one_first (codes "st") (port_texts low) lm.st other.st lm.first other.first in
    let e = is_encoded low c lm.st texts checked are lm.first lm.few in
    let made = are_free low b c free.body lm.st e in
    let is : machine_of (with_body low b) c lm.st (inner_names (with_body low b)) ≡ k =
    ap (λ (text : List ℕ). machine_of (with_body low b) c text (inner_names (with_body low b))) st ∙ sym other.is in
    subst (λ (x : Machine). AreFree x k) (sym lm.is) (subst (λ (x : Machine). AreFree (machine_of low c lm.st (inner_names low)) x) is made)
