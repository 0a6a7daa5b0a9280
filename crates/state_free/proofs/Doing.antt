-- What the machines of both may do in a cycle, and in runs.
--
-- A valuation that is left free gives each signal inside the value of its equation, which is the same in both machines. So each output
-- has the value of its equation in the one or in the other, and these are what the walks through the statements leave.
use Rattle.std.proofs.Common.{◌≡◌, ◌⊎◌, inl, inr, ℕ, ◌+◌, ◌<◌, Bool, true, false, List, [], ◌∷◌, ◌++◌, map, length, codes, is_some, Option, None, Some, refl, sym, ap, subst, ◌∙◌, arith, append_assoc, length-append, if◌then◌else◌}
use Rattle.std.specs.List.{All, AllZip}
use Rattle.std.specs.Option.{option_map}
use Rattle.std.proofs.lemmas.List.{length-map}
use Rattle.std.proofs.lemmas.List.Elements.{All-nil, All-cons, All-head, All-tail}
use Rattle.vlsi_base.specs.declared.name.Name.{Name}
use Rattle.vlsi_base.specs.Member.{In, here, there}
use Rattle.bool_expr.specs.Expression.{Expression, val}
use Rattle.machine_core.specs.Named.{is_same_name, value_at, values_at}
use Rattle.machine_core.specs.Machine.{Machine, Equation, names_of}
use Rattle.machine_core.specs.Runs.{Trace}
use Rattle.machine_core.specs.Cycles.{outs, next as next_contents, AreVectors}
use Rattle.machine_free.specs.Cycles.{May, FreeSettles, FreeRunOf}
use Rattle.text_names.specs.Laws.{TextsAreFree}
use Rattle.fsm_machine.specs.Statements.{Statements, Assignment, output, next}
use Rattle.fsm_machine.specs.Walk.{given_output}
use Rattle.fsm_machine.specs.Fsm.{Fsm, fsm_inputs, fsm_outputs, seen, walked_next, walked_output, Resets}
use Rattle.fsm_machine.specs.Assigned.{AssignedIsKnown}
use Rattle.fsm_machine.specs.Codes.{Codes, code_of}
use Rattle.fsm_machine.specs.Holds.{Holds}
use Rattle.fsm_machine.specs.Starts.{Starts}
use Rattle.fsm_machine.specs.Moved.{substituted, moved_assignment}
use Rattle.fsm_machine.specs.Signals.{emitted}
use Rattle.fsm_machine.specs.MachineOf.{named, place_of, port_places, placed_body, state_base, body_base, all_states, at_state, register_base, inner_expressions, output_expression, output_given, equations_of, code_names, machine_of}
use Rattle.fsm_machine.specs.Meaning.{IsEncoded}
use Rattle.fsm_machine.proofs.ByName.{starts_from, holds_from, place_value}
use Rattle.fsm_machine.proofs.Holding.{holds_split}
use Rattle.fsm_machine.proofs.Moving.{values_of, substituted_value}
use Rattle.fsm_machine.proofs.Off.{worth}
use Rattle.fsm_machine.proofs.On.{Agrees, Placed}
use Rattle.fsm_machine.proofs.Running.{next_below}
use Rattle.fsm_machine.proofs.States.{length_up}
use Rattle.fsm_machine.proofs.Step.{Valued, register_names_are, length_code_names, length_inner, target, next_code, placed_with}
use Rattle.fsm_core.specs.Checked.{IsCheckedFsm}
use Rattle.syf_machine.specs.Named.{port_texts, inner_names, IsMachineOf}
use Rattle.syf_machine.proofs.Encoded.{is_encoded}
use Rattle.syf_machine.proofs.Lists.{in_contains, some_value}
use Rattle.state_free.specs.Free.{AreFreeStatements}
use Rattle.state_free.specs.Runs.{MayShow, FreeFsmRun}
use Rattle.state_free.specs.Meaning.{MayDoAs}
use Rattle.state_free.specs.Law.{MachinesMayDoAs}
use Rattle.state_free.proofs.Alike.{with_body, high_is, same_emitted}
use Rattle.state_free.proofs.Checks.{is_checked}
use Rattle.state_free.proofs.Machines.{same_inner, same_names, one_first}
use Rattle.state_free.proofs.Running.{free_runs}

-- ---- equations of one name

one_bit : {b c : Bool} → (b ≡ c) ⊎ (b ≡ c) → b ≡ c
one_bit (inl h) = h
one_bit (inr h) = h

module _ (vars : List Name) (w : List Bool) where
  abbrev MayBe : Equation → Equation → Type 0
  MayBe e f = May e.expr f.expr w (value_at vars w e.name)

  abbrev Is : Equation → Type 0
  Is e = value_at vars w e.name ≡ val e.expr w

  -- the same expressions hold, and what stands behind them may be
  parts : (inner : List Name) (es : List Expression) (names : List Name) (xs ys : List Expression) → length inner ≡ length es
      → AllZip MayBe (named (inner ++ names) (es ++ xs)) (named (inner ++ names) (es ++ ys)) → All Is (named inner es) × AllZip MayBe (named names xs) (named names ys)
  parts [] [] names xs ys l h = (All-nil Is, h)
  parts [] (e ∷ es) names xs ys l h = absurd (omega arith)
  parts (n ∷ inner) [] names xs ys l h = absurd (omega arith)
  parts (n ∷ inner) (e ∷ es) names xs ys l h =
      let rest = parts inner es names xs ys (omega arith) h.1 in
      (All-cons Is (record { name = n; expr = e }) (named inner es) (one_bit h.0) rest.0, rest.1)

  shown : (g h : Name → Expression) (P : Name → Bool → Type 0) (names : List Name) → ((n : Name) → In n names → P n (val (g n) w))
      → ((n : Name) → In n names → P n (val (h n) w)) → AllZip MayBe (named names (map g names)) (named names (map h names))
      → AllZip P names (map (value_at vars w) names)
  shown g h P [] one other may = tt
  shown g h P (n ∷ names) one other may = (by may.0, shown g h P names (λ x i. one x (there i)) (λ x i. other x (there i)) may.1) where
    by : May (g n) (h n) w (value_at vars w n) → P n (value_at vars w n)
    by (inl e) = subst (P n) (sym e) (one n here)
    by (inr e) = subst (P n) (sym e) (other n here)

-- ---- values of the statements

ports_valued : (ports names : List Name) (i w : List Bool) → Starts 0 i w → length i ≡ length names
    → values_of (map (place_of 0 names) ports) w ≡ values_at names i ports
ports_valued [] names i w s l = refl
ports_valued (p ∷ ports) names i w s l =
    ap (λ b. b ∷ values_of (map (place_of 0 names) ports) w) (place_value 0 names i w p s l) ∙ ap (λ bs. value_at names i p ∷ bs) (ports_valued ports names i w s l)

same_output : (f : Fsm) (i w : List Bool) (name : Name) → values_of (port_places f) w ≡ seen f i
    → (a : Assignment) → worth (output_given name) w (moved_assignment (port_places f) a) ≡ option_map (λ (b : Bool). b) (given_output (seen f i) name a)
same_output f i w name inputs (output place e) =
    let v : val (substituted (port_places f) e) w ≡ val e (seen f i) = substituted_value (port_places f) w e ∙ ap (λ (bits : List Bool). val e bits) inputs in
    elim (is_same_name place name) as (λ t. option_map (λ e. val e w) (if t then Some (substituted (port_places f) e) else None) ≡ option_map (λ (b : Bool). b) (if t then Some (val e (seen f i)) else None)) [
      | true ↦ ap (λ b. Some b) v
      | false ↦ refl
    ]
same_output f i w name inputs (next s) = refl

known_value : (o : Option Bool) (b : Bool) → is_some o ≡ true → Agrees (option_map (λ (x : Bool). x) o) b → o ≡ Some b
known_value None b h a = absurd (cc h)
known_value (Some x) b h a = ap Some (sym a)

-- an output that the walk knows has that value
output_value : (f : Fsm) (c : Codes) (contents i w : List Bool) → Valued f c contents i w → IsCheckedFsm f → (s : ℕ)
    → Placed (λ s. state_base f c + s) w (Some s) (all_states f) → (n : Name) → is_some (walked_output f i (Some s) n) ≡ true
    → walked_output f i (Some s) n ≡ Some (val (output_expression f c n) w)
output_value f c contents i w v checked s placed n known =
    known_value (walked_output f i (Some s) n) (val (output_expression f c n) w) known
    (target f c contents i w v checked.sound (Some s) placed (λ (b : Bool). b) (given_output (seen f i) n) (output_given n) (same_output f i w n v.inputs))

-- ---- both machines

module _ (f : Fsm) (b : Statements) (c : Codes) (free : AreFreeStatements f.body b) (st : List ℕ) (h : IsEncoded f c st (inner_names f))
    (known : AssignedIsKnown) (checked : IsCheckedFsm f) where
  abbrev g : Fsm
  g = with_body f b

  abbrev m : Machine
  m = machine_of f c st (inner_names f)

  abbrev k : Machine
  k = machine_of g c st (inner_names g)

  counts : length (inner_names f) ≡ length (inner_expressions f c)
  counts = h.count ∙ sym (length_inner f c)

  equations : (contents i w : List Bool) → FreeSettles m k contents i w
      → All (Is m.vars w) (named (inner_names f) (inner_expressions f c))
      × AllZip (MayBe m.vars w) (named (fsm_outputs f) (map (output_expression f c) (fsm_outputs f))) (named (fsm_outputs f) (map (output_expression g c) (fsm_outputs f)))
  equations contents i w settles =
      let outs = fsm_outputs f in
      parts m.vars w (inner_names f) (inner_expressions f c) outs (map (output_expression f c) outs) (map (output_expression g c) outs) counts
      (subst (λ (es : List Expression). AllZip (MayBe m.vars w) m.equations (named (inner_names f ++ outs) (es ++ map (output_expression g c) outs))) (same_inner f b c free)
      (subst (λ (names : List Name). AllZip (MayBe m.vars w) m.equations (equations_of g c names)) (same_names f b c free) settles.equations))

  valued : (contents i w : List Bool) → length i ≡ length (fsm_inputs f) → FreeSettles m k contents i w → Valued f c contents i w
  valued contents i w l settles =
      let front = fsm_inputs f in
      let bits = code_names st c.width in
      let inner = inner_names f in
      let outs = fsm_outputs f in
      let from_inputs : Starts 0 (values_at m.vars w front) w =
      starts_from m.vars [] front (bits ++ (inner ++ outs)) w (append_assoc front bits (inner ++ outs)) h.names settles.each in
      let from_codes : Starts (length front) (values_at m.vars w bits) w =
      starts_from m.vars front bits (inner ++ outs) w (append_assoc front bits (inner ++ outs)) h.names settles.each in
      let from_names : Starts (length (front ++ bits)) (values_at m.vars w inner) w =
      starts_from m.vars (front ++ bits) inner outs w refl h.names settles.each in
      let P : List Bool → Type 0 = λ xs. Starts 0 xs w in
      let Q : List Bool → Type 0 = λ xs. Starts (length front) xs w in
      let held : values_at m.vars w bits ≡ contents = ap (λ (names : List Name). values_at m.vars w names) (sym (register_names_are f c st inner)) ∙ settles.registers in
      let all = holds_from m.vars w (length (front ++ bits)) inner (inner_expressions f c) counts from_names (equations contents i w settles).0 in
      let base : length (front ++ bits) ≡ state_base f c = (let a = length-append front bits in let b = length_code_names st c.width in omega arith) in
      let R : ℕ → Type 0 = λ n. Holds n (inner_expressions f c) w in
      let two = holds_split (state_base f c) (length f.states) (map (at_state c (register_base f)) (all_states f))
      (emitted (λ s. state_base f c + s) (all_states f) None (body_base f c) (placed_body f)) w
      (length-map (all_states f) (at_state c (register_base f)) ∙ length_up 0 (length f.states)) (subst R base all) in
      record {
        registers = subst Q held from_codes;
        inputs = ports_valued (names_of f.ports) front i w (subst P settles.inputs from_inputs) l;
        states = two.0;
        body = two.1;
      }

  -- so it is in the other machine
  valued_too : (contents i w : List Bool) → Valued f c contents i w → Valued g c contents i w
  valued_too contents i w v = record {
    registers = v.registers;
    inputs = v.inputs;
    states = v.states;
    body = subst (λ (es : List Expression). Holds (body_base f c) es w)
        (sym (same_emitted (λ s. state_base f c + s) (all_states f) (port_places f) None (body_base f c) f.body b free)) v.body;
  }

  also : IsCheckedFsm g
  also = is_checked f b free checked

  outputs : (s : ℕ) (i w : List Bool) → s < length f.states → length i ≡ length (fsm_inputs f) → FreeSettles m k (code_of c s) i w
      → AllZip (λ n x. MayShow f g i s n x) (fsm_outputs f) (outs m w)
  outputs s i w below l settles =
      let v = valued (code_of c s) i w l settles in
      let u = valued_too (code_of c s) i w v in
      let placed = placed_with f c s i w h.codes below v in
      shown m.vars w (output_expression f c) (output_expression g c) (λ n x. MayShow f g i s n x) (fsm_outputs f)
      (λ n j. inl (output_value f c (code_of c s) i w v checked s placed n ((known f i s checked.assigned below).1 n (in_contains n (fsm_outputs f) j))))
      (λ n j. inr (output_value g c (code_of c s) i w u also s placed n ((known g i s also.assigned below).1 n (in_contains n (fsm_outputs f) j))))
      (equations (code_of c s) i w settles).1

  states : (s t : ℕ) (i w : List Bool) → s < length f.states → length i ≡ length (fsm_inputs f) → FreeSettles m k (code_of c s) i w
      → walked_next f i (Some s) ≡ Some t → next_contents m w ≡ code_of c t
  states s t i w below l settles walked =
      let v = valued (code_of c s) i w l settles in
      next_code f c st (inner_names f) h (code_of c s) i w v (Some s) (placed_with f c s i w h.codes below v) t
      (next_below f c st (inner_names f) h i (Some s) t walked) walked

  resets : (contents i w : List Bool) (r : ℕ) → length contents ≡ c.width → length i ≡ length (fsm_inputs f)
      → FreeSettles m k contents i w → Resets f i r → next_contents m w ≡ code_of c r
  resets contents i w r wide l settles to =
      next_code f c st (inner_names f) h contents i w (valued contents i w l settles) None tt r (next_below f c st (inner_names f) h i None r to) to

  abbrev Follows : List Bool → List (List Bool) → List (List Bool) → Type 0
  Follows contents v ws = Trace (FreeSettles m k) (next_contents m) contents v ws

  runs : (v : List (List Bool)) (s : ℕ) (y ws : List (List Bool)) → s < length f.states → AreVectors m v → Follows (code_of c s) v ws
      → y ≡ map (outs m) ws → FreeFsmRun f g s v y
  runs [] s y ws below vectors t is = is ∙ ap (map (outs m)) t
  runs (i ∷ v) s y ws below vectors (w, settles, (rest, are, t)) is =
      let long = All-head (λ (i : List Bool). length i ≡ length (fsm_inputs f)) i v vectors in
      let later = All-tail (λ (i : List Bool). length i ≡ length (fsm_inputs f)) i v vectors in
      let to = some_value (walked_next f i (Some s)) (known f i s checked.assigned below).0 in
      let code = states s to.0 i w below long settles to.1 in (
        outs m w,
        outputs s i w below long settles,
        (
          to.0,
          to.1,
          (
            map (outs m) rest,
            is ∙ ap (map (outs m)) are,
            runs v to.0 (map (outs m) rest) rest (next_below f c st (inner_names f) h i (Some s) to.0 to.1) later
                (subst (λ contents. Follows contents v rest) code t) refl,
          ),
        ),
      )

  reset_runs : (contents i : List Bool) (r : ℕ) (v y : List (List Bool)) → length contents ≡ c.width → AreVectors m (i ∷ v) → Resets f i r
      → FreeRunOf m k contents (i ∷ v) y → (first : List Bool) × (rest : List (List Bool)) × (y ≡ first ∷ rest) × FreeFsmRun f g r v rest
  reset_runs contents i r v y wide vectors to (ws, (w, settles, (rest, are, t)), is) =
      let long = All-head (λ (i : List Bool). length i ≡ length (fsm_inputs f)) i v vectors in
      let later = All-tail (λ (i : List Bool). length i ≡ length (fsm_inputs f)) i v vectors in
      let code = resets contents i w r wide long settles to in (
        outs m w,
        map (outs m) rest,
        is ∙ ap (map (outs m)) are,
        runs v r (map (outs m) rest) rest (next_below f c st (inner_names f) h i None r to) later (subst (λ contents. Follows contents v rest) code t) refl,
      )

  pub may_do_as : MayDoAs f g c m k
  may_do_as = record {
    outputs = outputs;
    states = states;
    resets = resets;
    runs = λ s v y below vectors run. runs v s y run.0 below vectors run.1 run.2;
    each = λ s v below. free_runs known f g s v checked (record { name = refl; ports = refl; clock = refl; states = refl; body = free }) below;
    reset_runs = reset_runs;
  }

pub machines_may_do_as : TextsAreFree → AssignedIsKnown → MachinesMayDoAs
machines_may_do_as texts known low high c m k checked are free lm hm =
    let b = high.body in
    let is = high_is low high free in
    let other : IsMachineOf (with_body low b) c k = subst (λ (f : Fsm). IsMachineOf f c k) is hm in
    let st : lm.st ≡ other.st = one_first (codes "st") (port_texts low) lm.st other.st lm.first other.first in
    let e = is_encoded low c lm.st texts checked are lm.first lm.few in
    let made = may_do_as low b c free.body lm.st e known checked in
    let same : machine_of (with_body low b) c lm.st (inner_names (with_body low b)) ≡ k =
    ap (λ (text : List ℕ). machine_of (with_body low b) c text (inner_names (with_body low b))) st ∙ sym other.is in
    subst (λ (f : Fsm). MayDoAs low f c m k) (sym is)
    (subst (λ (x : Machine). MayDoAs low (with_body low b) c x k) (sym lm.is)
    (subst (λ (x : Machine). MayDoAs low (with_body low b) c (machine_of low c lm.st (inner_names low)) x) same made))
