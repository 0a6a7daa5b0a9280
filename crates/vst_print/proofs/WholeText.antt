-- What is laid out of a structural text spells it.
use Rattle.std.proofs.Common.{◌≡◌, ℕ, ◌+◌, ◌-◌, ◌≤◌, ◌==◌, Bool, true, false, List, [], ◌∷◌, ◌++◌, map, refl, sym, ap, subst, ◌∙◌, append-nil, append_assoc}
use Rattle.vhdl_token.specs.declared.keyword.Keyword.TheVariants as word
use Rattle.vhdl_token.specs.declared.token.Token.TheVariants as token
use Rattle.vhdl_token.specs.declared.token.Sign.TheVariants as sign
use Rattle.vhdl_token.specs.declared.token.PlacedToken.{PlacedToken}
use Rattle.grammar_theory.specs.declared.form.Form.TheVariants as form
use Rattle.grammar_theory.specs.Tokens.{code_of}
use Rattle.grammar_theory.specs.Marks.{spells, State}
use Rattle.grammar_theory.specs.Grammar.{Grammar, nothing, one, ◌or◌, ◌>>=◌, list}
use Rattle.vhdl_front.specs.Cursor.{name_of}
use Rattle.vbe_text.specs.Vbe.{belonging, architecture_head, repeated}
use Rattle.spell_theory.specs.Spells.{Spells}
use Rattle.spell_theory.specs.Layout.{line_behind, placed, line_of}
use Rattle.spell_theory.proofs.Combinators.{spell_nothing, spell_lead, spell_then, spell_left, spell_right, spell_none, spell_more, spell_as, spell_to}
use Rattle.spell_theory.proofs.Layouts.{placed_append}
use Rattle.vhdl_print.specs.Outline.{Outline, entity_layout, placed_entity, with_ports, with_name}
use Rattle.vhdl_print.proofs.Steps.{Few, spells_step}
use Rattle.vhdl_print.proofs.Entities.{at, spell_word, spell_sign, spell_identifier, spell_entity}
use Rattle.vst_text.specs.declared.file.Declaration.{Declaration}
use Rattle.vst_text.specs.declared.file.Declaration.TheVariants as declares
use Rattle.vst_text.specs.declared.file.InstanceStatement.{InstanceStatement}
use Rattle.vst_text.specs.Vst.{declaration, instance_statement, instance_statements, architecture, structure}
use Rattle.vst_print.specs.Structure.{OneInstance, Structure, architecture_name, component_layout, components_layout, signal_layout, signals_layout, instance_layout, instances_layout, head_layout, begin_layout, last_layout, structure_layout}
use Rattle.vst_print.specs.Placed.{placed_component, placed_components, placed_signal, placed_signals, placed_instance, placed_instances, placed_structure}
use Rattle.vst_print.proofs.Parts.{spell_component, spell_signal, spell_instance, no_bits, with_component, with_signal, instance_key}
use Rattle.vst_print.proofs.Entries.{Entry, with_entry, with_entries, EntriesNew, port_entry, component_entry, signal_entry, instance_entry, entries, new_front, new_back, ports_new, with_port_entries, few_entries}

-- ---- declarations

spell_components : (room : ℕ) (cs : List Outline) (line : ℕ) (s : State) → Few s → (room == 0) ≡ false → (room - 1 == 0) ≡ false → EntriesNew (map component_entry cs) s
    → {ds : List Declaration} {ts : List PlacedToken} {s' : State} → Spells (list (declaration room)) ds ts (with_entries (map component_entry cs) s) s'
    → Spells (list (declaration room)) (placed_components line cs ++ ds) (placed line (components_layout cs) ++ ts) s s'
unfolding declaration
spell_components room [] line s few deep deeper new back = back
spell_components room (c ∷ cs) line s few deep deeper new {ds} {ts} {s'} back =
    let A = placed line (component_layout c) in
    let l = line_of line (component_layout c) in
    let B = placed l (components_layout cs) in
    let d : Declaration = declares.Component (placed_component line c) in
    let laid : A ++ (B ++ ts) ≡ placed line (component_layout c ++ components_layout cs) ++ ts =
    sym (append_assoc A B ts) ∙ ap (λ (z : List PlacedToken). z ++ ts) (sym (placed_append line (component_layout c) (components_layout cs))) in
    spell_as laid
    (spell_more
    (spell_left (spell_as (append-nil A) (spell_then (placed_component line c) d (spell_component room c line s few deep deeper new.0 new.1) (spell_nothing d (with_component c s)))))
    (spell_components room cs l (with_component c s) few deep deeper new.2 back))

spell_signals : (room : ℕ) (ss : List (List ℕ)) (line : ℕ) (s : State) → Few s → (room == 0) ≡ false → EntriesNew (map signal_entry ss) s
    → Spells (list (declaration room)) (placed_signals line ss) (placed line (signals_layout ss)) s (with_entries (map signal_entry ss) s)
unfolding declaration
spell_signals room [] line s few deep new = spell_none (declaration room) s
spell_signals room (x ∷ xs) line s few deep new =
    let d : Declaration = declares.Signals (placed_signal line x) in
    spell_more
    (spell_right (spell_then (placed_signal line x) d (spell_signal room x line s few deep new.0 new.1) (spell_nothing d (with_signal x s))))
    (spell_signals room xs (line_behind line) (with_signal x s) few deep new.2)

-- ---- instances

spell_instances : (room : ℕ) (is : List OneInstance) (line : ℕ) (s : State) → Few s → (room == 0) ≡ false → (room - 1 == 0) ≡ false → EntriesNew (map instance_entry is) s
    → Spells (list (instance_statement room)) (placed_instances line is) (placed line (instances_layout is)) s (with_entries (map instance_entry is) s)
spell_instances room [] line s few deep deeper new = spell_none (instance_statement room) s
spell_instances room (i ∷ is) line s few deep deeper new =
    let l = line_of line (instance_layout i) in
    spell_as (sym (placed_append line (instance_layout i) (instances_layout is)))
    (spell_more
    (spell_to (sym (no_bits (with_name (instance_key i) s))) (spell_instance room i line s few deep deeper new.0))
    (spell_instances room is l (with_entry (instance_entry i) s) few deep deeper new.2))

-- ---- the architecture

spell_head : (name : List ℕ) (line : ℕ) (s : State) → Few s
    → Spells (architecture_head name) architecture_name
    (at (token.Keyword word.Architecture) line ∷ at (token.Identifier architecture_name) line ∷ at (token.Keyword word.Of) line ∷ at (token.Identifier name) line ∷ at (token.Keyword word.Is) line ∷ []) s s
unfolding architecture_head belonging code_of
spell_head name line s few =
    spell_word word.Architecture line architecture_name few
    (spell_then architecture_name architecture_name (spell_identifier architecture_name line s few)
    (spell_then tt architecture_name
    (spell_word word.Of line tt few
    (spell_lead form.Identifier (λ u. spells name (name_of u)) (at (token.Identifier name) line) tt refl (spells_step name s few)
    (spell_word word.Is line tt few (spell_nothing tt s))))
    (spell_nothing architecture_name s)))

spell_last : (name : List ℕ) (line : ℕ) (s : State) → Few s → Spells (repeated name) tt (at (token.Identifier name) line ∷ at (token.Sign sign.Semicolon) line ∷ []) s s
unfolding repeated code_of
spell_last name line s few =
    spell_left
    (spell_lead form.Identifier (λ u. spells name (name_of u)) (at (token.Identifier name) line) tt refl (spells_step name s few)
    (spell_sign sign.Semicolon line tt few (spell_nothing tt s)))

spell_statements : (room : ℕ) (is : List OneInstance) (line behind end : ℕ) (s : State) → Few s → (room == 0) ≡ false → (room - 1 == 0) ≡ false → EntriesNew (map instance_entry is) s
    → Spells (instance_statements room) (placed_instances behind is) (at (token.Keyword word.Begin) line ∷ placed behind (instances_layout is) ++ at (token.Keyword word.End) end ∷ []) s (with_entries (map instance_entry is) s)
unfolding instance_statements
spell_statements room is line behind end s few deep deeper new =
    let y = placed_instances behind is in
    let s' = with_entries (map instance_entry is) s in
    spell_word word.Begin line y few
    (spell_then y y (spell_instances room is behind s few deep deeper new)
    (spell_word word.End end y (few_entries (map instance_entry is) s few) (spell_nothing y s')))

regroup : (C S I E R : List PlacedToken) (b : PlacedToken) → (C ++ S) ++ ((b ∷ I ++ E) ++ R) ≡ C ++ (S ++ (b ∷ I ++ (E ++ R)))
regroup C S I E R b = append_assoc C S ((b ∷ I ++ E) ++ R) ∙ ap (λ (z : List PlacedToken). C ++ (S ++ (b ∷ z))) (append_assoc I E R)

pub spell_structure : (room : ℕ) (st : Structure) (line : ℕ) (s : State) → Few s → (room == 0) ≡ false → (room - 1 == 0) ≡ false → EntriesNew (entries st) s
    → Spells (structure room) (placed_structure line st) (placed line (structure_layout st)) s (with_entries (map instance_entry st.instances) (with_entries (map signal_entry st.signals) (with_entries (map component_entry st.components) (with_entries (map port_entry (st.entity.first ∷ st.entity.others)) s))))
unfolding structure architecture
spell_structure room st line s few deep deeper new =
    let y = placed_structure line st in
    let ports = map port_entry (st.entity.first ∷ st.entity.others) in
    let components = map component_entry st.components in
    let signals = map signal_entry st.signals in
    let instances = map instance_entry st.instances in
    let s1 = with_entries ports s in
    let s2 = with_entries components s1 in
    let s3 = with_entries signals s2 in
    let s4 = with_entries instances s3 in
    let f1 = few_entries ports s few in
    let f2 = few_entries components s1 f1 in
    let f3 = few_entries signals s2 f2 in
    let f4 = few_entries instances s3 f3 in
    let n0 = new_front ports (components ++ (signals ++ instances)) s new in
    let m0 = new_back ports (components ++ (signals ++ instances)) s new in
    let n1 = new_front components (signals ++ instances) s1 m0 in
    let m1 = new_back components (signals ++ instances) s1 m0 in
    let n2 = new_front signals instances s2 m1 in
    let m2 = new_back signals instances s2 m1 in
    let e = placed_entity line st.entity in
    let l = line_behind (line_of line (entity_layout st.entity)) in
    let d = line_behind l in
    let g = line_of d (components_layout st.components) in
    let h = line_of g (signals_layout st.signals) in
    let b = line_behind h in
    let k = line_of b (instances_layout st.instances) in
    let C = placed d (components_layout st.components) in
    let S = placed g (signals_layout st.signals) in
    let I = placed b (instances_layout st.instances) in
    let end : List PlacedToken = at (token.Keyword word.End) k ∷ [] in
    let last : List PlacedToken = at (token.Identifier architecture_name) k ∷ at (token.Sign sign.Semicolon) k ∷ [] in
    let head : List PlacedToken = at (token.Keyword word.Architecture) l ∷ at (token.Identifier architecture_name) l ∷ at (token.Keyword word.Of) l ∷ at (token.Identifier st.entity.name) l ∷ at (token.Keyword word.Is) l ∷ [] in
    let rest : placed d (components_layout st.components ++ (signals_layout st.signals ++ (begin_layout ++ (instances_layout st.instances ++ last_layout)))) ≡ (C ++ S) ++ ((at (token.Keyword word.Begin) h ∷ I ++ end) ++ last) =
    placed_append d (components_layout st.components) (signals_layout st.signals ++ (begin_layout ++ (instances_layout st.instances ++ last_layout)))
    ∙ ap (λ (z : List PlacedToken). C ++ z) (placed_append g (signals_layout st.signals) (begin_layout ++ (instances_layout st.instances ++ last_layout)))
    ∙ ap (λ (z : List PlacedToken). C ++ (S ++ (at (token.Keyword word.Begin) h ∷ z))) (placed_append b (instances_layout st.instances) last_layout)
    ∙ sym (regroup C S I end last (at (token.Keyword word.Begin) h)) in
    let all = placed line (entity_layout st.entity) in
    let laid : placed line (structure_layout st) ≡ all ++ (head ++ ((C ++ S) ++ ((at (token.Keyword word.Begin) h ∷ I ++ end) ++ last))) =
    placed_append line (entity_layout st.entity) (head_layout st.entity.name ++ (components_layout st.components ++ (signals_layout st.signals ++ (begin_layout ++ (instances_layout st.instances ++ last_layout)))))
    ∙ ap (λ (z : List PlacedToken). all ++ (head ++ z)) rest in
    spell_as (sym laid)
    (spell_then e y (spell_to (with_port_entries (st.entity.first ∷ st.entity.others) s) (spell_entity room st.entity line s few deep deeper (ports_new (st.entity.first ∷ st.entity.others) s n0)))
    (spell_then architecture_name y (spell_head st.entity.name l s1 f1)
    (spell_then (placed_components d st.components ++ placed_signals g st.signals) y
    (spell_components room st.components d s1 f1 deep deeper n1 (spell_signals room st.signals g s2 f2 deep n2))
    (spell_then (placed_instances b st.instances) y (spell_statements room st.instances h b k s3 f3 deep deeper m2)
    (spell_then tt y (spell_last architecture_name k s4 f4) (spell_nothing y s4))))))
